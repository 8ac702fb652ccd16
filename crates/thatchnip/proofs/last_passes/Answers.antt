-- `thatchnip::last_passes` meets its contract. Assumes nothing.
use Rattle.std.specs.Prelude.{Err}
use Rattle.std.proofs.lemmas.Result.{err_from_is_err_and}
use Rattle.passes.proofs.Searching.{leaves-counted}
use Rattle.thatchnip.proofs.Entry.{choices-refused, left-refused, last-room, last-answers}
use Rattle.thatchnip.proofs.last_passes.Goals as goal

pub returns-in_err-count : goal.returns-in_err-count
returns-in_err-count c =
    let p = err_from_is_err_and c.from_residual.result c.from_residual.ensures.1 in
    rw (p.1, p.2) (choices-refused c.args.image.bytes.now _ _ c.requires.1 c.requires.2 c.in_err-count.ensures)

pub returns-in_err-run : goal.returns-in_err-run
returns-in_err-run c =
    let p = err_from_is_err_and c.from_residual-in_err-run.result c.from_residual-in_err-run.ensures.1 in
    rw (p.1, p.2) (left-refused c.args.image.bytes.now _ _ c.requires.1 c.requires.2 _ _ c.validate_choices.auto.table c.in_ok-count.ensures (leaves-counted (Err _) _ _ _ c.in_err-run.ensures.is))

pub sort-requires : goal.sort-requires
sort-requires c =
    last-room c.args.image.bytes.now _ _ c.requires.1 c.requires.2 _ _ c.validate_choices.auto.table c.in_ok-count.ensures _ _ c.in_ok-run.ensures

pub returns : goal.returns
returns c =
    last-answers c.args.image.bytes.now _ _ c.requires.1 c.requires.2 _ _ c.validate_choices.auto.table c.in_ok-count.ensures _ _ c.in_ok-run.ensures c.sort.ensures
