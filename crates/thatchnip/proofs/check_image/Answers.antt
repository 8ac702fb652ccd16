-- `thatchnip::check_image` meets its contract. Assumes nothing.
use Rattle.std.proofs.lemmas.Result.{err_from_is_err_and}
use Rattle.image.specs.Grammar.{grammar}
use Rattle.image.proofs.GrammarLaws.{accepted}
use Rattle.thatchnip.proofs.Entry.{rules-named, image-refuses, half-holds, image-answers}
use Rattle.thatchnip.proofs.check_image.Goals as goal

pub returns-in_err-count : goal.returns-in_err-count
returns-in_err-count c =
    let p = err_from_is_err_and c.from_residual.result c.from_residual.ensures.1 in
    rw (p.1, p.2) (image-refuses _ _ _ _ c.in_err-count.ensures)

pub last_passes-requires : goal.last_passes-requires
last_passes-requires c =
    let h = half-holds _ _ _ _ _ _ _ _ c.first_passes.auto.reports c.in_ok-count.ensures in
    (rules-named (grammar c.args.image.bytes.now) _ _ (accepted _ c.args.image.accepted).formed c.resolve.ensures c.only_rules.ensures, h.0, h.1)

pub returns : goal.returns
returns c = image-answers _ _ _ _ _ _ _ _ c.first_passes.auto.reports c.in_ok-count.ensures c.last_passes.ensures
