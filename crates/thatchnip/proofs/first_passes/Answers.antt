-- `thatchnip::first_passes` meets its contract. Assumes nothing.
use Rattle.thatchnip.proofs.Entry.{first-refused, first_holds, first-answers}
use Rattle.thatchnip.proofs.first_passes.Goals as goal

pub stack_pass-requires : goal.stack_pass-requires
stack_pass-requires c =
    let h = first_holds c.args.names.image.bytes.now c.args.outcomes.now c.args.walked.now _ c.requires _ _ c.validate_repetition.auto.table c.in-Ok.ensures in
    (h.0, h.1)

pub returns-in-Ok : goal.returns-in-Ok
returns-in-Ok c = first-answers c.args.names.image.bytes.now c.args.outcomes.now c.args.walked.now _ c.requires _ _ c.validate_repetition.auto.table c.in-Ok.ensures c.stack_pass.ensures

pub returns-in-Err : goal.returns-in-Err
returns-in-Err c = first-refused c.args.names.image.bytes.now c.args.outcomes.now c.args.walked.now _ c.requires c.in-Err.ensures c.clear.ensures c.clear-in-Err.ensures
