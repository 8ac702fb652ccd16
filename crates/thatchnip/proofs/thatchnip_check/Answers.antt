-- `thatchnip::thatchnip_check` meets its contract. Assumes nothing.
use mathlib.Core.Path.{ap, ◌∙◌}
use Rattle.tables.specs.Bytes.{zeros}
use Rattle.thatchnip.proofs.Entry.{holds-none, entry-refuses, entry-refuses-later, entry-answers}
use Rattle.thatchnip.proofs.thatchnip_check.Goals as goal

pub check_image-requires : goal.check_image-requires
check_image-requires c = holds-none c.args.reports.now c.clear.ensures

pub returns-in-Ok-check_image : goal.returns-in-Ok-check_image
returns-in-Ok-check_image c =
    rw (← c.in-Ok.ensures.same) (entry-answers c.in-Ok.image.bytes.now c.args.outcomes.now c.args.walked.now c.args.reports.now c.in-Ok.image.accepted _ _ _ _ c.clear.auto.t c.in-Ok-check_image.ensures (c.check_image.auto.reports ∙ c.clear.auto.t))

pub returns-in-Err-check_image : goal.returns-in-Err-check_image
returns-in-Err-check_image c =
    rw (← c.in-Ok.ensures.same) (entry-refuses-later c.in-Ok.image.bytes.now c.args.outcomes.now c.args.walked.now c.args.reports.now c.in-Ok.image.accepted _ _ _ _ c.clear.auto.t c.in-Err-check_image.ensures c.refused.ensures (c.clear-in-Err-check_image.ensures ∙ ap zeros (c.check_image.auto.reports ∙ c.clear.auto.t)))

pub returns-in-Err : goal.returns-in-Err
returns-in-Err c =
    entry-refuses c.args.image.now c.args.outcomes.now c.args.walked.now c.args.reports.now c.in-Err.k c.in-Err.ensures.number c.refused-in-Err.ensures c.clear-in-Err.ensures c.clear-in-Err-2.ensures c.clear.ensures
