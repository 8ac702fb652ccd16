-- The entry's promise settles its number and every lent byte: two numbers, and two lots of exit bytes, that fit it are equal. `Post` is the promise
-- as the check reads it off the function's contract. Assumes nothing.
use mathlib.Core.Path.{◌≡◌, sym, ◌∙◌}
use contract.Lifetimes.{Lfts}
use denote.Triple.Clauses.{AtExit}
use borrow.Fn.Kinds.{Dens, res_t, ended_of}
use Rattle.thatchnip.proofs.thatchnip_check.Kinds as thatchnip-check
use Rattle.thatchnip.proofs.thatchnip_check.Reads as thatchnip-check-promise

pub thatchnip-check-unique :
    (κs : Lfts 4) (a : Dens κs thatchnip-check.ps) (x y : (res_t thatchnip-check.r κs).Denot) (s t : AtExit (ended_of 4 thatchnip-check.ps thatchnip-check.r) κs) →
    thatchnip-check-promise.Post κs a x s → thatchnip-check-promise.Post κs a y t →
    (x ≡ y) × (s.1.0.now ≡ t.1.0.now) × (s.1.1.0.now ≡ t.1.1.0.now) × (s.1.1.1.0.now ≡ t.1.1.1.0.now)
thatchnip-check-unique κs a x y s t p q =
    (p.number ∙ sym q.number, p.outcomes-zero ∙ sym q.outcomes-zero, p.walked-zero ∙ sym q.walked-zero, p.report-bytes ∙ sym q.report-bytes)
