-- The public function's promise settles its result and every lent byte: two results, and two lots of exit bytes, that fit it are equal. `Post` is the
-- promise as the check reads it off the function's contract. Assumes nothing.
use Rattle.std.specs.Prelude.{Result, Ok, Err}
use Prim.Native.Nat.{ℕ, ◌-◌}
use mathlib.Core.Path.{◌≡◌, sym, ap, ◌∙◌}
use mathlib.Core.List.{List}
use lib.ListN.{length, take}
use contract.Lifetimes.{Lfts}
use denote.Triple.Clauses.{AtExit}
use borrow.Fn.Kinds.{Dens, res_t, ended_of}
use Rattle.image.specs.Grammar.{grammar}
use Rattle.image.specs.declared.refusal.Refusal.{Refusal}
use Rattle.image.proofs.RefusalLaws.{refusal_number-injective}
use Rattle.asking.specs.World.{Answer, refused, given}
use Rattle.asking.specs.StackPass.{stack_pass}
use Rattle.tables.specs.Places.{places}
use Rattle.tables.specs.Words.{words}
use Rattle.analysis.specs.Promise.{PassedIf, StackPassed}
use Rattle.analysis.proofs.stack_pass.Kinds as stack-pass
use Rattle.analysis.proofs.stack_pass.Reads as stack-pass-promise

-- the result and the report table, by the definition's answer
passed-one : (size : ℕ) (found : List ℕ) (r r' : Result ℕ Refusal) (t t' : List ℕ) (d : Answer (Unit {0})) → PassedIf size found r t d → PassedIf size found r' t' d → (r ≡ r') × (t ≡ t')
passed-one size found (Err j) (Err k) t t' (refused n) p q = (ap Err (refusal_number-injective j k (p.0 ∙ sym q.0)), p.1 ∙ sym q.1)
passed-one size found (Err j) (Ok b) t t' (refused n) p q = absurd q
passed-one size found (Ok a) r' t t' (refused n) p q = absurd p
passed-one size found (Err j) r' t t' (given u W) p q = absurd p
passed-one size found (Ok a) (Err k) t t' (given u W) p q = absurd q
passed-one size found (Ok a) (Ok b) t t' (given u W) p q = (ap Ok (p.0 ∙ sym q.0), p.1 ∙ sym q.1)

stack-passed-one : {image memo walked table : List ℕ} {count : ℕ} {r r' : Result ℕ Refusal} {m m' w w' t t' : List ℕ}
    → StackPassed image memo walked table count r m w t → StackPassed image memo walked table count r' m' w' t' → (r ≡ r') × (m ≡ m') × (w ≡ w') × (t ≡ t')
stack-passed-one {image} {memo} {walked} {table} {count} {r} {r'} {m} {m'} {w} {w'} {t} {t'} p q =
    let e =
    passed-one (length table) (take count (words table)) r r' t t' (stack_pass (grammar image) (places 8 memo) (places 4 walked) (places 8 table - count)) p.reports q.reports in
    (e.0, p.outcomes-zero ∙ sym q.outcomes-zero, p.walked-zero ∙ sym q.walked-zero, e.1)

pub stack-pass-unique :
    (κs : Lfts 4) (a : Dens κs stack-pass.ps) (x y : (res_t stack-pass.r κs).Denot) (s t : AtExit (ended_of 4 stack-pass.ps stack-pass.r) κs) →
    stack-pass-promise.Post κs a x s → stack-pass-promise.Post κs a y t →
    (x ≡ y) × (s.1.0.now ≡ t.1.0.now) × (s.1.1.0.now ≡ t.1.1.0.now) × (s.1.1.1.0.now ≡ t.1.1.1.0.now)
stack-pass-unique κs a x y s t p q = stack-passed-one p q
