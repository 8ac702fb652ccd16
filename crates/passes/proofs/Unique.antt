-- Each public function's promise settles its result and every lent byte: two results, and two lots of exit bytes, that fit it are equal. `Post` is the
-- promise as the check reads it off the function's contract. Assumes nothing.
use Rattle.std.specs.Prelude.{Option, Some, None, Result, Ok, Err}
use Prim.Native.Nat.{ℕ, ◌<◌}
use native.Mathlib.Omega.{arith}
use mathlib.Core.Path.{◌≡◌, refl, sym, ap, ◌∙◌}
use mathlib.Core.Logic.{◌⊎◌, inl, inr}
use mathlib.Core.List.{List}
use contract.Lifetimes.{Lfts}
use denote.Triple.Clauses.{AtExit}
use borrow.Fn.Kinds.{Dens, res_t, ended_of}
use Rattle.image.specs.declared.refusal.Refusal.{Refusal}
use Rattle.image.specs.declared.refusal.Refusal.TheVariants.{TooDeep, LongSearch}
use Rattle.image.specs.RefusalNumber.{refusal_number, number_of}
use Rattle.image.proofs.RefusalLaws.{refusal_number-positive, refusal_number-injective}
use Rattle.passes.specs.LeftRecursion.{Sought}
use Rattle.passes.specs.Promise.{Held, held, trail_of, Ran, ran, Leaves, sought, Sound}
use Rattle.passes.specs.declared.left.Find.{Find}
use Rattle.passes.specs.declared.left.Search.{Search}
use Rattle.passes.proofs.placing.report_of.Kinds as report-of
use Rattle.passes.proofs.placing.report_of.Reads as report-of-promise
use Rattle.passes.proofs.placing.put.Kinds as put
use Rattle.passes.proofs.placing.put.Reads as put-promise
use Rattle.passes.proofs.topdown.validate_repetition.Kinds as validate-repetition
use Rattle.passes.proofs.topdown.validate_repetition.Reads as validate-repetition-promise
use Rattle.passes.proofs.topdown.validate_choices.Kinds as validate-choices
use Rattle.passes.proofs.topdown.validate_choices.Reads as validate-choices-promise
use Rattle.passes.proofs.order.sort.Kinds as sort
use Rattle.passes.proofs.order.sort.Reads as sort-promise
use Rattle.passes.proofs.left.search_from.Kinds as search-from
use Rattle.passes.proofs.left.search_from.Reads as search-from-promise
use Rattle.passes.proofs.left.run.Kinds as left-run
use Rattle.passes.proofs.left.run.Reads as left-run-promise

-- a table and its count, told by one equation
held_one : (t t' : List ℕ) (c c' : ℕ) → held t c ≡ held t' c' → (c ≡ c') × (t ≡ t')
unfolding held
held_one t t' c c' e = (ap (λ (h : Held). h.count) e, ap (λ (h : Held). h.bytes) e)

-- an answer and the bytes with it
leaves-one : (a : Ran) (r r' : Result ℕ Refusal) (t t' : List ℕ) → Leaves r t a → Leaves r' t' a → (r ≡ r') × (t ≡ t')
leaves-one a (Ok c) (Ok c') t t' p q = let h = held_one t t' c c' (ap (λ (b : Ran). b.held) (p ∙ sym q)) in (ap Ok h.0, h.1)
leaves-one a (Ok c) (Err k) t t' p q = absurd (omega (arith, ap (λ (b : Ran). b.refusal) p, q.0, refusal_number-positive k))
leaves-one a (Err k) (Ok c) t t' p q = absurd (omega (arith, ap (λ (b : Ran). b.refusal) q, p.0, refusal_number-positive k))
leaves-one a (Err k) (Err j) t t' p q = (ap Err (refusal_number-injective k j (p.0 ∙ sym q.0)), p.1 ∙ sym q.1)

-- what a search answers
late : (k : Refusal) → (k ≡ TooDeep) ⊎ (k ≡ LongSearch) → 1 < refusal_number k
late k (inl e) = rw e (omega arith)
late k (inr e) = rw e (omega arith)

abbrev end-of : Sought → ℕ
end-of a = a.end

abbrev made : Result (Option Find) Refusal → ℕ → Search
made end entered = record { end = end; entered = entered }

search-one : (e e' : Result (Option Find) Refusal) (d d' : ℕ) → Sound e → Sound e' → sought e d ≡ sought e' d' → made e d ≡ made e' d'
search-one (Ok (Some f)) (Ok (Some f')) d d' s s' q =
    let i : f.ident ≡ f'.ident = ap (λ (a : Sought). a.ident) q in
    let t : f.trail ≡ f'.trail = s.1 ∙ ap trail_of (ap (λ (a : Sought). a.trail) q) ∙ sym s'.1 in
    let n : d ≡ d' = ap (λ (a : Sought). a.entered) q in
    λ j. record { end = Ok (Some (record { ident = i j; trail = t j })); entered = n j }
search-one (Ok (Some f)) (Ok None) d d' s s' q = absurd (omega (arith, ap end-of q))
search-one (Ok (Some f)) (Err k) d d' s s' q = absurd (omega (arith, ap end-of q, late k s'))
search-one (Ok None) (Ok (Some f)) d d' s s' q = absurd (omega (arith, ap end-of q))
search-one (Ok None) (Ok None) d d' s s' q = let n : d ≡ d' = ap (λ (a : Sought). a.entered) q in λ j. record { end = Ok None; entered = n j }
search-one (Ok None) (Err k) d d' s s' q = absurd (omega (arith, ap end-of q, late k s'))
search-one (Err k) (Ok (Some f)) d d' s s' q = absurd (omega (arith, ap end-of q, late k s))
search-one (Err k) (Ok None) d d' s s' q = absurd (omega (arith, ap end-of q, late k s))
search-one (Err k) (Err m) d d' s s' q =
    let r : k ≡ m = refusal_number-injective k m (ap end-of q) in
    let n : d ≡ d' = ap (λ (a : Sought). a.entered) q in
    λ j. record { end = Err (r j); entered = n j }

pub report-of-unique :
    (κs : Lfts 0) (a : Dens κs report-of.ps) (x y : (res_t report-of.r κs).Denot) (s t : AtExit (ended_of 0 report-of.ps report-of.r) κs) →
    report-of-promise.Post κs a x s → report-of-promise.Post κs a y t → x ≡ y
report-of-unique κs a x y s t p q = p ∙ sym q

pub put-unique :
    (κs : Lfts 1) (a : Dens κs put.ps) (x y : (res_t put.r κs).Denot) (s t : AtExit (ended_of 1 put.ps put.r) κs) →
    put-promise.Post κs a x s → put-promise.Post κs a y t → (x ≡ y) × (s.0.now ≡ t.0.now)
put-unique κs a x y s t p q = leaves-one _ x y _ _ p q

pub validate-repetition-unique :
    (κs : Lfts 2) (a : Dens κs validate-repetition.ps) (x y : (res_t validate-repetition.r κs).Denot) (s t : AtExit (ended_of 2 validate-repetition.ps validate-repetition.r) κs) →
    validate-repetition-promise.Post κs a x s → validate-repetition-promise.Post κs a y t → (x ≡ y) × (s.1.0.now ≡ t.1.0.now)
validate-repetition-unique κs a x y s t p q = leaves-one _ x y _ _ p.is q.is

pub validate-choices-unique :
    (κs : Lfts 2) (a : Dens κs validate-choices.ps) (x y : (res_t validate-choices.r κs).Denot) (s t : AtExit (ended_of 2 validate-choices.ps validate-choices.r) κs) →
    validate-choices-promise.Post κs a x s → validate-choices-promise.Post κs a y t → (x ≡ y) × (s.1.0.now ≡ t.1.0.now)
validate-choices-unique κs a x y s t p q = leaves-one _ x y _ _ p.is q.is

pub sort-unique :
    (κs : Lfts 2) (a : Dens κs sort.ps) (x y : (res_t sort.r κs).Denot) (s t : AtExit (ended_of 2 sort.ps sort.r) κs) →
    sort-promise.Post κs a x s → sort-promise.Post κs a y t → s.1.0.now ≡ t.1.0.now
sort-unique κs a x y s t p q = p.is ∙ sym q.is

pub search-from-unique :
    (κs : Lfts 2) (a : Dens κs search-from.ps) (x y : (res_t search-from.r κs).Denot) (s t : AtExit (ended_of 2 search-from.ps search-from.r) κs) →
    search-from-promise.Post κs a x s → search-from-promise.Post κs a y t → x ≡ y
search-from-unique κs a x y s t p q = search-one x.end y.end x.entered y.entered p.sound q.sound (p.is ∙ sym q.is)

-- an answer without a value is told by its number
one-answer : (x y : Result (Unit {0}) Refusal) → number_of x ≡ number_of y → x ≡ y
one-answer (Ok u) (Ok v) e = refl
one-answer (Ok u) (Err k) e = absurd (omega (arith, e, refusal_number-positive k))
one-answer (Err k) (Ok v) e = absurd (omega (arith, e, refusal_number-positive k))
one-answer (Err k) (Err j) e = ap Err (refusal_number-injective k j e)

left-one :
    (a : Ran) (x y : Result (Unit {0}) Refusal) (t u : List ℕ) (c d : ℕ) → ran (number_of x) (held t c) ≡ a → ran (number_of y) (held u d) ≡ a → (x ≡ y) × (t ≡ u) × (c ≡ d)
left-one a x y t u c d p q =
    let e : ran (number_of x) (held t c) ≡ ran (number_of y) (held u d) = p ∙ sym q in
    let h = held_one t u c d (ap (λ (b : Ran). b.held) e) in
    (one-answer x y (ap (λ (b : Ran). b.refusal) e), h.1, h.0)

pub left-run-unique :
    (κs : Lfts 4) (a : Dens κs left-run.ps) (x y : (res_t left-run.r κs).Denot) (s t : AtExit (ended_of 4 left-run.ps left-run.r) κs) →
    left-run-promise.Post κs a x s → left-run-promise.Post κs a y t → (x ≡ y) × (s.1.1.0.now ≡ t.1.1.0.now) × (s.1.1.1.0.now ≡ t.1.1.1.0.now)
left-run-unique κs a x y s t p q = left-one _ x y _ _ _ _ p.is q.is
