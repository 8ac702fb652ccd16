-- Each public function's promise settles its result and every lent byte: two results, and two lots of exit bytes, that fit it are equal. `Post` is the
-- promise as the check reads it off the function's contract. Assumes nothing.
use Rattle.std.specs.Prelude.{Option, Some, None, Result}
use Prim.Native.Nat.{ℕ, ◌/◌}
use lib.Dec.{eqb, ltb}
use lib.ListN.{length, get_or}
use mathlib.Core.Path.{◌≡◌, sym, ap, ◌∙◌}
use mathlib.Core.Bool.{Bool, true, false, ◌&&◌, not}
use mathlib.Core.List.{List, ◌∷◌}
use contract.Lifetimes.{Lfts}
use denote.Triple.Clauses.{AtExit}
use borrow.Fn.Kinds.{Dens, res_t, ended_of}
use Rattle.stack.specs.declared.AbsStack.{AbsStack}
use Rattle.stack.specs.State.{unknown}
use Rattle.stack.specs.Number.{number_of}
use Rattle.stack.specs.Promise.{state_of}
use Rattle.image.specs.Grammar.{grammar}
use Rattle.image.specs.declared.refusal.Refusal.{Refusal}
use Rattle.asking.specs.Reading.{held_back}
use Rattle.asking.specs.Runs.{any_same_top}
use Rattle.tables.proofs.Unique.{set-word-unique}
use Rattle.outcomes.proofs.Unique.{is-maybe-unique}
use Rattle.starts.specs.declared.Starts.{Starts}
use Rattle.starts.specs.Promise.{starts_of}
use Rattle.starts.proofs.Unique.{none-unique, add-unique}
use Rattle.turns.specs.declared.Ran.{Ran}
use Rattle.turns.specs.Promise.{Ended, HuntedIf, HuntedOn, ReportedIf, Reported}
use Rattle.turns.proofs.key.Kinds as key
use Rattle.turns.proofs.key.Reads as key-promise
use Rattle.turns.proofs.restored.Kinds as restored
use Rattle.turns.proofs.restored.Reads as restored-promise
use Rattle.turns.proofs.next.Kinds as next
use Rattle.turns.proofs.next.Reads as next-promise
use Rattle.turns.proofs.ends.Kinds as ends
use Rattle.turns.proofs.ends.Reads as ends-promise
use Rattle.turns.proofs.ended.Kinds as ended
use Rattle.turns.proofs.ended.Reads as ended-promise
use Rattle.turns.proofs.hunt_on.Kinds as hunt-on
use Rattle.turns.proofs.hunt_on.Reads as hunt-on-promise
use Rattle.turns.proofs.report.Kinds as report
use Rattle.turns.proofs.report.Reads as report-promise

-- one run's end is read off a period
ended-one : {run : Starts} {i left : ℕ} {e f : Bool} (r q : Ran) → Ended run i left e f r → Ended run i left e f q → r ≡ q
ended-one r q p h =
    let a = p.end unknown in
    let b = h.end unknown in
    let end = is-maybe-unique r.end q.end a.end b.end in
    λ i. record { end = end i; empty = (a.empty ∙ sym b.empty) i; fails = (a.fails ∙ sym b.fails) i }

hunted-one : {seen : Starts} {cur out : AbsStack} (r t : Option Starts) → HuntedOn seen cur out r → HuntedOn seen cur out t → r ≡ t
hunted-one {seen} {cur} {out} r t p h = by out.intact (any_same_top (state_of out) (state_of cur ∷ starts_of seen)) r t p.says h.says
  where
    by : (intact again : Bool) (r t : Option Starts) → HuntedIf seen cur r intact again → HuntedIf seen cur t intact again → r ≡ t
    by false again None t a b = absurd a
    by false again (Some r) None a b = absurd b
    by false again (Some r) (Some t) a b = ap Some (none-unique r t a b)
    by true true r t a b = a ∙ sym b
    by true false None t a b = absurd a
    by true false (Some r) None a b = absurd b
    by true false (Some r) (Some t) a b = ap Some (add-unique seen (number_of (state_of cur)) r t a b)

reported-one : {image table marks : List ℕ} {count n part : ℕ} {s : AbsStack} {table' table'' marks' marks'' : List ℕ} (r t : Result ℕ Refusal)
    → Reported image table marks count n part s r table' marks' → Reported image table marks count n part s t table'' marks''
    → (r ≡ t) × (table' ≡ table'') × (marks' ≡ marks'')
reported-one {image} {table} {marks} {count} {n} {part} {s} {table'} {table''} {marks'} {marks''} r t p h =
    by (not (held_back (grammar image) part) && not (eqb (get_or marks n 0) 1)) (ltb count (length table / 8)) p.says h.says
  where
    by : (due room : Bool) → ReportedIf count n (state_of s) table marks r table' marks' due room → ReportedIf count n (state_of s) table marks t table'' marks'' due room
        → (r ≡ t) × (table' ≡ table'') × (marks' ≡ marks'')
    by false room a b = (a.0 ∙ sym b.0, a.1.words ∙ sym b.1.words, a.1.marked ∙ sym b.1.marked)
    by true false a b = (a.0 ∙ sym b.0, a.1.words ∙ sym b.1.words, a.1.marked ∙ sym b.1.marked)
    by true true a b = (a.0 ∙ sym b.0, set-word-unique table count _ table' table'' a.1.words b.1.words, a.1.marked ∙ sym b.1.marked)

pub restored-unique :
    (κs : Lfts 0) (a : Dens κs restored.ps) (x y : (res_t restored.r κs).Denot) (s t : AtExit (ended_of 0 restored.ps restored.r) κs) →
    restored-promise.Post κs a x s → restored-promise.Post κs a y t → x ≡ y
restored-unique κs a x y s t p q = is-maybe-unique x y p q

pub next-unique :
    (κs : Lfts 0) (a : Dens κs next.ps) (x y : (res_t next.r κs).Denot) (s t : AtExit (ended_of 0 next.ps next.r) κs) →
    next-promise.Post κs a x s → next-promise.Post κs a y t → x ≡ y
next-unique κs a x y s t p q = is-maybe-unique x y p q

pub ends-unique :
    (κs : Lfts 0) (a : Dens κs ends.ps) (x y : (res_t ends.r κs).Denot) (s t : AtExit (ended_of 0 ends.ps ends.r) κs) →
    ends-promise.Post κs a x s → ends-promise.Post κs a y t → x ≡ y
ends-unique κs a x y s t p q = is-maybe-unique x y p q

pub ended-unique :
    (κs : Lfts 0) (a : Dens κs ended.ps) (x y : (res_t ended.r κs).Denot) (s t : AtExit (ended_of 0 ended.ps ended.r) κs) →
    ended-promise.Post κs a x s → ended-promise.Post κs a y t → x ≡ y
ended-unique κs a x y s t p q = ended-one x y p q

pub hunt-on-unique :
    (κs : Lfts 0) (a : Dens κs hunt-on.ps) (x y : (res_t hunt-on.r κs).Denot) (s t : AtExit (ended_of 0 hunt-on.ps hunt-on.r) κs) →
    hunt-on-promise.Post κs a x s → hunt-on-promise.Post κs a y t → x ≡ y
hunt-on-unique κs a x y s t p q = hunted-one x y p q

pub report-unique :
    (κs : Lfts 3) (a : Dens κs report.ps) (x y : (res_t report.r κs).Denot) (s t : AtExit (ended_of 3 report.ps report.r) κs) →
    report-promise.Post κs a x s → report-promise.Post κs a y t → (x ≡ y) × (s.1.0.now ≡ t.1.0.now) × (s.1.1.0.now ≡ t.1.1.0.now)
report-unique κs a x y s t p q = reported-one x y p q

pub key-unique :
    (κs : Lfts 0) (a : Dens κs key.ps) (x y : (res_t key.r κs).Denot) (s t : AtExit (ended_of 0 key.ps key.r) κs) →
    key-promise.Post κs a x s → key-promise.Post κs a y t → x ≡ y
key-unique κs a x y s t p q = p ∙ sym q
