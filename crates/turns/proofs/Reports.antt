-- A report is the definition's, in every world that the tables stand for. Assumes nothing.
use Rattle.std.specs.Prelude.{Result, Ok, Err}
use mathlib.Core.Path.{◌≡◌, refl, ap, ◌∙◌}
use mathlib.Core.Bool.{Bool, true, false, ◌&&◌, not}
use mathlib.Core.List.{List, ◌++◌}
use Prim.Native.Nat.{ℕ, ◌-◌, ◌/◌, ◌<◌}
use native.Mathlib.Omega.{arith}
use lib.Dec.{eqb, ltb, lit<}
use lib.ListN.{length, get_or, length-append}
use borrow.Author.Tests.{lt-ltb, ltb-true}
use Rattle.stack.specs.declared.AbsStack.{AbsStack}
use Rattle.stack.specs.State.{max_len}
use Rattle.stack.specs.Promise.{state_of, WellFormed}
use Rattle.stack.proofs.Numbers.{bit-eqb}
use Rattle.image.specs.Grammar.{grammar}
use Rattle.image.specs.declared.refusal.Refusal.{Refusal}
use Rattle.image.specs.RefusalNumber.{number_of}
use Rattle.asking.specs.World.{World, has_node}
use Rattle.asking.specs.Reading.{held_back}
use Rattle.asking.specs.Runs.{loops}
use Rattle.asking.specs.StackPass.{loop_reports, setup_of}
use Rattle.asking.specs.Ask.{report_due, report}
use Rattle.tables.proofs.Laid.{laid-length}
use Rattle.tables.proofs.Memo.{keeps_self}
use Rattle.outcomes.proofs.Within.{state-within}
use Rattle.starts.proofs.States.{test_iff}
use Rattle.standing.specs.Stands.{Lent, Stands}
use Rattle.standing.specs.Answers.{setup_for, Given, Answering, tables}
use Rattle.standing.proofs.Given.{refuses, gives}
use Rattle.standing.proofs.Moves.{loop-reports-length, reports-stands}
use Rattle.turns.specs.Promise.{ReportedIf, Reported}

module _ {L : Lent} {memo walked table marks : List ℕ} {count : ℕ} {W : World} (h : Stands L (tables memo walked table marks) count W) where
  -- the report table has the lent size
  table-long : length table ≡ L.reports
  table-long =
      let lens = length-append L.before (loop_reports W.reports) in
      ap length h.words ∙ laid-length L.reports (L.before ++ loop_reports W.reports) (omega (arith, lens, loop-reports-length W.reports, h.counted, h.fitted))

  -- a place is free in the table exactly if one is left for the definition
  same-room : ltb count (length table / 8) ≡ ltb (length W.reports) (L.reports / 8 - length L.before)
  same-room =
      let places = length table / 8 in
      let left = L.reports / 8 - length L.before in
      let e = table-long in
      let k = h.counted in
      test_iff (ltb count places) (ltb (length W.reports) left)
      (λ p. lt-ltb (length W.reports) left (let l = ltb-true count places p in omega arith))
      (λ p. lt-ltb count places (let l = ltb-true (length W.reports) left p in omega arith))

  room-left : ltb count (length table / 8) ≡ true → count < L.reports / 8
  room-left e = let l = ltb-true count (length table / 8) e in rw table-long at l

  -- a report is due by the mark exactly if it is by the reports so far
  same-due : (held : Bool) (n : ℕ) → n < 2048 → not held && not (eqb (get_or marks n 0) 1) ≡ not held && not (has_node n W.reports)
  same-due held n l = ap (λ (b : Bool). not held && not b) (ap (λ (k : ℕ). eqb k 1) (h.marked n l) ∙ bit-eqb (has_node n W.reports))

-- the reports so far, after it: as many as before where it is refused
abbrev pub count-after : Result ℕ Refusal → ℕ → ℕ
count-after (Ok n) count = n
count-after (Err k) count = count

pub report-answers : {image table marks : List ℕ} {count n part : ℕ} {s : AbsStack} {r : Result ℕ Refusal} {table' marks' : List ℕ}
    → Reported image table marks count n part s r table' marks' → n < 2048 → WellFormed max_len s → (memo walked : List ℕ)
    → Answering image (tables memo walked table marks) count (λ S W. report S n part (state_of s) W loops) (λ u. Unit {0}) (number_of r) (count-after r count)
    (tables memo walked table' marks')
unfolding setup_of
report-answers {image} {table} {marks} {count} {n} {part} {s} {r} {table'} {marks'} p l w memo walked = record { each = each }
  where
    each : (L : Lent) (W : World) → Stands L (tables memo walked table marks) count W
        → Given L (tables memo walked table marks) (λ (u : Unit {0}). Unit {0}) (number_of r) (count-after r count) (tables memo walked table' marks')
        (report (setup_for image L) n part (state_of s) W loops)
    each L W h =
        rw (← same-due h (held_back (grammar image) part) n l)
        (go (not (held_back (grammar image) part) && not (eqb (get_or marks n 0) 1)) (ltb count (length table / 8)) refl p.says)
      where
        go : (due room : Bool) → ltb count (length table / 8) ≡ room → ReportedIf count n (state_of s) table marks r table' marks' due room
            → Given L (tables memo walked table marks) (λ (u : Unit {0}). Unit {0}) (number_of r) (count-after r count) (tables memo walked table' marks')
            (report_due (setup_for image L) n (state_of s) W due)
        go false room e q = rw (q.0, q.1.words, q.1.marked) (gives refl tt h (keeps_self 4 8 memo))
        go true false e q = rw (q.0, q.1.words, q.1.marked, ← same-room h, e) (refuses 10 (lit< tt))
        go true true e q =
            rw (q.0, q.1.marked, ← same-room h, e)
            (gives refl tt (reports-stands h n (state_of s) l (state-within s w) (room-left h e) table' q.1.words) (keeps_self 4 8 memo))
