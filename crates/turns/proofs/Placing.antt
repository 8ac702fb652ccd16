-- A report held back, already made, refused for want of a place, or placed. Assumes nothing.
use Rattle.std.specs.Prelude.{Result, Ok, Err}
use mathlib.Core.Path.{◌≡◌, refl, sym, ap, ◌∙◌}
use mathlib.Core.Bool.{Bool, true, false, ◌&&◌, not}
use mathlib.Core.List.{List}
use Prim.Native.Nat.{ℕ, ◌+◌, ◌*◌, ◌/◌, ◌<◌, ◌≤◌}
use native.Mathlib.Numerals.{add-one}
use lib.Dec.{eqb, ltb}
use lib.ListN.{length, get_or, set}
use borrow.Author.Tests.{eq-eqb, ne_eqb, lt-ltb, le-ltb}
use Rattle.stack.specs.declared.AbsStack.{AbsStack}
use Rattle.stack.specs.Number.{number_of}
use Rattle.stack.specs.Promise.{state_of}
use Rattle.image.specs.Grammar.{grammar}
use Rattle.image.specs.declared.refusal.Refusal.{Refusal}
use Rattle.image.specs.declared.refusal.Refusal.TheVariants.{ReportsFull}
use Rattle.asking.specs.Reading.{held_back}
use Rattle.tables.specs.Words.{Stored}
use Rattle.turns.specs.Promise.{ReportedIf, Reported}

module _ {image table marks : List ℕ} {count n part : ℕ} {s : AbsStack} where
  reported-by : {r : Result ℕ Refusal} {table' marks' : List ℕ} (held marked room : Bool) → held_back (grammar image) part ≡ held → eqb (get_or marks n 0) 1 ≡ marked
      → ltb count (length table / 8) ≡ room → ReportedIf count n (state_of s) table marks r table' marks' (not held && not marked) room
      → Reported image table marks count n part s r table' marks'
  reported-by held marked room p q e h = record { says = rw (p, q, e) h }

  module _ {held : Bool} (h : held ≡ held_back (grammar image) part) where
    pub report-held : held ≡ true → Reported image table marks count n part s (Ok count) table marks
    report-held t =
        reported-by true (eqb (get_or marks n 0) 1) (ltb count (length table / 8)) (sym h ∙ t) refl refl (refl, record { words = refl; marked = refl })

    module _ (t : held ≡ false) where
      pub report-marked : get_or marks n 0 ≡ 1 → Reported image table marks count n part s (Ok count) table marks
      report-marked e =
          reported-by false true (ltb count (length table / 8)) (sym h ∙ t) (eq-eqb (get_or marks n 0) 1 e) refl (refl, record { words = refl; marked = refl })

      module _ (e : get_or marks n 0 ≡ 1 → ⊥) where
        pub report-full : length table / 8 ≤ count → Reported image table marks count n part s (Err ReportsFull) table marks
        report-full l =
            reported-by false false false (sym h ∙ t) (ne_eqb (get_or marks n 0) 1 e) (le-ltb count (length table / 8) l)
            (refl, record { words = refl; marked = refl })

        pub report-placed : {x : ℕ} {table' : List ℕ} → count < length table / 8 → x ≡ number_of (state_of s) → Stored table count (n + 65536 * x + 12884901888) table'
            → Reported image table marks count n part s (Ok (count + 1)) table' (set marks n 1)
        report-placed l q p =
            reported-by false false true (sym h ∙ t) (ne_eqb (get_or marks n 0) 1 e) (lt-ltb count (length table / 8) l)
            (ap Ok (add-one count), record { words = rw (← q) p; marked = refl })
