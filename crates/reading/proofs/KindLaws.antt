-- Laws of kinds: a reading of a text, a slice, of bounds, and of a node by its expression. Assumes nothing.
use Prim.Native.Nat.{ℕ, ◌/◌, ◌%◌}
use mathlib.Core.Path.{◌≡◌, refl, sym, ◌∙◌}
use mathlib.Core.List.{List}
use native.Mathlib.Omega.{arith}
use lib.ListN.{length}
use lib.Bits.{bit_and, and_mask}
use lib.Dec.{eqb}
use mathlib.Core.Bool.{Bool, true, false, not, ◌||◌}
use borrow.Author.Tests.{eq-eqb, ne_eqb, eqb-true, eqb-false}
use Rattle.image.specs.declared.expr.Expr.{Expr}
use Rattle.image.specs.Lists.{AllBelow}
use Rattle.image.specs.Kinds.{parts_of}
use Rattle.image.specs.Grammar.{grammar}
use Rattle.image.specs.Promise.{ExprAt}
use Rattle.asking.specs.Reading.{kind_of}
use Rattle.reading.specs.declared.kinds.Kind.{Kind}
use Rattle.reading.specs.Kinds.{read_as_name, Reads}
use Rattle.reading.specs.Promise.{KindAt}

-- a node by its expression
pub kind-by :
    (s : List ℕ) (n : ℕ) (e d : Expr) (r : Kind) → ExprAt s n e → e ≡ d →
    (AllBelow n (parts_of d) → Reads (kind_of (grammar s) d) (read_as_name d) (length (grammar s).nodes) n r) → KindAt s n r
kind-by s n e d r h q k = rw (sym h.is ∙ q) (k (rw q at h.below))

-- bit 1 or bit 2
pub held_bits : (b : ℕ) → not (eqb (bit_and b 3) 0) ≡ (eqb (b % 2) 1 || eqb (b / 2 % 2) 1)
held_bits b = rw (and_mask b 2) (go (eqb (b % 2) 1) (eqb (b / 2 % 2) 1) refl refl)
  where
    go : (x y : Bool) → eqb (b % 2) 1 ≡ x → eqb (b / 2 % 2) 1 ≡ y → not (eqb (b % 4) 0) ≡ (x || y)
    go true y p q = let e = eqb-true (b % 2) 1 p in rw (ne_eqb (b % 4) 0 (λ z. omega arith))
    go false true p q = let e = eqb-true (b / 2 % 2) 1 q in rw (ne_eqb (b % 4) 0 (λ z. omega arith))
    go false false p q = let e = eqb-false (b % 2) 1 p in let f = eqb-false (b / 2 % 2) 1 q in rw (eq-eqb (b % 4) 0 (omega (arith, e, f)))
