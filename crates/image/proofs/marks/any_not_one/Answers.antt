-- `image::marks::any_not_one` meets its contract. Assumes nothing.
use Rattle.std.proofs.Common.{rules, tests, eqb, take, ◌∙◌, arith}
use Rattle.std.proofs.lemmas.Iterator.{YieldsList-from_slice}
use Rattle.std.proofs.lemmas.Iterator.Search.{any_from_yields_List}
use mathlib.Core.Bool.{not}
use Prim.Native.Nat.{ℕ}
use Rattle.image.proofs.RangeLaws.{any-first}
use Rattle.image.proofs.marks.any_not_one.Goals as goal

pub returns : goal.returns
returns c = let m = c.args.marks.now in
    any_from_yields_List (λ (v : ℕ). not (eqb v 1)) _ _ c.any.result c.any.ensures.ran (YieldsList-from_slice (take c.args.n m) (cc)) (λ x b q k. search (rules, tests))
    ∙ any-first (λ (v : ℕ). not (eqb v 1)) m c.args.n (omega arith)
