-- `passes::topdown::walk` calls itself and loops: what its turns and returns come to. Assumes nothing.
use Rattle.std.specs.Prelude.{Ok, ◌<◌}
use Rattle.std.proofs.lemmas.Result.{err_from_is_err_and}
use native.Mathlib.Omega.{arith}
use Rattle.image.specs.Grammar.{grammar}
use Rattle.image.proofs.GrammarLaws.{formed}
use Rattle.passes.specs.Promise.{held}
use Rattle.passes.proofs.Downs.{walk-early, walk-leaf, walk-one, walk-two-early, walk-two}
use Rattle.passes.proofs.topdown.+walk.Goals as goal

pub returns-in_err-count : goal.returns-in_err-count
returns-in_err-count g t c =
    λ due finds.
    c.loop-count.invariant.2 due finds c.from_residual.result c.note.new.table
    (walk-early (grammar c.args.image.bytes.now) c.loop-count.n due (held c.loop-count.table c.loop-count.count) _ _ _ _ c.in_err-count.was (err_from_is_err_and c.from_residual.result c.from_residual.ensures.1)
    (c.note.ensures (due c.loop-count.n) (λ r p. finds c.loop-count.n r c.loop-count.invariant.0 p)))

pub returns-in-Leaf : goal.returns-in-Leaf
returns-in-Leaf g t c =
    λ due finds.
    c.loop-count.invariant.2 due finds (Ok c.in_ok-count.count) c.note.new.table
    (walk-leaf (grammar c.args.image.bytes.now) (formed _ c.args.image.accepted) c.loop-count.n c.loop-count.invariant.0 due (held c.loop-count.table c.loop-count.count) c.in_ok-count.count c.note.new.table
    (c.in_ok-count.ensures (due c.loop-count.n) (λ r p. finds c.loop-count.n r c.loop-count.invariant.0 p)) (rw c.in-Leaf.is at c.parts_down.ensures))

pub loop-count-preserved-in-One : goal.loop-count-preserved-in-One
loop-count-preserved-in-One g t c =
    let below : c.in-One.part < c.loop-count.n = (rw c.in-One.is at c.parts_down.ensures.below).0 in (
      omega (arith, below, c.loop-count.invariant.0),
      omega (arith, below, c.loop-count.invariant.1),
      λ due finds r u l.
          c.loop-count.invariant.2 due finds r u
          (walk-one (grammar c.args.image.bytes.now) (formed _ c.args.image.accepted) c.loop-count.n c.loop-count.invariant.0 due (held c.loop-count.table c.loop-count.count) c.in_ok-count.count c.note.new.table
          (c.in_ok-count.ensures (due c.loop-count.n) (λ s p. finds c.loop-count.n s c.loop-count.invariant.0 p)) c.in-One.part (rw c.in-One.is at c.parts_down.ensures) r u l),
    )

pub returns-in_err-count-in-Two : goal.returns-in_err-count-in-Two
returns-in_err-count-in-Two g t c =
    λ due finds.
    c.loop-count.invariant.2 due finds c.from_residual-in_err-count-in-Two.result c.walk.new.table
    (walk-two-early (grammar c.args.image.bytes.now) (formed _ c.args.image.accepted) c.loop-count.n c.loop-count.invariant.0 due (held c.loop-count.table c.loop-count.count) c.in_ok-count.count c.note.new.table
    (c.in_ok-count.ensures (due c.loop-count.n) (λ r p. finds c.loop-count.n r c.loop-count.invariant.0 p)) c.in-Two.left c.in-Two.right (rw c.in-Two.is at c.parts_down.ensures) _ _ _ _
    c.in_err-count-in-Two.was (err_from_is_err_and c.from_residual-in_err-count-in-Two.result c.from_residual-in_err-count-in-Two.ensures.1) (c.walk.ensures due finds))

pub loop-count-preserved : goal.loop-count-preserved
loop-count-preserved g t c =
    let below : c.in-Two.right < c.loop-count.n = (rw c.in-Two.is at c.parts_down.ensures.below).1.0 in (
      omega (arith, below, c.loop-count.invariant.0),
      omega (arith, below, c.loop-count.invariant.1),
      λ due finds r u l.
          c.loop-count.invariant.2 due finds r u
          (walk-two (grammar c.args.image.bytes.now) (formed _ c.args.image.accepted) c.loop-count.n c.loop-count.invariant.0 due (held c.loop-count.table c.loop-count.count) c.in_ok-count.count c.note.new.table
          (c.in_ok-count.ensures (due c.loop-count.n) (λ s p. finds c.loop-count.n s c.loop-count.invariant.0 p)) c.in-Two.left c.in-Two.right (rw c.in-Two.is at c.parts_down.ensures)
          c.in_ok-count-in-Two.count c.walk.new.table (c.in_ok-count-in-Two.ensures due finds) r u l),
    )
