-- `reading::kinds::kind_at` meets its contract: what the tactic does not find. Assumes nothing.
use mathlib.Core.Logic.{⊎_elim}
use Rattle.asking.specs.Reading.{kind_of}
use Rattle.reading.proofs.KindLaws.{kind-by}
use Rattle.reading.proofs.kinds.kind_at.Goals as goal

pub returns-in-PeekSlice : goal.returns-in-PeekSlice
unfolding kind_of
returns-in-PeekSlice c = kind-by _ _ _ _ _ c.expr_at.ensures c.in-PeekSlice.is (λ b. c.slice_kind.ensures _ _)

pub returns-in-Str : goal.returns-in-Str
unfolding kind_of
returns-in-Str c =
    ⊎_elim (λ p. kind-by _ _ _ _ _ c.expr_at.ensures p.1 (λ b. c.text_kind.ensures _ _)) (λ p. kind-by _ _ _ _ _ c.expr_at.ensures p.1 (λ b. c.text_kind.ensures _ _)) c.in-Str.is
