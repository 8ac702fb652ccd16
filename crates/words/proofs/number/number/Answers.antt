-- `words::number::number` meets its contract: the invariant is that n is the number of the bytes so far. Assumes nothing.
use Rattle.std.proofs.Common.{arith, sym, ap, ◌∙◌, get_or}
use Rattle.words.specs.Number.{step, number_if}
use Rattle.words.proofs.Laws.{number-none}
use Rattle.words.proofs.number.number.Goals as goal

pub returns-in_err-n : goal.returns-in_err-n
returns-in_err-n c =
    let text = c.args.text.now in
    let none = sym (ap (λ n. number_if (step n (get_or text c.loop-b.b-index 0))) c.loop-b.invariant.0) ∙ sym c.step.ensures ∙ c.in_err-n.was in
    c.from_residual.ensures ∙ sym (number-none text c.loop-b.b-index (omega arith) none)
