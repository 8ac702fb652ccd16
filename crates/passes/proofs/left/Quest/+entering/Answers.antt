-- The left search in one cycle of calls, `enter`, `check_both` and `check_name`: what each member's returns come to. Assumes nothing.
use native.Mathlib.Omega.{arith}
use Rattle.std.proofs.lemmas.Result.{err_from_is_err_and}
use Rattle.image.specs.Grammar.{grammar}
use Rattle.passes.specs.LeftRecursion.{enter}
use Rattle.passes.proofs.Searching.{named-low, enter-12, enter-13, enter-name, enter-both, enter-pair, enter-left, enter-part, enter-leaf, name-again, name-found, name-refused, name-none}
use Rattle.passes.proofs.left.Quest.+entering.Goals as goal

pub enter-returns-then-left-eq0 : goal.enter-returns-then-left-eq0
enter-returns-then-left-eq0 t c = enter-12 _ _ _ _ _ _ _ c.if-left-eq0.true

pub enter-returns-then-route-ge65536 : goal.enter-returns-then-route-ge65536
enter-returns-then-route-ge65536 t c = enter-13 _ _ _ _ _ _ _ c.if-left-eq0.false c.if-route-ge65536.true

pub enter-check_name-requires : goal.enter-check_name-requires
enter-check_name-requires t c = (
  omega (arith, c.decreases, c.if-left-eq0.false),
  (
    omega (arith, c.requires.room, c.if-left-eq0.false),
    (c.requires.node, named-low (grammar c.args.self.now.image.bytes.now) c.args.self.now.rules.now c.args.n c.in-Ident.field-0 c.in-Ident.field-1 c.args.self.now.named c.in-Ident.ensures.is),
  ),
)

pub enter-returns-in-Ident : goal.enter-returns-in-Ident
enter-returns-in-Ident t c =
    enter-name _ _ _ _ _ _ _ c.if-left-eq0.false (omega (arith, c.if-route-ge65536.false)) _ _ _ c.args.self.now.rules.now c.args.self.now.named c.in-Ident.field-0 c.in-Ident.field-1 c.in-Ident.ensures.is c.check_name.ensures

pub enter-returns-in-Choice : goal.enter-returns-in-Choice
enter-returns-in-Choice t c =
    enter-both _ _ _ _ _ _ _ c.if-left-eq0.false (omega (arith, c.if-route-ge65536.false)) _ _ _ c.in-Choice.l c.in-Choice.r c.in-Choice.ensures.is c.check_both.ensures

pub enter-returns-then-bits_at-eq1 : goal.enter-returns-then-bits_at-eq1
enter-returns-then-bits_at-eq1 t c =
    enter-pair _ _ _ _ _ _ _ c.if-left-eq0.false (omega (arith, c.if-route-ge65536.false)) _ _ _ c.in-Seq.l c.in-Seq.r c.bits_at.result c.in-Seq.ensures.is c.bits_at.ensures.is (omega (arith, c.if-bits_at-eq1.true))
    c.check_both-then-bits_at-eq1.ensures

pub enter-returns-else-bits_at-eq1 : goal.enter-returns-else-bits_at-eq1
enter-returns-else-bits_at-eq1 t c =
    enter-left _ _ _ _ _ _ _ c.if-left-eq0.false (omega (arith, c.if-route-ge65536.false)) _ _ _ c.in-Seq.l c.in-Seq.r c.bits_at.result c.in-Seq.ensures.is c.bits_at.ensures.is (λ set. omega (arith, c.if-bits_at-eq1.false, set))
    c.enter.ensures

pub enter-returns-in-PosPred : goal.enter-returns-in-PosPred
enter-returns-in-PosPred t c =
    enter-part _ _ _ _ _ _ _ c.if-left-eq0.false (omega (arith, c.if-route-ge65536.false)) _ _ _ c.expr_at.result c.in-PosPred.part c.expr_at.ensures.is c.in-PosPred.is c.enter-in-PosPred.ensures

pub enter-returns-in-Str : goal.enter-returns-in-Str
enter-returns-in-Str t c = enter-leaf _ _ _ _ _ _ _ c.if-left-eq0.false (omega (arith, c.if-route-ge65536.false)) c.expr_at.result c.expr_at.ensures.is c.in-Str.is

pub check_name-returns-then-contains : goal.check_name-returns-then-contains
check_name-returns-then-contains t c =
    let g = grammar c.args.self.now.image.bytes.now in
    name-again g _ (enter g c.args.self.now.first c.args.left) _ _ c.args.n _ c.in-Some.r (omega (arith, c.in-Some.ensures)) c.if-r-self.false c.contains.result _ c.deref.ensures.0 c.contains.ensures.value c.if-contains.true

pub check_name-returns-in_err-ident : goal.check_name-returns-in_err-ident
check_name-returns-in_err-ident t c =
    let g = grammar c.args.self.now.image.bytes.now in
    name-refused g _ (enter g c.args.self.now.first c.args.left) _ _ c.args.n _ c.in-Some.r (omega (arith, c.in-Some.ensures)) c.if-r-self.false c.contains.result _ c.deref.ensures.0 c.contains.ensures.value c.if-contains.false
    _ c.push.ensures.items _ c.root_at.ensures.is _ _ _ _ _ c.in_err-ident.was (err_from_is_err_and c.from_residual.result c.from_residual.ensures.1) c.enter.ensures

pub check_name-returns-in-Some-2 : goal.check_name-returns-in-Some-2
check_name-returns-in-Some-2 t c =
    let g = grammar c.args.self.now.image.bytes.now in
    name-found g _ (enter g c.args.self.now.first c.args.left) _ _ c.args.n _ c.in-Some.r (omega (arith, c.in-Some.ensures)) c.if-r-self.false c.contains.result _ c.deref.ensures.0 c.contains.ensures.value c.if-contains.false
    _ c.push.ensures.items _ c.root_at.ensures.is _ _ _ (rw c.in-Some-2.is at c.in_ok-ident.ensures)

pub check_name-returns : goal.check_name-returns
check_name-returns t c =
    let g = grammar c.args.self.now.image.bytes.now in
    name-none g _ (enter g c.args.self.now.first c.args.left) _ _ c.args.n _ c.in-Some.r (omega (arith, c.in-Some.ensures)) c.if-r-self.false c.contains.result _ c.deref.ensures.0 c.contains.ensures.value c.if-contains.false
    _ c.push.ensures.items _ c.root_at.ensures.is _ _ _ (rw c.in_default-2.is at c.in_ok-ident.ensures) c.pop.ensures.rest
