-- The stack pass in one cycle of calls, `visit` to `loops_forever`: what each member needs. Assumes nothing.
use native.Mathlib.Omega.{arith}
use borrow.Author.Rules.{rules}
use mathlib.Core.Path.{refl, ap, ◌∙◌}
use mathlib.Core.Bool.{Bool, ◌&&◌, ◌||◌}
use Rattle.stack.specs.State.{max_len}
use Rattle.stack.specs.Promise.{state_of}
use Rattle.image.proofs.GrammarLaws.{formed}
use Rattle.machine.specs.Outcome.{of_pos_pred, of_neg_pred, of_opt, of_push}
use Rattle.asking.specs.World.{given}
use Rattle.turns.proofs.Hunts.{packed-number}
use Rattle.analysis.proofs.On.{state-formed, handed-on, on_err, same-trans, node-on, ready-on, outcome-formed, ran-formed}
use Rattle.analysis.proofs.Parts.{part-answers, seq-refuses, seq-ends, seq-refuses-right, seq-answers, choice-refuses, choice-ends, choice-refuses-right, choice-answers}
use Rattle.analysis.proofs.OneStep.{step-in-place, step-match, step-ident, step-tag, step-pos-pred, step-neg-pred, step-opt, step_push, step-push-literal, step-seq, step-choice, step-unbounded, step-bounded, ident-peek, ident-peek-all, ident-pop, ident-pop-all, ident-drop, ident-rule, ident-unknown}
use Rattle.analysis.proofs.Visiting.{keyed, none_left, visit-known, visit-nine, visit-ready, visit-new, outcome-eight, outcome-opened, outcome-number, outcome-remembered, outcome-ready, outcome-refused, outcome-stored, walking_on, walking-off, not-walking}
use Rattle.analysis.proofs.Loops.{some-is, found-some, found-none, at_place, back_inside, steps-start, steps-done, steps-ended, steps-eleven, steps-refused, steps-stopped, steps-again, greedy-start, greedy-ended, greedy-eleven, greedy-refused, greedy-stopped, greedy-again, search-start, search-done, search-refused, search-broken, search-loops, search-again}
use Rattle.analysis.proofs.Reporting.{seek-off, seek-refuses, seek-clear, seek-reports, seek-full}
use Rattle.analysis.proofs.Repeats.{greedy_rest, optional_rest, run-none, run-refuses, run-answers, repeat-refuses, repeat-on, bounded-on}
use Rattle.analysis.proofs.Pass.+visiting.Goals as goal

pub choice-returns-in_err-l-clause-answers : goal.choice-returns-in_err-l-clause-answers
choice-returns-in_err-l-clause-answers t c = handed-on c.from_residual.ensures (choice-refuses c.args.down c.args.s c.args.left c.args.right c.requires.0 c.visit.ensures.answers c.in_err-l.was)

pub choice-returns-in_err-r-in-Some-clause-answers : goal.choice-returns-in_err-r-in-Some-clause-answers
choice-returns-in_err-r-in-Some-clause-answers t c = handed-on c.from_residual-in_err-r-in-Some.ensures (choice-refuses-right c.args.down c.args.s c.args.left c.args.right c.requires.0 c.visit.ensures.answers c.in_ok-l.was c.visit.ensures.same c.failed.ensures c.in-Some.is c.visit-in-Some.ensures.answers c.in_err-r-in-Some.was)

pub choice-returns-in-None-clause-answers : goal.choice-returns-in-None-clause-answers
choice-returns-in-None-clause-answers t c = choice-ends c.args.down c.args.s c.args.left c.args.right c.requires.0 c.visit.ensures.answers c.in_ok-l.was c.visit.ensures.same c.failed.ensures c.in-None.is c.never.ensures c.of_choice.ensures

pub choice-returns-in_ok-r-in-Some-clause-answers : goal.choice-returns-in_ok-r-in-Some-clause-answers
choice-returns-in_ok-r-in-Some-clause-answers t c = choice-answers c.args.down c.args.s c.args.left c.args.right c.requires.0 c.visit.ensures.answers c.in_ok-l.was c.visit.ensures.same c.failed.ensures c.in-Some.is c.visit-in-Some.ensures.answers c.in_ok-r-in-Some.was c.visit-in-Some.ensures.same c.of_choice-in-Some.ensures

pub greedy-loop-down-init : goal.greedy-loop-down-init
greedy-loop-down-init t c = greedy-start c.args.self.now c.args.down c.args.part c.args.s c.args.empty c.requires.0 c.requires.1 c.none-run.ensures

pub greedy-find-requires : goal.greedy-find-requires
greedy-find-requires t c = (c.loop-down.invariant.kept.numbered, packed-number c.loop-down.at c.loop-down.invariant.kept.state c.pack.ensures)

pub greedy-returns-then-is_some-clause-answers : goal.greedy-returns-then-is_some-clause-answers
greedy-returns-then-is_some-clause-answers t c = greedy-ended _ _ _ _ _ c.loop-down.invariant (at_place c.loop-down.run c.loop-down.invariant.kept.state c.pack.ensures c.find.ensures (found-some c.find.result c.is_some.ensures c.if-is_some.true).1)

pub greedy-returns-then-run-eq64-clause-answers : goal.greedy-returns-then-run-eq64-clause-answers
greedy-returns-then-run-eq64-clause-answers t c = greedy-eleven _ _ _ _ _ c.loop-down.invariant (at_place c.loop-down.run c.loop-down.invariant.kept.state c.pack.ensures c.find.ensures (found-none c.find.result c.is_some.ensures c.if-is_some.false)) c.if-run-eq64.true

pub greedy-returns-in_err-o-clause-answers : goal.greedy-returns-in_err-o-clause-answers
greedy-returns-in_err-o-clause-answers t c = handed-on c.from_residual.ensures (greedy-refused _ _ _ _ _ c.loop-down.invariant (at_place c.loop-down.run c.loop-down.invariant.kept.state c.pack.ensures c.find.ensures (found-none c.find.result c.is_some.ensures c.if-is_some.false)) c.if-run-eq64.false c.visit.ensures.answers c.in_err-o.was)

pub greedy-add-run-requires : goal.greedy-add-run-requires
greedy-add-run-requires t c = (c.loop-down.invariant.kept.numbered, omega (arith, c.loop-down.invariant.kept.few), packed-number c.loop-down.at c.loop-down.invariant.kept.state c.pack-in-loop-down.ensures)

pub greedy-returns-in-None-clause-answers : goal.greedy-returns-in-None-clause-answers
greedy-returns-in-None-clause-answers t c = greedy-stopped _ _ _ _ _ c.loop-down.invariant (at_place c.loop-down.run c.loop-down.invariant.kept.state c.pack.ensures c.find.ensures (found-none c.find.result c.is_some.ensures c.if-is_some.false)) c.if-run-eq64.false c.visit.ensures.answers c.in_ok-o.was c.visit.ensures.same c.ends-ends.ensures (ap (λ (x : Bool). c.loop-down.still && x) c.still-still.ensures) c.in-None.is

pub greedy-loop-down-preserved : goal.greedy-loop-down-preserved
greedy-loop-down-preserved t c = greedy-again _ _ _ _ _ c.loop-down.invariant (at_place c.loop-down.run c.loop-down.invariant.kept.state c.pack.ensures c.find.ensures (found-none c.find.result c.is_some.ensures c.if-is_some.false)) c.if-run-eq64.false c.visit.ensures.answers c.in_ok-o.was c.visit.ensures.same c.ends-ends.ensures (ap (λ (x : Bool). c.loop-down.still && x) c.still-still.ensures) c.in-Some.is c.pack-in-loop-down.ensures c.add-run.ensures

pub ident-returns-in-Stack-Peek-clause-answers : goal.ident-returns-in-Stack-Peek-clause-answers
ident-returns-in-Stack-Peek-clause-answers t c = ident-peek c.args.down c.args.s (search rules) c.of_peek.ensures

pub ident-returns-in-Stack-PeekAll-clause-answers : goal.ident-returns-in-Stack-PeekAll-clause-answers
ident-returns-in-Stack-PeekAll-clause-answers t c = ident-peek-all c.args.down c.args.s (search rules) c.of_peek_all.ensures

pub ident-returns-in-Stack-Pop-clause-answers : goal.ident-returns-in-Stack-Pop-clause-answers
ident-returns-in-Stack-Pop-clause-answers t c = ident-pop c.args.down c.args.s (search rules) c.of_pop.ensures

pub ident-returns-in-Stack-PopAll-clause-answers : goal.ident-returns-in-Stack-PopAll-clause-answers
ident-returns-in-Stack-PopAll-clause-answers t c = ident-pop-all c.args.down c.args.s (search rules) c.of_pop_all.ensures

pub ident-returns-in-Stack-Drop-clause-answers : goal.ident-returns-in-Stack-Drop-clause-answers
ident-returns-in-Stack-Drop-clause-answers t c = ident-drop c.args.down c.args.s (search rules) c.of_drop.ensures

pub ident-returns-in-Rule-clause-answers : goal.ident-returns-in-Rule-clause-answers
ident-returns-in-Rule-clause-answers t c = ident-rule c.args.down c.args.s c.in-Rule.is c.rule.ensures.answers

pub ident-returns-in-Unknown-clause-answers : goal.ident-returns-in-Unknown-clause-answers
ident-returns-in-Unknown-clause-answers t c = ident-unknown c.args.down c.args.s c.in-Unknown.is c.either.ensures

pub loops_forever-loop-init : goal.loops_forever-loop-init
loops_forever-loop-init t c = search-start c.args.self.now c.args.left c.args.part c.args.s c.requires.0 c.requires.1 c.none-seen.ensures

pub loops_forever-returns-in_err-o-clause-answers : goal.loops_forever-returns-in_err-o-clause-answers
loops_forever-returns-in_err-o-clause-answers t c = handed-on c.from_residual.ensures (search-refused _ _ _ _ c.loop.invariant c.loop-test.true c.fresh.ensures c.outcome.ensures.answers c.in_err-o.was)

pub loops_forever-returns-in_default-clause-answers : goal.loops_forever-returns-in_default-clause-answers
loops_forever-returns-in_default-clause-answers t c = search-broken _ _ _ _ c.loop.invariant c.loop-test.true c.fresh.ensures c.outcome.ensures.answers c.in_ok-o.was c.outcome.ensures.same c.exact.ensures c.in_default.is

pub loops_forever-returns-in_default-hunt_on-clause-answers : goal.loops_forever-returns-in_default-hunt_on-clause-answers
loops_forever-returns-in_default-hunt_on-clause-answers t c = search-loops _ _ _ _ c.loop.invariant c.loop-test.true c.fresh.ensures c.outcome.ensures.answers c.in_ok-o.was c.outcome.ensures.same c.exact.ensures c.in-Some.is c.hunt_on.ensures c.in_default-hunt_on.is

pub loops_forever-loop-preserved : goal.loops_forever-loop-preserved
loops_forever-loop-preserved t c = search-again _ _ _ _ c.loop.invariant c.loop-test.true c.fresh.ensures c.outcome.ensures.answers c.in_ok-o.was c.outcome.ensures.same c.exact.ensures c.in-Some.is c.hunt_on.ensures c.in-Some-hunt_on.is (omega arith)

pub loops_forever-returns-clause-answers : goal.loops_forever-returns-clause-answers
loops_forever-returns-clause-answers t c = search-done _ _ _ _ c.loop.invariant (omega (arith, c.loop-test.false))

pub outcome-key-key-requires : goal.outcome-key-key-requires
outcome-key-key-requires t c = keyed c.requires.0 c.requires.1 c.args.n c.requires.2

pub outcome-returns-then-left-eq0-clause-answers : goal.outcome-returns-then-left-eq0-clause-answers
outcome-returns-then-left-eq0-clause-answers t c = none_left c.requires.0 c.requires.1 c.args.n c.requires.2 c.args.left _ c.if-left-eq0.true

pub outcome-decode-requires : goal.outcome-decode-requires
outcome-decode-requires t c = outcome-number c.requires.0 c.requires.1 c.args.n c.requires.2 c.args.left c.if-left-eq0.false c.key-key.ensures c.find_outcome.ensures c.in-Found.is c.remembered-v.ensures.value c.if-v-eq0.false

pub outcome-step-requires : goal.outcome-step-requires
outcome-step-requires t c = (let z = c.if-left-eq0.false in omega (arith, c.decreases), (outcome-ready c.requires.0 c.requires.1 c.args.n c.requires.2 c.args.left c.if-left-eq0.false c.key-key.ensures c.find_outcome.ensures c.in-Free.is c.enter.ensures (record { image = refl; skips = refl; count = refl; bytes = refl }), c.requires.1, c.requires.2))

pub outcome-returns-in_err-o-in-Free-clause-answers : goal.outcome-returns-in_err-o-in-Free-clause-answers
outcome-returns-in_err-o-in-Free-clause-answers t c = handed-on c.from_residual.ensures (outcome-refused c.requires.0 c.requires.1 c.args.n c.requires.2 c.args.left c.if-left-eq0.false c.key-key.ensures c.find_outcome.ensures c.in-Free.is c.enter.ensures (record { image = refl; skips = refl; count = refl; bytes = refl }) c.step.ensures.answers c.in_err-o-in-Free.was)

pub outcome-encode-requires : goal.outcome-encode-requires
outcome-encode-requires t c = outcome-formed c.step.ensures.answers c.in_ok-o-in-Free.was (outcome-ready c.requires.0 c.requires.1 c.args.n c.requires.2 c.args.left c.if-left-eq0.false c.key-key.ensures c.find_outcome.ensures c.in-Free.is c.enter.ensures (record { image = refl; skips = refl; count = refl; bytes = refl }))

pub outcome-returns-then-v-eq0-clause-answers : goal.outcome-returns-then-v-eq0-clause-answers
outcome-returns-then-v-eq0-clause-answers t c = outcome-opened c.requires.0 c.requires.1 c.args.n c.requires.2 c.args.left c.if-left-eq0.false c.key-key.ensures c.find_outcome.ensures c.in-Found.is c.remembered-v.ensures.value c.if-v-eq0.true c.unknown.ensures

pub outcome-returns-else-v-eq0-clause-answers : goal.outcome-returns-else-v-eq0-clause-answers
outcome-returns-else-v-eq0-clause-answers t c = outcome-remembered c.requires.0 c.requires.1 c.args.n c.requires.2 c.args.left c.if-left-eq0.false c.key-key.ensures c.find_outcome.ensures c.in-Found.is c.remembered-v.ensures.value c.if-v-eq0.false c.decode.ensures

pub outcome-returns-in_ok-o-in-Free-clause-answers : goal.outcome-returns-in_ok-o-in-Free-clause-answers
outcome-returns-in_ok-o-in-Free-clause-answers t c = rw c.store.ensures (outcome-stored c.requires.0 c.requires.1 c.args.n c.requires.2 c.args.left c.if-left-eq0.false c.key-key.ensures c.find_outcome.ensures c.in-Free.is c.enter.ensures (record { image = refl; skips = refl; count = refl; bytes = refl }) c.step.ensures.answers c.in_ok-o-in-Free.was c.encode.ensures refl refl)

pub outcome-returns-in-Full-clause-answers : goal.outcome-returns-in-Full-clause-answers
outcome-returns-in-Full-clause-answers t c = outcome-eight c.requires.0 c.requires.1 c.args.n c.requires.2 c.args.left c.if-left-eq0.false c.key-key.ensures c.find_outcome.ensures c.in-Full.is

pub repeat-returns-in_err-search_loop-clause-answers : goal.repeat-returns-in_err-search_loop-clause-answers
repeat-returns-in_err-search_loop-clause-answers t c = handed-on c.from_residual.ensures (repeat-refuses c.requires.0 c.args.down c.args.part c.args.required c.args.s c.args.n c.search_loop.ensures.answers c.in_err-search_loop.was)

pub repeat-returns-in_err-q-clause-answers : goal.repeat-returns-in_err-q-clause-answers
repeat-returns-in_err-q-clause-answers t c = handed-on c.from_residual-in_err-q.ensures (repeat-on c.requires.0 c.args.down c.args.part c.args.required c.args.s c.args.n c.search_loop.ensures.answers c.in_ok-search_loop.was c.search_loop.ensures.same (on_err c.steps.ensures.answers c.in_err-q.was (greedy_rest c.args.down c.args.part c.args.s)))

pub repeat-greedy-requires : goal.repeat-greedy-requires
repeat-greedy-requires t c = (omega (arith, c.decreases), (ready-on c.steps.ensures.answers c.in_ok-q.was c.steps.ensures.same (ready-on c.search_loop.ensures.answers c.in_ok-search_loop.was c.search_loop.ensures.same c.requires.0), state-formed c.in-Some.is (ran-formed c.steps.ensures.answers c.in_ok-q.was (ready-on c.search_loop.ensures.answers c.in_ok-search_loop.was c.search_loop.ensures.same c.requires.0)), node-on (same-trans c.search_loop.ensures.same c.steps.ensures.same) c.requires.2))

pub repeat-returns-in_err-g-in-Some-clause-answers : goal.repeat-returns-in_err-g-in-Some-clause-answers
repeat-returns-in_err-g-in-Some-clause-answers t c = handed-on c.from_residual-in_err-g-in-Some.ensures (repeat-on c.requires.0 c.args.down c.args.part c.args.required c.args.s c.args.n c.search_loop.ensures.answers c.in_ok-search_loop.was c.search_loop.ensures.same (run-refuses c.args.s c.steps.ensures.answers c.in_ok-q.was c.steps.ensures.same c.restored-err.ensures (greedy_rest c.args.down c.args.part c.args.s) (λ S W. rw c.in-Some.is) c.greedy.ensures.answers c.in_err-g-in-Some.was))

pub repeat-returns-in-None-clause-answers : goal.repeat-returns-in-None-clause-answers
repeat-returns-in-None-clause-answers t c = repeat-on c.requires.0 c.args.down c.args.part c.args.required c.args.s c.args.n c.search_loop.ensures.answers c.in_ok-search_loop.was c.search_loop.ensures.same (run-none c.args.s c.steps.ensures.answers c.in_ok-q.was c.steps.ensures.same c.restored-err.ensures (greedy_rest c.args.down c.args.part c.args.s) (λ S W. rw c.in-None.is))

pub repeat-returns-in_ok-g-in-Some-clause-answers : goal.repeat-returns-in_ok-g-in-Some-clause-answers
repeat-returns-in_ok-g-in-Some-clause-answers t c = repeat-on c.requires.0 c.args.down c.args.part c.args.required c.args.s c.args.n c.search_loop.ensures.answers c.in_ok-search_loop.was c.search_loop.ensures.same (run-answers c.args.s c.steps.ensures.answers c.in_ok-q.was c.steps.ensures.same c.restored-err.ensures (greedy_rest c.args.down c.args.part c.args.s) (λ S W. rw c.in-Some.is) c.greedy.ensures.answers (ready-on c.steps.ensures.answers c.in_ok-q.was c.steps.ensures.same (ready-on c.search_loop.ensures.answers c.in_ok-search_loop.was c.search_loop.ensures.same c.requires.0)) c.greedy.ensures.same c.in_ok-g-in-Some.was)

pub repeat_bounded-returns-in_err-q-clause-answers : goal.repeat_bounded-returns-in_err-q-clause-answers
repeat_bounded-returns-in_err-q-clause-answers t c = handed-on c.from_residual.ensures (bounded-on c.requires.0 c.args.down c.args.part c.args.required c.args.s c.args.optional (search rules) (on_err c.steps.ensures.answers c.in_err-q.was (optional_rest c.args.down c.args.part c.args.s c.args.optional)))

pub repeat_bounded-returns-in_err-g-in-Some-clause-answers : goal.repeat_bounded-returns-in_err-g-in-Some-clause-answers
repeat_bounded-returns-in_err-g-in-Some-clause-answers t c = handed-on c.from_residual-in_err-g-in-Some.ensures (bounded-on c.requires.0 c.args.down c.args.part c.args.required c.args.s c.args.optional (search rules) (run-refuses c.args.s c.steps.ensures.answers c.in_ok-q.was c.steps.ensures.same c.restored-err.ensures (optional_rest c.args.down c.args.part c.args.s c.args.optional) (λ S W. rw c.in-Some.is) c.steps-in-Some.ensures.answers c.in_err-g-in-Some.was))

pub repeat_bounded-returns-in-None-clause-answers : goal.repeat_bounded-returns-in-None-clause-answers
repeat_bounded-returns-in-None-clause-answers t c = bounded-on c.requires.0 c.args.down c.args.part c.args.required c.args.s c.args.optional (search rules) (run-none c.args.s c.steps.ensures.answers c.in_ok-q.was c.steps.ensures.same c.restored-err.ensures (optional_rest c.args.down c.args.part c.args.s c.args.optional) (λ S W. rw c.in-None.is))

pub repeat_bounded-returns-in_ok-g-in-Some-clause-answers : goal.repeat_bounded-returns-in_ok-g-in-Some-clause-answers
repeat_bounded-returns-in_ok-g-in-Some-clause-answers t c = bounded-on c.requires.0 c.args.down c.args.part c.args.required c.args.s c.args.optional (search rules) (run-answers c.args.s c.steps.ensures.answers c.in_ok-q.was c.steps.ensures.same c.restored-err.ensures (optional_rest c.args.down c.args.part c.args.s c.args.optional) (λ S W. rw c.in-Some.is) c.steps-in-Some.ensures.answers (ready-on c.steps.ensures.answers c.in_ok-q.was c.steps.ensures.same c.requires.0) c.steps-in-Some.ensures.same c.in_ok-g-in-Some.was)

pub search_loop-report-requires : goal.search_loop-report-requires
search_loop-report-requires t c = (node-on c.loops_forever.ensures.same c.requires.2, omega (arith, (formed _ c.args.self.now.names.image.accepted).few-nodes, c.requires.3), (ready-on c.loops_forever.ensures.answers c.in_ok-loops.was c.loops_forever.ensures.same c.requires.0).standing.stands.long, c.requires.1)

pub search_loop-returns-then-not-down-clause-answers : goal.search_loop-returns-then-not-down-clause-answers
search_loop-returns-then-not-down-clause-answers t c = seek-off c.args.down c.args.n c.args.part c.args.s (walking-off c.args.down.walking c.if-not-down.true)

pub search_loop-returns-in_err-loops-clause-answers : goal.search_loop-returns-in_err-loops-clause-answers
search_loop-returns-in_err-loops-clause-answers t c = handed-on c.from_residual.ensures (seek-refuses c.args.down c.args.n c.args.part c.args.s (walking_on c.args.down.walking c.if-not-down.false) c.loops_forever.ensures.answers c.in_err-loops.was)

pub search_loop-returns-then-not-loops-clause-answers : goal.search_loop-returns-then-not-loops-clause-answers
search_loop-returns-then-not-loops-clause-answers t c = seek-clear c.args.down c.args.n c.args.part c.args.s (walking_on c.args.down.walking c.if-not-down.false) c.loops_forever.ensures.answers c.in_ok-loops.was c.loops_forever.ensures.same c.if-not-loops.true

pub search_loop-returns-in_err-self-clause-answers : goal.search_loop-returns-in_err-self-clause-answers
search_loop-returns-in_err-self-clause-answers t c = handed-on c.from_residual-in_err-self.ensures (seek-full c.args.down c.args.n c.args.part c.args.s (walking_on c.args.down.walking c.if-not-down.false) c.loops_forever.ensures.answers c.in_ok-loops.was c.loops_forever.ensures.same c.if-not-loops.false (omega (arith, (formed _ c.args.self.now.names.image.accepted).few-nodes, c.requires.3)) c.requires.1 c.report.ensures refl c.in_err-self.was refl)

pub search_loop-returns-clause-answers : goal.search_loop-returns-clause-answers
search_loop-returns-clause-answers t c = seek-reports c.args.down c.args.n c.args.part c.args.s (walking_on c.args.down.walking c.if-not-down.false) c.loops_forever.ensures.answers c.in_ok-loops.was c.loops_forever.ensures.same c.if-not-loops.false (omega (arith, (formed _ c.args.self.now.names.image.accepted).few-nodes, c.requires.3)) c.requires.1 c.report.ensures refl c.in_ok-self.was refl

pub seq-returns-in_err-l-clause-answers : goal.seq-returns-in_err-l-clause-answers
seq-returns-in_err-l-clause-answers t c = handed-on c.from_residual.ensures (seq-refuses c.args.down c.args.s c.args.left c.args.right c.requires.0 c.visit.ensures.answers c.in_err-l.was)

pub seq-returns-in_err-r-in-Some-clause-answers : goal.seq-returns-in_err-r-in-Some-clause-answers
seq-returns-in_err-r-in-Some-clause-answers t c = handed-on c.from_residual-in_err-r-in-Some.ensures (seq-refuses-right c.args.down c.args.s c.args.left c.args.right c.requires.0 c.visit.ensures.answers c.in_ok-l.was c.visit.ensures.same c.in-Some.is c.visit-in-Some.ensures.answers c.in_err-r-in-Some.was)

pub seq-returns-in-None-clause-answers : goal.seq-returns-in-None-clause-answers
seq-returns-in-None-clause-answers t c = seq-ends c.args.down c.args.s c.args.left c.args.right c.requires.0 c.visit.ensures.answers c.in_ok-l.was c.visit.ensures.same c.in-None.is c.never.ensures c.of_seq.ensures

pub seq-returns-in_ok-r-in-Some-clause-answers : goal.seq-returns-in_ok-r-in-Some-clause-answers
seq-returns-in_ok-r-in-Some-clause-answers t c = seq-answers c.args.down c.args.s c.args.left c.args.right c.requires.0 c.visit.ensures.answers c.in_ok-l.was c.visit.ensures.same c.in-Some.is c.visit-in-Some.ensures.answers c.in_ok-r-in-Some.was c.visit-in-Some.ensures.same c.of_seq-in-Some.ensures

pub step-returns-in_err-visit-in-PosPred-clause-answers : goal.step-returns-in_err-visit-in-PosPred-clause-answers
step-returns-in_err-visit-in-PosPred-clause-answers t c = handed-on c.from_residual.ensures (step-pos-pred c.args.down c.args.n c.args.s c.kind_at.ensures c.in-PosPred.is (on_err c.visit-in-PosPred.ensures.answers c.in_err-visit-in-PosPred.was (λ S o W₁. given (of_pos_pred (state_of c.args.s) o) W₁)))

pub step-returns-in_ok-visit-in-PosPred-clause-answers : goal.step-returns-in_ok-visit-in-PosPred-clause-answers
step-returns-in_ok-visit-in-PosPred-clause-answers t c = step-pos-pred c.args.down c.args.n c.args.s c.kind_at.ensures c.in-PosPred.is (part-answers (λ o. of_pos_pred (state_of c.args.s) o) c.visit-in-PosPred.ensures.answers c.in_ok-visit-in-PosPred.was c.visit-in-PosPred.ensures.same (search rules))

pub step-returns-in-InPlace-clause-answers : goal.step-returns-in-InPlace-clause-answers
step-returns-in-InPlace-clause-answers t c = step-in-place c.args.down c.args.n c.args.s c.kind_at.ensures c.in-InPlace.is c.succeeds.ensures

pub step-returns-in-Match-clause-answers : goal.step-returns-in-Match-clause-answers
step-returns-in-Match-clause-answers t c = step-match c.args.down c.args.n c.args.s c.kind_at.ensures c.in-Match.is c.either.ensures

pub step-returns-in-Ident-clause-answers : goal.step-returns-in-Ident-clause-answers
step-returns-in-Ident-clause-answers t c = step-ident c.args.down c.args.n c.args.s c.kind_at.ensures c.in-Ident.is c.ident.ensures.answers

pub step-returns-in-NodeTag-clause-answers : goal.step-returns-in-NodeTag-clause-answers
step-returns-in-NodeTag-clause-answers t c = step-tag c.args.down c.args.n c.args.s c.kind_at.ensures c.in-NodeTag.is c.visit.ensures.answers

pub step-returns-in-PushLiteral-clause-answers : goal.step-returns-in-PushLiteral-clause-answers
step-returns-in-PushLiteral-clause-answers t c = step-push-literal c.args.down c.args.n c.args.s c.kind_at.ensures c.in-PushLiteral.is c.of_push_literal.ensures

pub step-returns-in-Seq-clause-answers : goal.step-returns-in-Seq-clause-answers
step-returns-in-Seq-clause-answers t c = step-seq c.args.down c.args.n c.args.s c.kind_at.ensures c.in-Seq.is c.seq.ensures.answers

pub step-returns-in-Choice-clause-answers : goal.step-returns-in-Choice-clause-answers
step-returns-in-Choice-clause-answers t c = step-choice c.args.down c.args.n c.args.s c.kind_at.ensures c.in-Choice.is c.choice.ensures.answers

pub step-returns-in-Unbounded-clause-answers : goal.step-returns-in-Unbounded-clause-answers
step-returns-in-Unbounded-clause-answers t c = step-unbounded c.args.down c.args.n c.args.s c.kind_at.ensures c.in-Unbounded.is c.repeat.ensures.answers

pub step-returns-in-Bounded-clause-answers : goal.step-returns-in-Bounded-clause-answers
step-returns-in-Bounded-clause-answers t c = step-bounded c.args.down c.args.n c.args.s c.kind_at.ensures c.in-Bounded.is c.repeat_bounded.ensures.answers

pub steps-loop-done-init : goal.steps-loop-done-init
steps-loop-done-init t c = steps-start c.args.self.now c.args.down c.args.part c.args.required c.args.copies c.args.s c.args.empty c.requires.0 c.requires.1 c.none-run.ensures

pub steps-find-requires : goal.steps-find-requires
steps-find-requires t c = (c.loop-done.invariant.kept.numbered, packed-number c.loop-done.at c.loop-done.invariant.kept.state c.pack.ensures)

pub steps-ended-requires : goal.steps-ended-requires
steps-ended-requires t c = (c.loop-done.invariant.kept.numbered, back_inside c.loop-done.run c.loop-done.invariant.kept.state c.pack.ensures c.find.ensures c.in-Some.is)

pub steps-returns-in-Some-clause-answers : goal.steps-returns-in-Some-clause-answers
steps-returns-in-Some-clause-answers t c = steps-ended _ _ _ _ _ _ _ c.loop-done.invariant c.loop-done-test.true (at_place c.loop-done.run c.loop-done.invariant.kept.state c.pack.ensures c.find.ensures c.in-Some.is) c.ended.ensures

pub steps-returns-then-run-eq64-clause-answers : goal.steps-returns-then-run-eq64-clause-answers
steps-returns-then-run-eq64-clause-answers t c = steps-eleven _ _ _ _ _ _ _ c.loop-done.invariant c.loop-done-test.true (at_place c.loop-done.run c.loop-done.invariant.kept.state c.pack.ensures c.find.ensures c.in_default.is) c.if-run-eq64.true

pub steps-returns-in_err-o-clause-answers : goal.steps-returns-in_err-o-clause-answers
steps-returns-in_err-o-clause-answers t c = handed-on c.from_residual.ensures (steps-refused _ _ _ _ _ _ _ c.loop-done.invariant c.loop-done-test.true (at_place c.loop-done.run c.loop-done.invariant.kept.state c.pack.ensures c.find.ensures c.in_default.is) c.if-run-eq64.false c.visit.ensures.answers c.in_err-o.was)

pub steps-add-run-requires : goal.steps-add-run-requires
steps-add-run-requires t c = (c.loop-done.invariant.kept.numbered, omega (arith, c.loop-done.invariant.kept.few), packed-number c.loop-done.at c.loop-done.invariant.kept.state c.pack-in-loop-done.ensures)

pub steps-returns-in-None-clause-answers : goal.steps-returns-in-None-clause-answers
steps-returns-in-None-clause-answers t c = steps-stopped _ _ _ _ _ _ _ c.loop-done.invariant c.loop-done-test.true (at_place c.loop-done.run c.loop-done.invariant.kept.state c.pack.ensures c.find.ensures c.in_default.is) c.if-run-eq64.false c.visit.ensures.answers c.in_ok-o.was c.visit.ensures.same c.next.ensures (ap (λ (x : Bool). c.loop-done.still && x) c.still-still.ensures) (ap (λ (x : Bool). c.loop-done.fails || x) (c.is_some-fails.ensures ∙ some-is c.in_ok-o.o.err)) c.in-None.is

pub steps-loop-done-preserved : goal.steps-loop-done-preserved
steps-loop-done-preserved t c = steps-again _ _ _ _ _ _ _ c.loop-done.invariant c.loop-done-test.true (at_place c.loop-done.run c.loop-done.invariant.kept.state c.pack.ensures c.find.ensures c.in_default.is) c.if-run-eq64.false c.visit.ensures.answers c.in_ok-o.was c.visit.ensures.same c.next.ensures (ap (λ (x : Bool). c.loop-done.still && x) c.still-still.ensures) (ap (λ (x : Bool). c.loop-done.fails || x) (c.is_some-fails.ensures ∙ some-is c.in_ok-o.o.err)) c.in-Some-next.is c.pack-in-loop-done.ensures c.add-run.ensures (omega arith)

pub steps-returns-clause-answers : goal.steps-returns-clause-answers
steps-returns-clause-answers t c = steps-done _ _ _ _ _ _ _ c.loop-done.invariant (omega (arith, c.loop-done-test.false))

pub visit-key-key-requires : goal.visit-key-key-requires
visit-key-key-requires t c = keyed c.requires.0 c.requires.1 c.args.n c.requires.2

pub visit-returns-then-down-eq0-clause-answers : goal.visit-returns-then-down-eq0-clause-answers
visit-returns-then-down-eq0-clause-answers t c = none_left c.requires.0 c.requires.1 c.args.n c.requires.2 c.args.down.left c.args.down.walking c.if-down-eq0.true

pub visit-returns-then-not-down-clause-answers : goal.visit-returns-then-not-down-clause-answers
visit-returns-then-not-down-clause-answers t c = not-walking c.args.down c.args.n c.args.s (walking-off c.args.down.walking c.if-not-down.true) c.outcome.ensures.answers

pub visit-step-requires : goal.visit-step-requires
visit-step-requires t c = (let z = c.if-down-eq0.false in omega (arith, c.decreases), (visit-ready c.requires.0 c.requires.1 c.args.n c.requires.2 c.args.down.left c.if-down-eq0.false c.key-key.ensures c.find_walked.ensures (walking_on c.args.down.walking c.if-not-down.false) c.in-Free.is c.enter.ensures (record { image = refl; skips = refl; count = refl; bytes = refl }), c.requires.1, c.requires.2))

pub visit-returns-in-Found-clause-answers : goal.visit-returns-in-Found-clause-answers
visit-returns-in-Found-clause-answers t c = visit-known c.requires.0 c.requires.1 c.args.n c.requires.2 c.args.down.left c.if-down-eq0.false c.key-key.ensures c.find_walked.ensures (walking_on c.args.down.walking c.if-not-down.false) c.in-Found.is c.outcome-in-Found.ensures.answers

pub visit-returns-in-Free-clause-answers : goal.visit-returns-in-Free-clause-answers
visit-returns-in-Free-clause-answers t c = visit-new c.requires.0 c.requires.1 c.args.n c.requires.2 c.args.down.left c.if-down-eq0.false c.key-key.ensures c.find_walked.ensures (walking_on c.args.down.walking c.if-not-down.false) c.in-Free.is c.enter.ensures (record { image = refl; skips = refl; count = refl; bytes = refl }) c.step.ensures.answers

pub visit-returns-in-Full-clause-answers : goal.visit-returns-in-Full-clause-answers
visit-returns-in-Full-clause-answers t c = visit-nine c.requires.0 c.requires.1 c.args.n c.requires.2 c.args.down.left c.if-down-eq0.false c.key-key.ensures c.find_walked.ensures (walking_on c.args.down.walking c.if-not-down.false) c.in-Full.is

pub step-returns-in_err-visit-in-NegPred-clause-answers : goal.step-returns-in_err-visit-in-NegPred-clause-answers
step-returns-in_err-visit-in-NegPred-clause-answers t c = handed-on c.from_residual-in_err-visit-in-NegPred.ensures (step-neg-pred c.args.down c.args.n c.args.s c.kind_at.ensures c.in-NegPred.is (on_err c.visit-in-NegPred.ensures.answers c.in_err-visit-in-NegPred.was (λ S o W₁. given (of_neg_pred (state_of c.args.s) o) W₁)))

pub step-returns-in_ok-visit-in-NegPred-clause-answers : goal.step-returns-in_ok-visit-in-NegPred-clause-answers
step-returns-in_ok-visit-in-NegPred-clause-answers t c = step-neg-pred c.args.down c.args.n c.args.s c.kind_at.ensures c.in-NegPred.is (part-answers (λ o. of_neg_pred (state_of c.args.s) o) c.visit-in-NegPred.ensures.answers c.in_ok-visit-in-NegPred.was c.visit-in-NegPred.ensures.same (search rules))

pub step-returns-in_err-visit-in-Opt-clause-answers : goal.step-returns-in_err-visit-in-Opt-clause-answers
step-returns-in_err-visit-in-Opt-clause-answers t c = handed-on c.from_residual-in_err-visit-in-Opt.ensures (step-opt c.args.down c.args.n c.args.s c.kind_at.ensures c.in-Opt.is (on_err c.visit-in-Opt.ensures.answers c.in_err-visit-in-Opt.was (λ S o W₁. given (of_opt (state_of c.args.s) o) W₁)))

pub step-returns-in_ok-visit-in-Opt-clause-answers : goal.step-returns-in_ok-visit-in-Opt-clause-answers
step-returns-in_ok-visit-in-Opt-clause-answers t c = step-opt c.args.down c.args.n c.args.s c.kind_at.ensures c.in-Opt.is (part-answers (λ o. of_opt (state_of c.args.s) o) c.visit-in-Opt.ensures.answers c.in_ok-visit-in-Opt.was c.visit-in-Opt.ensures.same c.of_opt.ensures)

pub step-returns-in_err-visit-in-Push-clause-answers : goal.step-returns-in_err-visit-in-Push-clause-answers
step-returns-in_err-visit-in-Push-clause-answers t c = handed-on c.from_residual-in_err-visit-in-Push.ensures (step_push c.args.down c.args.n c.args.s c.kind_at.ensures c.in-Push.is (on_err c.visit-in-Push.ensures.answers c.in_err-visit-in-Push.was (λ S o W₁. given (of_push max_len o) W₁)))

pub step-returns-in_ok-visit-in-Push-clause-answers : goal.step-returns-in_ok-visit-in-Push-clause-answers
step-returns-in_ok-visit-in-Push-clause-answers t c = step_push c.args.down c.args.n c.args.s c.kind_at.ensures c.in-Push.is (part-answers (λ o. of_push max_len o) c.visit-in-Push.ensures.answers c.in_ok-visit-in-Push.was c.visit-in-Push.ensures.same c.of_push.ensures)
