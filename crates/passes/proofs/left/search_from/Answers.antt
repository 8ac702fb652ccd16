-- `passes::left::search_from` meets its contract. Assumes nothing.
use Rattle.std.specs.Prelude.{Ok, Err}
use Rattle.std.proofs.Common.{rules}
use mathlib.Core.Path.{refl, ap, ◌∙◌}
use mathlib.Core.List.{[], ◌∷◌, ◌++◌}
use Rattle.image.specs.Grammar.{grammar}
use Rattle.passes.proofs.Searching.{from_answers, told-again, option-mapped}
use Rattle.passes.proofs.left.search_from.Goals as goal

pub returns-in-Ok : goal.returns-in-Ok
returns-in-Ok c =
    from_answers (grammar c.args.image.bytes.now) c.args.i c.root_at.result c.enter-found.new.route.entered c.push.new.self.items c.enter-found.new.route.trail.items (Ok c.in-Ok.found) _
    (c.push.ensures.items ∙ ap (λ l. l ++ (c.args.i ∷ [])) c.new-trail.ensures) c.root_at.ensures.is
    (ap Ok (option-mapped c.enter-found.new.route.trail.items c.in-Ok.found c.map.result _ c.map.ensures.cases (λ i x q. search rules)))
    (told-again c.enter-found.new.route.trail.items c.in-Ok.found c.enter-found.new.route.entered (search rules) c.in-Ok.ensures.sound) c.in-Ok.ensures

pub returns-in-Err : goal.returns-in-Err
returns-in-Err c =
    from_answers (grammar c.args.image.bytes.now) c.args.i c.root_at.result c.enter-found.new.route.entered c.push.new.self.items c.enter-found.new.route.trail.items (Err c.in-Err.k) _
    (c.push.ensures.items ∙ ap (λ l. l ++ (c.args.i ∷ [])) c.new-trail.ensures) c.root_at.ensures.is refl (refl, c.in-Err.ensures.sound) c.in-Err.ensures
