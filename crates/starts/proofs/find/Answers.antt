-- `starts::find` meets its contract. Assumes nothing.
use Rattle.std.proofs.Common.{rules, tests, arith, ◌≡◌, ◌==◌, ap, ◌∙◌, take, reverse, position, ℕ, Bool}
use Rattle.std.proofs.lemmas.Iterator.Search.{position_from_yields_List}
use Rattle.std.proofs.lemmas.Iterator.Adapters.{YieldsList-from_rev_slice}
use Rattle.starts.specs.Promise.{place_of}
use Rattle.starts.proofs.Spots.{place-found}
use Rattle.starts.proofs.find.Goals as goal

pub returns : goal.returns
returns c =
    let test : ℕ → Bool = λ there. c.args.state == there in
    let starts = take c.args.run.count c.args.run.states in
    let found : c.position.result ≡ position test (reverse starts) =
    position_from_yields_List test _ _ c.position.result c.position.ensures.ran (YieldsList-from_rev_slice starts cc) (λ x b q k. search (rules, tests)) in
    let law = place-found c.args.run.states c.args.state c.requires.1 c.args.run.count (omega (arith, c.requires.0.few, c.requires.0.long)) c.requires.0.each in
    search (rules, ap place_of found ∙ law)
