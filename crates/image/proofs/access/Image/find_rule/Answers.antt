-- `image::access::Image::find_rule` meets its contract. Assumes nothing.
use Rattle.std.proofs.Common.{rules, ◌≡◌, true, false, arith}
use Rattle.std.proofs.iter.Serving.{serving}
use Rattle.std.proofs.lemmas.Iterator.{first_from_Range}
use Prim.Native.Nat.{ℕ}
use Rattle.image.specs.Lists.{same}
use Rattle.image.specs.Layout.{name_of, rule_count}
use Rattle.image.specs.Grammar.{grammar}
use Rattle.image.proofs.FindLaws.{first-found, rule-found}
use Rattle.image.proofs.GrammarLaws.{rules_read, name-of-rule}
use Rattle.image.proofs.access.Image.find_rule.Goals as goal

pub find-requires-clause-callable : goal.find-requires-clause-callable
find-requires-clause-callable c = let r = rules_read c.args.self.bytes.now c.args.self.accepted in
    grind serving

pub returns : goal.returns
returns c = let s = c.args.self.bytes.now in
    let x = c.args.name.now in
    let r = rules_read s c.args.self.accepted in
    let n : c.rule_count.result ≡ rule_count s = cc in
    rule-found s x _ (first-found (grammar s) x (name_of s) c.rule_count.result _ (omega arith) (λ k l. name-of-rule s k (omega arith))
    (first_from_Range _ _ _ _ (λ (k : ℕ). same (name_of s k) x ≡ true) (λ (k : ℕ). same (name_of s k) x ≡ false) c.find.ensures.ran (λ k q h. search rules) (λ k q h. search rules)))
