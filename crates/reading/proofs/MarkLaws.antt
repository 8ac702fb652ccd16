-- Laws of marks: a search that marks follows the definition, case by case. Assumes nothing.
use Rattle.std.specs.Prelude.{Option}
use Prim.Native.Nat.{ℕ, zero, suc, ◌≤◌, ◌<◌}
use mathlib.Core.Path.{◌≡◌, refl, sym, ap, subst, ◌∙◌}
use mathlib.Core.Bool.{Bool, true, false, ◌||◌}
use mathlib.Core.List.{List, [], ◌∷◌}
use native.Mathlib.Nat.{not-suc-le-zero, le_of_suc-le-suc}
use native.Mathlib.Omega.{arith}
use lib.Dec.{eqb}
use lib.ListN.{length, get_or, set, length-set, replicate, length-replicate, get_or-replicate}
use lib.Seq.{get_or-set_same, get_or-set_other}
use borrow.Author.Tests.{eq-eqb, eqb-true, eqb-false}
use Rattle.image.specs.Lists.{same}
use Rattle.image.specs.Grammar.{Grammar, expr_at, root_at, find_rule}
use Rattle.asking.specs.Reading.{POP, POP-ALL, DROP, WHITESPACE, COMMENT}
use Rattle.asking.specs.Modifies.{Looked, looked, is_in, or_else, found_modifies, name_modifies, node_modifies, rule_modifies, skips_modify}
use Rattle.reading.specs.declared.looks.Look.{Look}
use Rattle.reading.specs.declared.looks.Look.TheVariants.{Keeps, Changes, One, Two}
use Rattle.reading.specs.Looks.{look_of}
use Rattle.reading.specs.Marks.{Shows, LookedAs, Follows, FollowsFound, FollowsNode}
use Rattle.reading.proofs.LookLaws.{look_modifies, expr-by-look}

-- no marks show that none was seen
pub none-shown : Shows (replicate 256 false) []
none-shown = record { long = length-replicate {A = Bool} 256 false; each = λ i h. rw (get_or-replicate {A = Bool} 256 i false false h) }

-- one mark more shows one rule more
pub one-more-shown : (marks : List Bool) (seen : List ℕ) (i : ℕ) → i < 256 → Shows marks seen → Shows (set marks i true) (i ∷ seen)
one-more-shown marks seen i h s =
    record { long = length-set marks i true ∙ s.long; each = λ j l. go j l (eqb j i) refl }
  where
    go : (j : ℕ) → j < 256 → (b : Bool) → eqb j i ≡ b → get_or (set marks i true) j false ≡ (eqb j i || is_in j seen)
    go j l true e = rw (eqb-true j i e, get_or-set_same marks i true false (omega (arith, s.long)), eq-eqb i i refl)
    go j l false e = rw (get_or-set_other marks i j true false (eqb-false j i e), e) (s.each j l)

-- a search that is the same
pub follow-as :
    (d e : List ℕ → Looked) (before : List Bool) (r : Bool) (after : List Bool) →
    ((seen : List ℕ) → Shows before seen → d seen ≡ e seen) → Follows e before r after → Follows d before r after
follow-as d e before r after q f =
    record { each = λ seen s. subst (λ (k : Looked). LookedAs k r after) (sym (q seen s)) (f.each seen s) }

-- a search that marks nothing
pub follow-still :
    (d : List ℕ → Looked) (marks : List Bool) (r : Bool) →
    ((seen : List ℕ) → Shows marks seen → d seen ≡ looked r seen) → Follows d marks r marks
follow-still d marks r q =
    record { each = λ seen s. subst (λ (k : Looked). LookedAs k r marks) (sym (q seen s)) (record { modifies = refl; seen = s }) }

-- the one, or else the other
pub follow-left :
    (a b : List ℕ → Looked) (before : List Bool) (r : Bool) (after : List Bool) → r ≡ true → Follows a before r after →
    Follows (λ seen. or_else (a seen) b) before r after
follow-left a b before r after e f =
    record { each = λ seen s. go seen (a seen) (f.each seen s) }
  where
    go : (seen : List ℕ) (k : Looked) → LookedAs k r after → LookedAs (or_else k b) r after
    go seen k h = rw (sym h.modifies ∙ e) (record { modifies = e; seen = h.seen })

pub follow-right :
    (a b : List ℕ → Looked) (before : List Bool) (r : Bool) (between : List Bool) (q : Bool) (after : List Bool) → r ≡ false →
    Follows a before r between → Follows b between q after → Follows (λ seen. or_else (a seen) b) before q after
follow-right a b before r between q after e f h =
    record { each = λ seen s. go (a seen) (f.each seen s) }
  where
    go : (k : Looked) → LookedAs k r between → LookedAs (or_else k b) q after
    go k p = rw (sym p.modifies ∙ e) (h.each k.seen p.seen)

-- a rule: none is left unseen; it was seen; it is new
pub rule-out : (g : Grammar) (u i : ℕ) (marks : List Bool) → u ≡ 0 → Follows (rule_modifies g u i) marks false marks
unfolding rule_modifies
rule-out g u i marks e = rw e (follow-still (rule_modifies g 0 i) marks false (λ seen s. refl))

pub rule-seen :
    (g : Grammar) (u i : ℕ) (marks : List Bool) → i < 256 → get_or marks i false ≡ true → Follows (rule_modifies g u i) marks false marks
unfolding rule_modifies
rule-seen g zero i marks h e = follow-still (rule_modifies g 0 i) marks false (λ seen s. refl)
rule-seen g (suc u) i marks h e =
    follow-still (rule_modifies g (suc u) i) marks false
    (λ seen s. rw (sym (s.each i h) ∙ e))

pub rule-new :
    (g : Grammar) (u v i root : ℕ) (marks : List Bool) (r : Bool) (after : List Bool) → u ≡ suc v → i < 256 → get_or marks i false ≡ false →
    root ≡ root_at g i → FollowsNode g v root (set marks i true) r after → Follows (rule_modifies g u i) marks r after
unfolding rule_modifies
rule-new g u v i root marks r after e h n q f =
    record {
      each = λ seen s.
          rw (e, sym (s.each i h) ∙ n, ← q) ((f (suc root) (omega arith)).each (i ∷ seen) (one-more-shown marks seen i h s));
    }

-- a node, by what is looked at in it
pub node-follows :
    (g : Grammar) (u n : ℕ) (k : Look) (before : List Bool) (r : Bool) (after : List Bool) → look_of (expr_at g n) ≡ k →
    ((bound : ℕ) → n ≤ bound → Follows (look_modifies g (rule_modifies g u) (node_modifies g (rule_modifies g u) bound) k) before r after) →
    FollowsNode g u n before r after
unfolding node_modifies
node-follows g u n k before r after q f zero h = absurd (not-suc-le-zero h)
node-follows g u n k before r after q f (suc bound) h =
    follow-as (node_modifies g (rule_modifies g u) (suc bound) n) (look_modifies g (rule_modifies g u) (node_modifies g (rule_modifies g u) bound) k) before r after
    (λ seen s. expr-by-look g (rule_modifies g u) (node_modifies g (rule_modifies g u) bound) (expr_at g n) seen
    ∙ ap (λ (j : Look). look_modifies g (rule_modifies g u) (node_modifies g (rule_modifies g u) bound) j seen) q)
    (f bound (le_of_suc-le-suc h))

pub node-keeps : (g : Grammar) (u n : ℕ) (marks : List Bool) → look_of (expr_at g n) ≡ Keeps → FollowsNode g u n marks false marks
node-keeps g u n marks q = node-follows g u n Keeps marks false marks q (λ bound h. follow-still (λ seen. looked false seen) marks false (λ seen s. refl))

pub node-changes : (g : Grammar) (u n : ℕ) (marks : List Bool) → look_of (expr_at g n) ≡ Changes → FollowsNode g u n marks true marks
node-changes g u n marks q = node-follows g u n Changes marks true marks q (λ bound h. follow-still (λ seen. looked true seen) marks true (λ seen s. refl))

pub node-one :
    (g : Grammar) (u n p : ℕ) (before : List Bool) (r : Bool) (after : List Bool) → look_of (expr_at g n) ≡ One p → p < n →
    FollowsNode g u p before r after → FollowsNode g u n before r after
node-one g u n p before r after q h f = node-follows g u n (One p) before r after q (λ bound l. f bound (omega arith))

pub node-left :
    (g : Grammar) (u n p o : ℕ) (before : List Bool) (r : Bool) (after : List Bool) → look_of (expr_at g n) ≡ Two p o → p < n → r ≡ true →
    FollowsNode g u p before r after → FollowsNode g u n before r after
node-left g u n p o before r after q h e f =
    node-follows g u n (Two p o) before r after q
    (λ bound l. follow-left (node_modifies g (rule_modifies g u) bound p) (node_modifies g (rule_modifies g u) bound o) before r after e (f bound (omega arith)))

pub node-right :
    (g : Grammar) (u n p o : ℕ) (before : List Bool) (r : Bool) (between : List Bool) (t : Bool) (after : List Bool) →
    look_of (expr_at g n) ≡ Two p o → p < n → o < n → r ≡ false →
    FollowsNode g u p before r between → FollowsNode g u o between t after → FollowsNode g u n before t after
node-right g u n p o before r between t after q h k e f j =
    node-follows g u n (Two p o) before t after q
    (λ bound l. follow-right (node_modifies g (rule_modifies g u) bound p) (node_modifies g (rule_modifies g u) bound o) before r between t after e (f bound (omega arith)) (j bound (omega arith)))

-- a name that changes the stack, or else a rule's
pub name-changes :
    (g : Grammar) (u : ℕ) (name : List ℕ) (marks : List Bool) (r : Bool) → (same name POP || same name DROP || same name POP-ALL) ≡ r → r ≡ true →
    Follows (name_modifies g (rule_modifies g u) name) marks r marks
name-changes g u name marks r q e = follow-still (name_modifies g (rule_modifies g u) name) marks r (λ seen s. rw (q ∙ e, e))

pub name-rule :
    (g : Grammar) (u : ℕ) (name : List ℕ) (before : List Bool) (c r : Bool) (after : List Bool) (found : Option ℕ) →
    (same name POP || same name DROP || same name POP-ALL) ≡ c → c ≡ false → found ≡ find_rule g name → FollowsFound g u found before r after →
    Follows (name_modifies g (rule_modifies g u) name) before r after
name-rule g u name before c r after found q e w f =
    follow-as (name_modifies g (rule_modifies g u) name) (λ seen. found_modifies g (rule_modifies g u) seen found) before r after (λ seen s. rw (q ∙ e, w)) f

-- WHITESPACE, or else COMMENT
module _ (g : Grammar) (u : ℕ) (w c : Option ℕ) (e : u ≡ length g.rules) (p : w ≡ find_rule g WHITESPACE) where
  abbrev first : List ℕ → Looked
  first seen = found_modifies g (rule_modifies g (length g.rules)) seen (find_rule g WHITESPACE)

  abbrev second : List ℕ → Looked
  second seen = found_modifies g (rule_modifies g (length g.rules)) seen (find_rule g COMMENT)

  pub skips-first : (r : Bool) (after : List Bool) → r ≡ true → FollowsFound g u w (replicate 256 false) r after → r ≡ skips_modify g
  unfolding skips_modify same
  skips-first r after t f = ((follow-left first second (replicate 256 false) r after t (rw (e, p) at f)).each [] none-shown).modifies

  pub skips-second :
      (r : Bool) (between : List Bool) (t : Bool) (after : List Bool) → c ≡ find_rule g COMMENT → r ≡ false →
      FollowsFound g u w (replicate 256 false) r between → FollowsFound g u c between t after → t ≡ skips_modify g
  unfolding skips_modify same
  skips-second r between t after q z f h =
      ((follow-right first second (replicate 256 false) r between t after z (rw (e, p) at f) (rw (e, q) at h)).each [] none-shown).modifies
