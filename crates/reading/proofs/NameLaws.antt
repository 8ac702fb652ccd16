-- Laws of names: a name's number against the tests of the definition, and what the word of an Ident tells. Assumes nothing.
use Rattle.std.specs.Prelude.{Option, Some, None}
use Prim.Native.Nat.{ℕ, ◌+◌, ◌-◌, ◌*◌, ◌/◌, ◌%◌, ◌≤◌, ◌<◌}
use mathlib.Core.Path.{◌≡◌, refl, sym, ap, subst, ◌∙◌}
use mathlib.Core.Bool.{Bool, true, false, cond, ◌||◌}
use mathlib.Core.List.{List}
use mathlib.Core.Logic.{⊎_elim}
use native.Mathlib.Nat.{eq-or-lt_of_le}
use native.Mathlib.Omega.{arith}
use lib.Dec.{eqb, ltb}
use lib.ListN.{length, get_or, set}
use lib.Seq.{get_or-set_same, get_or-set_other, ext_get_or}
use borrow.Author.Tests.{eq-eqb, ne_eqb, ltb-true, ltb-false}
use Rattle.image.specs.declared.expr.Expr.TheVariants.{Ident}
use Rattle.image.specs.Lists.{same}
use Rattle.image.specs.Grammar.{Grammar, grammar, expr_at, text_of, find_rule, Says}
use Rattle.image.specs.Refusal.{refusal}
use Rattle.image.specs.Formed.{Formed}
use Rattle.image.proofs.ListLaws.{same-is}
use Rattle.image.proofs.FindLaws.{says}
use Rattle.image.proofs.GrammarLaws.{formed}
use Rattle.asking.specs.Reading.{PEEK, PEEK-ALL, POP, POP-ALL, DROP, found_kind, name_kind, kind_of, kind_at}
use Rattle.machine.specs.Kind as K
use Rattle.std.specs.Option.{SomeIff, MatchOption}
use Rattle.reading.specs.declared.names.StackName.TheVariants as B
use Rattle.reading.specs.declared.names.Name.TheVariants.{Stack}
use Rattle.reading.specs.declared.names.StackName.{StackName}
use Rattle.reading.specs.Names.{changes, builtin_number, number_of, found_number, name_word, word_of, WordAt, Resolved, found_in, FoundBelow, name_is}
use Rattle.reading.specs.Promise.{RuleAt}

-- what a number of a built-in stack name stands for, or else what a rule's name is
abbrev pub builtin_kind : ℕ → K.Kind → K.Kind
builtin_kind b rule =
    cond (eqb b 1) K.Peek
    (cond (eqb b 2) K.PeekAll
    (cond (eqb b 3) K.Pop
    (cond (eqb b 4) K.PopAll
    (cond (eqb b 5) K.Drop
    rule))))

-- the number tells what a name is
pub kind-by-number : (g : Grammar) (name : List ℕ) → name_kind g name ≡ builtin_kind (builtin_number name) (found_kind g (find_rule g name))
unfolding name_kind builtin_number
kind-by-number g name = go (same name PEEK) (same name PEEK-ALL) (same name POP) (same name POP-ALL) (same name DROP) (found_kind g (find_rule g name))
  where
    go :
        (a b c d e : Bool) (rule : K.Kind) →
        cond a K.Peek (cond b K.PeekAll (cond c K.Pop (cond d K.PopAll (cond e K.Drop rule)))) ≡
        builtin_kind (cond a 1 (cond b 2 (cond c 3 (cond d 4 (cond e 5 0))))) rule
    go true b c d e rule = refl
    go false true c d e rule = refl
    go false false true d e rule = refl
    go false false false true e rule = refl
    go false false false false true rule = refl
    go false false false false false rule = refl

-- an Ident is what its name is
pub ident-kind : (g : Grammar) (n at len : ℕ) → expr_at g n ≡ Ident at len → kind_at g n ≡ name_kind g (text_of g at len)
unfolding kind_of
ident-kind g n at len e = rw e

-- a built-in number is at most 5
pub builtin-few : (name : List ℕ) → builtin_number name ≤ 5
unfolding builtin_number
builtin-few name = go (same name PEEK) (same name PEEK-ALL) (same name POP) (same name POP-ALL) (same name DROP)
  where
    go : (a b c d e : Bool) → cond a 1 (cond b 2 (cond c 3 (cond d 4 (cond e 5 0)))) ≤ 5
    go true b c d e = omega arith
    go false true c d e = omega arith
    go false false true d e = omega arith
    go false false false true e = omega arith
    go false false false false true = omega arith
    go false false false false false = omega arith

-- POP, DROP and POP_ALL by their numbers
pub changes-by-number :
    (name : List ℕ) →
    (same name POP || same name DROP || same name POP-ALL) ≡
    (eqb (builtin_number name) 3 || eqb (builtin_number name) 5 || eqb (builtin_number name) 4)
unfolding builtin_number same
changes-by-number name = go (same name PEEK) refl (same name PEEK-ALL) refl (same name POP) refl (same name POP-ALL) refl (same name DROP) refl
  where
    go :
        (a : Bool) → same name PEEK ≡ a → (b : Bool) → same name PEEK-ALL ≡ b → (c : Bool) → same name POP ≡ c →
        (d : Bool) → same name POP-ALL ≡ d → (e : Bool) → same name DROP ≡ e →
        (same name POP || same name DROP || same name POP-ALL) ≡
        (eqb (builtin_number name) 3 || eqb (builtin_number name) 5 || eqb (builtin_number name) 4)
    go true p b q c r d s e t = rw (same-is name PEEK p)
    go false p true q c r d s e t = rw (same-is name PEEK-ALL q)
    go false p false q true r d s e t = rw (same-is name POP r)
    go false p false q false r true s e t = rw (same-is name POP-ALL s)
    go false p false q false r false s true t = rw (same-is name DROP t)
    go false p false q false r false s false t = rw (p, q, r, s, t)

-- so a built-in name tells it, by its number
pub changes-by-name :
    (name : List ℕ) (b : Option StackName) (r : Bool) → number_of b ≡ builtin_number name → MatchOption b (r ≡ false) (λ x. r ≡ changes x) →
    (same name POP || same name DROP || same name POP-ALL) ≡ r
changes-by-name name b r q h = changes-by-number name ∙ rw (← q) (go b h)
  where
    go : (b : Option StackName) → MatchOption b (r ≡ false) (λ x. r ≡ changes x) → (eqb (number_of b) 3 || eqb (number_of b) 5 || eqb (number_of b) 4) ≡ r
    go None h = sym h
    go (Some B.Peek) h = sym h
    go (Some B.PeekAll) h = sym h
    go (Some B.Pop) h = sym h
    go (Some B.PopAll) h = sym h
    go (Some B.Drop) h = sym h

-- what is found is a rule
found-is-rule : (g : Grammar) (name : List ℕ) (f : Option ℕ) → Says g name f → FoundBelow (length g.rules) f
found-is-rule g name (Some i) h = h.0
found-is-rule g name None h = tt

pub found_below : (g : Grammar) (name : List ℕ) → FoundBelow (length g.rules) (find_rule g name)
found_below g name = found-is-rule g name (find_rule g name) (says g name)

found-fewer : (m n : ℕ) (f : Option ℕ) → m ≤ n → FoundBelow m f → FoundBelow n f
found-fewer m n (Some i) l h = omega arith
found-fewer m n None l h = tt

-- there are at most 256 rules
pub found-few : (g : Grammar) (name : List ℕ) → Formed g → FoundBelow 256 (find_rule g name)
found-few g name f = found-fewer (length g.rules) 256 (find_rule g name) f.few-rules (found_below g name)

number-few : (f : Option ℕ) → FoundBelow 256 f → found_number f < 512
number-few (Some i) h = omega arith
number-few None h = omega arith

pub found-number-few : (g : Grammar) (name : List ℕ) → Formed g → found_number (find_rule g name) < 512
found-number-few g name f = number-few (find_rule g name) (found-few g name f)

-- a word tells the rule that was put into it
found-again : (f : Option ℕ) (w : ℕ) → w % 512 ≡ found_number f → found_in w ≡ f
found-again (Some i) w e =
    let h : w % 512 ≡ i + 1 = e in
    let n : (w % 512 ≡ 0 → ⊥) = λ z. omega arith in
    let m : w % 512 - 1 ≡ i = omega arith in
    rw (ne_eqb (w % 512) 0 n, m)
found-again None w e = rw (eq-eqb (w % 512) 0 e)

-- an Ident of a grammar, where its names are resolved
module _ (g : Grammar) (f : Formed g) (names : List ℕ) (r : Resolved g names) (n at len : ℕ) (h : n < length g.nodes) (e : expr_at g n ≡ Ident at len) where
  word-is : get_or names n 0 ≡ name_word g (text_of g at len)
  word-is = (r.each n (omega (arith, f.few-nodes))).node h ∙ ap (word_of g) e

  word_sum : get_or names n 0 ≡ builtin_number (text_of g at len) * 512 + found_number (find_rule g (text_of g at len))
  unfolding name_word
  word_sum = word-is

  -- its word tells the built-in name, and the rule
  pub builtin-of-word : get_or names n 0 / 512 ≡ builtin_number (text_of g at len)
  builtin-of-word = omega (arith, word_sum, found-number-few g (text_of g at len) f)

  pub rule-of-word : found_in (get_or names n 0) ≡ find_rule g (text_of g at len)
  rule-of-word =
      found-again (find_rule g (text_of g at len)) (get_or names n 0) (omega (arith, word_sum, found-number-few g (text_of g at len) f))

-- the rule that a word tells is the rule that an Ident names
pub rule_told : (names : List ℕ) (n : ℕ) (r : Option ℕ) → SomeIff r (1 ≤ get_or names n 0 % 512) (get_or names n 0 % 512 - 1) → RuleAt names n r
rule_told names n r h = let is = go r h in record { is = is; finds = λ g f q at len l e. is ∙ rule-of-word g f names q n at len l e }
  where
    go : (r : Option ℕ) → SomeIff r (1 ≤ get_or names n 0 % 512) (get_or names n 0 % 512 - 1) → r ≡ found_in (get_or names n 0)
    go (Some i) h = rw (ne_eqb (get_or names n 0 % 512) 0 (λ z. omega arith), h.1)
    go None h = rw (eq-eqb (get_or names n 0 % 512) 0 (omega (arith, h)))

-- an Ident of an image that is not refused
module _ (s names : List ℕ) (n at len : ℕ) (none : refusal s ≡ 0) (p : Resolved (grammar s) names) (h : n < length (grammar s).nodes) (e : expr_at (grammar s) n ≡ Ident at len) where
  abbrev name : List ℕ
  name = text_of (grammar s) at len

  pub builtin-at : get_or names n 0 / 512 ≡ builtin_number name
  builtin-at = builtin-of-word (grammar s) (formed s none) names p n at len h e

  -- the rule read is the rule of its name
  pub rule-read : (r : Option ℕ) → RuleAt names n r → r ≡ find_rule (grammar s) name
  rule-read r q = q.finds (grammar s) (formed s none) p at len h e

  pub rule-read-below : (r : Option ℕ) → RuleAt names n r → FoundBelow (length (grammar s).rules) r
  rule-read-below r q = rw (rule-read r q) (found_below (grammar s) name)

  -- what it is, by its built-in name, or else by its rule
  module _ (b : Option StackName) (told : get_or names n 0 / 512 ≤ 5 → number_of b ≡ get_or names n 0 / 512) where
    pub number-told : number_of b ≡ builtin_number name
    number-told = let few : get_or names n 0 / 512 ≤ 5 = omega (arith, builtin-at, builtin-few name) in told few ∙ builtin-at

    pub kind-told : (t : Option StackName) → b ≡ t → kind_at (grammar s) n ≡ builtin_kind (number_of t) (found_kind (grammar s) (find_rule (grammar s) name))
    kind-told t q = ident-kind (grammar s) n at len e ∙ (kind-by-number (grammar s) name ∙ ap (λ (c : ℕ). builtin_kind c (found_kind (grammar s) (find_rule (grammar s) name))) (sym number-told ∙ ap number_of q))

    pub kind-found : (r : Option ℕ) → RuleAt names n r → b ≡ None → found_kind (grammar s) r ≡ kind_at (grammar s) n
    kind-found r q o = ap (found_kind (grammar s)) (rule-read r q) ∙ sym (kind-told None o)

-- a built-in name is what its number tells
pub is-builtin : (rule : K.Kind) (b : StackName) → name_is (Stack b) ≡ builtin_kind (number_of (Some b)) rule
is-builtin rule B.Peek = refl
is-builtin rule B.PeekAll = refl
is-builtin rule B.Pop = refl
is-builtin rule B.PopAll = refl
is-builtin rule B.Drop = refl

-- the number settles the built-in name
pub number-one : (x y : Option StackName) → number_of x ≡ number_of y → x ≡ y
number-one x y e = sym (again x) ∙ (ap name_at e ∙ again y)
  where
    name_at : ℕ → Option StackName
    name_at b = cond (eqb b 1) (Some B.Peek) (cond (eqb b 2) (Some B.PeekAll) (cond (eqb b 3) (Some B.Pop) (cond (eqb b 4) (Some B.PopAll) (cond (eqb b 5) (Some B.Drop) None))))

    again : (x : Option StackName) → name_at (number_of x) ≡ x
    again None = refl
    again (Some B.Peek) = refl
    again (Some B.PeekAll) = refl
    again (Some B.Pop) = refl
    again (Some B.PopAll) = refl
    again (Some B.Drop) = refl

-- one word more is settled
pub words_more :
    (g : Grammar) (names : List ℕ) (n w : ℕ) → n < length names → ((k : ℕ) → k < n → WordAt g k (get_or names k 0)) → WordAt g n w →
    (k : ℕ) → k < n + 1 → WordAt g k (get_or (set names n w) k 0)
words_more g names n w h each here k l =
    ⊎_elim
    (λ (q : k ≡ n). subst (λ (j : ℕ). WordAt g j (get_or (set names n w) j 0)) (sym q) (rw (get_or-set_same names n w 0 h) here))
    (λ (m : k < n). rw (get_or-set_other names n k w 0 (λ q. omega arith)) (each k m))
    (eq-or-lt_of_le (omega (arith, l)))

-- two arrays that are resolved are the same
word-one : (g : Grammar) (n v w : ℕ) → WordAt g n v → WordAt g n w → v ≡ w
word-one g n v w p q = go (ltb n (length g.nodes)) refl
  where
    go : (b : Bool) → ltb n (length g.nodes) ≡ b → v ≡ w
    go true e = p.node (ltb-true n (length g.nodes) e) ∙ sym (q.node (ltb-true n (length g.nodes) e))
    go false e = p.rest (ltb-false n (length g.nodes) e) ∙ sym (q.rest (ltb-false n (length g.nodes) e))

pub resolved-one : (g : Grammar) (x y : List ℕ) → Resolved g x → Resolved g y → x ≡ y
resolved-one g x y p q =
    ext_get_or 0 x y (p.long ∙ sym q.long)
    (λ n h. word-one g n (get_or x n 0) (get_or y n 0) (p.each n (omega (arith, p.long))) (q.each n (omega (arith, p.long))))
