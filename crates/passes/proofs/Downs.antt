-- Laws of the top-down passes: what is due at a node, the nodes below a node, and what a walk over them places. Assumes nothing.
use Rattle.std.specs.Prelude.{Option, Result, Ok, Err}
use Rattle.std.specs.Option.{option_to_list}
use Rattle.std.specs.Bool.{then_some}
use mathlib.Core.Path.{◌≡◌, refl, sym, ap, ◌∙◌}
use mathlib.Core.Logic.{◌⊎◌, inl, inr}
use mathlib.Core.List.{List, [], ◌∷◌, ◌++◌, append_assoc, append-nil}
use mathlib.Core.Bool.{Bool, true, false, cond}
use Prim.Native.Nat.{ℕ, zero, suc, ◌+◌, ◌%◌, ◌<◌, ◌≤◌}
use native.Mathlib.Numerals.{add-one}
use native.Mathlib.Omega.{arith}
use lib.Dec.{eqb}
use lib.ListN.{length, drop, drop_of_length-le}
use lib.Seq.{drop-cons}
use Rattle.image.specs.declared.expr.Expr.{Expr}
use Rattle.image.specs.declared.expr.Expr.TheVariants.{Choice, Rep, RepOnce, RepMin}
use Rattle.image.specs.declared.expr.Parts.{Parts}
use Rattle.image.specs.declared.expr.Parts.TheVariants.{Leaf, One, Two}
use Rattle.image.specs.declared.refusal.Refusal.{Refusal}
use Rattle.image.specs.Lists.{AllBelow}
use Rattle.image.specs.Kinds.{numbers_of, parts_of, listed}
use Rattle.image.specs.Grammar.{Grammar, Rule, expr_at, bits_at, root_at, no_rule}
use Rattle.image.specs.Formed.{Formed}
use Rattle.tables.specs.Report.{report}
use Rattle.passes.specs.Report.{flat}
use Rattle.passes.specs.TopDown.{parts_down, down, top_down, nodes_down, is_repeat, repeat_report, repetition_at, is_choice, judged_side, choice_report, choice_at}
use Rattle.passes.specs.Promise.{Held, held, ran, next_into, place_all, Leaves}
use Rattle.passes.specs.Steps.{PartsDown}
use Rattle.passes.proofs.Places.{place-append, leaves-early, leaves-next}

pub no-repeat : (e : Expr) → ((part : ℕ) → e ≡ Rep part → ⊥) → ((part : ℕ) → e ≡ RepOnce part → ⊥) → ((part count : ℕ) → e ≡ RepMin part count → ⊥) → is_repeat e ≡ false
no-repeat (Rep part) h k l = absurd (h part refl)
no-repeat (RepOnce part) h k l = absurd (k part refl)
no-repeat (RepMin part count) h k l = absurd (l part count refl)
no-repeat _ h k l = refl

pub no-choice : (e : Expr) → ((left right : ℕ) → e ≡ Choice left right → ⊥) → is_choice e ≡ false
no-choice (Choice left right) h = absurd (h left right refl)
no-choice _ h = refl

-- what is due at a node
pub repetition-none : (g : Grammar) (n : ℕ) → is_repeat (expr_at g n) ≡ false → [] ≡ repetition_at g n
unfolding repetition_at
repetition-none g n q = rw q

-- e is a repetition of the part
abbrev pub Repeats : Expr → ℕ → Type 0
Repeats e part = (e ≡ Rep part) ⊎ ((e ≡ RepOnce part) ⊎ ((count : ℕ) × (e ≡ RepMin part count)))

pub repetition-some : (g : Grammar) (n part bits : ℕ) (e : Expr) (r : Option ℕ) → e ≡ expr_at g n → Repeats e part → bits ≡ bits_at g part → option_to_list r ≡ repeat_report n bits → option_to_list r ≡ repetition_at g n
unfolding repetition_at
repetition-some g n part bits e r is (inl q) b h = rw (← is, q, ← b) h
repetition-some g n part bits e r is (inr (inl q)) b h = rw (← is, q, ← b) h
repetition-some g n part bits e r is (inr (inr q)) b h = rw (← is, q.1, ← b) h

pub choice-none : (g : Grammar) (n : ℕ) → is_choice (expr_at g n) ≡ false → [] ≡ choice_at g n
unfolding choice_at
choice-none g n q = rw q

pub choice-some :
    (g : Grammar) (n left right side bits : ℕ) (xs : List ℕ) → expr_at g n ≡ Choice left right → side ≡ judged_side g left → bits ≡ bits_at g side → xs ≡ choice_report side bits →
    xs ≡ choice_at g n
unfolding choice_at
choice-some g n left right side bits xs q j b e = rw (q, ← j, ← b) e

-- a report of a side whose bits say that it cannot fail
pub side-report : (side bits x : ℕ) → x ≡ report side 0 4 → option_to_list (then_some (eqb (bits % 2) 1) x) ≡ choice_report side bits
side-report side bits x e = go (eqb (bits % 2) 1)
  where
    go : (b : Bool) → option_to_list (then_some b x) ≡ cond b (report side 0 4 ∷ []) []
    go true = ap (λ (y : ℕ). y ∷ []) e
    go false = refl

pub side_right : (g : Grammar) (n left right : ℕ) → expr_at g n ≡ Choice left right → right ≡ judged_side g n
unfolding judged_side
side_right g n left right q = rw q

pub side-self : (g : Grammar) (n : ℕ) → is_choice (expr_at g n) ≡ false → n ≡ judged_side g n
unfolding judged_side
side-self g n q = rw q

pub below-down : (n : ℕ) (e : Expr) → AllBelow n (parts_of e) → AllBelow n (parts_down e)
below-down n e h = go (eqb (numbers_of e).kind 19)
  where
    go : (b : Bool) → AllBelow n (cond b [] (parts_of e))
    go true = tt
    go false = h

-- what is found over a list
pub flat_append : {A : Type 0} (f : A → List ℕ) (xs ys : List A) → flat f (xs ++ ys) ≡ flat f xs ++ flat f ys
unfolding flat
flat_append f [] ys = refl
flat_append f (x ∷ xs) ys = rw (flat_append f xs ys) (sym (append_assoc (f x) (flat f xs) (flat f ys)))

pub flat-same : (n : ℕ) (D E : ℕ → List ℕ) (ps : List ℕ) → AllBelow n ps → ((p : ℕ) → p < n → D p ≡ E p) → flat D ps ≡ flat E ps
unfolding flat
flat-same n D E [] w h = refl
flat-same n D E (p ∷ ps) w h = rw (h p w.0, flat-same n D E ps w.1 h)

-- the nodes below a node, in order
abbrev below : Grammar → ℕ → List ℕ
below g n = flat (down g n) (parts_down (expr_at g n))

-- a node's reports, then those of the nodes below it
split-down : (g : Grammar) (n : ℕ) (f : ℕ → List ℕ) (h : Held) → place_all h (flat f (top_down g n)) ≡ next_into (λ k. place_all k (flat f (below g n))) (place_all h (f n))
unfolding down flat
split-down g n f h = place-append h (f n) (flat f (flat (down g n) (parts_down (expr_at g n))))

-- the reports of one node and of those below it
split-two : (f : ℕ → List ℕ) (xs ys : List ℕ) (h : Held) → place_all h (flat f (xs ++ ys)) ≡ next_into (λ k. place_all k (flat f ys)) (place_all h (flat f xs))
split-two f xs ys h = ap (place_all h) (flat_append f xs ys) ∙ place-append h (flat f xs) (flat f ys)

module _ (g : Grammar) (formed : Formed g) where
  -- any two bounds above the node give the same list
  pub down-same : (a b n : ℕ) → n < a → n < b → n < length g.nodes → down g a n ≡ down g b n
  unfolding down
  down-same zero b n p q k = absurd (omega arith)
  down-same (suc a) zero n p q k = absurd (omega arith)
  down-same (suc a) (suc b) n p q k =
      ap (λ (l : List ℕ). n ∷ l)
      (flat-same n (down g a) (down g b) (parts_down (expr_at g n)) (below-down n (expr_at g n) (formed.node n k).below)
      (λ i l. down-same a b i (omega arith) (omega arith) (omega arith)))

  -- a node, and then what is below each of its parts
  module _ (n : ℕ) (k : n < length g.nodes) where
    down-parts : (ps : Parts) → PartsDown g n ps → below g n ≡ flat (top_down g) (listed ps)
    unfolding down
    down-parts ps d = rw (← d.is) (flat-same n (down g n) (top_down g) (listed ps) d.below (λ i l. down-same n (suc i) i l (omega arith) (omega arith)))

    down-one : (p : ℕ) → PartsDown g n (One p) → below g n ≡ top_down g p
    unfolding flat
    down-one p d = down-parts (One p) d ∙ append-nil (top_down g p)

    down-two : (l r : ℕ) → PartsDown g n (Two l r) → below g n ≡ top_down g l ++ top_down g r
    unfolding flat
    down-two l r d = down-parts (Two l r) d ∙ ap (λ (k : List ℕ). top_down g l ++ k) (append-nil (top_down g r))

    -- what the walk leaves, where the node's own report was placed
    module _ (f : ℕ → List ℕ) (h : Held) (c : ℕ) (t : List ℕ) (here : Leaves (Ok c) t (place_all h (f n))) where
      walk-below : (ns : List ℕ) (r : Result ℕ Refusal) (t' : List ℕ) → below g n ≡ ns → Leaves r t' (place_all (held t c) (flat f ns)) → Leaves r t' (place_all h (flat f (top_down g n)))
      walk-below ns r t' e l =
          rw (split-down g n f h, e) (leaves-next c t (place_all h (f n)) r t' (λ k. place_all k (flat f ns)) here l)

      pub walk-leaf : PartsDown g n Leaf → Leaves (Ok c) t (place_all h (flat f (top_down g n)))
      unfolding flat place_all
      walk-leaf d = walk-below [] (Ok c) t (down-parts Leaf d) refl

      pub walk-one : (p : ℕ) → PartsDown g n (One p) → (r : Result ℕ Refusal) (t' : List ℕ) → Leaves r t' (place_all (held t c) (flat f (top_down g p))) → Leaves r t' (place_all h (flat f (top_down g n)))
      walk-one p d r t' l = walk-below (top_down g p) r t' (down-one p d) l

      module _ (l r : ℕ) (d : PartsDown g n (Two l r)) where
        pub walk-two-early :
            (a : Result ℕ Refusal) (k : Refusal) (a' : Result ℕ Refusal) (t' : List ℕ) → a ≡ Err k → ((y : Refusal) × (a' ≡ Err y) × (y ≡ k)) →
            Leaves a t' (place_all (held t c) (flat f (top_down g l))) → Leaves a' t' (place_all h (flat f (top_down g n)))
        walk-two-early a k a' t' e q w =
            walk-below (top_down g l ++ top_down g r) a' t' (down-two l r d)
            (rw (split-two f (top_down g l) (top_down g r) (held t c))
            (leaves-early a k a' t' (place_all (held t c) (flat f (top_down g l))) (λ s. place_all s (flat f (top_down g r))) e q w))

        pub walk-two :
            (c' : ℕ) (t' : List ℕ) → Leaves (Ok c') t' (place_all (held t c) (flat f (top_down g l))) →
            (a : Result ℕ Refusal) (t'' : List ℕ) → Leaves a t'' (place_all (held t' c') (flat f (top_down g r))) → Leaves a t'' (place_all h (flat f (top_down g n)))
        walk-two c' t' w a t'' v =
            walk-below (top_down g l ++ top_down g r) a t'' (down-two l r d)
            (rw (split-two f (top_down g l) (top_down g r) (held t c))
            (leaves-next c' t' (place_all (held t c) (flat f (top_down g l))) a t'' (λ s. place_all s (flat f (top_down g r))) w v))

-- where the node's own report had no place
pub walk-early :
    (g : Grammar) (n : ℕ) (f : ℕ → List ℕ) (h : Held) (a : Result ℕ Refusal) (k : Refusal) (a' : Result ℕ Refusal) (t : List ℕ) → a ≡ Err k → ((y : Refusal) × (a' ≡ Err y) × (y ≡ k)) →
    Leaves a t (place_all h (f n)) → Leaves a' t (place_all h (flat f (top_down g n)))
walk-early g n f h a k a' t e q w = rw (split-down g n f h) (leaves-early a k a' t (place_all h (f n)) (λ s. place_all s (flat f (below g n))) e q w)

-- all rules in order
abbrev rule_down : Grammar → Rule → List ℕ
rule_down g r = top_down g r.root

-- what the rules from number i on find
unfoldable pub finds_from : Grammar → (ℕ → List ℕ) → ℕ → List ℕ
finds_from g f i = flat f (flat (rule_down g) (drop i g.rules))

pub rules-start : (g : Grammar) (f : ℕ → List ℕ) → finds_from g f 0 ≡ flat f (nodes_down g)
unfolding finds_from nodes_down
rules-start g f = refl

module _ (g : Grammar) (f : ℕ → List ℕ) (i root : ℕ) (h : Held) (l : i < length g.rules) (e : root ≡ root_at g i) where
  rules-step : place_all h (finds_from g f i) ≡ next_into (λ k. place_all k (finds_from g f (i + 1))) (place_all h (flat f (top_down g root)))
  unfolding finds_from root_at flat
  rules-step =
      rw (e, add-one i, drop-cons g.rules i no_rule l, flat) (split-two f (top_down g (root_at g i)) (flat (rule_down g) (drop (suc i) g.rules)) h)

  pub rules-next : (c : ℕ) (t : List ℕ) → Leaves (Ok c) t (place_all h (flat f (top_down g root))) → place_all h (finds_from g f i) ≡ place_all (held t c) (finds_from g f (i + 1))
  rules-next c t w = rules-step ∙ ap (next_into (λ k. place_all k (finds_from g f (i + 1)))) (sym w)

  pub rules-early :
      (a : Result ℕ Refusal) (k : Refusal) (a' : Result ℕ Refusal) (t : List ℕ) → a ≡ Err k → ((y : Refusal) × (a' ≡ Err y) × (y ≡ k)) →
      Leaves a t (place_all h (flat f (top_down g root))) → Leaves a' t (place_all h (finds_from g f i))
  rules-early a k a' t p q w = rw rules-step (leaves-early a k a' t (place_all h (flat f (top_down g root))) (λ s. place_all s (finds_from g f (i + 1))) p q w)

pub rules_end : (g : Grammar) (f : ℕ → List ℕ) (i : ℕ) (h : Held) → length g.rules ≤ i → place_all h (finds_from g f i) ≡ ran 0 h
unfolding finds_from flat place_all
rules_end g f i h l = rw (drop_of_length-le g.rules l)
