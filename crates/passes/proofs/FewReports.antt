-- What a pass may come to, a refusal of 1 to 13 or few reports; and the passes for reasons 1, 2 and 4: one report a node. Assumes nothing.
use mathlib.Core.Path.{◌≡◌, refl, ap}
use mathlib.Core.Bool.{Bool, true, false, cond}
use mathlib.Core.List.{List, [], ◌∷◌, ◌++◌}
use Prim.Native.Nat.{ℕ, suc, ◌+◌, ◌<◌, ◌≤◌}
use native.Mathlib.Omega.{arith}
use lib.Dec.{eqb, leb}
use lib.ListN.{length, length-append}
use Rattle.image.specs.Kinds.{numbers_of, parts_of}
use Rattle.image.specs.Verdict.{cannot_fail, not_progressing}
use Rattle.image.specs.Grammar.{Grammar, Rule, expr_at, bits_at, roots_of}
use Rattle.image.specs.Formed.{Formed}
use Rattle.image.proofs.Weights.{weigh, roots-weigh}
use Rattle.tables.specs.Report.{report}
use Rattle.passes.specs.Report.{Result, refused, done, onward, place_if, place, flat}
use Rattle.passes.specs.TopDown.{parts_down, down, top_down, nodes_down, is_repeat, repeat_report, repetition_at, is_choice, judged_side, choice_report, choice_at, validate_repetition, validate_choices}
use Rattle.passes.proofs.Downs.{below-down, flat-same, down-same}

-- a refusal of document 01, or at most so many reports
abbrev pub Few : ℕ → Result → Type 0
Few most (refused k) = (0 < k) × (k ≤ 13)
Few most (done found) = length found ≤ most

pub few-onward : (m n : ℕ) (a : Result) (f : List ℕ → Result) → Few m a → ((found : List ℕ) → length found ≤ m → Few n (f found)) → Few n (onward a f)
few-onward m n (refused k) f h g = h
few-onward m n (done found) f h g = g found h

pub few-more : (m n : ℕ) → m ≤ n → (a : Result) → Few m a → Few n a
few-more m n l (refused k) h = h
few-more m n l (done found) h = omega arith

pub few-if : (most : ℕ) (found : List ℕ) → length found ≤ most → (t : Bool) → Few most (place_if found t)
few-if most found h true = h
few-if most found h false = (omega arith, omega arith)

pub few-placed : (m n places : ℕ) (found more : List ℕ) → length found ≤ m → length more ≤ n → Few (m + n) (place places found more)
unfolding place
few-placed m n places found more h k =
    few-if (m + n) (found ++ more) (omega (arith, length-append found more)) (leb (length (found ++ more)) places)

-- one report at most from each
flat-few : {A : Type 0} (f : A → List ℕ) → ((x : A) → length (f x) ≤ 1) → (xs : List A) → length (flat f xs) ≤ length xs
unfolding flat
flat-few f h [] = omega arith
flat-few f h (x ∷ xs) = omega (arith, h x, flat-few f h xs, length-append (f x) (flat f xs))

one-or : (t : Bool) (x : ℕ) (xs : List ℕ) → length xs ≤ 1 → length (cond t (x ∷ []) xs) ≤ 1
one-or true x xs h = omega arith
one-or false x xs h = h

or-none : (t : Bool) (xs : List ℕ) → length xs ≤ 1 → length (cond t xs []) ≤ 1
or-none true xs h = h
or-none false xs h = omega arith

repetition-one : (g : Grammar) (n : ℕ) → length (repetition_at g n) ≤ 1
unfolding repetition_at
repetition-one g n =
    let bits : ℕ = bits_at g (numbers_of (expr_at g n)).a in
    or-none (is_repeat (expr_at g n)) (repeat_report n bits)
    (one-or (cannot_fail bits) (report n 0 1) _ (one-or (not_progressing bits) (report n 0 2) [] (omega arith)))

choice-one : (g : Grammar) (n : ℕ) → length (choice_at g n) ≤ 1
unfolding choice_at
choice-one g n =
    let side : ℕ = judged_side g (numbers_of (expr_at g n)).a in
    or-none (is_choice (expr_at g n)) (choice_report side (bits_at g side)) (one-or (cannot_fail (bits_at g side)) (report side 0 4) [] (omega arith))

-- a list found over a list, by the sizes of its parts
flat-length : (f : ℕ → List ℕ) (xs : List ℕ) → length (flat f xs) ≡ weigh (λ x. length (f x)) xs
unfolding flat weigh
flat-length f [] = refl
flat-length f (x ∷ xs) = omega (arith, flat-length f xs, length-append (f x) (flat f xs))

roots-length : (f : ℕ → List ℕ) (rs : List Rule) → length (flat (λ r. f r.root) rs) ≡ weigh (λ x. length (f x)) (roots_of rs)
unfolding flat weigh roots_of
roots-length f [] = refl
roots-length f (r ∷ rs) = omega (arith, roots-length f rs, length-append (f r.root) (flat (λ r. f r.root) rs))

or-less : (t : Bool) (w : ℕ → ℕ) (xs : List ℕ) → weigh w (cond t [] xs) ≤ weigh w xs
unfolding weigh
or-less true w xs = omega arith
or-less false w xs = omega arith

module _ (g : Grammar) (formed : Formed g) where
  abbrev size : ℕ → ℕ
  size n = length (top_down g n)

  -- the nodes below a node are those below its parts
  size-parts : (n : ℕ) → n < length g.nodes → size n ≤ suc (weigh size (parts_of (expr_at g n)))
  unfolding down
  size-parts n l =
      let parts : List ℕ = parts_down (expr_at g n) in
      let e : flat (down g n) parts ≡ flat (top_down g) parts =
      flat-same n (down g n) (top_down g) parts (below-down n (expr_at g n) (formed.node n l).below)
      (λ p k. down-same g formed n (suc p) p k (omega arith) (omega arith)) in
      omega (arith, ap length e, flat-length (top_down g) parts, or-less (eqb (numbers_of (expr_at g n)).kind 19) size (parts_of (expr_at g n)))

  -- no node is walked twice
  pub few-walked : length (nodes_down g) ≤ length g.nodes
  unfolding nodes_down
  few-walked = omega (arith, roots-length (top_down g) g.rules, roots-weigh g formed size size-parts)

  -- reasons 1 and 2
  pub few-repetitions : length (validate_repetition g) ≤ length g.nodes
  unfolding validate_repetition
  few-repetitions = omega (arith, flat-few (repetition_at g) (repetition-one g) (nodes_down g), few-walked)

  -- reason 4
  pub few-choices : length (validate_choices g) ≤ length g.nodes
  unfolding validate_choices
  few-choices = omega (arith, flat-few (choice_at g) (choice-one g) (nodes_down g), few-walked)
