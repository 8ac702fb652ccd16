-- Laws that the proofs of the words share: lines made byte by byte, what is no number, one step of each definition by index. Assumes nothing.
use mathlib.Core.Path.{◌≡◌, refl, sym, subst, ◌∙◌}
use mathlib.Core.Bool.{Bool, true, false, cond}
use mathlib.Core.List.{List, [], ◌∷◌}
use Prim.Native.Nat.{ℕ, zero, suc, ◌+◌, ◌-◌, ◌≤◌, ◌<◌}
use native.Mathlib.Numerals.{add-one}
use native.Mathlib.Omega.{arith}
use borrow.Author.Tests.{le-ltb}
use denote.Param.Members.{Mut, Called}
use lib.Dec.{eqb}
use lib.ListN.{length, get_or}
use lib.Seq.{ext_get_or}
use Rattle.std.proofs.Common.{None}
use Rattle.std.proofs.lemmas.Bool.Decides.{nat_tests}
use Rattle.std.specs.Array.{IsFromFnResult, IsFromFnResultFrom}
use Rattle.image.specs.Lists.{up_to}
use Rattle.image.specs.Grammar.{Grammar, expr_at, root_at}
use Rattle.image.proofs.ListLaws.{up-length, up_at}
use Rattle.words.specs.Line.{pad_to}
use Rattle.words.specs.Texts.{Text}
use Rattle.words.specs.Number.{step, number_to, number_if, number_of}
use Rattle.words.specs.Owner.{is_part, top_to, rule_to}

-- a list whose every element is that of f
pub up_to-by_all : (f : ℕ → ℕ) (out : List ℕ) (n : ℕ) → length out ≡ n → ((j : ℕ) → j < n → get_or out j 0 ≡ f j) → out ≡ up_to f n
up_to-by_all f out n l each =
    ext_get_or 0 out (up_to f n) (l ∙ sym (up-length f n)) (λ j k. each j (omega (arith, k, l)) ∙ sym (up_at f n j 0 (omega (arith, k, l))))

-- a closure that leaves what it captures and answers h makes h's list
from_fn_each : {F : Type 0} (g : Mut F (ℕ × Unit {0}) ℕ) (h : ℕ → ℕ) (f : F) (ys : List ℕ) (i n : ℕ) → IsFromFnResultFrom g f ys i n → ((k y : ℕ) (q : F) → Called g f (k, tt) y q → (q ≡ f) × (y ≡ h k)) → (k : ℕ) → k < n → get_or ys (i + k) 0 ≡ h (i + k)
from_fn_each g h f ys i zero all by k l = absurd (omega (arith, l))
from_fn_each g h f ys i (suc n) all by zero l =
    let e : i + 0 ≡ i = omega arith in
    let p = by i all.1 all.0 all.3 in
    rw e (all.2.1 0 ∙ p.1)
from_fn_each {F} g h f ys i (suc n) all by (suc k) l =
    let e : i + suc k ≡ i + 1 + k = omega arith in
    let rest : IsFromFnResultFrom g f ys (i + 1) n = subst (λ (q : F). IsFromFnResultFrom g q ys (i + 1) n) (by i all.1 all.0 all.3).0 all.4 in
    rw e (from_fn_each g h f ys (i + 1) n rest by k (omega (arith, l)))

pub up_to-from_fn : {F : Type 0} (g : Mut F (ℕ × Unit {0}) ℕ) (h : ℕ → ℕ) (f : F) (ys : List ℕ) (n : ℕ) → IsFromFnResult g f ys n → ((k y : ℕ) (q : F) → Called g f (k, tt) y q → (q ≡ f) × (y ≡ h k)) → ys ≡ up_to h n
up_to-from_fn g h f ys n made by = up_to-by_all h ys n made.long (λ j l. let e : 0 + j ≡ j = omega arith in rw e at (from_fn_each g h f ys 0 n made.each by j l))

-- inside a list what stands past its end is never read
pub get_or-any : (l : List ℕ) (j d e : ℕ) → j < length l → get_or l j d ≡ get_or l j e
get_or-any [] j d e h = absurd (omega (arith, h))
get_or-any (x ∷ l) zero d e h = refl
get_or-any (x ∷ l) (suc j) d e h = get_or-any l j d e (omega (arith, h))

-- what is no number stays none
step-past : (n b : ℕ) → 4294967296 ≤ n → 4294967296 ≤ step n b
step-past n b h = grind (arith, nat_tests)

number-past : (text : List ℕ) (i d : ℕ) → 4294967296 ≤ number_to text i → 4294967296 ≤ number_to text (i + d)
number-past text i zero h = let e : i + 0 ≡ i = omega arith in rw e h
number-past text i (suc d) h =
    let e : i + suc d ≡ suc (i + d) = omega arith in
    rw e (step-past (number_to text (i + d)) (get_or text (i + d) 0) (number-past text i d h))

number_if-none : (n : ℕ) → number_if n ≡ None → 4294967296 ≤ n
number_if-none n h = grind (arith, nat_tests)

number_if-past : (n : ℕ) → 4294967296 ≤ n → number_if n ≡ None
number_if-past n h = rw (le-ltb n 4294967296 h)

-- where a byte leads to no number, the text has none
pub number-none : (text : List ℕ) (i : ℕ) → i < length text → number_if (step (number_to text i) (get_or text i 0)) ≡ None → number_of text ≡ None
number-none text i l h =
    let e : suc i + (length text - suc i) ≡ length text = omega (arith, l) in
    number_if-past _ (rw e at (number-past text (suc i) (length text - suc i) (number_if-none _ h)))

pub top-next : (g : Grammar) (n m : ℕ) → top_to g n (m + 1) ≡ cond (is_part (top_to g n m) (expr_at g m)) m (top_to g n m)
unfolding top_to
top-next g n m = rw add-one

pub rule-next : (g : Grammar) (root i : ℕ) → rule_to g root (i + 1) ≡ cond (eqb (root_at g i) root) i (rule_to g root i)
unfolding rule_to
rule-next g root i = rw add-one

-- a text is itself, and its line is the text with spaces behind it
pub said : (r : List ℕ) → Text r (pad_to 64 r) r
said r = record { is = refl; padded = refl }

pub cond-true : {b : Bool} {x : ℕ} (y : ℕ) → b ≡ true → x ≡ cond b x y
cond-true y e = rw e

pub cond-false : {b : Bool} (x : ℕ) {y : ℕ} → b ≡ false → y ≡ cond b x y
cond-false x e = rw e
