-- Two results that fit a public function's promise are equal. Assumes nothing.
use Rattle.std.specs.Prelude.{Option, Some, None}
use mathlib.Core.Path.{◌≡◌, refl, sym, ◌∙◌}
use mathlib.Core.Bool.{Bool}
use Prim.Native.Nat.{ℕ}
use native.Mathlib.Omega.{arith}
use Rattle.stack.specs.Number.{state_at}
use Rattle.asking.specs.Runs.{place, any_same_top}
use Rattle.starts.specs.declared.Starts.{Starts}
use Rattle.starts.specs.Promise.{starts_of, Begun, More, At, place_of}

pub none-unique : (r q : Starts) → Begun r → Begun q → r ≡ q
none-unique r q a b = a.is ∙ sym b.is

pub add-unique : (run : Starts) (state : ℕ) (r q : Starts) → More run state r → More run state q → r ≡ q
add-unique run state r q a b = a.is ∙ sym b.is

pub at-unique : (run : Starts) (back r q : ℕ) → At run back r → At run back q → r ≡ q
at-unique run back r q a b = a.is ∙ sym b.is

-- one case of the enum says where a state stands
place-one : (r q : Option ℕ) → place_of r ≡ place_of q → r ≡ q
place-one (Some i) (Some j) e = let z : i ≡ j = cc in λ k. Some (z k)
place-one (Some i) None e = absurd (let z : ◌≡◌ {A = ℕ} 0 1 = cc in omega arith)
place-one None (Some j) e = absurd (let z : ◌≡◌ {A = ℕ} 0 1 = cc in omega arith)
place-one None None e = refl

pub find-unique : (run : Starts) (state : ℕ) (r q : Option ℕ) → place_of r ≡ place (state_at state) (starts_of run) → place_of q ≡ place (state_at state) (starts_of run) → r ≡ q
find-unique run state r q a b = place-one r q (a ∙ sym b)

pub any-same-top-unique : (run : Starts) (state : ℕ) (r q : Bool) → r ≡ any_same_top (state_at state) (starts_of run) → q ≡ any_same_top (state_at state) (starts_of run) → r ≡ q
any-same-top-unique run state r q a b = a ∙ sym b
