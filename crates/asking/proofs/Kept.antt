-- What every answer, remembered, open or fresh, and every report keep, if one step keeps it. Assumes nothing.
use mathlib.Core.Path.{◌≡◌, refl, sym, subst}
use mathlib.Core.Bool.{Bool, true, false, ◌&&◌, not, cond}
use mathlib.Core.List.{List, [], ◌∷◌, ◌++◌}
use mathlib.Core.Logic.{inl, inr}
use mathlib.Core.Option.{Option, none, some}
use Prim.Native.Nat.{ℕ, zero, suc}
use lib.Dec.{ltb}
use lib.ListN.{length}
use Rattle.stack.specs.State.{State, entry}
use Rattle.machine.specs.Lists.{Mem}
use Rattle.machine.specs.Outcome.{Outcome, unknown}
use Rattle.image.specs.Grammar.{Rule}
use Rattle.asking.specs.World.{Setup, Pair, Entry, World, Answer, refused, given, and_then, Ask, is_pair, has_pair, Look, absent, opened, known, look_answer, look, opens, answered, walks}
use Rattle.asking.specs.Ask.{step, outcome_new, outcome_at, visit_new, visit_at, visit}
use Rattle.asking.specs.StackPass.{open_nodes, walk_rules}
use Rattle.asking.proofs.Tests.{pair_is}

-- every remembered answer is one that fits its node and state
abbrev pub FitsPair : (ℕ → State → Outcome → Type 0) → Pair → Option Outcome → Type 0
FitsPair Q p none = Unit {0}
FitsPair Q p (some o) = Q p.node p.state o

abbrev pub Remembers : (ℕ → State → Outcome → Type 0) → List Entry → Type 0
Remembers Q [] = Unit {0}
Remembers Q (e ∷ es) = FitsPair Q e.pair e.answer × Remembers Q es

-- of each of these pairs
abbrev pub Each : (ℕ → State → Type 0) → List Pair → Type 0
Each R [] = Unit {0}
Each R (p ∷ ps) = R p.node p.state × Each R ps

-- what is to be kept: of states asked from, of answers, of reports
pub record Law : Type 1 where
  pub from : State → Type 0
  pub answers : ℕ → State → Outcome → Type 0
  pub reported : ℕ → State → Type 0

abbrev pub Kept : Law → World → Type 0
Kept L W = Remembers L.answers W.memo × Each L.reported W.reports

-- a refusal, or an answer that is so, with a world in which all is kept
abbrev pub Good : {A : Type 0} → Law → Answer A → (A → Type 0) → Type 0
Good L (refused k) Q = Unit {0}
Good L (given a W) Q = Kept L W × Q a

unfoldable pub Keeps : Law → Ask → Type 0
Keeps L ask = (walking : Bool) (n : ℕ) (s : State) (W : World) → L.from s → Kept L W → Good L (ask walking n s W) (L.answers n s)

pub then-good : {A B : Type 0} (L : Law) (a : Answer A) (f : A → World → Answer B) (Q : A → Type 0) (R : B → Type 0)
    → Good L a Q → ((x : A) (W : World) → Kept L W → Q x → Good L (f x W) R) → Good L (and_then a f) R
then-good L (refused k) f Q R g h = tt
then-good L (given a W) f Q R g h = h a W g.0 g.1

pub good-weaker : {A : Type 0} (L : Law) (a : Answer A) (Q R : A → Type 0) → ((x : A) → Q x → R x) → Good L a Q → Good L a R
good-weaker L (refused k) Q R f g = tt
good-weaker L (given a W) Q R f g = (g.0, f a g.1)

-- a report is added at the end
pub each-added : (R : ℕ → State → Type 0) (ps : List Pair) (n : ℕ) (s : State) → Each R ps → R n s
    → Each R (ps ++ (record { node = n; state = s } ∷ []))
each-added R [] n s h r = (r, tt)
each-added R (p ∷ ps) n s h r = (h.0, each-added R ps n s h.1 r)

pub each_at : (R : ℕ → State → Type 0) (ps : List Pair) → Each R ps → (p : Pair) → Mem p ps → R p.node p.state
each_at R [] h p m = absurd m
each_at R (x ∷ ps) h p (inl e) = subst (λ (y : Pair). R y.node y.state) (sym e) h.0
each_at R (x ∷ ps) h p (inr m) = each_at R ps h.1 p m

pub each-any : (ps : List Pair) → Each (λ n s. Unit {0}) ps
each-any [] = tt
each-any (p ∷ ps) = (tt, each-any ps)

-- the outcome table
module _ (Q : ℕ → State → Outcome → Type 0) (n : ℕ) (s : State) where
  abbrev pub Looked : Look → Type 0
  Looked absent = Unit {0}
  Looked opened = Unit {0}
  Looked (known o) = Q n s o

  pub look-fits : (es : List Entry) → Remembers Q es → Looked (look n s es)
  look-fits [] h = tt
  look-fits (e ∷ es) h = go (is_pair n s e.pair) refl e.answer h.0 (look-fits es h.1)
    where
      go : (t : Bool) → is_pair n s e.pair ≡ t → (a : Option Outcome) → FitsPair Q e.pair a → Looked (look n s es)
          → Looked (cond t (look_answer a) (look n s es))
      go true i none k r = tt
      go true i (some o) k r = subst (λ (p : Pair). Q p.node p.state o) (pair_is n s e.pair i) k
      go false i a k r = r

  pub answered-fits : (o : Outcome) → Q n s o → (es : List Entry) → Remembers Q es → Remembers Q (answered n s o es)
  answered-fits o q [] h = tt
  answered-fits o q (e ∷ es) h = go (is_pair n s e.pair) refl (answered-fits o q es h.1)
    where
      go : (t : Bool) → is_pair n s e.pair ≡ t → Remembers Q (answered n s o es)
          → Remembers Q (cond t (record { pair = e.pair; answer = some o } ∷ es) (e ∷ answered n s o es))
      go true i r = (subst (λ (p : Pair). Q p.node p.state o) (sym (pair_is n s e.pair i)) q, h.1)
      go false i r = (h.0, r)

-- UNKNOWN fits every pair, and a step keeps what the way of asking keeps
module _ (L : Law) (S : Setup) (unknown-fits : (n : ℕ) (s : State) → L.answers n s unknown)
    (step-good : (ask : Ask) → Keeps L ask → (walking : Bool) (n : ℕ) (s : State) (W : World) → L.from s → Kept L W
    → Good L (step S ask walking n s W) (L.answers n s)) where
  outcome-good : (ask : Ask) → Keeps L ask → (n : ℕ) (s : State) (W : World) → L.from s → Kept L W
      → Good L (outcome_at S ask n s W (look n s W.memo)) (L.answers n s)
  outcome-good ask h n s W f k = go (look n s W.memo) (look-fits L.answers n s W.memo k.0)
    where
      new : (t : Bool) → Good L (outcome_new S ask n s W t) (L.answers n s)
      new false = tt
      new true =
          then-good L (step S ask false n s (opens n s W)) _ (L.answers n s) (L.answers n s)
          (step-good ask h false n s (opens n s W) f ((tt, k.0), k.1))
          (λ o W₁ k₁ q. ((answered-fits L.answers n s o q W₁.memo k₁.0, k₁.1), q))

      go : (found : Look) → Looked L.answers n s found → Good L (outcome_at S ask n s W found) (L.answers n s)
      go absent q = new (ltb (length W.memo) S.outcome_places)
      go opened q = (k, unknown-fits n s)
      go (known o) q = (k, q)

  visit-at-good : (ask : Ask) → Keeps L ask → (n : ℕ) (s : State) (W : World) → L.from s → Kept L W → (t : Bool)
      → Good L (visit_at S ask n s W t) (L.answers n s)
  visit-at-good ask h n s W f k true = go (ltb (length W.walked) S.walked_places)
    where
      go : (t : Bool) → Good L (visit_new S ask n s W t) (L.answers n s)
      go true = step-good ask h true n s (walks n s W) f k
      go false = tt
  visit-at-good ask h n s W f k false = outcome-good ask h n s W f k

  pub visit-keeps : (left : ℕ) → Keeps L (visit S left)
  unfolding Keeps visit
  visit-keeps zero walking n s W f k = tt
  visit-keeps (suc left) walking n s W f k =
      visit-at-good (λ w m t W₁. visit S left w m t W₁) (visit-keeps left) n s W f k (walking && not (has_pair n s W.walked))

  pub walk-keeps : L.from entry → (rules : List Rule) (W : World) → Kept L W → Good L (walk_rules S rules W) (λ u. Unit {0})
  unfolding Keeps walk_rules
  walk-keeps f [] W k = (k, tt)
  walk-keeps f (r ∷ rules) W k =
      then-good L (visit S open_nodes true r.root entry W) (λ o W₁. walk_rules S rules W₁) (L.answers r.root entry) (λ u. Unit {0})
      (visit-keeps open_nodes true r.root entry W f k) (λ o W₁ k₁ q. walk-keeps f rules W₁ k₁)
