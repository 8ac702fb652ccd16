-- The maps that the outcome table and the walked table hold, against the lists of a world. Assumes nothing.
use mathlib.Core.Path.{◌≡◌, refl, sym, ap, ◌∙◌}
use mathlib.Core.Bool.{Bool, true, false, ◌&&◌, ◌||◌, cond}
use mathlib.Core.List.{List, [], ◌∷◌}
use mathlib.Core.Option.{Option, none, some}
use Prim.Native.Nat.{ℕ, suc}
use native.Mathlib.Omega.{arith}
use lib.Dec.{eqb}
use lib.ListN.{length}
use borrow.Author.Tests.{eq-eqb, eqb-true}
use Rattle.stack.specs.State.{State, Within, max_len}
use Rattle.stack.specs.Number.{number_of}
use Rattle.stack.proofs.Numbers.{number_of-lt}
use Rattle.machine.specs.Outcome.{Outcome}
use Rattle.asking.specs.World.{Pair, Entry, same_state, is_pair, has_pair, Look, absent, opened, known, look_answer, look, answered}
use Rattle.tables.specs.Map.{lookup, replace}
use Rattle.tables.proofs.Pair.{pair-inj}
use Rattle.outcomes.specs.Word.{outcome_number, WithinOutcome}
use Rattle.standing.specs.Stands.{key_of, answer_number, memo_map, walked_map, FormedPair, FormedPairs, FormedAnswer, FormedEntries}
use Rattle.starts.proofs.States.{same_state-number, same_state-eq, test_iff}

-- two pairs have one key exactly if they are one pair
pub key-pair : (n : ℕ) (s : State) (p : Pair) → Within max_len s → FormedPair p → eqb (key_of p.node p.state) (key_of n s) ≡ is_pair n s p
key-pair n s p hs hp = test_iff (eqb (key_of p.node p.state) (key_of n s)) (is_pair n s p) there back
  where
    there : eqb (key_of p.node p.state) (key_of n s) ≡ true → is_pair n s p ≡ true
    there e =
        let i = pair-inj 32768 p.node (number_of p.state) n (number_of s) (number_of-lt p.state hp.within) (number_of-lt s hs) (eqb-true (key_of p.node p.state) (key_of n s) e) in
        rw (eq-eqb n p.node (sym i.0), same_state-number s p.state hs hp.within) (eq-eqb (number_of s) (number_of p.state) (sym i.1))

    back : is_pair n s p ≡ true → eqb (key_of p.node p.state) (key_of n s) ≡ true
    back e = go (eqb n p.node) refl (same_state s p.state) refl e
      where
        go : (t : Bool) → eqb n p.node ≡ t → (u : Bool) → same_state s p.state ≡ u → t && u ≡ true → eqb (key_of p.node p.state) (key_of n s) ≡ true
        go true a true b e = eq-eqb (key_of p.node p.state) (key_of n s) (rw (← eqb-true n p.node a, ← same_state-eq s p.state b))
        go true a false b e = absurd (let z : ◌≡◌ {A = ℕ} 0 1 = cc in omega arith)
        go false a u b e = absurd (let z : ◌≡◌ {A = ℕ} 0 1 = cc in omega arith)

-- what the outcome table's map has of a pair
abbrev pub look_number : Look → Option ℕ
look_number absent = none
look_number opened = some 0
look_number (known o) = some (outcome_number o)

look-answer : (a : Option Outcome) → some (answer_number a) ≡ look_number (look_answer a)
look-answer none = refl
look-answer (some o) = refl

pub look-map : (n : ℕ) (s : State) (es : List Entry) → Within max_len s → FormedEntries es → lookup (memo_map es) (key_of n s) ≡ look_number (look n s es)
unfolding lookup memo_map
look-map n s [] hs h = refl
look-map n s (e ∷ es) hs h = rw (key-pair n s e.pair hs h.0) (go (is_pair n s e.pair) (look-map n s es hs h.2))
  where
    go : (t : Bool) → lookup (memo_map es) (key_of n s) ≡ look_number (look n s es)
        → cond t (some (answer_number e.answer)) (lookup (memo_map es) (key_of n s)) ≡ look_number (cond t (look_answer e.answer) (look n s es))
    go true r = look-answer e.answer
    go false r = r

pub has-map : (n : ℕ) (s : State) (ps : List Pair) → Within max_len s → FormedPairs ps → lookup (walked_map ps) (key_of n s) ≡ cond (has_pair n s ps) (some 0) none
unfolding lookup walked_map
has-map n s [] hs h = refl
has-map n s (p ∷ ps) hs h = rw (key-pair n s p hs h.0) (go (is_pair n s p) (has-map n s ps hs h.1))
  where
    go : (t : Bool) → lookup (walked_map ps) (key_of n s) ≡ cond (has_pair n s ps) (some 0) none
        → cond t (some 0) (lookup (walked_map ps) (key_of n s)) ≡ cond (t || has_pair n s ps) (some 0) none
    go true r = refl
    go false r = r

pub memo-map-length : (es : List Entry) → length (memo_map es) ≡ length es
unfolding memo_map
memo-map-length [] = refl
memo-map-length (e ∷ es) = ap suc (memo-map-length es)

pub walked-map-length : (ps : List Pair) → length (walked_map ps) ≡ length ps
unfolding walked_map
walked-map-length [] = refl
walked-map-length (p ∷ ps) = ap suc (walked-map-length ps)

-- the look of a pair: absent, open or known, from the map's answer
pub look-absent : (n : ℕ) (s : State) (es : List Entry) → look_number (look n s es) ≡ none → look n s es ≡ absent
look-absent n s es e = go (look n s es) e
  where
    go : (l : Look) → look_number l ≡ none → l ≡ absent
    go absent e = refl
    go opened e = absurd (let z : ◌≡◌ {A = ℕ} 0 1 = cc in omega arith)
    go (known o) e = absurd (let z : ◌≡◌ {A = ℕ} 0 1 = cc in omega arith)

pub look-open : (l : Look) (v : ℕ) → look_number l ≡ some v → v ≡ 0 → l ≡ opened
unfolding outcome_number
look-open absent v e z = absurd (let q : ◌≡◌ {A = ℕ} 0 1 = cc in omega arith)
look-open opened v e z = refl
look-open (known o) v e z = absurd (let q : outcome_number o ≡ v = cc in omega arith)

pub look_known : (l : Look) (v : ℕ) → look_number l ≡ some v → (v ≡ 0 → ⊥) → (o : Outcome) × (l ≡ known o) × (outcome_number o ≡ v)
look_known absent v e z = absurd (let q : ◌≡◌ {A = ℕ} 0 1 = cc in omega arith)
look_known opened v e z = absurd (z (let q : 0 ≡ v = cc in sym q))
look_known (known o) v e z = (o, refl, cc)

-- a known answer is formed
pub known-formed : (n : ℕ) (s : State) (es : List Entry) (o : Outcome) → FormedEntries es → look n s es ≡ known o → WithinOutcome max_len o
known-formed n s [] o h e = absurd (let q : ◌≡◌ {A = ℕ} 0 1 = cc in omega arith)
known-formed n s (e ∷ es) o h q = go (is_pair n s e.pair) e.answer h.1 (known-formed n s es o h.2) q
  where
    go : (t : Bool) (a : Option Outcome) → FormedAnswer a → (look n s es ≡ known o → WithinOutcome max_len o) → cond t (look_answer a) (look n s es) ≡ known o → WithinOutcome max_len o
    go true none f r q = absurd (let z : ◌≡◌ {A = ℕ} 0 1 = cc in omega arith)
    go true (some x) f r q = let z : x ≡ o = cc in rw (← z) f
    go false a f r q = r q

-- an answer is a value stored over the open pair's 0
pub answered-map : (n : ℕ) (s : State) (o : Outcome) (es : List Entry) → Within max_len s → FormedEntries es
    → memo_map (answered n s o es) ≡ replace (memo_map es) (key_of n s) (outcome_number o)
unfolding memo_map replace
answered-map n s o [] hs h = refl
answered-map n s o (e ∷ es) hs h = rw (key-pair n s e.pair hs h.0) (go (is_pair n s e.pair) refl (answered-map n s o es hs h.2))
  where
    key : ℕ
    key = key_of e.pair.node e.pair.state

    go : (t : Bool) → is_pair n s e.pair ≡ t → memo_map (answered n s o es) ≡ replace (memo_map es) (key_of n s) (outcome_number o)
        → memo_map (cond t (record { pair = e.pair; answer = some o } ∷ es) (e ∷ answered n s o es))
        ≡ cond t ((key_of n s, outcome_number o) ∷ memo_map es) ((key, answer_number e.answer) ∷ replace (memo_map es) (key_of n s) (outcome_number o))
    go true q r = ap (λ k. (k, outcome_number o) ∷ memo_map es) (eqb-true key (key_of n s) (key-pair n s e.pair hs h.0 ∙ q))
    go false q r = ap (λ m. (key, answer_number e.answer) ∷ m) r

pub answered-formed : (n : ℕ) (s : State) (o : Outcome) (es : List Entry) → WithinOutcome max_len o → FormedEntries es → FormedEntries (answered n s o es)
answered-formed n s o [] w h = tt
answered-formed n s o (e ∷ es) w h = go (is_pair n s e.pair) (answered-formed n s o es w h.2)
  where
    go : (t : Bool) → FormedEntries (answered n s o es) → FormedEntries (cond t (record { pair = e.pair; answer = some o } ∷ es) (e ∷ answered n s o es))
    go true r = (h.0, w, h.2)
    go false r = (h.0, h.1, r)
