-- What looking for a pair in the outcome table and in the walked table says of the world they stand for. Assumes nothing.
use mathlib.Core.Path.{◌≡◌, refl, sym, ◌∙◌}
use mathlib.Core.Bool.{Bool, true, false, cond}
use mathlib.Core.Option.{Option, none, some}
use Prim.Native.Nat.{ℕ, ◌/◌, ◌<◌}
use native.Mathlib.Omega.{arith}
use lib.Dec.{lit≤}
use lib.ListN.{length}
use Rattle.stack.specs.State.{State, Within, max_len}
use Rattle.asking.specs.World.{World, has_pair, look, absent}
use Rattle.tables.specs.Places.{value_at}
use Rattle.tables.specs.Probing.{probe}
use Rattle.tables.specs.declared.Probe.TheVariants.{Found, Free, Full}
use Rattle.tables.proofs.Memo.{memo-says}
use Rattle.standing.specs.Stands.{key_of, Lent, Tables, Stands}
use Rattle.standing.proofs.Maps.{look_number, look-map, has-map, memo-map-length, walked-map-length, look-absent}
use Rattle.standing.proofs.Moves.{key-nz}

is_some : (t : Bool) (v : ℕ) → cond t (some 0) none ≡ some v → t ≡ true
is_some true v e = refl
is_some false v e = absurd (let z : ◌≡◌ {A = ℕ} 0 1 = cc in omega arith)

is_none : (t : Bool) → cond {A = Option ℕ} t (some 0) none ≡ none → t ≡ false
is_none true e = absurd (let z : ◌≡◌ {A = ℕ} 0 1 = cc in omega arith)
is_none false e = refl

module _ {L : Lent} {T : Tables} {count : ℕ} {W : World} (h : Stands L T count W) (n : ℕ) (s : State) (w : Within max_len s) where
  -- the walked table
  pub walked-found : (i : ℕ) → Found i ≡ probe 4 4 T.walked (key_of n s) → has_pair n s W.walked ≡ true
  walked-found i e =
      let y = memo-says 4 4 (lit≤ tt) L.walked h.visited (key_of n s) (key-nz n s) (Found i) e in
      is_some (has_pair n s W.walked) _ (sym (has-map n s W.walked w h.pairs) ∙ y.2)

  pub walked-free : (i : ℕ) → Free i ≡ probe 4 4 T.walked (key_of n s) → (has_pair n s W.walked ≡ false) × (length W.walked < L.walked / 4)
  walked-free i e =
      let y = memo-says 4 4 (lit≤ tt) L.walked h.visited (key_of n s) (key-nz n s) (Free i) e in
      let l = y.3 in
      (is_none (has_pair n s W.walked) (sym (has-map n s W.walked w h.pairs) ∙ y.2), omega (arith, walked-map-length W.walked))

  pub walked-full : Full ≡ probe 4 4 T.walked (key_of n s) → (has_pair n s W.walked ≡ false) × (length W.walked ≡ L.walked / 4)
  walked-full e =
      let y = memo-says 4 4 (lit≤ tt) L.walked h.visited (key_of n s) (key-nz n s) Full e in
      let l = y.1 in
      (is_none (has_pair n s W.walked) (sym (has-map n s W.walked w h.pairs) ∙ y.0), omega (arith, walked-map-length W.walked))

  -- the outcome table
  pub memo-found : (i : ℕ) → Found i ≡ probe 4 8 T.memo (key_of n s) → look_number (look n s W.memo) ≡ some (value_at 4 8 T.memo i)
  memo-found i e =
      sym (look-map n s W.memo w h.entries) ∙ (memo-says 4 8 (lit≤ tt) L.memo h.remembered (key_of n s) (key-nz n s) (Found i) e).2

  pub memo-free : (i : ℕ) → Free i ≡ probe 4 8 T.memo (key_of n s) → (look n s W.memo ≡ absent) × (length W.memo < L.memo / 8)
  memo-free i e =
      let y = memo-says 4 8 (lit≤ tt) L.memo h.remembered (key_of n s) (key-nz n s) (Free i) e in
      let l = y.3 in
      (look-absent n s W.memo (sym (look-map n s W.memo w h.entries) ∙ y.2), omega (arith, memo-map-length W.memo))

  pub memo-full : Full ≡ probe 4 8 T.memo (key_of n s) → (look n s W.memo ≡ absent) × (length W.memo ≡ L.memo / 8)
  memo-full e =
      let y = memo-says 4 8 (lit≤ tt) L.memo h.remembered (key_of n s) (key-nz n s) Full e in
      let l = y.1 in
      (look-absent n s W.memo (sym (look-map n s W.memo w h.entries) ∙ y.0), omega (arith, memo-map-length W.memo))
