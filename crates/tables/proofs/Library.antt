-- The library's little-endian bytes are those of `le_at` and `set_le`. Assumes nothing.
use mathlib.Core.Path.{◌≡◌, refl, sym, ap, ◌∙◌}
use mathlib.Core.List.{List, ◌++◌}
use Prim.Native.Nat.{ℕ, zero, suc, ◌+◌, ◌-◌, ◌<◌, ◌≤◌}
use native.Mathlib.Nat.{zero-add, add-zero, div-one, zero-mul}
use native.Mathlib.Omega.{arith}
use lib.ListN.{length, get_or, set, take, drop, get_or-append, length-drop}
use lib.Seq.{get_or-append-add, get_or-drop, get_or-take, paste}
use Rattle.std.specs.Int.{w64, byte_at, byte_worth, bytes_low_first, sum_through, to_le_bytes, from_le_bytes}
use Rattle.std.proofs.lemmas.List.Edits.{paste_none, paste_more}
use Rattle.std.proofs.lemmas.List.{length-take-le}
use Rattle.std.proofs.lemmas.Slice.{put_mid-paste}
use borrow.Rule.Slice.PartMut.{put_mid}
use Rattle.tables.specs.Bytes.{zeros, byte_of, le_at, set_le}
use Rattle.tables.proofs.Bytes.{le_at-add, le_at-move, le_at-zero, get_or-zeros}

-- a sum of bytes, each by its worth
sum-le : (k : ℕ) (bs : List ℕ) → sum_through (λ i. byte_worth i (get_or bs i 0)) k ≡ le_at (suc k) bs 0
unfolding le_at
sum-le zero bs = omega arith
sum-le (suc k) bs = rw (zero-add (suc k), sum-le k bs) (omega arith)

-- bytes of zero after a number's change nothing
front : (n m : ℕ) (xs ys : List ℕ) → length xs ≡ n → ((i : ℕ) → get_or ys i 0 ≡ 0) → le_at (n + m) (xs ++ ys) 0 ≡ le_at n xs 0
front n m xs ys l z =
    let high : le_at m (xs ++ ys) (0 + n) ≡ 0 =
    le_at-zero m (xs ++ ys) (0 + n) (λ i h. rw (zero-add n, ← l) (get_or-append-add xs ys i 0 ∙ z i)) in
    let low : le_at n (xs ++ ys) 0 ≡ le_at n xs 0 = le_at-move n (xs ++ ys) xs 0 0 (λ i h. get_or-append xs ys 0 (0 + i) (omega arith)) in
    rw (le_at-add n m (xs ++ ys) 0, high, zero-mul, low) (omega arith)

-- the n bytes of t from a on, read with zeros past them
pub read-le : (n m : ℕ) (t xs : List ℕ) (a : ℕ) → n ≤ 8 → a + n ≤ length t → m ≡ n → xs ≡ take m (drop a t)
    → from_le_bytes w64 (put_mid 0 n (zeros 8) xs) ≡ le_at n t a
read-le n m t xs a small h d e =
    let l : length xs ≡ n = rw (e, d) (length-take-le n (drop a t) (omega (arith, length-drop a t))) in
    let w : n + (8 - n) ≡ 8 = omega arith in
    let z : (i : ℕ) → get_or (drop n (zeros 8)) i 0 ≡ 0 = λ i. get_or-drop n (zeros 8) i 0 ∙ get_or-zeros 8 (n + i) in
    let f : le_at 8 (xs ++ drop n (zeros 8)) 0 ≡ le_at n xs 0 = rw w at (front n (8 - n) xs (drop n (zeros 8)) l z) in
    let g : le_at n xs 0 ≡ le_at n t a = le_at-move n xs t 0 a (λ i g. rw (e, d, zero-add) (get_or-take n (drop a t) i 0 g ∙ get_or-drop a t i 0)) in
    sum-le 7 (xs ++ drop n (zeros 8)) ∙ f ∙ g

-- byte k of the library's
low-at : (i n k v : ℕ) → k < n → get_or (bytes_low_first i n v) k 0 ≡ byte_at (i + k) v
low-at i zero k v h = absurd (omega arith)
low-at i (suc n) zero v h = rw add-zero
low-at i (suc n) (suc k) v h = low-at (suc i) n k v (omega arith) ∙ ap (λ (x : ℕ). byte_at x v) (let w : suc i + k ≡ i + suc k = omega arith in w)

at-of : (k v : ℕ) → byte_at k v ≡ byte_of v k
at-of zero v = rw div-one
at-of (suc k) v = refl

-- k bytes of v copied over those from a on
copied : (k : ℕ) (t s : List ℕ) (a v : ℕ) → k ≤ length s → a + k ≤ length t → ((i : ℕ) → i < k → get_or s i 0 ≡ byte_of v i)
    → paste t a s k ≡ set_le k t a v
unfolding set_le
copied zero t s a v l h e = sym (paste_none t a s)
copied (suc k) t s a v l h e =
    let on : set (paste t a s k) (a + k) (get_or s k 0) ≡ paste t a s (k + 1) = paste_more t a s k 0 (omega arith) (omega arith) in
    let r : paste t a s k ≡ set_le k t a v = copied k t s a v (omega arith) (omega arith) (λ i g. e i (omega arith)) in
    let w : k + 1 ≡ suc k = omega arith in
    rw (← w, ← on, r, e k (omega arith))

pub write-le : (n m : ℕ) (t xs : List ℕ) (a v : ℕ) → n ≤ 8 → a + n ≤ length t → m ≡ n → xs ≡ take n (to_le_bytes w64 v) → put_mid a m t xs ≡ set_le n t a v
write-le n m t xs a v small h d e =
    let s = take n (to_le_bytes w64 v) in
    let l : length s ≡ n = length-take-le n (to_le_bytes w64 v) small in
    put_mid-paste a m t xs s n e (sym d) (sym l)
    ∙ copied n t s a v (omega arith) h
    (λ i g. get_or-take n (to_le_bytes w64 v) i 0 g ∙ low-at 0 8 i v (omega arith) ∙ ap (λ (k : ℕ). byte_at k v) (zero-add i) ∙ at-of i v)
