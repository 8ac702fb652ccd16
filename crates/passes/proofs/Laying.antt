-- Words put into a table one after the other (`put_all`): stores at other places come in any order, of stores at one place the last counts, and
-- what comes of them where the table held some reports and zeros past them. Assumes nothing.
use mathlib.Core.Path.{◌≡◌, refl, sym, ap, ◌∙◌}
use mathlib.Core.List.{List, [], ◌∷◌, ◌++◌, append_assoc, append-nil}
use Prim.Native.Nat.{ℕ, zero, suc, ◌+◌, ◌-◌, ◌*◌, ◌<◌, ◌≤◌}
use native.Mathlib.Nat.{add-zero, add_assoc, zero-add, sub-zero}
use native.Mathlib.Omega.{arith}
use lib.ListN.{length, set, take, drop, length-append, length-take, length-drop, take-append-drop}
use lib.Seq.{set_at, append_snoc}
use Rattle.tables.specs.Bytes.{zeros, byte_of, set_le}
use Rattle.tables.specs.Words.{counted, bytes_of, laid}
use Rattle.tables.proofs.Bytes.{set_le-comm, set_le-twice, length-set_le}
use Rattle.tables.proofs.Places.{clear_of}
use Rattle.tables.proofs.Words.{counted-length}
use Rattle.tables.proofs.Laid.{bytes_of-length, laid_none}
use Rattle.passes.specs.Promise.{put_all}

-- stores at two places come in any order
place-swap : (t : List ℕ) (i j v w : ℕ) → (j ≡ i → ⊥) → set_le 8 (set_le 8 t (i * 8) v) (j * 8) w ≡ set_le 8 (set_le 8 t (j * 8) w) (i * 8) v
place-swap t i j v w d = set_le-comm 8 8 t (i * 8) (j * 8) v w (λ a b ha hb e. clear_of 8 i j d b a hb ha e)

-- a store below the places that are put
pub put-below : (t : List ℕ) (b x a : ℕ) (ys : List ℕ) → b < a → put_all (set_le 8 t (b * 8) x) a ys ≡ set_le 8 (put_all t a ys) (b * 8) x
unfolding put_all
put-below t b x a [] h = refl
put-below t b x a (y ∷ ys) h = rw (put-below t b x (suc a) ys (omega arith)) (place-swap (put_all t (suc a) ys) b a x y (omega arith))

-- words put in two parts
put-append : (t : List ℕ) (a : ℕ) (xs ys : List ℕ) → put_all t a (xs ++ ys) ≡ put_all (put_all t (a + length xs) ys) a xs
unfolding put_all
put-append t a [] ys = rw (add-zero a)
put-append t a (x ∷ xs) ys =
    let e : suc a + length xs ≡ a + suc (length xs) = omega arith in
    rw (put-append t (suc a) xs ys, e)

-- words put behind others come in any order
put-swap : (t : List ℕ) (a : ℕ) (xs : List ℕ) (b : ℕ) (ys : List ℕ) → a + length xs ≤ b → put_all (put_all t a xs) b ys ≡ put_all (put_all t b ys) a xs
unfolding put_all
put-swap t a [] b ys h = refl
put-swap t a (x ∷ xs) b ys h =
    put-below (put_all t (suc a) xs) a x b ys (omega arith)
    ∙ ap (λ (u : List ℕ). set_le 8 u (a * 8) x) (put-swap t (suc a) xs b ys (omega arith))

-- of words put at the same places the last count
put-over : (t : List ℕ) (a : ℕ) (xs ys : List ℕ) → length xs ≤ length ys → put_all (put_all t a xs) a ys ≡ put_all t a ys
unfolding put_all
put-over t a [] ys h = refl
put-over t a (x ∷ xs) [] h = absurd (omega arith)
put-over t a (x ∷ xs) (y ∷ ys) h =
    rw (put-below (put_all t (suc a) xs) a x (suc a) ys (omega arith), set_le-twice 8 (put_all (put_all t (suc a) xs) (suc a) ys) (a * 8) x y)
    (ap (λ (u : List ℕ). set_le 8 u (a * 8) y) (put-over t (suc a) xs ys (omega arith)))

-- words put over the last ones of those put before
pub put-onto : (t xs : List ℕ) (p : ℕ) (ys : List ℕ) → p ≤ length xs → length xs ≤ p + length ys → put_all (put_all t 0 xs) p ys ≡ put_all t 0 (take p xs ++ ys)
put-onto t xs p ys h k =
    let l : length (take p xs) ≡ p = length-take p xs ∙ omega arith in
    let m : 0 + length (take p xs) ≡ p = omega arith in
    ap (λ (zs : List ℕ). put_all (put_all t 0 zs) p ys) (sym (take-append-drop p xs))
    ∙ ap (λ (u : List ℕ). put_all u p ys) (put-append t 0 (take p xs) (drop p xs) ∙ ap (λ (i : ℕ). put_all (put_all t i (drop p xs)) 0 (take p xs)) m)
    ∙ put-swap (put_all t p (drop p xs)) 0 (take p xs) p ys (omega arith)
    ∙ ap (λ (u : List ℕ). put_all u 0 (take p xs)) (put-over t p (drop p xs) ys (omega (arith, length-drop p xs)) ∙ ap (λ (i : ℕ). put_all t i ys) (sym m))
    ∙ sym (put-append t 0 (take p xs) ys)

pub length-put : (t : List ℕ) (a : ℕ) (xs : List ℕ) → length (put_all t a xs) ≡ length t
unfolding put_all
length-put t a [] = refl
length-put t a (x ∷ xs) = length-set_le 8 (put_all t (suc a) xs) (a * 8) x ∙ length-put t (suc a) xs

-- bytes put past the first of two lists
set-behind : (xs ys : List ℕ) (i v : ℕ) → set (xs ++ ys) (length xs + i) v ≡ xs ++ set ys i v
set-behind [] ys i v = rw (zero-add i)
set-behind (x ∷ xs) ys i v =
    let e : suc (length xs) + i ≡ suc (length xs + i) = omega arith in
    rw e (ap (λ (l : List ℕ). x ∷ l) (set-behind xs ys i v))

bytes-behind : (k : ℕ) (xs ys : List ℕ) (j v : ℕ) → set_le k (xs ++ ys) (length xs + j) v ≡ xs ++ set_le k ys j v
unfolding set_le
bytes-behind zero xs ys j v = refl
bytes-behind (suc k) xs ys j v = rw (bytes-behind k xs ys j v, add_assoc (length xs) j k) (set-behind xs (set_le k ys j v) (j + k) (byte_of v k))

-- bytes put at the start of zeros
bytes-first : (k m v : ℕ) → k ≤ m → set_le k (zeros m) 0 v ≡ counted (byte_of v) k ++ zeros (m - k)
unfolding set_le counted
bytes-first zero m v h = rw (sub-zero m)
bytes-first (suc k) m v h =
    let e : m - k ≡ suc (m - suc k) = omega arith in
    rw (bytes-first k m v (omega arith), zero-add k, e, set_at (counted (byte_of v) k) 0 (zeros (m - suc k)) (byte_of v k) k (counted-length (byte_of v) k))
    (sym (append_snoc (counted (byte_of v) k) (byte_of v k) (zeros (m - suc k))))

bytes-append : (xs ys : List ℕ) → bytes_of (xs ++ ys) ≡ bytes_of xs ++ bytes_of ys
unfolding bytes_of
bytes-append [] ys = refl
bytes-append (x ∷ xs) ys = rw (bytes-append xs ys) (sym (append_assoc (counted (byte_of x) 8) (bytes_of xs) (bytes_of ys)))

-- a report put behind those that a table holds
pub laid-put : (n : ℕ) (xs : List ℕ) (y : ℕ) → length xs * 8 + 8 ≤ n → set_le 8 (laid n xs) (length xs * 8) y ≡ laid n (xs ++ (y ∷ []))
unfolding laid bytes_of
laid-put n xs y h =
    let z : length xs * 8 ≡ length (bytes_of xs) + 0 = omega (arith, bytes_of-length xs) in
    let m : n - length xs * 8 - 8 ≡ n - length (xs ++ (y ∷ [])) * 8 = omega (arith, length-append xs (y ∷ [])) in
    ap (λ (i : ℕ). set_le 8 (bytes_of xs ++ zeros (n - length xs * 8)) i y) z
    ∙ bytes-behind 8 (bytes_of xs) (zeros (n - length xs * 8)) 0 y
    ∙ ap (λ (l : List ℕ). bytes_of xs ++ l) (bytes-first 8 (n - length xs * 8) y (omega arith))
    ∙ sym (append_assoc (bytes_of xs) (counted (byte_of y) 8) (zeros (n - length xs * 8 - 8)))
    ∙ rw (m, bytes-append xs (y ∷ []), append-nil)

-- reports put behind those that a table holds
laid_more : (n : ℕ) (xs ys : List ℕ) → (length xs + length ys) * 8 ≤ n → put_all (laid n xs) (length xs) ys ≡ laid n (xs ++ ys)
unfolding put_all
laid_more n xs [] h = rw append-nil
laid_more n xs (y ∷ ys) h =
    let e : length (xs ++ (y ∷ [])) ≡ suc (length xs) = length-append xs (y ∷ []) ∙ omega arith in
    sym (put-below (laid n xs) (length xs) y (suc (length xs)) ys (omega arith))
    ∙ ap (λ (u : List ℕ). put_all u (suc (length xs)) ys) (laid-put n xs y (omega arith))
    ∙ ap (λ (i : ℕ). put_all (laid n (xs ++ (y ∷ []))) i ys) (sym e)
    ∙ laid_more n (xs ++ (y ∷ [])) ys (omega (arith, e))
    ∙ ap (laid n) (append_snoc xs y ys)

-- reports put over as many that a table holds
pub laid-over : (n : ℕ) (xs ys : List ℕ) → length ys ≡ length xs → length xs * 8 ≤ n → put_all (laid n xs) 0 ys ≡ laid n ys
laid-over n xs ys e h =
    ap (λ (u : List ℕ). put_all u 0 ys) (sym (from-zeros xs h)) ∙ put-over (zeros n) 0 xs ys (omega arith) ∙ from-zeros ys (omega arith)
  where
    from-zeros : (zs : List ℕ) → length zs * 8 ≤ n → put_all (zeros n) 0 zs ≡ laid n zs
    from-zeros zs k = ap (λ (u : List ℕ). put_all u 0 zs) (laid_none n) ∙ laid_more n [] zs (omega arith)
