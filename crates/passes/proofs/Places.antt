-- Laws of placing reports: what one report and a list of them leave of a table, in the model and in its bytes. Assumes nothing.
use Rattle.std.specs.Prelude.{Result, Ok, Err}
use mathlib.Core.Path.{◌≡◌, refl, sym, ap, subst, ◌∙◌}
use mathlib.Core.List.{List, [], ◌∷◌, ◌++◌, append-nil}
use mathlib.Core.Bool.{Bool, true, false}
use Prim.Native.Nat.{ℕ, suc, ◌+◌, ◌*◌, ◌/◌, ◌<◌, ◌≤◌}
use native.Mathlib.Numerals.{add-one}
use native.Mathlib.Omega.{arith}
use lib.Dec.{ltb, leb, eqb}
use lib.ListN.{length, set, take, length-append, length-set}
use lib.Seq.{take-suc-set, append_snoc}
use borrow.Author.Tests.{lt-ltb, le-ltb, ne_eqb, eqb-true, ltb-true, ltb-false, leb-true, leb-false}
use Rattle.image.specs.declared.refusal.Refusal.{Refusal}
use Rattle.image.specs.declared.refusal.Refusal.TheVariants.{ReportsFull}
use Rattle.image.proofs.RefusalLaws.{refusal_number-positive}
use Rattle.tables.specs.Bytes.{set_le}
use Rattle.tables.specs.Places.{places}
use Rattle.tables.specs.Words.{words, laid, Stored, Holds}
use Rattle.tables.proofs.Bytes.{length-set_le}
use Rattle.tables.proofs.Words.{words-length}
use Rattle.passes.specs.Report.{Result as Found, refused, done, place, place_if}
use Rattle.passes.specs.Promise.{Held, held, Ran, ran, placed, next_into, place_all, Leaves, Filled, Placed}
use Rattle.passes.proofs.Laying.{laid-put}

-- a report put at a free place, and where none is free
pub put-there : (t t' : List ℕ) (c x : ℕ) → c < places 8 t → Stored t c x t' → Leaves (Ok (c + 1)) t' (placed (held t c) x)
unfolding held placed
put-there t t' c x h p =
    let l : c < length (words t) = omega (arith, words-length t) in
    rw (add-one c, p.words-set, p.bytes, lt-ltb c (length (words t)) l)

pub put-none : (t : List ℕ) (c x : ℕ) → places 8 t ≤ c → Leaves (Err ReportsFull) t (placed (held t c) x)
unfolding held placed
put-none t c x h =
    let l : length (words t) ≤ c = omega (arith, words-length t) in
    rw (le-ltb c (length (words t)) l) (refl, refl)

-- after a refusal nothing more is done: r is what a step answers, and r' the same refusal passed on
pub leaves-early :
    (r : Result ℕ Refusal) (k : Refusal) (r' : Result ℕ Refusal) (t : List ℕ) (a : Ran) (rest : Held → Ran) → r ≡ Err k → ((y : Refusal) × (r' ≡ Err y) × (y ≡ k)) → Leaves r t a → Leaves r' t (next_into rest a)
leaves-early r k r' t a rest e p h =
    let l : Leaves (Err k) t a = subst (λ (x : Result ℕ Refusal). Leaves x t a) e h in
    subst (λ (x : Result ℕ Refusal). Leaves x t (next_into rest a)) (sym (p.1 ∙ ap Err p.2))
    (rw (ne_eqb a.refusal 0 (λ z. omega (arith, l.0, refusal_number-positive k))) l)

-- and else the rest is done with what is left
pub leaves-next :
    (c : ℕ) (t : List ℕ) (a : Ran) (r : Result ℕ Refusal) (t' : List ℕ) (rest : Held → Ran) →
    Leaves (Ok c) t a → Leaves r t' (rest (held t c)) → Leaves r t' (next_into rest a)
leaves-next c t a r t' rest e h = rw (← e) h

next-next : (whole first second : Held → Ran) (a : Ran) → ((h : Held) → whole h ≡ next_into second (first h)) → next_into whole a ≡ next_into second (next_into first a)
next-next whole first second a same = go (eqb a.refusal 0) refl
  where
    go : (b : Bool) → eqb a.refusal 0 ≡ b → next_into whole a ≡ next_into second (next_into first a)
    go true e = rw e (same a.held)
    go false e = rw (e, e)

pub place-append : (h : Held) (xs ys : List ℕ) → place_all h (xs ++ ys) ≡ next_into (λ k. place_all k ys) (place_all h xs)
unfolding place_all
place-append h [] ys = refl
place-append h (x ∷ xs) ys = next-next (λ k. place_all k (xs ++ ys)) (λ k. place_all k xs) (λ k. place_all k ys) (placed h x) (λ k. place-append k xs ys)

run-here : (a : Ran) → next_into (λ h. ran 0 h) a ≡ a
run-here a = go (eqb a.refusal 0) refl
  where
    go : (b : Bool) → eqb a.refusal 0 ≡ b → next_into (λ h. ran 0 h) a ≡ a
    go true e = let z : a.refusal ≡ 0 = eqb-true a.refusal 0 e in rw e (λ i. record { refusal = sym z i; held = a.held })
    go false e = rw e

pub place-one : (h : Held) (x : ℕ) → place_all h (x ∷ []) ≡ placed h x
unfolding place_all
place-one h x = run-here (placed h x)

-- a table that holds reports, with its words beside its bytes
pub record Keeps (h : Held) (xs : List ℕ) : Type 0 where
  pub bytes : h.bytes ≡ laid (length h.bytes) xs
  pub first-words : take (length xs) h.table ≡ xs
  pub count-is : h.count ≡ length xs
  pub room : length xs ≤ length h.table
  pub places_is : length h.table ≡ length h.bytes / 8

pub holds-keeps : (t xs : List ℕ) (c : ℕ) → Holds t xs → c ≡ length xs → Keeps (held t c) xs
unfolding held
holds-keeps t xs c p e = record {
  bytes = p.bytes;
  first-words = p.first-words;
  count-is = e;
  room = omega (arith, p.room, words-length t);
  places_is = words-length t;
}

keeps-holds : (t xs : List ℕ) (c : ℕ) → Keeps (held t c) xs → (c ≡ length xs) × Holds t xs
unfolding held
keeps-holds t xs c k = (k.count-is, record { bytes = k.bytes; first-words = k.first-words; room = omega (arith, k.room, words-length t) })

-- one more report
abbrev pub with_one : Held → ℕ → Held
with_one h x = record { bytes = set_le 8 h.bytes (h.count * 8) x; table = set h.table h.count x; count = suc h.count }

pub placed-there : (h : Held) (x : ℕ) → h.count < length h.table → placed h x ≡ ran 0 (with_one h x)
unfolding placed
placed-there h x l = rw (lt-ltb h.count (length h.table) l)

pub placed-full : (h : Held) (x : ℕ) → length h.table ≤ h.count → placed h x ≡ ran 10 h
unfolding placed
placed-full h x l = rw (le-ltb h.count (length h.table) l)

pub keeps-more : (h : Held) (xs : List ℕ) (x : ℕ) → Keeps h xs → h.count < length h.table → Keeps (with_one h x) (xs ++ (x ∷ []))
keeps-more h xs x k l =
    let e : length (xs ++ (x ∷ [])) ≡ suc (length xs) = length-append xs (x ∷ []) ∙ omega arith in
    let n : length (set_le 8 h.bytes (h.count * 8) x) ≡ length h.bytes = length-set_le 8 h.bytes (h.count * 8) x in
    record {
      bytes =
          ap (λ (c : ℕ). set_le 8 h.bytes (c * 8) x) k.count-is
          ∙ ap (λ (b : List ℕ). set_le 8 b (length xs * 8) x) k.bytes
          ∙ laid-put (length h.bytes) xs x (omega (arith, k.count-is, k.places_is))
          ∙ ap (λ (m : ℕ). laid m (xs ++ (x ∷ []))) (sym n);
      first-words =
          ap (λ (m : ℕ). take m (set h.table h.count x)) (e ∙ ap suc (sym k.count-is))
          ∙ take-suc-set h.table h.count x l
          ∙ ap (λ (ws : List ℕ). ws ++ (x ∷ [])) (ap (λ (m : ℕ). take m h.table) k.count-is ∙ k.first-words);
      count-is = omega (arith, e, k.count-is);
      room = omega (arith, e, k.count-is, length-set h.table h.count x);
      places_is = omega (arith, length-set h.table h.count x, n, k.places_is);
    }

-- what a pass leaves of a table that held the reports xs is what its definition says
abbrev pub EndsAs : Found → Ran → Type 0
EndsAs (refused k) a = a.refusal ≡ k
EndsAs (done found) a = (a.refusal ≡ 0) × Keeps a.held found

place-fits : (more : List ℕ) (h : Held) (xs : List ℕ) → Keeps h xs → length (xs ++ more) ≤ length h.table → EndsAs (done (xs ++ more)) (place_all h more)
unfolding place_all
place-fits [] h xs k l = (refl, rw append-nil k)
place-fits (x ∷ more) h xs k l =
    let e : (xs ++ (x ∷ [])) ++ more ≡ xs ++ (x ∷ more) = append_snoc xs x more in
    let s : length ((xs ++ (x ∷ [])) ++ more) ≤ length (set h.table h.count x) = rw (e, length-set h.table h.count x) l in
    let u : h.count < length h.table = omega (arith, k.count-is, length-append xs (x ∷ more)) in
    rw (placed-there h x u) (rw e at (place-fits more (with_one h x) (xs ++ (x ∷ [])) (keeps-more h xs x k u) s))

place-full : (more : List ℕ) (h : Held) (xs : List ℕ) → Keeps h xs → length h.table < length (xs ++ more) → (place_all h more).refusal ≡ 10
unfolding place_all
place-full [] h xs k l = absurd (omega (arith, k.room, length-append {A = ℕ} xs []))
place-full (x ∷ more) h xs k l = go (ltb h.count (length h.table)) refl (place-full more (with_one h x) (xs ++ (x ∷ [])))
  where
    go : (b : Bool) → ltb h.count (length h.table) ≡ b →
        (Keeps (with_one h x) (xs ++ (x ∷ [])) → length (set h.table h.count x) < length ((xs ++ (x ∷ [])) ++ more) → (place_all (with_one h x) more).refusal ≡ 10) →
        (next_into (λ k. place_all k more) (placed h x)).refusal ≡ 10
    go true e r =
        let u : h.count < length h.table = ltb-true h.count (length h.table) e in
        rw (placed-there h x u) (r (keeps-more h xs x k u) (rw (append_snoc xs x more, length-set h.table h.count x) l))
    go false e r = rw (placed-full h x (ltb-false h.count (length h.table) e))

place-ends : (h : Held) (xs more : List ℕ) → Keeps h xs → EndsAs (place (length h.table) xs more) (place_all h more)
unfolding place
place-ends h xs more k = go (leb (length (xs ++ more)) (length h.table)) refl
  where
    go : (b : Bool) → leb (length (xs ++ more)) (length h.table) ≡ b → EndsAs (place_if (xs ++ more) b) (place_all h more)
    go true e = place-fits more h xs k (leb-true (length (xs ++ more)) (length h.table) e)
    go false e = place-full more h xs k (leb-false (length (xs ++ more)) (length h.table) e)

-- what a table is filled with, from what its pass leaves
pub filled_of : (a : Found) (r : Result ℕ Refusal) (t : List ℕ) (b : Ran) → Leaves r t b → EndsAs a b → Filled a r t
filled_of (refused k) (Ok c) t b l e = ap (λ (x : Ran). x.refusal) l ∙ e
filled_of (refused k) (Err j) t b l e = l.0 ∙ e
filled_of (done found) (Ok c) t b l e = let k = keeps-holds t found c (subst (λ (x : Ran). Keeps x.held found) (sym l) e.1) in (ap Ok k.0, k.1)
filled_of (done found) (Err j) t b l e = absurd (omega (arith, l.0, e.0, refusal_number-positive j))

-- every promise of a pass, from its one equation
pub placed-is : (more t : List ℕ) (c : ℕ) (t' : List ℕ) (r : Result ℕ Refusal) → Leaves r t' (place_all (held t c) more) → Placed more t c t' r
unfolding held
placed-is more t c t' r l = record { is = l; tells = tells }
  where
    tells : (xs : List ℕ) → Holds t xs → c ≡ length xs → Filled (place (places 8 t) xs more) r t'
    tells xs p q =
        let e = place-ends (held t c) xs more (holds-keeps t xs c p q) in
        filled_of (place (places 8 t) xs more) r t' (place_all (held t c) more) l (rw words-length at e)
