-- Laws of the search for left recursion: the trail, the search node by node, and the pass over the rules. Assumes nothing.
use Rattle.std.specs.Prelude.{Option, Some, None, Result, Ok, Err, reverse}
use Rattle.std.specs.List.{list_any}
use Rattle.std.specs.Option.{MatchOption, IsSomeAnd}
use Rattle.std.proofs.lemmas.List.{reverse-append, reverse-reverse, length-reverse}
use Rattle.std.proofs.lemmas.Cmp.{nat_eq_equiv}
use Rattle.std.proofs.lemmas.List.Sorted.{IsPermutation-reverse, list_any-IsPermutation}
use mathlib.Core.Path.{◌≡◌, refl, sym, ap, subst, ◌∙◌}
use mathlib.Core.Logic.{◌⊎◌, inl, inr}
use mathlib.Core.List.{List, [], ◌∷◌, ◌++◌, reverse-cons}
use mathlib.Core.Bool.{Bool, true, false}
use Prim.Native.Nat.{ℕ, zero, suc, ◌+◌, ◌-◌, ◌/◌, ◌%◌, ◌<◌, ◌≤◌}
use native.Mathlib.Numerals.{add-one}
use native.Mathlib.Omega.{arith}
use lib.Dec.{ltb, eqb}
use lib.ListN.{length, length-append, length-set, get_or, set, replicate, drop, take, drop_of_length-le}
use lib.Seq.{drop-cons, take_at, append_snoc}
use borrow.Author.Tests.{lt-ltb, le-ltb, eq-eqb, ne_eqb, ltb-true, ltb-false}
use Rattle.image.specs.declared.expr.Expr.{Expr}
use Rattle.image.specs.declared.expr.Expr.TheVariants.{Str, Insens, Range, Ident, PeekSlice, PosPred, NegPred, Seq, Choice, Opt, Rep, RepOnce, RepExact, RepMin, RepMax, RepMinMax, Push, PushLiteral, NodeTag}
use Rattle.image.specs.declared.refusal.Refusal.{Refusal}
use Rattle.image.specs.declared.refusal.Refusal.TheVariants.{TooDeep, LongSearch}
use Rattle.image.specs.RefusalNumber.{refusal_number, number_of}
use Rattle.image.proofs.RefusalLaws.{refusal_number-positive}
use Rattle.image.specs.Grammar.{Grammar, Rule, no_rule, expr_at, bits_at, root_at, find_rule, text_of, Says}
use Rattle.image.proofs.FindLaws.{says}
use Rattle.tables.specs.Places.{places}
use Rattle.tables.specs.Report.{report}
use Rattle.tables.specs.Words.{Holds}
use Rattle.tables.proofs.Words.{words-length}
use Rattle.passes.specs.Report.{Result as Found, place_if}
use Rattle.passes.specs.LeftRecursion.{Sought, stopped, Seeker, is_on, or_else, check_on, check_name, check_expr, enter, search_from, found_in, rule_from, left_recursion}
use Rattle.passes.specs.Promise.{Held, held, found_number, RulesNamed, trail_rules, trail_of, route_of, sought, Sound, Answers, Ran, ran, placed, Leaves, Filled, rule_into, next_into, left_into, counted, LeftPass}
use Rattle.passes.specs.Steps.{rule_at, find_with, with_trail, told, Fair, Seeks}
use Rattle.passes.specs.declared.left.Find.{Find}
use Rattle.passes.specs.declared.left.Search.{Search}
use Rattle.passes.proofs.Places.{Keeps, EndsAs, with_one, holds-keeps, keeps-more, placed-there, placed-full, filled_of, leaves-early}

-- a number resolved once stands for the rule that is found
rule-again : (f : Option ℕ) → rule_at (found_number f) ≡ f
rule-again (Some i) = refl
rule-again None = refl

-- and it is that of a rule
found-low : (g : Grammar) (x : List ℕ) (f : Option ℕ) → Says g x f → found_number f ≤ length g.rules
found-low g x (Some i) s = s.0
found-low g x None s = omega arith

pub named-low : (g : Grammar) (rules : List ℕ) (n at len : ℕ) → RulesNamed g rules → Ident at len ≡ expr_at g n → get_or rules n 0 ≤ length g.rules
named-low g rules n at len named e = rw (named n at len (sym e)) (found-low g (text_of g at len) (find_rule g (text_of g at len)) (says g (text_of g at len)))

-- a rule is on the trail whichever way it is read
on-any : (r : ℕ) (trail : List ℕ) → is_on r trail ≡ list_any (λ q. eqb q r) trail
on-any r [] = refl
on-any r (q ∷ trail) = rw (nat_eq_equiv.symm r q, on-any r trail)

pub on-trail : (r : ℕ) (trail : List ℕ) → list_any (λ q. eqb q r) trail ≡ is_on r (reverse trail)
on-trail r trail = list_any-IsPermutation (λ q. eqb q r) trail (reverse trail) (IsPermutation-reverse trail) ∙ sym (on-any r (reverse trail))

-- what a search answers, by equal definitions
seeks_by : (a b : Sought) (before : List ℕ) (r : Result (Option ℕ) Refusal) (d : ℕ) (after : List ℕ) → a ≡ b → Seeks b before r d after → Seeks a before r d after
seeks_by a b before r d after e s = record { is = s.is ∙ sym e; restored = s.restored; sound = s.sound }

-- a node over one part, and one over none
abbrev pub Over : Expr → ℕ → Type 0
Over e part =
    (e ≡ PosPred part) ⊎ ((e ≡ NegPred part) ⊎ ((e ≡ Opt part) ⊎ ((e ≡ Rep part) ⊎ ((e ≡ RepOnce part) ⊎ (((a : ℕ) × (e ≡ RepExact part a))
    ⊎ (((a : ℕ) × (e ≡ RepMin part a)) ⊎ (((a : ℕ) × (e ≡ RepMax part a)) ⊎ (((a : ℕ) × (b : ℕ) × (e ≡ RepMinMax part a b)) ⊎ ((e ≡ Push part) ⊎ (e ≡ NodeTag part))))))))))

abbrev pub Bare : Expr → Type 0
Bare e =
    ((a : ℕ) × (b : ℕ) × (e ≡ Str a b)) ⊎ (((a : ℕ) × (b : ℕ) × (e ≡ Insens a b)) ⊎ ((e ≡ Range)
    ⊎ (((a : ℕ) × (b : ℕ) × (d : ℕ) × (e ≡ PeekSlice a b d)) ⊎ ((a : ℕ) × (b : ℕ) × (e ≡ PushLiteral a b)))))

module _ (g : Grammar) (first : ℕ) (seek : Seeker) (trail : List ℕ) (entered n : ℕ) (e : Expr) where
  part-is : (part : ℕ) → Over e part → check_expr g first seek trail entered n e ≡ seek trail entered part
  unfolding check_expr
  part-is part (inl q) = rw q
  part-is part (inr (inl q)) = rw q
  part-is part (inr (inr (inl q))) = rw q
  part-is part (inr (inr (inr (inl q)))) = rw q
  part-is part (inr (inr (inr (inr (inl q))))) = rw q
  part-is part (inr (inr (inr (inr (inr (inl q)))))) = rw q.1
  part-is part (inr (inr (inr (inr (inr (inr (inl q))))))) = rw q.1
  part-is part (inr (inr (inr (inr (inr (inr (inr (inl q)))))))) = rw q.1
  part-is part (inr (inr (inr (inr (inr (inr (inr (inr (inl q))))))))) = rw q.2
  part-is part (inr (inr (inr (inr (inr (inr (inr (inr (inr (inl q)))))))))) = rw q
  part-is part (inr (inr (inr (inr (inr (inr (inr (inr (inr (inr q)))))))))) = rw q

  leaf-is : Bare e → check_expr g first seek trail entered n e ≡ stopped 0 entered
  unfolding check_expr
  leaf-is (inl q) = rw q.2
  leaf-is (inr (inl q)) = rw q.2
  leaf-is (inr (inr (inl q))) = rw q
  leaf-is (inr (inr (inr (inl q)))) = rw q.3
  leaf-is (inr (inr (inr (inr q)))) = rw q.2

-- entering a node
enter-next :
    (g : Grammar) (first left : ℕ) (tr : List ℕ) (c n : ℕ) (e : Expr) → c < 65536 → e ≡ expr_at g n →
    enter g first (suc left) tr c n ≡ check_expr g first (enter g first left) tr (c + 1) n e
unfolding enter
enter-next g first left tr c n e l q = rw (lt-ltb c 65536 l, add-one c, q)

module _ (g : Grammar) (first left : ℕ) (tr : List ℕ) (c n : ℕ) (before : List ℕ) where
  pub enter-12 : left ≡ 0 → Seeks (enter g first left tr c n) before (Err TooDeep) c before
  unfolding enter
  enter-12 z = rw z (record { is = refl; restored = tt; sound = inl refl })

  module _ (some : left ≡ 0 → ⊥) where
    pub enter-13 : 65536 ≤ c → Seeks (enter g first left tr c n) before (Err LongSearch) c before
    unfolding enter
    enter-13 l = let z : left ≡ suc (left - 1) = omega arith in rw (z, le-ltb c 65536 l) (record { is = refl; restored = tt; sound = inr refl })

    module _ (l : c < 65536) where
      enter-on : (e : Expr) → e ≡ expr_at g n → enter g first left tr c n ≡ check_expr g first (enter g first (left - 1)) tr (c + 1) n e
      enter-on e q = let z : left ≡ suc (left - 1) = omega arith in ap (λ (m : ℕ). enter g first m tr c n) z ∙ enter-next g first (left - 1) tr c n e l q

      module _ (r : Result (Option ℕ) Refusal) (d : ℕ) (after : List ℕ) where
        pub enter-name :
            (rules : List ℕ) → RulesNamed g rules → (at len : ℕ) → Ident at len ≡ expr_at g n →
            Seeks (check_name g first (enter g first (left - 1)) tr (c + 1) n (rule_at (get_or rules n 0))) before r d after → Seeks (enter g first left tr c n) before r d after
        unfolding check_expr
        enter-name rules named at len q s =
            seeks_by _ _ before r d after
            (enter-on (Ident at len) q
            ∙ ap (check_name g first (enter g first (left - 1)) tr (c + 1) n) (sym (ap rule_at (named n at len (sym q)) ∙ rule-again (find_rule g (text_of g at len)))))
            s

        pub enter-both :
            (left' right : ℕ) → Choice left' right ≡ expr_at g n →
            Seeks (or_else (enter g first (left - 1) tr (c + 1) left') (λ e. enter g first (left - 1) tr e right)) before r d after → Seeks (enter g first left tr c n) before r d after
        unfolding check_expr
        enter-both left' right q s = seeks_by _ _ before r d after (enter-on (Choice left' right) q) s

        module _ (left' right bits : ℕ) (q : Seq left' right ≡ expr_at g n) (b : bits ≡ bits_at g left') where
          pub enter-pair :
              bits / 4 % 2 ≡ 1 → Seeks (or_else (enter g first (left - 1) tr (c + 1) left') (λ e. enter g first (left - 1) tr e right)) before r d after →
              Seeks (enter g first left tr c n) before r d after
          unfolding check_expr
          enter-pair h s = seeks_by _ _ before r d after (enter-on (Seq left' right) q ∙ rw (← b, eq-eqb (bits / 4 % 2) 1 h)) s

          pub enter-left : (bits / 4 % 2 ≡ 1 → ⊥) → Seeks (enter g first (left - 1) tr (c + 1) left') before r d after → Seeks (enter g first left tr c n) before r d after
          unfolding check_expr
          enter-left h s = seeks_by _ _ before r d after (enter-on (Seq left' right) q ∙ rw (← b, ne_eqb (bits / 4 % 2) 1 h)) s

        pub enter-part :
            (e : Expr) (part : ℕ) → e ≡ expr_at g n → Over e part → Seeks (enter g first (left - 1) tr (c + 1) part) before r d after → Seeks (enter g first left tr c n) before r d after
        enter-part e part q o s = seeks_by _ _ before r d after (enter-on e q ∙ part-is g first (enter g first (left - 1)) tr (c + 1) n e part o) s

      pub enter-leaf : (e : Expr) → e ≡ expr_at g n → Bare e → Seeks (enter g first left tr c n) before (Ok None) (c + 1) before
      enter-leaf e q b =
          seeks_by _ _ before (Ok None) (c + 1) before (enter-on e q ∙ leaf-is g first (enter g first (left - 1)) tr (c + 1) n e b)
          (record { is = refl; restored = refl; sound = tt })

-- the trail with one rule more, and with it gone again
longer-route : (trail : List ℕ) (r : ℕ) → reverse (trail ++ (r ∷ [])) ≡ r ∷ reverse trail
longer-route trail r = reverse-append trail (r ∷ [])

shorter : (trail : List ℕ) (r : ℕ) → take (length (trail ++ (r ∷ [])) - 1) (trail ++ (r ∷ [])) ≡ trail
shorter trail r = take_at trail (r ∷ []) (length (trail ++ (r ∷ [])) - 1) (omega (arith, length-append trail (r ∷ [])))

-- a name
module _ (g : Grammar) (first : ℕ) (seek : Seeker) (trail : List ℕ) (c n x : ℕ) where
  abbrev named : Sought
  named = check_name g first seek (reverse trail) c n (rule_at x)

  -- another rule than the first: b says whether it is on the trail
  module _ (r : ℕ) (one_more : x ≡ suc r) (other : r ≡ first → ⊥) (b : Bool) (items : List ℕ) (t : items ≡ trail) (v : b ≡ list_any (λ q. eqb q r) items) where
    other-is : named ≡ check_on g first seek (reverse trail) c r b
    other-is =
        ap (λ (y : ℕ). check_name g first seek (reverse trail) c n (rule_at y)) one_more
        ∙ rw (ne_eqb r first other, v, t, on-trail r trail)

    pub name-again : b ≡ true → Seeks named trail (Ok None) c trail
    name-again m = seeks_by named (stopped 0 c) trail (Ok None) c trail (other-is ∙ rw m) (record { is = refl; restored = refl; sound = tt })

    module _ (m : b ≡ false) (longer : List ℕ) (p : longer ≡ trail ++ (r ∷ [])) (root : ℕ) (e : root ≡ root_at g r) where
      entered-is : named ≡ seek (reverse longer) c root
      entered-is = other-is ∙ rw (m, p, longer-route trail r, e)

      pub name-found : (ident d : ℕ) (after : List ℕ) → Seeks (seek (reverse longer) c root) longer (Ok (Some ident)) d after → Seeks named trail (Ok (Some ident)) d after
      name-found ident d after s = record { is = s.is ∙ sym entered-is; restored = tt; sound = s.sound }

      pub name-refused :
          (a : Result (Option ℕ) Refusal) (k : Refusal) (a' : Result (Option ℕ) Refusal) (d : ℕ) (after : List ℕ) → a ≡ Err k → ((y : Refusal) × (a' ≡ Err y) × (y ≡ k)) →
          Seeks (seek (reverse longer) c root) longer a d after → Seeks named trail a' d after
      name-refused a k a' d after q y s =
          let t : Seeks (seek (reverse longer) c root) longer (Err k) d after = subst (λ (b : Result (Option ℕ) Refusal). Seeks (seek (reverse longer) c root) longer b d after) q s in
          subst (λ (b : Result (Option ℕ) Refusal). Seeks named trail b d after) (sym (y.1 ∙ ap Err y.2)) (record { is = t.is ∙ sym entered-is; restored = tt; sound = t.sound })

      pub name-none : (d : ℕ) (after rest : List ℕ) → Seeks (seek (reverse longer) c root) longer (Ok None) d after → rest ≡ take (length after - 1) after → Seeks named trail (Ok None) d rest
      name-none d after rest s q =
          record {
            is = s.is ∙ sym entered-is;
            restored = q ∙ ap (λ (l : List ℕ). take (length l - 1) l) (s.restored ∙ p) ∙ shorter trail r;
            sound = tt;
          }

-- the search from a rule
pub from-is :
    (g : Grammar) (i root : ℕ) (a : Sought) (trail : List ℕ) → trail ≡ i ∷ [] → root ≡ root_at g i → a ≡ enter g i 256 (reverse trail) 0 root → a ≡ search_from g i
unfolding search_from
from-is g i root a trail p q e = e ∙ rw (p, q)

-- a trail as an array: its rules, then zeros
put-behind : (xs ys : List ℕ) (y x : ℕ) → set (xs ++ (y ∷ ys)) (length xs) x ≡ xs ++ (x ∷ ys)
put-behind [] ys y x = refl
put-behind (z ∷ xs) ys y x = ap (λ (l : List ℕ). z ∷ l) (put-behind xs ys y x)

rules-are : (route : List ℕ) → length route ≤ 257 → trail_rules route ≡ reverse route ++ replicate (257 - length route) 0
unfolding trail_rules
rules-are [] l = refl
rules-are (r ∷ route) l =
    let n : 257 - length route ≡ suc (257 - suc (length route)) = omega (arith, l) in
    rw (rules-are route (omega (arith, l)), n)
    (ap (λ (m : ℕ). set (reverse route ++ (0 ∷ replicate (257 - suc (length route)) 0)) m r) (sym (length-reverse route))
    ∙ put-behind (reverse route) (replicate (257 - suc (length route)) 0) 0 r
    ∙ sym (append_snoc (reverse route) r (replicate (257 - suc (length route)) 0))
    ∙ ap (λ (l : List ℕ). l ++ replicate (257 - suc (length route)) 0) (sym (reverse-cons r route)))

pub trail-kept :
    (items rules : List ℕ) → length items ≤ 257 → rules ≡ items ++ replicate (257 - length items) 0 → record { rules = rules; len = length items } ≡ trail_of (reverse items)
trail-kept items rules l e =
    let n : length (reverse items) ≡ length items = length-reverse items in
    let q : rules ≡ trail_rules (reverse items) =
    e ∙ sym (rules-are (reverse items) (omega (arith, n, l)) ∙ rw (reverse-reverse items, n) refl) in
    λ i. record { rules = q i; len = sym n i }

-- and read again
route-again : (items : List ℕ) → length items ≤ 257 → route_of (trail_of (reverse items)) ≡ reverse items
route-again items l =
    let n : length (reverse items) ≡ length items = length-reverse items in
    rw (rules-are (reverse items) (omega (arith, n, l)), reverse-reverse items)
    (ap reverse (take_at items (replicate (257 - length (reverse items)) 0) (length (reverse items)) (sym n)))

-- what an end tells with its trail
abbrev pub Tells : List ℕ → Result (Option ℕ) Refusal → ℕ → Type 0
Tells trail found d = (sought (with_trail trail found) d ≡ told trail found d) × Sound (with_trail trail found)

pub told-again : (trail : List ℕ) (found : Option ℕ) (d : ℕ) → length trail ≤ 257 → Fair (Ok found) → Tells trail (Ok found) d
told-again trail (Some i) d l s =
    let r : route_of (trail_of (reverse trail)) ≡ reverse trail = route-again trail l in
    (ap (λ (t : List ℕ). record { end = 1; ident = i; entered = d; trail = t }) r, (s, ap trail_of (sym r)))
told-again trail None d l s = (refl, tt)

-- a find made of an Ident
pub option-mapped :
    (trail : List ℕ) (o : Option ℕ) (f : Option Find) (post : ℕ → Find → Type 0) → MatchOption o (f ≡ None) (λ i. IsSomeAnd f (post i)) →
    ((i : ℕ) (x : Find) → post i x → x ≡ record { ident = i; trail = trail_of (reverse trail) }) → f ≡ find_with trail o
option-mapped trail (Some i) (Some x) post h m = ap Some (m i x h)
option-mapped trail (Some i) None post h m = absurd h
option-mapped trail None f post h m = h

pub from_answers :
    (g : Grammar) (i root d : ℕ) (trail after : List ℕ) (found : Result (Option ℕ) Refusal) (end : Result (Option Find) Refusal) → trail ≡ i ∷ [] → root ≡ root_at g i → end ≡ with_trail after found →
    Tells after found d → Seeks (enter g i 256 (reverse trail) 0 root) trail found d after → Answers (search_from g i) (record { end = end; entered = d })
from_answers g i root d trail after found end p q e w s = rw e (record { is = w.0 ∙ from-is g i root (told after found d) trail p q s.is; sound = w.1 })

-- what it leaves of the table, where it is refused
pub into-refused :
    (d : Sought) (o : Search) (t : List ℕ) (c : ℕ) (k : Refusal) (r : Result ℕ Refusal) → Answers d o → o.end ≡ Err k → ((y : Refusal) × (r ≡ Err y) × (y ≡ k)) →
    Leaves r t (rule_into (held t c) d d.end)
unfolding held
into-refused d o t c k r a q p = rw (← a.is, q, p.1, p.2) (go k (rw q at a.sound))
  where
    go : (j : Refusal) → (j ≡ TooDeep) ⊎ (j ≡ LongSearch) → Leaves (Err j) t (rule_into (held t c) (stopped (refusal_number j) o.entered) (refusal_number j))
    go j (inl e) = rw e (refl, refl)
    go j (inr e) = rw e (refl, refl)

-- the rules from number i on
unfoldable pub left_from : Grammar → ℕ → Held → Ran
left_from g i h = left_into g i (drop i g.rules) h

module _ (g : Grammar) (i : ℕ) (h : Held) (l : i < length g.rules) where
  left-step : left_from g i h ≡ next_into (left_from g (i + 1)) (rule_into h (search_from g i) (search_from g i).end)
  unfolding left_from left_into
  left-step = rw (add-one i, drop-cons g.rules i no_rule l, left_into)

  pub left-next : (c : ℕ) (t : List ℕ) → Leaves (Ok c) t (rule_into h (search_from g i) (search_from g i).end) → left_from g i h ≡ left_from g (i + 1) (held t c)
  left-next c t w = left-step ∙ ap (next_into (left_from g (i + 1))) (sym w)

  pub left-early :
      (a : Result ℕ Refusal) (k : Refusal) (a' : Result ℕ Refusal) (t : List ℕ) → a ≡ Err k → ((y : Refusal) × (a' ≡ Err y) × (y ≡ k)) →
      Leaves a t (rule_into h (search_from g i) (search_from g i).end) → Leaves a' t (left_from g i h)
  left-early a k a' t p q w = rw left-step (leaves-early a k a' t (rule_into h (search_from g i) (search_from g i).end) (left_from g (i + 1)) p q w)

-- a refusal leaves the table and its count as they were
into-kept : (h : Held) (a : Sought) (e : ℕ) (k : Refusal) → refusal_number k ≡ (rule_into h a e).refusal → rule_into h a e ≡ ran (refusal_number k) h
into-kept h a zero k q = absurd (omega (arith, q, refusal_number-positive k))
into-kept h a (suc zero) k q = go (ltb h.count (length h.table)) refl
  where
    x : ℕ
    x = report a.ident 0 5

    go : (b : Bool) → ltb h.count (length h.table) ≡ b → placed h x ≡ ran (refusal_number k) h
    go true e = absurd (let z : (placed h x).refusal ≡ 0 = ap (λ (r : Ran). r.refusal) (placed-there h x (ltb-true h.count (length h.table) e)) in omega (arith, q, z, refusal_number-positive k))
    go false e =
        let p : placed h x ≡ ran 10 h = placed-full h x (ltb-false h.count (length h.table) e) in
        p ∙ ap (λ (n : ℕ). ran n h) (sym (q ∙ ap (λ (r : Ran). r.refusal) p))
into-kept h a (suc (suc m)) k q = ap (λ (n : ℕ). ran n h) (sym q)

stays : (a : Ran) (k : Refusal) (h : Held) (rest : Held → Ran) → a ≡ ran (refusal_number k) h → ran (refusal_number k) h ≡ next_into rest a
stays a k h rest e = rw e (rw (ne_eqb (refusal_number k) 0 (λ z. omega (arith, z, refusal_number-positive k))) refl)

pub left-stopped :
    (g : Grammar) (i : ℕ) (t : List ℕ) (c : ℕ) → i < length g.rules → (a : Result ℕ Refusal) (k : Refusal) (r : Result (Unit {0}) Refusal) (t' : List ℕ) →
    a ≡ Err k → ((y : Refusal) × (r ≡ Err y) × (y ≡ k)) → Leaves a t' (rule_into (held t c) (search_from g i) (search_from g i).end) → ran (number_of r) (held t' c) ≡ left_from g i (held t c)
unfolding held
left-stopped g i t c l a k r t' p y w =
    let h : Held = held t c in
    let one : Ran = rule_into h (search_from g i) (search_from g i).end in
    let v : Leaves (Err k) t' one = subst (λ (b : Result ℕ Refusal). Leaves b t' one) p w in
    let e : one ≡ ran (refusal_number k) h = into-kept h (search_from g i) (search_from g i).end k v.0 in
    let s : t' ≡ t = v.1 ∙ ap (λ (b : Ran). b.held.bytes) e in
    ap (λ (b : Result (Unit {0}) Refusal). ran (number_of b) (held t' c)) (y.1 ∙ ap Err y.2)
    ∙ ap (λ (u : List ℕ). ran (refusal_number k) (held u c)) s
    ∙ stays one k h (left_from g (i + 1)) e
    ∙ sym (left-step g i h l)

pub left_end : (g : Grammar) (i : ℕ) (h : Held) → length g.rules ≤ i → ran 0 h ≡ left_from g i h
unfolding left_from left_into
left_end g i h l = rw (drop_of_length-le g.rules l)

pub left-start : (g : Grammar) (h : Held) → left_from g 0 h ≡ left_into g 0 g.rules h
unfolding left_from
left-start g h = refl

-- what the pass leaves of a table that held the reports xs is what `left_recursion` says: the search from one rule, then the others
module _ (places : ℕ) (rest : List ℕ → Found) (into : Held → Ran) (h : Held) (xs : List ℕ) (k : Keeps h xs) (p : length h.table ≡ places)
    (next : (h1 : Held) (ys : List ℕ) → Keeps h1 ys → length h1.table ≡ places → EndsAs (rest ys) (into h1)) where
  one-ends : (a : Sought) (e : ℕ) → EndsAs (rule_from rest (found_in places xs a e)) (next_into into (rule_into h a e))
  one-ends a zero = next h xs k p
  one-ends a (suc zero) = go (ltb (length xs) places) refl
    where
      x : ℕ
      x = report a.ident 0 5

      go : (b : Bool) → ltb (length xs) places ≡ b → EndsAs (rule_from rest (place_if (xs ++ (x ∷ [])) b)) (next_into into (placed h x))
      go true e =
          let l : length xs < places = ltb-true (length xs) places e in
          let u : h.count < length h.table = omega (arith, k.count-is) in
          rw (placed-there h x u) (next (with_one h x) (xs ++ (x ∷ [])) (keeps-more h xs x k u) (length-set h.table h.count x ∙ p))
      go false e =
          let l : places ≤ length xs = ltb-false (length xs) places e in
          rw (placed-full h x (omega (arith, k.count-is))) refl
  one-ends a (suc (suc m)) = rw (ne_eqb (suc (suc m)) 0 (omega arith))

left-ends : (g : Grammar) (rules : List Rule) (places i : ℕ) (h : Held) (xs : List ℕ) → Keeps h xs → length h.table ≡ places → EndsAs (left_recursion g places i rules xs) (left_into g i rules h)
unfolding left_recursion left_into
left-ends g [] places i h xs k p = (refl, k)
left-ends g (r ∷ rules) places i h xs k p =
    one-ends places (λ more. left_recursion g places (suc i) rules more) (λ h1. left_into g (suc i) rules h1) h xs k p
    (λ h1 ys k1 p1. left-ends g rules places (suc i) h1 ys k1 p1) (search_from g i) (search_from g i).end

-- what it leaves with the count apart, and with the count in the answer
pub leaves-counted : (r : Result (Unit {0}) Refusal) (t : List ℕ) (c : ℕ) (a : Ran) → ran (number_of r) (held t c) ≡ a → Leaves (counted r c) t a
unfolding held
leaves-counted (Ok u) t c a e = e
leaves-counted (Err k) t c a e = (ap (λ (b : Ran). b.refusal) e, ap (λ (b : Ran). b.held.bytes) e)

-- the reports that the pass leaves, from what it leaves of the table
pub left-tells :
    (g : Grammar) (t : List ℕ) (c : ℕ) (t' : List ℕ) (r : Result ℕ Refusal) → Leaves r t' (left_into g 0 g.rules (held t c)) →
    (xs : List ℕ) → Holds t xs → c ≡ length xs → Filled (left_recursion g (places 8 t) 0 g.rules xs) r t'
unfolding held
left-tells g t c t' r l xs p q =
    filled_of (left_recursion g (places 8 t) 0 g.rules xs) r t' (left_into g 0 g.rules (held t c)) l
    (left-ends g g.rules (places 8 t) 0 (held t c) xs (holds-keeps t xs c p q) (words-length t))

-- every promise of the pass, from its one equation
pub left_is : (g : Grammar) (t : List ℕ) (c : ℕ) (t' : List ℕ) (c' : ℕ) (r : Result (Unit {0}) Refusal) → ran (number_of r) (held t' c') ≡ left_into g 0 g.rules (held t c) → LeftPass g t c t' c' r
left_is g t c t' c' r l = record { is = l; tells = left-tells g t c t' (counted r c') (leaves-counted r t' c' (left_into g 0 g.rules (held t c)) l) }
