-- What the passes promise of the report table, and what the search for left recursion asks of the names. Assumes nothing.
use Rattle.std.specs.Prelude.{cond, List, [], ◌∷◌, ◌++◌, ◌≡◌, ◌⊎◌, ℕ, zero, suc, ◌*◌, ◌<◌, ltb, eqb, length, get_or, set, take, drop, replicate, reverse, Option, Some, None, Result, Ok, Err}
use Rattle.image.specs.declared.expr.Expr.TheVariants.{Ident}
use Rattle.image.specs.declared.refusal.Refusal.{Refusal}
use Rattle.image.specs.declared.refusal.Refusal.TheVariants.{TooDeep, LongSearch}
use Rattle.image.specs.RefusalNumber.{refusal_number, number_of}
use Rattle.image.specs.Grammar.{Grammar, Rule, expr_at, text_of, find_rule}
use Rattle.tables.specs.Bytes.{set_le}
use Rattle.tables.specs.Places.{places}
use Rattle.tables.specs.Words.{words, spare, Holds}
use Rattle.tables.specs.Report.{report}
use Rattle.passes.specs.Report.{Result as Found, refused, done, place}
use Rattle.passes.specs.Order.{ordered}
use Rattle.passes.specs.LeftRecursion.{Sought, stopped, search_from, left_recursion}
use Rattle.passes.specs.declared.left.Trail.{Trail}
use Rattle.passes.specs.declared.left.Find.{Find}
use Rattle.passes.specs.declared.left.Search.{Search}

-- a report table: its bytes, its words, and how many reports it holds
pub record Held : Type 0 where
  pub bytes : List ℕ
  pub table : List ℕ
  pub count : ℕ

unfoldable pub held : List ℕ → ℕ → Held
held t count = record { bytes = t; table = words t; count = count }

-- a refusal, or 0, and the report table with it
pub record Ran : Type 0 where
  pub refusal : ℕ
  pub held : Held

abbrev pub ran : ℕ → Held → Ran
ran refusal h = record { refusal = refusal; held = h }

-- a report put at the first free place; 10 where none is free
unfoldable pub placed : Held → ℕ → Ran
placed h x =
    cond (ltb h.count (length h.table))
    (ran 0 (record { bytes = set_le 8 h.bytes (h.count * 8) x; table = set h.table h.count x; count = suc h.count }))
    (ran 10 h)

abbrev pub next_into : (Held → Ran) → Ran → Ran
next_into rest a = cond (eqb a.refusal 0) (rest a.held) a

-- and reports put one after the other, to the first that has no place
unfoldable pub place_all : Held → List ℕ → Ran
place_all h [] = ran 0 h
place_all h (x ∷ xs) = next_into (λ h1. place_all h1 xs) (placed h x)

-- an answer and the bytes of the table with it: the count of reports, or the refusal's number
abbrev pub Leaves : Result ℕ Refusal → List ℕ → Ran → Type 0
Leaves (Ok count) t a = ran 0 (held t count) ≡ a
Leaves (Err k) t a = (refusal_number k ≡ a.refusal) × (t ≡ a.held.bytes)

-- what a table and its count come to: the reports, or a refusal
abbrev pub Filled : Found → Result ℕ Refusal → List ℕ → Type 0
Filled (refused k) r t = number_of r ≡ k
Filled (done found) r t = (r ≡ Ok (length found)) × Holds t found

-- a pass that finds the reports `more` leaves the table t' and the answer r: every byte is settled, and where the table held the reports xs, it
-- then holds them with `more` behind them, or 10 is due
pub record Placed (more t : List ℕ) (count : ℕ) (t' : List ℕ) (r : Result ℕ Refusal) : Type 0 where
  pub is : Leaves r t' (place_all (held t count) more)
  pub tells : (xs : List ℕ) → Holds t xs → count ≡ length xs → Filled (place (places 8 t) xs more) r t'

-- t with some words put from place i on
unfoldable pub put_all : List ℕ → ℕ → List ℕ → List ℕ
put_all t i [] = t
put_all t i (x ∷ xs) = set_le 8 (put_all t (suc i) xs) (i * 8) x

-- the first n reports of a table put in order, the other words and the spare bytes as they were
pub record Sorted (g : Grammar) (t : List ℕ) (n : ℕ) (t' : List ℕ) : Type 0 where
  pub is : t' ≡ put_all t 0 (ordered g (take n (words t)))
  pub words-ordered : words t' ≡ ordered g (take n (words t)) ++ drop n (words t)
  pub spare-kept : spare t' ≡ spare t
  pub tells : (xs : List ℕ) → Holds t xs → n ≡ length xs → Holds t' (ordered g xs)

-- a rule's number counted from 1, 0 where there is none
abbrev pub found_number : Option ℕ → ℕ
found_number None = 0
found_number (Some i) = suc i

-- names resolved once: at the number of each Ident node stands the number of its rule
abbrev pub RulesNamed : Grammar → List ℕ → Type 0
RulesNamed g rules = (n at len : ℕ) → expr_at g n ≡ Ident at len → get_or rules n 0 ≡ found_number (find_rule g (text_of g at len))

-- a trail as an array: the first rule first, zeros past the newest
unfoldable pub trail_rules : List ℕ → List ℕ
trail_rules [] = replicate 257 0
trail_rules (r ∷ trail) = set (trail_rules trail) (length trail) r

abbrev pub trail_of : List ℕ → Trail
trail_of trail = record { rules = trail_rules trail; len = length trail }

-- and the rules of an array, the newest first
abbrev pub route_of : Trail → List ℕ
route_of trail = reverse (take trail.len trail.rules)

-- how a search ended: nothing found, the Ident found with the trail, or 12 or 13; the definition has the newest rule first
abbrev pub sought : Result (Option Find) Refusal → ℕ → Sought
sought (Ok (Some find)) entered = record { end = 1; ident = find.ident; entered = entered; trail = route_of find.trail }
sought (Ok None) entered = stopped 0 entered
sought (Err k) entered = stopped (refusal_number k) entered

-- an Ident found is a node, each place past the trail is zero, and a refusal is 12 or 13
abbrev pub Sound : Result (Option Find) Refusal → Type 0
Sound (Ok (Some find)) = (find.ident < 65536) × (find.trail ≡ trail_of (route_of find.trail))
Sound (Ok None) = Unit {0}
Sound (Err k) = (k ≡ TooDeep) ⊎ (k ≡ LongSearch)

-- what the search from one rule answers
pub record Answers (a : Sought) (r : Search) : Type 0 where
  pub is : sought r.end r.entered ≡ a
  pub sound : Sound r.end

-- what the search from one rule leaves of the table
abbrev pub rule_into : Held → Sought → ℕ → Ran
rule_into h a zero = ran 0 h
rule_into h a (suc zero) = placed h (report a.ident 0 5)
rule_into h a (suc (suc k)) = ran (suc (suc k)) h

-- and the searches from the rules in order, from number i on, to the first refusal
unfoldable pub left_into : Grammar → ℕ → List Rule → Held → Ran
left_into g i [] h = ran 0 h
left_into g i (r ∷ rules) h = next_into (λ h1. left_into g (suc i) rules h1) (rule_into h (search_from g i) (search_from g i).end)

-- an answer whose count is lent: that count, or the refusal
abbrev pub counted : Result (Unit {0}) Refusal → ℕ → Result ℕ Refusal
counted (Ok u) count = Ok count
counted (Err k) count = Err k

-- the pass for reason 5 leaves the table t', the count and the answer r: every byte and the count are settled, on a refusal too, and where the table
-- held the reports xs, it is refused or holds the reports as `left_recursion` says
pub record LeftPass (g : Grammar) (t : List ℕ) (count : ℕ) (t' : List ℕ) (count' : ℕ) (r : Result (Unit {0}) Refusal) : Type 0 where
  pub is : ran (number_of r) (held t' count') ≡ left_into g 0 g.rules (held t count)
  pub tells : (xs : List ℕ) → Holds t xs → count ≡ length xs → Filled (left_recursion g (places 8 t) 0 g.rules xs) (counted r count') t'
