-- The passes in their order, and what the entry leaves: each return by the definition. Assumes nothing.
use Rattle.std.specs.Prelude.{Result, Ok, Err}
use mathlib.Core.Path.{◌≡◌, refl, sym, ap, subst, ◌∙◌}
use mathlib.Core.Bool.{Bool, true, false}
use mathlib.Core.List.{List, [], ◌++◌}
use Prim.Native.Nat.{ℕ, zero, suc, ◌+◌, ◌-◌, ◌*◌, ◌/◌, ◌%◌, ◌≤◌, ◌<◌}
use native.Mathlib.Omega.{arith}
use native.Mathlib.Decide.{ℕ_discrete, dec_lt}
use lib.Dec.{eqb, leb}
use lib.ListN.{length, get_or, set, take, length-set, length-append, get_or-eq_default}
use lib.Seq.{length-take-le, get_or-set_same, get_or-set_other}
use borrow.Author.Tests.{eqb-true, eqb-false}
use Rattle.image.specs.declared.expr.Expr.TheVariants.{Ident, Range}
use Rattle.image.specs.Formed.{Formed}
use Rattle.image.specs.Grammar.{Grammar, Node, grammar, no_node, expr_at}
use Rattle.image.specs.Refusal.{refusal}
use Rattle.image.specs.declared.refusal.Refusal.{Refusal}
use Rattle.image.specs.RefusalNumber.{refusal_number, number_of}
use Rattle.image.proofs.RefusalLaws.{refusal_number-positive, refusal_number-nonzero}
use Rattle.asking.specs.World as A
use Rattle.asking.specs.World.{Answer}
use Rattle.asking.specs.StackPass.{loop_reports, stack_pass}
use Rattle.reading.specs.Names.{Resolved, found_in}
use Rattle.reading.proofs.NameLaws.{rule-of-word}
use Rattle.standing.proofs.Moves.{loop-reports-length}
use Rattle.tables.specs.Bytes.{zeros}
use Rattle.tables.specs.Places.{places}
use Rattle.tables.specs.Words.{words, laid, Holds}
use Rattle.tables.proofs.Words.{words-length}
use Rattle.tables.proofs.Laid.{laid_none, laid-holds}
use Rattle.analysis.specs.Promise.{PassedIf, StackPassed}
use Rattle.passes.specs.Report.{Result as Found, refused, done, onward, place_if, place}
use Rattle.passes.specs.TopDown.{validate_repetition, validate_choices}
use Rattle.passes.specs.LeftRecursion.{left_recursion}
use Rattle.passes.specs.Order.{ordered}
use Rattle.passes.specs.Promise as P
use Rattle.passes.specs.Promise.{held, Leaves, left_into, Filled, LeftPass, Sorted, found_number, RulesNamed}
use Rattle.passes.proofs.FewReports.{Few}
use Rattle.passes.proofs.FewRecursions.{few-recursions}
use Rattle.passes.proofs.Ordering.{ordered-count}
use Rattle.passes.proofs.Searching.{left-tells}
use Rattle.thatchnip.specs.Check.{loops_found, check_grammar, check}
use Rattle.thatchnip.specs.Exit.{checked, result_number, report_bytes}
use Rattle.thatchnip.specs.Promise.{OnlyRules, first_found, last_found, LeavesIf, FirstPasses, LastPasses, CheckedImage, Checked}

-- the number of a rule, told by its word
rule-number : (w : ℕ) → found_number (found_in w) ≡ w % 512
rule-number w = by (eqb (w % 512) 0) refl
  where
    by : (t : Bool) → eqb (w % 512) 0 ≡ t → found_number (found_in w) ≡ w % 512
    by true e = rw e (sym (eqb-true (w % 512) 0 e))
    by false e = let n = eqb-false (w % 512) 0 e in rw e (omega (arith, n))

-- the words below i are told apart, the others are not yet
pub record RulesSoFar (names₀ names : List ℕ) (i : ℕ) : Type 0 where
  pub long : length names ≡ 2048
  pub few : i ≤ 2048
  pub below : (j : ℕ) → j < i → get_or names j 0 ≡ get_or names₀ j 0 % 512
  pub rest : (j : ℕ) → i ≤ j → get_or names j 0 ≡ get_or names₀ j 0

pub rules-start : (names : List ℕ) → length names ≡ 2048 → RulesSoFar names names 0
rules-start names l = record { long = l; few = omega arith; below = λ j k. absurd (omega (arith, k)); rest = λ j k. refl }

pub rules-next : (names₀ names : List ℕ) (i : ℕ) → RulesSoFar names₀ names i → i < 2048 → RulesSoFar names₀ (set names i (get_or names i 0 % 512)) (i + 1)
rules-next names₀ names i h l =
    record {
      long = length-set names i (get_or names i 0 % 512) ∙ h.long;
      few = omega (arith, l);
      below = λ j k. by j k (ℕ_discrete j i);
      rest = λ j k. get_or-set_other names i j (get_or names i 0 % 512) 0 (omega (arith, k)) ∙ h.rest j (omega (arith, k));
    }
  where
    by : (j : ℕ) → j < i + 1 → Dec (j ≡ i) → get_or (set names i (get_or names i 0 % 512)) j 0 ≡ get_or names₀ j 0 % 512
    by j k (yes e) = rw e (get_or-set_same names i (get_or names i 0 % 512) 0 (omega (arith, l, h.long)) ∙ ap (λ (x : ℕ). x % 512) (h.rest i (omega arith)))
    by j k (no n) = get_or-set_other names i j (get_or names i 0 % 512) 0 n ∙ h.below j (omega (arith, k, n))

pub rules-end : (names₀ names : List ℕ) (i : ℕ) → RulesSoFar names₀ names i → 2048 ≤ i → OnlyRules names₀ names
rules-end names₀ names i h l = record { each = λ n k. h.below n (omega (arith, k, l)) }

-- past the last node there is no Ident
ident-inside : (g : Grammar) (n at len : ℕ) → expr_at g n ≡ Ident at len → n < length g.nodes
unfolding expr_at
ident-inside g n at len e = go (dec_lt n (length g.nodes))
  where
    go : Dec (n < length g.nodes) → n < length g.nodes
    go (yes l) = l
    go (no l) =
        let past : get_or g.nodes n no_node ≡ no_node = get_or-eq_default g.nodes no_node (omega arith) in
        let other : Range ≡ Ident at len = sym (ap (λ (x : Node). x.expr) past) ∙ e in
        absurd (let z : ◌≡◌ {A = ℕ} 0 1 = cc in omega arith)

pub rules-named : (g : Grammar) (names names' : List ℕ) → Formed g → Resolved g names → OnlyRules names names' → RulesNamed g names'
rules-named g names names' f r o n at len e =
    let inside = ident-inside g n at len e in
    o.each n (omega (arith, f.few-nodes)) ∙ sym (rule-number (get_or names n 0)) ∙ ap found_number (rule-of-word g f names r n at len inside e)

-- the count of an answer
abbrev count_of : Result ℕ Refusal → ℕ
count_of (Ok count) = count
count_of (Err k) = 0

ok-count : {c n : ℕ} → ◌≡◌ {A = Result ℕ Refusal} (Ok c) (Ok n) → c ≡ n
ok-count e = ap count_of e

-- a refusal is no answer of reports
err-ok : {k : Refusal} {n : ℕ} → ◌≡◌ {A = Result ℕ Refusal} (Err k) (Ok n) → ⊥
err-ok {k} e = refusal_number-nonzero k (ap number_of e)

-- a pass that is refused leaves that refusal, whatever would come after it
refused-leaves : (k : Refusal) (t t' : List ℕ) (a : Found) (on : List ℕ → Found) → Filled a (Err k) t → LeavesIf (Err k) t' (onward a on)
refused-leaves k t t' (refused n) on h = (h, let p = refusal_number-positive k in omega (arith, p, h))
refused-leaves k t t' (done xs) on h = absurd (err-ok h.0)

-- a pass that answers a count has placed its reports
placed-done : (t found more : List ℕ) (places c : ℕ) → Filled (place places found more) (Ok c) t
    → (xs : List ℕ) × (place places found more ≡ done xs) × Holds t xs × (c ≡ length xs)
unfolding place
placed-done t found more places c h = go (leb (length (found ++ more)) places) h
  where
    go : (b : Bool) → Filled (place_if (found ++ more) b) (Ok c) t → (xs : List ℕ) × (place_if (found ++ more) b ≡ done xs) × Holds t xs × (c ≡ length xs)
    go true h = (found ++ more, refl, h.1, ok-count h.0)
    go false h = absurd (omega (arith, h))

-- what a table holds is what its first words are
held-words : {t xs : List ℕ} {c : ℕ} → Holds t xs → c ≡ length xs → take c (words t) ≡ xs
held-words {t} {xs} {c} h e = rw e h.first-words

pub holds-words : {t xs : List ℕ} {c : ℕ} → Holds t xs → c ≡ length xs → Holds t (take c (words t)) × (c ≤ places 8 t)
holds-words {t} {xs} {c} h e = (subst (Holds t) (sym (held-words h e)) h, omega (arith, h.room, e))

-- a cleared table holds nothing
pub holds-none : (t₀ : List ℕ) {t : List ℕ} → t ≡ zeros (length t₀) → Holds t []
holds-none t₀ {t} e = rw (e, laid_none (length t₀)) (laid-holds (length t₀) [] (λ i l. absurd (omega (arith, l))) (omega arith))

-- reasons 1 and 2, and 3
module _ (image outcomes walked reports : List ℕ) where
  abbrev first : Found
  first = place (places 8 reports) [] (validate_repetition (grammar image))

  pub first-refused : Holds reports [] → {reports₁ : List ℕ} {k : Refusal} → P.Placed (validate_repetition (grammar image)) reports 0 reports₁ (Err k) → {o w : List ℕ} → o ≡ zeros (length outcomes) → w ≡ zeros (length walked)
      → FirstPasses image outcomes walked reports (Err k) o w reports₁
  first-refused none {reports₁} {k} found eo ew =
      record { outcomes-zero = eo; walked-zero = ew; leaves = refused-leaves k reports₁ reports₁ first (λ found₁₂. loops_found found₁₂ (stack_pass (grammar image) (places 8 outcomes) (places 4 walked) (places 8 reports - length found₁₂))) (found.tells [] none refl) }

  module _ (none : Holds reports []) (reports₁ : List ℕ) (count : ℕ) (long : length reports₁ ≡ length reports) (found : P.Placed (validate_repetition (grammar image)) reports 0 reports₁ (Ok count)) where
    d : (xs : List ℕ) × (first ≡ done xs) × Holds reports₁ xs × (count ≡ length xs)
    d = placed-done reports₁ [] (validate_repetition (grammar image)) (places 8 reports) count (found.tells [] none refl)

    pub first_holds : Holds reports₁ (take count (words reports₁)) × (count ≤ places 8 reports₁)
    first_holds = let x = d in holds-words x.2 x.3

    pub first-answers : {r : Result ℕ Refusal} {o w reports₂ : List ℕ} → StackPassed image outcomes walked reports₁ count r o w reports₂ → FirstPasses image outcomes walked reports r o w reports₂
    first-answers {r} {o} {w} {reports₂} s =
        record { outcomes-zero = s.outcomes-zero; walked-zero = s.walked-zero; leaves = rw d.1 (go r pass refl s.reports) }
      where
        xs : List ℕ
        xs = d.0

        pass : Answer (Unit {0})
        pass = stack_pass (grammar image) (places 8 outcomes) (places 4 walked) (places 8 reports₁ - count)

        same : stack_pass (grammar image) (places 8 outcomes) (places 4 walked) (places 8 reports - length xs) ≡ pass
        same = rw (sym d.3, long)

        go : (r : Result ℕ Refusal) (a : Answer (Unit {0})) → pass ≡ a → PassedIf (length reports₁) (take count (words reports₁)) r reports₂ a
            → LeavesIf r reports₂ (loops_found xs (stack_pass (grammar image) (places 8 outcomes) (places 4 walked) (places 8 reports - length xs)))
        go (Err k) (A.refused n) e p = rw (same ∙ e) (p.0, let q = refusal_number-positive k in omega (arith, q, p.0))
        go (Err k) (A.given u W) e p = absurd p
        go (Ok c) (A.refused n) e p = absurd p
        go (Ok c) (A.given u W) e p =
            let q : take count (words reports₁) ≡ xs = held-words d.2 d.3 in
            rw (same ∙ e) (
              ap Ok (p.0 ∙ rw q (sym (length-append xs (loop_reports W.reports) ∙ rw (loop-reports-length W.reports)))),
              subst (λ (ys : List ℕ). Holds reports₂ (ys ++ loop_reports W.reports)) q p.2,
            )

-- reasons 4 and 5, and the order
module _ (image reports : List ℕ) (count : ℕ) (holds : Holds reports (take count (words reports))) (counted : count ≤ places 8 reports) where
  abbrev before : List ℕ
  before = take count (words reports)

  before-long : count ≡ length before
  before-long = sym (length-take-le count (words reports) (omega (arith, words-length reports, counted)))

  abbrev fourth : Found
  fourth = place (places 8 reports) before (validate_choices (grammar image))

  pub choices-refused : {reports₁ : List ℕ} {k : Refusal} → P.Placed (validate_choices (grammar image)) reports count reports₁ (Err k) → LastPasses image reports count (Err k) reports₁
  choices-refused {reports₁} {k} found =
      record { leaves = refused-leaves k reports₁ reports₁ fourth (λ found₄. onward (left_recursion (grammar image) (places 8 reports) 0 (grammar image).rules found₄) (λ found₅. done (ordered (grammar image) found₅))) (found.tells before holds before-long) }

  module _ (reports₁ : List ℕ) (c₄ : ℕ) (long : length reports₁ ≡ length reports) (found : P.Placed (validate_choices (grammar image)) reports count reports₁ (Ok c₄)) where
    d₄ : (xs : List ℕ) × (fourth ≡ done xs) × Holds reports₁ xs × (c₄ ≡ length xs)
    d₄ = placed-done reports₁ before (validate_choices (grammar image)) (places 8 reports) c₄ (found.tells before holds before-long)

    abbrev recursion : Found
    recursion = left_recursion (grammar image) (places 8 reports₁) 0 (grammar image).rules d₄.0

    fifth : left_recursion (grammar image) (places 8 reports) 0 (grammar image).rules d₄.0 ≡ recursion
    fifth = rw long refl

    pub left-refused :
        {reports₂ : List ℕ} {k : Refusal} → Leaves (Err k) reports₂ (left_into (grammar image) 0 (grammar image).rules (held reports₁ c₄)) → LastPasses image reports count (Err k) reports₂
    left-refused {reports₂} {k} left =
        record { leaves = rw (d₄.1, fifth) (refused-leaves k reports₂ reports₂ recursion (λ found₅. done (ordered (grammar image) found₅)) (left-tells (grammar image) reports₁ c₄ reports₂ (Err k) left d₄.0 d₄.2 d₄.3)) }

    module _ (reports₂ : List ℕ) (c₅ : ℕ) (left : LeftPass (grammar image) reports₁ c₄ reports₂ c₅ (Ok tt)) where
      few : Few (length (grammar image).rules + length d₄.0) recursion
      few = few-recursions (grammar image) (places 8 reports₁) 0 (length d₄.0) (grammar image).rules d₄.0 (omega arith)

      -- what the pass for reason 5 leaves, where it does not refuse
      last-held : (xs : List ℕ) × (recursion ≡ done xs) × Holds reports₂ xs × (c₅ ≡ length xs)
      last-held = go recursion refl (left.tells d₄.0 d₄.2 d₄.3) few
        where
          go : (a : Found) → recursion ≡ a → Filled a (Ok c₅) reports₂ → Few (length (grammar image).rules + length d₄.0) a → (xs : List ℕ) × (recursion ≡ done xs) × Holds reports₂ xs × (c₅ ≡ length xs)
          go (refused k) q e f = absurd (let y = f.0 in omega (arith, e, y))
          go (done xs) q e f = (xs, q, e.1, ok-count e.0)

      pub last-room : c₅ ≤ places 8 reports₂
      last-room = let h = last-held in omega (arith, h.2.room, h.3)

      pub last-answers : {reports₃ : List ℕ} → Sorted (grammar image) reports₂ c₅ reports₃ → LastPasses image reports count (Ok c₅) reports₃
      last-answers s =
          let h = last-held in
          record { leaves = rw (d₄.1, fifth, h.1) (ap Ok (h.3 ∙ sym (ordered-count (grammar image) h.0)), s.tells h.0 h.2 h.3) }

-- the passes in two halves
check-halves : (g : Grammar) (outcomes walked reports : ℕ) → check_grammar g outcomes walked reports ≡ onward (first_found g outcomes walked reports) (last_found g reports)
unfolding check_grammar
check-halves g outcomes walked reports = go (place reports [] (validate_repetition g))
  where
    go : (a : Found)
        → onward a (λ found₁₂. onward (loops_found found₁₂ (stack_pass g outcomes walked (reports - length found₁₂))) (last_found g reports))
        ≡ onward (onward a (λ found₁₂. loops_found found₁₂ (stack_pass g outcomes walked (reports - length found₁₂)))) (last_found g reports)
    go (refused k) = refl
    go (done found) = refl

module _ (image outcomes walked reports : List ℕ) where
  abbrev half : Found
  half = first_found (grammar image) (places 8 outcomes) (places 4 walked) (places 8 reports)

  pub image-refuses : {o w reports₁ : List ℕ} {k : Refusal} → FirstPasses image outcomes walked reports (Err k) o w reports₁ → CheckedImage image outcomes walked reports (Err k) o w reports₁
  image-refuses {o} {w} {reports₁} {k} h =
      record {
        outcomes-zero = h.outcomes-zero;
        walked-zero = h.walked-zero;
        leaves = rw (check-halves (grammar image) (places 8 outcomes) (places 4 walked) (places 8 reports)) (go half h.leaves);
      }
    where
      go : (a : Found) → LeavesIf (Err k) reports₁ a → LeavesIf (Err k) reports₁ (onward a (last_found (grammar image) (places 8 reports)))
      go (refused n) e = e
      go (done xs) e = absurd (err-ok e.0)

  module _ (o w reports₁ : List ℕ) (c : ℕ) (long : length reports₁ ≡ length reports) (h : FirstPasses image outcomes walked reports (Ok c) o w reports₁) where
    half-done : (xs : List ℕ) × (half ≡ done xs) × Holds reports₁ xs × (c ≡ length xs)
    half-done = go half refl h.leaves
      where
        go : (a : Found) → half ≡ a → LeavesIf (Ok c) reports₁ a → (xs : List ℕ) × (half ≡ done xs) × Holds reports₁ xs × (c ≡ length xs)
        go (refused k) q e = absurd (let l = e.1 in omega (arith, e.0, l))
        go (done xs) q e = (xs, q, e.1, ok-count e.0)

    pub half-holds : Holds reports₁ (take c (words reports₁)) × (c ≤ places 8 reports₁)
    half-holds = let d = half-done in holds-words d.2 d.3

    pub image-answers : {q : Result ℕ Refusal} {reports₂ : List ℕ} → LastPasses image reports₁ c q reports₂ → CheckedImage image outcomes walked reports q o w reports₂
    image-answers {q} {reports₂} l =
        let d = half-done in
        let e : take c (words reports₁) ≡ d.0 = held-words d.2 d.3 in
        record {
          outcomes-zero = h.outcomes-zero;
          walked-zero = h.walked-zero;
          leaves = rw (check-halves (grammar image) (places 8 outcomes) (places 4 walked) (places 8 reports), d.1)
              (subst (λ (n : ℕ). LeavesIf q reports₂ (last_found (grammar image) (n / 8) d.0)) long
              (subst (λ (ys : List ℕ). LeavesIf q reports₂ (last_found (grammar image) (places 8 reports₁) ys)) e l.leaves));
        }

-- the entry
module _ (image outcomes walked reports : List ℕ) where
  -- the image is refused
  judged-so : (k : ℕ) → k ≡ refusal image → (k ≡ 0 → ⊥) → checked image (length outcomes) (length walked) (length reports) ≡ refused k
  unfolding checked check
  judged-so zero e z = absurd (z refl)
  judged-so (suc k) e z = rw (← e)

  pub entry-refuses : (k : Refusal) {r : ℕ} → refusal_number k ≡ refusal image → r ≡ 4294967296 * refusal_number k → {o w t : List ℕ} → o ≡ zeros (length outcomes) → w ≡ zeros (length walked) → t ≡ zeros (length reports)
      → Checked image outcomes walked reports r o w t
  entry-refuses k e q eo ew et =
      record { number = rw (judged-so (refusal_number k) e (refusal_number-nonzero k)) q; outcomes-zero = eo; walked-zero = ew; report-bytes = rw (judged-so (refusal_number k) e (refusal_number-nonzero k)) et }

  abbrev whole : Found
  whole = check_grammar (grammar image) (places 8 outcomes) (places 4 walked) (places 8 reports)

  is_whole : refusal image ≡ 0 → checked image (length outcomes) (length walked) (length reports) ≡ whole
  unfolding checked check
  is_whole accepts = rw accepts

  module _ (accepts : refusal image ≡ 0) (o w reports₁ reports₂ : List ℕ) (long : length reports₁ ≡ length reports) where
    whole-leaves : {p : Result ℕ Refusal} → CheckedImage image outcomes walked reports₁ p o w reports₂ → LeavesIf p reports₂ whole
    whole-leaves {p} h = subst (λ (n : ℕ). LeavesIf p reports₂ (check_grammar (grammar image) (places 8 outcomes) (places 4 walked) (n / 8))) long h.leaves

    -- a pass refuses
    pub entry-refuses-later : {k : Refusal} → CheckedImage image outcomes walked reports₁ (Err k) o w reports₂ → {r : ℕ} → r ≡ 4294967296 * refusal_number k → {t : List ℕ} → t ≡ zeros (length reports) → Checked image outcomes walked reports r o w t
    entry-refuses-later {k} h {r} q {t} et =
        record { number = rw (is_whole accepts) (number whole (whole-leaves h)); outcomes-zero = h.outcomes-zero; walked-zero = h.walked-zero; report-bytes = rw (is_whole accepts) (bytes whole (whole-leaves h)) }
      where
        number : (a : Found) → LeavesIf (Err k) reports₂ a → r ≡ result_number a
        number (refused n) e = q ∙ ap (λ (n : ℕ). 4294967296 * n) e.0
        number (done xs) e = absurd (err-ok e.0)

        bytes : (a : Found) → LeavesIf (Err k) reports₂ a → t ≡ report_bytes (length reports) a
        bytes (refused n) e = et
        bytes (done xs) e = absurd (err-ok e.0)

    -- the reports stand in the table
    pub entry-answers : {c : ℕ} → CheckedImage image outcomes walked reports₁ (Ok c) o w reports₂ → length reports₂ ≡ length reports → Checked image outcomes walked reports c o w reports₂
    entry-answers {c} h l =
        record { number = rw (is_whole accepts) (number whole (whole-leaves h)); outcomes-zero = h.outcomes-zero; walked-zero = h.walked-zero; report-bytes = rw (is_whole accepts) (bytes whole (whole-leaves h)) }
      where
        number : (a : Found) → LeavesIf (Ok c) reports₂ a → c ≡ result_number a
        number (refused k) e = absurd (let y = e.1 in omega (arith, e.0, y))
        number (done xs) e = ok-count e.0

        bytes : (a : Found) → LeavesIf (Ok c) reports₂ a → reports₂ ≡ report_bytes (length reports) a
        bytes (refused k) e = absurd (let y = e.1 in omega (arith, e.0, y))
        bytes (done xs) e = e.1.bytes ∙ ap (λ (n : ℕ). laid n xs) l
