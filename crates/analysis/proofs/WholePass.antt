-- The rules walked in order, and what the whole pass leaves of the lent tables. Assumes nothing.
use Rattle.std.specs.Prelude.{Result, Ok, Err}
use mathlib.Core.Path.{◌≡◌, sym, ap, subst, ◌∙◌}
use mathlib.Core.Bool.{true, false}
use mathlib.Core.List.{List, ◌++◌, append-nil}
use Prim.Native.Nat.{ℕ, suc, ◌+◌, ◌-◌, ◌*◌, ◌/◌, ◌≤◌, ◌<◌}
use native.Mathlib.Omega.{arith}
use lib.ListN.{length, take, drop, drop_of_length-le, length-append}
use lib.Seq.{drop-cons, length-take-le, get_or-take}
use Rattle.stack.specs.declared.AbsStack.{AbsStack}
use Rattle.stack.specs.State.{entry}
use Rattle.stack.specs.Promise.{state_of}
use Rattle.image.specs.Grammar.{Rule, grammar, no_rule, root_at}
use Rattle.image.specs.declared.refusal.Refusal.{Refusal}
use Rattle.image.specs.RefusalNumber.{refusal_number, number_of}
use Rattle.image.proofs.RefusalLaws.{refusal_number-positive}
use Rattle.machine.specs.Outcome.{Outcome}
use Rattle.asking.specs.World.{Setup, World, Answer, refused, given, and_then, nothing_yet}
use Rattle.asking.specs.Reading.{skips_of}
use Rattle.asking.specs.Modifies.{skips_modify}
use Rattle.asking.specs.StackPass.{loop_reports, walk_rules, stack_pass}
use Rattle.asking.specs.Ask.{visit}
use Rattle.outcomes.specs.declared.Outcome as Code
use Rattle.outcomes.specs.Promise.{IsOutcome}
use Rattle.tables.specs.Bytes.{zeros, Small}
use Rattle.tables.specs.Places.{places}
use Rattle.tables.specs.Words.{words, laid, Holds}
use Rattle.tables.proofs.Bytes.{le_at-lt}
use Rattle.tables.proofs.Laid.{Fit, small-laid, laid-holds}
use Rattle.tables.proofs.Words.{words-length, words-at}
use Rattle.standing.specs.Stands.{Lent, Tables, Stands}
use Rattle.standing.specs.Answers.{setup_for, tables, GivenIf}
use Rattle.standing.proofs.Moves.{start-stands, loop-reports-length}
use Rattle.analysis.specs.declared.Pass.{Pass}
use Rattle.analysis.specs.Methods.{tables_of, SamePass, Says, Ready, Answers, Done}
use Rattle.analysis.specs.Promise.{PassedIf, StackPassed}
use Rattle.analysis.proofs.On.{same_self, same-trans, Comes, comes-start, comes-answers, comes-on, comes-to, answers-by, on_err, ready-on, outcome-comes, answers-now}

-- the rules from number i on
abbrev pub rules_from : List ℕ → ℕ → Setup → World → Answer (Unit {0})
rules_from image i S W = walk_rules S (drop i (grammar image).rules) W

pub record Walking (p₀ p : Pass) (i : ℕ) : Type 0 where
  pub same : SamePass p₀ p
  pub ready : Ready p
  pub comes : Comes p₀ (rules_from p₀.names.image.bytes.now 0) p (rules_from p₀.names.image.bytes.now i)

pub walk_start : {p : Pass} → Ready p → Walking p p 0
walk_start {p} h = record { same = same_self p; ready = h; comes = comes-start }

module _ {p₀ p : Pass} {i : ℕ} (k : Walking p₀ p i) where
  pub walk-done : length (grammar p₀.names.image.bytes.now).rules ≤ i → Answers p₀ (rules_from p₀.names.image.bytes.now 0) Done (Ok tt) p
  unfolding walk_rules
  walk-done l =
      comes-answers k.comes k.same
      (answers-by (answers-now {I = Done} {x = tt} tt)
      (λ L W. ap (λ (rs : List Rule). walk_rules (setup_for p.names.image.bytes.now L) rs W) (drop_of_length-le (grammar p₀.names.image.bytes.now).rules l)))

  module _ (inside : i < length (grammar p₀.names.image.bytes.now).rules) {root : ℕ} (is : root ≡ root_at (grammar p.names.image.bytes.now) i) (s : AbsStack) (e : state_of s ≡ entry)
      {a : Result Code.Outcome Refusal} {p₁ : Pass} (asked : Answers p (λ S W. visit S 256 true root (state_of s) W) IsOutcome a p₁) where
    abbrev more_rules : Setup → Outcome → World → Answer (Unit {0})
    more_rules S o W = rules_from p₀.names.image.bytes.now (suc i) S W

    one-rule : Comes p₀ (rules_from p₀.names.image.bytes.now 0) p (λ S W. and_then (visit S 256 true root (state_of s) W) (more_rules S))
    unfolding walk_rules root_at
    one-rule =
        comes-to k.comes
        (λ L W.
        ap (λ (rs : List Rule). walk_rules (setup_for p₀.names.image.bytes.now L) rs W) (drop-cons (grammar p₀.names.image.bytes.now).rules i no_rule inside)
        ∙ rw (e, is, k.same.image))

    pub walk_refused : {x : Refusal} → a ≡ Err x → Answers p₀ (rules_from p₀.names.image.bytes.now 0) Done (Err x) p₁
    walk_refused y = comes-answers one-rule k.same (on_err asked y more_rules)

    pub walk-again : {o : Code.Outcome} → a ≡ Ok o → SamePass p p₁ → {j : ℕ} → j ≡ suc i → Walking p₀ p₁ j
    walk-again y same q =
        rw q (record { same = same-trans k.same same; ready = ready-on asked y same k.ready; comes = comes-on one-rule k.same (outcome-comes asked y more_rules) })

-- the reports of a world fit the table
stands-room : {L : Lent} {T : Tables} {count : ℕ} {W : World} → Stands L T count W → length (L.before ++ loop_reports W.reports) ≤ L.reports / 8
stands-room {L} {T} {count} {W} h = omega (arith, h.counted, h.fitted, length-append L.before (loop_reports W.reports), loop-reports-length W.reports)

-- the bytes of the tables as the pass begins with them
pub lent_tables : (memo walked : List ℕ) {memo₁ walked₁ table : List ℕ} → memo₁ ≡ zeros (length memo) → walked₁ ≡ zeros (length walked)
    → tables memo₁ walked₁ table (zeros 2048) ≡ tables (zeros (length memo)) (zeros (length walked)) table (zeros 2048)
lent_tables memo walked {memo₁} {walked₁} {table} me we = λ i. tables (me i) (we i) table (zeros 2048)

-- what a report table holds before the pass
module _ (table : List ℕ) (count : ℕ) (h : Holds table (take count (words table))) (room : count ≤ places 8 table) where
  found-long : length (take count (words table)) ≡ count
  found-long = length-take-le count (words table) (omega (arith, words-length table, room))

  found-fit : Fit (take count (words table))
  found-fit i l =
      let inside : i < count = omega (arith, found-long) in
      let small : Small table = subst Small (sym h.bytes) (small-laid (length table) (take count (words table))) in
      rw (get_or-take count (words table) i 0 inside, words-at table i (omega (arith, room))) (le_at-lt 8 table (i * 8) small)

  module _ (memo walked : List ℕ) where
    -- the tables as they are lent
    abbrev lent : Lent
    lent = record { memo = length memo; walked = length walked; reports = length table; before = take count (words table) }

    begin-stands : Stands lent (tables (zeros (length memo)) (zeros (length walked)) table (zeros 2048)) count nothing_yet
    begin-stands =
        subst (λ (n : ℕ). Stands lent (tables (zeros (length memo)) (zeros (length walked)) table (zeros 2048)) n nothing_yet) found-long
        (subst (λ (t : List ℕ). Stands lent (tables (zeros (length memo)) (zeros (length walked)) t (zeros 2048)) (length (take count (words table))) nothing_yet) (sym h.bytes)
        (start-stands lent found-fit (omega (arith, found-long, room))))

    -- skips may change the stack: nothing is run
    pub pass-skipped : {memo₁ walked₁ : List ℕ} → memo₁ ≡ zeros (length memo) → walked₁ ≡ zeros (length walked) → (image : List ℕ) → skips_modify (grammar image) ≡ true
        → StackPassed image memo walked table count (Ok count) memo₁ walked₁ table
    unfolding stack_pass loop_reports
    pass-skipped me we image e =
        record {
          outcomes-zero = me;
          walked-zero = we;
          reports = rw e (
            counts,
            h.bytes ∙ ap (laid (length table)) (sym (append-nil (take count (words table)))),
            rw (append-nil (take count (words table))) h,
          );
        }
      where
        counts : count ≡ length (take count (words table)) + 0
        counts = omega (arith, found-long)

    module _ (p : Pass) (bytes : tables_of p ≡ tables (zeros (length memo)) (zeros (length walked)) table (zeros 2048)) (counts : p.count ≡ count) where
      starts-stands : Stands lent (tables_of p) p.count nothing_yet
      starts-stands = rw (bytes, counts) begin-stands

      pub pass-ready : p.skips ≡ skips_of (grammar p.names.image.bytes.now) → Ready p
      pass-ready e = record { skips = e; standing = record { lent = lent; world = nothing_yet; stands = starts-stands } }

      module _ (e : skips_modify (grammar p.names.image.bytes.now) ≡ false) {r : Result (Unit {0}) Refusal} {q : Pass}
          (walked-so : Answers p (λ S W. walk_rules S (grammar p.names.image.bytes.now).rules W) Done r q) where
        same-pass : stack_pass (grammar p.names.image.bytes.now) (places 8 memo) (places 4 walked) (places 8 table - count) ≡ walk_rules (setup_for p.names.image.bytes.now lent) (grammar p.names.image.bytes.now).rules nothing_yet
        unfolding stack_pass
        same-pass = rw (e, found-long)

        given_so : {x : Result (Unit {0}) Refusal} → r ≡ x
            → GivenIf lent (tables_of p) (Says Done x) (number_of x) q.count (tables_of q) (walk_rules (setup_for p.names.image.bytes.now lent) (grammar p.names.image.bytes.now).rules nothing_yet)
        given_so y = rw (← y) (walked-so.so.each lent nothing_yet starts-stands).says

        module _ {memo₃ walked₃ : List ℕ} (m w : List ℕ) (m₃ : memo₃ ≡ zeros (length m)) (w₃ : walked₃ ≡ zeros (length w)) (lm : length m ≡ length memo) (lw : length w ≡ length walked) where
          pub pass-refused : {k : Refusal} → r ≡ Err k → (t : List ℕ) {table₃ : List ℕ} → table₃ ≡ zeros (length t) → length t ≡ length table
              → StackPassed p.names.image.bytes.now memo walked table count (Err k) memo₃ walked₃ table₃
          pass-refused {k} y t {table₃} t₃ lt =
              record {
                outcomes-zero = m₃ ∙ ap zeros lm;
                walked-zero = w₃ ∙ ap zeros lw;
                reports = rw same-pass (go (walk_rules (setup_for p.names.image.bytes.now lent) (grammar p.names.image.bytes.now).rules nothing_yet) (given_so y));
              }
            where
              go : (d : Answer (Unit {0})) → GivenIf lent (tables_of p) (Says Done (Err k)) (refusal_number k) q.count (tables_of q) d
                  → PassedIf (length table) (take count (words table)) (Err k) table₃ d
              go (refused n) g = (g.0, t₃ ∙ ap zeros lt)
              go (given u W) g = let l = refusal_number-positive k in absurd (let z = g.0 in omega (arith, l))

          pub pass-given : {u : Unit {0}} → r ≡ Ok u → {table₃ : List ℕ} → table₃ ≡ q.table.now → StackPassed p.names.image.bytes.now memo walked table count (Ok q.count) memo₃ walked₃ table₃
          pass-given y {table₃} t₃ =
              record {
                outcomes-zero = m₃ ∙ ap zeros lm;
                walked-zero = w₃ ∙ ap zeros lw;
                reports = rw (same-pass, t₃) (go (walk_rules (setup_for p.names.image.bytes.now lent) (grammar p.names.image.bytes.now).rules nothing_yet) (given_so y));
              }
            where
              go : (d : Answer (Unit {0})) → GivenIf lent (tables_of p) (Says Done (Ok tt)) 0 q.count (tables_of q) d
                  → PassedIf (length table) (take count (words table)) (Ok q.count) q.table.now d
              go (refused n) g = absurd (let z = g.0 in let l = g.1 in omega arith)
              go (given u W) g = (
                g.2.counted,
                g.2.words,
                rw g.2.words (laid-holds (length table) (take count (words table) ++ loop_reports W.reports) g.2.fit (stands-room g.2)),
              )
