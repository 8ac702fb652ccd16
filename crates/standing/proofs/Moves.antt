-- What a place taken, a value stored or a report placed makes of the world that the tables stand for. Assumes nothing.
use mathlib.Core.Path.{◌≡◌, refl, ap, ◌∙◌}
use mathlib.Core.Bool.{Bool, true, false, ◌||◌}
use mathlib.Core.List.{List, [], ◌∷◌, ◌++◌, append_assoc, append-nil}
use Prim.Native.Nat.{ℕ, suc, ◌+◌, ◌/◌, ◌^◌, ◌<◌, ◌≤◌}
use native.Mathlib.Omega.{arith}
use lib.Dec.{eqb, lit≤, lit<}
use lib.ListN.{length, get_or, set, length-append, length-replicate, length-set}
use lib.Seq.{get_or-set_same, get_or-set_other}
use borrow.Author.Tests.{eqb-true, eqb-false}
use Rattle.stack.specs.State.{State, Within, max_len}
use Rattle.stack.specs.Number.{number_of, bit}
use Rattle.stack.proofs.Numbers.{number_of-lt}
use Rattle.machine.specs.Outcome.{Outcome}
use Rattle.asking.specs.World.{Pair, World, nothing_yet, has_node, opens, closes, walks, reports}
use Rattle.tables.specs.Bytes.{zeros}
use Rattle.tables.specs.Places.{set_value, set_place}
use Rattle.tables.specs.Probing.{probe}
use Rattle.tables.specs.Map.{start, grow}
use Rattle.tables.specs.Words.{laid, Stored}
use Rattle.tables.specs.Report.{report}
use Rattle.tables.specs.declared.Probe.TheVariants.{Found, Free}
use Rattle.tables.proofs.Memo.{memo-replace}
use Rattle.tables.proofs.Pair.{pair-nz}
use Rattle.tables.proofs.Laid.{Fit, fit-more, laid_more}
use Rattle.tables.proofs.Bytes.{get_or-zeros}
use Rattle.outcomes.specs.Word.{outcome_number, WithinOutcome}
use Rattle.asking.specs.StackPass.{loop_reports}
use Rattle.standing.specs.Stands.{key_of, memo_map, walked_map, Lent, Tables, Stands}
use Rattle.standing.proofs.Maps.{answered-map, answered-formed}

-- the tables with one of them changed
abbrev pub with_memo : List ℕ → Tables → Tables
with_memo memo T = record { memo = memo; walked = T.walked; reports = T.reports; marks = T.marks }

abbrev pub with_walked : List ℕ → Tables → Tables
with_walked walked T = record { memo = T.memo; walked = walked; reports = T.reports; marks = T.marks }

-- a key is not 0 and fits its place
pub key-nz : (n : ℕ) (s : State) → key_of n s ≡ 0 → ⊥
key-nz n s e = pair-nz 32768 n (number_of s) e

pub key-lt : (n : ℕ) (s : State) → n < 2048 → Within max_len s → key_of n s < 256 ^ 4
key-lt n s h w = let b = number_of-lt s w in omega arith

module _ {L : Lent} {T : Tables} {count : ℕ} {W : World} (h : Stands L T count W) (n : ℕ) (s : State) (small : n < 2048) (w : Within max_len s) where
  pub opens-stands : (p : ℕ) → Free p ≡ probe 4 8 T.memo (key_of n s) → Stands L (with_memo (set_place 4 8 T.memo p (key_of n s) 0) T) count (opens n s W)
  unfolding memo_map
  opens-stands p e =
      record {
        remembered = grow (key_of n s) 0 p h.remembered (key-nz n s) (key-lt n s small w) (lit< tt) e;
        visited = h.visited;
        words = h.words;
        fit = h.fit;
        counted = h.counted;
        fitted = h.fitted;
        long = h.long;
        marked = h.marked;
        entries = (record { node = small; within = w }, tt, h.entries);
        pairs = h.pairs;
      }

  pub closes-stands : (o : Outcome) (p : ℕ) → WithinOutcome max_len o → outcome_number o < 256 ^ 4 → Found p ≡ probe 4 8 T.memo (key_of n s)
      → Stands L (with_memo (set_value 4 8 T.memo p (outcome_number o)) T) count (closes n s o W)
  closes-stands o p wo fits e =
      record {
        remembered = rw (answered-map n s o W.memo w h.entries) (memo-replace 4 8 (lit≤ tt) L.memo h.remembered (key_of n s) (key-nz n s) p (outcome_number o) e fits);
        visited = h.visited;
        words = h.words;
        fit = h.fit;
        counted = h.counted;
        fitted = h.fitted;
        long = h.long;
        marked = h.marked;
        entries = answered-formed n s o W.memo wo h.entries;
        pairs = h.pairs;
      }

  pub walks-stands : (p : ℕ) → Free p ≡ probe 4 4 T.walked (key_of n s) → Stands L (with_walked (set_place 4 4 T.walked p (key_of n s) 0) T) count (walks n s W)
  unfolding walked_map
  walks-stands p e =
      record {
        remembered = h.remembered;
        visited = grow (key_of n s) 0 p h.visited (key-nz n s) (key-lt n s small w) (lit< tt) e;
        words = h.words;
        fit = h.fit;
        counted = h.counted;
        fitted = h.fitted;
        long = h.long;
        marked = h.marked;
        entries = h.entries;
        pairs = (record { node = small; within = w }, h.pairs);
      }

-- the report of a repetition and the state it was found to loop from
abbrev pub loop_report : ℕ → State → ℕ
loop_report n s = report n (number_of s) 3

loop-reports-more : (ps : List Pair) (n : ℕ) (s : State)
    → loop_reports (ps ++ (record { node = n; state = s } ∷ [])) ≡ loop_reports ps ++ (loop_report n s ∷ [])
unfolding loop_reports
loop-reports-more [] n s = refl
loop-reports-more (p ∷ ps) n s = ap (λ (xs : List ℕ). loop_report p.node p.state ∷ xs) (loop-reports-more ps n s)

pub loop-reports-length : (ps : List Pair) → length (loop_reports ps) ≡ length ps
unfolding loop_reports
loop-reports-length [] = refl
loop-reports-length (p ∷ ps) = ap suc (loop-reports-length ps)

or-true : (a : Bool) → a || true ≡ true
or-true true = refl
or-true false = refl

or-false : (a : Bool) → a || false ≡ a
or-false true = refl
or-false false = refl

or_assoc : (a b c : Bool) → a || (b || c) ≡ (a || b) || c
or_assoc true b c = refl
or_assoc false b c = refl

has-node-more : (m n : ℕ) (s : State) (ps : List Pair) → has_node m (ps ++ (record { node = n; state = s } ∷ [])) ≡ has_node m ps || eqb m n
has-node-more m n s [] = or-false (eqb m n)
has-node-more m n s (p ∷ ps) = ap (λ (b : Bool). eqb m p.node || b) (has-node-more m n s ps) ∙ or_assoc (eqb m p.node) (has_node m ps) (eqb m n)

-- the mark of a node that is reported
mark-more : (marks : List ℕ) (m n : ℕ) (b : Bool) → m < length marks → get_or marks m 0 ≡ bit b → get_or (set marks n 1) m 0 ≡ bit (b || eqb m n)
mark-more marks m n b l e = go (eqb m n) refl
  where
    go : (t : Bool) → eqb m n ≡ t → get_or (set marks n 1) m 0 ≡ bit (b || t)
    go true q = rw (← eqb-true m n q, or-true b) (get_or-set_same marks m 1 0 l)
    go false q = rw (or-false b) (get_or-set_other marks n m 1 0 (eqb-false m n q) ∙ e)

pub reports-stands : {L : Lent} {T : Tables} {count : ℕ} {W : World} → Stands L T count W → (n : ℕ) (s : State) → n < 2048 → Within max_len s → count < L.reports / 8
    → (table : List ℕ) → Stored T.reports count (loop_report n s) table
    → Stands L (record { memo = T.memo; walked = T.walked; reports = table; marks = set T.marks n 1 }) (suc count) (reports n s W)
reports-stands {L} {T} {count} {W} h n s small w room table p =
    record {
      remembered = h.remembered;
      visited = h.visited;
      words = rw (loop-reports-more W.reports n s, ← append_assoc L.before (loop_reports W.reports) (loop_report n s ∷ []))
          (laid_more L.reports xs (loop_report n s) h.fit fits (omega (arith, lens, h.counted)) table stored_at);
      fit = rw (loop-reports-more W.reports n s, ← append_assoc L.before (loop_reports W.reports) (loop_report n s ∷ []))
          (fit-more L.reports xs (loop_report n s) h.fit fits (omega (arith, lens, h.counted)));
      counted = omega (arith, h.counted, length-append W.reports (record { node = n; state = s } ∷ []));
      fitted = room;
      long = length-set T.marks n 1 ∙ h.long;
      marked = λ m l. rw (has-node-more m n s W.reports) (mark-more T.marks m n (has_node m W.reports) (omega (arith, h.long)) (h.marked m l));
      entries = h.entries;
      pairs = h.pairs;
    }
  where
    xs : List ℕ
    xs = L.before ++ loop_reports W.reports

    lens : length xs ≡ length L.before + length W.reports
    lens = length-append L.before (loop_reports W.reports) ∙ ap (λ (k : ℕ). length L.before + k) (loop-reports-length W.reports)

    fits : loop_report n s < 256 ^ 8
    fits = let b = number_of-lt s w in omega arith

    stored_at : Stored (laid L.reports xs) (length xs) (loop_report n s) table
    stored_at = rw (← h.words, lens, ← h.counted) p

-- cleared tables, and the reports of the passes before, stand for the world in which nothing has been asked
pub start-stands : (L : Lent) → Fit L.before → length L.before ≤ L.reports / 8
    → Stands L (record { memo = zeros L.memo; walked = zeros L.walked; reports = laid L.reports L.before; marks = zeros 2048 }) (length L.before) nothing_yet
unfolding memo_map walked_map loop_reports
start-stands L f r =
    record {
      remembered = start;
      visited = start;
      words = rw (append-nil L.before);
      fit = rw (append-nil L.before) f;
      counted = omega arith;
      fitted = r;
      long = length-replicate {A = ℕ} 2048 0;
      marked = λ n l. get_or-zeros 2048 n;
      entries = tt;
      pairs = tt;
    }
