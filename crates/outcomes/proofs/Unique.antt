-- Two results that fit a public function's promise are equal. Assumes nothing.
use Rattle.std.specs.Prelude.{Option, Some, None}
use mathlib.Core.Path.{◌≡◌, refl, sym, ap, ◌∙◌}
use mathlib.Core.Bool.{Bool}
use Prim.Native.Nat.{ℕ}
use native.Mathlib.Omega.{arith}
use Rattle.stack.specs.declared.AbsStack.{AbsStack}
use Rattle.stack.specs.State.{max_len, popped_one}
use Rattle.stack.specs.Promise.{state_of}
use Rattle.stack.proofs.Unique.{is-unique, eq-unique}
use Rattle.machine.specs.Outcome as M
use Rattle.outcomes.specs.declared.Outcome.{Outcome}
use Rattle.outcomes.specs.Promise.{maybe_of, outcome_of, FormedMaybe, IsMaybe, IsOutcome}
use Rattle.outcomes.specs.Word.{outcome_number, outcome_at}

-- one well-formed enum stands for a state or nothing
same-maybe : (r q : Option AbsStack) → FormedMaybe r → FormedMaybe q → maybe_of r ≡ maybe_of q → r ≡ q
same-maybe None None hr hq e = refl
same-maybe None (Some u) hr hq e = let z : ◌≡◌ {A = ℕ} 0 1 = cc in absurd (omega arith)
same-maybe (Some s) None hr hq e = let z : ◌≡◌ {A = ℕ} 0 1 = cc in absurd (omega arith)
same-maybe (Some s) (Some u) hr hq e =
    let same : state_of s ≡ state_of u = cc in
    ap Some (is-unique s u (record { state = same; well_formed = hr }) (record { state = refl; well_formed = hq }))

-- the laws behind every promise that says `IsMaybe` or `IsOutcome`
pub is-maybe-unique : {t : M.Maybe} (r q : Option AbsStack) → IsMaybe t r → IsMaybe t q → r ≡ q
is-maybe-unique r q hr hq = same-maybe r q hr.formed hq.formed (hr.maybe ∙ sym hq.maybe)

module _ {t : M.Outcome} (r q : Outcome) (hr : IsOutcome t r) (hq : IsOutcome t q) where
  same_outcome : outcome_of r ≡ outcome_of q
  same_outcome = hr.outcome ∙ sym hq.outcome

  pub is-outcome-unique : r ≡ q
  is-outcome-unique =
      let ok = same-maybe r.ok q.ok hr.formed.ok hq.formed.ok (ap (λ o. o.ok) same_outcome) in
      let err = same-maybe r.err q.err hr.formed.err hq.formed.err (ap (λ o. o.err) same_outcome) in
      λ i. record { ok = ok i; err = err i; empty = ap (λ o. o.empty) same_outcome i }

-- at most one struct, at most one enum, fits a promise
abbrev pub OneOutcome : M.Outcome → Type 0
OneOutcome t = (r q : Outcome) → IsOutcome t r → IsOutcome t q → r ≡ q

abbrev pub OneMaybe : M.Maybe → Type 0
OneMaybe t = (r q : Option AbsStack) → IsMaybe t r → IsMaybe t q → r ≡ q

pub unknown-unique : OneOutcome M.unknown
unknown-unique = is-outcome-unique

pub never-unique : OneOutcome M.never
never-unique = is-outcome-unique

module _ (s : AbsStack) where
  pub succeeds-unique : OneOutcome (M.succeeds (state_of s))
  succeeds-unique = is-outcome-unique

  pub fails-unique : OneOutcome (M.fails (state_of s))
  fails-unique = is-outcome-unique

  pub either-unique : OneOutcome (M.either (state_of s))
  either-unique = is-outcome-unique

  pub of-peek-all-unique : OneOutcome (M.of_peek_all (state_of s))
  of-peek-all-unique = is-outcome-unique

  pub of-pop-all-unique : OneOutcome (M.of_pop_all (state_of s))
  of-pop-all-unique = is-outcome-unique

  pub of-peek-unique : OneOutcome (M.of_top (state_of s) (state_of s))
  of-peek-unique = is-outcome-unique

  pub of-pop-unique : OneOutcome (M.of_top (state_of s) (popped_one (state_of s)))
  of-pop-unique = is-outcome-unique

  pub of-drop-unique : OneOutcome (M.of_drop (state_of s))
  of-drop-unique = is-outcome-unique

  pub of-push-literal-unique : (len : ℕ) → OneOutcome (M.of_push_literal max_len len (state_of s))
  of-push-literal-unique len = is-outcome-unique

  module _ (o l r : Outcome) where
    pub of-pos-pred-unique : OneOutcome (M.of_pos_pred (state_of s) (outcome_of o))
    of-pos-pred-unique = is-outcome-unique

    pub of-neg-pred-unique : OneOutcome (M.of_neg_pred (state_of s) (outcome_of o))
    of-neg-pred-unique = is-outcome-unique

    pub of-seq-unique : (skips : Bool) → OneOutcome (M.of_seq skips (state_of s) (outcome_of l) (outcome_of r))
    of-seq-unique skips = is-outcome-unique

    pub of-choice-unique : OneOutcome (M.of_choice (state_of s) (outcome_of l) (outcome_of r))
    of-choice-unique = is-outcome-unique

    pub of-opt-unique : OneOutcome (M.of_opt (state_of s) (outcome_of o))
    of-opt-unique = is-outcome-unique

  pub failed-unique : (err : Option AbsStack) → OneMaybe (M.failed (maybe_of err) (state_of s))
  failed-unique err = is-maybe-unique

pub joined-unique : (a b : Option AbsStack) → OneMaybe (M.joined (maybe_of a) (maybe_of b))
joined-unique a b = is-maybe-unique

pub is-some-unique : (m : Option AbsStack) (r q : Bool) → r ≡ M.is_some (maybe_of m) → q ≡ M.is_some (maybe_of m) → r ≡ q
is-some-unique m r q = eq-unique

module _ (o : Outcome) where
  pub of-push-unique : OneOutcome (M.of_push max_len (outcome_of o))
  of-push-unique = is-outcome-unique

  pub still-unique : (r q : Bool) → r ≡ M.still (outcome_of o) → q ≡ M.still (outcome_of o) → r ≡ q
  still-unique r q = eq-unique

  pub exact-unique : OneMaybe (M.exact (outcome_of o))
  exact-unique = is-maybe-unique

  pub encode-unique : (r q : ℕ) → r ≡ outcome_number (outcome_of o) → q ≡ outcome_number (outcome_of o) → r ≡ q
  encode-unique r q = eq-unique

pub decode-unique : (v : ℕ) → OneOutcome (outcome_at v)
decode-unique v = is-outcome-unique
