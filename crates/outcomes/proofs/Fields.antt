-- The fields of the outcome's number as the code shifts and masks them. Assumes nothing.
use Rattle.std.specs.Prelude.{Option}
use mathlib.Core.Path.{◌≡◌, refl, sym}
use Prim.Native.Nat.{ℕ, ◌+◌, ◌*◌, ◌^◌, ◌/◌, ◌%◌, ◌<◌}
use native.Mathlib.Omega.{arith}
use lib.Bits.{bit_and, bit_or, and_mask}
use lib.Dec.{eqb}
use mir.Val.{bool_byte}
use Rattle.stack.specs.State.{max_len}
use Rattle.stack.specs.Number.{bit}
use Rattle.stack.proofs.Fields.{beside, byte-is-bit}
use Rattle.stack.proofs.Numbers.{bit-lt}
use Rattle.outcomes.specs.declared.Outcome.{Outcome}
use Rattle.outcomes.specs.Promise.{maybe_of, outcome_of, Formed, IsMaybe, IsOutcome}
use Rattle.outcomes.specs.Word.{maybe_number, maybe_at, outcome_number, outcome_at, NumberOfMaybe, NumberOfOutcome}
use Rattle.outcomes.proofs.Made.{made}
use Rattle.outcomes.proofs.Words.{maybe_number-lt, number_ok, number-err}
use Rattle.outcomes.proofs.Within.{maybe-within}
use Rattle.stack.specs.declared.AbsStack.{AbsStack}

-- the three fields of an outcome's word, side by side over its formed bit
coded : (err ok e : ℕ) → err < 32768 → ok < 32768 → e < 2
    → bit_or (bit_or (bit_or (err * 131072 % 18446744073709551616) (ok * 4 % 18446744073709551616)) (e * 2 % 18446744073709551616)) 1
    ≡ 1 + 2 * e + 4 * ok + 131072 * err
coded err ok e herr hok he =
    let x = err * 131072 % 18446744073709551616 in
    let y = ok * 4 % 18446744073709551616 in
    let z = e * 2 % 18446744073709551616 in
    let one : bit_or x y ≡ err * 2 ^ 17 + ok * 4 = beside 17 err (ok * 4) x y (omega arith) (omega arith) (omega arith) in
    let two : bit_or (bit_or x y) z ≡ (err * 32768 + ok) * 2 ^ 2 + e * 2 = beside 2 (err * 32768 + ok) (e * 2) (bit_or x y) z (omega arith) (omega arith) (omega arith) in
    let three : bit_or (bit_or (bit_or x y) z) 1 ≡ (err * 65536 + ok * 2 + e) * 2 ^ 1 + 1 = beside 1 (err * 65536 + ok * 2 + e) 1 (bit_or (bit_or x y) z) 1 (omega arith) refl (omega arith) in
    omega arith

pub encode-law : (o : Outcome) → Formed o
    → bit_or
    (bit_or
    (bit_or (maybe_number (maybe_of o.err) * 131072 % 18446744073709551616) (maybe_number (maybe_of o.ok) * 4 % 18446744073709551616))
    (bool_byte o.empty * 2 % 18446744073709551616))
    1
    ≡ outcome_number (outcome_of o)
unfolding outcome_number
encode-law o h =
    rw (byte-is-bit o.empty)
    (coded (maybe_number (maybe_of o.err)) (maybe_number (maybe_of o.ok)) (bit o.empty)
    (maybe_number-lt (maybe_of o.err) (maybe-within o.err h.err))
    (maybe_number-lt (maybe_of o.ok) (maybe-within o.ok h.ok))
    (bit-lt o.empty))

-- a field of 15 bits, shifted down
pub field : (x : ℕ) → bit_and x 32767 ≡ x % 32768
field x = and_mask x 15

module _ (v : ℕ) (h : NumberOfOutcome max_len v) where
  pub ok-number : NumberOfMaybe max_len (bit_and (v / 4) 32767)
  ok-number = record {
    maybe = h.outcome.ok;
    within = h.within.ok;
    number = rw (← h.number, field (outcome_number h.outcome / 4)) (sym (number_ok h.outcome h.within));
  }

  pub err-number : NumberOfMaybe max_len (bit_and (v / 131072) 32767)
  err-number = record {
    maybe = h.outcome.err;
    within = h.within.err;
    number = rw (← h.number, field (outcome_number h.outcome / 131072)) (sym (number-err h.outcome h.within));
  }

pub decode-law : (v : ℕ) {ok err : Option AbsStack} → IsMaybe (maybe_at (bit_and (v / 4) 32767)) ok → IsMaybe (maybe_at (bit_and (v / 131072) 32767)) err
    → IsOutcome (outcome_at v) (record { ok = ok; err = err; empty = eqb (bit_and (v / 2) 1) 1 })
unfolding outcome_at
decode-law v hok herr = made (rw (field (v / 4)) at hok) (rw (field (v / 131072)) at herr) (rw (and_mask (v / 2) 1))
