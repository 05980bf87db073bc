-- What the code tests of δ, and where the first of a run of counts is out of range.
use mathlib.Core.Path.{◌≡◌, refl, ap, ◌∙◌}
use Prim.Native.Nat.{ℕ, zero, suc, ◌+◌, ◌*◌, ◌≤◌, ◌<◌}
use mathlib.Core.Bool.{Bool, true, false, ◌&&◌}
use mathlib.Core.List.{List}
use native.Mathlib.Decide.{dec_lt}
use native.Mathlib.Omega.{arith}
use lib.Dec.{leb}
use lib.IntN.{pos}
use lib.ListN.{replicate}
use borrow.Author.Tests.{lt-leb}
use Rattle.endian.specs.Numbers.{little_at, signed}
use Rattle.endian.proofs.Laws.{signed_low, signed_high}
use Rattle.refusal.specs.Places.{before_failing}
use Rattle.refusal.proofs.PlaceLaws.{before_first, before_same, before_within}
use Rattle.refusal.proofs.TestLaws.{either}
use Rattle.record.specs.Fields.{u16, width, number, Field}
use Rattle.record.specs.Ranges.{◌to◌, within}
use Rattle.record_fields.specs.Runs.{field_number_at, fits, fault}
use Rattle.record_fields.proofs.FirstFaults.{fault_none, fault_next, fault_here}
use Rattle.record_paths.specs.PathFields.{falls, fall}

-- ---- δ

and_false : (b : Bool) → (b && false) ≡ false
and_false true = refl
and_false false = refl

-- a number that would be negative is too large to be a fall
within_falls : (x : ℕ) → x < 4294967296 → within (1 to 1000000) (pos x) ≡ within (1 to 1000000) (signed 2147483648 x)
unfolding within ◌to◌
within_falls x stored =
    elim (dec_lt x 2147483648) [
      | yes low ↦ rw (signed_low 2147483648 x low)
      | no high ↦
          let above : 2147483648 ≤ x = omega arith in
          let large : 1000000 < x = omega arith in
          rw (signed_high 2147483648 x above stored, lt-leb x 1000000 large) (and_false (leb 1 x))
    ]

pub fall_fits : (bytes : List ℕ) (place x : ℕ) → x ≡ little_at 4 bytes place → x < 4294967296
    → within (1 to 1000000) (pos x) ≡ fits fall bytes place
unfolding fits field_number_at number width fall falls little_at
fall_fits bytes place x read small = rw (← read) (within_falls x small)

-- ---- counts

-- what the code tests of a count is whether its field is in range
pub count_fits : (field : Field) (bytes : List ℕ) (place : ℕ) (b : Bool) → field.form ≡ u16
    → within field.range (pos (little_at 2 bytes place)) ≡ b → fits field bytes place ≡ b
unfolding fits field_number_at number width little_at
count_fits field bytes place b form h = rw form h

-- one count more
by_later : (b : Bool) (n : ℕ) → b ≡ true → ◌≡◌ {A = ℕ} (elim b [ true ↦ n | false ↦ 0 ]) n
by_later true n e = refl
by_later false n e = cc

before_past : (n : ℕ) (holds : ℕ → Bool) → holds 0 ≡ true → before_failing (suc n) holds ≡ suc (before_failing n (λ j. holds (suc j)))
unfolding before_failing
before_past n holds h = by_later (holds 0) _ h

-- the first out of range stands as many counts on as come before it
module _ (f : Field) (form : f.form ≡ u16) (bytes : List ℕ) where
  fit_at : ℕ → ℕ → Bool
  fit_at place j = within f.range (pos (little_at 2 bytes (place + 2 * j)))

  here_fits : (place : ℕ) → fits f bytes place ≡ fit_at place 0
  unfolding fit_at
  here_fits place = let here : place + 2 * 0 ≡ place = omega arith in count_fits f bytes place _ form (rw here)

  next_fits : (place j : ℕ) → fit_at place (suc j) ≡ fit_at (place + 2) j
  unfolding fit_at
  next_fits place j = let there : place + 2 * suc j ≡ place + 2 + 2 * j = omega arith in rw there

  runs : (count place : ℕ) → fault (replicate count f) bytes place ≡ place + 2 * before_failing count (fit_at place)
  unfolding width
  runs zero place = rw (fault_none bytes place) (omega (arith, before_within 0 (fit_at place)))
  runs (suc count) place =
      either (fit_at place 0)
      (λ e.
      let wide : width f.form ≡ 2 = rw form in
      let rest = before_past count (fit_at place) e ∙ ap suc (before_same count _ (fit_at (place + 2)) (λ j below. next_fits place j)) in
      rw (fault_next bytes f (replicate count f) place (here_fits place ∙ e), wide, runs count (place + 2), rest) (omega arith))
      (λ e.
      let none = before_first (suc count) (fit_at place) 0 (omega arith) e (λ i below. absurd (omega arith)) in
      rw (fault_here bytes f (replicate count f) place (here_fits place ∙ e), none) (omega arith))

  pub run_fault : (count place : ℕ) → fault (replicate count f) bytes place
      ≡ place + 2 * before_failing count (λ j. within f.range (pos (little_at 2 bytes (place + 2 * j))))
  unfolding fit_at
  run_fault count place = runs count place
