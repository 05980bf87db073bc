-- The ways through the order for a record of kind 8: what is told at each return of its check.
use mathlib.Core.Path.{◌≡◌, ◌∙◌}
use Prim.Native.Nat.{ℕ, ◌+◌, ◌*◌}
use mathlib.Core.List.{List}
use native.Mathlib.Omega.{arith}
use lib.ListN.{length, drop}
use borrow.Author.Tests.{eq-eqb, ne_eqb}
use Rattle.endian.specs.Numbers.{little_at}
use Rattle.refusal.specs.Tests.{refused, first}
use Rattle.refusal.proofs.TestLaws.{passed, failed}
use Rattle.record.specs.Readers.{stated_length, kind_number}
use Rattle.record_fields.specs.Runs.{run_told}
use Rattle.record_check.specs.Framing.{Framed}
use Rattle.record_paths.specs.PathFields.{bytes_alone, is_kind, is_long}
use Rattle.record_paths_check.proofs.OrderWays.{past_frame, fields_told}
use Rattle.record_settling.specs.SettlingRecords.{settling_fields, settling_length, sound_settling}

module _ (bytes : List ℕ) (n m : ℕ) (f : Framed bytes) where
  -- what is told of the record
  abbrev Tells : ℕ → ℕ → Type 0
  Tells k p = first (sound_settling n m) (bytes_alone bytes) ≡ refused k p

  framed : first (sound_settling n m) (bytes_alone bytes) ≡ first (drop 4 (sound_settling n m)) (bytes_alone bytes)
  unfolding sound_settling
  framed = past_frame (drop 4 (sound_settling n m)) bytes f

  pub other_kind : (little_at 2 bytes 4 ≡ 8 → ⊥) → Tells 4 4
  unfolding sound_settling is_kind kind_number bytes_alone
  other_kind h = framed ∙ failed _ _ _ _ (bytes_alone bytes) (ne_eqb _ _ h)

  module _ (is : little_at 2 bytes 4 ≡ 8) where
    of_kind : first (sound_settling n m) (bytes_alone bytes) ≡ first (drop 5 (sound_settling n m)) (bytes_alone bytes)
    unfolding sound_settling is_kind kind_number bytes_alone
    of_kind = framed ∙ passed _ _ _ _ (bytes_alone bytes) (eq-eqb _ _ is)

    pub bad_length : (length bytes ≡ 16 + 2 * n + 6 * m → ⊥) → Tells 3 0
    unfolding sound_settling is_long stated_length bytes_alone settling_length
    bad_length h =
        let other : little_at 4 bytes 0 ≡ 12 + 2 * n + 6 * m → ⊥ = λ e. h (omega (arith, e, f.whole)) in
        of_kind ∙ failed _ _ _ _ (bytes_alone bytes) (ne_eqb _ _ other)

    pub values_told : length bytes ≡ 16 + 2 * n + 6 * m → first (sound_settling n m) (bytes_alone bytes) ≡ run_told (settling_fields n m) bytes 6
    unfolding sound_settling is_long stated_length bytes_alone settling_length
    values_told long =
        let same : little_at 4 bytes 0 ≡ 12 + 2 * n + 6 * m = omega (arith, f.whole, long) in
        of_kind ∙ passed _ _ _ _ (bytes_alone bytes) (eq-eqb _ _ same) ∙ fields_told bytes (λ r. 6) (λ r. settling_fields n m)
