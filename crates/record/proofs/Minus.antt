-- The minus sign, which version one lost. A number in range reads back as itself whatever its sign; the bytes of a negative entry
-- are written out. And 65,535, which is how a multiplier of -1 would be stored, is never accepted as a multiplier: it is
-- read as 65,535, which is out of range.
use mathlib.Core.Path.{◌≡◌, refl, ap, ◌∙◌}
use Prim.Native.Nat.{ℕ, zero, suc, ◌+◌, ◌-◌, ◌≤◌, ◌<◌}
use mathlib.Core.Bool.{false≢true}
use mathlib.Core.List.{List}
use native.Mathlib.Omega.{arith}
use lib.IntN.{ℤ, pos, negsuc, neg_ℤ}
use lib.ListN.{length, get_or, take, drop}
use lib.Seq.{drop-drop}
use Rattle.endian.specs.Numbers.{little_at, digits, unsigned}
use Rattle.endian.proofs.Laws.{signed_high, little_digits}
use Rattle.record.specs.Contents.{In}
use Rattle.record.specs.Fields.{i16, width, number, stored, Field, widths, values}
use Rattle.record.specs.Layouts.{multiplier}
use Rattle.record.specs.Ranges.{◌to◌, multipliers, within}
use Rattle.record.specs.Readers as R
use Rattle.record.specs.Readers.{Reader}
use Rattle.record.proofs.FieldLaws.{number_stored, field_holds, length_values, value_at, in_range_at}
use Rattle.record.proofs.FittingValues.{in_within}
use Rattle.record.proofs.SoundRecords.{has_read}

-- of every field: a number in its range is stored and read back
pub field_back : (f : Field) (z : ℤ) → In f.range z → number f.form (stored f.form z) ≡ z
field_back f z h = number_stored f.form z (field_holds f z (in_within h))

-- -k, for every k up to 30,000: its bytes are those of 65,536 - k, and these bytes read as -k
pub minus_kept : (k : ℕ) → 1 ≤ k → k ≤ 30_000
    → (stored i16 (neg_ℤ (pos k)) ≡ digits 2 (65_536 - k)) × (number i16 (digits 2 (65_536 - k)) ≡ neg_ℤ (pos k))
unfolding stored number unsigned
minus_kept zero some most = absurd (omega arith)
minus_kept (suc k) some most = (
  refl,
  rw (little_digits 2 (65_536 - suc k) (omega arith))
      (signed_high 0x8000 (65_536 - suc k) (omega arith) (omega arith) ∙ ap negsuc (omega arith)),
)

-- 65,535 at a multiplier's field of any record: the record is refused
pub no_multiplier : (r : Reader) (lent : List ℤ) (i : ℕ) → i < length (R.fields r) → get_or (R.fields r) i multiplier ≡ multiplier
    → little_at 2 r.bytes (R.list_start r + widths (take i (R.fields r))) ≡ 65_535 → (R.reads r).number ≡ 0 → ⊥
unfolding R.list multiplier width number little_at multipliers within ◌to◌
no_multiplier r lent i inside here stored zero_told =
    let fits = (has_read r lent zero_told).sound_record.values_fit in
    let bs = drop (R.list_start r) r.bytes in
    let told = in_range_at (R.fields r) (values (R.fields r) bs) i multiplier (length_values (R.fields r) bs) fits inside in
    absurd (false≢true (rw (value_at (R.fields r) bs i multiplier inside, here, drop-drop, stored) at told))
