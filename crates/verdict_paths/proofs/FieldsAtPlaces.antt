-- Fields that stand at a place of bytes with every number in range: taken apart and put together, so that what is known of a whole body is known
-- of its parts and the other way round. A body is made of families of fields, so many rows, components or multipliers.
use mathlib.Core.Path.{◌≡◌, refl, sym, ap, ◌∙◌}
use Prim.Native.Nat.{ℕ, zero, suc, ◌+◌, ◌*◌, ◌-◌, ◌≤◌}
use mathlib.Core.Bool.{true}
use mathlib.Core.List.{List, [], ◌∷◌, ◌++◌, append_assoc, append-nil}
use native.Mathlib.Omega.{arith}
use lib.ListN.{length, take, drop, replicate, replicate-append-replicate, length-replicate}
use lib.Seq.{drop-drop, take_all}
use Rattle.refusal.specs.Places.{Throughout}
use Rattle.refusal.proofs.TestLaws.{both_true, true_both}
use Rattle.record.specs.Contents.{In, ListIn, RowsIn}
use Rattle.record.specs.Fields.{width, Field, widths, values, in_range}
use Rattle.record.specs.Layouts.{direction, right_side, rows_of}
use Rattle.record.specs.Ranges.{within}
use Rattle.record.proofs.FieldLaws.{length_values, widths_append}
use Rattle.record.proofs.FittingValues.{fit_run, within_in}
use Rattle.record.proofs.Lengths.{widths_replicate}
use Rattle.record_fields.specs.Runs.{field_number_at}
use Rattle.record_paths.specs.PathCertificates.{component_fields, components_fields}
use Rattle.record_paths.specs.PathFields.{fall, numbers_at, sum_of}
use Rattle.verdict.proofs.PartsInRange.{rows_fit}
use Rattle.verdict_paths.specs.PathContents.{rows_at}

-- every number of the fields, the first of them at a place, is in range
abbrev pub FitsAt : List Field → List ℕ → ℕ → Type 0
FitsAt fs bytes place = in_range fs (values fs (drop place bytes)) ≡ true

same_place : (k : ℕ) → k + 0 ≡ k
same_place k = omega arith

module _ (bytes : List ℕ) where
  pub none_fit : (place : ℕ) → FitsAt [] bytes place
  unfolding in_range
  none_fit place = refl

  -- the first, and the rest
  pub first_apart : (f : Field) (fs : List Field) (place : ℕ) → FitsAt (f ∷ fs) bytes place
      → (within f.range (field_number_at f bytes place) ≡ true) × FitsAt fs bytes (place + width f.form)
  unfolding in_range values field_number_at
  first_apart f fs place h = both_true _ _ (rw drop-drop at h)

  pub first_and : (f : Field) (fs : List Field) (place : ℕ) → within f.range (field_number_at f bytes place) ≡ true
      → FitsAt fs bytes (place + width f.form) → FitsAt (f ∷ fs) bytes place
  unfolding in_range values field_number_at
  first_and f fs place h k = true_both (within f.range (field_number_at f bytes place)) _ h (rw drop-drop k)

  pub first_in : (f : Field) (fs : List Field) (place : ℕ) → FitsAt (f ∷ fs) bytes place → In f.range (field_number_at f bytes place)
  first_in f fs place h = within_in f.range _ (first_apart f fs place h).0

  -- two parts
  pub fits_apart : (fs gs : List Field) (place : ℕ) → FitsAt (fs ++ gs) bytes place
      → FitsAt fs bytes place × FitsAt gs bytes (place + widths fs)
  unfolding widths
  fits_apart [] gs place h = (none_fit place, rw same_place h)
  fits_apart (f ∷ fs) gs place h =
      let both = first_apart f (fs ++ gs) place h in
      let rest = fits_apart fs gs (place + width f.form) both.1 in
      let same : place + width f.form + widths fs ≡ place + (width f.form + widths fs) = omega arith in
      (first_and f fs place both.0 rest.0, rw same at rest.1)

  pub fits_both : (fs gs : List Field) (place : ℕ) → FitsAt fs bytes place → FitsAt gs bytes (place + widths fs) → FitsAt (fs ++ gs) bytes place
  unfolding widths
  fits_both [] gs place h k = rw same_place at k
  fits_both (f ∷ fs) gs place h k =
      let both = first_apart f fs place h in
      let same : place + width f.form + widths fs ≡ place + (width f.form + widths fs) = omega arith in
      first_and f (fs ++ gs) place both.0 (fits_both fs gs (place + width f.form) both.1 (rw same k))

-- ---- a family of fields: so many parts of one width

module _ (bytes : List ℕ) (parts : ℕ → List Field) (wide : ℕ) (none : parts 0 ≡ [])
    (together : (a b : ℕ) → parts (a + b) ≡ parts a ++ parts b) (each_wide : (a : ℕ) → widths (parts a) ≡ a * wide) where
  -- `count` of them past the first `before`
  pub parts_within : (all before count place : ℕ) → before + count ≤ all → FitsAt (parts all) bytes place
      → FitsAt (parts count) bytes (place + before * wide)
  parts_within all before count place inside h =
      let more = all - before - count in
      let split : all ≡ before + (count + more) = omega arith in
      let apart : parts all ≡ parts before ++ (parts count ++ parts more)
      = ap parts split ∙ together before (count + more) ∙ ap (λ l. parts before ++ l) (together count more) in
      let later = fits_apart bytes (parts before) (parts count ++ parts more) place (rw apart at h) in
      rw (each_wide before) at (fits_apart bytes (parts count) (parts more) (place + widths (parts before)) later.1).0

  -- f 0, then f 1, .. of them
  pub parts_summed : (f : ℕ → ℕ) (count place : ℕ) → Throughout count (λ j. FitsAt (parts (f j)) bytes (place + sum_of j f * wide))
      → FitsAt (parts (sum_of count f)) bytes place
  unfolding sum_of
  parts_summed f zero place h = rw none (none_fit bytes place)
  parts_summed f (suc count) place h =
      rw (together (sum_of count f) (f count))
      (fits_both bytes (parts (sum_of count f)) (parts (f count)) place
      (parts_summed f count place (λ j below. h j (omega arith))) (rw each_wide (h count (omega arith))))

-- ---- the families

pub run_together : (f : Field) (a b : ℕ) → replicate (a + b) f ≡ replicate a f ++ replicate b f
run_together f a b = sym (replicate-append-replicate a b f)

pub rows_together : (n a b : ℕ) → rows_of n (a + b) ≡ rows_of n a ++ rows_of n b
unfolding rows_of
rows_together n zero b = let none : 0 + b ≡ b = omega arith in rw none
rows_together n (suc a) b = let one : suc a + b ≡ suc (a + b) = omega arith in rw (one, append_assoc, rows_together n a b)

pub components_together : (n a b : ℕ) → components_fields n (a + b) ≡ components_fields n a ++ components_fields n b
unfolding components_fields
components_together n zero b = let none : 0 + b ≡ b = omega arith in rw none
components_together n (suc a) b = let one : suc a + b ≡ suc (a + b) = omega arith in rw (one, append_assoc, components_together n a b)

pub component_wide : (n : ℕ) → widths (component_fields n) ≡ 4 * n + 8
unfolding component_fields widths width direction right_side fall
component_wide n = rw (widths_append, widths_replicate) (omega arith)

pub components_wide : (n a : ℕ) → widths (components_fields n a) ≡ a * (4 * n + 8)
unfolding components_fields widths
components_wide n zero = omega arith
components_wide n (suc a) = rw (widths_append, component_wide n, components_wide n a) (omega arith)

-- ---- read as lists and rows

module _ (bytes : List ℕ) where
  pub run_in : (f : Field) (count place : ℕ) → FitsAt (replicate count f) bytes place → ListIn f.range count (numbers_at f count bytes place)
  unfolding numbers_at
  run_in f count place h =
      let zs = values (replicate count f) (drop place bytes) in
      let long : length zs ≡ length (replicate count f) = length_values (replicate count f) (drop place bytes) in
      let run = fit_run f count [] zs (record { counted = rw append-nil long; ranged = rw append-nil h }) in
      let whole : take count zs ≡ zs = take_all count zs (omega (arith, long, length-replicate count f)) in
      rw whole at run.0

  pub rows_are_in : (n count place : ℕ) → FitsAt (rows_of n count) bytes place → RowsIn n count (rows_at n count bytes place)
  unfolding rows_at
  rows_are_in n count place h =
      (rows_fit n count [] (values (rows_of n count) (drop place bytes))
      (record { counted = rw append-nil (length_values (rows_of n count) (drop place bytes)); ranged = rw append-nil h })).0
