-- The bytes of a settling that is within the limits are a sound certificate for a loop of so many variables and rows, and they hold that settling:
-- reading them with the loop's counts gives the values back.
use mathlib.Core.Path.{◌≡◌, refl, ◌∙◌}
use Prim.Native.Nat.{ℕ, suc, ◌+◌, ◌*◌, ◌≤◌}
use mathlib.Core.List.{List, ◌∷◌, ◌++◌}
use native.Mathlib.Omega.{arith}
use lib.ListN.{length, replicate, length-append}
use borrow.Author.Tests.{le-leb, eq-eqb}
use Rattle.endian.specs.Numbers.{little_at, digits}
use Rattle.endian.proofs.Laws.{length_digits}
use Rattle.refusal.specs.Tests.{done, first}
use Rattle.refusal.proofs.TestLaws.{passes_done}
use Rattle.record.specs.Contents.{CountsIn}
use Rattle.record.specs.Fields.{i32, width, stored}
use Rattle.record.specs.Layouts.{entry, right_side, scale, multiplier}
use Rattle.record.specs.Ranges.{variables, rows, scales}
use Rattle.record.specs.Readers.{stated_length, kind_number}
use Rattle.record.proofs.FieldLaws.{length_stored}
use Rattle.record.proofs.FittingValues.{in_within}
use Rattle.record.proofs.Lengths.{widths_replicate}
use Rattle.record_fields.specs.Runs.{field_number_at}
use Rattle.record_paths.specs.PathFields.{numbers_at, bytes_alone, is_kind, is_long, fields_fit}
use Rattle.record_settling.specs.SettlingRecords.{g_place, t_place, k_place, E-place, Y-place, Z-place}
use Rattle.record_settling.specs.SettlingRecords.{settling_fields, settling_length, sound_settling}
use Rattle.theory_settling.specs.Settlings.{Settling}
use Rattle.verdict_paths.specs.PathValues.{framed, list_bytes}
use Rattle.verdict_paths.proofs.ArgumentsReadBack.{list_long, list_there}
use Rattle.verdict_paths.proofs.FieldsAtPlaces.{FitsAt, first_and, fits_both}
use Rattle.verdict_paths.proofs.PartsOfBytes.{Stands, stands_whole, stands_apart, number_read, field_read, run_long, run_there, count_fits}
use Rattle.verdict_paths.proofs.PathsReadBack.{counted_between}
use Rattle.verdict_settling.specs.SettlingContents.{settling_in}
use Rattle.verdict_settling.specs.SettlingValues.{SettlingIn, g_bytes, settling_bytes}
use Rattle.verdict_settling.proofs.SettlingInRange.{from_E}

module _ (n m : ℕ) (c : Settling) (few : CountsIn n m) (h : SettlingIn n m c) where
  abbrev its_length : ℕ
  its_length = 12 + 2 * length c.g + 6 * length c.E

  abbrev bytes : List ℕ
  bytes = settling_bytes c

  -- ---- the limits

  length_is : its_length ≡ settling_length n m
  unfolding settling_length
  length_is = omega (arith, h.g_in.counted, h.E-in.counted)

  length_small : its_length ≤ 428
  unfolding settling_length variables rows
  length_small = omega (arith, length_is, (counted_between 1 16 n few.n_in).1, (counted_between 0 64 m few.m_in).1)

  -- ---- each part at its place

  record Parts : Type 0 where
    L-stands : Stands bytes 0 (digits 4 its_length)
    kind_stands : Stands bytes 4 (digits 2 8)
    g_stands : Stands bytes g_place (g_bytes c.g)
    t_stands : Stands bytes (t_place n) (stored i32 c.t)
    k_stands : Stands bytes (k_place n) (digits 2 c.k)
    E-stands : Stands bytes (E-place n) (list_bytes c.E)
    Y-stands : Stands bytes (Y-place n m) (list_bytes c.ranking.Y)
    Z-stands : Stands bytes (Z-place n m) (list_bytes c.ranking.Z)
    long : length bytes ≡ 4 + its_length

  g_long : length (g_bytes c.g) ≡ 2 * n
  unfolding g_bytes entry width
  g_long = run_long entry n c.g h.g_in ∙ omega arith

  parts : Parts
  unfolding settling_bytes framed width
  parts =
      let from_L = stands_apart 4 (digits 4 its_length) _ (length_digits 4 its_length) (stands_whole bytes) in
      let from_kind = stands_apart 2 (digits 2 8) _ (length_digits 2 8) from_L.1 in
      let from_g = stands_apart (2 * n) (g_bytes c.g) _ g_long from_kind.1 in
      let from_t = stands_apart 4 (stored i32 c.t) _ (length_stored i32 c.t) from_g.1 in
      let from_k = stands_apart 2 (digits 2 c.k) _ (length_digits 2 c.k) from_t.1 in
      let from_E = stands_apart (2 * m) (list_bytes c.E) _ (list_long m c.E h.E-in) from_k.1 in
      let Y-long = list_long (suc m) c.ranking.Y h.Y-in in
      let Z-long = list_long (suc m) c.ranking.Z h.Z-in in
      let from_Y = stands_apart (2 * suc m) (list_bytes c.ranking.Y) (list_bytes c.ranking.Z) Y-long from_E.1 in
      let t_long = length_stored i32 c.t in
      let E-long = list_long m c.E h.E-in in
      record {
        L-stands = from_L.0;
        kind_stands = from_kind.0;
        g_stands = from_g.0;
        t_stands = from_t.0;
        k_stands = from_k.0;
        E-stands = from_E.0;
        Y-stands = from_Y.0;
        Z-stands = from_Y.1;
        long =
            simp (length-append, length_digits, g_long, t_long, E-long, Y-long, Z-long) (omega (arith, h.g_in.counted, h.E-in.counted));
      }

  -- ---- what is read

  L-read : little_at 4 bytes 0 ≡ its_length
  L-read = number_read 4 its_length (omega (arith, length_small)) parts.L-stands

  pub kind_read : little_at 2 bytes 4 ≡ 8
  kind_read = number_read 2 8 (omega arith) parts.kind_stands

  g_there : (numbers_at entry n bytes g_place ≡ c.g) × FitsAt (replicate n entry) bytes g_place
  unfolding g_bytes entry
  g_there = run_there entry n c.g h.g_in parts.g_stands

  t_read : field_number_at right_side bytes (t_place n) ≡ c.t
  unfolding right_side
  t_read = field_read right_side c.t (in_within h.t_in) parts.t_stands

  k_read : little_at 2 bytes (k_place n) ≡ c.k
  unfolding scales
  k_read = number_read 2 c.k (omega (arith, (counted_between 1 60000 c.k h.k_in).1)) parts.k_stands

  E-there : (numbers_at multiplier m bytes (E-place n) ≡ c.E) × FitsAt (replicate m multiplier) bytes (E-place n)
  E-there = list_there m c.E h.E-in parts.E-stands

  Y-there : (numbers_at multiplier (suc m) bytes (Y-place n m) ≡ c.ranking.Y) × FitsAt (replicate (suc m) multiplier) bytes (Y-place n m)
  Y-there = list_there (suc m) c.ranking.Y h.Y-in parts.Y-stands

  Z-there : (numbers_at multiplier (suc m) bytes (Z-place n m) ≡ c.ranking.Z) × FitsAt (replicate (suc m) multiplier) bytes (Z-place n m)
  Z-there = list_there (suc m) c.ranking.Z h.Z-in parts.Z-stands

  pub settling_read_back : settling_in n m bytes ≡ c
  unfolding settling_in
  settling_read_back = rw (g_there.0, t_read, k_read, E-there.0, Y-there.0, Z-there.0)

  -- ---- they are sound

  fields_in_place : FitsAt (settling_fields n m) bytes g_place
  unfolding settling_fields entry right_side scale multiplier width
  fields_in_place =
      let at_t : g_place + n * 2 ≡ t_place n = omega arith in
      let at_Y : E-place n + m * 2 ≡ Y-place n m = omega arith in
      let at_Z : Y-place n m + suc m * 2 ≡ Z-place n m = omega arith in
      let runs = replicate (suc m) multiplier in
      let from_Y = fits_both bytes runs runs (Y-place n m) Y-there.1 (rw (widths_replicate (suc m) multiplier, at_Z) Z-there.1) in
      let fits_E = fits_both bytes (replicate m multiplier) (runs ++ runs) (E-place n) E-there.1 (rw (widths_replicate m multiplier, at_Y) from_Y) in
      let fits_k = count_fits bytes scale (from_E m) (k_place n) c.k refl k_read (in_within h.k_in) fits_E in
      let fits_t = first_and bytes right_side (scale ∷ from_E m) (t_place n) (rw t_read (in_within h.t_in)) fits_k in
      fits_both bytes (replicate n entry) (right_side ∷ scale ∷ from_E m) g_place g_there.1 (rw (widths_replicate n entry, at_t) fits_t)

  pub settling_bytes_sound : first (sound_settling n m) (bytes_alone bytes) ≡ done
  unfolding sound_settling bytes_alone stated_length kind_number is_kind is_long fields_fit
  settling_bytes_sound =
      let a_length : 4 ≤ length bytes = omega (arith, parts.long) in
      let a_kind : 2 ≤ its_length = omega arith in
      let fits_in : 4 + its_length ≤ length bytes = omega (arith, parts.long) in
      let no_more : length bytes ≤ 4 + its_length = omega (arith, parts.long) in
      passes_done (sound_settling n m) (bytes_alone bytes)
      (rw (L-read, kind_read) (
        le-leb _ _ a_length,
        (
          le-leb _ _ a_kind,
          (
            le-leb _ _ fits_in,
            (
              le-leb _ _ no_more,
              (
                refl,
                (
                  eq-eqb _ _ length_is,
                  (
                    fields_in_place,
                    tt,
                  ),
                ),
              ),
            ),
          ),
        ),
      ))
