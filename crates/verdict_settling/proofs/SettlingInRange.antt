-- What a sound pair of records holds is within the limits, part by part: the loop (`CountsIn`, `RowsIn`) and the settling (`SettlingIn`). So no
-- multiplier is below 0 and the scale is 1 at least, which is all that the theory asks.
use mathlib.Core.Path.{◌≡◌, refl}
use Prim.Native.Nat.{ℕ, suc, ◌+◌, ◌*◌, ◌≤◌}
use mathlib.Core.List.{List, ◌∷◌, ◌++◌}
use native.Mathlib.Omega.{arith}
use lib.ListN.{replicate}
use Rattle.refusal.specs.Tests.{done, first}
use Rattle.refusal.proofs.TestLaws.{done_passes}
use Rattle.record.specs.Contents.{CountsIn, RowsIn}
use Rattle.record.specs.Fields.{width, Field}
use Rattle.record.specs.Layouts.{entry, right_side, scale, multiplier}
use Rattle.record.proofs.KindLaws.{loop_only, loop_known}
use Rattle.record.proofs.Lengths.{widths_replicate}
use Rattle.record.proofs.SoundRecords.{sound_says}
use Rattle.record_paths.specs.PathFields.{bytes_alone, is_kind, is_long, fields_fit}
use Rattle.record_settling.specs.SettlingRecords.{g_place, t_place, k_place, E-place, Y-place, Z-place, settling_fields, sound_settling}
use Rattle.theory_settling.specs.Settlings.{NonNegativeSettling}
use Rattle.verdict.specs.Pairs.{loop_record}
use Rattle.verdict.proofs.Demands.{nonneg_all, scale_positive}
use Rattle.verdict.proofs.PartsInRange.{counts_in, loop_parts}
use Rattle.verdict_paths.proofs.FieldsAtPlaces.{FitsAt, first_apart, first_in, fits_apart, run_in}
use Rattle.verdict_paths.proofs.PartsOfBytes.{count_number}
use Rattle.verdict_settling.specs.SettlingContents.{settling_in}
use Rattle.verdict_settling.specs.SettlingJudging.{SettlingPair, variables_of, rows_for, loop_of, settling_of}
use Rattle.verdict_settling.specs.SettlingValues.{SettlingIn}
use Rattle.verdict_settling.proofs.SettlingAccepted.{SettlingSound}

-- ---- kind 8

-- the fields behind g, t and k
abbrev pub from_E : ℕ → List Field
from_E m = replicate m multiplier ++ (replicate (suc m) multiplier ++ replicate (suc m) multiplier)

module _ (n m : ℕ) (bytes : List ℕ) where
  fits_in : FitsAt (settling_fields n m) bytes g_place → SettlingIn n m (settling_in n m bytes)
  unfolding settling_fields settling_in entry right_side scale multiplier width
  fits_in h =
      let at_t : g_place + n * 2 ≡ t_place n = omega arith in
      let at_Y : E-place n + m * 2 ≡ Y-place n m = omega arith in
      let at_Z : Y-place n m + suc m * 2 ≡ Z-place n m = omega arith in
      let g_apart = fits_apart bytes (replicate n entry) (right_side ∷ scale ∷ from_E m) g_place h in
      let t_fits = rw (widths_replicate n entry, at_t) at g_apart.1 in
      let k_fits = (first_apart bytes right_side (scale ∷ from_E m) (t_place n) t_fits).1 in
      let E-fits = (first_apart bytes scale (from_E m) (k_place n) k_fits).1 in
      let E-apart = fits_apart bytes (replicate m multiplier) (replicate (suc m) multiplier ++ replicate (suc m) multiplier) (E-place n) E-fits in
      let Y-fits = rw (widths_replicate m multiplier, at_Y) at E-apart.1 in
      let Y-apart = fits_apart bytes (replicate (suc m) multiplier) (replicate (suc m) multiplier) (Y-place n m) Y-fits in
      record {
        g_in = run_in bytes entry n g_place g_apart.0;
        t_in = first_in bytes right_side (scale ∷ from_E m) (t_place n) t_fits;
        k_in = rw (count_number bytes scale (k_place n) refl) at (first_in bytes scale (from_E m) (k_place n) k_fits);
        E-in = run_in bytes multiplier m (E-place n) E-apart.0;
        Y-in = run_in bytes multiplier (suc m) (Y-place n m) Y-apart.0;
        Z-in = run_in bytes multiplier (suc m) (Z-place n m) (rw (widths_replicate (suc m) multiplier, at_Z) at Y-apart.1);
      }

  pub settling_is_in : first (sound_settling n m) (bytes_alone bytes) ≡ done → SettlingIn n m (settling_in n m bytes)
  unfolding sound_settling bytes_alone is_kind is_long fields_fit
  settling_is_in told = fits_in (done_passes (sound_settling n m) (bytes_alone bytes) told).1.1.1.1.1.1.0

-- ---- a sound pair

module _ (p : SettlingPair) (s : SettlingSound p) where
  pub counts_are_in : CountsIn (variables_of p) (rows_for p)
  unfolding variables_of rows_for loop_record
  counts_are_in =
      let is_sound = sound_says (loop_record p.loopbytes) s.loop_sound in
      counts_in (loop_record p.loopbytes) is_sound (loop_known _ is_sound.wanted)

  pub loop_is_in : RowsIn (variables_of p) (rows_for p) (loop_of p).rows
  unfolding variables_of rows_for loop_of loop_record
  loop_is_in =
      let is_sound = sound_says (loop_record p.loopbytes) s.loop_sound in
      loop_parts (loop_record p.loopbytes) is_sound (loop_only _ is_sound.wanted)

  pub held_is_in : SettlingIn (variables_of p) (rows_for p) (settling_of p)
  unfolding settling_of
  held_is_in = settling_is_in (variables_of p) (rows_for p) p.certificate s.certificate_sound

  -- what the theory asks
  pub sound_nonneg : NonNegativeSettling (settling_of p)
  sound_nonneg =
      let h = held_is_in in
      (nonneg_all _ h.E-in.each, (nonneg_all _ h.Y-in.each, nonneg_all _ h.Z-in.each))

  pub sound_scale : 1 ≤ (settling_of p).k
  sound_scale = scale_positive _ held_is_in.k_in
