-- What a sound record of kind 8 says: its kind, how long it is, and that every number is in range. A judge needs no more of the bytes.
use mathlib.Core.Path.{◌≡◌}
use Prim.Native.Nat.{ℕ, ◌+◌, ◌*◌, ◌≤◌}
use mathlib.Core.Bool.{true}
use mathlib.Core.List.{List}
use native.Mathlib.Omega.{arith}
use lib.ListN.{length, drop}
use borrow.Author.Tests.{leb-true, eqb-true}
use Rattle.endian.specs.Numbers.{little_at}
use Rattle.refusal.specs.Tests.{done, first}
use Rattle.refusal.proofs.TestLaws.{Passes, done_passes}
use Rattle.record.specs.Fields.{values, in_range}
use Rattle.record.specs.Readers.{stated_length, kind_number}
use Rattle.record_paths.specs.PathFields.{bytes_alone, is_kind, is_long, fields_fit}
use Rattle.record_settling.specs.SettlingRecords.{settling_fields, settling_length, sound_settling}

pub record SettlingSound (n m : ℕ) (bytes : List ℕ) : Type 0 where
  pub numbered : little_at 2 bytes 4 ≡ 8
  pub long : length bytes ≡ 16 + 2 * n + 6 * m
  pub fields_in_range : in_range (settling_fields n m) (values (settling_fields n m) (drop 6 bytes)) ≡ true

module _ (n m : ℕ) (bytes : List ℕ) where
  settling_says : Passes (sound_settling n m) (bytes_alone bytes) → SettlingSound n m bytes
  unfolding sound_settling bytes_alone stated_length kind_number is_kind is_long fields_fit settling_length
  settling_says h =
      let few : 4 + little_at 4 bytes 0 ≤ length bytes = leb-true _ _ h.1.1.0 in
      let many : length bytes ≤ 4 + little_at 4 bytes 0 = leb-true _ _ h.1.1.1.0 in
      let formula : little_at 4 bytes 0 ≡ 12 + 2 * n + 6 * m = eqb-true _ _ h.1.1.1.1.1.0 in
      record {
        numbered = eqb-true _ _ h.1.1.1.1.0;
        long = omega arith;
        fields_in_range = h.1.1.1.1.1.1.0;
      }

  pub settling_sound : first (sound_settling n m) (bytes_alone bytes) ≡ done → SettlingSound n m bytes
  settling_sound told = settling_says (done_passes (sound_settling n m) (bytes_alone bytes) told)
