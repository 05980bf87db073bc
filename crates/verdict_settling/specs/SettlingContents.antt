-- What a sound record of kind 8 holds for a loop of n variables and m rows, in the words of the theory. Each part stands at the place that
-- crate `record_settling` gives it.
use Rattle.std.specs.Prelude.{ℕ, suc, List}
use Rattle.endian.specs.Numbers.{little_at}
use Rattle.record.specs.Layouts.{entry, right_side, multiplier}
use Rattle.record_fields.specs.Runs.{field_number_at}
use Rattle.record_paths.specs.PathFields.{numbers_at}
use Rattle.record_settling.specs.SettlingRecords.{g_place, t_place, k_place, E-place, Y-place, Z-place}
use Rattle.theory_settling.specs.Settlings.{Settling}

unfoldable pub settling_in : ℕ → ℕ → List ℕ → Settling
settling_in n m bytes =
    record {
      g = numbers_at entry n bytes g_place;
      t = field_number_at right_side bytes (t_place n);
      k = little_at 2 bytes (k_place n);
      E = numbers_at multiplier m bytes (E-place n);
      ranking =
          record {
            Y = numbers_at multiplier (suc m) bytes (Y-place n m);
            Z = numbers_at multiplier (suc m) bytes (Z-place n m);
          };
    }
