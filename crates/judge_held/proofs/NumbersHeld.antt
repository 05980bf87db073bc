-- Numbers at places, as records of kinds past 4 are taken out of bytes: runs of them are tables of the numbers at their places.
use mathlib.Core.Path.{◌≡◌, refl, sym, ◌∙◌}
use Prim.Native.Nat.{ℕ, ◌+◌, ◌*◌}
use mathlib.Core.List.{List}
use native.Mathlib.Omega.{arith}
use lib.ListN.{replicate, drop, length-replicate}
use lib.Seq.{take_all}
use Rattle.endian.specs.Numbers.{little_at}
use Rattle.whole.specs.Sums.{tabulate}
use Rattle.record.specs.Fields.{width, number, Field, values}
use Rattle.record.specs.Layouts.{entry, right_side, multiplier}
use Rattle.record.proofs.FieldLaws.{length_values}
use Rattle.record_fields.specs.Runs.{field_number_at}
use Rattle.record_paths.specs.PathFields.{numbers_at}
use Rattle.judge_sums.specs.Lists.{multipliers_from, entries_from}
use Rattle.judge_sums.specs.Places.{entry_at, multiplier_at, right_at}
use Rattle.judge_held.proofs.HeldRuns.{number_at, last_held}

pub run_is : (f : Field) (k : ℕ) (bytes : List ℕ) (place : ℕ) → numbers_at f k bytes place ≡ tabulate k (λ i. number_at f bytes (place + width f.form * i))
unfolding numbers_at
run_is f k bytes place = sym (take_all k (values (replicate k f) (drop place bytes)) (omega (arith, length_values (replicate k f) (drop place bytes), length-replicate k f))) ∙ last_held f k bytes place

pub multipliers_are : (k : ℕ) (bytes : List ℕ) (place : ℕ) → numbers_at multiplier k bytes place ≡ multipliers_from bytes place k
unfolding multipliers_from multiplier width number little_at multiplier_at
multipliers_are k bytes place = run_is multiplier k bytes place

pub entries_are : (k : ℕ) (bytes : List ℕ) (place : ℕ) → numbers_at entry k bytes place ≡ entries_from bytes place k
unfolding entries_from entry width number little_at entry_at
entries_are k bytes place = run_is entry k bytes place

pub start_is : (bytes : List ℕ) (place : ℕ) → field_number_at right_side bytes place ≡ right_at bytes place
unfolding field_number_at right_side width number little_at right_at
start_is bytes place = refl
