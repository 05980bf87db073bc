-- The kind 2 record that a short one stands for: its bytes as runs of u16.
use mathlib.Core.Path.{◌≡◌, refl, sym, ap, ◌∙◌}
use Prim.Native.Nat.{ℕ, zero, suc, ◌+◌, ◌*◌}
use mathlib.Core.List.{List, ◌++◌}
use native.Mathlib.Omega.{arith}
use lib.IntN.{pos}
use lib.ListN.{length, replicate, length-append, length-replicate}
use Rattle.endian.specs.Numbers.{digits}
use Rattle.endian.proofs.Laws.{length_digits}
use Rattle.whole.specs.Sums.{tabulate}
use Rattle.whole.proofs.Tables.{length_tabulate}
use Rattle.record.specs.Fields.{stored, bytes_of}
use Rattle.record.specs.Layouts.{multiplier, kind_of, is_loop, is_lasso, counts, layout, length_of, ahead, listed}
use Rattle.record.specs.Writers as W
use Rattle.record.proofs.FieldLaws.{bytes_of_append}
use Rattle.record_short.specs.ShortRecords.{triples_in, row_in, Y-in, Z-in, weight_of, Y-for, Z-for, long_bytes}
use Rattle.record_short.proofs.NumberRuns.{u16s, length_u16s}

run_bytes : (count : ℕ) (f : ℕ → ℕ) → bytes_of (replicate count multiplier) (tabulate count (λ i. pos (f i))) ≡ u16s count f
unfolding bytes_of tabulate u16s stored multiplier
run_bytes zero f = refl
run_bytes (suc count) f = ap (λ bs. digits 2 (f 0) ++ bs) (run_bytes count (λ i. f (suc i)))

-- the weights of row i after the first `count` triples
abbrev pub Y-after : List ℕ → ℕ → ℕ → ℕ
Y-after bytes count = weight_of (row_in bytes) (Y-in bytes) count

abbrev pub Z-after : List ℕ → ℕ → ℕ → ℕ
Z-after bytes count = weight_of (row_in bytes) (Z-in bytes) count

module _ (n m : ℕ) (bytes : List ℕ) where
  pub long_runs : long_bytes n m bytes
      ≡ digits 4 (2 + 4 * m) ++ (digits 2 2 ++ (u16s m (Y-after bytes (triples_in bytes)) ++ u16s m (Z-after bytes (triples_in bytes))))
  unfolding
      long_bytes Y-for Z-for W.writer W.record_bytes W.length_stated W.counts_given W.kind W.fields W.numbers_ahead kind_of is_loop is_lasso
      counts layout length_of ahead listed bytes_of
  long_runs =
      let field = replicate m multiplier in
      let long : length (tabulate m (λ i. pos (Y-after bytes (triples_in bytes) i))) ≡ length field = length_tabulate m _ ∙ sym (length-replicate m multiplier) in
      rw (
        bytes_of_append field field (tabulate m (λ i. pos (Y-after bytes (triples_in bytes) i))) (tabulate m (λ i. pos (Z-after bytes (triples_in bytes) i))) long,
        run_bytes m (Y-after bytes (triples_in bytes)),
        run_bytes m (Z-after bytes (triples_in bytes)),
      )

  pub length_long : length (long_bytes n m bytes) ≡ 6 + 4 * m
  length_long = rw (long_runs, length-append, length-append, length-append, length_digits, length_digits, length_u16s, length_u16s) (omega arith)
