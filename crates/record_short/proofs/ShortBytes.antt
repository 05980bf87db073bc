-- The rows of a kind 2 record that have weight, and the bytes of their triples.
use mathlib.Core.Path.{◌≡◌, refl}
use Prim.Native.Nat.{ℕ, zero, suc, ◌+◌, ◌*◌, ◌≤◌, ◌<◌}
use mathlib.Core.Bool.{Bool, true, false, cond, ◌&&◌}
use mathlib.Core.List.{List, [], ◌∷◌, ◌++◌, append_assoc}
use native.Mathlib.Decide.{dec_lt}
use native.Mathlib.Omega.{arith}
use lib.Dec.{eqb}
use lib.ListN.{length, length-append}
use Rattle.endian.proofs.Laws.{length_digits}
use Rattle.record_short.specs.Conversions.{long_Y, long_Z, rows_with_weight, triples_bytes, triples_needed, short_bytes}

-- ---- triples

module _ (m : ℕ) (bytes : List ℕ) where
  pub triples_append : (xs ys : List ℕ) → triples_bytes m bytes (xs ++ ys) ≡ triples_bytes m bytes xs ++ triples_bytes m bytes ys
  unfolding triples_bytes
  triples_append [] ys = refl
  triples_append (x ∷ xs) ys = rw (triples_append xs ys, append_assoc, append_assoc, append_assoc)

  pub length_triples : (rows : List ℕ) → length (triples_bytes m bytes rows) ≡ 6 * length rows
  unfolding triples_bytes
  length_triples [] = refl
  length_triples (i ∷ rows) =
      rw (length-append, length-append, length-append, length_digits 2 i, length_digits 2 (long_Y bytes i), length_digits 2 (long_Z m bytes i), length_triples rows)
      (omega arith)

  -- ---- rows

  -- row i, if it has weight
  abbrev pub row_listed : ℕ → List ℕ
  row_listed i = cond (eqb (long_Y bytes i) 0 && eqb (long_Z m bytes i) 0) [] (i ∷ [])

  one_or_none : (b : Bool) (i : ℕ) → length (cond b [] (i ∷ [])) ≤ 1
  one_or_none true i = omega arith
  one_or_none false i = omega arith

  pub listed_once : (i : ℕ) → length (row_listed i) ≤ 1
  listed_once i = one_or_none (eqb (long_Y bytes i) 0 && eqb (long_Z m bytes i) 0) i

  pub rows_more : (count : ℕ) → length (rows_with_weight m bytes (suc count)) ≡ length (rows_with_weight m bytes count) + length (row_listed count)
  unfolding rows_with_weight
  rows_more count = length-append (rows_with_weight m bytes count) (row_listed count)

  pub rows_few : (count : ℕ) → length (rows_with_weight m bytes count) ≤ count
  unfolding rows_with_weight
  rows_few zero = omega arith
  rows_few (suc count) = omega (arith, rows_more count, listed_once count, rows_few count)

  pub rows_grow : (i count : ℕ) → i < count → length (rows_with_weight m bytes i) + length (row_listed i) ≤ length (rows_with_weight m bytes count)
  rows_grow i zero below = absurd (omega arith)
  rows_grow i (suc count) below =
      elim (dec_lt i count) [
        | yes early ↦ omega (arith, rows_grow i count early, rows_more count)
        | no late ↦ let same : i ≡ count = omega arith in rw same (omega (arith, rows_more count))
      ]

  pub length_short : length (short_bytes m bytes) ≡ 8 + 6 * triples_needed m bytes
  unfolding short_bytes triples_needed
  length_short =
      rw (length-append, length-append, length-append, length_digits, length_digits, length_digits, length_triples) (omega arith)
