-- 02, Q-6: "Most multipliers are zero. Add kind 7: a count c (u16), then c triples of row, Y, Z (u16 each), rows counted from 0 and
-- strictly rising, Y and Z not both zero. L = 4 + 6c." And what a short ranking stands for: the kind 2 record whose Y and Z of row
-- i are those of the triple with row i, and 0 where there is none.
use Rattle.std.specs.Prelude.{ℕ, zero, suc, ◌+◌, ◌*◌, ◌-◌, Bool, cond, not, ◌&&◌, ◌||◌, List, [], ◌∷◌, ◌++◌, eqb, ltb, ℤ, pos}
use Rattle.endian.specs.Numbers.{little_at}
use Rattle.refusal.specs.Places.{before_failing}
use Rattle.refusal.specs.Tests.{Test, ◌at◌unless◌}
use Rattle.whole.specs.Sums.{tabulate}
use Rattle.record.specs.Fields.{u16, holds, Field}
use Rattle.record.specs.Layouts.{multiplier}
use Rattle.record.specs.Ranges.{◌to◌, variables, rows, within}
use Rattle.record.specs.Readers.{Reader, framing}
use Rattle.record.specs.Writers.{writer, record_bytes}
use Rattle.record_paths.specs.PathFields.{is_kind, holds_counts, is_long, fields_fit}

-- ---- the triples

-- c, and row, Y and Z of triple i
unfoldable pub triples_in : List ℕ → ℕ
triples_in bytes = little_at 2 bytes 6

unfoldable pub row_in : List ℕ → ℕ → ℕ
row_in bytes i = little_at 2 bytes (8 + 6 * i)

unfoldable pub Y-in : List ℕ → ℕ → ℕ
Y-in bytes i = little_at 2 bytes (10 + 6 * i)

unfoldable pub Z-in : List ℕ → ℕ → ℕ
Z-in bytes i = little_at 2 bytes (12 + 6 * i)

-- "a row not below m or not rising, 15, both zero, 16": triple i, for a loop of m rows
unfoldable pub row_rises : ℕ → List ℕ → ℕ → Bool
row_rises m bytes i = ltb (row_in bytes i) m && (eqb i 0 || ltb (row_in bytes (i - 1)) (row_in bytes i))

unfoldable pub has_weight : List ℕ → ℕ → Bool
has_weight bytes i = not (eqb (Y-in bytes i) 0 && eqb (Z-in bytes i) 0)

-- how many triples come before the first of which either fails
unfoldable pub before_bad : ℕ → List ℕ → ℕ
before_bad m bytes = before_failing (triples_in bytes) (λ i. row_rises m bytes i && has_weight bytes i)

-- ---- the fields: a row is never out of range, its multipliers are ranged as in kind 2

unfoldable pub triple_count : Field
unfolding holds ◌to◌ rows
triple_count = record { form = u16; range = rows; least_held = tt; most_held = tt }

unfoldable pub row_number : Field
unfolding holds ◌to◌
row_number = record { form = u16; range = 0 to 65_535; least_held = tt; most_held = tt }

unfoldable pub triples_fields : ℕ → List Field
triples_fields zero = []
triples_fields (suc count) = row_number ∷ multiplier ∷ multiplier ∷ triples_fields count

-- L = 4 + 6c
unfoldable pub short_length : List ℕ → ℕ
short_length bytes = 4 + 6 * triples_in bytes

-- "Order for a record", of kind 7, for a loop of n variables and m rows: "L under 4, 3; c over 64, 5; then triple by triple a row not below
-- m or not rising, 15, both zero, 16, each at the triple's first byte; then 6 over all"
unfoldable pub sound_short : ℕ → ℕ → List (Test Reader)
sound_short n m =
    framing ++
    (is_kind 7
    ∷ (5 at (λ r. 0) unless λ r. within variables (pos n) && within rows (pos m))
    ∷ holds_counts (λ r. 4)
    ∷ fields_fit 5 (λ r. 6) (λ r. triple_count ∷ [])
    ∷ is_long (λ r. short_length r.bytes)
    ∷ (15 at (λ r. 8 + 6 * before_bad m r.bytes)
    unless λ r. eqb (before_bad m r.bytes) (triples_in r.bytes) || row_rises m r.bytes (before_bad m r.bytes))
    ∷ (16 at (λ r. 8 + 6 * before_bad m r.bytes) unless λ r. eqb (before_bad m r.bytes) (triples_in r.bytes))
    ∷ fields_fit 6 (λ r. 8) (λ r. triples_fields (triples_in r.bytes))
    ∷ [])

-- ---- what it stands for

-- of the first `count` triples: what the one with a row has, and 0 where there is none
unfoldable pub weight_of : (ℕ → ℕ) → (ℕ → ℕ) → ℕ → ℕ → ℕ
weight_of row weight zero i = 0
weight_of row weight (suc count) i = cond (eqb (row count) i) (weight count) (weight_of row weight count i)

-- Y and Z of a loop of m rows
unfoldable pub Y-for : ℕ → List ℕ → List ℤ
Y-for m bytes = tabulate m (λ i. pos (weight_of (row_in bytes) (Y-in bytes) (triples_in bytes) i))

unfoldable pub Z-for : ℕ → List ℕ → List ℤ
Z-for m bytes = tabulate m (λ i. pos (weight_of (row_in bytes) (Z-in bytes) (triples_in bytes) i))

-- the kind 2 record
unfoldable pub long_bytes : ℕ → ℕ → List ℕ → List ℕ
long_bytes n m bytes = record_bytes (writer 2 n m (Y-for m bytes ++ Z-for m bytes) [])
