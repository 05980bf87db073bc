-- 02, Q-6, once more from the values' side: what it is for the triples of a short ranking to be within the limits, the bytes that hold
-- them, and the ranking that they stand for. The statements about all values in range are in these words.
use Rattle.std.specs.Prelude.{ℕ, ◌+◌, ◌*◌, ◌<◌, ◌≡◌, cond, List, [], ◌∷◌, ◌++◌, eqb, pos, length}
use Rattle.record.specs.Contents.{In}
use Rattle.record.specs.Ranges.{multipliers}
use Rattle.theory.specs.Rankings.{Ranking}
use Rattle.verdict_paths.specs.PathValues.{framed, count_bytes, joined}
use Rattle.whole.specs.Sums.{tabulate, Each}

-- "triples of row, Y, Z"
pub record Triple : Type 0 where
  pub row : ℕ
  pub Y : ℕ
  pub Z : ℕ

-- ---- within the limits, for a loop of m rows: "rows counted from 0 and strictly rising, Y and Z not both zero"

pub record TripleIn (m : ℕ) (t : Triple) : Type 0 where
  pub below : t.row < m
  pub Y-in : In multipliers (pos t.Y)
  pub Z-in : In multipliers (pos t.Z)
  pub weighs : (t.Y ≡ 0) × (t.Z ≡ 0) → ⊥

-- each row is below all that come after it
unfoldable pub Rising : List Triple → Type 0
Rising [] = Unit {0}
Rising (t ∷ ts) = Each (λ (u : Triple). t.row < u.row) ts × Rising ts

pub record TriplesIn (m : ℕ) (ts : List Triple) : Type 0 where
  pub each : Each (TripleIn m) ts
  pub rise : Rising ts

-- ---- the bytes

unfoldable pub triple_bytes : Triple → List ℕ
triple_bytes t = count_bytes t.row ++ (count_bytes t.Y ++ count_bytes t.Z)

-- kind 7: "a count c (u16), then c triples of row, Y, Z (u16 each)", "L = 4 + 6c"
unfoldable pub triples_record : List Triple → List ℕ
triples_record ts = framed (4 + 6 * length ts) 7 (count_bytes (length ts) ++ joined triple_bytes ts)

-- ---- what they stand for

-- of row i: what the triple with that row has, and 0 where there is none
unfoldable pub weight_at : (Triple → ℕ) → List Triple → ℕ → ℕ
weight_at w [] i = 0
weight_at w (t ∷ ts) i = cond (eqb t.row i) (w t) (weight_at w ts i)

unfoldable pub ranking_by : ℕ → List Triple → Ranking
ranking_by m ts =
    record {
      Y = tabulate m (λ i. pos (weight_at (λ (t : Triple). t.Y) ts i));
      Z = tabulate m (λ i. pos (weight_at (λ (t : Triple). t.Z) ts i));
    }
