-- The weighted rows that bytes hold by their places: `count` rows over n variables from `start` on, their multipliers and the entries of v
-- in a certificate; and the factors and the limit that they are held to, which come as values.
use Rattle.std.specs.Prelude.{ℕ, Bool, ◌≡◌, List}
use Rattle.judge_sums.specs.Lists.{multipliers_from, entries_from, rows_from}
use Rattle.judge_sums.specs.declared.rows.Rows.{Rows}
use Rattle.theory.specs.Loops.{A, A'}
use Rattle.theory.specs.WeightedRows.{Weighted, sum_of, times_v}
use Rattle.whole.specs.Same.{same_z}
use Rattle.judge_weighed.specs.declared.Held.{Held}

unfoldable pub weighted_held : List ℕ → ℕ → ℕ → ℕ → List ℕ → Held → Weighted
weighted_held rows start n count certificate held =
    record {
      rows = rows_from rows n start count;
      weights = multipliers_from certificate held.weights count;
      v = entries_from certificate held.v n;
      now = held.now;
      next = held.next;
      limit = held.limit;
    }

-- the same, of rows as they lie
abbrev pub weighted_of : Rows → List ℕ → Held → Weighted
weighted_of rows = weighted_held rows.bytes.now rows.start rows.n rows.count

-- the tests of column j: over A, and over A'
abbrev pub now_at : Weighted → ℕ → Bool
now_at w j = same_z (sum_of w (A j)) (times_v w w.now j)

abbrev pub next_at : Weighted → ℕ → Bool
next_at w j = same_z (sum_of w (A' j)) (times_v w w.next j)

pub record TestedAt (now next : Bool) (j : ℕ) (w : Weighted) : Type 0 where
  pub now_is : now ≡ now_at w j
  pub next_is : next ≡ next_at w j
