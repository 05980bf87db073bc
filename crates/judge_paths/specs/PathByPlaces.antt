-- The conditions of one path by places in the bytes: its rows in the loop record, its lists of multipliers and the components in the
-- certificate. The code reads these places; proofs/PathsHeld.antt shows that they are those of crate `verdict_paths`.
use Rattle.std.specs.Prelude.{ℕ, ◌+◌, ◌*◌, ◌≤◌, ◌<◌, Bool, cond, ◌&&◌, List, ℤ, pos, negsuc, neg_ℤ, ◌-ℤ◌, ◌*ℤ◌, length, get_or}
use Rattle.std.specs.Int.Signed.{le_z}
use Rattle.judge_sums.specs.Lists.{multipliers_from, rights_from, rows_from}
use Rattle.judge_sums.specs.Places.{right_at, RowsIn}
use Rattle.refusal.specs.Tests.{Told, done, refused}
use Rattle.theory.specs.WeightedRows.{Weighted}
use Rattle.theory_paths.specs.PathConditions.{every, weighs}
use Rattle.whole.specs.Same.{same_z}

-- m rows over n variables from `row` on, their multipliers from `place` on, r from `r` on; held to -r·x + next·(r·x') and a limit
unfoldable pub weighted_by : List ℕ → ℕ → ℕ → ℕ → List ℕ → ℕ → ℕ → ℕ → ℤ → Weighted
weighted_by rows row n m certificate place r next limit =
    record {
      rows = rows_from rows n row m;
      weights = multipliers_from certificate place m;
      v = rights_from certificate r n;
      now = negsuc 0;
      next = pos next;
      limit = limit;
    }

-- column j out of lifted totals: over A, and over A'
unfoldable pub column_held : List ℤ → ℤ → ℕ → List ℕ → ℕ → ℕ → ℕ → Bool
column_held sums lift n certificate r next j =
    same_z (get_or sums j (pos 0) -ℤ lift) (neg_ℤ (right_at certificate (r + 4 * j)))
    && same_z (get_or sums (n + j) (pos 0) -ℤ lift) (pos next *ℤ right_at certificate (r + 4 * j))

-- what the totals are held to: the right sides', and every column
abbrev pub totals_held : List ℤ → ℤ → ℤ → ℕ → List ℕ → ℕ → ℕ → ℤ → Bool
totals_held sums lift right n certificate r next limit = le_z right limit && every n (column_held sums lift n certificate r next)

-- ---- the conditions: components lie from `first` on, `own` is where the path's own stands, and `place` is where a list stands

unfoldable pub bounded_by : List ℕ → ℕ → ℕ → ℕ → List ℕ → ℕ → ℕ → Weighted
bounded_by rows row n m certificate place own =
    weighted_by rows row n m certificate place own 0 (neg_ℤ (right_at certificate (own + 4 * n)))

unfoldable pub falling_by : List ℕ → ℕ → ℕ → ℕ → List ℕ → ℕ → ℕ → Weighted
falling_by rows row n m certificate place own =
    weighted_by rows row n m certificate place own 1 (neg_ℤ (right_at certificate (own + 4 * n + 4)))

-- of the earlier component i, whose list is the i-th from `place` on
unfoldable pub staying_by : List ℕ → ℕ → ℕ → ℕ → List ℕ → ℕ → ℕ → ℕ → Weighted
staying_by rows row n m certificate place first i =
    weighted_by rows row n m certificate (place + 2 * m * i) (first + i * (4 * n + 8)) 1 (pos 0)

-- what is told of path j, whose lists lie from `place` on: 51, 52 or 53, whichever condition fails first
unfoldable pub path_told_by : List ℕ → ℕ → ℕ → ℕ → List ℕ → ℕ → ℕ → ℕ → ℕ → Told
path_told_by rows row n m certificate place first component j =
    let own = first + component * (4 * n + 8) in
    cond (weighs n (bounded_by rows row n m certificate place own))
    (cond (weighs n (falling_by rows row n m certificate (place + 2 * m) own))
    (cond (every component (λ i. weighs n (staying_by rows row n m certificate (place + 4 * m) first i))) done (refused 53 j))
    (refused 52 j))
    (refused 51 j)

-- the rows of a path, its lists, and the components up to its own
pub record PathIn (rows : List ℕ) (row n m : ℕ) (certificate : List ℕ) (place first component : ℕ) : Type 0 where
  pub rows_there : RowsIn rows row n m
  pub few : m ≤ 64
  pub narrow : n ≤ 16
  pub shallow : component < 8
  pub lists_there : place + 2 * (m * (2 + component)) ≤ length certificate
  pub components_there : first + (component + 1) * (4 * n + 8) ≤ length certificate
