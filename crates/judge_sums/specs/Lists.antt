-- The lists that bytes hold by their places: multipliers, entries, rows. proofs/ListLaws.antt says which sums over these lists the
-- totals are.
use Rattle.std.specs.Prelude.{ℕ, ◌+◌, ◌*◌, List, ℤ}
use Rattle.whole.specs.Rows.{Row}
use Rattle.whole.specs.Sums.{tabulate}
use Rattle.judge_sums.specs.Places.{entry_at, right_at, multiplier_at, row_place}

-- `count` multipliers, entries, or entries of U, V or W, from a place on
unfoldable pub multipliers_from : List ℕ → ℕ → ℕ → List ℤ
multipliers_from bytes place count = tabulate count (λ i. multiplier_at bytes (place + 2 * i))

unfoldable pub entries_from : List ℕ → ℕ → ℕ → List ℤ
entries_from bytes place count = tabulate count (λ j. entry_at bytes (place + 2 * j))

unfoldable pub rights_from : List ℕ → ℕ → ℕ → List ℤ
rights_from bytes place count = tabulate count (λ j. right_at bytes (place + 4 * j))

-- the row over n variables at a place, and `count` of them one after another
unfoldable pub row_from : List ℕ → ℕ → ℕ → Row
row_from bytes n place =
    record { now = entries_from bytes place n; next = entries_from bytes (place + 2 * n) n; right = right_at bytes (place + 4 * n) }

unfoldable pub rows_from : List ℕ → ℕ → ℕ → ℕ → List Row
rows_from bytes n start count = tabulate count (λ i. row_from bytes n (row_place start n i))
