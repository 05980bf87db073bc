-- The totals over places are weighted sums over the rows that the bytes hold: column j of A and of A', and the right sides. A caller replaces `total count (now_term ..)`
-- of a contract by the sum that a condition speaks of, and is then left with the question which lists a record holds.
use Prim.Native.Nat.{ℕ, ◌+◌, ◌*◌, ◌<◌}
use mathlib.Core.Path.{◌≡◌, refl, sym, ◌∙◌}
use mathlib.Core.List.{List}
use native.Mathlib.Nat.{add_assoc}
use lib.IntN.{ℤ, pos, ◌*ℤ◌}
use lib.ListN.{get_or}
use Rattle.whole.specs.Rows.{Row}
use Rattle.whole.specs.Sums.{sum, total}
use Rattle.whole.proofs.Tables.{tabulate_at, total_same, sum_tabulate}
use Rattle.judge_sums.specs.Lists.{multipliers_from, entries_from, row_from, rows_from}
use Rattle.judge_sums.specs.Places.{entry_at, right_at, multiplier_at, row_place, now_term, next_term, right_term}

module _ (multipliers : List ℕ) (place : ℕ) (rows : List ℕ) (start n count : ℕ) where
  -- what f takes from each row, if that is the term's number
  over_rows : (f : Row → ℤ) (number : ℕ → ℤ) → ((i : ℕ) → f (row_from rows n (row_place start n i)) ≡ number i)
      → total count (λ i. multiplier_at multipliers (place + 2 * i) *ℤ number i) ≡ sum (multipliers_from multipliers place count) f (rows_from rows n start count)
  unfolding multipliers_from rows_from
  over_rows f number same =
      sym
      (sum_tabulate count (λ i. multiplier_at multipliers (place + 2 * i)) f (λ i. row_from rows n (row_place start n i)) ∙
      total_same count (λ i. multiplier_at multipliers (place + 2 * i) *ℤ f (row_from rows n (row_place start n i)))
      (λ i. multiplier_at multipliers (place + 2 * i) *ℤ number i) (λ i h. rw (same i)))

  pub now_over_rows : (j : ℕ) → j < n
      → total count (now_term multipliers place rows start n j)
      ≡ sum (multipliers_from multipliers place count) (λ row. get_or row.now j (pos 0)) (rows_from rows n start count)
  unfolding now_term row_from entries_from
  now_over_rows j below =
      over_rows (λ row. get_or row.now j (pos 0)) (λ i. entry_at rows (row_place start n i + 2 * j))
      (λ i. tabulate_at n (λ k. entry_at rows (row_place start n i + 2 * k)) j (pos 0) below)

  pub next_over_rows : (j : ℕ) → j < n
      → total count (next_term multipliers place rows start n j)
      ≡ sum (multipliers_from multipliers place count) (λ row. get_or row.next j (pos 0)) (rows_from rows n start count)
  unfolding next_term row_from entries_from
  next_over_rows j below =
      over_rows (λ row. get_or row.next j (pos 0)) (λ i. entry_at rows (row_place start n i + (2 * n + 2 * j)))
      (λ i. tabulate_at n (λ k. entry_at rows (row_place start n i + 2 * n + 2 * k)) j (pos 0) below ∙ rw (add_assoc (row_place start n i) (2 * n) (2 * j)))

  pub right_over_rows : total count (right_term multipliers place rows start n)
      ≡ sum (multipliers_from multipliers place count) (λ row. row.right) (rows_from rows n start count)
  unfolding right_term row_from
  right_over_rows = over_rows (λ row. row.right) (λ i. right_at rows (row_place start n i + 4 * n)) (λ i. refl)
