-- A loop with one row more, out of the bytes, and what the added row takes from a list of totals.
use Rattle.std.specs.Prelude.{ℕ, ◌+◌, ◌*◌, ◌≤◌, ◌<◌, ◌≡◌, List, ℤ, pos, negsuc, nat_abs, ◌-ℤ◌, ◌*ℤ◌, length, get_or, replicate}
use Rattle.judge_sums.specs.Lists.{entries_from}
use Rattle.judge_sums.specs.Places.{entry_at, most_entry}
use Rattle.judge_sums.specs.declared.rows.Rows.{Rows}
use Rattle.theory.specs.Loops.{Loop, with_row}
use Rattle.whole.specs.Sums.{scale}
use Rattle.judge_conditions.specs.LoopHeld.{loop_held}

-- the loop with the row -s·x <= right added at the end, where s lies in a certificate from a place on: a lasso's has right side s0
unfoldable pub longer_held : List ℕ → ℕ → ℕ → ℕ → List ℕ → ℕ → ℤ → Loop
longer_held rows start n m certificate s right =
    with_row (loop_held rows start n m)
    (record { now = scale (negsuc 0) (entries_from certificate s n); next = replicate n (pos 0); right = right })

-- that of rows as they lie
abbrev pub longer_of : Rows → List ℕ → ℕ → ℤ → Loop
longer_of rows = longer_held rows.bytes.now rows.start rows.n rows.count

-- the first n of a list of totals, each less a multiplier times an entry of s, which lies from a place on; the others stay
pub record RowTaken (multiplier : ℕ) (certificate : List ℕ) (s n : ℕ) (before after : List ℤ) : Type 0 where
  pub long : length after ≡ length before
  pub taken : (k : ℕ) → k < n → get_or after k (pos 0) ≡ get_or before k (pos 0) -ℤ pos multiplier *ℤ entry_at certificate (s + 2 * k)
  pub small : (k : ℕ) → k < n → nat_abs (get_or after k (pos 0)) ≤ nat_abs (get_or before k (pos 0)) + most_entry
  pub stays : (k : ℕ) → n ≤ k → get_or after k (pos 0) ≡ get_or before k (pos 0)
