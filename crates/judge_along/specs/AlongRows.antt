-- The terms of sums along a row and at a state, by places in the records' bytes (01, "Conditions"), and what such sums
-- are. A row has n entries of A and then n of A'.
use Rattle.std.specs.Prelude.{ℕ, ◌+◌, ◌*◌, List, ℤ, pos, ◌+ℤ◌, ◌-ℤ◌, ◌*ℤ◌, get_or}
use Rattle.whole.specs.Sums.{total}
use Rattle.judge_sums.specs.Places.{entry_at, right_at}
use Rattle.judge_sums.specs.Running.{SumOf}

-- ---- terms of column j

-- entry times entry: of A or A' from `entries` on, and of U, V or W from `place` on
unfoldable pub along_term : List ℕ → ℕ → List ℕ → ℕ → ℕ → ℤ
along_term rows entries certificate place j = entry_at rows (entries + 2 * j) *ℤ right_at certificate (place + 4 * j)

-- entry of s from `place` on, times the state's entry
unfoldable pub state_term : List ℕ → ℕ → List ℤ → ℕ → ℤ
state_term bytes place state j = entry_at bytes (place + 2 * j) *ℤ get_or state j (pos 0)

-- the size of a term at the most: of along_term, of state_term, and of a rank's entry times a state's
abbrev pub most_along : ℕ
most_along = 32768 * 2147483648

abbrev pub most_state : ℕ
most_state = 32768 * 1048576

abbrev pub most_rank : ℕ
most_rank = 274877906944 * 1048576

-- ---- along one row: A·V, A'·U, A·W and A'·W over the first `count` columns. A starts at `row`, and U, then V, then W, n entries each,
-- at `place`

pub record AlongOf (rows : List ℕ) (row n : ℕ) (certificate : List ℕ) (place count : ℕ) (v u now next : ℤ) : Type 0 where
  pub v_sum : SumOf count most_along (along_term rows row certificate (place + 4 * n)) v
  pub u_sum : SumOf count most_along (along_term rows (row + 2 * n) certificate place) u
  pub now_sum : SumOf count most_along (along_term rows row certificate (place + 8 * n)) now
  pub next_sum : SumOf count most_along (along_term rows (row + 2 * n) certificate (place + 8 * n)) next

-- A·V + A'·U
unfoldable pub direction_of : List ℕ → ℕ → ℕ → List ℕ → ℕ → ℤ
direction_of rows row n certificate place =
    total n (along_term rows row certificate (place + 4 * n)) +ℤ total n (along_term rows (row + 2 * n) certificate place)

-- A·(W - V) + A'·W, with A·(W - V) as A·W - A·V
unfoldable pub step_of : List ℕ → ℕ → ℕ → List ℕ → ℕ → ℤ
step_of rows row n certificate place =
    (total n (along_term rows row certificate (place + 8 * n)) -ℤ total n (along_term rows row certificate (place + 4 * n)))
    +ℤ total n (along_term rows (row + 2 * n) certificate (place + 8 * n))
