-- The totals along a row and at a state are dot products of the lists that the bytes hold. A caller replaces `direction_of`, `step_of` or
-- `total count (state_term ..)` of a contract by the products that a condition speaks of.
use Prim.Native.Nat.{ℕ, ◌+◌, ◌*◌}
use mathlib.Core.Path.{◌≡◌, sym, ◌∙◌}
use mathlib.Core.List.{List}
use native.Mathlib.Omega.{arith}
use lib.IntN.{ℤ, pos, ◌+ℤ◌, ◌-ℤ◌, ◌*ℤ◌}
use lib.ListN.{length, get_or}
use Rattle.whole.specs.Sums.{dot, total, tabulate, less}
use Rattle.whole.proofs.SumLaws.{dot_comm, dot_less}
use Rattle.whole.proofs.Tables.{length_tabulate, tabulate_at, total_same, dot_total, dot_tabulate}
use Rattle.judge_sums.specs.Lists.{entries_from, rights_from, row_from}
use Rattle.judge_sums.specs.Places.{entry_at, right_at}
use Rattle.judge_along.specs.AlongRows.{along_term, state_term, direction_of, step_of}

-- ---- along a row

pub along_dot : (rows : List ℕ) (entries : ℕ) (certificate : List ℕ) (place n : ℕ)
    → total n (along_term rows entries certificate place) ≡ dot (entries_from rows entries n) (rights_from certificate place n)
unfolding along_term entries_from rights_from
along_dot rows entries certificate place n = sym (dot_tabulate n (λ j. entry_at rows (entries + 2 * j)) (λ j. right_at certificate (place + 4 * j)))

-- A·V + A'·U, and A·(W - V) + A'·W
pub direction_dot : (rows : List ℕ) (row n : ℕ) (certificate : List ℕ) (place : ℕ)
    → direction_of rows row n certificate place
    ≡ dot (row_from rows n row).now (rights_from certificate (place + 4 * n) n) +ℤ dot (row_from rows n row).next (rights_from certificate place n)
unfolding direction_of row_from
direction_dot rows row n certificate place = rw (along_dot rows row certificate (place + 4 * n) n, along_dot rows (row + 2 * n) certificate place n)

pub step_dot : (rows : List ℕ) (row n : ℕ) (certificate : List ℕ) (place : ℕ)
    → step_of rows row n certificate place
    ≡ dot (row_from rows n row).now (less (rights_from certificate (place + 8 * n) n) (rights_from certificate (place + 4 * n) n))
    +ℤ dot (row_from rows n row).next (rights_from certificate (place + 8 * n) n)
unfolding step_of row_from
step_dot rows row n certificate place =
    rw (
      along_dot rows row certificate (place + 8 * n) n,
      along_dot rows row certificate (place + 4 * n) n,
      along_dot rows (row + 2 * n) certificate (place + 8 * n) n,
      ← difference (entries_from rows row n) (rights_from certificate (place + 8 * n) n) (rights_from certificate (place + 4 * n) n),
    )
  where
    difference : (a w x : List ℤ) → dot a (less w x) ≡ dot a w -ℤ dot a x
    difference a w x = dot_comm a (less w x) ∙ dot_less w x a ∙ rw (dot_comm w a, dot_comm x a)

-- ---- at a state

pub state_dot : (bytes : List ℕ) (place : ℕ) (state : List ℤ)
    → total (length state) (state_term bytes place state) ≡ dot (entries_from bytes place (length state)) state
unfolding state_term entries_from
state_dot bytes place state =
    sym
    (dot_total (length state) (tabulate (length state) entry) state (rw (length_tabulate (length state) entry) (omega arith)) ∙
    total_same (length state) (λ j. get_or (tabulate (length state) entry) j (pos 0) *ℤ get_or state j (pos 0)) (λ j. entry j *ℤ get_or state j (pos 0))
    (λ j below. rw (tabulate_at (length state) entry j (pos 0) below)))
  where
    entry : ℕ → ℤ
    entry j = entry_at bytes (place + 2 * j)
