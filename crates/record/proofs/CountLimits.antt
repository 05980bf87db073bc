-- Counts in range are small.
use mathlib.Core.Path.{◌≡◌}
use Prim.Native.Nat.{ℕ, ◌≤◌}
use mathlib.Core.Bool.{true, ◌&&◌}
use native.Mathlib.Omega.{arith}
use lib.Dec.{T, leb}
use lib.IntN.{ℤ, pos, negsuc, nat_abs}
use lib.Signed.{non_neg}
use borrow.Author.Tests.{leb-true}
use Rattle.refusal.proofs.TestLaws.{both_true}
use Rattle.record.specs.Ranges.{◌to◌, variables, rows, within}

pub variables_most : (n : ℕ) → within variables (pos n) ≡ true → n ≤ 16
unfolding within ◌to◌ variables
variables_most n h = leb-true n 16 (both_true (leb 1 n) (leb n 16) h).1

pub rows_most : (m : ℕ) → within rows (pos m) ≡ true → m ≤ 64
unfolding within ◌to◌ rows
rows_most m h = leb-true m 64 (both_true (leb 0 m) (leb m 64) h).1

pub arguments_most : (n m : ℕ) → (within variables (pos n) && within rows (pos m)) ≡ true → (n ≤ 16) × (m ≤ 64)
arguments_most n m h =
    let both = both_true (within variables (pos n)) (within rows (pos m)) h in
    (variables_most n both.0, rows_most m both.1)

-- a value that is a count of rows
pub rows_cast : (z : ℤ) → within rows z ≡ true → T (non_neg z) × (nat_abs z ≤ 64)
unfolding within ◌to◌ rows
rows_cast (pos k) h = (tt, rows_most k h)
rows_cast (negsuc k) h = let wrong : ◌≡◌ {A = ℕ} 0 1 = cc in absurd (omega arith)
