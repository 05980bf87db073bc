-- Whole-number steps of rows that are written out, as inequalities of natural numbers: `omega` proves a step by `step_by`, and a step tells
-- `omega` what it has to know by `plainly`.
use Prim.Native.Nat.{ℕ, ◌+◌, ◌≤◌}
use mathlib.Core.Path.{◌≡◌, refl, ap}
use mathlib.Core.List.{List, [], ◌∷◌}
use native.Mathlib.Omega.{arith}
use lib.IntN.{ℤ, pos, ◌+ℤ◌, ◌*ℤ◌}
use lib.ListN.{length}
use lib.Signed.{◌≤ℤ◌}
use Rattle.whole.specs.Sums.{dot, Each}
use Rattle.whole.proofs.Ring.{one-*ℤ}
use Rattle.whole.proofs.Solve.{E, v, ◌⊕◌, ◌⊗◌, val, plus, minus, solve_le, le_fact}
use Rattle.theory.specs.Loops.{Row, over, Meets, Step}

abbrev entries : List ℤ → List ℤ → E
entries [] ys = v (pos 0)
entries (x ∷ xs) [] = v (pos 0)
entries (x ∷ xs) (y ∷ ys) = v x ⊗ v y ⊕ entries xs ys

entries_are : (xs ys : List ℤ) → val (entries xs ys) ≡ dot xs ys
unfolding dot
entries_are [] ys = refl
entries_are (x ∷ xs) [] = refl
entries_are (x ∷ xs) (y ∷ ys) = ap (λ t. x *ℤ y +ℤ t) (entries_are xs ys)

-- A·x + A'·x'
abbrev left : Row → List ℤ → List ℤ → E
left row x x' = entries row.now x ⊕ entries row.next x'

-- every row is met
abbrev pub Plainly : List Row → List ℤ → List ℤ → Type 0
Plainly [] x x' = 0 ≤ 0
Plainly (row ∷ rows) x x' =
    (plus (left row x x') + minus (v row.right) ≤ minus (left row x x') + plus (v row.right)) × Plainly rows x x'

-- one row, both ways
meets_by : (row : Row) (x x' : List ℤ) → val (left row x x') ≤ℤ row.right → Meets 1 x x' row
meets_by row x x' h = rw (one-*ℤ row.right, ← entries_are row.now x, ← entries_are row.next x') h

by_meets : (row : Row) (x x' : List ℤ) → Meets 1 x x' row → val (left row x x') ≤ℤ row.right
by_meets row x x' h = rw (entries_are row.now x, entries_are row.next x') (rw (one-*ℤ row.right) at h)

all_met : (rows : List Row) (x x' : List ℤ) → Plainly rows x x' → Each (Meets 1 x x') rows
unfolding Each
all_met [] x x' h = tt
all_met (row ∷ rows) x x' h = (meets_by row x x' (solve_le (left row x x') (v row.right) h.0), all_met rows x x' h.1)

pub step_by : (n : ℕ) (rows : List Row) (x x' : List ℤ) → length x ≡ n → length x' ≡ n → Plainly rows x x' → Step (over n rows) 1 x x'
step_by n rows x x' before after h = record { before = before; after = after; meets = all_met rows x x' h }

pub plainly : (rows : List Row) (x x' : List ℤ) → Each (Meets 1 x x') rows → Plainly rows x x'
unfolding Each
plainly [] x x' h = omega arith
plainly (row ∷ rows) x x' h = (le_fact (left row x x') (v row.right) (by_meets row x x' h.0), plainly rows x x' h.1)
