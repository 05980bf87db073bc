-- 01's formulas for L are the widths of the fields that follow the length: `length_law`. And how large L can be.
use mathlib.Core.Path.{◌≡◌}
use Prim.Native.Nat.{ℕ, zero, suc, ◌+◌, ◌*◌, ◌≤◌}
use mathlib.Core.Bool.{true, false≢true}
use native.Mathlib.Nat.{mul-le-mul}
use native.Mathlib.Omega.{arith}
use lib.ListN.{replicate}
use Rattle.record.specs.Fields.{width, Field, widths}
use Rattle.record.specs.declared.Counts.{Counts}
use Rattle.record.specs.Layouts.{Kind, loop, ranking, exclusion, lasso, other, is_loop, is_known, variable_count, row_count, entry, right_side, multiplier, scale, direction, row, rows_of, counts, layout, length_of, ahead, listed}
use Rattle.record.proofs.FieldLaws.{widths_append}

pub widths_replicate : (n : ℕ) (f : Field) → widths (replicate n f) ≡ n * width f.form
unfolding widths
widths_replicate zero f = omega arith
widths_replicate (suc n) f = rw (widths_replicate n f) (omega arith)

pub widths_row : (n : ℕ) → widths (row n) ≡ 4 * n + 4
unfolding row widths width entry right_side
widths_row n = simp (widths_append, widths_replicate) (omega arith)

pub widths_rows : (n m : ℕ) → widths (rows_of n m) ≡ m * (4 * n + 4)
unfolding rows_of widths
widths_rows n zero = omega arith
widths_rows n (suc m) = rw (widths_append, widths_row n, widths_rows n m) (omega arith)

-- what follows the kind
pub length_law : (k : Kind) (c : Counts) → is_known k ≡ true → length_of k c ≡ 2 + (widths (ahead k) + widths (listed k c))
unfolding length_of ahead listed is_loop is_known counts layout widths width variable_count row_count multiplier scale direction right_side entry
length_law loop c known = rw (widths_rows c.n c.m) (omega arith)
length_law ranking c known = simp (widths_append, widths_replicate) (omega arith)
length_law exclusion c known = simp (widths_append, widths_replicate) (omega arith)
length_law lasso c known = simp (widths_append, widths_replicate, widths_rows) (omega arith)
length_law other c known = absurd (false≢true known)

-- the longest record within the limits is a lasso
pub length_most : (k : Kind) (c : Counts) → c.n ≤ 16 → c.m ≤ 64 → c.ms ≤ 64 → length_of k c ≤ 4914
unfolding length_of
length_most loop c n≤ m≤ ms≤ =
    let wide : 4 * c.n + 4 ≤ 68 = omega arith in
    omega (arith, mul-le-mul m≤ wide)
length_most ranking c n≤ m≤ ms≤ = omega arith
length_most exclusion c n≤ m≤ ms≤ = omega arith
length_most lasso c n≤ m≤ ms≤ =
    let wide : 4 * c.n + 6 ≤ 70 = omega arith in
    omega (arith, mul-le-mul ms≤ wide)
length_most other c n≤ m≤ ms≤ = omega arith
