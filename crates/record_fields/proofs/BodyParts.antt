-- The bodies of 01 as the code walks them: rows are linear parts, a lasso is rows, a linear part and two parts of weights; where each
-- part ends; and how many values a list has.
use mathlib.Core.Path.{◌≡◌, refl, sym, ap, ◌∙◌}
use Prim.Native.Nat.{ℕ, zero, suc, ◌+◌, ◌*◌}
use mathlib.Core.List.{[], ◌∷◌, ◌++◌, append_assoc, append-nil}
use native.Mathlib.Nat.{zero-add, suc-add}
use native.Mathlib.Omega.{arith}
use lib.ListN.{length, replicate, replicate-append-replicate, length-append, length-replicate}
use Rattle.record.specs.Fields.{width, Field, widths}
use Rattle.record.specs.declared.Counts.{Counts}
use Rattle.record.specs.Layouts.{Kind, loop, ranking, exclusion, lasso, other, is_loop, entry, right_side, multiplier, scale, direction, row, rows_of, counts, layout, listed}
use Rattle.record.proofs.FieldLaws.{widths_append}
use Rattle.record.proofs.Lengths.{widths_replicate}
use Rattle.record_fields.specs.Runs.{linear, weights, value_count}

twice : (k : ℕ) → k + k ≡ 2 * k
twice k = omega arith

pub row_is : (n : ℕ) → row n ≡ linear (2 * n)
unfolding row linear
row_is n = rw (← append_assoc, replicate-append-replicate, twice n)

pub widths_linear : (count : ℕ) → widths (linear count) ≡ 2 * count + 4
unfolding linear widths width entry right_side
widths_linear count = rw (widths_append, widths_replicate) (omega arith)

pub widths_weights : (count : ℕ) → widths (weights count) ≡ 2 + 2 * count
unfolding weights widths width scale multiplier
widths_weights count = rw widths_replicate (omega arith)

pub ranking_is : (c : Counts) → layout ranking c ≡ replicate (2 * c.m) multiplier
unfolding layout
ranking_is c = rw (replicate-append-replicate, twice c.m)

-- three runs of one field are one
pub thrice : (a b c all : ℕ) (f : Field) → a + (b + c) ≡ all → replicate a f ++ (replicate b f ++ replicate c f) ≡ replicate all f
thrice a b c all f h = ap (λ fs. replicate a f ++ fs) (replicate-append-replicate b c f) ∙ replicate-append-replicate a (b + c) f ∙ ap (λ k. replicate k f) h

pub exclusion_is : (c : Counts) → layout exclusion c ≡ (scale ∷ []) ++ replicate (3 * c.n) direction
unfolding layout
exclusion_is c =
    ap (λ fs. scale ∷ fs) (thrice c.n c.n c.n (3 * c.n) direction (omega arith))

pub lasso_is : (c : Counts) → layout lasso c ≡ rows_of c.n c.ms ++ (linear c.n ++ (weights c.ms ++ weights (3 * c.m + 3)))
unfolding layout linear weights
lasso_is c =
    let m = c.m in
    let last = thrice m (suc (suc m)) (suc m) (3 * m + 3) multiplier (omega arith) in
    ap (λ fs. rows_of c.n c.ms ++ fs)
    (ap (λ fs. replicate c.n entry ++ (right_side ∷ scale ∷ (replicate c.ms multiplier ++ (scale ∷ fs)))) last
    ∙ sym (append_assoc (replicate c.n entry) (right_side ∷ []) (weights c.ms ++ weights (3 * m + 3))))

pub length_linear : (count : ℕ) → length (linear count) ≡ count + 1
unfolding linear
length_linear count = rw (length-append, length-replicate)

pub length_weights : (count : ℕ) → length (weights count) ≡ 1 + count
unfolding weights
length_weights count = rw length-replicate (omega arith)

pub length_row : (n : ℕ) → length (row n) ≡ 2 * n + 1
length_row n = ap length (row_is n) ∙ length_linear (2 * n)

pub length_rows : (n m : ℕ) → length (rows_of n m) ≡ m * (2 * n + 1)
unfolding rows_of
length_rows n zero = omega arith
length_rows n (suc m) = rw (length-append, length_row n, length_rows n m) (omega arith)

pub rows_add : (n k l : ℕ) → rows_of n (k + l) ≡ rows_of n k ++ rows_of n l
unfolding rows_of
rows_add n zero l = ap (rows_of n) (zero-add l)
rows_add n (suc k) l = rw (suc-add k l, append_assoc, rows_add n k l)

-- one row more, the last
pub rows_more : (n k : ℕ) → rows_of n (k + 1) ≡ rows_of n k ++ row n
unfolding rows_of
rows_more n k = rows_add n k 1 ∙ ap (λ fs. rows_of n k ++ fs) (append-nil (row n))

pub count_law : (k : Kind) (c : Counts) → length (listed k c) ≡ value_count k c
unfolding listed is_loop counts layout value_count
count_law loop c = length_rows c.n c.m
count_law ranking c = simp (length-append, length-replicate) (omega arith)
count_law exclusion c = simp (length-append, length-replicate) (omega arith)
count_law lasso c = simp (length-append, length-replicate, length_rows) (omega arith)
count_law other c = refl
