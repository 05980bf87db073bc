-- Every sum of an exclusion's conditions, along a row within the limits, is below 2^63 in absolute value.
use mathlib.Core.Path.{◌≡◌, ◌∙◌}
use Prim.Native.Nat.{◌*◌, ◌≤◌}
use mathlib.Core.List.{List}
use native.Mathlib.Nat.{mul-le-mul_right}
use native.Mathlib.Omega.{arith}
use lib.IntN.{ℤ, pos, neg_ℤ, nat_abs, ◌+ℤ◌, ◌-ℤ◌, ◌*ℤ◌}
use lib.ListN.{length}
use Rattle.whole.specs.Rows.{Row}
use Rattle.whole.specs.Sums.{dot, less, Within}
use Rattle.whole.proofs.Size.{abs_neg, abs_add, abs_product}
use Rattle.whole.proofs.SumLaws.{dot_comm, dot_less, dot_bound}
use Rattle.theory.specs.Exclusions.{Exclusion}
use Rattle.record.specs.Ranges.{entry_most, multiplier_most, direction_most}
use Rattle.verdict.specs.Magnitudes.{variables_most, along_most}
use Rattle.verdict.proofs.SmallSums.{Fits64, RowSmall}

pub record ExclusionSumsFit (row : Row) (c : Exclusion) : Type 0 where
  pub direction_fits : Fits64 (dot row.now c.«V» +ℤ dot row.next c.U)
  pub step_fits : Fits64 (dot row.now (less c.W c.«V») +ℤ dot row.next c.W)
  pub right_fits : Fits64 (pos c.q *ℤ row.right)

-- q, U, V, W within the limits
pub record ExclusionSmall (c : Exclusion) : Type 0 where
  pub q_small : c.q ≤ multiplier_most
  pub U-small : Within direction_most c.U
  pub V-small : Within direction_most c.«V»
  pub W-small : Within direction_most c.W

along_row : (entries_of zs : List ℤ) → length entries_of ≤ variables_most → Within entry_most entries_of → Within direction_most zs → nat_abs (dot entries_of zs) ≤ along_most
along_row es zs few small small' = omega (arith, dot_bound entry_most direction_most es zs small small', mul-le-mul_right (entry_most * direction_most) few)

pub exclusion_sums_fit : (row : Row) (c : Exclusion) → RowSmall row → ExclusionSmall c → ExclusionSumsFit row c
exclusion_sums_fit row c r s =
    let now_V = along_row row.now c.«V» r.now_count r.now_small s.V-small in
    let now_W = along_row row.now c.W r.now_count r.now_small s.W-small in
    let next_U = along_row row.next c.U r.next_count r.next_small s.U-small in
    let next_W = along_row row.next c.W r.next_count r.next_small s.W-small in
    let split : dot row.now (less c.W c.«V») ≡ dot row.now c.W -ℤ dot row.now c.«V» = dot_less_right row.now c.W c.«V» in
    record {
      direction_fits = omega (arith, abs_add (dot row.now c.«V») (dot row.next c.U));
      step_fits =
          rw split
          (omega (
            arith,
            abs_add (dot row.now c.W -ℤ dot row.now c.«V») (dot row.next c.W),
            abs_add (dot row.now c.W) (neg_ℤ (dot row.now c.«V»)),
            abs_neg (dot row.now c.«V»),
          ));
      right_fits = omega (arith, abs_product (pos c.q) row.right s.q_small r.right_small);
    }
  where
    dot_less_right : (es xs ys : List ℤ) → dot es (less xs ys) ≡ dot es xs -ℤ dot es ys
    dot_less_right es xs ys = dot_comm es (less xs ys) ∙ dot_less xs ys es ∙ rw (dot_comm xs es, dot_comm ys es)
