-- Every sum of a lasso's start, kept and invariant, within the limits, is below 2^63 in absolute value; its ranking's are in SumsFit.antt.
use Prim.Native.Nat.{ℕ, ◌*◌, ◌≤◌}
use mathlib.Core.List.{List}
use native.Mathlib.Nat.{mul-le-mul_right}
use native.Mathlib.Omega.{arith}
use lib.IntN.{ℤ, pos, neg_ℤ, nat_abs, ◌+ℤ◌, ◌-ℤ◌, ◌*ℤ◌}
use lib.ListN.{length, get_or}
use Rattle.whole.specs.Sums.{dot, sum, Each, Within}
use Rattle.whole.proofs.Size.{abs_neg, abs_add, abs_product}
use Rattle.whole.proofs.SumLaws.{dot_bound}
use Rattle.theory.specs.Loops.{A, A', b, Loop}
use Rattle.theory.specs.Lassos.{Lasso}
use Rattle.record.specs.Ranges.{entry_most, right_side_most, multiplier_most, state_most}
use Rattle.verdict.specs.Magnitudes.{scaled_right_most}
use Rattle.verdict.proofs.SmallSums.{Fits64, RowSmall, Weights, A-sum-small, A'-sum-small, b_sum_small}

pub record LassoSmall (c : Lasso) : Type 0 where
  pub stem_small : Each RowSmall c.stem
  pub s_count : length c.s ≤ 16
  pub s_small : Within entry_most c.s
  pub s0_small : nat_abs c.s0 ≤ right_side_most
  pub k_small : c.k ≤ multiplier_most
  pub T-weights : Weights c.T
  pub k2_small : c.k2 ≤ multiplier_most
  pub H-weights : Weights c.H
  pub h0_small : c.h0 ≤ multiplier_most

pub record LassoSumsFit (loop : Loop) (c : Lasso) : Type 0 where
  pub TB : (j : ℕ) → Fits64 (sum c.T (A j) c.stem)
  pub TB' : (j : ℕ) → Fits64 (sum c.T (A' j) c.stem)
  pub Td : Fits64 (sum c.T b c.stem)
  pub ks : (j : ℕ) → Fits64 (pos c.k *ℤ get_or c.s j (pos 0))
  pub ks0 : Fits64 (pos c.k *ℤ c.s0)
  pub HA-h0s : (j : ℕ) → Fits64 (sum c.H (A j) loop.rows -ℤ pos c.h0 *ℤ get_or c.s j (pos 0))
  pub HA' : (j : ℕ) → Fits64 (sum c.H (A' j) loop.rows)
  pub k2s : (j : ℕ) → Fits64 (pos c.k2 *ℤ get_or c.s j (pos 0))
  pub Hb+h0s0 : Fits64 (sum c.H b loop.rows +ℤ pos c.h0 *ℤ c.s0)
  pub k2s0 : Fits64 (pos c.k2 *ℤ c.s0)
  -- at every state in range
  pub invariant_fits : (x : List ℤ) → Within state_most x → Fits64 (dot c.s x +ℤ c.s0)

pub lasso_sums_fit : (loop : Loop) (c : Lasso) → Each RowSmall loop.rows → LassoSmall c → LassoSumsFit loop c
lasso_sums_fit loop c small h =
    record {
      TB = λ j. omega (arith, A-sum-small c.T c.stem h.T-weights h.stem_small j);
      TB' = λ j. omega (arith, A'-sum-small c.T c.stem h.T-weights h.stem_small j);
      Td = omega (arith, b_sum_small c.T c.stem h.T-weights h.stem_small);
      ks = λ j. omega (arith, scaled_entry c.k h.k_small j);
      ks0 = omega (arith, scaled_right c.k h.k_small);
      HA-h0s =
          λ j.
          let product = pos c.h0 *ℤ get_or c.s j (pos 0) in
          omega (
            arith,
            abs_add (sum c.H (A j) loop.rows) (neg_ℤ product),
            abs_neg product,
            scaled_entry c.h0 h.h0_small j,
            A-sum-small c.H loop.rows h.H-weights small j,
          );
      HA' = λ j. omega (arith, A'-sum-small c.H loop.rows h.H-weights small j);
      k2s = λ j. omega (arith, scaled_entry c.k2 h.k2_small j);
      Hb+h0s0 =
          omega (
            arith,
            abs_add (sum c.H b loop.rows) (pos c.h0 *ℤ c.s0),
            scaled_right c.h0 h.h0_small,
            b_sum_small c.H loop.rows h.H-weights small,
          );
      k2s0 = omega (arith, scaled_right c.k2 h.k2_small);
      invariant_fits =
          λ x in_range.
          omega (
            arith,
            abs_add (dot c.s x) c.s0,
            dot_bound entry_most state_most c.s x h.s_small in_range,
            mul-le-mul_right (entry_most * state_most) h.s_count,
            h.s0_small,
          );
    }
  where
    scaled_entry : (k : ℕ) → k ≤ multiplier_most → (j : ℕ) → nat_abs (pos k *ℤ get_or c.s j (pos 0)) ≤ multiplier_most * entry_most
    scaled_entry k most j = abs_product (pos k) (get_or c.s j (pos 0)) most (h.s_small j)

    scaled_right : (k : ℕ) → k ≤ multiplier_most → nat_abs (pos k *ℤ c.s0) ≤ scaled_right_most
    scaled_right k most = abs_product (pos k) c.s0 most h.s0_small
