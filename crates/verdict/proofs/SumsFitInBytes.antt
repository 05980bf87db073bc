-- The sums of every pair of sound records fit 64 bits: `SumsFit` brought to the loops and certificates that bytes hold.
use mathlib.Core.Path.{◌≡◌}
use Prim.Native.Nat.{ℕ, zero, suc, ◌≤◌}
use mathlib.Core.List.{List, [], ◌∷◌}
use native.Mathlib.Omega.{arith}
use lib.IntN.{ℤ, pos, negsuc}
use lib.ListN.{length, replicate, length-replicate}
use Rattle.whole.specs.Rows.{Row}
use Rattle.whole.specs.Sums.{scale, Each, Within}
use Rattle.whole.proofs.EachLaws.{each_append, each_then}
use Rattle.whole.proofs.Size.{abs_mul}
use Rattle.whole.proofs.SumLaws.{length_scale}
use Rattle.whole.proofs.Solve.{v, le_fact}
use Rattle.record.specs.Contents.{In, ListIn, RowIn}
use Rattle.record.specs.Layouts.{loop, ranking, exclusion, lasso, is_known}
use Rattle.record.specs.Ranges.{◌to◌, variables, rows, multipliers, scales}
use Rattle.record.specs.Readers.{Reader, kind, counts_read}
use Rattle.record.proofs.SoundRecords.{Sound}
use Rattle.theory.specs.Lassos.{added, longer}
use Rattle.verdict.specs.Contents.{loop_in, ranking_in, exclusion_in, lasso_in, parts}
use Rattle.verdict.proofs.PartsInRange.{counts_in, loop_parts, ranking_parts, exclusion_parts, lasso_parts}
use Rattle.verdict.proofs.SmallSums.{RowSmall, row_small, Weights, small_multipliers, small_directions, small_entries, small_right}
use Rattle.verdict.proofs.SumsFit.{RankingSumsFit, sums_fit}
use Rattle.verdict.proofs.ExclusionSumsFit.{ExclusionSmall, ExclusionSumsFit, exclusion_sums_fit}
use Rattle.verdict.proofs.LassoSumsFit.{LassoSmall, LassoSumsFit, lasso_sums_fit}

-- a natural number of a range
most_of : (least most k : ℕ) → In (least to most) (pos k) → k ≤ most
unfolding ◌to◌
most_of least most k h = omega (arith, le_fact (v (pos k)) (v (pos most)) h.most)

rows_small : (n : ℕ) (rs : List Row) → n ≤ 16 → Each (RowIn n) rs → Each RowSmall rs
rows_small n rs few h = each_then (RowIn n) RowSmall rs (λ r in_limits. row_small n r few in_limits) h

weights_of : (count : ℕ) (zs : List ℤ) → count ≤ 65 → ListIn multipliers count zs → Weights zs
weights_of count zs few h = record { few = omega (arith, h.counted); small = small_multipliers zs h.each }

-- the loop of a sound loop record
pub loop_small : (r : Reader) → Sound r → kind r ≡ loop → ((counts_read r).n ≤ 16) × ((counts_read r).m ≤ 64) × Each RowSmall (loop_in r).rows
unfolding is_known variables rows
loop_small r s e =
    let limits = counts_in r s (rw e) in
    let few = most_of 1 16 (counts_read r).n limits.n_in in
    (few, most_of 0 64 (counts_read r).m limits.m_in, rows_small (counts_read r).n (loop_in r).rows few (loop_parts r s e).each)

-- an accepted or refused ranking alike: its sums over the loop fit
pub ranking_sums_fit : (l c : Reader) → Sound l → Sound c → kind l ≡ loop → kind c ≡ ranking → (counts_read c).m ≡ (counts_read l).m → RankingSumsFit (loop_in l) (ranking_in c)
unfolding loop_in
ranking_sums_fit l c s t e f same_m =
    let small = loop_small l s e in
    let p = ranking_parts c t f in
    let few : (counts_read c).m ≤ 65 = omega (arith, small.1) in
    sums_fit (loop_in l) (ranking_in c) small.0 small.2 (weights_of _ _ few p.Y-in) (weights_of _ _ few p.Z-in)

pub exclusion_small : (c : Reader) → Sound c → kind c ≡ exclusion → ExclusionSmall (exclusion_in c)
unfolding scales
exclusion_small c t f =
    let p = exclusion_parts c t f in
    record {
      q_small = most_of 1 60_000 _ p.q_in;
      U-small = small_directions _ p.U-in.each;
      V-small = small_directions _ p.V-in.each;
      W-small = small_directions _ p.W-in.each;
    }

-- along every row of the loop
pub exclusion_sums_fit_in : (l c : Reader) → Sound l → Sound c → kind l ≡ loop → kind c ≡ exclusion → Each (λ row. ExclusionSumsFit row (exclusion_in c)) (loop_in l).rows
exclusion_sums_fit_in l c s t e f =
    each_then RowSmall _ (loop_in l).rows (λ row small. exclusion_sums_fit row (exclusion_in c) small (exclusion_small c t f)) (loop_small l s e).2

-- ---- lasso

pub lasso_small : (l c : Reader) → Sound l → Sound c → kind l ≡ loop → kind c ≡ lasso → (counts_read c).n ≡ (counts_read l).n → (counts_read c).m ≡ (counts_read l).m → LassoSmall (lasso_in c)
unfolding parts scales multipliers rows
lasso_small l c s t e f same_n same_m =
    let small = loop_small l s e in
    let p = lasso_parts c t f in
    let n_few : (counts_read c).n ≤ 16 = omega (arith, small.0) in
    let m_few : (counts_read c).m ≤ 65 = omega (arith, small.1) in
    let ms_few : length (lasso_in c).stem ≤ 65 = omega (arith, most_of 0 64 (length (lasso_in c).stem) p.ms_in) in
    record {
      stem_small = rows_small (counts_read c).n (lasso_in c).stem n_few p.stem_in;
      s_count = omega (arith, p.s_in.counted);
      s_small = small_entries _ p.s_in.each;
      s0_small = small_right _ p.s0_in;
      k_small = most_of 1 60_000 _ p.k_in;
      T-weights = weights_of _ _ ms_few p.T-in;
      k2_small = most_of 1 60_000 _ p.k2_in;
      H-weights = weights_of _ _ m_few p.H-in;
      h0_small = most_of 0 60_000 _ p.h0_in;
    }

-- the loop with the added row is within the same limits
scaled_small : (zs : List ℤ) → Within 30_000 zs → Within 30_000 (scale (negsuc 0) zs)
unfolding scale
scaled_small [] h i = omega arith
scaled_small (z ∷ zs) h zero = omega (arith, abs_mul (negsuc 0) z, h 0)
scaled_small (z ∷ zs) h (suc i) = scaled_small zs (λ i. h (suc i)) i

zeros_small : (n : ℕ) → Within 30_000 (replicate n (pos 0))
zeros_small zero i = omega arith
zeros_small (suc n) zero = omega arith
zeros_small (suc n) (suc i) = zeros_small n i

pub lasso_sums_fit_in : (l c : Reader) → Sound l → Sound c → kind l ≡ loop → kind c ≡ lasso → (counts_read c).n ≡ (counts_read l).n → (counts_read c).m ≡ (counts_read l).m
    → LassoSumsFit (loop_in l) (lasso_in c) × RankingSumsFit (longer (loop_in l) (lasso_in c)) (lasso_in c).ranking
unfolding loop_in parts Each
lasso_sums_fit_in l c s t e f same_n same_m =
    let small = loop_small l s e in
    let h = lasso_small l c s t e f same_n same_m in
    let p = lasso_parts c t f in
    let m_few : suc (counts_read c).m ≤ 65 = omega (arith, small.1) in
    let added_small : RowSmall (added (loop_in l) (lasso_in c)) =
    record {
      now_count = rw length_scale h.s_count;
      now_small = scaled_small _ h.s_small;
      next_count = rw length-replicate small.0;
      next_small = zeros_small (counts_read l).n;
      right_small = h.s0_small;
    }
    in (
      lasso_sums_fit (loop_in l) (lasso_in c) small.2 h,
      sums_fit (longer (loop_in l) (lasso_in c)) (lasso_in c).ranking small.0 (each_append RowSmall (loop_in l).rows (added (loop_in l) (lasso_in c) ∷ []) small.2 (added_small, tt))
          (weights_of _ _ m_few p.Y-in) (weights_of _ _ m_few p.Z-in),
    )
