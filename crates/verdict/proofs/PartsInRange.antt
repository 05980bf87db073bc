-- What a sound record holds, part by part: the rows, multipliers and other values that specs/Contents.antt takes out of its list are within
-- the limits of crate `record`'s Contents. From these follow what the theory asks (multipliers not below 0, scales at least 1, lists of n entries)
-- and the sizes of all sums.
use mathlib.Core.Path.{◌≡◌, refl, sym, ap, ◌∙◌}
use Prim.Native.Nat.{ℕ, zero, suc, ◌+◌, ◌*◌}
use mathlib.Core.Bool.{true}
use mathlib.Core.List.{List, [], ◌++◌, append_assoc, append-nil}
use native.Mathlib.Nat.{zero-mul}
use native.Mathlib.Omega.{arith}
use lib.IntN.{ℤ, pos, negsuc, nat_abs}
use lib.ListN.{replicate, take, drop, get_or}
use lib.Seq.{drop-drop, get_or-drop}
use Rattle.whole.specs.Sums.{Each}
use Rattle.record.specs.Contents.{In, ListIn, CountsIn, RowsIn, RankingIn, ExclusionIn, LassoIn}
use Rattle.record.specs.Fields.{Field}
use Rattle.record.specs.Writers as W
use Rattle.record.specs.declared.Counts.{Counts}
use Rattle.record.specs.Layouts.{loop, ranking, exclusion, lasso, is_loop, is_lasso, is_known, entry, right_side, multiplier, scale, direction, row_count, row, rows_of, counts, layout, listed}
use Rattle.record.specs.Ranges.{◌to◌, multipliers, scales, rows, variables}
use Rattle.record.specs.Readers as R
use Rattle.record.specs.Readers.{Reader}
use Rattle.record.proofs.FieldLaws.{length_values}
use Rattle.record.proofs.FittingValues.{Fit, fit_head, fit_run, within_in}
use Rattle.record.proofs.SoundRecords.{Sound, counts_in_range}
use Rattle.record.proofs.ReadThenWrite.{counts_back}
use Rattle.refusal.proofs.TestLaws.{both_true}
use Rattle.verdict.specs.Contents.{rows_of_numbers, ranking_from, exclusion_from, lasso_from, loop_in, ranking_in, exclusion_in, lasso_in, parts}

-- the list of a sound record fits its fields
sound_fits : (r : Reader) → Sound r → Fit (R.fields r) (R.list r)
unfolding R.list
sound_fits r s = record { counted = length_values (R.fields r) _; ranged = s.values_fit }

-- a natural number in the place of a whole number of a range that starts at 0 or above
natural : (least most : ℕ) (z : ℤ) → In (least to most) z → pos (nat_abs z) ≡ z
unfolding ◌to◌
natural least most (pos n) h = refl
natural least most (negsuc n) h = absurd h.least.le

-- ---- rows

pub rows_fit : (n m : ℕ) (gs : List Field) (zs : List ℤ) → Fit (rows_of n m ++ gs) zs → RowsIn n m (rows_of_numbers n m zs) × Fit gs (drop (m * (n + n + 1)) zs)
unfolding rows_of rows_of_numbers row Each entry right_side
rows_fit n zero gs zs h = (record { counted = refl; each = tt }, rw zero-mul h)
rows_fit n (suc m) gs zs h =
    let now = fit_run entry n _ zs (simp append_assoc at h) in
    let next = fit_run entry n _ (drop n zs) now.1 in
    let right = fit_head right_side _ (drop n (drop n zs)) next.1 in
    let rest = rows_fit n m gs (drop (n + n + 1) zs) (rw (drop-drop n n zs, drop-drop 1 (n + n) zs) at right.1) in
    let length_step : n + n + 1 + m * (n + n + 1) ≡ suc m * (n + n + 1) = omega arith in (
      record {
        counted = ap suc rest.0.counted;
        each = (record { now_in = now.0; next_in = next.0; right_in = rw drop-drop at right.0 }, rest.0.each);
      },
      rw (drop-drop, length_step) at rest.1,
    )

-- a run that ends the fields
fit_last : (f : Field) (n : ℕ) (zs : List ℤ) → Fit (replicate n f) zs → ListIn f.range n (take n zs)
fit_last f n zs h = (fit_run f n [] zs (rw append-nil h)).0

-- ---- the four kinds

module _ (r : Reader) (s : Sound r) where
  pub counts_in : is_known (R.kind r) ≡ true → CountsIn (R.counts_read r).n (R.counts_read r).m
  counts_in known =
      let both = both_true _ _ (counts_in_range r s known) in
      record { n_in = within_in variables (pos (R.counts_read r).n) both.0; m_in = within_in rows (pos (R.counts_read r).m) both.1 }

  pub loop_parts : R.kind r ≡ loop → RowsIn (R.counts_read r).n (R.counts_read r).m (loop_in r).rows
  unfolding R.fields listed layout is_loop loop_in
  loop_parts e = (rows_fit (R.counts_read r).n (R.counts_read r).m [] (R.list r) (rw append-nil (rw e at (sound_fits r s)))).0

  pub ranking_parts : R.kind r ≡ ranking → RankingIn (R.counts_read r).m (ranking_in r).Y (ranking_in r).Z
  unfolding R.fields listed layout counts is_loop ranking_in ranking_from multiplier
  ranking_parts e =
      let m = (R.counts_read r).m in
      let Y = fit_run multiplier m (replicate m multiplier) (R.list r) (rw e at (sound_fits r s)) in
      record { Y-in = Y.0; Z-in = fit_last multiplier m (drop m (R.list r)) Y.1 }

  pub exclusion_parts : R.kind r ≡ exclusion → ExclusionIn (R.counts_read r).n (pos (exclusion_in r).q) (exclusion_in r).U (exclusion_in r).«V» (exclusion_in r).W
  unfolding R.fields listed layout counts is_loop exclusion_in exclusion_from scale direction scales
  exclusion_parts e =
      let n = (R.counts_read r).n in
      let q = fit_head scale _ (R.list r) (rw e at (sound_fits r s)) in
      let U = fit_run direction n _ (drop 1 (R.list r)) q.1 in
      let V' = fit_run direction n _ (drop n (drop 1 (R.list r))) U.1 in
      record {
        q_in = rw (natural 1 60_000 (get_or (R.list r) 0 (pos 0)) q.0) q.0;
        U-in = U.0;
        V-in = V'.0;
        W-in = fit_last direction n (drop n (drop n (drop 1 (R.list r)))) V'.1;
      }

  -- ms as the first of the list
  ms_is : R.kind r ≡ lasso → In rows (get_or (R.list r) 0 (pos 0)) → pos (R.counts_read r).ms ≡ get_or (R.list r) 0 (pos 0)
  unfolding W.counts_given W.kind R.kind W.ms_given is_lasso rows
  ms_is e h = ap pos (sym (rw e at (ap (λ (c : Counts). c.ms) (counts_back r 0)))) ∙ natural 0 64 (get_or (R.list r) 0 (pos 0)) h

  pub lasso_parts : R.kind r ≡ lasso → LassoIn (R.counts_read r).n (R.counts_read r).m (parts (lasso_in r))
  unfolding R.fields listed layout counts is_loop lasso_in lasso_from ranking_from parts row_count entry right_side scale multiplier scales multipliers
  lasso_parts e =
      let n = (R.counts_read r).n in
      let m = (R.counts_read r).m in
      let count = (R.counts_read r).ms in
      let zs = R.list r in
      let from_s = drop (count * (n + n + 1)) (drop 1 zs) in
      let from_s0 = drop n from_s in
      let from_k2 = drop count (drop 2 from_s0) in
      let from_h0 = drop m (drop 1 from_k2) in
      let ms = fit_head row_count _ zs (rw e at (sound_fits r s)) in
      let stem = rows_fit n count _ (drop 1 zs) ms.1 in
      let s' = fit_run entry n _ from_s stem.1 in
      let s0 = fit_head right_side _ from_s0 s'.1 in
      let k = fit_head scale _ (drop 1 from_s0) s0.1 in
      let T = fit_run multiplier count _ (drop 2 from_s0) (rw (drop-drop 1 1 from_s0) at k.1) in
      let k2 = fit_head scale _ from_k2 T.1 in
      let H = fit_run multiplier m _ (drop 1 from_k2) k2.1 in
      let h0 = fit_head multiplier _ from_h0 H.1 in
      let Y = fit_run multiplier (suc m) _ (drop 1 from_h0) h0.1 in
      let k_in : In scales (get_or from_s0 1 (pos 0)) = rw get_or-drop at k.0 in
      record {
        ms_in = rw (stem.0.counted, ms_is e ms.0) ms.0;
        stem_in = stem.0.each;
        s_in = s'.0;
        s0_in = s0.0;
        k_in = rw (natural 1 60_000 (get_or from_s0 1 (pos 0)) k_in) k_in;
        T-in = rw stem.0.counted T.0;
        k2_in = rw (natural 1 60_000 (get_or from_k2 0 (pos 0)) k2.0) k2.0;
        H-in = H.0;
        h0_in = rw (natural 0 60_000 (get_or from_h0 0 (pos 0)) h0.0) h0.0;
        Y-in = Y.0;
        Z-in = fit_last multiplier (suc m) (drop (suc m) (drop 1 from_h0)) Y.1;
      }
