-- What a sound record's bytes hold, by places: the rows and multipliers that specs/Contents.antt of crate `verdict` takes out of a record's list are tables
-- of the numbers at their places in the bytes. So each sum of the theory is a sum of crate `judge_sums`, and no proof above this file sees a list of values.
use mathlib.Core.Path.{◌≡◌, ap}
use Prim.Native.Nat.{ℕ, suc, ◌+◌, ◌*◌}
use mathlib.Core.List.{[], ◌∷◌, ◌++◌, append-nil}
use native.Mathlib.Numerals.{add-one}
use native.Mathlib.Omega.{arith}
use lib.ListN.{replicate}
use Rattle.endian.specs.Numbers.{little_at}
use Rattle.record.specs.Fields.{width, widths, number}
use Rattle.record.specs.Readers.{Reader, kind, counts_read, fields, list_start, list}
use Rattle.record.specs.Layouts.{loop, ranking, exclusion, lasso, is_loop, variable_count, row_count, scale, direction, counts, layout, ahead, listed, entry, right_side, multiplier, rows_of}
use Rattle.judge_sums.specs.Lists.{multipliers_from, entries_from, rights_from}
use Rattle.judge_sums.specs.Places.{entry_at, right_at, multiplier_at}
use Rattle.theory.specs.Loops.{over}
use Rattle.judge_conditions.specs.LoopHeld.{loop_held}
use Rattle.judge_ranking.specs.RankingHeld.{ranking_held}
use Rattle.judge_exclusion.specs.ExclusionHeld.{exclusion_held}
use Rattle.judge_lasso.specs.LassoHeld.{lasso_held, s_place, s0_place, T-place, k2_place, H-place, h0_place, Y-place}
use Rattle.judge.specs.SoundPairs.{first_row}
use Rattle.judge_held.proofs.HeldRuns.{run_held, one_held, two_held, rows_held, last_held}
use Rattle.verdict.specs.Contents.{ranking_from, exclusion_from, lasso_from, loop_in, ranking_in, exclusion_in, lasso_in}

module _ (r : Reader) where
  abbrev n : ℕ
  n = (counts_read r).n

  abbrev m : ℕ
  m = (counts_read r).m

  pub loop_is : kind r ≡ loop → loop_in r ≡ loop_held r.bytes first_row n m
  unfolding loop_in loop_held list list_start fields ahead listed layout counts is_loop widths width variable_count row_count
  loop_is e = ap (over n) (rw (e, ← append-nil (rows_of n m)) (rows_held n m [] r.bytes first_row).0)

  pub ranking_is : kind r ≡ ranking → ranking_in r ≡ ranking_held r.bytes 6 m
  unfolding ranking_in ranking_from ranking_held multipliers_from list list_start fields ahead listed layout counts is_loop widths width multiplier number little_at multiplier_at
  ranking_is e =
      let Y = run_held multiplier m (replicate m multiplier) r.bytes 6 in
      let Z = last_held multiplier m r.bytes (6 + 2 * m) in
      rw (e, Y.0, Y.1, Z)

  pub exclusion_is : kind r ≡ exclusion → exclusion_in r ≡ exclusion_held r.bytes n
  unfolding exclusion_in exclusion_from exclusion_held rights_from list list_start fields ahead listed layout counts is_loop widths width scale direction number little_at right_at
  exclusion_is e =
      let q = one_held scale (replicate n direction ++ (replicate n direction ++ replicate n direction)) r.bytes 6 in
      let U = run_held direction n (replicate n direction ++ replicate n direction) r.bytes 8 in
      let V' = run_held direction n (replicate n direction) r.bytes (8 + 4 * n) in
      let here : 8 + 4 * n + 4 * n ≡ 8 + 8 * n = omega arith in
      rw (e, q.0, q.1, U.0, U.1, V'.0, V'.1, here, last_held direction n r.bytes (8 + 8 * n))

  abbrev ms : ℕ
  ms = (counts_read r).ms

  pub lasso_is : kind r ≡ lasso → lasso_in r ≡ lasso_held r.bytes n m ms
  unfolding lasso_in lasso_from ranking_from lasso_held ranking_held multipliers_from entries_from list list_start fields ahead listed layout counts is_loop widths width row_count entry right_side scale multiplier number little_at entry_at right_at multiplier_at
  lasso_is e =
      let bytes = r.bytes in
      let from_Z = replicate (suc m) multiplier in
      let from_Y = replicate (suc m) multiplier ++ from_Z in
      let from_H = replicate m multiplier ++ (multiplier ∷ from_Y) in
      let from_T = replicate ms multiplier ++ (scale ∷ from_H) in
      let from_s = replicate n entry ++ (right_side ∷ scale ∷ from_T) in
      let count = one_held row_count (rows_of n ms ++ from_s) bytes 6 in
      let stem = rows_held n ms from_s bytes 8 in
      let s = run_held entry n (right_side ∷ scale ∷ from_T) bytes (s_place n ms) in
      let s0_k = two_held right_side scale from_T bytes (s0_place n ms) in
      let T = run_held multiplier ms (scale ∷ from_H) bytes (T-place n ms) in
      let k2 = one_held scale from_H bytes (k2_place n ms) in
      let H = run_held multiplier m (multiplier ∷ from_Y) bytes (H-place n ms) in
      let h0 = one_held multiplier from_Y bytes (h0_place n m ms) in
      let Y = run_held multiplier (suc m) from_Z bytes (Y-place n m ms) in
      let Z = last_held multiplier (suc m) bytes (Y-place n m ms + 2 * suc m) in
      rw (e, add-one m, count.1, stem.0, stem.1, s.0, s.1, s0_k.0, s0_k.1, s0_k.2, T.0, T.1, k2.0, k2.1, H.0, H.1, h0.0, h0.1, Y.0, Y.1, Z)
