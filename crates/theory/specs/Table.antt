-- What the conditions tell of the samples of 01, of the sheet's second certificate, and of each condition where it is the first to
-- fail; the rank, start, fall and bounds of the samples; and whether the step of an exclusion is whole. Three tables, a line being
-- what is computed and what it has to be; `SampleTheorems` computes them.
use Rattle.std.specs.Prelude.{ℕ, Bool, true, false, List, [], ◌∷◌, ℤ, pos, negsuc}
use Rattle.refusal.specs.Tests.{Told, done, refused, first}
use Rattle.whole.specs.Rows.{Row}
use Rattle.whole.specs.Sums.{dot, sum, tabulate, scale, add, less}
use Rattle.theory.specs.Loops.{Loop, over}
use Rattle.theory.specs.Rankings.{Ranking, rank, start, fall, bound}
use Rattle.theory.specs.Exclusions.{Exclusion, divides, all_divided, step_is_whole}
use Rattle.theory.specs.Lassos.{longer}
use Rattle.theory.specs.Conditions.{ranking_told, exclusion_told, lasso_told, ranking_tests, exclusion_tests, lasso_tests}
use Rattle.theory.specs.Conditions.{weighed_tests, ◌at_each◌unless◌, of}
use Rattle.theory.specs.Samples.{row, ranking, excluding, lasso, P, S1, S7-loop, S7, S8, S9-loop, S9, S10-loop, S10-stem, S10-ranking}
use Rattle.theory.specs.Samples.{S10, S14-loop, S14, unlike_loop, unlike_ranking, excluded_loop, unlike_exclusion, lasso_loop}
use Rattle.theory.specs.Samples.{unlike_lasso, half_steps, half_step, never_below, odd_U}

-- S10's stem, but that its row speaks of the state before the step too
abbrev stem_from_x : List Row
stem_from_x = row (pos 1 ∷ pos 0 ∷ []) (pos 0 ∷ negsuc 0 ∷ []) (negsuc 0) ∷ []

unfoldable pub told : List (Told × Told)
told =
    -- P: S1, S2, S3, and the sheet's second certificate
    (ranking_told P S1, done) ∷
    (ranking_told P (ranking (2 ∷ 0 ∷ 0 ∷ []) (0 ∷ 2 ∷ 2 ∷ [])), done) ∷
    (ranking_told P (ranking (0 ∷ 0 ∷ 0 ∷ []) (0 ∷ 0 ∷ 0 ∷ [])), refused 24 0) ∷
    (ranking_told P (ranking (1 ∷ 0 ∷ 0 ∷ []) (0 ∷ 1 ∷ 0 ∷ [])), refused 22 1) ∷
    -- YA', (Y - Z)A and Z(A + A') in either column
    (ranking_told P (ranking (1 ∷ 1 ∷ 0 ∷ []) (0 ∷ 1 ∷ 1 ∷ [])), refused 21 0) ∷
    (ranking_told P (ranking (1 ∷ 0 ∷ 1 ∷ []) (0 ∷ 1 ∷ 0 ∷ [])), refused 21 1) ∷
    (ranking_told P (ranking (1 ∷ 0 ∷ 0 ∷ []) (0 ∷ 0 ∷ 1 ∷ [])), refused 22 0) ∷
    (ranking_told P (ranking (1 ∷ 0 ∷ 0 ∷ []) (1 ∷ 0 ∷ 0 ∷ [])), refused 23 0) ∷
    (ranking_told (over 2 (row (pos 0 ∷ pos 1 ∷ []) (pos 0 ∷ pos 0 ∷ []) (negsuc 0) ∷ [])) (ranking (1 ∷ []) (1 ∷ [])), refused 23 1) ∷
    -- 21 in column 1 and 22 in column 0
    (ranking_told P (ranking (1 ∷ 0 ∷ 1 ∷ []) (0 ∷ 0 ∷ 1 ∷ [])), refused 21 1) ∷
    -- S12, S13, S14
    (ranking_told (over 1 []) (ranking [] []), refused 24 0) ∷
    (exclusion_told (over 1 []) (excluding 1 (pos 0) (pos 0) (pos 0)), done) ∷
    (ranking_told (over 1 (row (pos 0 ∷ []) (pos 0 ∷ []) (negsuc 0) ∷ [])) (ranking (0 ∷ []) (1 ∷ [])), done) ∷
    (ranking_told S14-loop S14, done) ∷
    -- S7, S8, S9; then either condition in another row, all rows of the direction first
    (exclusion_told S7-loop S7, done) ∷
    (exclusion_told S7-loop S8, done) ∷
    (exclusion_told S9-loop S9, done) ∷
    (exclusion_told S9-loop (excluding 1 (pos 0) (pos 0) (pos 1)), refused 32 0) ∷
    (exclusion_told S7-loop (excluding 1 (pos 2) (negsuc 0) (negsuc 0)), refused 31 0) ∷
    (exclusion_told S7-loop (excluding 1 (negsuc 0) (pos 1) (pos 4)), refused 31 1) ∷
    (exclusion_told S7-loop (excluding 1 (negsuc 2) (pos 1) (pos 0)), refused 31 2) ∷
    (exclusion_told S7-loop (excluding 1 (negsuc 1) (pos 1) (pos 0)), refused 32 0) ∷
    (exclusion_told S7-loop (excluding 1 (negsuc 1) (pos 1) (pos 5)), refused 32 1) ∷
    (exclusion_told S7-loop (excluding 1 (negsuc 1) (pos 1) (pos 3)), refused 32 2) ∷
    -- S10, S11; then start, kept and the ranking, each in turn
    (lasso_told S10-loop S10, done) ∷
    (exclusion_told S10-loop (record { q = 1; U = pos 0 ∷ pos 0 ∷ []; «V» = pos 0 ∷ pos 0 ∷ []; W = pos 0 ∷ pos 0 ∷ [] }), done) ∷
    (lasso_told S10-loop (lasso stem_from_x (negsuc 0) 1 (1 ∷ []) 1 (0 ∷ 0 ∷ 1 ∷ []) 1 S10-ranking), refused 41 0) ∷
    (lasso_told S10-loop (lasso S10-stem (negsuc 0) 1 (0 ∷ []) 1 (0 ∷ 0 ∷ 1 ∷ []) 1 S10-ranking), refused 42 1) ∷
    (lasso_told S10-loop (lasso S10-stem (negsuc 1) 1 (1 ∷ []) 1 (0 ∷ 0 ∷ 1 ∷ []) 1 S10-ranking), refused 43 0) ∷
    (lasso_told S10-loop (lasso S10-stem (negsuc 0) 1 (1 ∷ []) 1 (0 ∷ 0 ∷ 1 ∷ []) 0 S10-ranking), refused 44 1) ∷
    (lasso_told S10-loop (lasso S10-stem (negsuc 0) 1 (1 ∷ []) 2 (0 ∷ 0 ∷ 1 ∷ []) 1 S10-ranking), refused 45 1) ∷ (
      lasso_told
          (over 2 (row (pos 0 ∷ pos 1 ∷ []) (pos 0 ∷ negsuc 0 ∷ []) (pos 1) ∷ []))
          (lasso S10-stem (negsuc 0) 1 (1 ∷ []) 1 (1 ∷ []) 1 (ranking (0 ∷ 0 ∷ []) (0 ∷ 0 ∷ []))),
      refused 46 0,
    ) ∷ (
      lasso_told S10-loop (lasso S10-stem (negsuc 0) 1 (1 ∷ []) 1 (0 ∷ 0 ∷ 1 ∷ []) 1 (ranking (1 ∷ 0 ∷ 0 ∷ 0 ∷ []) (0 ∷ 1 ∷ 0 ∷ 0 ∷ []))),
      refused 22 1,
    ) ∷
    -- k and k2 apart: T doubled goes with k doubled, and with no other
    (lasso_told S10-loop (lasso S10-stem (negsuc 0) 2 (2 ∷ []) 1 (0 ∷ 0 ∷ 1 ∷ []) 1 S10-ranking), done) ∷
    (lasso_told S10-loop (lasso S10-stem (negsuc 0) 1 (2 ∷ []) 2 (0 ∷ 0 ∷ 1 ∷ []) 1 S10-ranking), refused 42 1) ∷
    -- no two numbers of one form alike
    (ranking_told unlike_loop unlike_ranking, done) ∷
    (exclusion_told excluded_loop unlike_exclusion, done) ∷
    (exclusion_told half_steps half_step, done) ∷
    (exclusion_told never_below odd_U, done) ∷
    (lasso_told lasso_loop unlike_lasso, done) ∷
    []

-- rank, start, fall, a state and the bound there
pub record Numbers : Type 0 where
  pub r : List ℤ
  pub δ0 : ℤ
  pub δ : ℤ
  pub at_x : ℕ

abbrev pub numbers : Loop → Ranking → List ℤ → Numbers
numbers loop c x =
    record { r = rank loop c; δ0 = start loop c; δ = fall loop c; at_x = bound (rank loop c) (start loop c) (fall loop c) x }

unfoldable pub computed : List (Numbers × Numbers)
computed =
    -- S1 with S4, S5, S6; S2; S10; S13; S14
    (numbers P S1 (pos 5 ∷ pos 1 ∷ []), record { r = pos 1 ∷ negsuc 0 ∷ []; δ0 = pos 2; δ = pos 1; at_x = 3 }) ∷
    (numbers P S1 (pos 3 ∷ pos 1 ∷ []), record { r = pos 1 ∷ negsuc 0 ∷ []; δ0 = pos 2; δ = pos 1; at_x = 1 }) ∷
    (numbers P S1 (pos 2 ∷ pos 1 ∷ []), record { r = pos 1 ∷ negsuc 0 ∷ []; δ0 = pos 2; δ = pos 1; at_x = 0 }) ∷ (
      numbers P (ranking (2 ∷ 0 ∷ 0 ∷ []) (0 ∷ 2 ∷ 2 ∷ [])) (pos 5 ∷ pos 1 ∷ []),
      record { r = pos 2 ∷ negsuc 1 ∷ []; δ0 = pos 4; δ = pos 2; at_x = 3 },
    ) ∷ (
      numbers (longer S10-loop S10) S10-ranking (pos 5 ∷ pos 1 ∷ []),
      record { r = pos 1 ∷ pos 0 ∷ []; δ0 = pos 0; δ = pos 1; at_x = 6 },
    ) ∷ (
      numbers (over 1 (row (pos 0 ∷ []) (pos 0 ∷ []) (negsuc 0) ∷ [])) (ranking (0 ∷ []) (1 ∷ [])) (pos 7 ∷ []),
      record { r = pos 0 ∷ []; δ0 = pos 0; δ = pos 1; at_x = 1 },
    ) ∷
    (numbers S14-loop S14 (negsuc 0 ∷ []), record { r = pos 1 ∷ []; δ0 = pos 0; δ = pos 2; at_x = 0 }) ∷
    (numbers S14-loop S14 (pos 0 ∷ []), record { r = pos 1 ∷ []; δ0 = pos 0; δ = pos 2; at_x = 1 }) ∷
    (numbers S14-loop S14 (pos 1 ∷ []), record { r = pos 1 ∷ []; δ0 = pos 0; δ = pos 2; at_x = 1 }) ∷
    (numbers S14-loop S14 (pos 2 ∷ []), record { r = pos 1 ∷ []; δ0 = pos 0; δ = pos 2; at_x = 2 }) ∷
    -- no two numbers of one form alike
    (numbers unlike_loop unlike_ranking (pos 9 ∷ pos 4 ∷ []), record { r = pos 23 ∷ negsuc 38 ∷ []; δ0 = pos 14; δ = pos 9; at_x = 5 }) ∷ (
      numbers (longer lasso_loop unlike_lasso) unlike_lasso.ranking (negsuc 9 ∷ negsuc 9 ∷ []),
      record { r = negsuc 5 ∷ negsuc 21 ∷ []; δ0 = pos 73; δ = pos 33; at_x = 7 },
    ) ∷
    []

-- an exclusion by q, V and W alone
abbrev shown : ℕ → List ℤ → List ℤ → Exclusion
shown q three-V W = record { q = q; U = pos 1 ∷ pos 1 ∷ pos 1 ∷ []; «V» = three-V; W = W }

-- whether the step shown is one between whole numbers
unfoldable pub whole_steps : List (Bool × Bool)
whole_steps =
    (step_is_whole S7, true) ∷
    (step_is_whole S8, true) ∷
    (step_is_whole S9, false) ∷
    (step_is_whole half_step, false) ∷
    (step_is_whole odd_U, true) ∷
    (step_is_whole unlike_exclusion, true) ∷
    -- q divides all; all but the last of W; all but the last of V; all but the first of either
    (step_is_whole (shown 3 (pos 3 ∷ negsuc 5 ∷ pos 0 ∷ []) (negsuc 2 ∷ pos 0 ∷ pos 9 ∷ [])), true) ∷
    (step_is_whole (shown 3 (pos 3 ∷ negsuc 5 ∷ pos 0 ∷ []) (negsuc 2 ∷ pos 0 ∷ pos 10 ∷ [])), false) ∷
    (step_is_whole (shown 3 (pos 3 ∷ negsuc 5 ∷ negsuc 0 ∷ []) (negsuc 2 ∷ pos 0 ∷ pos 9 ∷ [])), false) ∷
    (step_is_whole (shown 3 (pos 4 ∷ negsuc 5 ∷ pos 0 ∷ []) (negsuc 2 ∷ pos 0 ∷ pos 9 ∷ [])), false) ∷
    (step_is_whole (shown 3 (pos 3 ∷ negsuc 5 ∷ pos 0 ∷ []) (negsuc 3 ∷ pos 0 ∷ pos 9 ∷ [])), false) ∷
    -- q = 1 divides all; the largest q divides 0 and itself, of either sign, and nothing between
    (step_is_whole (shown 1 (pos 1 ∷ negsuc 59998 ∷ pos 0 ∷ []) (pos 59999 ∷ negsuc 0 ∷ pos 7 ∷ [])), true) ∷
    (step_is_whole (shown 60000 (pos 60000 ∷ negsuc 59999 ∷ pos 0 ∷ []) (negsuc 59999 ∷ pos 0 ∷ pos 60000 ∷ [])), true) ∷
    (step_is_whole (shown 60000 (pos 60000 ∷ negsuc 59998 ∷ pos 0 ∷ []) (negsuc 59999 ∷ pos 0 ∷ pos 60000 ∷ [])), false) ∷
    (step_is_whole (shown 60000 (pos 60000 ∷ negsuc 59999 ∷ pos 0 ∷ []) (negsuc 59999 ∷ pos 30000 ∷ pos 60000 ∷ [])), false) ∷
    []

-- opens all that the tables compute with
unfoldable pub computing : Unit {0}
unfolding
    told computed ranking_told exclusion_told lasso_told ranking_tests exclusion_tests weighed_tests lasso_tests ◌at_each◌unless◌ of first
    tabulate whole_steps step_is_whole all_divided divides
    sum dot scale add less rank start fall bound P S1 S7-loop S7 S8 S9-loop S9 half_steps half_step never_below odd_U
    S10-loop S10 S14-loop S14 unlike_loop unlike_ranking
    excluded_loop unlike_exclusion lasso_loop unlike_lasso
computing = tt
