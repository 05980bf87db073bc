-- What the conditions tell of the samples, of each condition where it alone fails, and of two neighbours in the order that both
-- fail; the rank, start and fall, and the bounds. A line is what is computed and what it has to be; `SettlingSampleTheorems`
-- computes them.
use Rattle.std.specs.Prelude.{ℕ, List, [], ◌∷◌, ℤ, pos, negsuc}
use Rattle.refusal.specs.Tests.{Told, done, refused, first}
use Rattle.whole.specs.Sums.{dot, sum, tabulate, scale, add, less}
use Rattle.theory.specs.Conditions.{exclusion_told, exclusion_tests, ranking_tests, weighed_tests, ◌at_each◌unless◌, of}
use Rattle.theory.specs.Exclusions.{divides, all_divided, step_is_whole}
use Rattle.theory.specs.Loops.{Loop, over}
use Rattle.theory.specs.Rankings.{rank, start, fall, bound}
use Rattle.theory.specs.Samples.{row, ranking, upward}
use Rattle.theory.specs.Table.{Numbers, numbers}
use Rattle.theory_settling.specs.Settlings.{Settling, longer, unsettled, unsettled_steps, settling_bound}
use Rattle.theory_settling.specs.SettlingConditions.{settling_tests, settling_told}
use Rattle.theory_settling.specs.SettlingSamples.{settling, curve, curve_by, curve_settles, curve_excluded, unlike_loop}
use Rattle.theory_settling.specs.SettlingSamples.{unlike_settling, still, no_scale, at_most_one_up, E-below-nought}
use Rattle.theory_settling.specs.SettlingSamples.{Y-below-nought, upward_idly, Z-below-nought}

-- one row with weight 1 for a rise of (1, -3) by k = 2, and a ranking of zeros but for Y's first, which is for that row
abbrev rise_by : List ℤ → List ℤ → ℤ → ℕ → Told
rise_by a a' right y =
    settling_told (over 2 (row a a' right ∷ []))
    (settling (pos 1 ∷ negsuc 2 ∷ []) (pos 1) 2 (1 ∷ []) (ranking (y ∷ 0 ∷ []) (0 ∷ 0 ∷ [])))

-- the curve with another ranking, and with another threshold
abbrev rank_by : List ℕ → List ℕ → Told
rank_by Y Z = settling_told curve (curve_by (pos 1) 1 (0 ∷ 0 ∷ 0 ∷ 1 ∷ 0 ∷ []) Y Z)

abbrev from_threshold : ℤ → Told
from_threshold t = settling_told curve (curve_by t 1 (0 ∷ 0 ∷ 0 ∷ 1 ∷ 0 ∷ []) (1 ∷ 0 ∷ 0 ∷ 0 ∷ 0 ∷ 0 ∷ []) (0 ∷ 1 ∷ 0 ∷ 0 ∷ 0 ∷ 1 ∷ []))

unfoldable pub told : List (Told × Told)
told =
    -- the curve; its E and k doubled together, and alone; no two numbers alike
    (settling_told curve curve_settles, done) ∷ (
      settling_told curve (curve_by (pos 1) 2 (0 ∷ 0 ∷ 0 ∷ 2 ∷ 0 ∷ []) (1 ∷ 0 ∷ 0 ∷ 0 ∷ 0 ∷ 0 ∷ []) (0 ∷ 1 ∷ 0 ∷ 0 ∷ 0 ∷ 1 ∷ [])),
      done,
    ) ∷ (
      settling_told curve (curve_by (pos 1) 2 (0 ∷ 0 ∷ 0 ∷ 1 ∷ 0 ∷ []) (1 ∷ 0 ∷ 0 ∷ 0 ∷ 0 ∷ 0 ∷ []) (0 ∷ 1 ∷ 0 ∷ 0 ∷ 0 ∷ 1 ∷ [])),
      refused 61 1,
    ) ∷
    (settling_told unlike_loop unlike_settling, done) ∷
    -- an exclusion of the same loop
    (exclusion_told curve curve_excluded, done) ∷
    -- the rise holds, to the last and with room; 61 and 62 in either column, 63
    (rise_by (pos 2 ∷ negsuc 5 ∷ []) (negsuc 1 ∷ pos 6 ∷ []) (negsuc 1) 0, refused 24 0) ∷
    (rise_by (pos 2 ∷ negsuc 5 ∷ []) (negsuc 1 ∷ pos 6 ∷ []) (negsuc 2) 0, refused 24 0) ∷
    (rise_by (pos 3 ∷ negsuc 5 ∷ []) (negsuc 1 ∷ pos 6 ∷ []) (negsuc 1) 0, refused 61 0) ∷
    (rise_by (pos 2 ∷ negsuc 4 ∷ []) (negsuc 1 ∷ pos 6 ∷ []) (negsuc 1) 0, refused 61 1) ∷
    (rise_by (pos 2 ∷ negsuc 5 ∷ []) (negsuc 0 ∷ pos 6 ∷ []) (negsuc 1) 0, refused 62 0) ∷
    (rise_by (pos 2 ∷ negsuc 5 ∷ []) (negsuc 1 ∷ pos 5 ∷ []) (negsuc 1) 0, refused 62 1) ∷
    (rise_by (pos 2 ∷ negsuc 5 ∷ []) (negsuc 1 ∷ pos 6 ∷ []) (negsuc 0) 0, refused 63 0) ∷
    -- 21 and 22 in either column, 23 in either, 24: over the longer loop, where the added row's multipliers are the last
    (rank_by (0 ∷ 1 ∷ 0 ∷ 0 ∷ 0 ∷ 1 ∷ []) (0 ∷ 1 ∷ 0 ∷ 0 ∷ 0 ∷ 1 ∷ []), refused 21 0) ∷
    (rank_by (1 ∷ 0 ∷ 0 ∷ 1 ∷ 0 ∷ 1 ∷ []) (0 ∷ 1 ∷ 0 ∷ 0 ∷ 0 ∷ 1 ∷ []), refused 21 1) ∷
    (rank_by (2 ∷ 0 ∷ 0 ∷ 0 ∷ 0 ∷ 0 ∷ []) (0 ∷ 1 ∷ 0 ∷ 0 ∷ 0 ∷ 1 ∷ []), refused 22 0) ∷
    (rank_by (1 ∷ 0 ∷ 0 ∷ 0 ∷ 0 ∷ 1 ∷ []) (0 ∷ 1 ∷ 0 ∷ 0 ∷ 0 ∷ 1 ∷ []), refused 22 1) ∷
    (rank_by (2 ∷ 0 ∷ 0 ∷ 0 ∷ 0 ∷ 0 ∷ []) (1 ∷ 1 ∷ 0 ∷ 0 ∷ 0 ∷ 1 ∷ []), refused 23 0) ∷
    (rank_by (1 ∷ 0 ∷ 0 ∷ 0 ∷ 0 ∷ 1 ∷ []) (0 ∷ 1 ∷ 0 ∷ 0 ∷ 0 ∷ 2 ∷ []), refused 23 1) ∷
    (from_threshold (pos 2), done) ∷
    (from_threshold (pos 0), refused 24 0) ∷
    (from_threshold (negsuc 0), refused 24 0) ∷
    -- two that fail: 61 and 62, in one column, and 61 in column 1 with 62 in column 0; 62 and 63; 63 and 21, and that 21 alone
    (rise_by (pos 3 ∷ negsuc 5 ∷ []) (negsuc 0 ∷ pos 6 ∷ []) (negsuc 1) 0, refused 61 0) ∷
    (rise_by (pos 2 ∷ negsuc 4 ∷ []) (negsuc 0 ∷ pos 6 ∷ []) (negsuc 1) 0, refused 61 1) ∷
    (rise_by (pos 2 ∷ negsuc 5 ∷ []) (negsuc 1 ∷ pos 5 ∷ []) (negsuc 0) 0, refused 62 1) ∷
    (rise_by (pos 2 ∷ negsuc 5 ∷ []) (negsuc 1 ∷ pos 6 ∷ []) (negsuc 0) 1, refused 63 0) ∷
    (rise_by (pos 2 ∷ negsuc 5 ∷ []) (negsuc 1 ∷ pos 6 ∷ []) (negsuc 1) 1, refused 21 0) ∷
    -- 21 in column 1 with 22 in column 0; 22 in column 1 with 23 in column 0; 23 and 24
    (rank_by (0 ∷ 0 ∷ 0 ∷ 1 ∷ 0 ∷ 1 ∷ []) (0 ∷ 1 ∷ 0 ∷ 0 ∷ 0 ∷ 1 ∷ []), refused 21 1) ∷
    (rank_by (2 ∷ 0 ∷ 0 ∷ 0 ∷ 0 ∷ 1 ∷ []) (1 ∷ 1 ∷ 0 ∷ 0 ∷ 0 ∷ 1 ∷ []), refused 22 1) ∷
    (rank_by (1 ∷ 0 ∷ 0 ∷ 0 ∷ 0 ∷ 0 ∷ []) (1 ∷ 0 ∷ 0 ∷ 0 ∷ 0 ∷ 0 ∷ []), refused 23 0) ∷
    -- settlings that lack what the theorems ask for: the conditions do not see it
    (settling_told still no_scale, done) ∷
    (settling_told at_most_one_up E-below-nought, done) ∷
    (settling_told upward Y-below-nought, done) ∷
    (settling_told upward_idly Z-below-nought, done) ∷
    []

-- rank, start and fall of the longer loop, and the bound at a state
abbrev from_x : Loop → Settling → List ℤ → Numbers
from_x loop c x = numbers (longer loop c) c.ranking x

unfoldable pub computed : List (Numbers × Numbers)
computed =
    (from_x curve curve_settles (pos 15 ∷ negsuc 0 ∷ []), record { r = pos 1 ∷ pos 0 ∷ []; δ0 = pos 0; δ = pos 1; at_x = 16 }) ∷
    (from_x unlike_loop unlike_settling (pos 2 ∷ pos 1 ∷ []), record { r = pos 59 ∷ negsuc 36 ∷ []; δ0 = pos 17; δ = pos 21; at_x = 4 }) ∷
    []

-- t - g·x, and 0 if that is negative: below the threshold, one below, at it and past it
unfoldable pub settling_bounds : List (ℕ × ℕ)
settling_bounds =
    (settling_bound curve_settles (pos 0 ∷ pos 5 ∷ []), 6) ∷
    (settling_bound curve_settles (pos 9 ∷ pos 0 ∷ []), 1) ∷
    (settling_bound curve_settles (pos 9 ∷ negsuc 0 ∷ []), 0) ∷
    (settling_bound curve_settles (pos 3 ∷ negsuc 1 ∷ []), 0) ∷
    (settling_bound unlike_settling (pos 2 ∷ pos 1 ∷ []), 3) ∷
    (settling_bound unlike_settling (negsuc 0 ∷ pos 2 ∷ []), 21) ∷
    (settling_bound unlike_settling (pos 5 ∷ pos 2 ∷ []), 0) ∷
    []

-- opens all that the tables compute with
unfoldable pub computing : Unit {0}
unfolding
    told computed settling_bounds settling_told settling_tests exclusion_told exclusion_tests ranking_tests weighed_tests ◌at_each◌unless◌ of
    first tabulate sum dot scale add less rank start fall bound unsettled unsettled_steps settling_bound step_is_whole all_divided divides
    curve curve_settles curve_excluded unlike_loop unlike_settling
    still no_scale at_most_one_up E-below-nought upward Y-below-nought upward_idly Z-below-nought
computing = tt
