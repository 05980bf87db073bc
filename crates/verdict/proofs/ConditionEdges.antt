-- The edges of the conditions (02, Q-1) in one table, under one statement: `every_condition_edge`. Each number is told at its first
-- and at its last place, and for each two neighbours in the order there is a certificate that fails both: the earlier one in the
-- last column or row, the later one in the first. Each line of a ranking or a lasso is asked of judging and of bound.
use mathlib.Core.Path.{◌≡◌, refl}
use Prim.Native.Nat.{ℕ}
use mathlib.Core.List.{List, [], ◌∷◌, ◌++◌, map}
use lib.IntN.{ℤ, pos}
use lib.ListN.{replicate}
use Rattle.record.specs.Contents.{rows_values, row_values, ranking_values, exclusion_values, lasso_values}
use Rattle.verdict.specs.Computing.{computing}
use Rattle.verdict.specs.Samples.{−, row, loop_bytes, ranking_bytes, exclusion_bytes, lasso_bytes}
use Rattle.verdict.proofs.VerdictEdges.{judge, bound, Edge, ◌gives◌at◌of◌, tells, is_told, wrong}

-- ---- a line: a loop, a certificate for it, and the number and place that they tell

infix 2 ◌with◌tells◌at◌
pub data Failing : Type 0 where
  ◌with◌tells◌at◌ : List ℕ → List ℕ → ℕ → ℕ → Failing

-- of judging with a rank list of three places, and of bound at a state of three entries
abbrev pub by_judging : Failing → Edge
by_judging (l with c tells number at place) = judge l c 3 gives number at place of 2

abbrev pub by_bound : Failing → Edge
by_bound (l with c tells number at place) = bound l c (pos 5 ∷ − 7 ∷ pos 9 ∷ []) gives number at place of 2

-- ---- inputs

-- over three variables: 0 throughout, and apart from that the first column or the last
abbrev pub none : List ℤ
none = pos 0 ∷ pos 0 ∷ pos 0 ∷ []

abbrev pub in_first : List ℤ
in_first = pos 1 ∷ pos 0 ∷ pos 0 ∷ []

abbrev pub in_last : List ℤ
in_last = pos 0 ∷ pos 0 ∷ − 1 ∷ []

-- rows A·x + A'·x' <= 0, B·x <= 0 and 0 <= -1; the last alone is a ranking (Z) that meets all conditions
unfoldable pub ranked : List ℤ → List ℤ → List ℤ → List ℕ
ranked A A' B = loop_bytes 3 (row A A' (pos 0) ∷ row B none (pos 0) ∷ row none none (− 1) ∷ [])

unfoldable pub by_weights : List ℤ → List ℤ → List ℕ
by_weights Y Z = ranking_bytes 3 Y Z

unfoldable pub rankings : List Failing
rankings =
    (ranked none in_first none with by_weights (pos 1 ∷ pos 0 ∷ pos 0 ∷ []) (pos 0 ∷ pos 0 ∷ pos 1 ∷ []) tells 21 at 0)
    ∷ (ranked none in_last none with by_weights (pos 1 ∷ pos 0 ∷ pos 0 ∷ []) (pos 0 ∷ pos 0 ∷ pos 1 ∷ []) tells 21 at 2)
    ∷ (ranked in_first none none with by_weights (pos 1 ∷ pos 0 ∷ pos 0 ∷ []) (pos 0 ∷ pos 0 ∷ pos 1 ∷ []) tells 22 at 0)
    ∷ (ranked in_last none none with by_weights (pos 0 ∷ pos 0 ∷ pos 0 ∷ []) (pos 1 ∷ pos 0 ∷ pos 1 ∷ []) tells 22 at 2)
    ∷ (ranked in_first none none with by_weights (pos 1 ∷ pos 0 ∷ pos 0 ∷ []) (pos 1 ∷ pos 0 ∷ pos 1 ∷ []) tells 23 at 0)
    ∷ (ranked in_last none none with by_weights (pos 1 ∷ pos 0 ∷ pos 0 ∷ []) (pos 1 ∷ pos 0 ∷ pos 1 ∷ []) tells 23 at 2)
    ∷ (ranked none none none with by_weights (pos 1 ∷ pos 1 ∷ pos 1 ∷ []) (pos 1 ∷ pos 1 ∷ pos 0 ∷ []) tells 24 at 0)
    -- 21 and 22, 22 and 23, 23 and 24
    ∷ (ranked in_first in_last none with by_weights (pos 1 ∷ pos 0 ∷ pos 0 ∷ []) (pos 0 ∷ pos 0 ∷ pos 1 ∷ []) tells 21 at 2)
    ∷ (ranked in_last none in_first with by_weights (pos 1 ∷ pos 1 ∷ pos 0 ∷ []) (pos 0 ∷ pos 1 ∷ pos 1 ∷ []) tells 22 at 2)
    ∷ (ranked in_last none none with by_weights (pos 1 ∷ pos 0 ∷ pos 0 ∷ []) (pos 1 ∷ pos 0 ∷ pos 0 ∷ []) tells 23 at 2)
    ∷ []

-- three rows A x + A' x' <= 0 over one variable, and q 1, U 0, V 1, W 1: 31 fails in a row where A > 0, 32 where A' > 0
unfoldable pub three_rows : ℤ → ℤ → ℤ → ℤ → ℤ → ℤ → List ℕ
three_rows A0 A0' A1 A1' A2 A2' =
    loop_bytes 1 (row (A0 ∷ []) (A0' ∷ []) (pos 0) ∷ row (A1 ∷ []) (A1' ∷ []) (pos 0) ∷ row (A2 ∷ []) (A2' ∷ []) (pos 0) ∷ [])

unfoldable pub excludes : List ℕ
excludes = exclusion_bytes 3 1 (pos 0 ∷ []) (pos 1 ∷ []) (pos 1 ∷ [])

unfoldable pub exclusions : List Failing
exclusions =
    (three_rows (pos 1) (pos 0) (pos 0) (pos 0) (pos 0) (pos 0) with excludes tells 31 at 0)
    ∷ (three_rows (pos 0) (pos 0) (pos 0) (pos 0) (pos 1) (pos 0) with excludes tells 31 at 2)
    ∷ (three_rows (pos 0) (pos 1) (pos 0) (pos 0) (pos 0) (pos 0) with excludes tells 32 at 0)
    ∷ (three_rows (pos 0) (pos 0) (pos 0) (pos 0) (pos 0) (pos 1) with excludes tells 32 at 2)
    -- 31 in the last row and 32 in the first
    ∷ (three_rows (pos 0) (pos 1) (pos 0) (pos 0) (pos 1) (pos 0) with excludes tells 31 at 2)
    ∷ []

-- s is (2, 3, 5) and s0, k, k2 and h0 are 1. The stem's first row starts the invariant and the loop's first row keeps it; the second
-- rows, if there is anything in them, fail; and 0 <= -1 is a ranking
unfoldable pub caught : List ℤ → List ℤ → ℤ → List ℕ
caught A A' b = loop_bytes 3 (row (pos 2 ∷ pos 3 ∷ pos 5 ∷ []) (− 2 ∷ − 3 ∷ − 5 ∷ []) (pos 0) ∷ row A A' b ∷ row none none (− 1) ∷ [])

-- the stem's second row, H of the loop's, Y and Z
unfoldable pub lassoed : List ℤ → List ℤ → ℤ → ℤ → List ℤ → List ℤ → List ℕ
lassoed B B' d H Y Z =
    lasso_bytes 3 3
    (record {
      stem = row none (− 2 ∷ − 3 ∷ − 5 ∷ []) (pos 1) ∷ row B B' d ∷ [];
      s = pos 2 ∷ pos 3 ∷ pos 5 ∷ [];
      s0 = pos 1;
      k = pos 1;
      T = pos 1 ∷ pos 1 ∷ [];
      k2 = pos 1;
      H = pos 1 ∷ H ∷ pos 0 ∷ [];
      h0 = pos 1;
      Y = Y;
      Z = Z;
    })

-- weights of the loop's three rows and of the added row: none, or 1 for one of them
abbrev pub no_weight : List ℤ
no_weight = pos 0 ∷ pos 0 ∷ pos 0 ∷ pos 0 ∷ []

abbrev pub last_row : List ℤ
last_row = pos 0 ∷ pos 0 ∷ pos 1 ∷ pos 0 ∷ []

abbrev pub second_row : List ℤ
second_row = pos 0 ∷ pos 1 ∷ pos 0 ∷ pos 0 ∷ []

abbrev pub first_row : List ℤ
first_row = pos 1 ∷ pos 0 ∷ pos 0 ∷ pos 0 ∷ []

abbrev pub added_row : List ℤ
added_row = pos 0 ∷ pos 0 ∷ pos 0 ∷ pos 1 ∷ []

unfoldable pub lassos : List Failing
lassos =
    (caught none none (pos 0) with lassoed in_first none (pos 0) (pos 1) no_weight last_row tells 41 at 0)
    ∷ (caught none none (pos 0) with lassoed in_last none (pos 0) (pos 1) no_weight last_row tells 41 at 2)
    ∷ (caught none none (pos 0) with lassoed none in_first (pos 0) (pos 1) no_weight last_row tells 42 at 0)
    ∷ (caught none none (pos 0) with lassoed none in_last (pos 0) (pos 1) no_weight last_row tells 42 at 2)
    ∷ (caught none none (pos 0) with lassoed none none (pos 1) (pos 1) no_weight last_row tells 43 at 0)
    ∷ (caught in_first none (pos 0) with lassoed none none (pos 0) (pos 1) no_weight last_row tells 44 at 0)
    ∷ (caught in_last none (pos 0) with lassoed none none (pos 0) (pos 1) no_weight last_row tells 44 at 2)
    ∷ (caught none in_first (pos 0) with lassoed none none (pos 0) (pos 1) no_weight last_row tells 45 at 0)
    ∷ (caught none in_last (pos 0) with lassoed none none (pos 0) (pos 1) no_weight last_row tells 45 at 2)
    ∷ (caught none none (pos 1) with lassoed none none (pos 0) (pos 1) no_weight last_row tells 46 at 0)
    -- 21 to 24 over the loop with the added row, 22 by that row's own weight too
    ∷ (caught none in_first (pos 0) with lassoed none none (pos 0) (pos 0) second_row last_row tells 21 at 0)
    ∷ (caught none in_last (pos 0) with lassoed none none (pos 0) (pos 0) second_row last_row tells 21 at 2)
    ∷ (caught none none (pos 0) with lassoed none none (pos 0) (pos 0) added_row last_row tells 22 at 0)
    ∷ (caught in_last none (pos 0) with lassoed none none (pos 0) (pos 0) second_row last_row tells 22 at 2)
    ∷ (caught none none (pos 0) with lassoed none none (pos 0) (pos 0) added_row added_row tells 23 at 0)
    ∷ (caught in_last none (pos 0) with lassoed none none (pos 0) (pos 0) second_row second_row tells 23 at 2)
    ∷ (caught none none (pos 0) with lassoed none none (pos 0) (pos 0) no_weight no_weight tells 24 at 0)
    -- 41 and 42, 42 and 43, 43 and 44, 44 and 45, 45 and 46, 46 and 21
    ∷ (caught none none (pos 0) with lassoed in_last in_first (pos 0) (pos 1) no_weight last_row tells 41 at 2)
    ∷ (caught none none (pos 0) with lassoed none in_last (pos 1) (pos 1) no_weight last_row tells 42 at 2)
    ∷ (caught in_first none (pos 0) with lassoed none none (pos 1) (pos 1) no_weight last_row tells 43 at 0)
    ∷ (caught in_last in_first (pos 0) with lassoed none none (pos 0) (pos 1) no_weight last_row tells 44 at 2)
    ∷ (caught none in_last (pos 1) with lassoed none none (pos 0) (pos 1) no_weight last_row tells 45 at 2)
    ∷ (caught none none (pos 1) with lassoed none none (pos 0) (pos 1) first_row last_row tells 46 at 0)
    ∷ []

-- 16 columns and 64 rows
unfoldable pub sixty_four_rows : ℤ → ℤ → List ℕ
sixty_four_rows A A' = loop_bytes 1 (replicate 63 (row (pos 0 ∷ []) (pos 0 ∷ []) (pos 0)) ++ (row (A ∷ []) (A' ∷ []) (pos 0) ∷ []))

unfoldable pub sixteen_columns : ℤ → List ℕ
sixteen_columns last = loop_bytes 16 (row (replicate 16 (pos 0)) (replicate 15 (pos 0) ++ (last ∷ [])) (pos 0) ∷ [])

unfoldable pub largest : List Edge
largest =
    (judge (sixteen_columns (pos 1)) (ranking_bytes 16 (pos 1 ∷ []) (pos 1 ∷ [])) 16 gives 21 at 15 of 2)
    ∷ (judge (sixty_four_rows (pos 1) (pos 0)) (exclusion_bytes 64 1 (pos 0 ∷ []) (pos 1 ∷ []) (pos 1 ∷ [])) 0 gives 31 at 63 of 2)
    ∷ (judge (sixty_four_rows (pos 0) (pos 1)) (exclusion_bytes 64 1 (pos 0 ∷ []) (pos 1 ∷ []) (pos 1 ∷ [])) 0 gives 32 at 63 of 2)
    ∷ []

-- what meets all conditions
unfoldable pub met : List Edge
met =
    (judge (ranked none none none) (by_weights none (pos 0 ∷ pos 0 ∷ pos 1 ∷ [])) 3 gives 0 at 0 of 0)
    ∷ (judge (three_rows (pos 0) (pos 0) (pos 0) (pos 0) (pos 0) (pos 0)) excludes 3 gives 0 at 0 of 0)
    ∷ (judge (caught none none (pos 0)) (lassoed none none (pos 0) (pos 1) no_weight last_row) 3 gives 0 at 0 of 0)
    ∷ []

unfoldable pub condition_edges : List Edge
condition_edges = map by_judging (rankings ++ (exclusions ++ lassos)) ++ (map by_bound (rankings ++ lassos) ++ (largest ++ met))

-- no line of the table is wrong
pub every_condition_edge : wrong condition_edges ≡ []
unfolding
    computing tells is_told wrong condition_edges sixty_four_rows sixteen_columns largest met rankings exclusions lassos ranked
    by_weights three_rows excludes caught lassoed
    loop_bytes ranking_bytes exclusion_bytes lasso_bytes rows_values row_values ranking_values exclusion_values lasso_values
every_condition_edge = refl
