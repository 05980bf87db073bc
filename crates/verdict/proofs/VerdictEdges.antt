-- The edges of judging and bound in one table, under one statement: `every_verdict_edge`. A line is a call, the number and place it tells, and the record it
-- speaks of. The table has each refusal number, place and record, an input with both faults for neighbours in the two orders, an input for each of 01's
-- "readings that look right", and rank lists of n - 1, n and n + 1 places. Damaged records are put together by hand.
use mathlib.Core.Path.{◌≡◌, refl}
use Prim.Native.Nat.{ℕ}
use mathlib.Core.Bool.{Bool, true, false, ◌&&◌}
use mathlib.Core.List.{List, [], ◌∷◌, ◌++◌}
use lib.Dec.{eqb}
use lib.IntN.{ℤ, pos}
use lib.ListN.{replicate, take}
use Rattle.record.specs.Contents.{rows_values, row_values, ranking_values, exclusion_values, lasso_values}
use Rattle.record.specs.Samples as Records
use Rattle.record.proofs.EdgeInputs.{two, four, filed, one_row, zeros, weights, excluding, caught}
use Rattle.verdict.specs.Bounding.{bounding, bound_of}
use Rattle.verdict.specs.Computing.{computing}
use Rattle.verdict.specs.Judging.{judging, judge_of}
use Rattle.verdict.specs.Samples.{−, loop_bytes, ranking_bytes, exclusion_bytes, lasso_bytes, P, ends_without_rank, with_stem, no_rows, no_steps, by_two, S1, S3, S7, S10, S11, S13, S14, S10-parts}
use Rattle.verdict.specs.Stages.{Said, agreed, refusal, said}

pub data Call : Type 0 where
  -- loop, certificate, places of the rank list
  judge : List ℕ → List ℕ → ℕ → Call
  -- loop, certificate, state
  bound : List ℕ → List ℕ → List ℤ → Call

unfoldable pub tells : Call → Said
tells (judge l c places) = said judging (judge_of l c (replicate places (pos 0)))
tells (bound l c state) = said bounding (bound_of l c state)

infix 2 ◌gives◌at◌of◌
pub data Edge : Type 0 where
  -- call, number, place, record
  ◌gives◌at◌of◌ : Call → ℕ → ℕ → ℕ → Edge

unfoldable pub is_told : Said → ℕ → ℕ → ℕ → Bool
is_told agreed number place about = eqb 0 number && (eqb 0 place && eqb 0 about)
is_told (refusal about number place) number' place' about' = eqb number number' && (eqb place place' && eqb about about')

-- the lines of a table that do not hold
unfoldable pub wrong : List Edge → List Edge
wrong [] = []
wrong ((call gives number at place of about) ∷ es) =
    elim (is_told (tells call) number place about) [ true ↦ wrong es | false ↦ (call gives number at place of about) ∷ wrong es ]

-- ---- inputs

-- S10 with another T, and with another h0: an invariant kept but never started, and one kept only by the added row's own weight
unfoldable pub never_started : List ℕ
never_started = lasso_bytes 2 3 (S10-parts (pos 1) (pos 0) (pos 1) (pos 1))

unfoldable pub kept_by_itself : List ℕ
kept_by_itself = lasso_bytes 2 3 (S10-parts (pos 1) (pos 1) (pos 1) (pos 0))

-- judging: each refusal of the loop record, then of the certificate; neighbours; rank lists of n - 1, n and n + 1
unfoldable pub judging_edges : List Edge
judging_edges =
    (judge [] [] 0 gives 1 at 0 of 1)
    ∷ (judge (take 45 P) S1 0 gives 1 at 45 of 1)
    ∷ (judge (P ++ (0 ∷ [])) (take 17 S1) 2 gives 2 at 46 of 1)
    ∷ (judge (1 ∷ 0 ∷ 0 ∷ 0 ∷ []) [] 2 gives 3 at 0 of 1)
    ∷ (judge S1 P 2 gives 4 at 4 of 1)
    ∷ (judge (zeros 17 0 0) [] 0 gives 5 at 6 of 1)
    ∷ (judge (zeros 1 65 0) [] 0 gives 5 at 8 of 1)
    ∷ (judge (one_row 30001 0 0) (weights 60001 0) 0 gives 6 at 10 of 1)
    ∷ (judge (one_row 0 0 2000000001) (weights 0 0) 1 gives 6 at 14 of 1)
    ∷ (judge (one_row 0 0 1000001) (weights 0 0) 1 gives 24 at 0 of 2)
    ∷ (judge P [] 2 gives 1 at 0 of 2)
    ∷ (judge P (take 17 S1) 0 gives 1 at 17 of 2)
    ∷ (judge P (S1 ++ (0 ∷ [])) 0 gives 2 at 18 of 2)
    ∷ (judge P (1 ∷ 0 ∷ 0 ∷ 0 ∷ []) 2 gives 3 at 0 of 2)
    ∷ (judge P S13 0 gives 3 at 0 of 2)
    ∷ (judge P P 2 gives 4 at 4 of 2)
    ∷ (judge P (filed 2 5 []) 2 gives 4 at 4 of 2)
    ∷ (judge P (filed 2 4 []) 2 gives 3 at 0 of 2)
    ∷ (judge P (filed 4 4 (two 65)) 2 gives 5 at 6 of 2)
    ∷ (judge no_steps (weights 60001 0) 0 gives 6 at 6 of 2)
    ∷ (judge no_steps (weights 0 60001) 1 gives 6 at 8 of 2)
    ∷ (judge no_steps (excluding 1 0 0 60001) 1 gives 6 at 16 of 2)
    ∷ (judge P S3 1 gives 7 at 2 of 0)
    ∷ (judge P S1 0 gives 7 at 2 of 0)
    ∷ (judge P S1 1 gives 7 at 2 of 0)
    ∷ (judge P S1 2 gives 0 at 0 of 0)
    ∷ (judge P S1 3 gives 0 at 0 of 0)
    ∷ (judge with_stem S10 1 gives 7 at 2 of 0)
    ∷ (judge with_stem S10 2 gives 0 at 0 of 0)
    ∷ (judge with_stem S10 3 gives 0 at 0 of 0)
    ∷ (judge with_stem never_started 1 gives 7 at 2 of 0)
    ∷ (judge ends_without_rank S7 0 gives 0 at 0 of 0)
    ∷ (judge P S3 2 gives 24 at 0 of 2)
    ∷ (judge by_two (excluding 1 0 0 0) 0 gives 32 at 1 of 2)
    ∷ []

-- bound: each refusal; neighbours
unfoldable pub bounding_edges : List Edge
bounding_edges =
    (bound [] [] (pos 5 ∷ pos 1 ∷ []) gives 1 at 0 of 1)
    ∷ (bound (zeros 1 65 0) S7 [] gives 5 at 8 of 1)
    ∷ (bound (one_row 30001 0 0) (weights 60001 0) [] gives 6 at 10 of 1)
    ∷ (bound P (take 17 S1) [] gives 1 at 17 of 2)
    ∷ (bound P (S1 ++ (0 ∷ [])) (pos 5 ∷ pos 1 ∷ []) gives 2 at 18 of 2)
    ∷ (bound P S13 (pos 5 ∷ pos 1 ∷ []) gives 3 at 0 of 2)
    ∷ (bound ends_without_rank S7 (pos 0 ∷ []) gives 4 at 4 of 2)
    ∷ (bound ends_without_rank (filed 2 3 []) [] gives 4 at 4 of 2)
    ∷ (bound ends_without_rank (excluding 0 0 0 0) (pos 0 ∷ []) gives 4 at 4 of 2)
    ∷ (bound P P (pos 5 ∷ pos 1 ∷ []) gives 4 at 4 of 2)
    ∷ (bound P (filed 4 4 (two 65)) [] gives 5 at 6 of 2)
    ∷ (bound no_steps (weights 60001 0) [] gives 6 at 6 of 2)
    ∷ (bound P S1 [] gives 10 at 0 of 0)
    ∷ (bound P S1 (pos 1000001 ∷ []) gives 10 at 1 of 0)
    ∷ (bound P S3 (pos 0 ∷ pos 0 ∷ pos 1000001 ∷ []) gives 10 at 3 of 0)
    ∷ (bound P S1 (pos 1000001 ∷ pos 1000001 ∷ []) gives 9 at 0 of 0)
    ∷ (bound P S1 (pos 1000000 ∷ − 1000001 ∷ []) gives 9 at 1 of 0)
    ∷ (bound P S3 (pos 0 ∷ pos 1000001 ∷ []) gives 9 at 1 of 0)
    ∷ (bound P S1 (pos 1000000 ∷ − 1000000 ∷ []) gives 0 at 0 of 0)
    ∷ (bound P S3 (pos 5 ∷ pos 1 ∷ []) gives 24 at 0 of 2)
    ∷ (bound with_stem never_started (pos 5 ∷ pos 0 ∷ []) gives 42 at 1 of 2)
    ∷ (bound with_stem S10 (pos 5 ∷ pos 0 ∷ []) gives 11 at 0 of 2)
    ∷ (bound with_stem S10 (pos 5 ∷ − 1 ∷ []) gives 11 at 0 of 2)
    ∷ (bound with_stem S10 (− 5 ∷ pos 1 ∷ []) gives 0 at 0 of 0)
    ∷ []

-- 01, "Readings that look right": 65,535 as a multiplier; q = 0; an invariant never started; the added row's weight in kept without h0
unfoldable pub look_right : List Edge
look_right =
    (judge no_steps (weights 65535 1) 1 gives 6 at 6 of 2)
    ∷ (judge no_steps (weights 0 65535) 1 gives 6 at 8 of 2)
    ∷ (judge ends_without_rank (excluding 0 0 0 0) 1 gives 6 at 6 of 2)
    ∷ (judge by_two (excluding 0 0 0 0) 1 gives 6 at 6 of 2)
    ∷ (judge with_stem never_started 2 gives 42 at 1 of 2)
    ∷ (judge with_stem kept_by_itself 2 gives 44 at 1 of 2)
    ∷ []

unfoldable pub edges : List Edge
edges = judging_edges ++ (bounding_edges ++ look_right)

-- no line of the table is wrong
pub every_verdict_edge : wrong edges ≡ []
unfolding computing tells is_told wrong edges judging_edges bounding_edges look_right never_started kept_by_itself two four filed one_row zeros weights excluding caught P ends_without_rank with_stem no_rows no_steps by_two S1 S3 S7 S10 S11 S13 S14 S10-parts Records.P Records.S1 Records.S7 Records.S10 loop_bytes ranking_bytes exclusion_bytes lasso_bytes rows_values row_values ranking_values exclusion_values lasso_values
every_verdict_edge = refl
