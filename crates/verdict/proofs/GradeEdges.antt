-- 02, Q-7, on the records' own bytes: which exclusions are graded whole. q divides W and not V, W and V but not U; all but the last entry of W, all
-- but the last of V; negative entries and zeros; q 1; the largest q with the largest entries. A loop without rows takes every exclusion.
use mathlib.Core.Path.{refl}
use mathlib.Core.List.{List, [], ◌∷◌}
use Prim.Native.Nat.{ℕ}
use lib.IntN.{ℤ, pos}
use Rattle.record.specs.Contents.{rows_values, row_values, exclusion_values}
use Rattle.theory.specs.Rankings.{RanksWhole, RanksFractions}
use Rattle.theory.specs.Samples as Rows
use Rattle.whole.specs.Sums.{Each}
use Rattle.verdict.specs.Computing.{computing}
use Rattle.verdict.specs.Samples.{−, row, loop_bytes, exclusion_bytes, ends_without_rank, halves, S8, S9}
use Rattle.verdict.specs.Stages.{shows}
use Rattle.verdict.specs.declared.Grade.{Grade}
use Rattle.verdict.specs.declared.Grade.TheVariants.{Whole, Fractions}
use Rattle.verdict.specs.declared.Outcome.TheVariants.{Exclusion}
use Rattle.verdict.proofs.Demands.{exclusion_rules_out}
use Rattle.verdict.proofs.SampleSheet.{Line, judged, Holds}

-- -2x + 2x' <= -1; 2x - 2x' <= 1
abbrev half_steps : List ℕ
half_steps = loop_bytes 1 (row (− 2 ∷ []) (pos 2 ∷ []) (− 1) ∷ row (pos 2 ∷ []) (− 2 ∷ []) (pos 1) ∷ [])

-- -x <= 0
abbrev never_below : List ℕ
never_below = loop_bytes 1 (row (− 1 ∷ []) (pos 0 ∷ []) (pos 0) ∷ [])

-- q, V and W over three variables and no rows
abbrev graded : ℕ → List ℤ → List ℤ → Grade → Line
graded q three-V W grade = judged (loop_bytes 3 []) (exclusion_bytes 0 q (pos 1 ∷ − 1 ∷ pos 7 ∷ []) three-V W) 0 (shows (Exclusion grade)) []

unfoldable pub grade_lines : List Line
grade_lines =
    judged half_steps (exclusion_bytes 2 2 (− 1 ∷ []) (− 1 ∷ []) (pos 0 ∷ [])) 0 (shows (Exclusion Fractions)) []
    ∷ judged never_below (exclusion_bytes 1 2 (pos 1 ∷ []) (pos 2 ∷ []) (pos 2 ∷ [])) 0 (shows (Exclusion Whole)) []
    ∷ graded 3 (pos 3 ∷ − 6 ∷ pos 0 ∷ []) (− 3 ∷ pos 0 ∷ pos 9 ∷ []) Whole
    ∷ graded 3 (pos 3 ∷ − 6 ∷ pos 0 ∷ []) (− 3 ∷ pos 0 ∷ pos 10 ∷ []) Fractions
    ∷ graded 3 (pos 3 ∷ − 6 ∷ − 1 ∷ []) (− 3 ∷ pos 0 ∷ pos 9 ∷ []) Fractions
    ∷ graded 1 (pos 1 ∷ − 59999 ∷ pos 0 ∷ []) (pos 59999 ∷ − 1 ∷ pos 7 ∷ []) Whole
    ∷ graded 60000 (pos 60000 ∷ − 60000 ∷ pos 0 ∷ []) (− 60000 ∷ pos 0 ∷ pos 60000 ∷ []) Whole
    ∷ graded 60000 (pos 60000 ∷ − 59999 ∷ pos 0 ∷ []) (− 60000 ∷ pos 0 ∷ pos 60000 ∷ []) Fractions
    ∷ []

pub grade_edges : Each Holds grade_lines
unfolding computing grade_lines Each loop_bytes exclusion_bytes rows_values row_values exclusion_values
grade_edges = ((refl, refl), ((refl, refl), ((refl, refl), ((refl, refl), ((refl, refl), ((refl, refl), ((refl, refl), ((refl, refl), tt))))))))

-- ---- demand 3 of the bytes: S8, with q 2, rules ranking functions over whole numbers out; S9, over fractions

pub S8-rules-out : (r : List ℤ) (δ0 δ : ℤ) → RanksWhole Rows.S7-loop r δ0 δ → ⊥
unfolding computing ends_without_rank S8 Rows.S7-loop loop_bytes exclusion_bytes rows_values row_values exclusion_values
S8-rules-out = (exclusion_rules_out ends_without_rank S8 [] refl refl).1 refl

pub S9-rules-out : (r : List ℤ) (δ0 δ : ℤ) → RanksFractions Rows.S9-loop r δ0 δ → ⊥
unfolding computing halves S9 Rows.S9-loop loop_bytes exclusion_bytes rows_values row_values exclusion_values
S9-rules-out = (exclusion_rules_out halves S9 [] refl refl).0
