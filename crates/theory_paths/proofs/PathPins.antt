-- Definitions that the theorems use only before an arrow are pinned here: something is in each of them, and something is not. A set of steps,
-- runs or well-formed arguments that is made smaller or larger than it is said then no longer passes, though every theorem still might.
-- `..-needed`: an argument that lacks that part of `WellFormed` alone, whose conditions hold, of a loop that runs for ever.
use Prim.Native.Nat.{ℕ, zero, suc, ◌<◌}
use mathlib.Core.Path.{refl}
use mathlib.Core.List.{List, [], ◌∷◌}
use native.Mathlib.Omega.{arith}
use lib.IntN.{ℤ, pos}
use lib.ListN.{length}
use lib.Signed.{◌≤ℤ◌}
use Rattle.refusal.specs.Places.{Throughout}
use Rattle.whole.specs.Sums.{dot, Each, NonNeg}
use Rattle.theory.specs.Loops.{Row, Step}
use Rattle.theory.specs.Samples.{S9-loop}
use Rattle.theory.proofs.SampleTheorems.{S9-no-whole-step}
use Rattle.theory_paths.specs.Paths.{Branches, rows_for, path, StepThrough, RunThrough, EndlessThrough}
use Rattle.theory_paths.specs.Lexicographics.{Lexicographic, part_at, LexicographicHolds, NonNegativePart, Ends}
use Rattle.theory_paths.specs.OnePath.{alone}
use Rattle.theory_paths.specs.PathSamples.{two_counters, to_and_fro, free, component_missing, no_fall, downward}
use Rattle.theory_paths.specs.PathSamples.{bounded_below_nought, descent, level, ranking_below_nought, at_rest, loose_ping_pong, unaffecting_below_nought}
use Rattle.theory_paths.specs.PathTable.{computing}
use Rattle.theory_paths.proofs.LexicographicTheorems.{only_path}
use Rattle.theory_paths.proofs.PathDecisions.{lexicographic_decided}
use Rattle.theory_paths.proofs.PlainSteps.{step_by}

-- ---- steps: through some path, not through every one

pub through_the_second_alone : StepThrough two_counters (pos 1 ∷ pos 2 ∷ []) (pos 1 ∷ pos 1 ∷ [])
    × (Step (path two_counters 0) 1 (pos 1 ∷ pos 2 ∷ []) (pos 1 ∷ pos 1 ∷ []) → ⊥)
unfolding two_counters Each dot
through_the_second_alone = (record { through = 1; there = omega arith; step = search }, λ t. t.meets.1.1.0.le)

pub through_the_first_alone : StepThrough two_counters (pos 1 ∷ pos 1 ∷ []) (pos 0 ∷ pos 5 ∷ [])
    × (Step (path two_counters 1) 1 (pos 1 ∷ pos 1 ∷ []) (pos 0 ∷ pos 5 ∷ []) → ⊥)
unfolding two_counters Each dot
through_the_first_alone = (record { through = 0; there = omega arith; step = search }, λ t. t.meets.1.1.1.0.le)

-- a path past the last is none: it has no rows, and every pair of states would meet them
pub no_path_no_step : (n : ℕ) (x x' : List ℤ) → StepThrough (record { variables = n; paths = [] }) x x' → ⊥
no_path_no_step n x x' t = omega (arith, t.there)

pub no_step_from_nought : StepThrough two_counters (pos 0 ∷ pos 5 ∷ []) (pos 0 ∷ pos 5 ∷ []) → ⊥
unfolding two_counters Each dot
no_step_from_nought t = by_path t.through t.there t.step
  where
    by_path : (j : ℕ) → j < 2 → Step (path two_counters j) 1 (pos 0 ∷ pos 5 ∷ []) (pos 0 ∷ pos 5 ∷ []) → ⊥
    by_path zero below t = t.meets.0.le
    by_path (suc zero) below t = t.meets.0.le
    by_path (suc (suc j)) below t = omega arith

-- steps are between whole numbers: S9's loop has one between halves (`S9-step-between-halves`)
pub no_step_between_halves : (x x' : List ℤ) → StepThrough (alone 1 S9-loop.rows) x x' → ⊥
unfolding S9-loop
no_step_between_halves x x' t = S9-no-whole-step x x' (only_path 1 S9-loop.rows x x' t)

-- ---- runs: `two_counters_unbounded` has some; states have one entry per variable, and every neighbours are a step

pub no_run_of_no_entries : RunThrough free [] [] → ⊥
unfolding RunThrough free
no_run_of_no_entries e = omega (arith, e)

pub no_second_step : RunThrough two_counters (pos 1 ∷ pos 1 ∷ []) ((pos 0 ∷ pos 5 ∷ []) ∷ (pos 0 ∷ pos 5 ∷ []) ∷ []) → ⊥
unfolding RunThrough
no_second_step run = no_step_from_nought run.1.0

-- ---- endless runs: `ping_pong_endless` is one, through one path and the other; a run that goes no further than its first step is none

abbrev once : ℕ → List ℤ
once zero = pos 1 ∷ pos 1 ∷ []
once (suc i) = pos 0 ∷ pos 5 ∷ []

pub once_not_endless : EndlessThrough two_counters once → ⊥
once_not_endless e = no_step_from_nought (e 1)

pub at_rest_endless : EndlessThrough free at_rest
unfolding free Each
at_rest_endless i = record { through = 0; there = omega arith; step = record { before = refl; after = refl; meets = tt } }

-- ---- well-formed arguments: `two_counters_well_formed` is one, with δ 1, multipliers 0 and the last component owned

-- the conditions hold, and the loop runs for ever
abbrev RunsOn : Branches → Lexicographic → Type 0
RunsOn loop c = LexicographicHolds loop c × (Ends loop → ⊥)

abbrev Falls : Lexicographic → Type 0
Falls c = Each (λ k. pos 1 ≤ℤ k.δ) c.components

abbrev Numbered : Branches → Lexicographic → Type 0
Numbered loop c = Throughout (length loop.paths) (λ j. (part_at c j).component < length c.components)

pub numbered_needed : RunsOn free component_missing × Each NonNegativePart component_missing.parts × Falls component_missing
unfolding computing Each
numbered_needed = (((lexicographic_decided free component_missing).0 refl, λ ends. ends at_rest at_rest_endless), search, tt)

-- with one path there is one number to look at
one_number : (n : ℕ) (rows : List Row) (c : Lexicographic) → (part_at c 0).component < length c.components → Numbered (alone n rows) c
one_number n rows c h zero below = h
one_number n rows c h (suc j) below = absurd (omega arith)

pub falls_needed : RunsOn free no_fall × Each NonNegativePart no_fall.parts × Numbered free no_fall
unfolding computing Each
falls_needed = (((lexicographic_decided free no_fall).0 refl, λ ends. ends at_rest at_rest_endless), search, one_number 1 [] no_fall (omega arith))

-- x stays below what a row times -1 would hold it above
downward_endless : EndlessThrough downward descent
unfolding downward Each dot
downward_endless zero = record { through = 0; there = omega arith; step = search }
downward_endless (suc i) =
    record { through = 0; there = omega arith; step = step_by 1 (rows_for downward 0) (descent (suc i)) (descent (suc (suc i))) refl refl (omega arith) }

pub bounded_needed : RunsOn downward bounded_below_nought
    × Each (λ p. Each NonNeg p.ranking × Each (Each NonNeg) p.unaffecting) bounded_below_nought.parts
    × Falls bounded_below_nought × Numbered downward bounded_below_nought
unfolding computing Each
bounded_needed = (
  ((lexicographic_decided downward bounded_below_nought).0 refl, λ ends. ends descent downward_endless),
  search,
  search,
  one_number 1 (rows_for downward 0) bounded_below_nought (omega arith),
)

-- x need not fall, though a row times -1 would have it fall
level_endless : EndlessThrough level at_rest
unfolding level Each dot
level_endless i = record { through = 0; there = omega arith; step = search }

pub ranking_needed : RunsOn level ranking_below_nought
    × Each (λ p. Each NonNeg p.bounded × Each (Each NonNeg) p.unaffecting) ranking_below_nought.parts
    × Falls ranking_below_nought × Numbered level ranking_below_nought
unfolding computing Each
ranking_needed = (
  ((lexicographic_decided level ranking_below_nought).0 refl, λ ends. ends at_rest level_endless),
  search,
  search,
  one_number 1 (rows_for level 0) ranking_below_nought (omega arith),
)

-- x rises while y falls, though a row times -1 would have x stay
loose_ping_pong_endless : EndlessThrough loose_ping_pong to_and_fro
unfolding loose_ping_pong to_and_fro Each dot
loose_ping_pong_endless zero = record { through = 0; there = omega arith; step = search }
loose_ping_pong_endless (suc zero) = record { through = 1; there = omega arith; step = search }
loose_ping_pong_endless (suc (suc i)) = loose_ping_pong_endless i

pub unaffecting_needed : RunsOn loose_ping_pong unaffecting_below_nought
    × Each (λ p. Each NonNeg p.bounded × Each NonNeg p.ranking) unaffecting_below_nought.parts
    × Falls unaffecting_below_nought × Numbered loose_ping_pong unaffecting_below_nought
unfolding computing Each
unaffecting_needed = (
  ((lexicographic_decided loose_ping_pong unaffecting_below_nought).0 refl, λ ends. ends to_and_fro loose_ping_pong_endless),
  search,
  search,
  numbers,
)
  where
    numbers : Numbered loose_ping_pong unaffecting_below_nought
    numbers zero below = omega arith
    numbers (suc zero) below = omega arith
    numbers (suc (suc j)) below = absurd (omega arith)
