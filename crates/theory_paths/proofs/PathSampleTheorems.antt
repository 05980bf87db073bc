-- Theorems about the samples. Two counters ends, and no state from which it starts bounds the number of its steps. Ping-pong runs for ever
-- though each of its paths alone has a ranking, so judging the paths one by one is wrong. And the table of what is told.
use Prim.Native.Nat.{ℕ, zero, suc, ◌≤◌, ◌<◌}
use mathlib.Core.Path.{◌≡◌, refl, ap}
use mathlib.Core.List.{List, [], ◌∷◌, map}
use native.Mathlib.Omega.{arith}
use lib.IntN.{ℤ, pos}
use lib.ListN.{length}
use Rattle.refusal.specs.Tests.{done, refused}
use Rattle.refusal.specs.Places.{Throughout}
use Rattle.whole.specs.Sums.{dot, Each}
use Rattle.theory.specs.Conditions.{ranking_told}
use Rattle.theory_paths.specs.Paths.{path, StepThrough, RunThrough, EndlessThrough}
use Rattle.theory_paths.specs.Lexicographics.{part_at, WellFormed, Ends}
use Rattle.theory_paths.specs.PathConditions.{lexicographic_told}
use Rattle.theory_paths.specs.PathSamples.{x_falls, y_falls, two_counters, two_counters_argument, ping_pong, ping_pong_ranking, ping_pong_argument, to_and_fro}
use Rattle.theory_paths.specs.PathTable.{told, computing}
use Rattle.theory_paths.proofs.LexicographicTheorems.{lexicographic_ends}
use Rattle.theory_paths.proofs.PathDecisions.{lexicographic_decided}
use Rattle.theory_paths.proofs.PlainSteps.{step_by}

-- ---- two counters

pub two_counters_told : lexicographic_told two_counters two_counters_argument ≡ done
unfolding computing
two_counters_told = refl

pub two_counters_well_formed : WellFormed two_counters two_counters_argument
unfolding two_counters two_counters_argument Each
two_counters_well_formed = record { nonneg = search; falls = search; numbered = numbers }
  where
    numbers : Throughout 2 (λ j. (part_at two_counters_argument j).component < 2)
    numbers zero below = omega arith
    numbers (suc zero) below = omega arith
    numbers (suc (suc j)) below = absurd (omega arith)

pub two_counters_ends : Ends two_counters
two_counters_ends =
    lexicographic_ends two_counters two_counters_argument two_counters_well_formed
    ((lexicographic_decided two_counters two_counters_argument).0 two_counters_told)

-- through the first path x falls by 1 and y becomes what it likes; through the second y falls by 1
x_down : (k : ℕ) → StepThrough two_counters (pos 2 ∷ pos 1 ∷ []) (pos 1 ∷ pos k ∷ [])
unfolding two_counters
x_down k = record { through = 0; there = omega arith; step = step_by 2 x_falls (pos 2 ∷ pos 1 ∷ []) (pos 1 ∷ pos k ∷ []) refl refl (omega arith) }

y_down : (k : ℕ) → StepThrough two_counters (pos 1 ∷ pos (suc k) ∷ []) (pos 1 ∷ pos k ∷ [])
unfolding two_counters
y_down k = record { through = 1; there = omega arith; step = step_by 2 y_falls (pos 1 ∷ pos (suc k) ∷ []) (pos 1 ∷ pos k ∷ []) refl refl (omega arith) }

down : (k : ℕ) → (ys : List (List ℤ)) × RunThrough two_counters (pos 1 ∷ pos k ∷ []) ys × (length ys ≡ k)
unfolding RunThrough two_counters
down zero = ([], refl, refl)
down (suc k) = let rest = down k in ((pos 1 ∷ pos k ∷ []) ∷ rest.0, (y_down k, rest.1), ap suc rest.2)

-- from (2, 1) there are runs with more steps than any number
pub two_counters_unbounded : (N : ℕ) → (ys : List (List ℤ)) × RunThrough two_counters (pos 2 ∷ pos 1 ∷ []) ys × (N < length ys)
unfolding RunThrough
two_counters_unbounded N = let rest = down N in ((pos 1 ∷ pos N ∷ []) ∷ rest.0, (x_down N, rest.1), omega (arith, rest.2))

-- so no function of the first state bounds the steps of the runs
pub two_counters_no_bound : (bound : List ℤ → ℕ) → ((x : List ℤ) (ys : List (List ℤ)) → RunThrough two_counters x ys → length ys ≤ bound x) → ⊥
two_counters_no_bound bound within =
    let run = two_counters_unbounded (bound (pos 2 ∷ pos 1 ∷ [])) in
    omega (arith, run.2, within (pos 2 ∷ pos 1 ∷ []) run.0 run.1)

-- ---- ping-pong

pub ping_pong_ranked : Throughout (length ping_pong.paths) (λ j. ranking_told (path ping_pong j) ping_pong_ranking ≡ done)
unfolding computing
ping_pong_ranked zero below = refl
ping_pong_ranked (suc zero) below = refl
ping_pong_ranked (suc (suc j)) below = absurd (omega arith)

pub ping_pong_endless : EndlessThrough ping_pong to_and_fro
unfolding ping_pong to_and_fro Each dot
ping_pong_endless zero = record { through = 0; there = omega arith; step = search }
ping_pong_endless (suc zero) = record { through = 1; there = omega arith; step = search }
ping_pong_endless (suc (suc i)) = ping_pong_endless i

pub ping_pong_told : lexicographic_told ping_pong ping_pong_argument ≡ refused 53 1
unfolding computing
ping_pong_told = refl

-- every path alone has an accepted ranking, and the loop runs for ever
pub one_by_one_is_wrong : Throughout (length ping_pong.paths) (λ j. ranking_told (path ping_pong j) ping_pong_ranking ≡ done) × (Ends ping_pong → ⊥)
one_by_one_is_wrong = (ping_pong_ranked, λ ends. ends to_and_fro ping_pong_endless)

-- ---- the table

pub samples_told : map (λ line. line.0) told ≡ map (λ line. line.1) told
unfolding computing
samples_told = refl
