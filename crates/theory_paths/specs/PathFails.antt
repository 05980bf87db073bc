-- What a refusal by a condition says of the paths and the argument (02, Q-3): at which path, which condition of it fails, that those before
-- it hold, and that every earlier path's hold. `told_exactly_lexicographic` says that this and nothing else is told.
use Rattle.std.specs.Prelude.{ℕ, ◌<◌, length}
use Rattle.refusal.specs.Places.{Throughout, FirstFailing}
use Rattle.theory.specs.WeightedRows.{Weighs}
use Rattle.theory_paths.specs.Paths.{Branches}
use Rattle.theory_paths.specs.Lexicographics.{Lexicographic, part_at, bounding, falling, not_rising, PathHolds}

-- path j is there, and the conditions of all paths before it hold
pub record Reached (loop : Branches) (c : Lexicographic) (j : ℕ) : Type 0 where
  pub below : j < length loop.paths
  pub before : Throughout j (PathHolds loop c)

-- by number and place
pub data LexicographicFails (loop : Branches) (c : Lexicographic) : ℕ → ℕ → Type 0 where
  fails_51 : {j : ℕ} → Reached loop c j → (Weighs loop.variables (bounding loop c j) → ⊥) → LexicographicFails loop c 51 j
  fails_52 : {j : ℕ} → Reached loop c j → Weighs loop.variables (bounding loop c j)
      → (Weighs loop.variables (falling loop c j) → ⊥) → LexicographicFails loop c 52 j
  -- i is the first earlier component that the rows of path j do not hold down
  fails_53 : {j i : ℕ} → Reached loop c j → Weighs loop.variables (bounding loop c j) → Weighs loop.variables (falling loop c j)
      → FirstFailing (part_at c j).component (λ i. Weighs loop.variables (not_rising loop c j i)) i → LexicographicFails loop c 53 j
