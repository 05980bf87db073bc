-- The conditions as tests that compute: "conditions get 51 to 53, place the path, path by path." A sum that is not exact and a right side
-- over its limit are both the one condition; the earlier components of a path are one 53.
use Rattle.std.specs.Prelude.{ℕ, zero, suc, Bool, true, ◌&&◌, List, [], ◌∷◌, ◌++◌, length}
use Rattle.std.specs.Int.Signed.{le_z}
use Rattle.refusal.specs.Tests.{Told, Test, ◌at◌unless◌, first}
use Rattle.whole.specs.Same.{same_z}
use Rattle.theory.specs.Loops.{A, A', b}
use Rattle.theory.specs.WeightedRows.{Weighted, sum_of, times_v}
use Rattle.theory_paths.specs.Paths.{Branches}
use Rattle.theory_paths.specs.Lexicographics.{Lexicographic, part_at, bounding, falling, not_rising}

-- what is judged: the paths, and an argument for them
pub record Proposed : Type 0 where
  pub loop : Branches
  pub values : Lexicographic

-- at each of n places
unfoldable pub every : ℕ → (ℕ → Bool) → Bool
every zero holds = true
every (suc n) holds = holds 0 && every n (λ j. holds (suc j))

-- rows weigh as they are held to, for n variables
unfoldable pub weighs : ℕ → Weighted → Bool
weighs n w =
    every n (λ j. same_z (sum_of w (A j)) (times_v w w.now j))
    && (every n (λ j. same_z (sum_of w (A' j)) (times_v w w.next j)) && le_z (sum_of w b) w.limit)

-- path j: bounded, ranking, unaffecting
unfoldable pub path_tests : ℕ → ℕ → List (Test Proposed)
path_tests n j =
    (51 at (λ p. j) unless λ p. weighs n (bounding p.loop p.values j))
    ∷ (52 at (λ p. j) unless λ p. weighs n (falling p.loop p.values j))
    ∷ (53 at (λ p. j) unless λ p. every (part_at p.values j).component (λ i. weighs n (not_rising p.loop p.values j i)))
    ∷ []

-- the tests of each of some paths, one path after another
unfoldable pub path_by_path : {I : Type 0} → ℕ → (ℕ → List (Test I)) → List (Test I)
path_by_path zero tests = []
path_by_path (suc paths) tests = tests 0 ++ path_by_path paths (λ j. tests (suc j))

-- for n variables
unfoldable pub lexicographic_tests : ℕ → ℕ → List (Test Proposed)
lexicographic_tests n paths = path_by_path paths (path_tests n)

unfoldable pub lexicographic_told : Branches → Lexicographic → Told
lexicographic_told loop c = first (lexicographic_tests loop.variables (length loop.paths)) (record { loop = loop; values = c })

-- what is told of path j alone, for n variables
unfoldable pub path_told : ℕ → Branches → Lexicographic → ℕ → Told
path_told n loop c j = first (path_tests n j) (record { loop = loop; values = c })
