-- 02, Q-3: "Most plotting loops choose between paths." A loop of several paths, after document 004: each path is a list of rows over the
-- same variables, and a step goes through one of them. Nothing here is limited in size.
use Rattle.std.specs.Prelude.{ℕ, suc, ◌<◌, ◌≡◌, List, [], ◌∷◌, ℤ, length, get_or}
use Rattle.theory.specs.Loops.{Row, Loop, over, Step}

-- the number of variables, and the rows of each path
pub record Branches : Type 0 where
  pub variables : ℕ
  pub paths : List (List Row)

-- the rows of path j, and path j as a loop of its own
abbrev pub rows_for : Branches → ℕ → List Row
rows_for loop j = get_or loop.paths j []

abbrev pub path : Branches → ℕ → Loop
path loop j = over loop.variables (rows_for loop j)

-- a whole-number step from x to x' through one of the paths
pub record StepThrough (loop : Branches) (x x' : List ℤ) : Type 0 where
  pub through : ℕ
  pub there : through < length loop.paths
  pub step : Step (path loop through) 1 x x'

-- a run: a first state and the further ones, neighbours being steps through some path
unfoldable pub RunThrough : Branches → List ℤ → List (List ℤ) → Type 0
RunThrough loop x [] = length x ≡ loop.variables
RunThrough loop x (y ∷ ys) = StepThrough loop x y × RunThrough loop y ys

-- a run that goes on for ever: each natural number has a state, and each state and the next are a step through some path
abbrev pub EndlessThrough : Branches → (ℕ → List ℤ) → Type 0
EndlessThrough loop state = (i : ℕ) → StepThrough loop (state i) (state (suc i))
