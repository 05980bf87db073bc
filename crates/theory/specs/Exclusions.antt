-- Exclusions: 01, "Conditions", the dual of the four conditions of a ranking.
use Rattle.std.specs.Prelude.{ℕ, ◌%◌, Bool, true, ◌&&◌, ◌≡◌, List, [], ◌∷◌, eqb, ℤ, pos, nat_abs, ◌+ℤ◌, length, ◌≤ℤ◌}
use Rattle.whole.specs.Sums.{dot, less, Each}
use Rattle.theory.specs.Loops.{Row, Loop, Meets}

-- a denominator q, and three lists with one entry per variable
pub record Exclusion : Type 0 where
  pub q : ℕ
  pub U : List ℤ
  pub «V» : List ℤ
  pub W : List ℤ

-- the lists have one entry per variable
pub record OfSize (loop : Loop) (c : Exclusion) : Type 0 where
  pub U-entries : length c.U ≡ loop.variables
  pub V-entries : length c.«V» ≡ loop.variables
  pub W-entries : length c.W ≡ loop.variables

-- a direction (D, E) never leaves a row: A·D + A'·E <= 0
abbrev pub Stays : List ℤ → List ℤ → Row → Type 0
Stays D E row = (dot row.now D +ℤ dot row.next E) ≤ℤ pos 0

-- for every row, A·V + A'·U <= 0, and A·(W - V) + A'·W <= q·b
pub record ExclusionHolds (loop : Loop) (c : Exclusion) : Type 0 where
  pub direction : Each (Stays c.«V» c.U) loop.rows
  pub step : Each (Meets c.q (less c.W c.«V») c.W) loop.rows

-- q divides z, and each one of a list; 0 is divided by every q
unfoldable pub divides : ℕ → ℤ → Bool
divides q z = eqb (nat_abs z % q) 0

unfoldable pub all_divided : ℕ → List ℤ → Bool
all_divided q [] = true
all_divided q (z ∷ zs) = divides q z && all_divided q zs

-- 02, Q-7: q divides every entry of W and of V, so that the step from (W - V)/q to W/q is one between whole numbers
unfoldable pub step_is_whole : Exclusion → Bool
step_is_whole c = all_divided c.q c.W && all_divided c.q c.«V»
