-- Rankings: document 000, Figure 1, and 01, "Conditions": the conditions as mathematics, what follows from the multipliers, and
-- what is promised. There is one multiplier per row. Those that are missing count 0 and those past the last row count nothing, so
-- no statement has to ask for their number.
use Rattle.std.specs.Prelude.{ℕ, ◌+◌, ◌/◌, ◌≤◌, ◌<◌, ◌≡◌, cond, List, ℤ, pos, nat_abs, neg_ℤ, ◌+ℤ◌, ◌-ℤ◌, ◌*ℤ◌, length, ◌≤ℤ◌, ◌<ℤ◌}
use Rattle.std.specs.Int.Signed.{lt_z}
use Rattle.whole.specs.Sums.{dot, sum, tabulate, less, Each, NonNeg}
use Rattle.theory.specs.Loops.{A, A', b, Loop, Step, Run, Endless}

-- a ranking: one multiplier Y and one Z per row (λ1 and λ2 of 000)
pub record Ranking : Type 0 where
  pub Y : List ℤ
  pub Z : List ℤ

-- no multiplier is below 0
abbrev pub NonNegative : Ranking → Type 0
NonNegative c = Each NonNeg c.Y × Each NonNeg c.Z

-- the four conditions: YA' = 0; (Y - Z)A = 0; Z(A + A') = 0; Zb < 0
pub record RankingHolds (loop : Loop) (c : Ranking) : Type 0 where
  pub first : (j : ℕ) → j < loop.variables → sum c.Y (A' j) loop.rows ≡ pos 0
  pub second : (j : ℕ) → j < loop.variables → sum (less c.Y c.Z) (A j) loop.rows ≡ pos 0
  pub third : (j : ℕ) → j < loop.variables → sum c.Z (λ row. A j row +ℤ A' j row) loop.rows ≡ pos 0
  pub fourth : sum c.Z b loop.rows <ℤ pos 0

-- rank r = ZA', start δ0 = -Yb, fall δ = -Zb
unfoldable pub rank : Loop → Ranking → List ℤ
rank loop c = tabulate loop.variables (λ j. sum c.Z (A' j) loop.rows)

unfoldable pub start : Loop → Ranking → ℤ
start loop c = neg_ℤ (sum c.Y b loop.rows)

unfoldable pub fall : Loop → Ranking → ℤ
fall loop c = neg_ℤ (sum c.Z b loop.rows)

-- the bound at x: 0 if r·x < δ0, otherwise the whole part of (r·x - δ0)/δ, plus 1
unfoldable pub bound : List ℤ → ℤ → ℤ → List ℤ → ℕ
bound r δ0 δ x = cond (lt_z (dot r x) δ0) 0 (nat_abs (dot r x -ℤ δ0) / nat_abs δ + 1)

-- r, δ0, δ are a linear ranking function for the steps at common denominator p: δ >= 1, and each step has r·x >= δ0 and r·x - r·x' >= δ,
-- where x is X/p and x' is X'/p
pub record Ranks (loop : Loop) (p : ℕ) (r : List ℤ) (δ0 δ : ℤ) : Type 0 where
  pub entries : length r ≡ loop.variables
  pub positive : pos 1 ≤ℤ δ
  pub bounded : (X X' : List ℤ) → Step loop p X X' → (pos p *ℤ δ0) ≤ℤ dot r X
  pub falls : (X X' : List ℤ) → Step loop p X X' → (pos p *ℤ δ) ≤ℤ (dot r X -ℤ dot r X')

-- a linear ranking function over whole numbers, and over fractions
abbrev pub RanksWhole : Loop → List ℤ → ℤ → ℤ → Type 0
RanksWhole loop r δ0 δ = Ranks loop 1 r δ0 δ

abbrev pub RanksFractions : Loop → List ℤ → ℤ → ℤ → Type 0
RanksFractions loop r δ0 δ = (p : ℕ) → 1 ≤ p → Ranks loop p r δ0 δ

-- what a ranking promises of the runs whose first state is one of some states: no more steps than the bound at the first state, and
-- no endless run
pub record Bounds (loop : Loop) (From : List ℤ → Type 0) (r : List ℤ) (δ0 δ : ℤ) : Type 0 where
  pub steps : (x : List ℤ) (ys : List (List ℤ)) → From x → Run loop x ys → length ys ≤ bound r δ0 δ x
  pub ends : (state : ℕ → List ℤ) → From (state 0) → Endless loop state → ⊥
