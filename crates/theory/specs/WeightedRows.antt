-- One law of weighted rows, of which a lasso's start and kept are two uses (01, "Conditions"): rows times their weights sum to a
-- multiple of v over A and to a multiple of v over A', column by column, and their right sides to no more than a limit.
use Rattle.std.specs.Prelude.{ℕ, ◌≡◌, List, ℤ, pos, ◌*ℤ◌, get_or, ◌≤ℤ◌}
use Rattle.refusal.specs.Places.{Throughout}
use Rattle.whole.specs.Sums.{sum}
use Rattle.theory.specs.Loops.{Row, A, A', b}

-- rows, one weight per row, and what they are held to: entries v, one per variable, the factors over A and over A', and the limit
pub record Weighted : Type 0 where
  pub rows : List Row
  pub weights : List ℤ
  pub v : List ℤ
  pub now : ℤ
  pub next : ℤ
  pub limit : ℤ

-- their sum over column j of A, over column j of A', and over the right sides
abbrev pub sum_of : Weighted → (Row → ℤ) → ℤ
sum_of w f = sum w.weights f w.rows

-- a factor times entry j of v
abbrev pub times_v : Weighted → ℤ → ℕ → ℤ
times_v w factor j = factor *ℤ get_or w.v j (pos 0)

-- for n variables
pub record Weighs (n : ℕ) (w : Weighted) : Type 0 where
  pub over_A : Throughout n (λ j. sum_of w (A j) ≡ times_v w w.now j)
  pub over_A' : Throughout n (λ j. sum_of w (A' j) ≡ times_v w w.next j)
  pub over_b : sum_of w b ≤ℤ w.limit
