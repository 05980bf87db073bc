-- 01, "What the checker covers": "Row i reads: A_i·x + A'_i·x' <= b_i, where x is the state before a step and x' the state after."
use Rattle.std.specs.Prelude.{ℤ, List}

-- A, A' and b
pub record Row : Type 0 where
  pub now : List ℤ
  pub next : List ℤ
  pub right : ℤ
