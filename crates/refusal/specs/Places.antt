-- A condition that is asked at each of n places, a column or a row: where it fails first.
use Rattle.std.specs.Prelude.{ℕ, zero, suc, ◌<◌, Bool, true, false, cond, eqb}
use Rattle.refusal.specs.Tests.{Told, done, refused}

-- P at every place below n
abbrev pub Throughout : ℕ → (ℕ → Type 0) → Type 0
Throughout n P = (j : ℕ) → j < n → P j

-- j is the first of n places at which P fails
pub record FirstFailing (n : ℕ) (P : ℕ → Type 0) (j : ℕ) : Type 0 where
  pub below : j < n
  pub fails : P j → ⊥
  pub before : Throughout j P

-- how many places come before it: all n where P holds at each of them
unfoldable pub before_failing : ℕ → (ℕ → Bool) → ℕ
before_failing zero holds = 0
before_failing (suc n) holds = elim (holds 0) [ true ↦ suc (before_failing n (λ j. holds (suc j))) | false ↦ 0 ]

-- what is told of n places: a number, at the first that fails
unfoldable pub told_each : ℕ → ℕ → (ℕ → Bool) → Told
told_each number n holds = cond (eqb (before_failing n holds) n) done (refused number (before_failing n holds))

-- what is told of a condition that is asked once
unfoldable pub told_once : ℕ → Bool → Told
told_once number holds = cond holds done (refused number 0)
