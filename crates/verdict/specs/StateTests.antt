-- 01, "Numbers of the verdict": what a state is tested for, 10 and then 9, in every call that takes one.
use Rattle.std.specs.Prelude.{ℕ, suc, true, false, List, [], ◌∷◌, eqb, ℤ, length}
use Rattle.record.specs.Ranges.{state_entries, within}
use Rattle.refusal.specs.Tests.{Test, ◌at◌unless◌}

-- a state that comes for a loop of n variables
pub record GivenState : Type 0 where
  pub n : ℕ
  pub state : List ℤ

-- how many entries stand before the first that is out of range
unfoldable pub before_outside : List ℤ → ℕ
before_outside [] = 0
before_outside (x ∷ xs) = elim (within state_entries x) [ true ↦ suc (before_outside xs) | false ↦ 0 ]

unfoldable pub state_tests : List (Test GivenState)
state_tests =
    (10 at (λ g. length g.state) unless λ g. eqb (length g.state) g.n)
    ∷ (9 at (λ g. before_outside g.state) unless λ g. eqb (before_outside g.state) (length g.state))
    ∷ []
