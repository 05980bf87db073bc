-- 01, "Numbers of the verdict": a refused call tells a number and a place, and each call has its tests in an order.
-- A call's order is a list of tests, read from the top; the first that fails is told. A test is the number it tells, the
-- place it tells, and what has to hold; the last two are functions of what came in, so a list of tests is a constant that
-- can be read line by line beside the paper.
use Rattle.std.specs.Prelude.{ℕ, Bool, true, false, List, [], ◌∷◌}

-- what a call tells: that it is done, or a refusal's number and place
pub data Told : Type 0 where
  done : Told
  refused : ℕ → ℕ → Told

-- "number at place unless what holds"
pub data Test (I : Type 0) : Type 0 where
  ◌at◌unless◌ : ℕ → (I → ℕ) → (I → Bool) → Test I

infix 3 ◌at◌unless◌
-- the first test that fails is told
unfoldable pub first : {I : Type 0} → List (Test I) → I → Told
first [] i = done
first ((number at place unless holds) ∷ tests) i = elim (holds i) [ true ↦ first tests i | false ↦ refused number (place i) ]

-- what an order in two parts tells: the second speaks where the first is done
infixr 2 ◌then◌
unfoldable pub ◌then◌ : Told → Told → Told
done then told = told
refused k p then told = refused k p

-- the number of what is told: 0 is done
unfoldable pub number : Told → ℕ
number done = 0
number (refused k p) = k

-- its place: 0 where it is done
unfoldable pub place : Told → ℕ
place done = 0
place (refused k p) = p
