-- Where a condition that is asked at each of some places fails first, if it does: what a loop remembers that goes along all of them.
use Rattle.std.specs.Prelude.{ℕ, Bool, Option, Some, None, cond, eqb}
use Rattle.refusal.specs.Places.{before_failing}

-- the first of n places
unfoldable pub first_failing : ℕ → (ℕ → Bool) → Option ℕ
first_failing n holds = cond (eqb (before_failing n holds) n) None (Some (before_failing n holds))
