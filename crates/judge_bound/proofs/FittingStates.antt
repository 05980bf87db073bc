-- A state that passes its tests: as long as the loop asks, and small.
use mathlib.Core.Path.{◌≡◌}
use Prim.Native.Nat.{ℕ}
use mathlib.Core.List.{List}
use native.Mathlib.Omega.{arith}
use lib.IntN.{ℤ}
use lib.ListN.{length}
use Rattle.whole.specs.Sums.{Within}
use Rattle.record_check.proofs.FrameWays.{right}
use Rattle.refusal.specs.Faults.{result_of}
use Rattle.refusal.specs.Tests.{first}
use Rattle.refusal.proofs.FaultLaws.{told_done}
use Rattle.verdict.specs.StateTests.{state_tests}
use Rattle.verdict.proofs.StatesInRange as InRange
use Rattle.verdict.proofs.SmallSums.{small_state}
use Rattle.judge_bound.specs.BoundShown.{StateFits}

module _ (n : ℕ) (state : List ℤ) where
  pub state_fits : right ≡ result_of (first state_tests (record { n = n; state = state })) tt → StateFits state n
  state_fits is = told_done (first state_tests (record { n = n; state = state })) tt tt is

  module _ (fits : StateFits state n) where
    state_in : InRange.StateIn (record { n = n; state = state })
    state_in = (InRange.state_fits (record { n = n; state = state })).0 fits

    pub state_long : length state ≡ n
    state_long = state_in.counted

    pub state_within : Within 1_000_000 state
    state_within = small_state state state_in.each

  -- small enough for the sums at it
  pub state_small : right ≡ result_of (first state_tests (record { n = n; state = state })) tt → Within 1048576 state
  state_small is i = omega (arith, state_within (state_fits is) i)
