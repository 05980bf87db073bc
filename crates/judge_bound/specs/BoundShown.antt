-- What the bound's functions are told of the state, and the shape of a refusal.
use Rattle.std.specs.Prelude.{ℕ, ◌<◌, ◌≡◌, Bool, List, ℤ, pos, nat_abs, ◌+ℤ◌, ◌-ℤ◌, ◌<ℤ◌, length, take}
use Rattle.std.specs.Int.Signed.{le_z}
use Rattle.whole.specs.Sums.{dot, Within}
use Rattle.refusal.specs.Tests.{done, first}
use Rattle.theory.specs.Lassos.{Lasso}
use Rattle.verdict.specs.StateTests.{state_tests}
use Rattle.verdict.specs.Stages.{refusal_of}
use Rattle.verdict.specs.declared.Bounded.{Bounded}

-- a state that passes its tests: n entries, all in range
abbrev pub StateFits : List ℤ → ℕ → Type 0
StateFits state n = first state_tests (record { n = n; state = state }) ≡ done

-- a refusal has no bound
abbrev pub no_bound : ℕ → ℕ → ℕ → Bounded
no_bound about number place = record { verdict = refusal_of about number place; bound = 0 }

-- what a bound at a state needs of a rank, its start and its fall, so that every number fits
pub record BoundFits (entries : List ℤ) (start fall : ℤ) (state : List ℤ) : Type 0 where
  pub long : length entries ≡ 16
  pub entries_small : Within 274877906944 (take (length state) entries)
  pub above_fits : nat_abs (dot (take (length state) entries) state -ℤ start) < 9223372036854775808
  pub falls : pos 0 <ℤ fall

-- a lasso's invariant at a state, s·x + s0 >= 0
unfoldable pub invariant_held : Lasso → List ℤ → Bool
invariant_held lasso state = le_z (pos 0) (dot lasso.s state +ℤ lasso.s0)
