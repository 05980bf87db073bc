-- 01, "Numbers of the verdict": what the bound call answers, on every pair of byte strings and every state. "Bound: loop,
-- certificate (kind 3 gives 4), 10, 9, 8, 11" is the list `bounding`; by 02, Q-1, the conditions' own numbers take the place of 8.
use Rattle.std.specs.Prelude.{ℕ, Bool, true, false, List, [], ◌∷◌, ℤ}
use Rattle.record.specs.Layouts.{Kind}
use Rattle.record.specs.Readers.{sound}
use Rattle.record.specs.Wants.{wants_of}
use Rattle.refusal.specs.Tests.{Test, ◌at◌unless◌, first}
use Rattle.verdict.specs.Pairs.{Pair, pair_of, pair_kind, variables_of, claim, conditions, outcome_of}
use Rattle.verdict.specs.StateTests.{GivenState, state_tests}
use Rattle.verdict.specs.Stages.{Said, agreed, refusal, Stage, ◌says◌, said, verdict_of}
use Rattle.verdict.specs.declared.Bounded.{Bounded}
use Rattle.verdict.specs.declared.Outcome.{Outcome}

-- a bound is by certificates of kinds 2 and 4: "kind 3 gives 4"
abbrev pub certificates_bounded : Kind → Bool
certificates_bounded = wants_of (record { ranking = true; exclusion = false; lasso = true })

-- what comes to a bound call: the records and a state
pub record Bounding : Type 0 where
  pub records : Pair
  pub state : List ℤ

-- the state, for the loop's n
abbrev pub given_state : Bounding → GivenState
given_state b = record { n = variables_of b.records; state = b.state }

-- a lasso's state is outside the invariant
unfoldable pub invariant : List (Test Bounding)
invariant = (11 at (λ b. 0) unless λ b. (claim (pair_kind b.records) b.records).speaks_of b.state) ∷ []

unfoldable pub bounding : List (Stage Bounding)
bounding =
    (1 says λ b. first sound b.records.loop_is)
    ∷ (2 says λ b. first sound b.records.certificate_is)
    ∷ (0 says λ b. first state_tests (given_state b))
    ∷ (2 says λ b. conditions b.records)
    ∷ (2 says λ b. first invariant b)
    ∷ []

unfoldable pub bounded : Said → Outcome → ℕ → Bounded
bounded agreed outcome bound = record { verdict = verdict_of agreed outcome; bound = bound }
bounded (refusal about number place) outcome bound = record { verdict = verdict_of (refusal about number place) outcome; bound = 0 }

-- an accepted bound call has judging's outcome beside the bound
unfoldable pub bounds : Bounding → Bounded
bounds b =
    bounded (said bounding b) (outcome_of (pair_kind b.records) b.records)
    ((claim (pair_kind b.records) b.records).bound b.state)

-- bound on bytes
unfoldable pub bound_of : List ℕ → List ℕ → List ℤ → Bounding
bound_of l c state = record { records = pair_of certificates_bounded l c; state = state }
