-- In values: for every loop of several paths and every argument for it within the limits, stated part by part (`BranchesIn`, `ArgumentIn`), judging
-- the bytes made of them gives 0 if and only if the conditions of 02, Q-3, hold of those values, and tells a condition's number and a path if and
-- only if that condition is the first to fail, there. So every proposal in range that meets the conditions is accepted.
use mathlib.Core.Path.{◌≡◌, sym, ◌∙◌}
use mathlib.Core.Logic.{◌↔◌}
use mathlib.Core.Bool.{true}
use mathlib.Core.List.{List}
use Prim.Native.Nat.{ℕ}
use lib.IntN.{ℤ}
use borrow.Author.Tests.{eq-eqb}
use Rattle.record_paths.specs.PathCertificates.{counted}
use Rattle.record_paths.proofs.PathsSound.{paths_sound}
use Rattle.theory_paths.specs.Lexicographics.{Lexicographic, LexicographicHolds}
use Rattle.theory_paths.specs.PathFails.{LexicographicFails}
use Rattle.theory_paths.specs.Paths.{Branches}
use Rattle.verdict.specs.Stages.{shows, refusal_of}
use Rattle.verdict.specs.declared.Outcome.TheVariants as Outcomes
use Rattle.verdict_paths.specs.JudgingByLoop.{of_paths, judged}
use Rattle.verdict_paths.specs.PathJudging.{PathPair}
use Rattle.verdict_paths.specs.PathValues.{BranchesIn, ArgumentIn, branches_bytes, argument_bytes}
use Rattle.verdict_paths.proofs.ArgumentsReadBack.{argument_read_back, argument_sound}
use Rattle.verdict_paths.proofs.PathDemands.{by_paths}
use Rattle.verdict_paths.proofs.PathsAccepted.{PairSound, paths_held, argument_held, paths_accepted_exactly_when, accepted_paths_show}
use Rattle.verdict_paths.proofs.PathsReadBack.{n_read, paths_read, m_read, branches_read_back, branches_sound}
use Rattle.verdict_paths.proofs.PathsToldExactly.{told_exactly_paths}

module _ (loop : Branches) (a : Lexicographic) (h : BranchesIn loop) (g : ArgumentIn loop a) where
  -- the two records
  abbrev made : PathPair
  made = record { loopbytes = branches_bytes loop; certificate = argument_bytes loop a }

  -- they hold the loop and the argument
  pub loop_held : paths_held made ≡ loop
  loop_held = branches_read_back loop h

  pub argument_is_held : argument_held made ≡ a
  unfolding counted
  argument_is_held = argument_read_back loop a h g (counted (branches_bytes loop)) (n_read loop h) (paths_read loop h) (m_read loop h)

  -- and are sound
  pub made_sound : PairSound made
  unfolding counted
  made_sound =
      record {
        loop_sound = branches_sound loop h;
        certificate_sound = argument_sound loop a h g (counted (branches_bytes loop)) (n_read loop h) (paths_read loop h) (m_read loop h);
      }

  made_of_paths : of_paths (branches_bytes loop) ≡ true
  unfolding of_paths
  made_of_paths = eq-eqb _ _ (paths_sound (branches_bytes loop) (branches_sound loop h)).numbered

  module _ (lent : List ℤ) where
    -- accepted exactly when the conditions hold
    pub paths_in_values : ((judged (branches_bytes loop) (argument_bytes loop a) lent).number ≡ 0) ↔ LexicographicHolds loop a
    paths_in_values =
        let exactly = paths_accepted_exactly_when made in
        let answer = (by_paths (branches_bytes loop) (argument_bytes loop a) lent made_of_paths).0 in (
          λ x. rw (loop_held, argument_is_held) at (exactly.0 (rw answer at x)).holds,
          λ x. rw answer (exactly.1 (record { both_sound = made_sound; holds = rw (loop_held, argument_is_held) x })),
        )

    -- "all proposals that meet the conditions are accepted", with this answer
    pub proposal_accepted : LexicographicHolds loop a → judged (branches_bytes loop) (argument_bytes loop a) lent ≡ shows Outcomes.Lexicographic
    proposal_accepted holds =
        let answer = (by_paths (branches_bytes loop) (argument_bytes loop a) lent made_of_paths).0 in
        answer ∙ accepted_paths_show made (rw answer at (paths_in_values.1 holds))

    -- and a refusal says which condition fails first
    pub paths_told_in_values : (number place : ℕ)
        → (judged (branches_bytes loop) (argument_bytes loop a) lent ≡ refusal_of 2 number place) ↔ LexicographicFails loop a number place
    paths_told_in_values k j =
        let exactly = told_exactly_paths made made_sound k j in
        let answer = (by_paths (branches_bytes loop) (argument_bytes loop a) lent made_of_paths).0 in (
          λ x. rw (loop_held, argument_is_held) at (exactly.0 (sym answer ∙ x)),
          λ x. answer ∙ exactly.1 (rw (loop_held, argument_is_held) x),
        )
