-- `paths_accepted_exactly_when`: a loop of several paths is accepted if and only if both records are sound and the conditions of 02, Q-3, hold
-- of the paths and the argument that the bytes hold. An accepted one shows a lexicographic argument, a refused one nothing. Assumes nothing.
use mathlib.Core.Path.{◌≡◌, refl, sym, ap, ◌∙◌}
use mathlib.Core.Logic.{◌↔◌}
use Prim.Native.Nat.{ℕ, ◌≤◌, ◌<◌}
use mathlib.Core.List.{[]}
use native.Mathlib.Omega.{arith}
use lib.ListN.{length}
use Rattle.refusal.specs.Tests.{done, first, number}
use Rattle.refusal.proofs.TestLaws.{zero_done}
use Rattle.record_paths.specs.PathFields.{bytes_alone, is_kind, holds_counts, is_long, fields_fit}
use Rattle.record_paths.specs.PathLoops.{sound_paths}
use Rattle.record_paths.specs.PathCertificates.{sound_lexicographic}
use Rattle.theory_paths.specs.Lexicographics.{Lexicographic, LexicographicHolds}
use Rattle.theory_paths.specs.PathConditions.{lexicographic_told}
use Rattle.theory_paths.specs.PathFails.{LexicographicFails, fails_51, fails_52, fails_53}
use Rattle.theory_paths.specs.Paths.{Branches}
use Rattle.theory_paths.proofs.PathDecisions.{lexicographic_decided, told_exactly_lexicographic}
use Rattle.verdict.specs.Stages.{said, shows, verdict_of}
use Rattle.verdict.specs.declared.Outcome.TheVariants as Outcomes
use Rattle.verdict.proofs.RefusedCalls.{refused_said}
use Rattle.verdict.proofs.StageLaws.{by_told, Agrees, agrees_said, said_agrees, number_said, verdict_number, Named, zero_agreed}
use Rattle.verdict_paths.specs.PathContents.{branches_in, lexicographic_in}
use Rattle.verdict_paths.specs.PathJudging.{PathPair, counts_of, path_judging, path_judges}

-- both records of a pair are sound
pub record PairSound (p : PathPair) : Type 0 where
  pub loop_sound : first sound_paths (bytes_alone p.loopbytes) ≡ done
  pub certificate_sound : first (sound_lexicographic (counts_of p)) (bytes_alone p.certificate) ≡ done

-- the loop and the argument that they hold
abbrev pub paths_held : PathPair → Branches
paths_held p = branches_in p.loopbytes

abbrev pub argument_held : PathPair → Lexicographic
argument_held p = lexicographic_in (counts_of p) p.certificate

-- what an accepted pair is
pub record LexicographicAccepted (p : PathPair) : Type 0 where
  pub both_sound : PairSound p
  pub holds : LexicographicHolds (paths_held p) (argument_held p)

-- ---- the conditions tell 51 to 53, at a path

pub numbered_51_to_53 : (loop : Branches) (c : Lexicographic) (k j : ℕ) → LexicographicFails loop c k j
    → (51 ≤ k) × (k ≤ 53) × (j < length loop.paths)
numbered_51_to_53 loop c k j (fails_51 r f) = (omega arith, omega arith, r.below)
numbered_51_to_53 loop c k j (fails_52 r h f) = (omega arith, omega arith, r.below)
numbered_51_to_53 loop c k j (fails_53 r h l f) = (omega arith, omega arith, r.below)

module _ (loop : Branches) (c : Lexicographic) where
  conditions_named : number (lexicographic_told loop c) ≡ 0 → lexicographic_told loop c ≡ done
  unfolding number
  conditions_named h =
      by_told (lexicographic_told loop c) (λ e. e)
      (λ k j e.
      let zero_told : k ≡ 0 = sym (ap number e) ∙ h in
      absurd (omega (arith, (numbered_51_to_53 loop c k j ((told_exactly_lexicographic loop c k j).0 e)).0)))

  pub conditions_silent : (k : ℕ) → (0 ≡ k → ⊥) → k ≤ 50 → number (lexicographic_told loop c) ≡ k → ⊥
  unfolding number
  conditions_silent k some low h =
      by_told (lexicographic_told loop c) (λ e. some (sym (ap number e) ∙ h))
      (λ n j e.
      let same : n ≡ k = sym (ap number e) ∙ h in
      omega (arith, (numbered_51_to_53 loop c n j ((told_exactly_lexicographic loop c n j).0 e)).0))

-- ---- judging

paths_named : (p : PathPair) → Named path_judging p
unfolding path_judging sound_paths sound_lexicographic is_kind holds_counts is_long fields_fit
paths_named p = (
  zero_done sound_paths (bytes_alone p.loopbytes) refl,
  (
    zero_done (sound_lexicographic (counts_of p)) (bytes_alone p.certificate) refl,
    (conditions_named (paths_held p) (argument_held p), tt),
  ),
)

-- 0 is told exactly when every stage is done
pub paths_agree : (p : PathPair) → ((path_judges p).number ≡ 0) ↔ Agrees path_judging p
unfolding path_judges
paths_agree p = (
  λ h. said_agrees path_judging p (zero_agreed path_judging p (paths_named p) (verdict_number (said path_judging p) _ ∙ h)),
  λ h. sym (verdict_number (said path_judging p) _) ∙ ap number_said (agrees_said path_judging p h),
)

pub paths_accepted_exactly_when : (p : PathPair) → ((path_judges p).number ≡ 0) ↔ LexicographicAccepted p
unfolding path_judging
paths_accepted_exactly_when p =
    let conditions_hold = lexicographic_decided (paths_held p) (argument_held p) in (
      λ h.
          let a = (paths_agree p).0 h in
          record { both_sound = record { loop_sound = a.0; certificate_sound = a.1.0 }; holds = conditions_hold.0 a.1.1.0 },
      λ h. (paths_agree p).1 (h.both_sound.loop_sound, (h.both_sound.certificate_sound, (conditions_hold.1 h.holds, tt))),
    )

-- ---- what is answered

pub accepted_paths_show : (p : PathPair) → (path_judges p).number ≡ 0 → path_judges p ≡ shows Outcomes.Lexicographic
unfolding path_judges verdict_of
accepted_paths_show p h = rw (agrees_said path_judging p ((paths_agree p).0 h))

pub refused_paths_show_nothing : (p : PathPair) → ((path_judges p).number ≡ 0 → ⊥) → (path_judges p).outcome ≡ Outcomes.Nothing
unfolding path_judges
refused_paths_show_nothing p told = (refused_said (said path_judging p) _ [] [] told).0
