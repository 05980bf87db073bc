-- The ways through the judge, one for each return: what the checks and the conditions tell of a loop of several paths, and which judge answers by the records'
-- kinds, records that are too short for a kind included.
use mathlib.Core.Path.{◌≡◌, refl, sym, ◌∙◌}
use Prim.Native.Nat.{ℕ}
use mathlib.Core.List.{List}
use Rattle.refusal.specs.Faults.{result_of}
use Rattle.refusal.specs.Tests.{Told, done, first}
use Rattle.refusal.specs.declared.Fault.{Fault}
use Rattle.refusal.proofs.FaultLaws.{told_refused, told_done}
use Rattle.record_check.proofs.FrameWays.{stopped, right}
use Rattle.record_paths.specs.PathCertificates.{sound_lexicographic, counted}
use Rattle.record_paths.specs.PathFields.{bytes_alone}
use Rattle.record_paths.specs.PathLoops.{sound_paths}
use Rattle.theory_paths.specs.PathConditions.{lexicographic_told}
use Rattle.verdict.specs.Stages.{verdict_of, shows, refusal_of}
use Rattle.verdict.specs.declared.Outcome.TheVariants.{Lexicographic}
use Rattle.verdict.proofs.StageLaws.{stage_done, stage_refused, agrees_said}
use Rattle.verdict_paths.specs.PathContents.{branches_in, lexicographic_in}
use Rattle.verdict_paths.specs.PathJudging.{PathPair, path_judging, path_judges}
use Rattle.verdict_paths.proofs.PathDemands.{said_refused}

-- ---- a loop of several paths

module _ (loopbytes certificate : List ℕ) where
  abbrev p : PathPair
  p = record { loopbytes = loopbytes; certificate = certificate }

  pub loop_refused : (f : Fault) → stopped f ≡ result_of (first sound_paths (bytes_alone loopbytes)) tt → refusal_of 1 f.number f.place ≡ path_judges p
  unfolding path_judges path_judging
  loop_refused f is = sym (said_refused _ _ 1 _ _ (stage_refused 1 _ _ p _ _ (told_refused (first sound_paths (bytes_alone loopbytes)) tt f is)))

  pub loop_sound : right ≡ result_of (first sound_paths (bytes_alone loopbytes)) tt → first sound_paths (bytes_alone loopbytes) ≡ done
  loop_sound is = told_done (first sound_paths (bytes_alone loopbytes)) tt tt is

  abbrev sound-certificate : Told
  sound-certificate = first (sound_lexicographic (counted loopbytes)) (bytes_alone certificate)

  abbrev conditions : Told
  conditions = lexicographic_told (branches_in loopbytes) (lexicographic_in (counted loopbytes) certificate)

  module _ (l : first sound_paths (bytes_alone loopbytes) ≡ done) where
    pub certificate_refused : (f : Fault) → stopped f ≡ result_of sound-certificate tt → refusal_of 2 f.number f.place ≡ path_judges p
    unfolding path_judges path_judging
    certificate_refused f is = sym (said_refused _ _ 2 _ _ (stage_done 1 _ _ p l ∙ stage_refused 2 _ _ p _ _ (told_refused sound-certificate tt f is)))

    pub certificate_sound : right ≡ result_of sound-certificate tt → sound-certificate ≡ done
    certificate_sound is = told_done sound-certificate tt tt is

    module _ (c : sound-certificate ≡ done) where
      pub condition_refused : (f : Fault) → stopped f ≡ result_of conditions tt → refusal_of 2 f.number f.place ≡ path_judges p
      unfolding path_judges path_judging
      condition_refused f is =
          sym (said_refused _ _ 2 _ _ (stage_done 1 _ _ p l ∙ stage_done 2 _ _ p c ∙ stage_refused 2 _ _ p _ _ (told_refused conditions tt f is)))

      pub all_hold : right ≡ result_of conditions tt → shows Lexicographic ≡ path_judges p
      unfolding path_judges path_judging verdict_of
      all_hold is = rw (agrees_said path_judging p (l, (c, (told_done conditions tt tt is, tt)))) refl
