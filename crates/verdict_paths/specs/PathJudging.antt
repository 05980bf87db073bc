-- 02, Q-3: what judging answers of a loop of kind 5, on every pair of byte strings. "Kinds 5 and 6 are judged only together; no rank list
-- is filled, no step count given." So the order is the loop record, the certificate, the conditions; 7 is never told.
use Rattle.std.specs.Prelude.{List, [], ◌∷◌, ℕ}
use Rattle.refusal.specs.Tests.{first}
use Rattle.record_paths.specs.PathFields.{bytes_alone}
use Rattle.record_paths.specs.PathLoops.{sound_paths}
use Rattle.record_paths.specs.PathCertificates.{Counted, counted, sound_lexicographic}
use Rattle.theory_paths.specs.PathConditions.{lexicographic_told}
use Rattle.verdict.specs.Stages.{Stage, ◌says◌, said, verdict_of}
use Rattle.verdict.specs.declared.Outcome.TheVariants.{Lexicographic}
use Rattle.verdict.specs.declared.Verdict.{Verdict}
use Rattle.verdict_paths.specs.PathContents.{branches_in, lexicographic_in}

-- the bytes of the two records
pub record PathPair : Type 0 where
  pub loopbytes : List ℕ
  pub certificate : List ℕ

-- what the loop counts, with which the certificate is read
abbrev pub counts_of : PathPair → Counted
counts_of p = counted p.loopbytes

unfoldable pub path_judging : List (Stage PathPair)
path_judging =
    (1 says λ p. first sound_paths (bytes_alone p.loopbytes))
    ∷ (2 says λ p. first (sound_lexicographic (counts_of p)) (bytes_alone p.certificate))
    ∷ (2 says λ p. lexicographic_told (branches_in p.loopbytes) (lexicographic_in (counts_of p) p.certificate))
    ∷ []

unfoldable pub path_judges : PathPair → Verdict
path_judges p = verdict_of (said path_judging p) Lexicographic
