-- What a refusal by a condition means, for whoever made the argument: 53 at path j, say, is told exactly when both records are sound and of the
-- paths and values that the bytes hold every condition of the paths before j holds, 51 and 52 of path j hold, and some earlier component may
-- rise through it (`LexicographicFails` of crate `theory_paths`). And 7 and 8 are never told of a loop of several paths.
use mathlib.Core.Path.{◌≡◌, refl, sym, ap, ◌∙◌}
use mathlib.Core.Logic.{◌↔◌}
use mathlib.Core.Bool.{true}
use mathlib.Core.List.{List, []}
use Prim.Native.Nat.{ℕ, ◌≤◌, ◌<◌}
use native.Mathlib.Omega.{arith}
use lib.IntN.{ℤ}
use Rattle.refusal.proofs.TestLaws.{either, avoids, number_avoided}
use Rattle.record_paths.specs.PathCertificates.{sound_lexicographic}
use Rattle.record_paths.specs.PathFields.{bytes_alone, is_kind, holds_counts, is_long, fields_fit}
use Rattle.record_paths.specs.PathLoops.{sound_paths}
use Rattle.theory_paths.specs.PathConditions.{lexicographic_told}
use Rattle.theory_paths.specs.PathFails.{LexicographicFails}
use Rattle.theory_paths.proofs.PathDecisions.{lexicographic_decided, told_exactly_lexicographic}
use Rattle.verdict.specs.Stages.{said, refusal_of}
use Rattle.verdict.specs.declared.Verdict.{Verdict}
use Rattle.verdict.proofs.StageLaws.{by_told, verdict_number, stage_done, stage_refused, stage_passed, stage_tells, silent_said}
use Rattle.verdict.proofs.ToldExactly.{above, said_so, never_8}
use Rattle.verdict_paths.specs.JudgingByLoop.{of_paths, judged}
use Rattle.verdict_paths.specs.PathJudging.{PathPair, counts_of, path_judging, path_judges}
use Rattle.verdict_paths.proofs.PathDemands.{by_paths, by_rows, said_refused}
use Rattle.verdict_paths.proofs.PathsAccepted.{PairSound, paths_held, argument_held, conditions_silent}
use Rattle.verdict_paths.proofs.PathsAccepted.{paths_accepted_exactly_when, accepted_paths_show}

-- what a refusal by a condition says of the pair
pub record PathsFail (p : PathPair) (number place : ℕ) : Type 0 where
  pub both_sound : PairSound p
  pub fails : LexicographicFails (paths_held p) (argument_held p) number place

module _ (p : PathPair) where
  -- a refusal by a condition is answered
  fails_told : (number place : ℕ) → PathsFail p number place → path_judges p ≡ refusal_of 2 number place
  unfolding path_judges path_judging
  fails_told k j h =
      said_refused (said path_judging p) _ 2 k j
      (stage_done 1 _ _ p h.both_sound.loop_sound
      ∙ (stage_done 2 _ _ p h.both_sound.certificate_sound
      ∙ stage_refused 2 _ _ p k j ((told_exactly_lexicographic (paths_held p) (argument_held p) k j).1 h.fails)))

  -- and a number above 20 is told by nothing else
  told_fails : (number place : ℕ) → 20 < number → path_judges p ≡ refusal_of 2 number place → PathsFail p number place
  unfolding path_judges path_judging sound_paths sound_lexicographic is_kind holds_counts is_long fields_fit
  told_fails k j high h =
      let is_said = said_so (said path_judging p) _ 2 k j (omega arith) h in
      let at_loop = stage_passed 1 _ _ p 2 k j (above k sound_paths (bytes_alone p.loopbytes) high refl) is_said in
      let at_certificate
      = stage_passed 2 _ _ p 2 k j (above k (sound_lexicographic (counts_of p)) (bytes_alone p.certificate) high refl) at_loop.1 in
      let told = stage_tells 2 _ [] p 2 k j (silent_said k [] p (λ z. omega arith) tt) at_certificate.1 in
      record {
        both_sound = record { loop_sound = at_loop.0; certificate_sound = at_certificate.0 };
        fails = (told_exactly_lexicographic (paths_held p) (argument_held p) k j).0 told;
      }

  pub told_exactly_pairs : (number place : ℕ) → 20 < number → (path_judges p ≡ refusal_of 2 number place) ↔ PathsFail p number place
  told_exactly_pairs k j high = (told_fails k j high, fails_told k j)

  -- of sound records, whatever the number
  pub told_exactly_paths : PairSound p → (number place : ℕ)
      → (path_judges p ≡ refusal_of 2 number place) ↔ LexicographicFails (paths_held p) (argument_held p) number place
  told_exactly_paths both k j = (
    λ h.
        by_told (lexicographic_told (paths_held p) (argument_held p))
        (λ e.
        let holds = (lexicographic_decided (paths_held p) (argument_held p)).0 e in
        let accepted = accepted_paths_show p ((paths_accepted_exactly_when p).1 (record { both_sound = both; holds = holds })) in
        let z : ◌≡◌ {A = ℕ} 0 2 = ap (λ (a : Verdict). a.about) (sym accepted ∙ h) in
        absurd (omega arith))
        (λ n i e.
        let fails = (told_exactly_lexicographic (paths_held p) (argument_held p) n i).0 e in
        let same = sym (fails_told n i (record { both_sound = both; fails = fails })) ∙ h in
        let same_number : n ≡ k = ap (λ (a : Verdict). a.number) same in
        let same_place : i ≡ j = ap (λ (a : Verdict). a.place) same in
        rw (same_number, same_place) at fails),
    λ h. fails_told k j (record { both_sound = both; fails = h }),
  )

  -- ---- 7 and 8 are never told

  silent : (k : ℕ) → (0 ≡ k → ⊥) → k ≤ 50 → avoids k sound_paths ≡ true → avoids k (sound_lexicographic (counts_of p)) ≡ true
      → (path_judges p).number ≡ k → ⊥
  unfolding path_judges path_judging
  silent k some low no-path no-argument h =
      silent_said k path_judging p some (
        number_avoided k sound_paths (bytes_alone p.loopbytes) some no-path,
        λ loop_done. (
          number_avoided k (sound_lexicographic (counts_of p)) (bytes_alone p.certificate) some no-argument,
          λ certificate_done. (conditions_silent (paths_held p) (argument_held p) k some low, λ told_done. tt),
        ),
      )
      (verdict_number (said path_judging p) _ ∙ h)

  -- "no rank list is filled": 7 is never told
  pub never_7 : (path_judges p).number ≡ 7 → ⊥
  unfolding sound_paths sound_lexicographic is_kind holds_counts is_long fields_fit
  never_7 h = silent 7 (λ z. omega arith) (omega arith) refl refl h

  pub never_8_paths : (path_judges p).number ≡ 8 → ⊥
  unfolding sound_paths sound_lexicographic is_kind holds_counts is_long fields_fit
  never_8_paths h = silent 8 (λ z. omega arith) (omega arith) refl refl h

-- of the judge's answer
module _ (loopbytes certificate : List ℕ) (lent : List ℤ) where
  pub paths_never_7 : of_paths loopbytes ≡ true → (judged loopbytes certificate lent).number ≡ 7 → ⊥
  paths_never_7 e h = never_7 _ (rw (by_paths loopbytes certificate lent e).0 at h)

  pub judged_never_8 : (judged loopbytes certificate lent).number ≡ 8 → ⊥
  judged_never_8 h =
      either (of_paths loopbytes)
      (λ e. never_8_paths _ (rw (by_paths loopbytes certificate lent e).0 at h))
      (λ e. never_8 _ (rw (by_rows loopbytes certificate lent e).0 at h))
