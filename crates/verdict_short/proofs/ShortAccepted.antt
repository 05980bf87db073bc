-- `short_accepted_exactly_when`: a certificate of kind 7 is accepted, whatever the loop's bytes, if and only if the loop record is sound, the short
-- one is sound for its n and m, the rank list has room, and the four conditions of 01 hold of the multipliers that the triples stand for. The same
-- of bound, where there is a state and no rank list. And what is then answered. All of it is said of the public calls' answers. Assumes nothing.
use mathlib.Core.Path.{◌≡◌, refl, ◌∙◌}
use mathlib.Core.Logic.{◌↔◌}
use Prim.Native.Nat.{ℕ}
use mathlib.Core.Bool.{true}
use mathlib.Core.List.{List, ◌++◌}
use native.Mathlib.Omega.{arith}
use lib.IntN.{ℤ}
use lib.ListN.{drop}
use borrow.Author.Tests.{eqb-true}
use Rattle.endian.specs.Numbers.{little_at}
use Rattle.refusal.proofs.TestLaws.{either, zero_done}
use Rattle.record.specs.Readers.{sound}
use Rattle.record.specs.Wants.{wants_of}
use Rattle.record_paths.proofs.PathsSound.{lexicographic_sound}
use Rattle.record_short.proofs.ShortSound.{short_named}
use Rattle.theory.specs.Rankings.{rank, start, fall, bound}
use Rattle.verdict.specs.Bounding.{bound_of, certificates_bounded}
use Rattle.verdict.specs.Judging.{judge_of, certificates_judged}
use Rattle.verdict.specs.Pairs as Pairs
use Rattle.verdict.specs.Pairs.{loop_record}
use Rattle.verdict.specs.Stages.{Said, agreed, refusal, said, shows}
use Rattle.verdict.specs.declared.Outcome.TheVariants as Outcomes
use Rattle.verdict.proofs.Accepted.{ranking_answers}
use Rattle.verdict.proofs.BoundAnswers.{ranking_bound_is}
use Rattle.verdict.proofs.StageLaws.{number_said, Named, zero_agreed, said_agrees}
use Rattle.verdict_paths.specs.JudgingByLoop.{of_paths}
use Rattle.verdict_paths.specs.PathJudging.{PathPair}
use Rattle.verdict_paths.proofs.PathsAccepted.{paths_accepted_exactly_when}
use Rattle.verdict_short.specs.Answers.{answered, rank_answered, bounded_answered}
use Rattle.verdict_short.specs.ShortContents.{loop_of, ranking_of}
use Rattle.verdict_short.specs.ShortJudging.{ShortPair, variables_of, rows_for, short_records, short_judged, short_bounded, of_short, short_pair}
use Rattle.verdict_short.proofs.LongJudged.{ShortPairSound, ShortAccepted, ShortBounded, held, judged_as_sound, long_kind, long_exactly}
use Rattle.verdict_short.proofs.LongJudged.{long_kind_bound, long_exactly_bound}
use Rattle.verdict_short.proofs.ShortAsLong.{by_short}
use Rattle.verdict_short.proofs.ShortBridges.{short_when, answered_short, answered_of_paths, bounded_short}

-- ---- 0 is told of sound records alone

records_named : (p : ShortPair) → Named short_records p
unfolding short_records sound
records_named p = (zero_done sound (loop_record p.loopbytes) refl, (short_named (variables_of p) (rows_for p) p.certificate, tt))

zero_sound : (p : ShortPair) → number_said (said short_records p) ≡ 0 → ShortPairSound p
unfolding short_records
zero_sound p h =
    let done_each = said_agrees short_records p (zero_agreed short_records p (records_named p) h) in
    record { loop_sound = done_each.0; certificate_sound = done_each.1.0 }

-- a refusal of the records is told with its number
judged_zero : (s : Said) (p : ShortPair) (lent : List ℤ) → (short_judged s p lent).number ≡ 0 → number_said s ≡ 0
unfolding short_judged
judged_zero agreed p lent h = refl
judged_zero (refusal about k q) p lent h = h

bounded_zero : (s : Said) (p : ShortPair) (state : List ℤ) → (short_bounded s p state).verdict.number ≡ 0 → number_said s ≡ 0
unfolding short_bounded
bounded_zero agreed p state h = refl
bounded_zero (refusal about k q) p state h = h

-- a loop of several paths wants kind 6
paths_refuse : (loopbytes certificate : List ℕ) (lent : List ℤ) → of_paths loopbytes ≡ true → of_short certificate ≡ true
    → (answered loopbytes certificate lent).number ≡ 0 → ⊥
unfolding of_short
paths_refuse loopbytes certificate lent paths short h =
    let p : PathPair = record { loopbytes = loopbytes; certificate = certificate } in
    let a = (paths_accepted_exactly_when p).0 (rw (answered_of_paths loopbytes certificate lent paths).0 at h) in
    let six : little_at 2 certificate 4 ≡ 6 = (lexicographic_sound _ certificate a.both_sound.certificate_sound).numbered in
    let seven : little_at 2 certificate 4 ≡ 7 = eqb-true (little_at 2 certificate 4) 7 short in
    omega arith

-- what an accepted short ranking is answered with: -Yb, -Zb, and ZA' in front of the list
pub record ShortAnswers (loopbytes certificate : List ℕ) (lent : List ℤ) : Type 0 where
  pub verdict_is : (let l = loop_of (short_pair loopbytes certificate) in let c = ranking_of (short_pair loopbytes certificate) in
      answered loopbytes certificate lent ≡ shows (Outcomes.Ranking (start l c) (fall l c)))
  pub list_is : (let p = short_pair loopbytes certificate in
      rank_answered loopbytes certificate lent ≡ rank (loop_of p) (ranking_of p) ++ drop (variables_of p) lent)

module _ (loopbytes certificate : List ℕ) (short : of_short certificate ≡ true) where
  abbrev p : ShortPair
  p = short_pair loopbytes certificate

  -- ---- judging

  module _ (lent : List ℤ) where
    pub judged_zero_sound : (answered loopbytes certificate lent).number ≡ 0 → ShortPairSound p
    judged_zero_sound h =
        either (of_paths loopbytes)
        (λ paths. absurd (paths_refuse loopbytes certificate lent paths short h))
        (λ rows.
        let answer = (answered_short loopbytes certificate lent (short_when loopbytes certificate rows short)).0 in
        let by = (by_short loopbytes certificate short lent).0 in
        zero_sound p (judged_zero (said short_records p) p lent (rw (answer, by) at h)))

    pub short_accepted_exactly_when : ((answered loopbytes certificate lent).number ≡ 0) ↔ ShortAccepted p lent
    short_accepted_exactly_when = (
      λ h.
          let s = judged_zero_sound h in
          (long_exactly p s lent).0 (rw (judged_as_sound p s lent).0 at h),
      λ a.
          let s = a.both_sound in
          rw (judged_as_sound p s lent).0 ((long_exactly p s lent).1 a),
    )

    -- ---- what is answered

    pub short_answers : (answered loopbytes certificate lent).number ≡ 0 → ShortAnswers loopbytes certificate lent
    unfolding judge_of wants_of Pairs.variables_of variables_of loop_of ranking_of
    short_answers h =
        let s = judged_zero_sound h in
        let values = (held p s certificates_judged refl).values_are in
        let by = judged_as_sound p s lent in
        let a = ranking_answers _ lent (long_kind p s lent) (rw by.0 at h) in
        record { verdict_is = by.0 ∙ (rw values at a.verdict_is); list_is = by.1 ∙ (rw values at a.list_is) }

  -- ---- bound

  module _ (state : List ℤ) where
    pub bounded_zero_sound : (bounded_answered loopbytes certificate state).verdict.number ≡ 0 → ShortPairSound p
    bounded_zero_sound h =
        let answer = bounded_short loopbytes certificate state short in
        let by = (by_short loopbytes certificate short state).2 in
        zero_sound p (bounded_zero (said short_records p) p state (rw (answer, by) at h))

    pub short_bounded_exactly_when : ((bounded_answered loopbytes certificate state).verdict.number ≡ 0) ↔ ShortBounded p state
    short_bounded_exactly_when = (
      λ h.
          let s = bounded_zero_sound h in
          (long_exactly_bound p s state).0 (rw (judged_as_sound p s state).2 at h),
      λ a.
          let s = a.both_sound in
          rw (judged_as_sound p s state).2 ((long_exactly_bound p s state).1 a),
    )

    -- judging's outcome, and 01's formula at the state
    pub short_bound_is : (bounded_answered loopbytes certificate state).verdict.number ≡ 0
        → let l = loop_of p in let c = ranking_of p in
        bounded_answered loopbytes certificate state
        ≡ record { verdict = shows (Outcomes.Ranking (start l c) (fall l c)); bound = bound (rank l c) (start l c) (fall l c) state }
    unfolding bound_of wants_of loop_of ranking_of
    short_bound_is h =
        let s = bounded_zero_sound h in
        let values = (held p s certificates_bounded refl).values_are in
        let by = (judged_as_sound p s state).2 in
        let told = ranking_bound_is _ (long_kind_bound p s state) (rw by at h) in
        by ∙ (rw values at told)
