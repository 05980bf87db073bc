-- What a refusal by a condition means, for whoever made the short ranking: 22 at column j, say, is told exactly when both records are sound, the rank
-- list has room, and of the rows and the multipliers that the triples stand for YA' = 0, and (Y - Z)A is not 0 in column j and is 0 before it
-- (`RankingFails` of crate `theory`). The same of bound. Assumes nothing.
use mathlib.Core.Path.{◌≡◌, refl, sym, ap, ◌∙◌}
use mathlib.Core.Logic.{◌↔◌}
use Prim.Native.Nat.{ℕ, ◌≤◌, ◌<◌}
use mathlib.Core.Bool.{true, false}
use mathlib.Core.List.{List}
use native.Mathlib.Omega.{arith}
use lib.IntN.{ℤ}
use lib.ListN.{length}
use borrow.Author.Tests.{eqb-true}
use Rattle.endian.specs.Numbers.{little_at}
use Rattle.refusal.proofs.TestLaws.{either}
use Rattle.record.specs.Layouts.{has_rank}
use Rattle.record.specs.Readers.{sound}
use Rattle.record.specs.Wants.{wants_of}
use Rattle.record_paths.specs.PathFields.{bytes_alone, is_kind, holds_counts, is_long, fields_fit}
use Rattle.record_paths.proofs.PathsSound.{lexicographic_sound}
use Rattle.record_short.specs.ShortRecords.{sound_short}
use Rattle.theory.specs.Fails.{RankingFails}
use Rattle.verdict.specs.Bounding.{bound_of, certificates_bounded}
use Rattle.verdict.specs.Judging.{judge_of, certificates_judged}
use Rattle.verdict.specs.Pairs as Pairs
use Rattle.verdict.specs.Pairs.{loop_record}
use Rattle.verdict.specs.Stages.{Said, agreed, refusal, said, refusal_of}
use Rattle.verdict.specs.declared.Bounded.{Bounded}
use Rattle.verdict.specs.declared.Verdict.{Verdict}
use Rattle.verdict.proofs.StageLaws.{number_said, said_agrees, silent_said}
use Rattle.verdict.proofs.StatesInRange.{StateIn}
use Rattle.verdict.proofs.ToldExactly.{above, told_exactly_judging, told_exactly_bounding}
use Rattle.verdict_paths.specs.JudgingByLoop.{of_paths}
use Rattle.verdict_paths.specs.PathJudging.{PathPair}
use Rattle.verdict_paths.proofs.PathsToldExactly.{told_exactly_pairs}
use Rattle.verdict_short.specs.Answers.{answered, bounded_answered}
use Rattle.verdict_short.specs.ShortContents.{loop_of, ranking_of}
use Rattle.verdict_short.specs.ShortJudging.{ShortPair, variables_of, rows_for, short_records, short_judged, short_bounded}
use Rattle.verdict_short.specs.ShortJudging.{of_short, short_pair}
use Rattle.verdict_short.proofs.LongJudged.{ShortPairSound, state_given, held, judged_as_sound, long_kind, long_both, long_kind_bound, long_both_bound}
use Rattle.verdict_short.proofs.ShortAsLong.{by_short}
use Rattle.verdict_short.proofs.ShortBridges.{short_when, answered_short, answered_of_paths, bounded_short}

-- what a refusal by a condition says of a judging, and of a bound call
pub record ShortFails (p : ShortPair) (lent : List ℤ) (number place : ℕ) : Type 0 where
  pub both_sound : ShortPairSound p
  pub room : variables_of p ≤ length lent
  pub fails : RankingFails (loop_of p) (ranking_of p) number place

pub record ShortFailsBound (p : ShortPair) (state : List ℤ) (number place : ℕ) : Type 0 where
  pub both_sound : ShortPairSound p
  pub state_in : StateIn (state_given p state)
  pub fails : RankingFails (loop_of p) (ranking_of p) number place

-- ---- a number that no test of the records tells is the record's that it stands for

pub agreed_so : (s : Said) (p : ShortPair) (lent : List ℤ) (k : ℕ) → (number_said s ≡ k → ⊥) → (short_judged s p lent).number ≡ k → s ≡ agreed
unfolding short_judged
agreed_so agreed p lent k none h = refl
agreed_so (refusal about n q) p lent k none h = absurd (none h)

pub agreed_so_bound : (s : Said) (p : ShortPair) (state : List ℤ) (k : ℕ) → (number_said s ≡ k → ⊥)
    → (short_bounded s p state).verdict.number ≡ k → s ≡ agreed
unfolding short_bounded
agreed_so_bound agreed p state k none h = refl
agreed_so_bound (refusal about n q) p state k none h = absurd (none h)

agreed_sound : (p : ShortPair) → said short_records p ≡ agreed → ShortPairSound p
unfolding short_records
agreed_sound p h = let each = said_agrees short_records p h in record { loop_sound = each.0; certificate_sound = each.1.0 }

module _ (p : ShortPair) where
  records_low : (k : ℕ) → 20 < k → number_said (said short_records p) ≡ k → ⊥
  unfolding short_records sound sound_short is_kind holds_counts is_long fields_fit
  records_low k high =
      silent_said k short_records p (λ z. omega arith) (
        above k sound (loop_record p.loopbytes) high refl,
        λ loop_done. (above k (sound_short (variables_of p) (rows_for p)) (bytes_alone p.certificate) high refl, λ done_too. tt),
      )

-- a loop of several paths tells no condition of a certificate of kind 7
paths_tell_none : (loopbytes certificate : List ℕ) (lent : List ℤ) → of_paths loopbytes ≡ true → of_short certificate ≡ true
    → (k q : ℕ) → 20 < k → answered loopbytes certificate lent ≡ refusal_of 2 k q → ⊥
unfolding of_short
paths_tell_none loopbytes certificate lent paths short k q high h =
    let p : PathPair = record { loopbytes = loopbytes; certificate = certificate } in
    let told = (told_exactly_pairs p k q high).0 (sym (answered_of_paths loopbytes certificate lent paths).0 ∙ h) in
    let six : little_at 2 certificate 4 ≡ 6 = (lexicographic_sound _ certificate told.both_sound.certificate_sound).numbered in
    let seven : little_at 2 certificate 4 ≡ 7 = eqb-true (little_at 2 certificate 4) 7 short in
    omega arith

module _ (loopbytes certificate : List ℕ) (short : of_short certificate ≡ true) where
  abbrev p : ShortPair
  p = short_pair loopbytes certificate

  -- ---- judging

  module _ (lent : List ℤ) where
    pub as_short : of_paths loopbytes ≡ false → answered loopbytes certificate lent ≡ short_judged (said short_records p) p lent
    as_short rows =
        (answered_short loopbytes certificate lent (short_when loopbytes certificate rows short)).0 ∙ (by_short loopbytes certificate short lent).0

    told_sound : (k q : ℕ) → 20 < k → answered loopbytes certificate lent ≡ refusal_of 2 k q → ShortPairSound p
    told_sound k q high h =
        either (of_paths loopbytes)
        (λ paths. absurd (paths_tell_none loopbytes certificate lent paths short k q high h))
        (λ rows.
        let number_is = ap (λ (v : Verdict). v.number) (sym (as_short rows) ∙ h) in
        agreed_sound p (agreed_so (said short_records p) p lent k (records_low p k high) number_is))

    pub told_exactly_short : (number place : ℕ) → 20 < number
        → (answered loopbytes certificate lent ≡ refusal_of 2 number place) ↔ ShortFails p lent number place
    unfolding judge_of wants_of has_rank Pairs.variables_of variables_of loop_of ranking_of
    told_exactly_short k q high = (
      λ h.
          let s = told_sound k q high h in
          let values = (held p s certificates_judged refl).values_are in
          let x = (told_exactly_judging _ k q high).0 (sym (judged_as_sound p s lent).0 ∙ h) in
          record { both_sound = s; room = x.room (rw (long_kind p s lent)); fails = rw values at (rw (long_kind p s lent) at x.fails) },
      λ x.
          let s = x.both_sound in
          let values = (held p s certificates_judged refl).values_are in
          (judged_as_sound p s lent).0
          ∙ (told_exactly_judging _ k q high).1
          (record { both_sound = long_both p s lent; room = λ e. x.room; fails = rw (long_kind p s lent) (rw values x.fails) }),
    )

  -- ---- bound

  module _ (state : List ℤ) where
    pub as_short_bound : bounded_answered loopbytes certificate state ≡ short_bounded (said short_records p) p state
    as_short_bound = bounded_short loopbytes certificate state short ∙ (by_short loopbytes certificate short state).2

    told_sound_bound : (k q : ℕ) → 20 < k → bounded_answered loopbytes certificate state ≡ record { verdict = refusal_of 2 k q; bound = 0 } → ShortPairSound p
    told_sound_bound k q high h =
        let number_is = ap (λ (b : Bounded). b.verdict.number) (sym as_short_bound ∙ h) in
        agreed_sound p (agreed_so_bound (said short_records p) p state k (records_low p k high) number_is)

    pub told_exactly_short_bound : (number place : ℕ) → 20 < number
        → (bounded_answered loopbytes certificate state ≡ record { verdict = refusal_of 2 number place; bound = 0 })
        ↔ ShortFailsBound p state number place
    unfolding bound_of wants_of Pairs.variables_of variables_of loop_of ranking_of
    told_exactly_short_bound k q high = (
      λ h.
          let s = told_sound_bound k q high h in
          let values = (held p s certificates_bounded refl).values_are in
          let x = (told_exactly_bounding _ k q high).0 (sym (judged_as_sound p s state).2 ∙ h) in
          record { both_sound = s; state_in = x.state_in; fails = rw values at (rw (long_kind_bound p s state) at x.fails) },
      λ x.
          let s = x.both_sound in
          let values = (held p s certificates_bounded refl).values_are in
          (judged_as_sound p s state).2
          ∙ (told_exactly_bounding _ k q high).1
          (record { both_sound = long_both_bound p s state; state_in = x.state_in; fails = rw (long_kind_bound p s state) (rw values x.fails) }),
    )
