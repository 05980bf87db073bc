-- A sound pair, a loop of kind 1 and a certificate of kind 7: the public calls answer as of the kind 2 record that the short one stands for, and that
-- record is accepted if and only if the list has room, or the state is in range, and the four conditions of 01 hold of the multipliers that the
-- triples stand for.
use mathlib.Core.Path.{◌≡◌, refl, ◌∙◌}
use Prim.Native.Nat.{◌≤◌}
use mathlib.Core.List.{List}
use lib.ListN.{length}
use borrow.Author.Tests.{eq-eqb}
use Rattle.record_short.proofs.ShortSound.{ShortSound, short_sound}
use Rattle.theory.specs.Rankings.{RankingHolds}
use Rattle.verdict.specs.Bounding.{bounds, bound_of, certificates_bounded}
use Rattle.verdict.proofs.Accepted.{BothSound, accepted_exactly_when_ranking}
use Rattle.verdict.proofs.BoundAnswers.{bounded_exactly_when_ranking}
use Rattle.verdict_short.specs.Answers.{answered, rank_answered, bounded_answered}
use Rattle.verdict_short.specs.ShortJudging.{ShortPair, variables_of, rows_for, long_of, of_short}
use Rattle.verdict_short.proofs.LongHeld.{LongHeld, long_held}
use Rattle.verdict_short.proofs.ShortAsLong.{short_as_long}
use Rattle.verdict_short.proofs.ShortBridges.{short_when, answered_short, bounded_short}
use mathlib.Core.Logic.{◌↔◌}
use mathlib.Core.Bool.{Bool, true}
use lib.IntN.{ℤ}
use Rattle.refusal.specs.Tests.{done, first}
use Rattle.record.specs.Layouts.{Kind, ranking}
use Rattle.record.specs.Readers.{sound}
use Rattle.record.specs.Wants.{wants_of}
use Rattle.record_paths.specs.PathFields.{bytes_alone}
use Rattle.record_short.specs.ShortRecords.{sound_short}
use Rattle.verdict.specs.Judging.{judges, rank_after, judge_of, certificates_judged}
use Rattle.verdict.specs.Pairs as Pairs
use Rattle.verdict.specs.Pairs.{loop_record, certificate_record}
use Rattle.verdict.specs.StateTests.{GivenState}
use Rattle.verdict.proofs.StatesInRange.{StateIn}
use Rattle.verdict_paths.proofs.PathDemands.{kind_1_by_rows}
use Rattle.verdict_short.specs.ShortContents.{loop_of, ranking_of}

-- both records of a pair are sound
pub record ShortPairSound (p : ShortPair) : Type 0 where
  pub loop_sound : first sound (loop_record p.loopbytes) ≡ done
  pub certificate_sound : first (sound_short (variables_of p) (rows_for p)) (bytes_alone p.certificate) ≡ done

-- the state, for the loop's n
abbrev pub state_given : ShortPair → List ℤ → GivenState
state_given p state = record { n = variables_of p; state = state }

-- what an accepted short ranking is, in judging and in bound
pub record ShortAccepted (p : ShortPair) (lent : List ℤ) : Type 0 where
  pub both_sound : ShortPairSound p
  pub room : variables_of p ≤ length lent
  pub holds : RankingHolds (loop_of p) (ranking_of p)

pub record ShortBounded (p : ShortPair) (state : List ℤ) : Type 0 where
  pub both_sound : ShortPairSound p
  pub state_in : StateIn (state_given p state)
  pub holds : RankingHolds (loop_of p) (ranking_of p)

-- ---- the record that a sound pair's certificate stands for

module _ (p : ShortPair) (s : ShortPairSound p) where
  pub certificate_says : ShortSound (variables_of p) (rows_for p) p.certificate
  certificate_says = short_sound (variables_of p) (rows_for p) p.certificate s.certificate_sound

  pub held : (wants : Kind → Bool) → wants ranking ≡ true
      → LongHeld (certificate_record wants (loop_record p.loopbytes) (long_of p)) (rows_for p) p.certificate
  unfolding variables_of rows_for long_of
  held wants wanted = long_held (variables_of p) (rows_for p) p.certificate certificate_says wants wanted (loop_record p.loopbytes) refl refl

  -- it is of kind 7, and its loop is of kind 1
  pub sound_is_short : of_short p.certificate ≡ true
  unfolding of_short
  sound_is_short = eq-eqb _ _ certificate_says.numbered

  pub judged_as_sound : (lent : List ℤ)
      → (answered p.loopbytes p.certificate lent ≡ judges (judge_of p.loopbytes (long_of p) lent))
      × (rank_answered p.loopbytes p.certificate lent ≡ rank_after (judge_of p.loopbytes (long_of p) lent) lent)
      × (bounded_answered p.loopbytes p.certificate lent ≡ bounds (bound_of p.loopbytes (long_of p) lent))
  judged_as_sound lent =
      let rows = kind_1_by_rows p.loopbytes s.loop_sound in
      let by = answered_short p.loopbytes p.certificate lent (short_when p.loopbytes p.certificate rows sound_is_short) in
      let long = short_as_long p.loopbytes p.certificate s.loop_sound s.certificate_sound sound_is_short lent in
      (by.0 ∙ long.0, by.1 ∙ long.1, bounded_short p.loopbytes p.certificate lent sound_is_short ∙ long.2)

  -- ---- judged

  module _ (lent : List ℤ) where
    pub long_kind : Pairs.pair_kind (judge_of p.loopbytes (long_of p) lent).records ≡ ranking
    unfolding judge_of Pairs.pair_kind wants_of
    long_kind = (held certificates_judged refl).kind_is

    pub long_both : BothSound (judge_of p.loopbytes (long_of p) lent).records
    unfolding judge_of wants_of
    long_both = record { loop_sound = s.loop_sound; certificate_sound = (held certificates_judged refl).is_sound }

    pub long_exactly : ((judges (judge_of p.loopbytes (long_of p) lent)).number ≡ 0) ↔ ShortAccepted p lent
    unfolding judge_of wants_of Pairs.variables_of variables_of loop_of ranking_of
    long_exactly =
        let h = held certificates_judged refl in
        let exactly = accepted_exactly_when_ranking (judge_of p.loopbytes (long_of p) lent) long_kind in (
          λ x. let a = exactly.0 x in record { both_sound = s; room = a.room; holds = rw h.values_are at a.holds },
          λ x. exactly.1 (record { both_sound = long_both; room = x.room; holds = rw h.values_are x.holds }),
        )

  -- ---- bounded

  module _ (state : List ℤ) where
    pub long_kind_bound : Pairs.pair_kind (bound_of p.loopbytes (long_of p) state).records ≡ ranking
    unfolding bound_of Pairs.pair_kind wants_of
    long_kind_bound = (held certificates_bounded refl).kind_is

    pub long_both_bound : BothSound (bound_of p.loopbytes (long_of p) state).records
    unfolding bound_of wants_of
    long_both_bound = record { loop_sound = s.loop_sound; certificate_sound = (held certificates_bounded refl).is_sound }

    pub long_exactly_bound : ((bounds (bound_of p.loopbytes (long_of p) state)).verdict.number ≡ 0) ↔ ShortBounded p state
    unfolding bound_of wants_of Pairs.variables_of variables_of loop_of ranking_of
    long_exactly_bound =
        let h = held certificates_bounded refl in
        let exactly = bounded_exactly_when_ranking (bound_of p.loopbytes (long_of p) state) long_kind_bound in (
          λ x. let a = exactly.0 x in record { both_sound = s; state_in = a.state_in; holds = rw h.values_are at a.holds },
          λ x. exactly.1 (record { both_sound = long_both_bound; state_in = x.state_in; holds = rw h.values_are x.holds }),
        )
