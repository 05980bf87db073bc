-- In values: for all n, m and rows within the limits and all triples for them within the limits, judging the bytes made of them with a rank list that
-- has room gives 0 if and only if the four conditions of 01 hold of the ranking that the triples stand for, and tells a condition's number and place
-- if and only if that condition is the first to fail, there. The same of bound, at every state in range. So every short ranking in range that meets
-- the conditions is accepted. The loop's bytes are those that its writer writes.
use mathlib.Core.Path.{◌≡◌}
use mathlib.Core.Logic.{◌↔◌}
use mathlib.Core.Bool.{true}
use mathlib.Core.List.{List, ◌++◌}
use Prim.Native.Nat.{ℕ, ◌≤◌, ◌<◌}
use lib.IntN.{ℤ}
use lib.ListN.{length, drop}
use borrow.Author.Tests.{eq-eqb}
use Rattle.theory.specs.Fails.{RankingFails}
use Rattle.theory.specs.Loops.{over}
use Rattle.theory.specs.Rankings.{RankingHolds, rank, start, fall, bound}
use Rattle.verdict.specs.Stages.{shows, refusal_of}
use Rattle.verdict.specs.declared.Outcome.TheVariants as Outcomes
use Rattle.verdict.proofs.InValues.{LoopGiven, loop_held, loop_writer, bytes_in}
use Rattle.verdict.proofs.StatesInRange.{StateIn}
use Rattle.whole.specs.Rows.{Row}
use Rattle.verdict_short.specs.Answers.{answered, rank_answered, bounded_answered}
use Rattle.verdict_short.specs.ShortContents.{loop_of, ranking_of}
use Rattle.verdict_short.specs.ShortJudging.{ShortPair, variables_of, rows_for, of_short, short_pair}
use Rattle.verdict_short.specs.ShortValues.{Triple, TriplesIn, triples_record, ranking_by}
use Rattle.verdict_short.proofs.LongJudged.{ShortPairSound}
use Rattle.verdict_short.proofs.ShortAccepted.{short_accepted_exactly_when, short_answers, short_bounded_exactly_when, short_bound_is}
use Rattle.verdict_short.proofs.ShortReadBack.{kind_read, triples_done, triples_read_back}
use Rattle.verdict_short.proofs.ShortToldExactly.{told_exactly_short, told_exactly_short_bound}

module _ (n m : ℕ) (rs : List Row) (room : List ℕ) (ts : List Triple) (g : LoopGiven n m rs room) (h : TriplesIn m ts) where
  -- the two records
  abbrev loop_made : List ℕ
  loop_made = bytes_in (loop_writer n m rs room) room

  abbrev made : ShortPair
  made = short_pair loop_made (triples_record ts)

  -- they hold the loop, and stand for the ranking
  counts_held : (variables_of made ≡ n) × (rows_for made ≡ m)
  unfolding variables_of rows_for
  counts_held = let held = loop_held n m rs room g in (held.n_read, held.m_read)

  pub loop_is_held : loop_of made ≡ over n rs
  unfolding loop_of
  loop_is_held = (loop_held n m rs room g).loop_is

  pub ranking_is_held : ranking_of made ≡ ranking_by m ts
  unfolding ranking_of
  ranking_is_held = rw counts_held.1 (triples_read_back n m ts g.counts_in h)

  -- and are sound
  pub made_sound : ShortPairSound made
  made_sound =
      record {
        loop_sound = (loop_held n m rs room g).loop_sound;
        certificate_sound = rw (counts_held.0, counts_held.1) (triples_done n m ts g.counts_in h);
      }

  made_short : of_short (triples_record ts) ≡ true
  unfolding of_short
  made_short = eq-eqb _ _ (kind_read n m ts g.counts_in h)

  -- ---- judging

  module _ (lent : List ℤ) (there : n ≤ length lent) where
    -- accepted exactly when the conditions hold
    pub short_in_values : ((answered loop_made (triples_record ts) lent).number ≡ 0) ↔ RankingHolds (over n rs) (ranking_by m ts)
    short_in_values =
        let exactly = short_accepted_exactly_when loop_made (triples_record ts) made_short lent in (
          λ x. rw (loop_is_held, ranking_is_held) at (exactly.0 x).holds,
          λ x. exactly.1 (record { both_sound = made_sound; room = rw counts_held.0 there; holds = rw (loop_is_held, ranking_is_held) x }),
        )

    -- with these answers
    pub short_accepted : RankingHolds (over n rs) (ranking_by m ts)
        → let l = over n rs in let c = ranking_by m ts in
        (answered loop_made (triples_record ts) lent ≡ shows (Outcomes.Ranking (start l c) (fall l c)))
        × (rank_answered loop_made (triples_record ts) lent ≡ rank l c ++ drop n lent)
    short_accepted holds =
        let a = short_answers loop_made (triples_record ts) made_short lent (short_in_values.1 holds) in (
          rw (loop_is_held, ranking_is_held) at a.verdict_is,
          rw (loop_is_held, ranking_is_held, counts_held.0) at a.list_is,
        )

    -- and a refusal says which condition fails first
    pub short_told_in_values : (number place : ℕ) → 20 < number
        → (answered loop_made (triples_record ts) lent ≡ refusal_of 2 number place) ↔ RankingFails (over n rs) (ranking_by m ts) number place
    short_told_in_values k q high =
        let exactly = told_exactly_short loop_made (triples_record ts) made_short lent k q high in (
          λ x. rw (loop_is_held, ranking_is_held) at (exactly.0 x).fails,
          λ x. exactly.1 (record { both_sound = made_sound; room = rw counts_held.0 there; fails = rw (loop_is_held, ranking_is_held) x }),
        )

  -- ---- bound, at a state in range

  module _ (state : List ℤ) (s : StateIn (record { n = n; state = state })) where
    pub short_bounded_in_values : ((bounded_answered loop_made (triples_record ts) state).verdict.number ≡ 0) ↔ RankingHolds (over n rs) (ranking_by m ts)
    short_bounded_in_values =
        let exactly = short_bounded_exactly_when loop_made (triples_record ts) made_short state in (
          λ x. rw (loop_is_held, ranking_is_held) at (exactly.0 x).holds,
          λ x. exactly.1 (record { both_sound = made_sound; state_in = rw counts_held.0 s; holds = rw (loop_is_held, ranking_is_held) x }),
        )

    pub short_bound_in_values : RankingHolds (over n rs) (ranking_by m ts)
        → let l = over n rs in let c = ranking_by m ts in
        bounded_answered loop_made (triples_record ts) state
        ≡ record { verdict = shows (Outcomes.Ranking (start l c) (fall l c)); bound = bound (rank l c) (start l c) (fall l c) state }
    short_bound_in_values holds =
        let told = short_bound_is loop_made (triples_record ts) made_short state (short_bounded_in_values.1 holds) in
        rw (loop_is_held, ranking_is_held) at told

    pub short_told_bound_in_values : (number place : ℕ) → 20 < number
        → (bounded_answered loop_made (triples_record ts) state ≡ record { verdict = refusal_of 2 number place; bound = 0 })
        ↔ RankingFails (over n rs) (ranking_by m ts) number place
    short_told_bound_in_values k q high =
        let exactly = told_exactly_short_bound loop_made (triples_record ts) made_short state k q high in (
          λ x. rw (loop_is_held, ranking_is_held) at (exactly.0 x).fails,
          λ x. exactly.1 (record { both_sound = made_sound; state_in = rw counts_held.0 s; fails = rw (loop_is_held, ranking_is_held) x }),
        )
