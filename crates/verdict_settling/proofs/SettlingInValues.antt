-- In values: for all n, m and rows within the limits and every settling for them within the limits, stated part by part, judging the bytes made of
-- them with a rank list that has room gives 0 if and only if the conditions of 02, Q-8, hold of those values, and tells a condition's number and
-- place if and only if that condition is the first to fail, there. The same of bound, at every state in range. So every settling in range that
-- meets the conditions is accepted. The loop's bytes are those that its writer writes.
use mathlib.Core.Path.{◌≡◌, ◌∙◌}
use mathlib.Core.Logic.{◌↔◌}
use mathlib.Core.Bool.{true}
use mathlib.Core.List.{List, ◌++◌}
use Prim.Native.Nat.{ℕ, ◌≤◌, ◌<◌}
use lib.IntN.{ℤ}
use lib.ListN.{length, drop}
use borrow.Author.Tests.{eq-eqb}
use Rattle.theory.specs.Loops.{over}
use Rattle.theory.specs.Rankings.{rank, start, fall}
use Rattle.theory_settling.specs.SettlingFails.{SettlingFails}
use Rattle.theory_settling.specs.Settlings.{Settling, SettlingHolds, longer, settling_bound}
use Rattle.verdict.specs.Stages.{shows, refusal_of}
use Rattle.verdict.specs.declared.Outcome.TheVariants as Outcomes
use Rattle.verdict.proofs.InValues.{LoopGiven, loop_held, loop_writer, bytes_in}
use Rattle.verdict.proofs.StatesInRange.{StateIn}
use Rattle.verdict_paths.proofs.PathDemands.{kind_1_by_rows}
use Rattle.whole.specs.Rows.{Row}
use Rattle.verdict_settling.specs.AnswersByKind.{of_settling, settles, pair_of, judging_of, bounding_of}
use Rattle.verdict_settling.specs.AnswersByKind.{judged_by_kind, rank_by_kind, bounded_by_kind}
use Rattle.verdict_settling.specs.SettlingJudging.{SettlingPair, variables_of, rows_for, loop_of, settling_of}
use Rattle.verdict_settling.specs.SettlingValues.{SettlingIn, settling_bytes}
use Rattle.verdict_settling.proofs.SettlingAccepted.{SettlingSound, settling_accepted_exactly_when, settling_bounded_exactly_when}
use Rattle.verdict_settling.proofs.SettlingAccepted.{settling_answers, settling_bound_is}
use Rattle.verdict_settling.proofs.SettlingBridges.{settles_when, judged_settling, bounded_settling}
use Rattle.verdict_settling.proofs.SettlingReadBack.{kind_read, settling_read_back, settling_bytes_sound}
use Rattle.verdict_settling.proofs.SettlingToldExactly.{told_exactly_settling_bytes, told_exactly_settling_bytes_bound}

module _ (n m : ℕ) (rs : List Row) (room : List ℕ) (c : Settling) (g : LoopGiven n m rs room) (h : SettlingIn n m c) where
  -- the two records
  abbrev loop_made : List ℕ
  loop_made = bytes_in (loop_writer n m rs room) room

  abbrev made : SettlingPair
  made = pair_of loop_made (settling_bytes c)

  -- they hold the loop and the settling
  counts_held : (variables_of made ≡ n) × (rows_for made ≡ m)
  unfolding variables_of rows_for
  counts_held = let held = loop_held n m rs room g in (held.n_read, held.m_read)

  pub loop_is_held : loop_of made ≡ over n rs
  unfolding loop_of
  loop_is_held = (loop_held n m rs room g).loop_is

  pub settling_is_held : settling_of made ≡ c
  unfolding settling_of
  settling_is_held = rw (counts_held.0, counts_held.1) (settling_read_back n m c g.counts_in h)

  -- and are sound
  pub made_sound : SettlingSound made
  made_sound =
      record {
        loop_sound = (loop_held n m rs room g).loop_sound;
        certificate_sound = rw (counts_held.0, counts_held.1) (settling_bytes_sound n m c g.counts_in h);
      }

  made_of_settling : of_settling (settling_bytes c) ≡ true
  unfolding of_settling
  made_of_settling = eq-eqb _ _ (kind_read n m c g.counts_in h)

  made_settles : settles loop_made (settling_bytes c) ≡ true
  made_settles = settles_when loop_made (settling_bytes c) (kind_1_by_rows loop_made made_sound.loop_sound) made_of_settling

  -- ---- judging

  module _ (lent : List ℤ) (there : n ≤ length lent) where
    -- accepted exactly when the conditions hold
    pub settling_in_values : ((judged_by_kind loop_made (settling_bytes c) lent).number ≡ 0) ↔ SettlingHolds (over n rs) c
    settling_in_values =
        let exactly = settling_accepted_exactly_when (judging_of loop_made (settling_bytes c) lent) in
        let answer = (judged_settling loop_made (settling_bytes c) lent made_settles).0 in (
          λ x. rw (loop_is_held, settling_is_held) at (exactly.0 (rw answer at x)).holds,
          λ x.
              rw answer
              (exactly.1
              (record { both_sound = made_sound; room = rw counts_held.0 there; holds = rw (loop_is_held, settling_is_held) x })),
        )

    -- "all that meet the conditions, with room for their rank, are accepted", with these answers
    pub settling_accepted : SettlingHolds (over n rs) c
        → let l = longer (over n rs) c in
        (judged_by_kind loop_made (settling_bytes c) lent ≡ shows (Outcomes.Settling (start l c.ranking) (fall l c.ranking)))
        × (rank_by_kind loop_made (settling_bytes c) lent ≡ rank l c.ranking ++ drop n lent)
    settling_accepted holds =
        let answer = judged_settling loop_made (settling_bytes c) lent made_settles in
        let a = settling_answers (judging_of loop_made (settling_bytes c) lent) lent (rw answer.0 at (settling_in_values.1 holds)) in (
          rw (loop_is_held, settling_is_held) at (answer.0 ∙ a.verdict_is),
          rw (loop_is_held, settling_is_held, counts_held.0) at (answer.1 ∙ a.list_is),
        )

    -- and a refusal says which condition fails first
    pub settling_told_in_values : (number place : ℕ) → 20 < number
        → (judged_by_kind loop_made (settling_bytes c) lent ≡ refusal_of 2 number place) ↔ SettlingFails (over n rs) c number place
    settling_told_in_values k p high =
        let exactly = told_exactly_settling_bytes loop_made (settling_bytes c) lent made_settles k p high in (
          λ x. rw (loop_is_held, settling_is_held) at (exactly.0 x).fails,
          λ x.
              exactly.1
              (record { both_sound = made_sound; room = rw counts_held.0 there; fails = rw (loop_is_held, settling_is_held) x }),
        )

  -- ---- bound, at a state in range

  module _ (state : List ℤ) (s : StateIn (record { n = n; state = state })) where
    pub settling_bounded_in_values : ((bounded_by_kind loop_made (settling_bytes c) state).verdict.number ≡ 0) ↔ SettlingHolds (over n rs) c
    settling_bounded_in_values =
        let exactly = settling_bounded_exactly_when (bounding_of loop_made (settling_bytes c) state) in
        let answer = bounded_settling loop_made (settling_bytes c) state made_of_settling in (
          λ x. rw (loop_is_held, settling_is_held) at (exactly.0 (rw answer at x)).holds,
          λ x.
              rw answer
              (exactly.1 (record { both_sound = made_sound; state_in = rw counts_held.0 s; holds = rw (loop_is_held, settling_is_held) x })),
        )

    pub settling_bound_in_values : SettlingHolds (over n rs) c
        → let l = longer (over n rs) c in
        bounded_by_kind loop_made (settling_bytes c) state
        ≡ record { verdict = shows (Outcomes.Settling (start l c.ranking) (fall l c.ranking)); bound = settling_bound c state }
    settling_bound_in_values holds =
        let answer = bounded_settling loop_made (settling_bytes c) state made_of_settling in
        let told = settling_bound_is (bounding_of loop_made (settling_bytes c) state) (rw answer at (settling_bounded_in_values.1 holds)) in
        rw (loop_is_held, settling_is_held) at (answer ∙ told)

    pub settling_told_bound_in_values : (number place : ℕ) → 20 < number
        → (bounded_by_kind loop_made (settling_bytes c) state ≡ record { verdict = refusal_of 2 number place; bound = 0 })
        ↔ SettlingFails (over n rs) c number place
    settling_told_bound_in_values k p high =
        let exactly = told_exactly_settling_bytes_bound loop_made (settling_bytes c) state made_of_settling k p high in (
          λ x. rw (loop_is_held, settling_is_held) at (exactly.0 x).fails,
          λ x. exactly.1 (record { both_sound = made_sound; state_in = rw counts_held.0 s; fails = rw (loop_is_held, settling_is_held) x }),
        )
