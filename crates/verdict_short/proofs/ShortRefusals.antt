-- What is refused shows nothing, has the bound 0 and leaves the list, whatever the records' kinds; and 8 is never told. Of the public calls' answers.
-- Assumes nothing.
use mathlib.Core.Path.{◌≡◌, refl}
use Prim.Native.Nat.{ℕ}
use mathlib.Core.List.{List}
use native.Mathlib.Omega.{arith}
use lib.IntN.{ℤ}
use Rattle.refusal.proofs.TestLaws.{either, number_avoided}
use Rattle.record.specs.Readers.{sound}
use Rattle.record_paths.specs.PathFields.{bytes_alone, is_kind, holds_counts, is_long, fields_fit}
use Rattle.record_short.specs.ShortRecords.{sound_short}
use Rattle.verdict.specs.Pairs.{loop_record}
use Rattle.verdict.specs.Stages.{Said, agreed, refusal, said}
use Rattle.verdict.specs.declared.Outcome.TheVariants as Outcomes
use Rattle.verdict.proofs.RefusedCalls.{refused_judging, refused_bounding}
use Rattle.verdict.proofs.StageLaws.{number_said, silent_said}
use Rattle.verdict.proofs.ToldExactly.{never_8, never_8_bound}
use Rattle.verdict_paths.specs.JudgingByLoop.{of_paths}
use Rattle.verdict_paths.proofs.PathsAccepted.{refused_paths_show_nothing}
use Rattle.verdict_settling.specs.AnswersByKind.{of_settling, judged_by_kind, rank_by_kind, bounded_by_kind}
use Rattle.verdict_settling.proofs.SettlingAccepted.{refused_settling, refused_settling_bound}
use Rattle.verdict_settling.proofs.SettlingBridges as Before
use Rattle.verdict_settling.proofs.SettlingToldExactly.{judged_by_kind_never_8, bounded_by_kind_never_8}
use Rattle.verdict_short.specs.Answers.{is_short, answered, rank_answered, bounded_answered}
use Rattle.verdict_short.specs.ShortJudging.{ShortPair, variables_of, rows_for, short_records, short_judged, short_ranked, short_bounded}
use Rattle.verdict_short.specs.ShortJudging.{of_short, short_pair}
use Rattle.verdict_short.proofs.ShortAsLong.{by_short}
use Rattle.verdict_short.proofs.ShortBridges.{short_says, answered_short, answered_as_before, bounded_short, bounded_as_before}

-- ---- of what is said of a short ranking

shows_nothing : (s : Said) (p : ShortPair) (lent : List ℤ) → ((short_judged s p lent).number ≡ 0 → ⊥)
    → ((short_judged s p lent).outcome ≡ Outcomes.Nothing) × (short_ranked s p lent ≡ lent)
unfolding short_judged short_ranked
shows_nothing agreed p lent some = refused_judging _ lent some
shows_nothing (refusal about k q) p lent some = (refl, refl)

bounds_nothing : (s : Said) (p : ShortPair) (state : List ℤ) → ((short_bounded s p state).verdict.number ≡ 0 → ⊥)
    → ((short_bounded s p state).verdict.outcome ≡ Outcomes.Nothing) × ((short_bounded s p state).bound ≡ 0)
unfolding short_bounded
bounds_nothing agreed p state some = refused_bounding _ some
bounds_nothing (refusal about k q) p state some = (refl, refl)

-- its records' tests tell no 8, and neither do the conditions
records_never_8 : (p : ShortPair) → number_said (said short_records p) ≡ 8 → ⊥
unfolding short_records sound sound_short is_kind holds_counts is_long fields_fit
records_never_8 p =
    silent_said 8 short_records p (λ z. omega arith) (
      number_avoided 8 sound (loop_record p.loopbytes) (λ z. omega arith) refl,
      λ loop_done. (
        number_avoided 8 (sound_short (variables_of p) (rows_for p)) (bytes_alone p.certificate) (λ z. omega arith) refl,
        λ certificate_done. tt,
      ),
    )

said_never_8 : (s : Said) (p : ShortPair) (lent : List ℤ) → (number_said s ≡ 8 → ⊥)
    → ((short_judged s p lent).number ≡ 8 → ⊥) × ((short_bounded s p lent).verdict.number ≡ 8 → ⊥)
unfolding short_judged short_bounded
said_never_8 agreed p lent none = (never_8 _, never_8_bound _)
said_never_8 (refusal about k q) p lent none = (none, none)

-- ---- of judging's answer

module _ (loopbytes certificate : List ℕ) (lent : List ℤ) where
  abbrev p : ShortPair
  p = short_pair loopbytes certificate

  refused_before : ((judged_by_kind loopbytes certificate lent).number ≡ 0 → ⊥)
      → ((judged_by_kind loopbytes certificate lent).outcome ≡ Outcomes.Nothing) × (rank_by_kind loopbytes certificate lent ≡ lent)
  refused_before some =
      either (of_paths loopbytes)
      (λ paths.
      let by = Before.judged_of_paths loopbytes certificate lent paths in
      rw (by.0, by.1) (refused_paths_show_nothing _ (rw by.0 at some), refl))
      (λ rows.
      either (of_settling certificate)
      (λ e.
      let by = Before.judged_settling loopbytes certificate lent (Before.settles_when loopbytes certificate rows e) in
      rw (by.0, by.1) (refused_settling _ lent (rw by.0 at some)))
      (λ e.
      let by = Before.judged_of_rows loopbytes certificate lent rows e in
      rw (by.0, by.1) (refused_judging _ lent (rw by.0 at some))))

  pub refused_answered : ((answered loopbytes certificate lent).number ≡ 0 → ⊥)
      → ((answered loopbytes certificate lent).outcome ≡ Outcomes.Nothing) × (rank_answered loopbytes certificate lent ≡ lent)
  refused_answered some =
      either (is_short loopbytes certificate)
      (λ e.
      let answer = answered_short loopbytes certificate lent e in
      let by = by_short loopbytes certificate (short_says loopbytes certificate e).1 lent in
      rw (answer.0, answer.1, by.0, by.1) (shows_nothing (said short_records p) p lent (rw (answer.0, by.0) at some)))
      (λ e.
      let answer = answered_as_before loopbytes certificate lent e in
      rw (answer.0, answer.1) (refused_before (rw answer.0 at some)))

  pub answered_never_8 : (answered loopbytes certificate lent).number ≡ 8 → ⊥
  answered_never_8 h =
      either (is_short loopbytes certificate)
      (λ e.
      let answer = (answered_short loopbytes certificate lent e).0 in
      let by = (by_short loopbytes certificate (short_says loopbytes certificate e).1 lent).0 in
      (said_never_8 (said short_records p) p lent (records_never_8 p)).0 (rw (answer, by) at h))
      (λ e. judged_by_kind_never_8 loopbytes certificate lent (rw (answered_as_before loopbytes certificate lent e).0 at h))

-- ---- of bound's answer

module _ (loopbytes certificate : List ℕ) (state : List ℤ) where
  abbrev the_pair : ShortPair
  the_pair = short_pair loopbytes certificate

  refused_bounded_before : ((bounded_by_kind loopbytes certificate state).verdict.number ≡ 0 → ⊥)
      → ((bounded_by_kind loopbytes certificate state).verdict.outcome ≡ Outcomes.Nothing) × ((bounded_by_kind loopbytes certificate state).bound ≡ 0)
  refused_bounded_before some =
      either (of_settling certificate)
      (λ e.
      let by = Before.bounded_settling loopbytes certificate state e in
      rw by (refused_settling_bound _ (rw by at some)))
      (λ e.
      let by = Before.bounded_as_before loopbytes certificate state e in
      rw by (refused_bounding _ (rw by at some)))

  pub refused_bounded_answered : ((bounded_answered loopbytes certificate state).verdict.number ≡ 0 → ⊥)
      → ((bounded_answered loopbytes certificate state).verdict.outcome ≡ Outcomes.Nothing) × ((bounded_answered loopbytes certificate state).bound ≡ 0)
  refused_bounded_answered some =
      either (of_short certificate)
      (λ e.
      let answer = bounded_short loopbytes certificate state e in
      let by = (by_short loopbytes certificate e state).2 in
      rw (answer, by) (bounds_nothing (said short_records the_pair) the_pair state (rw (answer, by) at some)))
      (λ e.
      let answer = bounded_as_before loopbytes certificate state e in
      rw answer (refused_bounded_before (rw answer at some)))

  pub bounded_answered_never_8 : (bounded_answered loopbytes certificate state).verdict.number ≡ 8 → ⊥
  bounded_answered_never_8 h =
      either (of_short certificate)
      (λ e.
      let answer = bounded_short loopbytes certificate state e in
      let by = (by_short loopbytes certificate e state).2 in
      (said_never_8 (said short_records the_pair) the_pair state (records_never_8 the_pair)).1 (rw (answer, by) at h))
      (λ e. bounded_by_kind_never_8 loopbytes certificate state (rw (bounded_as_before loopbytes certificate state e) at h))
