-- The curve that climbs before it falls, of the records' own bytes. They hold the samples of crate `theory_settling`; the settling is accepted, and so
-- is an exclusion of the same loop; a settling with a threshold too low is refused with 24. What is promised of every pair is said here of these,
-- each way of each, so a promise that were weakened would be missed.
use mathlib.Core.Path.{◌≡◌, refl, sym, ap, ◌∙◌}
use mathlib.Core.Bool.{true, false}
use mathlib.Core.List.{List, [], ◌∷◌}
use Prim.Native.Nat.{ℕ, ◌≤◌}
use native.Mathlib.Omega.{arith}
use lib.IntN.{ℤ, pos, negsuc}
use lib.ListN.{length, take, replicate, set}
use lib.Signed.{le_z_yes}
use Rattle.record.specs.Contents.{CountsIn, RowsIn}
use Rattle.record.specs.Ranges.{either_way, state_entries}
use Rattle.record.specs.Samples as Records
use Rattle.theory.specs.Loops.{Run, Endless}
use Rattle.theory.specs.Rankings.{bound}
use Rattle.theory_settling.specs.SettlingFails.{SettlingFails}
use Rattle.theory_settling.specs.SettlingSamples.{curve, curve_by, curve_settles, curve_excluded, curve_run}
use Rattle.theory_settling.specs.SettlingTable as Rows
use Rattle.theory_settling.specs.Settlings.{NonNegativeSettling, SettlingHolds, Settling, Settled, unsettled_steps}
use Rattle.theory_settling.proofs.SettlingDecisions.{told_exactly_settling}
use Rattle.theory_settling.proofs.SettlingSampleTheorems.{curve_holds, curve_runs, settling_bound_attained}
use Rattle.verdict.specs.Bounding.{bounds, bound_of}
use Rattle.verdict.specs.Contents.{exclusion_in}
use Rattle.verdict.specs.Judging.{judges, rank_after, judge_of}
use Rattle.verdict.specs.Samples.{P, S1}
use Rattle.verdict.specs.Stages.{shows, refusal_of}
use Rattle.verdict.specs.declared.Bounded.{Bounded}
use Rattle.verdict.specs.declared.Grade.TheVariants.{Whole}
use Rattle.verdict.specs.declared.Outcome.TheVariants as Outcomes
use Rattle.verdict.specs.declared.Verdict.{Verdict}
use Rattle.verdict.proofs.InValues.{LoopGiven, loop_writer, bytes_in}
use Rattle.verdict.proofs.StatesInRange.{StateIn}
use Rattle.verdict_paths.specs.JudgingByLoop.{judged, rank_judged}
use Rattle.verdict_paths.specs.PathSampleBytes.{two_counters_bytes}
use Rattle.verdict_paths.specs.PathValues.{making}
use Rattle.whole.specs.Sums.{dot, Each}
use Rattle.verdict_settling.specs.AnswersByKind.{of_settling, settles, pair_of, judging_of, bounding_of}
use Rattle.verdict_settling.specs.AnswersByKind.{judged_by_kind, rank_by_kind, bounded_by_kind}
use Rattle.verdict_settling.specs.AnswersComputing.{computing}
use Rattle.verdict_settling.specs.SettlingJudging.{SettlingPair, variables_of, rows_for}
use Rattle.verdict_settling.specs.SettlingJudging.{loop_of, settling_of, settling_judges, settling_rank_after, settling_bounds}
use Rattle.verdict_settling.specs.SettlingSampleBytes.{curve_bytes, curve_settling_bytes, curve_exclusion_bytes}
use Rattle.verdict_settling.specs.SettlingValues.{SettlingIn, g_bytes, settling_bytes}
use Rattle.verdict_settling.proofs.SettlingAccepted.{SettlingSound, SettlingAccepted, settling_accepted_exactly_when, SettlingAnswers}
use Rattle.verdict_settling.proofs.SettlingAccepted.{SettlingBounded, settling_bounded_exactly_when, settling_answers, settling_bound_is}
use Rattle.verdict_settling.proofs.SettlingAccepted.{refused_settling, refused_settling_bound}
use Rattle.verdict_settling.proofs.SettlingBridges.{judged_as_before, judged_of_rows, bounded_as_before}
use Rattle.verdict_settling.proofs.SettlingDemands.{settling_ends_bytes, shown_settling_ends, settled_rest_bounded, accepted_as_before}
use Rattle.verdict_settling.proofs.SettlingDemands.{settling_bound_kept, settling_ends_bound, shown_bound_kept, bounded_otherwise}
use Rattle.verdict_settling.proofs.SettlingDemands.{paths_with_settling, paths_never_bounded}
use Rattle.verdict_settling.proofs.SettlingFrames.{short_unframed, unframed_judged, unframed_bounded}
use Rattle.verdict_settling.proofs.SettlingInRange.{counts_are_in, loop_is_in, held_is_in, sound_nonneg, sound_scale}
use Rattle.verdict_settling.proofs.SettlingInValues.{settling_in_values, settling_accepted, settling_told_in_values}
use Rattle.verdict_settling.proofs.SettlingInValues.{settling_bounded_in_values, settling_bound_in_values, settling_told_bound_in_values}
use Rattle.verdict_settling.proofs.SettlingToldExactly.{told_exactly_settling_bytes, told_exactly_settling_bytes_bound}
use Rattle.verdict_settling.proofs.SettlingToldExactly.{judged_by_kind_never_8, bounded_by_kind_never_8, settling_bytes_never_11}

abbrev curve_pair : SettlingPair
curve_pair = pair_of curve_bytes curve_settling_bytes

-- the settling with the threshold 0 in place of 1
abbrev pub too_soon_bytes : List ℕ
too_soon_bytes = set curve_settling_bytes 10 0

abbrev too_soon : Settling
too_soon = curve_by (pos 0) 1 (0 ∷ 0 ∷ 0 ∷ 1 ∷ 0 ∷ []) (1 ∷ 0 ∷ 0 ∷ 0 ∷ 0 ∷ 0 ∷ []) (0 ∷ 1 ∷ 0 ∷ 0 ∷ 0 ∷ 1 ∷ [])

abbrev too_soon_pair : SettlingPair
too_soon_pair = pair_of curve_bytes too_soon_bytes

-- a list of three places, and a state
abbrev pub three : List ℤ
three = pos 7 ∷ pos 8 ∷ pos 9 ∷ []

abbrev pub at_0_5 : List ℤ
at_0_5 = pos 0 ∷ pos 5 ∷ []

-- ---- what the bytes hold

pub held_as_curve :
    (length curve_bytes ≡ 70)
    × (length curve_settling_bytes ≡ 50)
    × (length curve_exclusion_bytes ≡ 32)
    × (loop_of curve_pair ≡ curve)
    × (settling_of curve_pair ≡ curve_settles)
    × (exclusion_in (judge_of curve_bytes curve_exclusion_bytes []).records.certificate_is ≡ curve_excluded)
    × (settling_of too_soon_pair ≡ too_soon)
unfolding computing Rows.computing curve_bytes curve_settling_bytes curve_exclusion_bytes
held_as_curve = (refl, refl, refl, refl, refl, refl, refl)

-- ---- what is answered: the rank (1, 0), from 0, down by 1; 6 steps at most before the threshold from (0, 5), none from (3, -2)

pub curve_answers :
    (settles curve_bytes curve_settling_bytes ≡ true)
    × (judged_by_kind curve_bytes curve_settling_bytes three ≡ shows (Outcomes.Settling (pos 0) (pos 1)))
    × (rank_by_kind curve_bytes curve_settling_bytes three ≡ pos 1 ∷ pos 0 ∷ pos 9 ∷ [])
    × (of_settling curve_settling_bytes ≡ true)
    × (bounded_by_kind curve_bytes curve_settling_bytes at_0_5 ≡ record { verdict = shows (Outcomes.Settling (pos 0) (pos 1)); bound = 6 })
    × (bounded_by_kind curve_bytes curve_settling_bytes (pos 3 ∷ negsuc 1 ∷ [])
    ≡ record { verdict = shows (Outcomes.Settling (pos 0) (pos 1)); bound = 0 })
    × (judged_by_kind curve_bytes too_soon_bytes three ≡ refusal_of 2 24 0)
    × (rank_by_kind curve_bytes too_soon_bytes three ≡ three)
    × (bounded_by_kind curve_bytes too_soon_bytes at_0_5 ≡ record { verdict = refusal_of 2 24 0; bound = 0 })
unfolding computing curve_bytes curve_settling_bytes
curve_answers = (refl, refl, refl, refl, refl, refl, refl, refl, refl)

-- "an exclusion may be accepted for the same loop": there is no `never_both` of these two kinds
pub both_accepted :
    ((judged_by_kind curve_bytes curve_settling_bytes three).number ≡ 0)
    × (judged_by_kind curve_bytes curve_exclusion_bytes [] ≡ shows (Outcomes.Exclusion Whole))
    × (settles curve_bytes curve_exclusion_bytes ≡ false)
unfolding computing curve_bytes curve_settling_bytes curve_exclusion_bytes
both_accepted = (refl, refl, refl)

-- ---- accepted exactly when

curve_sound : SettlingSound curve_pair
unfolding computing curve_bytes curve_settling_bytes
curve_sound = record { loop_sound = refl; certificate_sound = refl }

too_soon_sound : SettlingSound too_soon_pair
unfolding computing curve_bytes curve_settling_bytes
too_soon_sound = record { loop_sound = refl; certificate_sound = refl }

-- accepted, so the conditions hold; and as they hold, accepted
pub curve_accepted : SettlingAccepted (judging_of curve_bytes curve_settling_bytes three)
unfolding computing curve_bytes curve_settling_bytes
curve_accepted = (settling_accepted_exactly_when (judging_of curve_bytes curve_settling_bytes three)).0 refl

pub curve_accepted_back : (settling_judges (judging_of curve_bytes curve_settling_bytes three)).number ≡ 0
unfolding computing curve_bytes
curve_accepted_back =
    (settling_accepted_exactly_when (judging_of curve_bytes curve_settling_bytes three)).1
    (record { both_sound = curve_sound; room = omega arith; holds = rw (held_as_curve.3, held_as_curve.4) curve_holds })

pub curve_answers_as_promised : SettlingAnswers (judging_of curve_bytes curve_settling_bytes three) three
curve_answers_as_promised = settling_answers (judging_of curve_bytes curve_settling_bytes three) three curve_accepted_back

state_is_in : StateIn (record { n = 2; state = at_0_5 })
unfolding Each state_entries either_way
state_is_in = record { counted = refl; each = search }

pub curve_bounded : SettlingBounded (bounding_of curve_bytes curve_settling_bytes at_0_5)
unfolding computing curve_bytes curve_settling_bytes
curve_bounded = (settling_bounded_exactly_when (bounding_of curve_bytes curve_settling_bytes at_0_5)).0 refl

pub curve_bounded_back : (settling_bounds (bounding_of curve_bytes curve_settling_bytes at_0_5)).verdict.number ≡ 0
unfolding computing curve_bytes
curve_bounded_back =
    (settling_bounded_exactly_when (bounding_of curve_bytes curve_settling_bytes at_0_5)).1
    (record { both_sound = curve_sound; state_in = state_is_in; holds = rw (held_as_curve.3, held_as_curve.4) curve_holds })

pub curve_bound_is : (settling_bounds (bounding_of curve_bytes curve_settling_bytes at_0_5)).bound ≡ 6
curve_bound_is =
    ap (λ (b : Bounded). b.bound) (settling_bound_is (bounding_of curve_bytes curve_settling_bytes at_0_5) curve_bounded_back)
    ∙ rw held_as_curve.4 settling_bound_attained.1

-- what is refused shows nothing and leaves the list, and has the bound 0
no_zero : {v : Verdict} → v ≡ refusal_of 2 24 0 → v.number ≡ 0 → ⊥
no_zero e h = let z : ◌≡◌ {A = ℕ} 24 0 = sym (ap (λ (a : Verdict). a.number) e) ∙ h in omega arith

pub too_soon_shows_nothing :
    ((settling_judges (judging_of curve_bytes too_soon_bytes three)).outcome ≡ Outcomes.Nothing)
    × (settling_rank_after (judging_of curve_bytes too_soon_bytes three) three ≡ three)
unfolding computing curve_bytes curve_settling_bytes
too_soon_shows_nothing = refused_settling (judging_of curve_bytes too_soon_bytes three) three (no_zero refl)

pub too_soon_bounds_nothing :
    ((settling_bounds (bounding_of curve_bytes too_soon_bytes at_0_5)).verdict.outcome ≡ Outcomes.Nothing)
    × ((settling_bounds (bounding_of curve_bytes too_soon_bytes at_0_5)).bound ≡ 0)
unfolding computing curve_bytes curve_settling_bytes
too_soon_bounds_nothing = refused_settling_bound (bounding_of curve_bytes too_soon_bytes at_0_5) (no_zero refl)

-- ---- within the limits

curve_counts : (variables_of curve_pair ≡ 2) × (rows_for curve_pair ≡ 5) × (variables_of too_soon_pair ≡ 2) × (rows_for too_soon_pair ≡ 5)
unfolding computing curve_bytes
curve_counts = (refl, refl, refl, refl)

pub curve_in_limits : CountsIn 2 5 × RowsIn 2 5 curve.rows × SettlingIn 2 5 curve_settles
curve_in_limits = (
  rw (curve_counts.0, curve_counts.1) at (counts_are_in curve_pair curve_sound),
  rw (curve_counts.0, curve_counts.1, held_as_curve.3) at (loop_is_in curve_pair curve_sound),
  rw (curve_counts.0, curve_counts.1, held_as_curve.4) at (held_is_in curve_pair curve_sound),
)

pub curve_as_asked : NonNegativeSettling curve_settles × (1 ≤ curve_settles.k)
curve_as_asked = (
  rw held_as_curve.4 at (sound_nonneg curve_pair curve_sound),
  rw held_as_curve.4 at (sound_scale curve_pair curve_sound),
)

-- ---- demand 3

judged_zero : (judged_by_kind curve_bytes curve_settling_bytes three).number ≡ 0
judged_zero = both_accepted.0

bounded_zero : (bounded_by_kind curve_bytes curve_settling_bytes at_0_5).verdict.number ≡ 0
bounded_zero = ap (λ (b : Bounded). b.verdict.number) curve_answers.4

-- no run is endless: from judging's number, from its outcome, and from bound's number
pub curve_ends : (state : ℕ → List ℤ) → Endless curve state → ⊥
curve_ends = rw held_as_curve.3 at (settling_ends_bytes curve_bytes curve_settling_bytes three curve_answers.0 judged_zero)

judged_outcome : (judged_by_kind curve_bytes curve_settling_bytes three).outcome ≡ Outcomes.Settling (pos 0) (pos 1)
judged_outcome = ap (λ (a : Verdict). a.outcome) curve_answers.1

pub curve_ends_as_shown : (state : ℕ → List ℤ) → Endless curve state → ⊥
curve_ends_as_shown =
    rw held_as_curve.3 at (shown_settling_ends curve_bytes curve_settling_bytes three (pos 0) (pos 1) judged_outcome)

pub curve_ends_as_bounded : (states : ℕ → List ℤ) → Endless curve states → ⊥
curve_ends_as_bounded =
    rw held_as_curve.3 at (settling_ends_bound curve_bytes curve_settling_bytes at_0_5 curve_answers.3 bounded_zero)

-- the bound is kept: of the run all the way from (0, 5), 6 steps are taken before the threshold, and 6 is told
pub curve_bound_kept : unsettled_steps curve_settles at_0_5 curve_run ≤ (bounded_by_kind curve_bytes curve_settling_bytes at_0_5).bound
curve_bound_kept =
    rw held_as_curve.4
    at (settling_bound_kept curve_bytes curve_settling_bytes at_0_5 curve_answers.3 bounded_zero curve_run (rw held_as_curve.3 curve_runs))

pub curve_bound_attained : (unsettled_steps curve_settles at_0_5 curve_run ≡ 6) × ((bounded_by_kind curve_bytes curve_settling_bytes at_0_5).bound ≡ 6)
curve_bound_attained = (settling_bound_attained.0, ap (λ (b : Bounded). b.bound) curve_answers.4)

pub curve_bound_kept_as_shown : (ys : List (List ℤ)) → Run curve at_0_5 ys → unsettled_steps curve_settles at_0_5 ys ≤ 6
curve_bound_kept_as_shown =
    rw (held_as_curve.3, held_as_curve.4, curve_answers.4)
    at (shown_bound_kept curve_bytes curve_settling_bytes at_0_5 (pos 0) (pos 1) (ap (λ (b : Bounded). b.verdict.outcome) curve_answers.4))

-- from (15, -1), which is settled, by the rank that the list holds: 16 steps at most
settled_at_15 : Settled curve_settles (pos 15 ∷ negsuc 0 ∷ [])
unfolding curve_settles dot
settled_at_15 = le_z_yes tt

by_the_list : bound (take (variables_of curve_pair) (rank_by_kind curve_bytes curve_settling_bytes three)) (pos 0) (pos 1) (pos 15 ∷ negsuc 0 ∷ []) ≡ 16
unfolding computing curve_bytes curve_settling_bytes
by_the_list = refl

pub curve_rest_bounded : (ys : List (List ℤ)) → Run curve (pos 15 ∷ negsuc 0 ∷ []) ys → length ys ≤ 16
curve_rest_bounded ys run =
    rw by_the_list
    at (settled_rest_bounded curve_bytes curve_settling_bytes three (pos 0) (pos 1) judged_outcome (pos 15 ∷ negsuc 0 ∷ []) ys
    (rw held_as_curve.4 settled_at_15) (rw held_as_curve.3 run))

-- ---- what a refusal by a condition means: 24 is told, so it fails; and as it fails, it is told

too_soon_fails : SettlingFails curve too_soon 24 0
unfolding Rows.computing
too_soon_fails = (told_exactly_settling curve too_soon 24 0).0 refl

pub too_soon_failing : SettlingFails curve too_soon 24 0
unfolding computing curve_bytes curve_settling_bytes
too_soon_failing =
    rw (held_as_curve.3, held_as_curve.6)
    at ((told_exactly_settling_bytes curve_bytes too_soon_bytes three refl 24 0 (omega arith)).0 curve_answers.6).fails

pub too_soon_told : judged_by_kind curve_bytes too_soon_bytes three ≡ refusal_of 2 24 0
unfolding computing curve_bytes curve_settling_bytes
too_soon_told =
    (told_exactly_settling_bytes curve_bytes too_soon_bytes three refl 24 0 (omega arith)).1
    (record { both_sound = too_soon_sound; room = omega arith; fails = rw (held_as_curve.3, held_as_curve.6) too_soon_fails })

pub too_soon_failing_bound : SettlingFails curve too_soon 24 0
unfolding computing curve_bytes curve_settling_bytes
too_soon_failing_bound =
    rw (held_as_curve.3, held_as_curve.6)
    at ((told_exactly_settling_bytes_bound curve_bytes too_soon_bytes at_0_5 refl 24 0 (omega arith)).0 curve_answers.8).fails

pub too_soon_told_bound : bounded_by_kind curve_bytes too_soon_bytes at_0_5 ≡ record { verdict = refusal_of 2 24 0; bound = 0 }
unfolding computing curve_bytes curve_settling_bytes
too_soon_told_bound =
    (told_exactly_settling_bytes_bound curve_bytes too_soon_bytes at_0_5 refl 24 0 (omega arith)).1
    (record { both_sound = too_soon_sound; state_in = state_is_in; fails = rw (held_as_curve.3, held_as_curve.6) too_soon_fails })

pub curve_never : (lent state : List ℤ)
    → ((judged_by_kind curve_bytes curve_settling_bytes lent).number ≡ 8 → ⊥)
    × ((bounded_by_kind curve_bytes curve_settling_bytes state).verdict.number ≡ 8 → ⊥)
    × ((bounded_by_kind curve_bytes curve_settling_bytes state).verdict.number ≡ 11 → ⊥)
curve_never lent state = (
  judged_by_kind_never_8 curve_bytes curve_settling_bytes lent,
  bounded_by_kind_never_8 curve_bytes curve_settling_bytes state,
  settling_bytes_never_11 curve_bytes curve_settling_bytes state curve_answers.3,
)

-- ---- the other kinds: the exclusion, and P with its ranking S1, are answered as before

pub exclusion_as_before : (lent : List ℤ)
    → (judged_by_kind curve_bytes curve_exclusion_bytes lent ≡ judged curve_bytes curve_exclusion_bytes lent)
    × (rank_by_kind curve_bytes curve_exclusion_bytes lent ≡ rank_judged curve_bytes curve_exclusion_bytes lent)
exclusion_as_before lent = judged_as_before curve_bytes curve_exclusion_bytes lent both_accepted.2

pub P-as-before : (lent state : List ℤ)
    → (judged_by_kind P S1 lent ≡ judges (judge_of P S1 lent))
    × (rank_by_kind P S1 lent ≡ rank_after (judge_of P S1 lent) lent)
    × (bounded_by_kind P S1 state ≡ bounds (bound_of P S1 state))
unfolding computing P S1 Records.P Records.S1
P-as-before lent state =
    let by = judged_of_rows P S1 lent refl refl in
    (by.0, by.1, bounded_as_before P S1 state refl)

-- what shows anything else is no settling
pub P-shows-another : (settles P S1 ≡ false) × (of_settling S1 ≡ false)
unfolding computing P S1 Records.P Records.S1
P-shows-another = (
  accepted_as_before P S1 (pos 0 ∷ pos 0 ∷ []) (λ δ0 δ e. let z : ◌≡◌ {A = ℕ} 0 1 = cc in omega arith) refl,
  bounded_otherwise P S1 (pos 5 ∷ pos 1 ∷ []) (λ δ0 δ e. let z : ◌≡◌ {A = ℕ} 0 1 = cc in omega arith) refl,
)

-- a loop of several paths with the settling: 4 of the certificate in judging, 4 of the loop in bound
pub paths_and_settling : (lent state : List ℤ)
    → (judged_by_kind two_counters_bytes curve_settling_bytes lent ≡ refusal_of 2 4 4)
    × (bounded_by_kind two_counters_bytes curve_settling_bytes state ≡ record { verdict = refusal_of 1 4 4; bound = 0 })
unfolding computing two_counters_bytes curve_settling_bytes
paths_and_settling lent state = (
  paths_with_settling two_counters_bytes curve_settling_bytes lent refl
      (record { a_length = omega arith; a_kind = omega arith; stated = refl }) refl,
  paths_never_bounded two_counters_bytes curve_settling_bytes state (record { a_length = omega arith; a_kind = omega arith; stated = refl }) refl,
)

-- 5 bytes, of which the last would be the kind's first: refused alike either way
pub cut_in_its_kind :
    (of_settling (take 5 curve_settling_bytes) ≡ true)
    × (judged_by_kind curve_bytes (take 5 curve_settling_bytes) three ≡ judged curve_bytes (take 5 curve_settling_bytes) three)
    × (bounded_by_kind curve_bytes (take 5 curve_settling_bytes) at_0_5 ≡ bounds (bound_of curve_bytes (take 5 curve_settling_bytes) at_0_5))
    × (judged_by_kind curve_bytes (take 5 curve_settling_bytes) three ≡ refusal_of 2 1 5)
unfolding computing curve_bytes curve_settling_bytes
cut_in_its_kind =
    let cut = short_unframed (take 5 curve_settling_bytes) (omega arith) in (
      refl,
      (unframed_judged curve_bytes (take 5 curve_settling_bytes) cut three).0,
      unframed_bounded curve_bytes (take 5 curve_settling_bytes) cut at_0_5,
      refl,
    )

-- ---- in values: the bytes made of the curve and of its settling are those written out, and the statements in values reach them

abbrev room_of_70 : List ℕ
room_of_70 = replicate 70 0

pub made_as_written :
    (bytes_in (loop_writer 2 5 curve.rows room_of_70) room_of_70 ≡ curve_bytes)
    × (settling_bytes curve_settles ≡ curve_settling_bytes)
unfolding computing Rows.computing making bytes_in g_bytes settling_bytes curve_bytes curve_settling_bytes
made_as_written = (refl, refl)

curve_given : LoopGiven 2 5 curve.rows room_of_70
curve_given = record { counts_in = curve_in_limits.0; rows_in = curve_in_limits.1; fits = omega arith }

too_soon_in : SettlingIn 2 5 too_soon
too_soon_in = rw (curve_counts.2, curve_counts.3, held_as_curve.6) at (held_is_in too_soon_pair too_soon_sound)

room_for_rank : 2 ≤ length three
room_for_rank = omega arith

pub curve_holds_by_bytes : SettlingHolds curve curve_settles
unfolding computing Rows.computing
curve_holds_by_bytes =
    (settling_in_values 2 5 curve.rows room_of_70 curve_settles curve_given curve_in_limits.2 three room_for_rank).0
    (ap (λ (a : Verdict). a.number)
    (settling_accepted 2 5 curve.rows room_of_70 curve_settles curve_given curve_in_limits.2 three room_for_rank curve_holds).0)

pub curve_bounded_in_values : (bounded_by_kind (bytes_in (loop_writer 2 5 curve.rows room_of_70) room_of_70) (settling_bytes curve_settles) at_0_5
    ).verdict.number ≡ 0
unfolding computing Rows.computing
curve_bounded_in_values =
    ap (λ (b : Bounded). b.verdict.number)
    (settling_bound_in_values 2 5 curve.rows room_of_70 curve_settles curve_given curve_in_limits.2 at_0_5 state_is_in curve_holds)

pub curve_holds_by_bound : SettlingHolds curve curve_settles
unfolding computing Rows.computing
curve_holds_by_bound =
    (settling_bounded_in_values 2 5 curve.rows room_of_70 curve_settles curve_given curve_in_limits.2 at_0_5 state_is_in
    ).0 curve_bounded_in_values

pub too_soon_told_in_values :
    (judged_by_kind (bytes_in (loop_writer 2 5 curve.rows room_of_70) room_of_70) (settling_bytes too_soon) three ≡ refusal_of 2 24 0)
    × (bounded_by_kind (bytes_in (loop_writer 2 5 curve.rows room_of_70) room_of_70) (settling_bytes too_soon) at_0_5
    ≡ record { verdict = refusal_of 2 24 0; bound = 0 })
unfolding curve
too_soon_told_in_values = (
  (settling_told_in_values 2 5 curve.rows room_of_70 too_soon curve_given too_soon_in three room_for_rank 24 0 (omega arith)).1 too_soon_fails,
  (settling_told_bound_in_values 2 5 curve.rows room_of_70 too_soon curve_given too_soon_in at_0_5 state_is_in 24 0 (omega arith)
      ).1 too_soon_fails,
)

pub too_soon_fails_in_values : SettlingFails curve too_soon 24 0 × SettlingFails curve too_soon 24 0
unfolding curve
too_soon_fails_in_values = (
  (settling_told_in_values 2 5 curve.rows room_of_70 too_soon curve_given too_soon_in three room_for_rank 24 0 (omega arith)
      ).0 too_soon_told_in_values.0,
  (settling_told_bound_in_values 2 5 curve.rows room_of_70 too_soon curve_given too_soon_in at_0_5 state_is_in 24 0 (omega arith)
      ).0 too_soon_told_in_values.1,
)
