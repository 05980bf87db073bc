-- Two counters and ping-pong, of the records' own bytes. The bytes hold the samples of crate `theory_paths`; the first pair is accepted, the second
-- is refused with 53 at path 1; and what is promised of every pair is said here of these, each way of each, so a promise that were weakened would
-- be missed.
use mathlib.Core.Path.{◌≡◌, refl, sym, ap, ◌∙◌}
use mathlib.Core.Bool.{true, false}
use mathlib.Core.List.{List, [], ◌∷◌}
use Prim.Native.Nat.{ℕ, zero, suc}
use native.Mathlib.Omega.{arith}
use lib.IntN.{ℤ, pos}
use lib.ListN.{length, take}
use Rattle.refusal.specs.Places.{Throughout}
use Rattle.record.specs.Ranges.{◌to◌, either_way, variables, rows, entries, right_sides, multipliers, directions}
use Rattle.record.specs.Samples as Records
use Rattle.record_paths.specs.PathCertificates.{counted}
use Rattle.record_paths.specs.PathFields.{path_counts, component_counts, falls}
use Rattle.theory_paths.specs.Lexicographics.{part_at, LexicographicHolds, WellFormed, Ends}
use Rattle.theory_paths.specs.PathFails.{LexicographicFails}
use Rattle.theory_paths.specs.PathSamples.{two_counters, two_counters_argument, ping_pong, ping_pong_argument, third_counter, third_owned}
use Rattle.theory_paths.specs.PathTable as Rows
use Rattle.theory_paths.specs.Paths.{rows_for}
use Rattle.theory_paths.proofs.PathDecisions.{lexicographic_decided, told_exactly_lexicographic}
use Rattle.theory_paths.proofs.PathSampleTheorems.{one_by_one_is_wrong}
use Rattle.verdict.specs.Judging.{judges, rank_after, judge_of}
use Rattle.verdict.specs.Samples.{P, S1}
use Rattle.verdict.specs.Stages.{shows, refusal_of}
use Rattle.verdict.specs.declared.Outcome.TheVariants.{Nothing, Lexicographic}
use Rattle.verdict.specs.declared.Verdict.{Verdict}
use Rattle.whole.specs.Sums.{Each}
use Rattle.verdict_paths.specs.JudgingByLoop.{of_paths, judged, rank_judged}
use Rattle.verdict_paths.specs.JudgingComputing.{computing}
use Rattle.verdict_paths.specs.PathContents.{branches_in, lexicographic_in}
use Rattle.verdict_paths.specs.PathJudging.{PathPair, path_judges}
use Rattle.verdict_paths.specs.PathValues.{BranchesIn, PartIn, ArgumentIn, branches_bytes, argument_bytes, making}
use Rattle.verdict_paths.specs.PathSampleBytes.{two_counters_bytes, two_counters_argument_bytes, ping_pong_bytes, ping_pong_argument_bytes}
use Rattle.verdict_paths.specs.PathSampleBytes.{third_counter_bytes, third_counter_argument_bytes}
use Rattle.verdict_paths.proofs.PathDemands.{accepted_ends, shown_ends, paths_leave_list, by_rows, accepted_by_rows, only_together}
use Rattle.verdict_paths.proofs.PathDemands.{frame_refused}
use Rattle.verdict_paths.proofs.PathsAccepted.{PairSound, LexicographicAccepted, paths_accepted_exactly_when, accepted_paths_show}
use Rattle.verdict_paths.proofs.PathsAccepted.{refused_paths_show_nothing}
use Rattle.verdict_paths.proofs.PathsInRange.{sound_branches, sound_argument, sound_well_formed}
use Rattle.verdict_paths.proofs.PathsInValues.{paths_in_values, proposal_accepted, paths_told_in_values}
use Rattle.verdict_paths.proofs.PathsToldExactly.{PathsFail, told_exactly_pairs, told_exactly_paths, paths_never_7, judged_never_8}

abbrev pub counters : PathPair
counters = record { loopbytes = two_counters_bytes; certificate = two_counters_argument_bytes }

abbrev pub to_and_fro : PathPair
to_and_fro = record { loopbytes = ping_pong_bytes; certificate = ping_pong_argument_bytes }

-- ---- what the bytes hold

pub held_as_paths :
    (length two_counters_bytes ≡ 98)
    × (length two_counters_argument_bytes ≡ 80)
    × (length ping_pong_bytes ≡ 134)
    × (length ping_pong_argument_bytes ≡ 94)
    × (branches_in two_counters_bytes ≡ two_counters)
    × (lexicographic_in (counted two_counters_bytes) two_counters_argument_bytes ≡ two_counters_argument)
    × (branches_in ping_pong_bytes ≡ ping_pong)
    × (lexicographic_in (counted ping_pong_bytes) ping_pong_argument_bytes ≡ ping_pong_argument)
    × (branches_in third_counter_bytes ≡ third_counter)
    × (lexicographic_in (counted third_counter_bytes) third_counter_argument_bytes
    ≡ third_owned ((0 ∷ 1 ∷ 0 ∷ 0 ∷ []) ∷ (0 ∷ 0 ∷ 1 ∷ 0 ∷ []) ∷ []))
unfolding
    computing Rows.computing two_counters_bytes two_counters_argument_bytes ping_pong_bytes ping_pong_argument_bytes third_counter_bytes
    third_counter_argument_bytes
held_as_paths = (refl, refl, refl, refl, refl, refl, refl, refl, refl, refl)

-- ---- what is answered

pub samples_judged :
    (of_paths two_counters_bytes ≡ true)
    × (judged two_counters_bytes two_counters_argument_bytes (pos 77 ∷ []) ≡ shows Lexicographic)
    × (rank_judged two_counters_bytes two_counters_argument_bytes (pos 77 ∷ []) ≡ pos 77 ∷ [])
    × (of_paths ping_pong_bytes ≡ true)
    × (judged ping_pong_bytes ping_pong_argument_bytes [] ≡ refusal_of 2 53 1)
    × (rank_judged ping_pong_bytes ping_pong_argument_bytes (pos 77 ∷ []) ≡ pos 77 ∷ [])
    × (judged third_counter_bytes third_counter_argument_bytes [] ≡ shows Lexicographic)
unfolding
    computing two_counters_bytes two_counters_argument_bytes ping_pong_bytes ping_pong_argument_bytes third_counter_bytes
    third_counter_argument_bytes
samples_judged = (refl, refl, refl, refl, refl, refl, refl)

-- ---- the promises, of two counters

counters_sound : PairSound counters
unfolding computing two_counters_bytes two_counters_argument_bytes
counters_sound = record { loop_sound = refl; certificate_sound = refl }

-- accepted, so the conditions hold; and as they hold, accepted
pub counters_accepted : LexicographicAccepted counters
unfolding computing two_counters_bytes two_counters_argument_bytes
counters_accepted = (paths_accepted_exactly_when counters).0 refl

pub counters_accepted_back : path_judges counters ≡ shows Lexicographic
unfolding Rows.computing
counters_accepted_back =
    accepted_paths_show counters ((paths_accepted_exactly_when counters).1 (record {
      both_sound = counters_sound;
      holds = rw (held_as_paths.4, held_as_paths.5) ((lexicographic_decided two_counters two_counters_argument).0 refl);
    }))

pub counters_well_formed : WellFormed two_counters two_counters_argument
counters_well_formed = rw (held_as_paths.4, held_as_paths.5) at (sound_well_formed counters counters_sound)

-- demand 3, from the number and from the outcome; and what was lent stays
pub counters_end : Ends two_counters
counters_end =
    rw held_as_paths.4
    at (accepted_ends two_counters_bytes two_counters_argument_bytes (pos 77 ∷ []) samples_judged.0
    (ap (λ (a : Verdict). a.number) samples_judged.1))

pub counters_end_as_shown : Ends two_counters
counters_end_as_shown =
    rw held_as_paths.4
    at (shown_ends two_counters_bytes two_counters_argument_bytes (pos 77 ∷ []) (ap (λ (a : Verdict). a.outcome) samples_judged.1))

pub counters_leave_list : (lent : List ℤ) → rank_judged two_counters_bytes two_counters_argument_bytes lent ≡ lent
counters_leave_list lent = paths_leave_list two_counters_bytes two_counters_argument_bytes lent samples_judged.0

-- ---- of ping-pong: 53 at path 1 is told, so it fails there; and as it fails there, it is told

to_and_fro_sound : PairSound to_and_fro
unfolding computing ping_pong_bytes ping_pong_argument_bytes
to_and_fro_sound = record { loop_sound = refl; certificate_sound = refl }

pub to_and_fro_fails : LexicographicFails ping_pong ping_pong_argument 53 1
unfolding computing ping_pong_bytes ping_pong_argument_bytes
to_and_fro_fails = rw (held_as_paths.6, held_as_paths.7) at ((told_exactly_paths to_and_fro to_and_fro_sound 53 1).0 refl)

pub to_and_fro_told : path_judges to_and_fro ≡ refusal_of 2 53 1
unfolding Rows.computing
to_and_fro_told =
    (told_exactly_paths to_and_fro to_and_fro_sound 53 1).1
    (rw (held_as_paths.6, held_as_paths.7) ((told_exactly_lexicographic ping_pong ping_pong_argument 53 1).0 refl))

pub to_and_fro_failing : PathsFail to_and_fro 53 1
unfolding computing ping_pong_bytes ping_pong_argument_bytes
to_and_fro_failing = (told_exactly_pairs to_and_fro 53 1 (omega arith)).0 refl

-- a pair that is refused shows nothing, and no answer with 0 exists for it, as it runs for ever
pub to_and_fro_shows_nothing : (path_judges to_and_fro).outcome ≡ Nothing
to_and_fro_shows_nothing =
    refused_paths_show_nothing to_and_fro
    (λ h. let z : ◌≡◌ {A = ℕ} 53 0 = sym (ap (λ (a : Verdict). a.number) to_and_fro_told) ∙ h in omega arith)

pub ping_pong_never_accepted : (certificate : List ℕ) (lent : List ℤ) → (judged ping_pong_bytes certificate lent).number ≡ 0 → ⊥
ping_pong_never_accepted certificate lent h =
    one_by_one_is_wrong.1 (rw held_as_paths.6 at (accepted_ends ping_pong_bytes certificate lent samples_judged.3 h))

pub ping_pong_never_7 : (certificate : List ℕ) (lent : List ℤ) → (judged ping_pong_bytes certificate lent).number ≡ 7 → ⊥
ping_pong_never_7 certificate lent = paths_never_7 ping_pong_bytes certificate lent samples_judged.3

pub never_8_of_either : (certificate : List ℕ) (lent : List ℤ)
    → ((judged ping_pong_bytes certificate lent).number ≡ 8 → ⊥) × ((judged P certificate lent).number ≡ 8 → ⊥)
never_8_of_either certificate lent = (judged_never_8 ping_pong_bytes certificate lent, judged_never_8 P certificate lent)

-- ---- the other kinds: P and its ranking S1 are judged as before

P-by-rows : of_paths P ≡ false
unfolding computing P Records.P
P-by-rows = refl

pub P-as-before : (lent : List ℤ)
    → (judged P S1 lent ≡ judges (judge_of P S1 lent)) × (rank_judged P S1 lent ≡ rank_after (judge_of P S1 lent) lent)
P-as-before lent = by_rows P S1 lent P-by-rows

pub P-accepted-by-rows : of_paths P ≡ false
unfolding computing P S1 Records.P Records.S1
P-accepted-by-rows =
    accepted_by_rows P S1 (pos 0 ∷ pos 0 ∷ []) refl (λ e. let z : ◌≡◌ {A = ℕ} 0 1 = cc in omega arith)

-- kinds 5 and 6 only together: two counters with S1, and P with two counters' argument
pub five_with_two : judged two_counters_bytes S1 [] ≡ refusal_of 2 4 4
unfolding computing S1 Records.S1
five_with_two =
    (only_together two_counters_bytes S1 [] (record { a_length = omega arith; a_kind = omega arith; stated = refl })
    ).five_alone counters_sound.loop_sound (λ e. omega arith)

pub one_with_six : judged P two_counters_argument_bytes [] ≡ refusal_of 2 4 4
unfolding computing P Records.P two_counters_argument_bytes
one_with_six =
    (only_together P two_counters_argument_bytes [] (record { a_length = omega arith; a_kind = omega arith; stated = refl })).six_alone refl refl

-- a loop record that breaks off is refused alike, of either kind
pub broken_off : (certificate : List ℕ) (lent : List ℤ)
    → (judged (take 97 two_counters_bytes) certificate lent ≡ refusal_of 1 1 97) × (judged (take 45 P) certificate lent ≡ refusal_of 1 1 45)
unfolding computing two_counters_bytes P Records.P
broken_off certificate lent = (
  frame_refused (take 97 two_counters_bytes) certificate lent 1 97 refl,
  frame_refused (take 45 P) certificate lent 1 45 refl,
)

-- ---- in values: the samples are within the limits, the bytes made of them are those written out, and the statements in values reach them

pub made_as_written :
    (branches_bytes two_counters ≡ two_counters_bytes)
    × (argument_bytes two_counters two_counters_argument ≡ two_counters_argument_bytes)
    × (branches_bytes ping_pong ≡ ping_pong_bytes)
    × (argument_bytes ping_pong ping_pong_argument ≡ ping_pong_argument_bytes)
unfolding computing Rows.computing making two_counters_bytes two_counters_argument_bytes ping_pong_bytes ping_pong_argument_bytes
made_as_written = (refl, refl, refl, refl)

counters_in : BranchesIn two_counters
unfolding two_counters variables rows entries right_sides path_counts ◌to◌ either_way Each
counters_in = record { n_in = search; count_in = search; each = search }

counters_argument_in : ArgumentIn two_counters two_counters_argument
unfolding two_counters two_counters_argument multipliers directions right_sides falls component_counts ◌to◌ either_way Each
counters_argument_in = record { count_in = search; components_in = search; parts_counted = refl; parts_in = each_part }
  where
    each_part : Throughout 2 (λ j. PartIn 2 (length (rows_for two_counters j)) (part_at two_counters_argument j))
    each_part zero below = search
    each_part (suc zero) below = search
    each_part (suc (suc j)) below = absurd (omega arith)

pub counters_accepted_in_values : (lent : List ℤ)
    → judged (branches_bytes two_counters) (argument_bytes two_counters two_counters_argument) lent ≡ shows Lexicographic
unfolding Rows.computing
counters_accepted_in_values lent =
    proposal_accepted two_counters two_counters_argument counters_in counters_argument_in lent
    ((lexicographic_decided two_counters two_counters_argument).0 refl)

pub counters_hold : LexicographicHolds two_counters two_counters_argument
counters_hold =
    (paths_in_values two_counters two_counters_argument counters_in counters_argument_in []
    ).0 (ap (λ (a : Verdict). a.number) (counters_accepted_in_values []))

-- ping-pong is within the limits as its bytes are sound
ping_pong_in : BranchesIn ping_pong
ping_pong_in = rw held_as_paths.6 at (sound_branches to_and_fro to_and_fro_sound)

ping_pong_argument_in : ArgumentIn ping_pong ping_pong_argument
ping_pong_argument_in = rw (held_as_paths.6, held_as_paths.7) at (sound_argument to_and_fro to_and_fro_sound)

pub ping_pong_told_in_values : (lent : List ℤ)
    → judged (branches_bytes ping_pong) (argument_bytes ping_pong ping_pong_argument) lent ≡ refusal_of 2 53 1
ping_pong_told_in_values lent = (paths_told_in_values ping_pong ping_pong_argument ping_pong_in ping_pong_argument_in lent 53 1).1 to_and_fro_fails

pub ping_pong_fails_in_values : LexicographicFails ping_pong ping_pong_argument 53 1
ping_pong_fails_in_values =
    (paths_told_in_values ping_pong ping_pong_argument ping_pong_in ping_pong_argument_in [] 53 1).0 (ping_pong_told_in_values [])
