-- S1 as a short ranking, P's second certificate as one, and one without triples, of the records' own bytes. What is promised of every pair is said here
-- of these, each way of each, so a promise that were weakened would be missed. S1's bytes are written out by hand in crate `record_short`.
use mathlib.Core.Path.{◌≡◌, refl, ap}
use mathlib.Core.Bool.{true, false}
use mathlib.Core.List.{List, [], ◌∷◌}
use Prim.Native.Nat.{ℕ, ◌≤◌}
use native.Mathlib.Omega.{arith}
use lib.IntN.{ℤ, pos}
use lib.ListN.{length, replicate, take}
use Rattle.record.specs.Samples as Records
use Rattle.record_short.specs.ShortRecords.{long_bytes}
use Rattle.record_short.proofs.ShortEdges.{S1-short}
use Rattle.theory.specs.Fails.{RankingFails}
use Rattle.theory.specs.Loops.{Run, Endless}
use Rattle.theory.specs.Rankings.{RankingHolds, rank, start, fall, bound}
use Rattle.theory.specs.Samples as Rows
use Rattle.verdict.specs.Samples.{P, S1, −}
use Rattle.verdict.specs.Stages.{shows, refusal_of}
use Rattle.verdict.specs.declared.Bounded.{Bounded}
use Rattle.verdict.specs.declared.Outcome.TheVariants.{Ranking}
use Rattle.verdict.specs.declared.Verdict.{Verdict}
use Rattle.whole.specs.Sums.{dot, Each}
use Rattle.verdict_short.specs.Answers.{is_short, answered, rank_answered, bounded_answered}
use Rattle.verdict_short.specs.AnswersComputing.{computing}
use Rattle.verdict_short.specs.ShortContents.{loop_of, ranking_of}
use Rattle.verdict_short.specs.ShortJudging.{variables_of, of_short, short_pair}
use Rattle.verdict_short.proofs.LongJudged.{ShortAccepted, ShortBounded}
use Rattle.verdict_short.proofs.ShortAccepted.{short_accepted_exactly_when, ShortAnswers, short_answers, short_bounded_exactly_when, short_bound_is}
use Rattle.verdict_short.proofs.ShortDemands.{short_promise_as_told, short_ends, short_bound_kept, short_ends_bound}
use Rattle.verdict_short.proofs.ShortToldExactly.{told_exactly_short, told_exactly_short_bound}

-- ---- bytes

-- no triple at all
unfoldable pub none_short : List ℕ
none_short = 4 ∷ 0 ∷ 0 ∷ 0 ∷ 7 ∷ 0 ∷ 0 ∷ 0 ∷ []

-- P's second certificate, Y (1,0,0), Z (0,1,0): rows 0 and 1 have weight
unfoldable pub second_short : List ℕ
second_short = 16 ∷ 0 ∷ 0 ∷ 0 ∷ 7 ∷ 0 ∷ 2 ∷ 0 ∷ 0 ∷ 0 ∷ 1 ∷ 0 ∷ 0 ∷ 0 ∷ 1 ∷ 0 ∷ 0 ∷ 0 ∷ 1 ∷ 0 ∷ []

-- a list of three places, and a state
abbrev pub three : List ℤ
three = pos 7 ∷ pos 8 ∷ pos 9 ∷ []

abbrev pub at_5_1 : List ℤ
at_5_1 = pos 5 ∷ pos 1 ∷ []

-- ---- what they stand for

pub held_as_S1 :
    (loop_of (short_pair P S1-short) ≡ Rows.P)
    × (ranking_of (short_pair P S1-short) ≡ Rows.S1)
    × (loop_of (short_pair P second_short) ≡ Rows.P)
    × (ranking_of (short_pair P second_short) ≡ Rows.ranking (1 ∷ 0 ∷ 0 ∷ []) (0 ∷ 1 ∷ 0 ∷ []))
    × (ranking_of (short_pair P none_short) ≡ Rows.ranking (0 ∷ 0 ∷ 0 ∷ []) (0 ∷ 0 ∷ 0 ∷ []))
    × (long_bytes 2 3 S1-short ≡ S1)
    × (long_bytes 2 3 none_short ≡ 14 ∷ 0 ∷ 0 ∷ 0 ∷ 2 ∷ 0 ∷ replicate 12 0)
unfolding computing S1-short second_short none_short P S1 Records.P Records.S1 Rows.P Rows.S1
held_as_S1 = (refl, refl, refl, refl, refl, refl, refl)

-- ---- what is answered: r (1, -1), from 2, down 1, as of S1; bounds 3, 1 and 0, as S4 to S6

pub S1-short-answers :
    (is_short P S1-short ≡ true)
    × (answered P S1-short three ≡ shows (Ranking (pos 2) (pos 1)))
    × (rank_answered P S1-short three ≡ pos 1 ∷ − 1 ∷ pos 9 ∷ [])
    × (bounded_answered P S1-short at_5_1 ≡ record { verdict = shows (Ranking (pos 2) (pos 1)); bound = 3 })
    × ((bounded_answered P S1-short (pos 3 ∷ pos 1 ∷ [])).bound ≡ 1)
    × ((bounded_answered P S1-short (pos 2 ∷ pos 1 ∷ [])).bound ≡ 0)
unfolding computing S1-short P Records.P
S1-short-answers = (refl, refl, refl, refl, refl, refl)

-- word for word what S1 has
pub S1-either-way :
    (answered P S1-short three ≡ answered P S1 three)
    × (rank_answered P S1-short three ≡ rank_answered P S1 three)
    × (bounded_answered P S1-short at_5_1 ≡ bounded_answered P S1 at_5_1)
    × (is_short P S1 ≡ false)
unfolding computing S1-short P S1 Records.P Records.S1
S1-either-way = (refl, refl, refl, refl)

-- no triple: 24 at 0. Two triples: 22 in column 1
pub refused_short_answers :
    (answered P none_short three ≡ refusal_of 2 24 0)
    × (rank_answered P none_short three ≡ three)
    × (bounded_answered P none_short at_5_1 ≡ record { verdict = refusal_of 2 24 0; bound = 0 })
    × (answered P second_short three ≡ refusal_of 2 22 1)
    × (rank_answered P second_short three ≡ three)
    × (bounded_answered P second_short at_5_1 ≡ record { verdict = refusal_of 2 22 1; bound = 0 })
unfolding computing second_short none_short P Records.P
refused_short_answers = (refl, refl, refl, refl, refl, refl)

-- ---- accepted exactly when

kinds : (of_short S1-short ≡ true) × (of_short second_short ≡ true)
unfolding computing S1-short second_short
kinds = (refl, refl)

judged_zero : (answered P S1-short three).number ≡ 0
judged_zero = ap (λ (v : Verdict). v.number) S1-short-answers.1

bounded_zero : (bounded_answered P S1-short at_5_1).verdict.number ≡ 0
bounded_zero = ap (λ (b : Bounded). b.verdict.number) S1-short-answers.3

-- accepted, so the conditions hold; and as they hold, accepted
pub S1-short-accepted : ShortAccepted (short_pair P S1-short) three
S1-short-accepted = (short_accepted_exactly_when P S1-short kinds.0 three).0 judged_zero

pub S1-holds : RankingHolds Rows.P Rows.S1
S1-holds = rw (held_as_S1.0, held_as_S1.1) at S1-short-accepted.holds

pub S1-short-accepted-back : (answered P S1-short three).number ≡ 0
S1-short-accepted-back = (short_accepted_exactly_when P S1-short kinds.0 three).1 S1-short-accepted

pub S1-short-answers-as-promised : ShortAnswers P S1-short three
S1-short-answers-as-promised = short_answers P S1-short kinds.0 three S1-short-accepted-back

pub S1-short-bounded : ShortBounded (short_pair P S1-short) at_5_1
S1-short-bounded = (short_bounded_exactly_when P S1-short kinds.0 at_5_1).0 bounded_zero

pub S1-short-bounded-back : (bounded_answered P S1-short at_5_1).verdict.number ≡ 0
S1-short-bounded-back = (short_bounded_exactly_when P S1-short kinds.0 at_5_1).1 S1-short-bounded

-- ---- demands 2 and 3

-- (5, 1), (4, 1), (3, 1), (2, 1)
abbrev P-run : List (List ℤ)
P-run = (pos 4 ∷ pos 1 ∷ []) ∷ (pos 3 ∷ pos 1 ∷ []) ∷ (pos 2 ∷ pos 1 ∷ []) ∷ []

P-runs : Run Rows.P at_5_1 P-run
unfolding Rows.P Run Each dot
P-runs = search

-- 3 are told, and 3 are taken
pub S1-short-bound-kept : (length P-run ≡ 3) × (length P-run ≤ (bounded_answered P S1-short at_5_1).bound) × ((bounded_answered P S1-short at_5_1).bound ≡ 3)
S1-short-bound-kept = (
  refl,
  short_bound_kept P S1-short kinds.0 at_5_1 bounded_zero P-run (rw held_as_S1.0 P-runs),
  ap (λ (b : Bounded). b.bound) S1-short-answers.3,
)

pub P-ends : ((states : ℕ → List ℤ) → Endless Rows.P states → ⊥) × ((states : ℕ → List ℤ) → Endless Rows.P states → ⊥)
P-ends = (
  rw held_as_S1.0 at (short_ends P S1-short kinds.0 three judged_zero),
  rw held_as_S1.0 at (short_ends_bound P S1-short kinds.0 at_5_1 bounded_zero),
)

-- by the start and fall that are told and the rank that the list holds, from every state
S1-in-the-list : take (variables_of (short_pair P S1-short)) (rank_answered P S1-short three) ≡ pos 1 ∷ − 1 ∷ []
unfolding computing S1-short P Records.P
S1-in-the-list = refl

pub P-bounded-as-told : (x : List ℤ) (ys : List (List ℤ)) → Run Rows.P x ys → length ys ≤ bound (pos 1 ∷ − 1 ∷ []) (pos 2) (pos 1) x
P-bounded-as-told x ys run =
    let told = short_promise_as_told P S1-short kinds.0 three judged_zero (pos 2) (pos 1) (ap (λ (v : Verdict). v.outcome) S1-short-answers.1) in
    rw S1-in-the-list at (told.steps x ys tt (rw held_as_S1.0 run))

-- and the bound that is told is that formula's
pub S1-short-bound-is : (bounded_answered P S1-short at_5_1).bound ≡ bound (rank Rows.P Rows.S1) (start Rows.P Rows.S1) (fall Rows.P Rows.S1) at_5_1
S1-short-bound-is =
    rw (held_as_S1.0, held_as_S1.1) at (ap (λ (b : Bounded). b.bound) (short_bound_is P S1-short kinds.0 at_5_1 bounded_zero))

-- ---- what a refusal by a condition means: 22 is told in column 1, so it fails there first; and as it does, it is told

pub second_short_fails : RankingFails Rows.P (Rows.ranking (1 ∷ 0 ∷ 0 ∷ []) (0 ∷ 1 ∷ 0 ∷ [])) 22 1
second_short_fails =
    rw (held_as_S1.2, held_as_S1.3)
    at ((told_exactly_short P second_short kinds.1 three 22 1 (omega arith)).0 refused_short_answers.3).fails

pub second_short_told :
    (answered P second_short three ≡ refusal_of 2 22 1)
    × (bounded_answered P second_short at_5_1 ≡ record { verdict = refusal_of 2 22 1; bound = 0 })
second_short_told = (
  (told_exactly_short P second_short kinds.1 three 22 1 (omega arith)
      ).1 ((told_exactly_short P second_short kinds.1 three 22 1 (omega arith)).0 refused_short_answers.3),
  (told_exactly_short_bound P second_short kinds.1 at_5_1 22 1 (omega arith)
      ).1 ((told_exactly_short_bound P second_short kinds.1 at_5_1 22 1 (omega arith)).0 refused_short_answers.5),
)
