-- A certificate in judging: what the code's answer about its conditions means for the definition. Kinds that have a rank share one text.
use Rattle.std.specs.Prelude.{Result, Ok, Err}
use mathlib.Core.Path.{◌≡◌, sym, ap, ◌∙◌}
use Prim.Native.Nat.{ℕ, ◌≤◌, ◌<◌}
use mathlib.Core.Bool.{true}
use mathlib.Core.List.{List, ◌++◌}
use lib.IntN.{ℤ}
use lib.ListN.{length, drop}
use Rattle.record.specs.Layouts.{Kind, exclusion, has_rank, is_lasso}
use Rattle.refusal.specs.Faults.{result_of}
use Rattle.refusal.specs.Tests.{Told, done, refused, first}
use Rattle.refusal.specs.declared.Fault.{Fault}
use Rattle.refusal.proofs.FaultLaws.{told_refused, told_done}
use Rattle.theory.specs.Conditions.{exclusion_told}
use Rattle.theory.specs.Rankings as Rankings
use Rattle.judge_conditions.specs.LoopHeld.{loop_held}
use Rattle.judge_exclusion.specs.ExclusionHeld.{exclusion_held}
use Rattle.judge_ranking.specs.RankedBy.{rank_put}
use Rattle.judge_ranking.specs.declared.Ranked.{Ranked}
use Rattle.verdict.specs.Claims.{ranking_claim, exclusion_claim, lasso_claim}
use Rattle.verdict.specs.Judging.{Judging, rank_room, judges, rank_after, judge_of, certificates_judged}
use Rattle.verdict.specs.Outcomes.{grade_of}
use Rattle.verdict.specs.Pairs.{Pair, pair_of, pair_kind, variables_of, claim, conditions}
use Rattle.verdict.specs.Stages.{shows, refusal_of}
use Rattle.verdict.specs.declared.Outcome.TheVariants.{Exclusion}
use Rattle.verdict.proofs.Accepted.{BothSound, room_there, no_room_needed}
use Rattle.verdict.proofs.ClaimAnswers.{judged_agreed, judged_fails}
use Rattle.verdict.proofs.StageLaws.{by_told}
use Rattle.judge.specs.SoundPairs.{first_row, LoopSound, CertificateSound, ranked_loop, ranking_of, start_of, fall_of, RankedOf, rank_outcome, verdict_shown}
use Rattle.judge.proofs.RankKinds.{by_rank}
use Rattle.judge.proofs.SoundContents.{exclusion_told_lem, exclusion_of}
use Rattle.judge.proofs.JudgingWays.{refused_so, at_room}

-- ---- kinds that have a rank

-- what they show, and their rank
pub outcome_is : (k : Kind) (p : Pair) → pair_kind p ≡ k → has_rank k ≡ true → rank_outcome k (start_of p) (fall_of p) ≡ (claim k p).outcome
unfolding rank_outcome claim ranking_claim lasso_claim start_of fall_of ranked_loop ranking_of is_lasso
outcome_is k p is h = by_rank (λ k. pair_kind p ≡ k → rank_outcome k (start_of p) (fall_of p) ≡ (claim k p).outcome) k h (λ e. rw e) (λ e. rw e) is

pub rank_is : (k : Kind) (p : Pair) → pair_kind p ≡ k → has_rank k ≡ true → Rankings.rank (ranked_loop p) (ranking_of p) ≡ (claim k p).rank
unfolding claim ranking_claim lasso_claim ranked_loop ranking_of is_lasso
rank_is k p is h = by_rank (λ k. pair_kind p ≡ k → Rankings.rank (ranked_loop p) (ranking_of p) ≡ (claim k p).rank) k h (λ e. rw e) (λ e. rw e) is

module _ (loopbytes : List ℕ) (n m : ℕ) (l : LoopSound loopbytes n m) (certificate : List ℕ) (lent : List ℤ) where
  abbrev j : Judging
  j = judge_of loopbytes certificate lent

  abbrev p : Pair
  p = pair_of certificates_judged loopbytes certificate

  module _ (k : Kind) (c : CertificateSound certificates_judged loopbytes certificate k) where
    kind_told : pair_kind p ≡ k
    unfolding pair_kind
    kind_told = c.kind_is

    both_sound : BothSound p
    both_sound = record { loop_sound = l.told; certificate_sound = c.told }

    claimed : (t : Told) → conditions p ≡ t → (claim k p).told ≡ t
    unfolding conditions
    claimed t told = ap (λ k. (claim k p).told) (sym kind_told) ∙ told

    -- the conditions hold
    agreed_so : first rank_room j ≡ done → conditions p ≡ done
        → (shows (claim k p).outcome ≡ judges j) × ((claim k p).rank ++ drop (length (claim k p).rank) lent ≡ rank_after j lent)
    unfolding judge_of
    agreed_so room holds = let a = judged_agreed j lent k both_sound kind_told room (claimed done holds) in (sym a.0, sym a.1)

    -- a condition fails
    fails_so : first rank_room j ≡ done → (number place : ℕ) → conditions p ≡ refused number place → (refusal_of 2 number place ≡ judges j) × (lent ≡ rank_after j lent)
    unfolding judge_of
    fails_so room number place fails = let a = judged_fails j lent k both_sound kind_told room number place (claimed _ fails) in (sym a.0, sym a.1)

    module _ (ranked : has_rank k ≡ true) where
      -- a rank list that is too short
      pub short_list : length lent < n → (refusal_of 0 7 n ≡ judges j) × (lent ≡ rank_after j lent)
      unfolding judge_of variables_of
      short_list short =
          let here = at_room j l.told c.told (rw kind_told ranked) (rw (← l.n_is) short) in
          refused_so j lent 0 7 n (rw (← l.n_is) at here)

      module _ (r : Result Ranked Fault) (after : List ℤ) (by : RankedOf r p lent after) (room : n ≤ length lent) where
        room_told : first rank_room j ≡ done
        unfolding judge_of variables_of
        room_told = (room_there j (rw kind_told ranked)).1 (rw (← l.n_is) room)

        pub ranked_judged : (verdict_shown k r ≡ judges j) × (after ≡ rank_after j lent)
        unfolding verdict_shown result_of rank_put start_of fall_of
        ranked_judged =
            by_told (conditions p)
            (λ e.
            let answers = agreed_so room_told e in
            let shown : r ≡ Ok (record { start = start_of p; fall = fall_of p }) = rw e at by.shown in (
              rw shown (ap shows (outcome_is k p kind_told ranked) ∙ answers.0),
              rw e at by.put ∙ rw (rank_is k p kind_told ranked) answers.1,
            ))
            (λ number place e.
            let answers = fails_so room_told number place e in
            let shown : r ≡ Err (record { number = number; place = place }) = rw e at by.shown in
            (rw shown answers.0, rw e at by.put ∙ answers.1))

  -- ---- kind 3

  module _ (c : CertificateSound certificates_judged loopbytes certificate exclusion) (answer : Result (Unit {0}) Fault)
      (is : answer ≡ result_of (exclusion_told (loop_held loopbytes first_row n m) (exclusion_held certificate n)) tt) where
    no_room : first rank_room j ≡ done
    unfolding judge_of has_rank
    no_room = no_room_needed j (rw (kind_told exclusion c))

    answer_is : answer ≡ result_of (conditions p) tt
    answer_is = is ∙ ap (λ t. result_of t tt) (exclusion_told_lem loopbytes n m l certificates_judged certificate c)

    pub exclusion_refused : (f : Fault) → Err f ≡ answer → (refusal_of 2 f.number f.place ≡ judges j) × (lent ≡ rank_after j lent)
    exclusion_refused f so = fails_so exclusion c no_room f.number f.place (told_refused (conditions p) tt f (so ∙ answer_is))

    pub exclusion_accepted : Ok tt ≡ answer → (shows (Exclusion (grade_of (exclusion_held certificate n))) ≡ judges j) × (lent ≡ rank_after j lent)
    unfolding claim exclusion_claim
    exclusion_accepted so =
        let held = exclusion_of loopbytes n m l certificates_judged certificate c in
        let answers = agreed_so exclusion c no_room (told_done (conditions p) tt tt (so ∙ answer_is)) in
        (rw held at answers.0, answers.1)
