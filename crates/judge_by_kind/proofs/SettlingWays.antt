-- The ways through judging a certificate of kind 8, one for each return: what is told of the records, and the verdict and the rank list that
-- the definition then has.
use Rattle.std.specs.Prelude.{Result, Ok, Err}
use mathlib.Core.Path.{◌≡◌, ◌∙◌}
use Prim.Native.Nat.{ℕ, ◌≤◌, ◌<◌}
use mathlib.Core.List.{List, ◌++◌}
use lib.IntN.{ℤ}
use lib.ListN.{length, drop}
use borrow.Author.Tests.{le-leb, lt-leb}
use Rattle.refusal.specs.declared.Fault.{Fault}
use Rattle.refusal.proofs.FaultLaws.{told_done, told_given, told_refused}
use Rattle.refusal.specs.Tests.{done, refused, first}
use Rattle.refusal.proofs.TestLaws.{failed, passes_done}
use Rattle.theory.specs.Rankings.{rank}
use Rattle.theory_settling.specs.Settlings.{longer}
use Rattle.verdict.specs.Judging.{ranks}
use Rattle.verdict.specs.Stages.{agreed, refusal, said, shows, refusal_of, verdict_of}
use Rattle.verdict.specs.declared.Outcome.TheVariants.{Settling}
use Rattle.verdict.proofs.StageLaws.{stage_done, stage_refused, agrees_said}
use Rattle.verdict_settling.specs.AnswersByKind.{pair_of, judging_of}
use Rattle.verdict_settling.specs.SettlingJudging.{SettlingPair, SettlingJudging, loop_of, settling_of, loop_told, certificate_told}
use Rattle.verdict_settling.specs.SettlingJudging.{conditions_told, settling_outcome, settling_rank, rank_room, settling_judging, settling_judges, settling_rank_after}
use Rattle.judge_conditions.specs.LoopHeld.{loop_held}
use Rattle.judge_ranking.specs.RankedBy.{rank_put, RankedBy}
use Rattle.judge_ranking.specs.declared.Ranked.{Ranked}
use Rattle.judge.specs.SoundPairs.{first_row, LoopSound}
use Rattle.judge_settling.specs.SettlingBy.{SettlingBy}
use Rattle.judge_settling.specs.SettlingHeld.{settling_held}
use Rattle.judge_settling.proofs.SettlingContentsHeld.{variables_are, settling_told}
use Rattle.judge_by_kind.specs.SettlingShown.{SettlingJudged}

module _ (loopbytes certificate : List ℕ) (lent : List ℤ) where
  abbrev p : SettlingPair
  p = pair_of loopbytes certificate

  abbrev j : SettlingJudging
  j = judging_of loopbytes certificate lent

  -- a refusal that is said: its verdict, and the list as it was
  refused_so : (about number place : ℕ) → said settling_judging j ≡ refusal about number place
      → SettlingJudged loopbytes certificate lent (refusal_of about number place) lent
  unfolding settling_judges settling_rank_after verdict_of ranks
  refused_so about number place h = (rw h, rw h)

  pub at_loop : (k q : ℕ) → loop_told p ≡ refused k q → SettlingJudged loopbytes certificate lent (refusal_of 1 k q) lent
  unfolding settling_judging
  at_loop k q h = refused_so 1 k q (stage_refused _ _ _ j k q h)

  module _ (loop_sound : loop_told p ≡ done) where
    pub at_certificate : (k q : ℕ) → certificate_told p ≡ refused k q → SettlingJudged loopbytes certificate lent (refusal_of 2 k q) lent
    unfolding settling_judging
    at_certificate k q h = refused_so 2 k q (stage_done _ _ _ j loop_sound ∙ stage_refused _ _ _ j k q h)

  module _ (n m : ℕ) (l : LoopSound loopbytes n m) (c : certificate_told p ≡ done) where
    -- a rank list that is too short
    pub at_room : length lent < n → SettlingJudged loopbytes certificate lent (refusal_of 0 7 n) lent
    unfolding settling_judging rank_room
    at_room short =
        let n_is = variables_are loopbytes certificate n m l in
        let told : first rank_room j ≡ refused 7 n = failed 7 _ _ _ j (rw n_is (lt-leb _ _ short)) ∙ rw n_is in
        refused_so 0 7 n (stage_done _ _ _ j l.told ∙ stage_done _ _ _ j c ∙ stage_refused _ _ _ j 7 n told)

    -- the conditions
    module _ (room : n ≤ length lent) (answer : Result Ranked Fault) (after : List ℤ)
        (by : SettlingBy answer (loop_held loopbytes first_row n m) (settling_held certificate n m) lent after) where
      room_told : first rank_room j ≡ done
      unfolding rank_room
      room_told = let n_is = variables_are loopbytes certificate n m l in passes_done rank_room j (rw n_is (le-leb _ _ room), tt)

      by_records : RankedBy answer (conditions_told p) (longer (loop_of p) (settling_of p)) (settling_of p).ranking lent after
      by_records = settling_told loopbytes certificate n m l answer lent after by

      pub all_hold : (r : Ranked) → Ok r ≡ answer → SettlingJudged loopbytes certificate lent (shows (Settling r.start r.fall)) after
      unfolding settling_judging settling_judges settling_rank_after settling_outcome settling_rank verdict_of ranks rank_put
      all_hold r so =
          let e = told_done (conditions_told p) _ r (so ∙ by_records.shown) in
          let shown = told_given (conditions_told p) _ r (so ∙ by_records.shown) in
          let all : said settling_judging j ≡ agreed = agrees_so e in
          let l = longer (loop_of p) (settling_of p) in
          let put : after ≡ rank l (settling_of p).ranking ++ drop (length (rank l (settling_of p).ranking)) lent = rw e at by_records.put in
          (rw (shown, all), put ∙ rw all)
        where
          agrees_so : conditions_told p ≡ done → said settling_judging j ≡ agreed
          agrees_so e = agrees_said settling_judging j (l.told, (c, (room_told, (e, tt))))

      pub one_fails : (f : Fault) → Err f ≡ answer → SettlingJudged loopbytes certificate lent (refusal_of 2 f.number f.place) after
      unfolding settling_judging rank_put
      one_fails f so =
          let e = told_refused (conditions_told p) _ f (so ∙ by_records.shown) in
          let told = refused_so 2 f.number f.place (stage_done _ _ _ j l.told ∙ stage_done _ _ _ j c ∙ stage_done _ _ _ j room_told ∙ stage_refused _ _ _ j f.number f.place e) in
          (told.0, rw e at by_records.put ∙ told.1)
