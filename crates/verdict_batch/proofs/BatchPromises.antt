-- What a batch promises of every input. It is judged exactly when the loop is sound, there are no more than 32 records, and there is room for all their verdicts and
-- ranks. Then verdict i is that of judging record i with stretch i, stretch i is what that judging leaves of it, and all that is past the last stays. A refusal
-- changes nothing.
use mathlib.Core.Path.{◌≡◌, refl, ap, ◌∙◌}
use mathlib.Core.Logic.{◌↔◌}
use Prim.Native.Nat.{ℕ, ◌*◌, ◌≤◌, ◌<◌}
use mathlib.Core.List.{List, [], ◌++◌}
use native.Mathlib.Omega.{arith}
use lib.IntN.{ℤ}
use lib.ListN.{length, get_or, drop, get_or-append}
use lib.Seq.{drop_at}
use borrow.Author.Tests.{le-leb, leb-true}
use Rattle.record_parting.specs.Parting.{records}
use Rattle.refusal.specs.Tests.{done}
use Rattle.refusal.proofs.TestLaws.{done_passes, passes_done}
use Rattle.verdict.specs.Stages.{agreed, refusal, said}
use Rattle.verdict.specs.declared.Verdict.{Verdict}
use Rattle.verdict.proofs.StageLaws.{said_agrees, agrees_said}
use Rattle.verdict_short.specs.Answers.{answered, rank_answered}
use Rattle.verdict_batch.specs.Batches.{Batch, loop_told, variables, count, numbers_needed, enough_room, batching, batch_of}
use Rattle.verdict_batch.specs.Batches.{verdicts_in_turn, ranks_in_turn, stretch, filled, ranked, verdicts_after, ranks_after}
use Rattle.verdict_batch.proofs.InTurn.{verdicts_length, as_one_by_one, stretch_after, past_last}

-- there is nothing to refuse
pub record JudgedAll (b : Batch) : Type 0 where
  pub loop_sound : loop_told b.loopbytes ≡ done
  pub few : count b ≤ 32
  pub placed : count b ≤ b.places
  pub numbered : variables b.loopbytes * count b ≤ b.numbers

pub judged_exactly_when : (b : Batch) → (said batching b ≡ agreed) ↔ JudgedAll b
unfolding batching enough_room numbers_needed
judged_exactly_when b = (
  λ h.
      let passes = said_agrees batching b h in
      let room = done_passes enough_room b passes.1.0 in
      record {
        loop_sound = passes.0;
        few = leb-true (count b) 32 room.0;
        placed = leb-true (count b) b.places room.1.0;
        numbered = leb-true (variables b.loopbytes * count b) b.numbers room.1.1.0;
      },
  λ h. agrees_said batching b (h.loop_sound, (passes_done enough_room b (le-leb _ _ h.few, (le-leb _ _ h.placed, (le-leb _ _ h.numbered, tt))), tt)),
)

module _ (loopbytes bytes : List ℕ) (row : List Verdict) (ranks : List ℤ) where
  abbrev b : Batch
  b = batch_of loopbytes bytes (length row) (length ranks)

  abbrev n : ℕ
  n = variables loopbytes

  -- ---- what is judged

  module _ (all : said batching b ≡ agreed) where
    verdicts_are : verdicts_after loopbytes bytes row ranks ≡ (let front = verdicts_in_turn loopbytes (records bytes) ranks in front ++ drop (length front) row)
    unfolding verdicts_after filled
    verdicts_are = rw all

    ranks_are : ranks_after loopbytes bytes (length row) ranks ≡ ranks_in_turn loopbytes (records bytes) ranks
    unfolding ranks_after ranked
    ranks_are = rw all

    room : n * length (records bytes) ≤ length ranks
    unfolding count
    room = ((judged_exactly_when b).0 all).numbered

    module _ (i : ℕ) (z : Verdict) (there : i < length (records bytes)) where
      abbrev certificate : List ℕ
      certificate = get_or (records bytes) i []

      pub verdict_in_row : get_or (verdicts_after loopbytes bytes row ranks) i z ≡ answered loopbytes certificate (stretch n i ranks)
      verdict_in_row =
          let front = verdicts_in_turn loopbytes (records bytes) ranks in
          ap (λ xs. get_or xs i z) verdicts_are
          ∙ get_or-append front _ z i (omega (arith, verdicts_length loopbytes (records bytes) ranks))
          ∙ as_one_by_one loopbytes i (records bytes) ranks z there

      pub rank_in_stretch : stretch n i (ranks_after loopbytes bytes (length row) ranks) ≡ rank_answered loopbytes certificate (stretch n i ranks)
      rank_in_stretch = ap (stretch n i) ranks_are ∙ stretch_after loopbytes i (records bytes) ranks there room

    -- past the last
    pub places_stay : drop (length (records bytes)) (verdicts_after loopbytes bytes row ranks) ≡ drop (length (records bytes)) row
    places_stay =
        let front = verdicts_in_turn loopbytes (records bytes) ranks in
        let long = verdicts_length loopbytes (records bytes) ranks in
        ap (drop (length (records bytes))) verdicts_are
        ∙ drop_at front (drop (length front) row) (length (records bytes)) long
        ∙ ap (λ k. drop k row) long

    pub numbers_stay : drop (n * length (records bytes)) (ranks_after loopbytes bytes (length row) ranks) ≡ drop (n * length (records bytes)) ranks
    numbers_stay = ap (drop (n * length (records bytes))) ranks_are ∙ past_last loopbytes (records bytes) ranks room

  -- ---- what is refused

  pub refused_stays : (about number place : ℕ) → said batching b ≡ refusal about number place
      → (verdicts_after loopbytes bytes row ranks ≡ row) × (ranks_after loopbytes bytes (length row) ranks ≡ ranks)
  unfolding verdicts_after ranks_after filled ranked
  refused_stays about number place h = rw h (refl, refl)
