-- The ways through a batch's refusals, one for each return: what is told of the loop and the room, and what the definition then answers.
use mathlib.Core.Path.{◌≡◌, ◌∙◌}
use Prim.Native.Nat.{ℕ, ◌≤◌, ◌<◌}
use mathlib.Core.Bool.{true}
use native.Mathlib.Omega.{arith}
use lib.Dec.{leb}
use borrow.Author.Tests.{le-leb, lt-leb}
use Rattle.refusal.specs.Tests.{done, refused, first}
use Rattle.refusal.proofs.TestLaws.{passed, failed, passes_done}
use Rattle.verdict.specs.Stages.{refusal, said}
use Rattle.verdict.proofs.StageLaws.{stage_done, stage_refused, agrees_said}
use Rattle.verdict_batch.specs.Batches.{Batch, loop_told, count, numbers_needed, enough_room, batching, answer, batch_answers}

module _ (b : Batch) where
  refused_so : (about number place : ℕ) → said batching b ≡ refusal about number place
      → record { number = number; place = place; about = about; count = 0 } ≡ batch_answers b
  unfolding batch_answers answer
  refused_so about number place h = rw h

  pub at_loop : (k q : ℕ) → loop_told b.loopbytes ≡ refused k q → record { number = k; place = q; about = 1; count = 0 } ≡ batch_answers b
  unfolding batching
  at_loop k q h = refused_so 1 k q (stage_refused _ _ _ b k q h)

  module _ (loop : loop_told b.loopbytes ≡ done) where
    at_room : (k q : ℕ) → first enough_room b ≡ refused k q → record { number = k; place = q; about = 0; count = 0 } ≡ batch_answers b
    unfolding batching
    at_room k q h = refused_so 0 k q (stage_done _ _ _ b loop ∙ stage_refused _ _ _ b k q h)

    pub too_many : (k : ℕ) → k ≡ count b → 32 < k → record { number = 13; place = k; about = 0; count = 0 } ≡ batch_answers b
    unfolding enough_room
    too_many k is many = at_room 13 k (failed 13 count _ _ b (lt-leb (count b) 32 (omega (arith, is))) ∙ rw is)

    module _ (k : ℕ) (is : k ≡ count b) (within : k ≤ 32) where
      few : leb (count b) 32 ≡ true
      few = le-leb (count b) 32 (omega (arith, is))

      pub few_places : b.places < k → record { number = 7; place = k; about = 0; count = 0 } ≡ batch_answers b
      unfolding enough_room
      few_places less = at_room 7 k (passed 13 _ _ _ b few ∙ failed 7 count _ _ b (lt-leb (count b) b.places (omega (arith, is))) ∙ rw is)

      module _ (needed : ℕ) (placed : k ≤ b.places) (needed_is : needed ≡ numbers_needed b) where
        there : leb (count b) b.places ≡ true
        there = le-leb (count b) b.places (omega (arith, is))

        pub few_numbers : b.numbers < needed → record { number = 7; place = needed; about = 0; count = 0 } ≡ batch_answers b
        unfolding enough_room
        few_numbers less =
            at_room 7 needed
            (passed 13 _ _ _ b few
            ∙ passed 7 _ _ _ b there
            ∙ failed 7 numbers_needed _ _ b (lt-leb (numbers_needed b) b.numbers (omega (arith, needed_is)))
            ∙ rw needed_is)

        pub all_room : needed ≤ b.numbers → record { number = 0; place = 0; about = 0; count = k } ≡ batch_answers b
        unfolding enough_room batching batch_answers answer
        all_room enough =
            let room : first enough_room b ≡ done = passes_done enough_room b (few, (there, (le-leb (numbers_needed b) b.numbers (omega (arith, needed_is)), tt))) in
            rw (agrees_said batching b (loop, (room, tt)), is)
