-- `judge_batch::enter` meets its contract: the loop, then the three tests of room, as the batch's order asks them.
use Rattle.std.proofs.Common.{◌≡◌, ℕ, List, ◌*◌, length, sym, ap, ◌∙◌, arith}
use Rattle.refusal.specs.Faults.{result_of}
use Rattle.refusal.specs.Tests.{done}
use Rattle.refusal.proofs.FaultLaws.{told_refused, told_done}
use Rattle.record_check.proofs.FrameWays.{right}
use Rattle.endian.specs.Numbers.{little_at}
use Rattle.verdict_batch.specs.Batches.{Batch, batch_of, loop_told, variables, count, numbers_needed}
use Rattle.judge_batch.proofs.BatchWays.{at_loop, too_many, few_places, few_numbers, all_room}
use Rattle.judge_batch.proofs.LoopsChecked.{loop_long}
use Rattle.judge_batch.proofs.enter.Goals as goal

-- where the loop was checked, and found sound
sound_loop : (loopbytes : List ℕ) → right ≡ result_of (loop_told loopbytes) tt → loop_told loopbytes ≡ done
sound_loop loopbytes is = told_done (loop_told loopbytes) tt tt is

-- where the records were counted
count_is : (b : Batch) (k : ℕ) → k ≡ length b.certificates → k ≡ count b
unfolding count
count_is b k is = is

-- how many numbers are needed
needed_is : (b : Batch) (n k : ℕ) → n ≡ little_at 2 b.loopbytes 6 → k ≡ length b.certificates → n * k ≡ numbers_needed b
unfolding numbers_needed variables
needed_is b n k n_is k_is = ap (λ x. x * k) n_is ∙ ap (λ x. variables b.loopbytes * x) (count_is b k k_is)

pub returns-in-Err : goal.returns-in-Err
returns-in-Err c =
    let a = c.args in
    let told = told_refused (loop_told a.loopbytes.now) tt c.in-Err.fault (sym c.in-Err.is ∙ c.check_loop.ensures) in
    c.refused.ensures ∙ at_loop (batch_of a.loopbytes.now a.bytes.now a.places a.numbers) _ _ told

pub returns-then-count-gt32 : goal.returns-then-count-gt32
returns-then-count-gt32 c =
    let a = c.args in
    let b = batch_of a.loopbytes.now a.bytes.now a.places a.numbers in
    let sound = sound_loop _ (sym c.in_default.is ∙ c.check_loop.ensures) in
    c.refused-then-count-gt32.ensures ∙ too_many b sound _ (count_is b _ c.count-count.ensures) (omega arith)

pub returns-then-places-count : goal.returns-then-places-count
returns-then-places-count c =
    let a = c.args in
    let b = batch_of a.loopbytes.now a.bytes.now a.places a.numbers in
    let sound = sound_loop _ (sym c.in_default.is ∙ c.check_loop.ensures) in
    c.refused-then-places-count.ensures ∙ few_places b sound _ (count_is b _ c.count-count.ensures) (omega arith) c.if-places-count.true

pub u16_at-requires : goal.u16_at-requires
u16_at-requires c = omega (arith, loop_long _ (sound_loop _ (sym c.in_default.is ∙ c.check_loop.ensures)))

pub returns-then-numbers-needed : goal.returns-then-numbers-needed
returns-then-numbers-needed c =
    let a = c.args in
    let b = batch_of a.loopbytes.now a.bytes.now a.places a.numbers in
    let sound = sound_loop _ (sym c.in_default.is ∙ c.check_loop.ensures) in
    let needed = needed_is b _ _ c.u16_at.ensures.0 c.count-count.ensures in
    c.refused-then-numbers-needed.ensures
    ∙ few_numbers b sound _ (count_is b _ c.count-count.ensures) (omega arith) _ c.if-places-count.false needed c.if-numbers-needed.true

pub returns : goal.returns
returns c =
    let a = c.args in
    let b = batch_of a.loopbytes.now a.bytes.now a.places a.numbers in
    let sound = sound_loop _ (sym c.in_default.is ∙ c.check_loop.ensures) in
    let needed = needed_is b _ _ c.u16_at.ensures.0 c.count-count.ensures in
    all_room b sound _ (count_is b _ c.count-count.ensures) (omega arith) _ c.if-places-count.false needed c.if-numbers-needed.false
