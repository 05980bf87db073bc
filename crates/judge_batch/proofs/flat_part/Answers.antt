-- `judge_batch::flat_part` meets its contract: the loop's kind leads to its judge, with stretch i as its rank list.
use Rattle.std.proofs.Common.{◌∙◌, refl, sym, arith}
use Rattle.verdict_short.proofs.KindNumbers.{five, not_five}
use Rattle.judge_batch.proofs.FlatWays.{in_numbers}
use Rattle.judge_batch.proofs.PartWays.{room_so, paths_part, rows_part}
use Rattle.judge_batch.proofs.LoopsChecked.{as_paths, rows_read, loop_long}
use Rattle.judge_batch.proofs.flat_part.Goals as goal

pub u16_at-requires : goal.u16_at-requires
u16_at-requires c = omega (arith, loop_long _ c.requires.loop_sound)

pub judge_paths_sound-requires : goal.judge_paths_sound-requires
judge_paths_sound-requires c =
    sym (as_paths _ (five c.args.loopbytes.now (sym c.u16_at.ensures.0 ∙ c.if-u16_at-eq5.true))) ∙ c.requires.loop_sound

pub returns-then-u16_at-eq5 : goal.returns-then-u16_at-eq5
returns-then-u16_at-eq5 c =
    let paths = five c.args.loopbytes.now (sym c.u16_at.ensures.0 ∙ c.if-u16_at-eq5.true) in
    in_numbers c.from.ensures (paths_part _ _ c.args.ranks.now c.args.i c.judge_paths_sound.result paths c.judge_paths_sound.ensures)

pub u16_at-n-requires : goal.u16_at-n-requires
u16_at-n-requires c = omega (arith, loop_long _ c.requires.loop_sound)

pub u16_at-m-requires : goal.u16_at-m-requires
u16_at-m-requires c = loop_long _ c.requires.loop_sound

-- n is the loop's, so stretch i has room
pub overflow_mul-at : goal.overflow_mul-at
overflow_mul-at c = omega (arith, room_so c.args.loopbytes.now c.u16_at-n.ensures.0 c.args.i _ c.requires.room)

pub overflow_add-at : goal.overflow_add-at
overflow_add-at c = omega (arith, room_so c.args.loopbytes.now c.u16_at-n.ensures.0 c.args.i _ c.requires.room)

pub offset_bounds-ranks-at : goal.offset_bounds-ranks-at
offset_bounds-ranks-at c = omega (arith, room_so c.args.loopbytes.now c.u16_at-n.ensures.0 c.args.i _ c.requires.room)

pub slice_bounds-flat_certificate-end : goal.slice_bounds-flat_certificate-end
slice_bounds-flat_certificate-end c = room_so c.args.loopbytes.now c.u16_at-n.ensures.0 c.args.i _ c.requires.room

pub invariant_of-looped : goal.invariant_of-looped
invariant_of-looped c =
    let rows = not_five c.args.loopbytes.now (λ e. c.if-u16_at-eq5.false (c.u16_at.ensures.0 ∙ e)) in
    record { sound = rows_read _ c.requires.loop_sound rows c.u16_at-n.ensures.0 c.u16_at-m.ensures.0 }

pub returns : goal.returns
returns c =
    let judged = c.flat_certificate.ensures in
    in_numbers judged.0 (rows_part _ _ c.args.ranks.now c.args.i _ c.u16_at-n.ensures.0 _ _ (refl, judged.1))
