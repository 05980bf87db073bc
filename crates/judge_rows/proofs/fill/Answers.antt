-- `judge_rows::fill` meets its contract: each turn goes from the state after i records to that after i + 1, and the last leaves what the batch promises.
use Rattle.std.proofs.Common.{◌≡◌, ◌<◌, length, refl, ap, ◌∙◌, arith, rules, length-set}
use Rattle.verdict_batch.specs.Batches.{ranks_in_turn, ranks_after}
use Rattle.verdict_batch.proofs.Filling.{row_at, ranks_at, asked, ends_within, next_state, all_filled}
use Rattle.judge_rows.specs.VerdictRows.{put_for, filled_by}
use Rattle.judge_rows.proofs.fill.Goals as goal

pub loop-i-init : goal.loop-i-init
unfolding ranks_in_turn
loop-i-init g c = (refl, refl, record { from_is = refl; rows_are = refl; numbers_are = refl })

pub end_at-end-requires : goal.end_at-end-requires
end_at-end-requires g c = (asked (put_for g.R.Row.of) _ _ _ _ _ c.enter-said.ensures _ _ _ _ c.loop-i.invariant.2 c.loop-i-test.true).starts_within

pub flat_part-requires-clause-loop_sound : goal.flat_part-requires-clause-loop_sound
flat_part-requires-clause-loop_sound g c = (asked (put_for g.R.Row.of) _ _ _ _ _ c.enter-said.ensures _ _ _ _ c.loop-i.invariant.2 c.loop-i-test.true).loop_sound

pub flat_part-requires-clause-in_order : goal.flat_part-requires-clause-in_order
flat_part-requires-clause-in_order g c =
    ends_within (put_for g.R.Row.of) _ _ _ _ _ c.enter-said.ensures _ _ _ _ c.loop-i.invariant.2 c.loop-i-test.true _ c.end_at-end.ensures

pub flat_part-requires-clause-room : goal.flat_part-requires-clause-room
flat_part-requires-clause-room g c = (asked (put_for g.R.Row.of) _ _ _ _ _ c.enter-said.ensures _ _ _ _ c.loop-i.invariant.2 c.loop-i-test.true).stretch_there

pub offset_bounds-rows-i : goal.offset_bounds-rows-i
offset_bounds-rows-i g c =
    let there : c.loop-i.i < length c.loop-i.rows = (asked (put_for g.R.Row.of) _ _ _ _ _ c.enter-said.ensures _ _ _ _ c.loop-i.invariant.2 c.loop-i-test.true).row_there in
    let long = c.loop-i.invariant.0 in
    search rules

pub bounds-rows-i : goal.bounds-rows-i
bounds-rows-i g c = (asked (put_for g.R.Row.of) _ _ _ _ _ c.enter-said.ensures _ _ _ _ c.loop-i.invariant.2 c.loop-i-test.true).row_there

pub loop-i-preserved : goal.loop-i-preserved
loop-i-preserved g c = (
  simp length-set c.loop-i.invariant.0,
  c.flat_part.auto.ranks ∙ c.loop-i.invariant.1,
  next_state (put_for g.R.Row.of) _ _ _ _ _ c.enter-said.ensures _ _ _ _ c.loop-i.invariant.2 c.loop-i-test.true _ c.end_at-end.ensures
      _ c.of.result c.flat_part.new.ranks (c.of.ensures ∙ ap g.R.Row.of c.flat_part.ensures.0) refl c.flat_part.ensures.1,
)

pub returns-clause-rows_after : goal.returns-clause-rows_after
unfolding filled_by
returns-clause-rows_after g c =
    let a = c.args in
    let all : c.loop-i.i ≡ c.enter-said.result.count = omega arith in
    c.loop-i.invariant.2.rows_are
    ∙ ap (row_at (put_for g.R.Row.of) a.loopbytes.now a.bytes.now a.rows.now a.ranks.now) all
    ∙ (all_filled (put_for g.R.Row.of) _ _ _ _ _ c.enter-said.ensures).0

pub returns-clause-ranks_after : goal.returns-clause-ranks_after
unfolding ranks_after
returns-clause-ranks_after g c =
    let a = c.args in
    let all : c.loop-i.i ≡ c.enter-said.result.count = omega arith in
    c.loop-i.invariant.2.numbers_are
    ∙ ap (ranks_at (put_for g.R.Row.of) a.loopbytes.now a.bytes.now a.rows.now a.ranks.now) all
    ∙ (all_filled (put_for g.R.Row.of) _ _ _ _ _ c.enter-said.ensures).1
