-- `record_check::frame` meets its contract.
use Rattle.std.proofs.Common.{◌∙◌, [], arith}
use Rattle.record.specs.Readers.{stated_length, loop_reader}
use Rattle.record_check.proofs.FrameWays.{too_short, too_small, too_few, too_many, just_right}
use Rattle.record_check.proofs.frame.Goals as goal

pub returns-then-long-lt4 : goal.returns-then-long-lt4
unfolding stated_length loop_reader
returns-then-long-lt4 c = c.refused.ensures ∙ too_short (loop_reader c.args.bytes.now []) c.if-long-lt4.true

pub returns-then-stated-lt2 : goal.returns-then-stated-lt2
unfolding stated_length loop_reader
returns-then-stated-lt2 c =
    c.refused-then-stated-lt2.ensures
    ∙ too_small (loop_reader c.args.bytes.now []) c.u32_at-stated.result c.u32_at-stated.ensures.0 c.if-long-lt4.false c.if-stated-lt2.true

pub returns-then-long-stated : goal.returns-then-long-stated
unfolding stated_length loop_reader
returns-then-long-stated c =
    c.refused-then-long-stated.ensures
    ∙ too_few (loop_reader c.args.bytes.now []) c.u32_at-stated.result c.u32_at-stated.ensures.0 c.if-long-lt4.false c.if-stated-lt2.false c.if-long-stated.true

pub returns-then-stated-long : goal.returns-then-stated-long
unfolding stated_length loop_reader
returns-then-stated-long c =
    c.refused-then-stated-long.ensures
    ∙ too_many (loop_reader c.args.bytes.now []) c.u32_at-stated.result c.u32_at-stated.ensures.0 c.if-long-lt4.false c.if-stated-lt2.false c.if-stated-long.true

pub returns : goal.returns
unfolding stated_length loop_reader
returns c =
    just_right (loop_reader c.args.bytes.now []) c.u32_at-stated.result c.u32_at-stated.ensures.0 c.if-long-lt4.false c.if-stated-lt2.false (omega arith)
