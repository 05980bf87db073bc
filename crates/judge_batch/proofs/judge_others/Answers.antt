-- `judge_batch::judge_others` meets its contract: the kind leads to its judge.
use Rattle.std.proofs.Common.{arith}
use Rattle.judge_by_kind.proofs.CertificateWays as Ways
use Rattle.judge_batch.proofs.judge_others.Goals as goal

pub invariant_of-by_exclusion : goal.invariant_of-by_exclusion
invariant_of-by_exclusion c = record { framed = c.requires.past_frame.frame_right; numbered = Ways.numbered_as c.requires.past_frame 3 c.in-3.is }

pub by_short-requires : goal.by_short-requires
by_short-requires c = Ways.is_seven c.requires.past_frame c.in-7.is

pub returns-in-3 : goal.returns-in-3
returns-in-3 c =
    Ways.by_base c.args.looped.sound c.requires.past_frame c.args.rank.now 3 c.in-3.is (omega arith) _ _ (c.by_exclusion.ensures c.args.rank.now)

pub returns-in-7 : goal.returns-in-7
returns-in-7 c = Ways.by_seven c.args.looped.sound c.requires.past_frame c.args.rank.now c.in-7.is _ _ c.by_short.ensures

pub returns-in_default : goal.returns-in_default
returns-in_default c =
    let apart = c.requires.other_kind in
    Ways.by_none c.args.looped.sound c.requires.past_frame c.args.rank.now apart.0 (λ e. omega (arith, e)) apart.1 (λ e. omega (arith, e)) apart.2 _ c.refused.ensures
