-- `judge_short::judge_sound` meets its contract: the certificate's kind leads to its judge.
use Rattle.std.proofs.Common.{◌∙◌, sym, length}
use lib.Dec.{leb}
use Rattle.refusal.proofs.TestLaws.{both_true}
use Rattle.verdict_short.specs.ShortJudging.{of_short}
use Rattle.judge_short.proofs.ShortWays.{as_it_is}
use Rattle.judge_short.proofs.judge_sound.Goals as goal

pub by_short-requires : goal.by_short-requires
by_short-requires c =
    (both_true (leb 6 (length c.args.certificate.now)) (of_short c.args.certificate.now) (sym c.is_short.ensures ∙ c.if-is_short.true)).1

pub returns : goal.returns
returns c =
    let by = as_it_is c.args.looped.bytes.now c.args.certificate.now c.args.rank.now (sym c.is_short.ensures ∙ c.if-is_short.false) in
    (c.judge_sound.ensures.0 ∙ sym by.0, c.judge_sound.ensures.1 ∙ sym by.1)
