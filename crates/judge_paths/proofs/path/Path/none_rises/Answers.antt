-- `judge_paths::Path::none_rises` meets its contract: two earlier components are asked at a time, and the last one alone where their number is odd.
use Rattle.std.proofs.Common.{sym, ◌∙◌, arith, eq-eqb}
use Rattle.theory_paths.proofs.PathLaws.{every_holds}
use Rattle.judge_paths.proofs.Pairs.{two_more, two_fail, last_decides}
use Rattle.judge_paths.proofs.path.Path.none_rises.Goals as goal

pub returns-then-not-stay_two : goal.returns-then-not-stay_two
returns-then-not-stay_two c =
    sym (two_fail _ c.args.self.component c.loop-k.k (omega arith) (sym c.stay_two.ensures ∙ c.if-not-stay_two.true))

pub loop-k-preserved : goal.loop-k-preserved
loop-k-preserved c = two_more _ c.loop-k.k c.loop-k.invariant (sym c.stay_two.ensures ∙ c.if-not-stay_two.false)

pub returns-then-self-eq0 : goal.returns-then-self-eq0
returns-then-self-eq0 c =
    eq-eqb _ _ c.if-self-eq0.true
    ∙ sym (every_holds c.args.self.component _ (λ i below. c.loop-k.invariant i (omega arith)))

pub returns-else-self-eq0 : goal.returns-else-self-eq0
returns-else-self-eq0 c =
    c.stays.ensures ∙ sym (last_decides _ c.args.self.component (omega arith) (λ i below. c.loop-k.invariant i (omega arith)))
