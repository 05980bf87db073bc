-- `judge_ranking::Totals::columns_fault` meets its contract: where all columns hold nothing is told.
use Rattle.std.proofs.Common.{refl}
use Rattle.refusal.proofs.FaultLaws.{gives}
use Rattle.judge_conditions.proofs.RememberedLaws.{none_failing}
use Rattle.judge_ranking.proofs.RankedLaws.{none_told}
use Rattle.judge_ranking.proofs.lifted.Totals.columns_fault.Goals as goal

pub returns-in-None : goal.returns-in-None
returns-in-None c =
    let t = c.args.self in
    let hold = c.in-None.ensures in
    gives tt
    (none_told t.y.sums.now t.y.lift t.z.sums.now t.z.lift t.y.n (λ k below. (hold k below).0) _ _
    (none_failing t.y.n _ (λ k below. (hold k below).1)) (none_failing t.y.n _ (λ k below. (hold k below).2)) refl refl)
