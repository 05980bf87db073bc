-- `judge_grade::all_divided` meets its contract: the numbers are asked in turn, from the first on.
use Rattle.std.proofs.Common.{◌+◌, ◌*◌, refl, ◌∙◌, rules, tests, arith}
use Rattle.std.proofs.lemmas.Iterator.{YieldsList-from_range}
use Rattle.std.proofs.lemmas.Iterator.Search.{all_from_yields_List}
use Rattle.theory.specs.Exclusions.{divides}
use Rattle.judge_sums.specs.Places.{right_at}
use Rattle.judge_grade.proofs.DividedLaws.{rights_in_turn}
use Rattle.judge_grade.proofs.all_divided.Goals as goal

pub returns : goal.returns
unfolding right_at
returns c =
    let a = c.args in
    all_from_yields_List (λ j. divides a.q (right_at a.certificate.now (a.place + 4 * j))) _ _ c.all.result c.all.ensures.ran (YieldsList-from_range 0 a.count a.count refl (omega arith))
    (λ x b q k. search (rules, tests))
    ∙ rights_in_turn a.q a.certificate.now a.place a.count
