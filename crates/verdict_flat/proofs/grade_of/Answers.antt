-- `verdict_flat::grade_of` meets its contract.
use Rattle.std.proofs.Common.{◌≢◌, arith}
use borrow.Author.Tests.{ne_eqb}
use Rattle.verdict_flat.specs.VerdictsBack.{grade_back}
use Rattle.verdict_flat.proofs.grade_of.Goals as goal

pub returns-in-1 : goal.returns-in-1
unfolding grade_back
returns-in-1 c = rw c.in-1.is

pub returns-in_default : goal.returns-in_default
unfolding grade_back
returns-in_default c =
    let other : c.args.grade ≢ 1 = omega arith in
    rw (ne_eqb _ _ other)
