-- `verdict_flat::outcome_of` meets its contract: each number that an outcome has gives that outcome, and every other gives nothing.
use Rattle.std.proofs.Common.{◌≢◌, arith}
use mir.Facts.{to_z-of_z}
use borrow.Author.Tests.{ne_eqb}
use Rattle.verdict_flat.specs.VerdictsBack.{outcome_back}
use Rattle.verdict_flat.proofs.outcome_of.Goals as goal

pub returns-in-2 : goal.returns-in-2
unfolding outcome_back
returns-in-2 c = rw (c.in-2.is, to_z-of_z c.ranges.start, to_z-of_z c.ranges.fall)

pub returns-in-3 : goal.returns-in-3
unfolding outcome_back
returns-in-3 c = rw (c.in-3.is, c.grade_of.ensures)

pub returns-in-4 : goal.returns-in-4
unfolding outcome_back
returns-in-4 c = rw (c.in-4.is, to_z-of_z c.ranges.start, to_z-of_z c.ranges.fall)

pub returns-in-6 : goal.returns-in-6
unfolding outcome_back
returns-in-6 c = rw c.in-6.is

pub returns-in-8 : goal.returns-in-8
unfolding outcome_back
returns-in-8 c = rw (c.in-8.is, to_z-of_z c.ranges.start, to_z-of_z c.ranges.fall)

pub returns-in_default : goal.returns-in_default
unfolding outcome_back
returns-in_default c =
    let kind = c.args.outcome in
    let two : kind ≢ 2 = omega arith in
    let three : kind ≢ 3 = omega arith in
    let four : kind ≢ 4 = omega arith in
    let six : kind ≢ 6 = omega arith in
    let eight : kind ≢ 8 = omega arith in
    simp (ne_eqb _ _ two, ne_eqb _ _ three, ne_eqb _ _ four, ne_eqb _ _ six, ne_eqb _ _ eight)
