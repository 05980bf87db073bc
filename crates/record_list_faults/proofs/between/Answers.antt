-- What `contains` answers, in the words of the contract.
use Rattle.std.proofs.Common.{◌≡◌, w64, ℤ, cond, arith, is_le, Less, Equal, Greater, ◌∙◌, refl}
use Rattle.std.proofs.lemmas.Int.{ints, to_z-of_z}
use Rattle.std.proofs.lemmas.Bool.Decides.{nat_tests}
use Rattle.std.specs.Int.Signed.{le_z, lt_z}
use Rattle.record.specs.Ranges.{within}
use Rattle.record_list_faults.proofs.between.Goals as goal

as_le_z : (a b : ℤ) → is_le (cond (lt_z a b) Less (cond (lt_z b a) Greater Equal)) ≡ le_z a b
as_le_z a b = grind (arith, ints, nat_tests)

pub returns : goal.returns
unfolding within
returns c =
    let f = c.ranges in
    c.contains.ensures.value
    ∙ rw (c.new.ensures.start, c.new.ensures.end, c.new.ensures.exhausted, to_z-of_z w64 c.args.least f.least, to_z-of_z w64 c.args.z f.z, to_z-of_z w64 c.args.most f.most, as_le_z c.args.least c.args.z, as_le_z c.args.z c.args.most) refl
