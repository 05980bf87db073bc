-- What `contains` answers, in the words of the contract.
use Rattle.std.proofs.Common.{◌≡◌, ℕ, arith, ltb, leb, eqb, cond, is_le, Less, Equal, Greater, ◌∙◌, refl}
use Rattle.std.proofs.lemmas.Bool.Decides.{nat_tests}
use Rattle.record.specs.Ranges.{◌to◌, within}
use Rattle.record_faults.proofs.between.Goals as goal

as_leb : (a b : ℕ) → is_le (cond (ltb a b) Less (cond (eqb a b) Equal Greater)) ≡ leb a b
as_leb a b = grind (arith, nat_tests)

pub returns : goal.returns
unfolding within ◌to◌
returns c = c.contains.ensures.value ∙ rw (c.new.ensures.start, c.new.ensures.end, c.new.ensures.exhausted, as_leb c.args.least c.args.x, as_leb c.args.x c.args.most) refl
