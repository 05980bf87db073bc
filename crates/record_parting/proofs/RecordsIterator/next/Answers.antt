-- `Records::next` meets its contract: with no byte left there is no record, and else the first record goes and the others stay.
use Rattle.std.proofs.Common.{◌≡◌, ◌<◌, [], ◌∷◌, ap, ◌∙◌, arith, ℕ, List, false, length, take, drop}
use lib.Dec.{eqb}
use borrow.Author.Tests.{true-eqb, false-eqb}
use Rattle.record_parting.specs.Parting.{taken, records, first_record, after_first}
use Rattle.record_parting.proofs.PartingLaws.{taken_within, no_bytes, records_none, records_more}
use Rattle.record_parting.proofs.RecordsIterator.next.Goals as goal

pub returns-then-is_empty-clause-steps : goal.returns-then-is_empty-clause-steps
returns-then-is_empty-clause-steps c =
    let none : records c.args.self.now.0.now ≡ [] = ap records (no_bytes _ (omega (arith, true-eqb _ 0 c.if-is_empty.ensures))) ∙ records_none in
    (none, none)

pub split_at-requires : goal.split_at-requires
split_at-requires c = rw c.first_end.ensures (taken_within c.args.self.now.0.now)

-- where a byte is left, a record stands first
first_goes : (bytes front back : List ℕ) (end : ℕ) → end ≡ taken bytes → front ≡ take end bytes → back ≡ drop end bytes → false ≡ eqb (length bytes) 0
    → records bytes ≡ front ∷ records back
unfolding first_record after_first
first_goes bytes front back end end_is front_is back_is some =
    rw (front_is, back_is, end_is) (records_more bytes (omega (arith, false-eqb _ 0 some)))

pub returns-clause-steps : goal.returns-clause-steps
returns-clause-steps c = first_goes _ _ _ _ c.first_end.ensures c.split_at.ensures.front c.split_at.ensures.back c.if-is_empty.ensures

pub returns-clause-goes : goal.returns-clause-goes
returns-clause-goes c =
    let fewer : length (records c.split_at.result.1.now) < length (records c.args.self.now.0.now)
    = omega (arith, ap length (first_goes _ _ _ _ c.first_end.ensures c.split_at.ensures.front c.split_at.ensures.back c.if-is_empty.ensures)) in
    record { on = λ _. (tt, tt, fewer); keeps = tt; rests = λ _. tt }
