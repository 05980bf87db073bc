-- `record_parting::count` meets its contract: those that are alike, and those after them.
use Rattle.std.proofs.Common.{◌≡◌, ◌*◌, inl, ap, arith, length, drop}
use Rattle.std.proofs.lemmas.Iterator.Consumers.{count_from_yields_List, YieldsList-from_first}
use Rattle.std.proofs.lemmas.List.{take_rest}
use Rattle.record_parting.specs.Parting.{records}
use Rattle.record_parting.proofs.PartingLaws.{records_few}
use Rattle.record_parting.proofs.count.Goals as goal

pub count-requires-clause-fits : goal.count-requires-clause-fits
count-requires-clause-fits c =
    let bytes = c.args.bytes.now in
    let at = c.alike-alike.result * c.first_end-size.result in
    inl (rw (take_rest bytes at) (omega (arith, c.alike-alike.ensures.2, records_few bytes)))

pub overflow_add-result : goal.overflow_add-result
overflow_add-result c =
    let bytes = c.args.bytes.now in
    let at = c.alike-alike.result * c.first_end-size.result in
    record { fits = omega (arith, c.count.ensures.bound, ap (λ left. length (records left)) (take_rest bytes at), c.alike-alike.ensures.2, records_few bytes) }

pub returns : goal.returns
returns c =
    let bytes = c.args.bytes.now in
    let at = c.alike-alike.result * c.first_end-size.result in
    let others : c.count.result ≡ length (records (drop at bytes))
    = count_from_yields_List _ _ c.count.ensures.ran (YieldsList-from_first (λ x. x.now) (λ left. records left.0.now) _ (ap records (take_rest bytes at))) in
    omega (arith, others, c.alike-alike.ensures.2)
