-- `record_read::unpack` meets its contract: a list that is too short is refused, and any other is filled.
use Rattle.std.proofs.Common.{◌≡◌, ◌∙◌, arith}
use Rattle.record_read.proofs.Unpacked.{no_places, unpacked_loop, unpacked_certificate}
use Rattle.record_read.proofs.unpack.Goals as goal

pub returns-then-values-count : goal.returns-then-values-count
returns-then-values-count c =
    let a = c.args in
    let count = c.value_count-count in
    let way = no_places a.bytes.now a.found a.values.now count.result count.ensures c.if-values-count.true in
    record { value = c.refused.ensures ∙ way.0; values_after = way.1 }

pub returns-then-kind-eq1 : goal.returns-then-kind-eq1
returns-then-kind-eq1 c =
    let a = c.args in
    let count = c.value_count-count in
    let loop : a.found.kind ≡ 1 = omega arith in
    let way = unpacked_loop a.bytes.now a.found a.values.now count.result count.ensures c.if-values-count.false _ c.read_list.ensures loop in
    record { value = way.0; values_after = way.1 }

pub returns-else-kind-eq1 : goal.returns-else-kind-eq1
returns-else-kind-eq1 c =
    let a = c.args in
    let count = c.value_count-count in
    let certificate : a.found.kind ≡ 1 → ⊥ = λ one. omega arith in
    let way = unpacked_certificate a.bytes.now a.found a.values.now count.result count.ensures c.if-values-count.false _ c.read_list.ensures certificate in
    record { value = way.0; values_after = way.1 }
