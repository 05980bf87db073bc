-- `record_write::write_bytes` meets its contract: what `settle` answers decides, and then the room.
use Rattle.std.proofs.Common.{◌≡◌, ◌∙◌, refl, sym, arith, rules, Err}
use Rattle.record.specs.Writers.{kind, writer}
use Rattle.record_write.proofs.WritingWays.{pass_on, small, long_most, no_room, ready, written}
use Rattle.record_write.proofs.write_bytes.Goals as goal

pub returns-in_err-counts : goal.returns-in_err-counts
unfolding writer
returns-in_err-counts c =
    let a = c.args in
    let e : c.from_residual.result ≡ Err c.in_err-counts.field-0.0 = search rules in
    let way = pass_on (writer a.kind a.n a.m a.values.now a.room.now) a.room.now refl c.in_err-counts.field-0.0 (sym c.in_err-counts.was ∙ c.settle.ensures) in
    record { value = e ∙ way.0; room_filled = way.1 }

pub record_length-long-requires : goal.record_length-long-requires
unfolding writer
record_length-long-requires c =
    let a = c.args in
    small (writer a.kind a.n a.m a.values.now a.room.now) a.room.now refl c.in_ok-counts.counts (sym c.in_ok-counts.was ∙ c.settle.ensures)

pub overflow_add-long : goal.overflow_add-long
unfolding writer kind
overflow_add-long c =
    let a = c.args in
    let long = c.record_length-long in
    omega (arith, long_most (writer a.kind a.n a.m a.values.now a.room.now) a.room.now refl c.in_ok-counts.counts (sym c.in_ok-counts.was ∙ c.settle.ensures) long.result long.ensures)

pub overflow_add-long-then-room-long : goal.overflow_add-long-then-room-long
unfolding writer kind
overflow_add-long-then-room-long c =
    let a = c.args in
    let long = c.record_length-long in
    omega (arith, long_most (writer a.kind a.n a.m a.values.now a.room.now) a.room.now refl c.in_ok-counts.counts (sym c.in_ok-counts.was ∙ c.settle.ensures) long.result long.ensures)

pub returns-then-room-long : goal.returns-then-room-long
unfolding writer kind
returns-then-room-long c =
    let a = c.args in
    let long = c.record_length-long in
    let way = no_room (writer a.kind a.n a.m a.values.now a.room.now) a.room.now refl c.in_ok-counts.counts (sym c.in_ok-counts.was ∙ c.settle.ensures) long.result long.ensures c.if-room-long.true in
    record { value = c.refused.ensures ∙ way.0; room_filled = way.1 }

pub write_out-requires : goal.write_out-requires
unfolding writer kind
write_out-requires c =
    let a = c.args in
    let long = c.record_length-long in
    ready (writer a.kind a.n a.m a.values.now a.room.now) a.room.now refl c.in_ok-counts.counts (sym c.in_ok-counts.was ∙ c.settle.ensures) long.result long.ensures c.if-room-long.false

pub returns : goal.returns
unfolding writer kind
returns c =
    let a = c.args in
    let long = c.record_length-long in
    let way = written (writer a.kind a.n a.m a.values.now a.room.now) a.room.now refl c.in_ok-counts.counts (sym c.in_ok-counts.was ∙ c.settle.ensures) long.result long.ensures c.if-room-long.false c.write_out.ensures in
    record { value = way.0; room_filled = way.1 }
