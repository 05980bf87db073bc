-- `record_short_write::SoundRanking::put_row` meets its contract.
use Rattle.std.proofs.Common.{◌∙◌, sym, ap, arith, length}
use Rattle.record_short_write.proofs.ShortRooms.{none_listed, one_listed, row_stays, row_put}
use Rattle.record_short_write.proofs.ranking.SoundRanking.put_row.Goals as goal

pub returns-then-not-has_weight-clause-value : goal.returns-then-not-has_weight-clause-value
returns-then-not-has_weight-clause-value c =
    let a = c.args in
    rw (none_listed a.self.m a.self.bytes.now a.i (sym c.has_weight.ensures ∙ c.if-not-has_weight.true)) (omega arith)

pub returns-then-not-has_weight-clause-room_after : goal.returns-then-not-has_weight-clause-room_after
returns-then-not-has_weight-clause-room_after c =
    let a = c.args in
    row_stays a.self.m a.self.bytes.now a.i a.at a.room.now (none_listed a.self.m a.self.bytes.now a.i (sym c.has_weight.ensures ∙ c.if-not-has_weight.true))

pub put_u16-requires : goal.put_u16-requires
put_u16-requires c =
    let a = c.args in
    let one = one_listed a.self.m a.self.bytes.now a.i (sym c.has_weight.ensures ∙ c.if-not-has_weight.false) in
    (omega (arith, c.requires.roomy, ap length one), omega (arith, c.requires.inside, c.args.self.lists.few_rows))

pub put_u16-requires-2 : goal.put_u16-requires-2
put_u16-requires-2 c =
    let a = c.args in
    let one = one_listed a.self.m a.self.bytes.now a.i (sym c.has_weight.ensures ∙ c.if-not-has_weight.false) in
    (omega (arith, c.requires.roomy, ap length one, c.put_u16.auto.room), c.u16_at-y.ensures.1)

pub put_u16-requires-3 : goal.put_u16-requires-3
put_u16-requires-3 c =
    let a = c.args in
    let one = one_listed a.self.m a.self.bytes.now a.i (sym c.has_weight.ensures ∙ c.if-not-has_weight.false) in
    (omega (arith, c.requires.roomy, ap length one, c.put_u16.auto.room, c.put_u16-2.auto.room), c.u16_at-z.ensures.1)

pub returns-clause-value : goal.returns-clause-value
returns-clause-value c =
    let a = c.args in
    rw (one_listed a.self.m a.self.bytes.now a.i (sym c.has_weight.ensures ∙ c.if-not-has_weight.false)) (omega arith)

pub returns-clause-room_after : goal.returns-clause-room_after
returns-clause-room_after c =
    let a = c.args in
    let one = one_listed a.self.m a.self.bytes.now a.i (sym c.has_weight.ensures ∙ c.if-not-has_weight.false) in
    row_put a.self.m a.self.bytes.now a.i a.at _ _ a.room.now _ _ _ (omega (arith, c.requires.roomy)) one c.u16_at-y.ensures.0 c.u16_at-z.ensures.0
    c.put_u16.ensures c.put_u16-2.ensures c.put_u16-3.ensures
