use Rattle.std.proofs.Common.{◌+◌, get_or, pos, refl, rules}
use mir.Syntax.{w64}
use mir.Val.{SFits}
use mir.Facts.{to_z-of_z}
use Rattle.record_fields.specs.Runs.{stores}
use Rattle.record_fields.proofs.Stores.{value_held, write_more}
use Rattle.record_fill.proofs.write_run.Goals as goal

pub loop-i-init : goal.loop-i-init
unfolding stores
loop-i-init g c = refl

pub put-requires-clause-held : goal.put-requires-clause-held
put-requires-clause-held g c =
    let a = c.args in
    let z = get_or a.values.now (a.index + c.loop-i.i) (pos 0) in
    let there : SFits w64 z = search rules in
    rw (to_z-of_z there)
    (value_held g.N.Number.form g.N.Number.WIDTH c.loop-i.i a.values.now a.index a.count a.place a.body.now c.loop-i.body g.met.N.Number.wide c.loop-i-test.true c.requires.there c.requires.held)

pub loop-i-preserved : goal.loop-i-preserved
loop-i-preserved g c =
    let a = c.args in
    let z = get_or a.values.now (a.index + c.loop-i.i) (pos 0) in
    let there : SFits w64 z = search rules in
    write_more g.N.Number.form g.N.Number.WIDTH c.loop-i.i a.values.now a.index a.count a.place a.body.now c.loop-i.body g.met.N.Number.wide c.loop-i-test.true c.requires.there c.loop-i.invariant
    (rw (to_z-of_z there, c.WIDTH.ensures) at c.put.ensures)
