use Rattle.std.proofs.Common.{refl}
use mir.Facts.{to_z-of_z}
use borrow.Author.Rules.{sfits_of}
use Rattle.record_fields.specs.Runs.{numbers}
use Rattle.record_fields.proofs.Readings.{read_more}
use Rattle.record_values.proofs.read_run.Goals as goal

pub loop-i-init : goal.loop-i-init
unfolding numbers
loop-i-init g c = refl

pub loop-i-preserved : goal.loop-i-preserved
loop-i-preserved g c =
    let a = c.args in
    rw (to_z-of_z (sfits_of c.number_at.type_inv))
    (read_more g.N.Number.form g.N.Number.WIDTH c.loop-i.i a.bytes.now a.place a.index a.values.now c.loop-i.values c.number_at.result g.met.N.Number.wide c.loop-i.invariant (rw c.WIDTH.ensures at c.number_at.ensures))
