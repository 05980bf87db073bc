-- `record_short_write::SoundShort::put_triples` meets its contract.
use Rattle.std.proofs.Common.{◌≡◌, ◌∙◌, refl, arith}
use native.Mathlib.Numerals.{add-one}
use Rattle.record_short.specs.ShortRecords.{triples_in}
use Rattle.record_short_write.specs.Rooms.{with_triples}
use Rattle.record_short_write.proofs.short.SoundShort.put_triples.Goals as goal

pub loop-k-init : goal.loop-k-init
unfolding with_triples
loop-k-init c = refl

pub put_triple-requires-clause-inside : goal.put_triple-requires-clause-inside
unfolding triples_in
put_triple-requires-clause-inside c = omega (arith, c.loop-k-test.true, c.u16_at-count.ensures.0)

pub loop-k-preserved : goal.loop-k-preserved
unfolding with_triples
loop-k-preserved c = rw (add-one c.loop-k.k) (c.put_triple.ensures ∙ rw c.loop-k.invariant)

pub returns : goal.returns
unfolding triples_in
returns c =
    let all : c.loop-k.k ≡ c.u16_at-count.result = omega arith in
    c.loop-k.invariant ∙ rw (all, c.u16_at-count.ensures.0)
