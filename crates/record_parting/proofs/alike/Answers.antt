-- `record_parting::alike` meets its contract: each turn counts the record that stands first of the bytes from here on.
use Rattle.std.proofs.Common.{◌≡◌, ◌*◌, arith, sym, ap, ◌∙◌, ◌+◌}
use Rattle.record_parting.proofs.PartingPlaces.{counted_more}
use Rattle.record_parting.proofs.alike.Goals as goal

pub loop-record-init : goal.loop-record-init
loop-record-init c =
    let none : 0 * c.args.size ≡ 0 = omega arith in
    let chunks = c.chunks_exact-record-items.ensures in
    rw (c.into_iter-record-iterator.ensures.into_iter_gives, none) (c.if-size-lt6.false, chunks.size, chunks.rest, (omega arith, omega arith, omega arith))

pub loop-record-preserved : goal.loop-record-preserved
loop-record-preserved c =
    let l = c.loop-record in
    let steps = c.in-Some.ensures.steps in
    let states = ap (λ k. 4 + k) (sym c.u32_at.ensures.0) ∙ c.if-u32_at-size.false in
    let more = counted_more c.args.bytes.now _ _ _ c.args.size l.alike l.invariant.0 l.invariant.2 steps.1.0 (steps.1.1 ∙ l.invariant.1) states l.invariant.3 in
    (l.invariant.0, steps.0 ∙ l.invariant.1, more.0, more.1)
