-- `record_paths_check::lists_walked` meets its contract.
use Rattle.std.proofs.Common.{◌≡◌, ◌+◌, ◌*◌, ◌≤◌, ◌<◌, ◌∙◌, false, true, arith}
use native.Mathlib.Nat.{mul-le-mul, mul-le-mul_right}
use borrow.Author.Tests.{lt-ltb, le-ltb, ltb-true}
use Rattle.record_paths.specs.PathCertificates.{component_in}
use Rattle.record_paths.specs.PathLoops.{rows_in}
use Rattle.record_paths.proofs.PathsSound.{paths_sound}
use Rattle.record_paths_check.specs.PathChecks.{component_there, multipliers_of}
use Rattle.record_paths_check.proofs.PathWalks.{walk_start, walk_more, walk_small, walk_stops, walk_ends}
use Rattle.record_paths_check.proofs.lists_walked.Goals as goal

pub loop-j-init : goal.loop-j-init
loop-j-init c = walk_start _ _ _

pub returns-then-components-component : goal.returns-then-components-component
unfolding component_in
returns-then-components-component c =
    let a = c.args in
    let out : component_there a.components a.bytes.now c.loop-j.j ≡ false = rw (← c.u16_at-component.ensures.0) (le-ltb _ _ c.if-components-component.true) in
    c.refused.ensures
    ∙ walk_stops a.paths (component_there a.components a.bytes.now) (multipliers_of a.loopbytes.now a.bytes.now) c.loop-j.j c.loop-j.sum c.loop-j.invariant 14 8
    c.loop-j-test.true out

pub u16_at-m-requires : goal.u16_at-m-requires
u16_at-m-requires c =
    let s = paths_sound c.args.loopbytes.now c.requires.numbered.loop_sound in
    omega (arith, s.long, c.requires.numbered.paths_read, c.loop-j-test.true)

one_small : (c : goal.After-u16_at-m) → c.u16_at-m.result * (2 + c.u16_at-component.result) ≤ 576
unfolding rows_in
one_small c =
    let s = paths_sound c.args.loopbytes.now c.requires.numbered.loop_sound in
    let few : c.u16_at-m.result ≤ 64 = rw c.u16_at-m.ensures.0 (s.few_rows c.loop-j.j (omega (arith, c.loop-j-test.true, c.requires.numbered.paths_read))) in
    let number : 2 + c.u16_at-component.result ≤ 9 = omega (arith, c.requires.few_components, c.if-components-component.false) in
    mul-le-mul few number

pub overflow_mul-sum : goal.overflow_mul-sum
overflow_mul-sum c = omega (arith, one_small c)

pub overflow_add-sum-in-loop-j : goal.overflow_add-sum-in-loop-j
overflow_add-sum-in-loop-j c =
    let a = c.args in
    let s = paths_sound a.loopbytes.now c.requires.numbered.loop_sound in
    let small = walk_small a.paths (component_there a.components a.bytes.now) (multipliers_of a.loopbytes.now a.bytes.now) c.loop-j.j c.loop-j.sum c.loop-j.invariant 576
    (λ i below fit.
    let early : component_in a.bytes.now i < a.components = ltb-true _ _ fit in
    let number : 2 + component_in a.bytes.now i ≤ 9 = omega (arith, c.requires.few_components) in
    mul-le-mul (s.few_rows i (omega (arith, c.loop-j.invariant.inside, c.requires.numbered.paths_read))) number) in
    omega (arith, one_small c, small, mul-le-mul_right 576 c.loop-j.invariant.inside, s.few_paths, c.requires.numbered.paths_read)

pub loop-j-preserved : goal.loop-j-preserved
unfolding component_in rows_in
loop-j-preserved c =
    let a = c.args in
    let fit : component_there a.components a.bytes.now c.loop-j.j ≡ true = rw (← c.u16_at-component.ensures.0) (lt-ltb _ _ c.if-components-component.false) in
    rw (c.u16_at-component.ensures.0, c.u16_at-m.ensures.0)
    (walk_more a.paths (component_there a.components a.bytes.now) (multipliers_of a.loopbytes.now a.bytes.now) c.loop-j.j c.loop-j.sum c.loop-j.invariant
    c.loop-j-test.true fit)

pub returns : goal.returns
returns c =
    let a = c.args in
    walk_ends a.paths (component_there a.components a.bytes.now) (multipliers_of a.loopbytes.now a.bytes.now) c.loop-j.j c.loop-j.sum c.loop-j.invariant 14 8 (omega arith)
