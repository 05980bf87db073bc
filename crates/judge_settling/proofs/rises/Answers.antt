-- `judge_settling::rises` meets its contract: the parts stand where `settling_held` has them.
use Rattle.std.proofs.Common.{◌≡◌, pos, w64, to_z, ap, ◌∙◌, arith}
use mir.Facts.{to_z-of_z, to_z_pos}
use borrow.Author.Rules.{sfits_of}
use Rattle.refusal.specs.Faults.{result_of}
use Rattle.theory.specs.Conditions.{weighed_told}
use Rattle.judge_settling.proofs.SettlingLaws.{rise_as}
use Rattle.judge_settling.proofs.rises.Goals as goal

pub returns : goal.returns
returns c =
    let a = c.args in
    let k = c.u16_at-k in
    let less = c.minus-less in
    let k_is : to_z w64 k.result ≡ pos k.result = to_z_pos w64 (omega (arith, k.ensures.1)) in
    let less_is = rw k_is at less.ensures.0 in
    let told = rw (to_z-of_z {w = w64} {z = less.result} (sfits_of less.type_inv), less_is, k_is) at c.weighed.ensures in
    told ∙ ap (λ w. result_of (weighed_told 61 62 63 a.rows.n w) tt) (rise_as a.rows a.certificate.now k.result k.ensures.0)
