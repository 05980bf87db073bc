-- `judge_longer::less_times` meets its contract: what takes minus a term has that term less.
use Rattle.std.proofs.Common.{ℤ, ◌≡◌, ◌*◌, ◌≤◌, ◌+ℤ◌, ◌-ℤ◌, ◌*ℤ◌, pos, neg_ℤ, nat_abs, refl, ◌∙◌, arith}
use lib.IntN.{+ℤ_idl}
use mir.Facts.{to_z-of_z}
use borrow.Author.Rules.{sfits_of}
use Rattle.whole.proofs.Size.{abs_add, abs_neg}
use Rattle.whole.proofs.Solve.{v, ◌⊕◌, ◌⊝◌, ◌⊗◌, solve}
use Rattle.judge_sums.specs.Running.{Adds}
use Rattle.judge_sums.proofs.RunningLaws.{added}
use Rattle.judge_longer.proofs.less_times.Goals as goal

-- minus an entry is as small as the entry
minus-small : (z : ℤ) → nat_abs z ≤ 32768 → nat_abs (pos 0 -ℤ z) ≤ 32768
minus-small z h = rw (+ℤ_idl (neg_ℤ z)) (omega (arith, abs_neg z))

less : (s k z : ℤ) → s +ℤ k *ℤ (pos 0 -ℤ z) ≡ s -ℤ k *ℤ z
less s k z = solve (v s ⊕ v k ⊗ (v (pos 0) ⊝ v z)) (v s ⊝ v k ⊗ v z) (omega arith)

pub returns : goal.returns
returns c =
    let a = c.args in
    let term = pos a.k *ℤ (pos 0 -ℤ a.z) in
    let sum = c.plus-less.result.sum in
    let more : Adds (65535 * 32768) term a.total sum =
    added (pos a.k) (pos 0 -ℤ a.z) 65535 32768 (omega (arith, c.requires.1)) (minus-small a.z c.requires.2) (omega arith) refl refl
    (rw (to_z-of_z c.ranges.z, to_z-of_z c.ranges.total) at c.plus-less.ensures)
    in
    rw (to_z-of_z (sfits_of c.plus-less.type_inv.1.1.0.1))
    (more.is ∙ less a.total (pos a.k) a.z, rw more.is (omega (arith, abs_add a.total term, more.small)))
