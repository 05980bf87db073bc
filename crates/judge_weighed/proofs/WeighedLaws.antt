-- Weighted rows column by column: the totals of crate `judge_sums` are the sums of the theory, and a walk over the columns tells what their
-- order of tests does.
use Rattle.std.specs.Prelude.{Option, Some, None}
use mathlib.Core.Path.{◌≡◌, sym, ap, ap₂, ◌∙◌}
use Prim.Native.Nat.{ℕ, ◌<◌}
use mathlib.Core.Bool.{true, false}
use lib.Dec.{eqb}
use lib.IntN.{ℤ, pos, ◌*ℤ◌}
use lib.ListN.{get_or}
use lib.Signed.{le_z}
use mir.Syntax.{w64}
use mir.Val.{SFits, of_z}
use Rattle.refusal.specs.Tests.{done, refused, ◌then◌}
use Rattle.refusal.specs.Places.{Throughout, told_each, told_once}
use Rattle.refusal.proofs.PlaceLaws.{before_all, before_first, told_none, told_at}
use Rattle.whole.specs.Same.{same_z}
use Rattle.theory.specs.Conditions.{weighed_told}
use Rattle.theory.specs.Loops.{b}
use Rattle.theory.specs.WeightedRows.{Weighted, sum_of, times_v}
use Rattle.theory.proofs.InOrder.{weighed_in_order}
use Rattle.judge_conditions.specs.Remembered.{first_failing}
use Rattle.judge_conditions.proofs.Compared.{bits_same}
use Rattle.judge_conditions.proofs.RememberedLaws.{told_nothing, told_remembered}
use Rattle.judge_weighed.specs.WeightedHeld.{now_at, next_at}

-- a sum and a factor times an entry, as the code compares them
pub holds_so : (w : Weighted) (total sum factor entry product : ℤ) (j : ℕ) → SFits w64 total → SFits w64 product → total ≡ sum → product ≡ factor *ℤ entry
    → entry ≡ get_or w.v j (pos 0) → eqb (of_z w64 total) (of_z w64 product) ≡ same_z sum (times_v w factor j)
holds_so w total sum factor entry product j total-fits product-fits total-is product_is entry_is =
    bits_same total-fits product-fits ∙ ap₂ same_z total-is (product_is ∙ ap (λ z. factor *ℤ z) entry_is)

module _ (number second third n : ℕ) (w : Weighted) where
  -- a walk that ended at column j over A
  pub now_told : (j : ℕ) → j < n → now_at w j ≡ false → Throughout j (λ k. now_at w k ≡ true) → weighed_told number second third n w ≡ refused number j
  unfolding ◌then◌
  now_told j below fails before =
      weighed_in_order number second third n w ∙ rw (told_at number n (now_at w) j (sym (before_first n (now_at w) j below fails before)) below)

  -- one that went to the end
  module _ (all : Throughout n (λ k. now_at w k ≡ true)) (late : Option ℕ) (is : late ≡ first_failing n (next_at w)) where
    past_now : weighed_told number second third n w ≡ (told_each second n (next_at w) then told_once third (le_z (sum_of w b) w.limit))
    unfolding ◌then◌
    past_now = weighed_in_order number second third n w ∙ rw (told_none number n (now_at w) (before_all n (now_at w) all))

    pub next_told : (place : ℕ) → late ≡ Some place → weighed_told number second third n w ≡ refused second place
    unfolding ◌then◌
    next_told place found = past_now ∙ rw (told_remembered n (next_at w) second place (sym found ∙ is))

    past_next : late ≡ None → weighed_told number second third n w ≡ told_once third (le_z (sum_of w b) w.limit)
    unfolding ◌then◌
    past_next found = past_now ∙ rw (told_nothing n (next_at w) second (sym found ∙ is))

    pub right_told : late ≡ None → le_z (sum_of w b) w.limit ≡ false → weighed_told number second third n w ≡ refused third 0
    unfolding told_once
    right_told found fails = past_next found ∙ rw fails

    pub none_told : late ≡ None → le_z (sum_of w b) w.limit ≡ true → weighed_told number second third n w ≡ done
    unfolding told_once
    none_told found holds = past_next found ∙ rw holds
