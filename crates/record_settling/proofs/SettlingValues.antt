-- The values of a settling as the code walks them: g and t are a linear part, k, E, Y and Z one of weights.
use mathlib.Core.Path.{◌≡◌, sym, ap, ◌∙◌}
use Prim.Native.Nat.{ℕ, suc, ◌+◌, ◌*◌}
use mathlib.Core.List.{[], ◌∷◌, ◌++◌, append_assoc}
use native.Mathlib.Omega.{arith}
use lib.ListN.{replicate}
use Rattle.record.specs.Layouts.{entry, right_side, scale, multiplier}
use Rattle.record_fields.specs.Runs.{linear, weights}
use Rattle.record_fields.proofs.BodyParts.{thrice}
use Rattle.record_settling.specs.SettlingRecords.{settling_fields}

pub settling_is : (n m : ℕ) → settling_fields n m ≡ linear n ++ weights (3 * m + 2)
unfolding settling_fields linear weights
settling_is n m =
    ap (λ fs. replicate n entry ++ (right_side ∷ scale ∷ fs)) (thrice m (suc m) (suc m) (3 * m + 2) multiplier (omega arith))
    ∙ sym (append_assoc (replicate n entry) (right_side ∷ []) (scale ∷ replicate (3 * m + 2) multiplier))
