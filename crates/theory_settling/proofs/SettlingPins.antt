-- Definitions that the theorems use only before an arrow are pinned here by what is in them and what is not, and those that count by
-- their values. `..-needed`: a settling that lacks that premise of the promise alone, whose conditions hold, of a loop that runs for ever.
use Prim.Native.Nat.{ℕ, ◌≤◌}
use mathlib.Core.Bool.{true, false}
use mathlib.Core.Path.{◌≡◌, refl}
use mathlib.Core.List.{List, [], ◌∷◌}
use native.Mathlib.Omega.{arith}
use lib.IntN.{ℤ, pos, negsuc}
use lib.Signed.{le_z_yes}
use Rattle.whole.specs.Sums.{dot, Each, NonNeg}
use Rattle.theory.specs.Loops.{Loop, Endless}
use Rattle.theory.specs.Rankings.{NonNegative}
use Rattle.theory.specs.Samples.{upward}
use Rattle.theory.proofs.Pins.{upward_endless}
use Rattle.theory_settling.specs.Settlings.{Settling, NonNegativeSettling, SettlingHolds, Settled, unsettled, unsettled_steps}
use Rattle.theory_settling.specs.SettlingSamples.{curve_settles, still, no_scale, at_most_one_up, E-below-nought}
use Rattle.theory_settling.specs.SettlingSamples.{Y-below-nought, upward_idly, Z-below-nought}
use Rattle.theory_settling.specs.SettlingTable.{computing}
use Rattle.theory_settling.proofs.SettlingDecisions.{settling_decided}

-- ---- the threshold: g·x = t is settled, g·x = t - 1 is not, and the two words for it say the same

pub settled_at_equality : Settled curve_settles (pos 7 ∷ negsuc 0 ∷ []) × (unsettled curve_settles (pos 7 ∷ negsuc 0 ∷ []) ≡ false)
unfolding computing
settled_at_equality = (le_z_yes tt, refl)

pub not_settled_below : (Settled curve_settles (pos 7 ∷ pos 0 ∷ []) → ⊥) × (unsettled curve_settles (pos 7 ∷ pos 0 ∷ []) ≡ true)
unfolding computing
not_settled_below = (λ h. h.le, refl)

-- ---- steps are counted by the state they are taken from: none without a step; one to the threshold; none from it; and one after it,
-- where what is counted is no run

abbrev below : List ℤ
below = pos 7 ∷ pos 0 ∷ []

abbrev at_threshold : List ℤ
at_threshold = pos 7 ∷ negsuc 0 ∷ []

pub steps_counted :
    (unsettled_steps curve_settles below [] ≡ 0)
    × (unsettled_steps curve_settles below (at_threshold ∷ []) ≡ 1)
    × (unsettled_steps curve_settles at_threshold (below ∷ []) ≡ 0)
    × (unsettled_steps curve_settles at_threshold (below ∷ at_threshold ∷ at_threshold ∷ []) ≡ 1)
    × (unsettled_steps curve_settles below (below ∷ below ∷ at_threshold ∷ []) ≡ 3)
unfolding computing
steps_counted = (refl, refl, refl, refl, refl)

-- ---- what the promise asks for: `curve_non_negative` is a settling whose multipliers are not negative, with k 1

-- the conditions hold, and the loop runs for ever
abbrev RunsOn : Loop → Settling → Type 0
RunsOn loop c = SettlingHolds loop c × ((state : ℕ → List ℤ) × Endless loop state)

-- 0, 0, 0, ..
abbrev at_rest : ℕ → List ℤ
at_rest i = pos 0 ∷ []

still_endless : Endless still at_rest
unfolding still Each dot
still_endless i = search

pub scale_needed : RunsOn still no_scale × NonNegativeSettling no_scale
unfolding computing Each
scale_needed = (((settling_decided still no_scale).0 refl, (at_rest, still_endless)), search)

at_most_one_up_endless : Endless at_most_one_up at_rest
unfolding at_most_one_up Each dot
at_most_one_up_endless i = search

pub E-needed : RunsOn at_most_one_up E-below-nought × (1 ≤ E-below-nought.k) × NonNegative E-below-nought.ranking
unfolding computing Each
E-needed = (((settling_decided at_most_one_up E-below-nought).0 refl, (at_rest, at_most_one_up_endless)), omega arith, search)

-- 0, 1, 2, ..
abbrev counting_up : ℕ → List ℤ
counting_up i = pos i ∷ []

pub Y-needed : RunsOn upward Y-below-nought × (1 ≤ Y-below-nought.k)
    × Each NonNeg Y-below-nought.E × Each NonNeg Y-below-nought.ranking.Z
unfolding computing Each
Y-needed = (((settling_decided upward Y-below-nought).0 refl, (counting_up, upward_endless)), omega arith, search, search)

-- the row that is added to `upward` is met by every step
upward_idly_endless : Endless upward_idly counting_up
unfolding upward upward_idly Each dot
upward_idly_endless i = record { before = refl; after = refl; meets = ((upward_endless i).meets.0, (le_z_yes tt, tt)) }

pub Z-needed : RunsOn upward_idly Z-below-nought × (1 ≤ Z-below-nought.k)
    × Each NonNeg Z-below-nought.E × Each NonNeg Z-below-nought.ranking.Y
unfolding computing Each
Z-needed = (((settling_decided upward_idly Z-below-nought).0 refl, (counting_up, upward_idly_endless)), omega arith, search, search)
