-- A settling's rise, in 02's words and as weighted rows: the same column by column.
use Prim.Native.Nat.{ℕ}
use mathlib.Core.Path.{◌≡◌, sym, ◌∙◌}
use mathlib.Core.Logic.{◌↔◌}
use lib.IntN.{pos, neg_ℤ}
use lib.ListN.{get_or}
use Rattle.whole.proofs.Ring.{neg-*ℤ}
use Rattle.theory.specs.Loops.{A', Loop}
use Rattle.theory.specs.WeightedRows.{Weighs, sum_of, times_v}
use Rattle.theory_settling.specs.Settlings.{Settling, SettlingHolds, rising}
use Rattle.theory_settling.specs.SettlingFails.{EA'Rises}

module _ (loop : Loop) (c : Settling) where
  pub rise_next : (j : ℕ) → EA'Rises loop c j ↔ (sum_of (rising loop c) (A' j) ≡ times_v (rising loop c) (neg_ℤ (pos c.k)) j)
  rise_next j = (λ h. h ∙ sym (neg-*ℤ (pos c.k) (get_or c.g j (pos 0))), λ h. h ∙ neg-*ℤ (pos c.k) (get_or c.g j (pos 0)))

  pub rise_weighs : SettlingHolds loop c → Weighs loop.variables (rising loop c)
  rise_weighs h = record { over_A = h.rise_now; over_A' = λ j below. (rise_next j).0 (h.rise_next j below); over_b = h.rise_right }
