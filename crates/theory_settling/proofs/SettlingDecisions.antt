-- The tests and the conditions of a settling say the same: the order of tests is done exactly when the conditions hold
-- (`settling_decided`), and otherwise it tells exactly the first that fails (`told_exactly_settling`).
use Prim.Native.Nat.{ℕ}
use mathlib.Core.Path.{◌≡◌, refl}
use mathlib.Core.Logic.{◌↔◌, ◌⊎◌, inl, inr}
use Rattle.refusal.specs.Tests.{done, refused}
use Rattle.refusal.specs.Places.{Throughout}
use Rattle.theory.specs.Loops.{Loop}
use Rattle.theory.specs.Fails.{RankingFails}
use Rattle.theory.proofs.Decisions.{WeighedOrder, weighed_decides, ranking_decides}
use Rattle.theory.proofs.Orders.{Decides, both, seen, changed, decided, told_exactly}
use Rattle.theory_settling.specs.Settlings.{Settling, SettlingHolds, rising, longer}
use Rattle.theory_settling.specs.SettlingConditions.{rise, ranked, settling_tests, settling_told}
use Rattle.theory_settling.specs.SettlingFails.{EARises, EA'Rises, EbWithin, SettlingFails, fails_61, fails_62}
use Rattle.theory_settling.specs.SettlingFails.{fails_63, fails_ranked}
use Rattle.theory_settling.proofs.SettlingParts.{rise_next}

module _ (loop : Loop) (c : Settling) where
  abbrev n : ℕ
  n = loop.variables

  -- the first that fails, as the order of tests has it, and by its number
  abbrev RiseOrder : ℕ → ℕ → Type 0
  RiseOrder = WeighedOrder 61 62 63 n (EARises loop c) (EA'Rises loop c) (EbWithin loop c)

  abbrev RiseHolds : Type 0
  RiseHolds = Throughout n (EARises loop c) × (Throughout n (EA'Rises loop c) × EbWithin loop c)

  abbrev SettlingOrder : ℕ → ℕ → Type 0
  SettlingOrder k p = RiseOrder k p ⊎ (RiseHolds × RankingFails (longer loop c) c.ranking k p)

  named : (k p : ℕ) → SettlingOrder k p → SettlingFails loop c k p
  named k p (inl (inl f)) = rw (← f.0) (fails_61 f.1)
  named k p (inl (inr (h, inl f))) = rw (← f.0) (fails_62 h f.1)
  named k p (inl (inr (h, inr (i, f)))) = rw (← f.0, ← f.1) (fails_63 h i f.2)
  named k p (inr (h, f)) = fails_ranked (record { holds_61 = h.0; holds_62 = h.1.0; holds_63 = h.1.1 }) f

  numbered : (k p : ℕ) → SettlingFails loop c k p → SettlingOrder k p
  numbered k p (fails_61 f) = inl (inl (refl, f))
  numbered k p (fails_62 h f) = inl (inr (h, inl (refl, f)))
  numbered k p (fails_63 h i f) = inl (inr (h, inr (i, (refl, refl, f))))
  numbered k p (fails_ranked h f) = inr ((h.holds_61, (h.holds_62, h.holds_63)), f)

  settling_decides : Decides (settling_tests n) (record { loop = loop; values = c }) (SettlingHolds loop c) (SettlingFails loop c)
  unfolding settling_tests
  settling_decides =
      changed
      (both (seen rise (weighed_decides 61 62 63 n (rising loop c) (λ j. (λ h. h, λ h. h)) (rise_next loop c) (λ h. h, λ h. h)))
      (seen ranked (ranking_decides (longer loop c) c.ranking)))
      (λ h. record { rise_now = h.0.0; rise_next = h.0.1.0; rise_right = h.0.1.1; ranked = h.1 })
      (λ h. ((h.rise_now, (h.rise_next, h.rise_right)), h.ranked))
      named numbered

  pub settling_decided : (settling_told loop c ≡ done) ↔ SettlingHolds loop c
  unfolding settling_told
  settling_decided = decided settling_decides

  pub told_exactly_settling : (k p : ℕ) → (settling_told loop c ≡ refused k p) ↔ SettlingFails loop c k p
  unfolding settling_told
  told_exactly_settling = told_exactly settling_decides
