-- The tests and the conditions say the same: each order of tests is done exactly when the published conditions hold (`..-decided`), and
-- otherwise it tells exactly the first that fails (`told-exactly-..`).
use Prim.Native.Nat.{ℕ, ◌<◌}
use mathlib.Core.Path.{◌≡◌, refl, sym, ◌∙◌}
use mathlib.Core.Logic.{◌↔◌, ◌⊎◌, inl, inr}
use lib.IntN.{ℤ, pos, ◌+ℤ◌, ◌-ℤ◌, +ℤ_invr}
use lib.ListN.{length}
use lib.Signed.{◌≤ℤ◌}
use Rattle.refusal.specs.Tests.{done, refused}
use Rattle.refusal.specs.Places.{Throughout, FirstFailing}
use Rattle.whole.specs.Sums.{sum, less, Each}
use Rattle.whole.proofs.EachLaws.{each_at, each_by}
use Rattle.whole.proofs.Compare.{true_same, same_true, true_le, le_true, true_lt, lt_true}
use Rattle.whole.proofs.SumLaws.{sum_add, sum_less_weights}
use Rattle.theory.specs.Loops.{Row, A, A', b, Loop, Meets}
use Rattle.theory.specs.Rankings.{Ranking, RankingHolds}
use Rattle.theory.specs.Exclusions.{Exclusion, Stays, ExclusionHolds}
use Rattle.theory.specs.Lassos.{Lasso, LassoHolds, longer, starting, keeping}
use Rattle.theory.specs.WeightedRows.{Weighted, sum_of, times_v}
use Rattle.theory.specs.Conditions.{ranking_tests, row_at, exclusion_tests, weighed_tests, lasso_tests, started, kept, ranked, ranking_told, exclusion_told, lasso_told}
use Rattle.theory.specs.Fails.{YA'None, YLessZANone, ZAAndA'None, ZbNegative, RankingFails, fails_21, fails_22, fails_23, fails_24, ExclusionFails, fails_31, fails_32, DirectionStays, StepMeets}
use Rattle.theory.specs.Fails.{LassoFails, fails_41, fails_42, fails_43, fails_44, fails_45, fails_46, fails_ranked, Starts, Keeps}
use Rattle.theory.specs.Fails.{TBNone, TB'Carries, TdWithin, HACarries, HA'Carries, HbWithin}
use Rattle.theory.proofs.RankingTheorems.{no_difference}
use Rattle.theory.proofs.Orders.{Decides, both, one, each, seen, changed, decided, told_exactly}
use Rattle.theory.proofs.LassoParts as Parts

-- ---- ranking

-- equal is without a difference
difference : {x y : ℤ} → x ≡ y → x -ℤ y ≡ pos 0
difference {x} {y} h = rw h (+ℤ_invr y)

module _ (loop : Loop) (c : Ranking) where
  abbrev n : ℕ
  n = loop.variables

  -- the first that fails, as the order of tests has it, and by its number
  abbrev RankingOrder : ℕ → ℕ → Type 0
  RankingOrder k p =
      ((21 ≡ k) × FirstFailing n (YA'None loop c) p)
      ⊎ (Throughout n (YA'None loop c)
      × (((22 ≡ k) × FirstFailing n (YLessZANone loop c) p)
      ⊎ (Throughout n (YLessZANone loop c)
      × (((23 ≡ k) × FirstFailing n (ZAAndA'None loop c) p)
      ⊎ (Throughout n (ZAAndA'None loop c) × ((24 ≡ k) × (0 ≡ p) × (ZbNegative loop c → ⊥)))))))

  ranking_named : (k p : ℕ) → RankingOrder k p → RankingFails loop c k p
  ranking_named k p (inl f) = rw (← f.0) (fails_21 f.1)
  ranking_named k p (inr (h, inl f)) = rw (← f.0) (fails_22 h f.1)
  ranking_named k p (inr (h, inr (i, inl f))) = rw (← f.0) (fails_23 h i f.1)
  ranking_named k p (inr (h, inr (i, inr (j, f)))) = rw (← f.0, ← f.1) (fails_24 h i j f.2)

  ranking_numbered : (k p : ℕ) → RankingFails loop c k p → RankingOrder k p
  ranking_numbered k p (fails_21 f) = inl (refl, f)
  ranking_numbered k p (fails_22 h f) = inr (h, inl (refl, f))
  ranking_numbered k p (fails_23 h i f) = inr (h, inr (i, inl (refl, f)))
  ranking_numbered k p (fails_24 h i j f) = inr (h, inr (i, inr (j, (refl, refl, f))))

  pub ranking_decides : Decides (ranking_tests loop.variables) (record { loop = loop; values = c }) (RankingHolds loop c) (RankingFails loop c)
  unfolding ranking_tests
  ranking_decides =
      changed
      (both (each _ _ _ (λ j. true_same (sum c.Y (A' j) loop.rows) (pos 0)) (λ j. same_true))
      (both
      (each _ _ _
      (λ j t. minus_is j ∙ difference (true_same (sum c.Y (A j) loop.rows) (sum c.Z (A j) loop.rows) t))
      (λ j h. same_true (no_difference (sum c.Y (A j) loop.rows) (sum c.Z (A j) loop.rows) (sym (minus_is j) ∙ h))))
      (both
      (each _ _ _
      (λ j t. plus_is j ∙ true_same (sum c.Z (A j) loop.rows +ℤ sum c.Z (A' j) loop.rows) (pos 0) t)
      (λ j h. same_true (sym (plus_is j) ∙ h)))
      (one (true_lt (sum c.Z b loop.rows) (pos 0)) lt_true))))
      (λ h. record { first = h.0; second = h.1.0; third = h.1.1.0; fourth = h.1.1.1 })
      (λ h. (h.first, (h.second, (h.third, h.fourth))))
      ranking_named ranking_numbered
    where
      minus_is : (j : ℕ) → sum (less c.Y c.Z) (A j) loop.rows ≡ sum c.Y (A j) loop.rows -ℤ sum c.Z (A j) loop.rows
      minus_is j = sum_less_weights c.Y c.Z (A j) loop.rows

      plus_is : (j : ℕ) → sum c.Z (λ row. A j row +ℤ A' j row) loop.rows ≡ sum c.Z (A j) loop.rows +ℤ sum c.Z (A' j) loop.rows
      plus_is j = sum_add c.Z (A j) (A' j) loop.rows

  pub ranking_decided : (ranking_told loop c ≡ done) ↔ RankingHolds loop c
  unfolding ranking_told
  ranking_decided = decided ranking_decides

  pub told_exactly_ranking : (k p : ℕ) → (ranking_told loop c ≡ refused k p) ↔ RankingFails loop c k p
  unfolding ranking_told
  told_exactly_ranking = told_exactly ranking_decides

-- ---- exclusion

-- in each row, said by the row's number
every_row : (loop : Loop) (c : Exclusion) (P : Row → Type 0)
    → ((i : ℕ) → i < length loop.rows → P (row_at i (record { loop = loop; values = c }))) ↔ Each P loop.rows
every_row loop c P = (each_by P loop.rows _, λ e i h. each_at P loop.rows i _ e h)

module _ (loop : Loop) (c : Exclusion) where
  abbrev m : ℕ
  m = length loop.rows

  abbrev ExclusionOrder : ℕ → ℕ → Type 0
  ExclusionOrder k p =
      ((31 ≡ k) × FirstFailing m (DirectionStays loop c) p) ⊎ (Throughout m (DirectionStays loop c) × ((32 ≡ k) × FirstFailing m (StepMeets loop c) p))

  exclusion_named : (k p : ℕ) → ExclusionOrder k p → ExclusionFails loop c k p
  exclusion_named k p (inl f) = rw (← f.0) (fails_31 f.1)
  exclusion_named k p (inr (h, f)) = rw (← f.0) (fails_32 h f.1)

  exclusion_numbered : (k p : ℕ) → ExclusionFails loop c k p → ExclusionOrder k p
  exclusion_numbered k p (fails_31 f) = inl (refl, f)
  exclusion_numbered k p (fails_32 h f) = inr (h, (refl, f))

  exclusion_decides : Decides (exclusion_tests m) (record { loop = loop; values = c }) (ExclusionHolds loop c) (ExclusionFails loop c)
  unfolding exclusion_tests
  exclusion_decides =
      changed
      (both (each _ _ _ (λ i. true_le _ _) (λ i. le_true)) (each _ _ _ (λ i. true_le _ _) (λ i. le_true)))
      (λ h. record { direction = (every_row loop c (Stays c.«V» c.U)).0 h.0; step = (every_row loop c (Meets c.q (less c.W c.«V») c.W)).0 h.1 })
      (λ h. ((every_row loop c (Stays c.«V» c.U)).1 h.direction, (every_row loop c (Meets c.q (less c.W c.«V») c.W)).1 h.step))
      exclusion_named exclusion_numbered

  pub exclusion_decided : (exclusion_told loop c ≡ done) ↔ ExclusionHolds loop c
  unfolding exclusion_told
  exclusion_decided = decided exclusion_decides

  pub told_exactly_exclusion : (k p : ℕ) → (exclusion_told loop c ≡ refused k p) ↔ ExclusionFails loop c k p
  unfolding exclusion_told
  told_exactly_exclusion = told_exactly exclusion_decides

-- ---- weighted rows, in the words of their use: P and Q at each column over A and over A', R of the right sides

abbrev pub WeighedOrder : ℕ → ℕ → ℕ → ℕ → (ℕ → Type 0) → (ℕ → Type 0) → Type 0 → ℕ → ℕ → Type 0
WeighedOrder over_A over_A' over_b n P Q R k p =
    ((over_A ≡ k) × FirstFailing n P p)
    ⊎ (Throughout n P × (((over_A' ≡ k) × FirstFailing n Q p) ⊎ (Throughout n Q × ((over_b ≡ k) × (0 ≡ p) × (R → ⊥)))))

pub weighed_decides : (over_A over_A' over_b n : ℕ) (w : Weighted) {P Q : ℕ → Type 0} {R : Type 0}
    → ((j : ℕ) → P j ↔ (sum_of w (A j) ≡ times_v w w.now j)) → ((j : ℕ) → Q j ↔ (sum_of w (A' j) ≡ times_v w w.next j))
    → (R ↔ (sum_of w b ≤ℤ w.limit))
    → Decides (weighed_tests over_A over_A' over_b n) w (Throughout n P × (Throughout n Q × R)) (WeighedOrder over_A over_A' over_b n P Q R)
unfolding weighed_tests
weighed_decides over_A over_A' over_b n w now_is next_is right_is =
    both (each n over_A _ (λ j t. (now_is j).1 (true_same _ _ t)) (λ j h. same_true ((now_is j).0 h)))
    (both (each n over_A' _ (λ j t. (next_is j).1 (true_same _ _ t)) (λ j h. same_true ((next_is j).0 h)))
    (one (λ t. right_is.1 (true_le _ _ t)) (λ h. le_true (right_is.0 h))))

-- ---- lasso

module _ (loop : Loop) (c : Lasso) where
  abbrev StartingOrder : ℕ → ℕ → Type 0
  StartingOrder = WeighedOrder 41 42 43 loop.variables (TBNone c) (TB'Carries c) (TdWithin c)

  abbrev KeepingOrder : ℕ → ℕ → Type 0
  KeepingOrder = WeighedOrder 44 45 46 loop.variables (HACarries loop c) (HA'Carries loop c) (HbWithin loop c)

  abbrev StartHolds : Type 0
  StartHolds = Throughout loop.variables (TBNone c) × (Throughout loop.variables (TB'Carries c) × TdWithin c)

  abbrev KeptHolds : Type 0
  KeptHolds = Throughout loop.variables (HACarries loop c) × (Throughout loop.variables (HA'Carries loop c) × HbWithin loop c)

  start_named : (k p : ℕ) → StartingOrder k p → LassoFails loop c k p
  start_named k p (inl f) = rw (← f.0) (fails_41 f.1)
  start_named k p (inr (h, inl f)) = rw (← f.0) (fails_42 h f.1)
  start_named k p (inr (h, inr (i, f))) = rw (← f.0, ← f.1) (fails_43 h i f.2)

  starts_so : StartHolds → Starts loop c
  starts_so h = record { holds_41 = h.0; holds_42 = h.1.0; holds_43 = h.1.1 }

  so_starts : Starts loop c → StartHolds
  so_starts h = (h.holds_41, (h.holds_42, h.holds_43))

  kept_named : (k p : ℕ) → Starts loop c → KeepingOrder k p → LassoFails loop c k p
  kept_named k p s (inl f) = rw (← f.0) (fails_44 s f.1)
  kept_named k p s (inr (h, inl f)) = rw (← f.0) (fails_45 s h f.1)
  kept_named k p s (inr (h, inr (i, f))) = rw (← f.0, ← f.1) (fails_46 s h i f.2)

  keeps_so : KeptHolds → Keeps loop c
  keeps_so h = record { holds_44 = h.0; holds_45 = h.1.0; holds_46 = h.1.1 }

  so_keeps : Keeps loop c → KeptHolds
  so_keeps h = (h.holds_44, (h.holds_45, h.holds_46))

  abbrev LassoOrder : ℕ → ℕ → Type 0
  LassoOrder k p = StartingOrder k p ⊎ (StartHolds × (KeepingOrder k p ⊎ (KeptHolds × RankingFails (longer loop c) c.ranking k p)))

  lasso_named : (k p : ℕ) → LassoOrder k p → LassoFails loop c k p
  lasso_named k p (inl f) = start_named k p f
  lasso_named k p (inr (s, inl f)) = kept_named k p (starts_so s) f
  lasso_named k p (inr (s, inr (h, f))) = fails_ranked (starts_so s) (keeps_so h) f

  lasso_numbered : (k p : ℕ) → LassoFails loop c k p → LassoOrder k p
  lasso_numbered k p (fails_41 f) = inl (inl (refl, f))
  lasso_numbered k p (fails_42 h f) = inl (inr (h, inl (refl, f)))
  lasso_numbered k p (fails_43 h i f) = inl (inr (h, inr (i, (refl, refl, f))))
  lasso_numbered k p (fails_44 s f) = inr (so_starts s, inl (inl (refl, f)))
  lasso_numbered k p (fails_45 s h f) = inr (so_starts s, inl (inr (h, inl (refl, f))))
  lasso_numbered k p (fails_46 s h i f) = inr (so_starts s, inl (inr (h, inr (i, (refl, refl, f)))))
  lasso_numbered k p (fails_ranked s h f) = inr (so_starts s, inr (so_keeps h, f))

  lasso_decides : Decides (lasso_tests loop.variables) (record { loop = loop; values = c }) (LassoHolds loop c) (LassoFails loop c)
  unfolding lasso_tests
  lasso_decides =
      changed
      (both (seen started (weighed_decides 41 42 43 loop.variables (starting c) (Parts.start_now loop c) (Parts.start_next loop c) (λ h. h, λ h. h)))
      (both (seen kept (weighed_decides 44 45 46 loop.variables (keeping loop c) (Parts.kept_now loop c) (Parts.kept_next loop c) (Parts.kept_right loop c)))
      (seen ranked (ranking_decides (longer loop c) c.ranking))))
      (λ h.
      record {
        start_now = h.0.0;
        start_next = h.0.1.0;
        start_right = h.0.1.1;
        kept_now = h.1.0.0;
        kept_next = h.1.0.1.0;
        kept_right = h.1.0.1.1;
        ranked = h.1.1;
      })
      (λ h. ((h.start_now, (h.start_next, h.start_right)), ((h.kept_now, (h.kept_next, h.kept_right)), h.ranked)))
      lasso_named lasso_numbered

  pub lasso_decided : (lasso_told loop c ≡ done) ↔ LassoHolds loop c
  unfolding lasso_told
  lasso_decided = decided lasso_decides

  pub told_exactly_lasso : (k p : ℕ) → (lasso_told loop c ≡ refused k p) ↔ LassoFails loop c k p
  unfolding lasso_told
  told_exactly_lasso = told_exactly lasso_decides
