-- What a refusal by a condition says of the loop and the certificate (02, Q-1): which condition fails, at which column or row it fails
-- first, and that all before it hold. `told-exactly-..` in proofs/Decisions.antt says that this and nothing else is told.
use Rattle.std.specs.Prelude.{ℕ, ◌≡◌, [], pos, neg_ℤ, ◌+ℤ◌, ◌-ℤ◌, ◌*ℤ◌, length, get_or, ◌≤ℤ◌, ◌<ℤ◌}
use Rattle.refusal.specs.Places.{Throughout, FirstFailing}
use Rattle.whole.specs.Sums.{sum, less}
use Rattle.theory.specs.Loops.{Row, A, A', b, Loop, Meets}
use Rattle.theory.specs.Rankings.{Ranking}
use Rattle.theory.specs.Exclusions.{Exclusion, Stays}
use Rattle.theory.specs.Lassos.{Lasso, longer}

-- ---- ranking

-- column j of YA', of (Y - Z)A and of Z(A + A') is 0; Zb < 0
abbrev pub YA'None : Loop → Ranking → ℕ → Type 0
YA'None loop c j = sum c.Y (A' j) loop.rows ≡ pos 0

abbrev pub YLessZANone : Loop → Ranking → ℕ → Type 0
YLessZANone loop c j = sum (less c.Y c.Z) (A j) loop.rows ≡ pos 0

abbrev pub ZAAndA'None : Loop → Ranking → ℕ → Type 0
ZAAndA'None loop c j = sum c.Z (λ row. A j row +ℤ A' j row) loop.rows ≡ pos 0

abbrev pub ZbNegative : Loop → Ranking → Type 0
ZbNegative loop c = sum c.Z b loop.rows <ℤ pos 0

-- by number and place
pub data RankingFails (loop : Loop) (c : Ranking) : ℕ → ℕ → Type 0 where
  fails_21 : {j : ℕ} → FirstFailing loop.variables (YA'None loop c) j → RankingFails loop c 21 j
  fails_22 : {j : ℕ} → Throughout loop.variables (YA'None loop c) → FirstFailing loop.variables (YLessZANone loop c) j
      → RankingFails loop c 22 j
  fails_23 : {j : ℕ} → Throughout loop.variables (YA'None loop c) → Throughout loop.variables (YLessZANone loop c)
      → FirstFailing loop.variables (ZAAndA'None loop c) j → RankingFails loop c 23 j
  fails_24 : Throughout loop.variables (YA'None loop c) → Throughout loop.variables (YLessZANone loop c)
      → Throughout loop.variables (ZAAndA'None loop c) → (ZbNegative loop c → ⊥) → RankingFails loop c 24 0

-- ---- exclusion

-- row i of the loop
abbrev row_at : Loop → ℕ → Row
row_at loop i = get_or loop.rows i (record { now = []; next = []; right = pos 0 })

-- row i has A·V + A'·U <= 0, and A·(W - V) + A'·W <= q·b
abbrev pub DirectionStays : Loop → Exclusion → ℕ → Type 0
DirectionStays loop c i = Stays c.«V» c.U (row_at loop i)

abbrev pub StepMeets : Loop → Exclusion → ℕ → Type 0
StepMeets loop c i = Meets c.q (less c.W c.«V») c.W (row_at loop i)

pub data ExclusionFails (loop : Loop) (c : Exclusion) : ℕ → ℕ → Type 0 where
  fails_31 : {i : ℕ} → FirstFailing (length loop.rows) (DirectionStays loop c) i → ExclusionFails loop c 31 i
  fails_32 : {i : ℕ} → Throughout (length loop.rows) (DirectionStays loop c) → FirstFailing (length loop.rows) (StepMeets loop c) i
      → ExclusionFails loop c 32 i

-- ---- lasso

-- column j of TB is 0, and of TB' is -k s; Td <= k s0
abbrev pub TBNone : Lasso → ℕ → Type 0
TBNone c j = sum c.T (A j) c.stem ≡ pos 0

abbrev pub TB'Carries : Lasso → ℕ → Type 0
TB'Carries c j = sum c.T (A' j) c.stem ≡ neg_ℤ (pos c.k *ℤ get_or c.s j (pos 0))

abbrev pub TdWithin : Lasso → Type 0
TdWithin c = sum c.T b c.stem ≤ℤ (pos c.k *ℤ c.s0)

-- column j of HA - h0 s is 0, and of HA' is -k2 s; Hb + h0 s0 <= k2 s0
abbrev pub HACarries : Loop → Lasso → ℕ → Type 0
HACarries loop c j = sum c.H (A j) loop.rows -ℤ pos c.h0 *ℤ get_or c.s j (pos 0) ≡ pos 0

abbrev pub HA'Carries : Loop → Lasso → ℕ → Type 0
HA'Carries loop c j = sum c.H (A' j) loop.rows ≡ neg_ℤ (pos c.k2 *ℤ get_or c.s j (pos 0))

abbrev pub HbWithin : Loop → Lasso → Type 0
HbWithin loop c = (sum c.H b loop.rows +ℤ pos c.h0 *ℤ c.s0) ≤ℤ (pos c.k2 *ℤ c.s0)

-- start holds; kept holds
pub record Starts (loop : Loop) (c : Lasso) : Type 0 where
  pub holds_41 : Throughout loop.variables (TBNone c)
  pub holds_42 : Throughout loop.variables (TB'Carries c)
  pub holds_43 : TdWithin c

pub record Keeps (loop : Loop) (c : Lasso) : Type 0 where
  pub holds_44 : Throughout loop.variables (HACarries loop c)
  pub holds_45 : Throughout loop.variables (HA'Carries loop c)
  pub holds_46 : HbWithin loop c

pub data LassoFails (loop : Loop) (c : Lasso) : ℕ → ℕ → Type 0 where
  fails_41 : {j : ℕ} → FirstFailing loop.variables (TBNone c) j → LassoFails loop c 41 j
  fails_42 : {j : ℕ} → Throughout loop.variables (TBNone c) → FirstFailing loop.variables (TB'Carries c) j
      → LassoFails loop c 42 j
  fails_43 : Throughout loop.variables (TBNone c) → Throughout loop.variables (TB'Carries c)
      → (TdWithin c → ⊥) → LassoFails loop c 43 0
  fails_44 : {j : ℕ} → Starts loop c → FirstFailing loop.variables (HACarries loop c) j → LassoFails loop c 44 j
  fails_45 : {j : ℕ} → Starts loop c → Throughout loop.variables (HACarries loop c)
      → FirstFailing loop.variables (HA'Carries loop c) j → LassoFails loop c 45 j
  fails_46 : Starts loop c → Throughout loop.variables (HACarries loop c) → Throughout loop.variables (HA'Carries loop c)
      → (HbWithin loop c → ⊥) → LassoFails loop c 46 0
  -- 21 to 24, over the loop with the added row
  fails_ranked : {k p : ℕ} → Starts loop c → Keeps loop c → RankingFails (longer loop c) c.ranking k p → LassoFails loop c k p
