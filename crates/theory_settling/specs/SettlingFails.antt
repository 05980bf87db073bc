-- What a refusal by a condition says of the loop and the settling (02, Q-8): which condition fails, at which column first, and that
-- all before it hold. `told_exactly_settling` says that this and nothing else is told.
use Rattle.std.specs.Prelude.{ℕ, ◌≡◌, pos, neg_ℤ, ◌*ℤ◌, get_or, ◌≤ℤ◌}
use Rattle.refusal.specs.Places.{Throughout, FirstFailing}
use Rattle.whole.specs.Sums.{sum}
use Rattle.theory.specs.Fails.{RankingFails}
use Rattle.theory.specs.Loops.{A, A', b, Loop}
use Rattle.theory_settling.specs.Settlings.{Settling, longer}

-- column j of EA is k g, and of EA' is -k g; Eb <= -k
abbrev pub EARises : Loop → Settling → ℕ → Type 0
EARises loop c j = sum c.E (A j) loop.rows ≡ pos c.k *ℤ get_or c.g j (pos 0)

abbrev pub EA'Rises : Loop → Settling → ℕ → Type 0
EA'Rises loop c j = sum c.E (A' j) loop.rows ≡ neg_ℤ (pos c.k *ℤ get_or c.g j (pos 0))

abbrev pub EbWithin : Loop → Settling → Type 0
EbWithin loop c = sum c.E b loop.rows ≤ℤ neg_ℤ (pos c.k)

-- the rise holds
pub record Rises (loop : Loop) (c : Settling) : Type 0 where
  pub holds_61 : Throughout loop.variables (EARises loop c)
  pub holds_62 : Throughout loop.variables (EA'Rises loop c)
  pub holds_63 : EbWithin loop c

pub data SettlingFails (loop : Loop) (c : Settling) : ℕ → ℕ → Type 0 where
  fails_61 : {j : ℕ} → FirstFailing loop.variables (EARises loop c) j → SettlingFails loop c 61 j
  fails_62 : {j : ℕ} → Throughout loop.variables (EARises loop c) → FirstFailing loop.variables (EA'Rises loop c) j
      → SettlingFails loop c 62 j
  fails_63 : Throughout loop.variables (EARises loop c) → Throughout loop.variables (EA'Rises loop c)
      → (EbWithin loop c → ⊥) → SettlingFails loop c 63 0
  -- 21 to 24, over the loop with the added row
  fails_ranked : {k p : ℕ} → Rises loop c → RankingFails (longer loop c) c.ranking k p → SettlingFails loop c k p
