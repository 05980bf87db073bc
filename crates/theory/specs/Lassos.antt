-- Lassos: 01, "Conditions", after document 001's Bradley-Manna-Sipma constraints with the invariant as a premise.
use Rattle.std.specs.Prelude.{ℕ, ◌<◌, ◌≤◌, ◌≡◌, List, ℤ, pos, negsuc, neg_ℤ, ◌+ℤ◌, ◌-ℤ◌, ◌*ℤ◌, length, get_or, replicate, ◌≤ℤ◌}
use Rattle.whole.specs.Sums.{dot, sum, scale, Each, NonNeg}
use Rattle.theory.specs.Loops.{Row, A, A', b, Loop, over, with_row, Step, Run, Endless}
use Rattle.theory.specs.Rankings.{Ranking, NonNegative, RankingHolds, bound, Bounds}
use Rattle.theory.specs.WeightedRows.{Weighted}

-- stem rows (B, B', d); the invariant s·x + s0 >= 0; T, one per stem row, and its scale k; H, one per loop row, h0 and their scale
-- k2; the ranking
pub record Lasso : Type 0 where
  pub stem : List Row
  pub s : List ℤ
  pub s0 : ℤ
  pub k : ℕ
  pub T : List ℤ
  pub k2 : ℕ
  pub H : List ℤ
  pub h0 : ℕ
  pub ranking : Ranking

-- no multiplier is below 0 (h0 is a natural number)
abbrev pub NonNegativeLasso : Lasso → Type 0
NonNegativeLasso c = Each NonNeg c.T × Each NonNeg c.H × NonNegative c.ranking

-- the stem as a loop of its own
abbrev pub stem_of : Loop → Lasso → Loop
stem_of loop c = over loop.variables c.stem

-- the added row: -s·x <= s0
abbrev pub added : Loop → Lasso → Row
added loop c = record { now = scale (negsuc 0) c.s; next = replicate loop.variables (pos 0); right = c.s0 }

-- the loop that the ranking is for
abbrev pub longer : Loop → Lasso → Loop
longer loop c = with_row loop (added loop c)

-- Start: TB = 0, TB' = -k s, Td <= k s0. Kept: HA - h0 s = 0, HA' = -k2 s, Hb + h0 s0 <= k2 s0. Ranking: the four conditions with
-- the added row
pub record LassoHolds (loop : Loop) (c : Lasso) : Type 0 where
  pub start_now : (j : ℕ) → j < loop.variables → sum c.T (A j) c.stem ≡ pos 0
  pub start_next : (j : ℕ) → j < loop.variables → sum c.T (A' j) c.stem ≡ neg_ℤ (pos c.k *ℤ get_or c.s j (pos 0))
  pub start_right : sum c.T b c.stem ≤ℤ (pos c.k *ℤ c.s0)
  pub kept_now : (j : ℕ) → j < loop.variables → sum c.H (A j) loop.rows -ℤ pos c.h0 *ℤ get_or c.s j (pos 0) ≡ pos 0
  pub kept_next : (j : ℕ) → j < loop.variables → sum c.H (A' j) loop.rows ≡ neg_ℤ (pos c.k2 *ℤ get_or c.s j (pos 0))
  pub kept_right : (sum c.H b loop.rows +ℤ pos c.h0 *ℤ c.s0) ≤ℤ (pos c.k2 *ℤ c.s0)
  pub ranked : RankingHolds (longer loop c) c.ranking

-- start and kept as weighted rows: the stem's, to 0 over B, -k s over B' and at most k s0; the loop's, to h0 s over A, -k2 s over A' and
-- at most (k2 - h0) s0
abbrev pub starting : Lasso → Weighted
starting c =
    record { rows = c.stem; weights = c.T; v = c.s; now = pos 0; next = neg_ℤ (pos c.k); limit = pos c.k *ℤ c.s0 }

abbrev pub keeping : Loop → Lasso → Weighted
keeping loop c =
    record {
      rows = loop.rows;
      weights = c.H;
      v = c.s;
      now = pos c.h0;
      next = neg_ℤ (pos c.k2);
      limit = (pos c.k2 -ℤ pos c.h0) *ℤ c.s0;
    }

-- the invariant at x
abbrev pub Invariant : Lasso → List ℤ → Type 0
Invariant c x = pos 0 ≤ℤ (dot c.s x +ℤ c.s0)

-- what a lasso promises: every stem step starts the invariant, every run keeps it, and the runs from states that meet it are
-- bounded, with the rank, start and fall of the longer loop. So the runs that follow a stem step from x to x' are, which is the
-- promise of 01
pub record LassoPromise (loop : Loop) (c : Lasso) (r : List ℤ) (δ0 δ : ℤ) : Type 0 where
  pub started : (x x' : List ℤ) → Step (stem_of loop c) 1 x x' → Invariant c x'
  pub kept : (x : List ℤ) (ys : List (List ℤ)) → Invariant c x → Run loop x ys → Each (Invariant c) ys
  pub from_invariant : Bounds loop (Invariant c) r δ0 δ
  pub steps_after_stem : (x x' : List ℤ) (ys : List (List ℤ)) → Step (stem_of loop c) 1 x x' → Run loop x' ys → length ys ≤ bound r δ0 δ x'
  pub ends_after_stem : (x : List ℤ) (state : ℕ → List ℤ) → Step (stem_of loop c) 1 x (state 0) → Endless loop state → ⊥
