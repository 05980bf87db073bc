-- 02, Q-3: lexicographic arguments, after document 004's linear ranking functions of several components, without invariant or "disabled"
-- case: "A path's own component is at least δ0 before a step and falls by δ or more; no earlier one rises: the weighted rows sum exactly to
-- -r·x or -r·x + r·x', their right sides to at most -δ0, -δ and 0."
use Rattle.std.specs.Prelude.{ℕ, ◌<◌, List, [], ℤ, pos, negsuc, neg_ℤ, length, get_or, ◌≤ℤ◌}
use Rattle.refusal.specs.Places.{Throughout}
use Rattle.whole.specs.Sums.{Each, NonNeg}
use Rattle.theory.specs.WeightedRows.{Weighted, Weighs}
use Rattle.theory_paths.specs.Paths.{Branches, rows_for, EndlessThrough}

-- a component: r, δ0 and δ
pub record Component : Type 0 where
  pub r : List ℤ
  pub δ0 : ℤ
  pub δ : ℤ

-- what is held for a path: the number of its own component, from 0, and the multipliers of its rows, one list for each condition; the
-- unaffecting condition has one for each earlier component
pub record PathPart : Type 0 where
  pub component : ℕ
  pub bounded : List ℤ
  pub ranking : List ℤ
  pub unaffecting : List (List ℤ)

pub record Lexicographic : Type 0 where
  pub components : List Component
  pub parts : List PathPart

abbrev pub component_at : Lexicographic → ℕ → Component
component_at c i = get_or c.components i (record { r = []; δ0 = pos 0; δ = pos 0 })

abbrev pub part_at : Lexicographic → ℕ → PathPart
part_at c j = get_or c.parts j (record { component = 0; bounded = []; ranking = []; unaffecting = [] })

-- path j's own component
abbrev pub own : Lexicographic → ℕ → Component
own c j = component_at c (part_at c j).component

-- ---- the conditions of path j, as weighted rows

-- bounded: to -r·x, at most -δ0
abbrev pub bounding : Branches → Lexicographic → ℕ → Weighted
bounding loop c j =
    record {
      rows = rows_for loop j;
      weights = (part_at c j).bounded;
      v = (own c j).r;
      now = negsuc 0;
      next = pos 0;
      limit = neg_ℤ (own c j).δ0;
    }

-- ranking: to -r·x + r·x', at most -δ
abbrev pub falling : Branches → Lexicographic → ℕ → Weighted
falling loop c j =
    record {
      rows = rows_for loop j;
      weights = (part_at c j).ranking;
      v = (own c j).r;
      now = negsuc 0;
      next = pos 1;
      limit = neg_ℤ (own c j).δ;
    }

-- unaffecting, for the earlier component i: to -r·x + r·x', at most 0
abbrev pub not_rising : Branches → Lexicographic → ℕ → ℕ → Weighted
not_rising loop c j i =
    record {
      rows = rows_for loop j;
      weights = get_or (part_at c j).unaffecting i [];
      v = (component_at c i).r;
      now = negsuc 0;
      next = pos 1;
      limit = pos 0;
    }

pub record PathHolds (loop : Branches) (c : Lexicographic) (j : ℕ) : Type 0 where
  pub bounded : Weighs loop.variables (bounding loop c j)
  pub ranking : Weighs loop.variables (falling loop c j)
  pub unaffecting : Throughout (part_at c j).component (λ i. Weighs loop.variables (not_rising loop c j i))

-- of every path
abbrev pub LexicographicHolds : Branches → Lexicographic → Type 0
LexicographicHolds loop c = Throughout (length loop.paths) (PathHolds loop c)

-- ---- what an argument is to be besides: no multiplier is below 0, every δ is 1 at least, every component number is below the count

pub record NonNegativePart (p : PathPart) : Type 0 where
  pub bounded : Each NonNeg p.bounded
  pub ranking : Each NonNeg p.ranking
  pub unaffecting : Each (Each NonNeg) p.unaffecting

pub record WellFormed (loop : Branches) (c : Lexicographic) : Type 0 where
  pub nonneg : Each NonNegativePart c.parts
  pub falls : Each (λ k. pos 1 ≤ℤ k.δ) c.components
  pub numbered : Throughout (length loop.paths) (λ j. (part_at c j).component < length c.components)

-- ---- the promise: "no run through these paths goes on for ever"

abbrev pub Ends : Branches → Type 0
Ends loop = (state : ℕ → List ℤ) → EndlessThrough loop state → ⊥
