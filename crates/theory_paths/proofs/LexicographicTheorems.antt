-- The promise of a lexicographic argument: a loop of several paths with a well-formed argument whose conditions hold does not run for ever
-- (`lexicographic_ends`). What each condition says of a step stands under its own name. And what an argument is where there is one path:
-- a ranking, and every ranking is one (`ranking_as_lexicographic`, `lexicographic_as_ranking`).
use Prim.Native.Nat.{ℕ, zero, suc, ◌<◌}
use mathlib.Core.Path.{◌≡◌, sym, ◌∙◌}
use mathlib.Core.List.{List, [], ◌∷◌}
use native.Mathlib.Omega.{arith}
use lib.IntN.{ℤ, pos, negsuc, neg_ℤ, ◌+ℤ◌, ◌-ℤ◌, ◌*ℤ◌, zero-*ℤ}
use lib.ListN.{length, get_or}
use lib.Signed.{◌≤ℤ◌, ◌<ℤ◌}
use Rattle.refusal.specs.Places.{Throughout}
use Rattle.whole.specs.Sums.{dot, sum, Each, NonNeg}
use Rattle.whole.proofs.EachLaws.{each_at}
use Rattle.whole.proofs.Ring.{one-*ℤ}
use Rattle.whole.proofs.Solve.{v, ◌⊕◌, ◌⊝◌, ◌⊗◌, neg, solve, solve_le, solve_lt, le_fact}
use Rattle.whole.proofs.SumLaws.{sum_add, sum_less_weights}
use Rattle.theory.specs.Loops.{Row, A, A', b, over, Step}
use Rattle.theory.specs.Rankings.{Ranking, NonNegative, RankingHolds, start, fall}
use Rattle.theory.specs.WeightedRows.{Weighs}
use Rattle.theory.proofs.Steps.{weighed_step}
use Rattle.theory.proofs.RankingTheorems.{rank_at, ZA-column, YA-column, YA'-column, ranking_is_linear_ranking, ranking_bounds_runs}
use Rattle.theory_paths.specs.Paths.{Branches, path, StepThrough}
use Rattle.theory_paths.specs.Lexicographics.{Component, Lexicographic, component_at, part_at, own, bounding, falling, not_rising}
use Rattle.theory_paths.specs.Lexicographics.{LexicographicHolds, NonNegativePart, WellFormed, Ends}
use Rattle.theory_paths.specs.OnePath.{alone, one_component, as_ranking, AsRanking}
use Rattle.theory_paths.proofs.FallingEnds.{falling_ends}
use Rattle.theory_paths.proofs.StepNumbers.{held_above, fallen_by, no_higher}

-- what holds of each of a list and of what stands for those past its end holds at every place
each_anywhere : {B : Type 0} (P : B → Type 0) (bs : List B) (i : ℕ) (d : B) → Each P bs → P d → P (get_or bs i d)
unfolding Each
each_anywhere P [] i d e h = h
each_anywhere P (b ∷ bs) zero d e h = e.0
each_anywhere P (b ∷ bs) (suc i) d e h = each_anywhere P bs i d e.1 h

part_nonneg : (c : Lexicographic) → Each NonNegativePart c.parts → (j : ℕ) → NonNegativePart (part_at c j)
unfolding Each
part_nonneg c nonneg j = each_anywhere NonNegativePart c.parts j _ nonneg (record { bounded = tt; ranking = tt; unaffecting = tt })

-- ---- what each condition says of a whole-number step through path j

module _ (loop : Branches) (c : Lexicographic) (nonneg : Each NonNegativePart c.parts) (holds : LexicographicHolds loop c)
    (j : ℕ) (there : j < length loop.paths) (x x' : List ℤ) (t : Step (path loop j) 1 x x') where
  -- δ0 <= r·x
  pub own_bounded : (own c j).δ0 ≤ℤ dot (own c j).r x
  own_bounded =
      held_above (dot (own c j).r x) (dot (own c j).r x') (own c j).δ0
      (weighed_step loop.variables (bounding loop c j) 1 x x' (part_nonneg c nonneg j).bounded (holds j there).bounded t)

  -- δ <= r·x - r·x'
  pub own_falls : (own c j).δ ≤ℤ (dot (own c j).r x -ℤ dot (own c j).r x')
  own_falls =
      fallen_by (dot (own c j).r x) (dot (own c j).r x') (own c j).δ
      (weighed_step loop.variables (falling loop c j) 1 x x' (part_nonneg c nonneg j).ranking (holds j there).ranking t)

  -- r·x' <= r·x for every earlier component
  pub earlier_stay : (i : ℕ) → i < (part_at c j).component → dot (component_at c i).r x' ≤ℤ dot (component_at c i).r x
  unfolding Each
  earlier_stay i earlier =
      no_higher (dot (component_at c i).r x) (dot (component_at c i).r x')
      (weighed_step loop.variables (not_rising loop c j i) 1 x x'
      (each_anywhere (Each NonNeg) (part_at c j).unaffecting i [] (part_nonneg c nonneg j).unaffecting tt)
      ((holds j there).unaffecting i earlier) t)

-- ---- the promise

-- how far a component is above its δ0
abbrev height : Component → List ℤ → ℤ
height k x = dot k.r x -ℤ k.δ0

pub lexicographic_ends : (loop : Branches) (c : Lexicographic) → WellFormed loop c → LexicographicHolds loop c → Ends loop
lexicographic_ends loop c well holds state e =
    falling_ends (length c.components)
    (λ k i. height (component_at c k) (state i))
    (λ i. (part_at c (e i).through).component)
    (λ i. well.numbered (e i).through (e i).there)
    (λ i.
    above (own c (e i).through) (state i)
    (own_bounded loop c well.nonneg holds (e i).through (e i).there (state i) (state (suc i)) (e i).step))
    (λ i.
    below (own c (e i).through) (state i) (state (suc i))
    (each_at (λ k. pos 1 ≤ℤ k.δ) c.components _ _ well.falls (well.numbered (e i).through (e i).there))
    (own_falls loop c well.nonneg holds (e i).through (e i).there (state i) (state (suc i)) (e i).step))
    (λ i k earlier.
    level (component_at c k) (state i) (state (suc i))
    (earlier_stay loop c well.nonneg holds (e i).through (e i).there (state i) (state (suc i)) (e i).step k earlier))
  where
    above : (k : Component) (x : List ℤ) → k.δ0 ≤ℤ dot k.r x → pos 0 ≤ℤ height k x
    above k x h = solve_le (v (pos 0)) (v (dot k.r x) ⊝ v k.δ0) (omega (arith, le_fact (v k.δ0) (v (dot k.r x)) h))

    below : (k : Component) (x x' : List ℤ) → pos 1 ≤ℤ k.δ → k.δ ≤ℤ (dot k.r x -ℤ dot k.r x') → (height k x' +ℤ pos 1) ≤ℤ height k x
    below k x x' h i =
        solve_le (v (dot k.r x') ⊝ v k.δ0 ⊕ v (pos 1)) (v (dot k.r x) ⊝ v k.δ0)
        (omega (arith, le_fact (v (pos 1)) (v k.δ) h, le_fact (v k.δ) (v (dot k.r x) ⊝ v (dot k.r x')) i))

    level : (k : Component) (x x' : List ℤ) → dot k.r x' ≤ℤ dot k.r x → height k x' ≤ℤ height k x
    level k x x' h =
        solve_le (v (dot k.r x') ⊝ v k.δ0) (v (dot k.r x) ⊝ v k.δ0) (omega (arith, le_fact (v (dot k.r x')) (v (dot k.r x)) h))

-- ---- one path

pub ranking_as_lexicographic : (n : ℕ) (rows : List Row) (c : Ranking) → RankingHolds (over n rows) c
    → LexicographicHolds (alone n rows) (one_component (over n rows) c)
unfolding start fall
ranking_as_lexicographic n rows c holds (suc j) below = absurd (omega arith)
ranking_as_lexicographic n rows c holds zero below =
    record {
      bounded = record { over_A = YA-column (over n rows) c holds; over_A' = YA'-column (over n rows) c holds; over_b = itself (sum c.Y b rows) };
      ranking =
          record {
            over_A = ZA-column (over n rows) c holds;
            over_A' = λ j h. sym (one-*ℤ _ ∙ rank_at (over n rows) c j h);
            over_b = itself (sum c.Z b rows);
          };
      unaffecting = λ i none. absurd (omega arith);
    }
  where
    itself : (z : ℤ) → z ≤ℤ neg_ℤ (neg_ℤ z)
    itself z = solve_le (v z) (neg (neg (v z))) (omega arith)

-- and with a ranking's values it is well-formed
pub one_component_well_formed : (n : ℕ) (rows : List Row) (c : Ranking) → NonNegative c → RankingHolds (over n rows) c
    → WellFormed (alone n rows) (one_component (over n rows) c)
unfolding Each
one_component_well_formed n rows c nonneg holds =
    record {
      nonneg = (record { bounded = nonneg.0; ranking = nonneg.1; unaffecting = tt }, tt);
      falls = ((ranking_is_linear_ranking (over n rows) c nonneg holds 1 (omega arith)).positive, tt);
      numbered = number;
    }
  where
    number : Throughout 1 (λ j. (part_at (one_component (over n rows) c) j).component < 1)
    number zero below = omega arith
    number (suc j) below = absurd (omega arith)

pub lexicographic_as_ranking : (n : ℕ) (rows : List Row) (c : Lexicographic) → LexicographicHolds (alone n rows) c → pos 1 ≤ℤ (own c 0).δ → AsRanking n rows c
unfolding start fall
lexicographic_as_ranking n rows c holds falls =
    record {
      conditions =
          record {
            first = λ j h. bounded.over_A' j h ∙ zero-*ℤ (entry j);
            second = λ j h. sum_less_weights _ _ (A j) rows ∙ apart _ _ (entry j) (bounded.over_A j h) (ranking.over_A j h);
            third = λ j h. sum_add _ (A j) (A' j) rows ∙ against _ _ (entry j) (ranking.over_A j h) (ranking.over_A' j h);
            fourth = negative _ _ falls ranking.over_b;
          };
      same_rank = λ j h. rank_at (over n rows) (as_ranking c) j h ∙ ranking.over_A' j h ∙ one-*ℤ (entry j);
      start_no_lower = turned _ _ bounded.over_b;
      fall_no_lower = turned _ _ ranking.over_b;
    }
  where
    entry : ℕ → ℤ
    entry j = get_or (own c 0).r j (pos 0)

    bounded : Weighs n (bounding (alone n rows) c 0)
    bounded = (holds 0 (omega arith)).bounded

    ranking : Weighs n (falling (alone n rows) c 0)
    ranking = (holds 0 (omega arith)).ranking

    apart : (y z r : ℤ) → y ≡ negsuc 0 *ℤ r → z ≡ negsuc 0 *ℤ r → y -ℤ z ≡ pos 0
    apart y z r h i = rw (h, i) (solve (v (negsuc 0) ⊗ v r ⊝ v (negsuc 0) ⊗ v r) (v (pos 0)) (omega arith))

    against : (y z r : ℤ) → y ≡ negsuc 0 *ℤ r → z ≡ pos 1 *ℤ r → y +ℤ z ≡ pos 0
    against y z r h i = rw (h, i) (solve (v (negsuc 0) ⊗ v r ⊕ v (pos 1) ⊗ v r) (v (pos 0)) (omega arith))

    negative : (d s : ℤ) → pos 1 ≤ℤ d → s ≤ℤ neg_ℤ d → s <ℤ pos 0
    negative d s h i = solve_lt (v s) (v (pos 0)) (omega (arith, le_fact (v (pos 1)) (v d) h, le_fact (v s) (neg (v d)) i))

    turned : (d s : ℤ) → s ≤ℤ neg_ℤ d → d ≤ℤ neg_ℤ s
    turned d s h = solve_le (v d) (neg (v s)) (omega (arith, le_fact (v s) (neg (v d)) h))

-- a step goes through the only path
pub only_path : (n : ℕ) (rows : List Row) (x x' : List ℤ) → StepThrough (alone n rows) x x' → Step (over n rows) 1 x x'
only_path n rows x x' t = let is : t.through ≡ 0 = omega (arith, t.there) in rw is at t.step

-- so with one path the promise is that of a ranking
pub paths_alone_ends : (n : ℕ) (rows : List Row) (c : Lexicographic) → WellFormed (alone n rows) c → LexicographicHolds (alone n rows) c → Ends (alone n rows)
paths_alone_ends n rows c well holds state e =
    (ranking_bounds_runs (over n rows) (as_ranking c) ((part_nonneg c well.nonneg 0).bounded, (part_nonneg c well.nonneg 0).ranking)
    (lexicographic_as_ranking n rows c holds fall_there).conditions).ends state tt (λ i. only_path n rows (state i) (state (suc i)) (e i))
  where
    fall_there : pos 1 ≤ℤ (own c 0).δ
    fall_there = each_at (λ k. pos 1 ≤ℤ k.δ) c.components _ _ well.falls (well.numbered 0 (omega arith))
