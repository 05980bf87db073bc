-- 02, Q-8: "Some curves climb before they fall, so no linear rank holds from the start." Settlings, after document 003's eventual linear
-- ranking functions: g·x rises by 1 at least in every step, and once it has reached the threshold t a ranking holds.
use Rattle.std.specs.Prelude.{ℕ, ◌+◌, ◌≤◌, ◌<◌, ◌≡◌, Bool, cond, List, [], ◌∷◌, ℤ, pos, negsuc, nat_abs, neg_ℤ, ◌+ℤ◌, ◌-ℤ◌, ◌*ℤ◌, length, get_or, replicate, ◌≤ℤ◌}
use Rattle.std.specs.Int.Signed.{lt_z}
use Rattle.whole.specs.Sums.{dot, sum, scale, Each, NonNeg}
use Rattle.theory.specs.Loops.{Row, A, A', b, Loop, with_row, Step, Run, Endless}
use Rattle.theory.specs.Rankings.{Ranking, NonNegative, RankingHolds, bound}
use Rattle.theory.specs.WeightedRows.{Weighted}

-- g and its threshold t; the scale k of the rise, and its multipliers E, one per row; the ranking, with one multiplier more
pub record Settling : Type 0 where
  pub g : List ℤ
  pub t : ℤ
  pub k : ℕ
  pub E : List ℤ
  pub ranking : Ranking

-- no multiplier is below 0
abbrev pub NonNegativeSettling : Settling → Type 0
NonNegativeSettling c = Each NonNeg c.E × NonNegative c.ranking

-- the added row: -g·x <= -t
abbrev pub added : Loop → Settling → Row
added loop c = record { now = scale (negsuc 0) c.g; next = replicate loop.variables (pos 0); right = neg_ℤ c.t }

-- the loop that the ranking is for
abbrev pub longer : Loop → Settling → Loop
longer loop c = with_row loop (added loop c)

-- "The rise: EA = k g, EA' = -k g, Eb <= -k. The ranking holds over the loop with the row -g·x <= -t added last."
pub record SettlingHolds (loop : Loop) (c : Settling) : Type 0 where
  pub rise_now : (j : ℕ) → j < loop.variables → sum c.E (A j) loop.rows ≡ pos c.k *ℤ get_or c.g j (pos 0)
  pub rise_next : (j : ℕ) → j < loop.variables → sum c.E (A' j) loop.rows ≡ neg_ℤ (pos c.k *ℤ get_or c.g j (pos 0))
  pub rise_right : sum c.E b loop.rows ≤ℤ neg_ℤ (pos c.k)
  pub ranked : RankingHolds (longer loop c) c.ranking

-- the rise as weighted rows: to k g over A, -k g over A', and at most -k
abbrev pub rising : Loop → Settling → Weighted
rising loop c =
    record {
      rows = loop.rows;
      weights = c.E;
      v = c.g;
      now = pos c.k;
      next = neg_ℤ (pos c.k);
      limit = neg_ℤ (pos c.k);
    }

-- ---- steps before the threshold

-- g·x < t, and g·x >= t
unfoldable pub unsettled : Settling → List ℤ → Bool
unsettled c x = lt_z (dot c.g x) c.t

abbrev pub Settled : Settling → List ℤ → Type 0
Settled c x = c.t ≤ℤ dot c.g x

-- of the steps of a run, those that are taken from states where g·x < t
unfoldable pub unsettled_steps : Settling → List ℤ → List (List ℤ) → ℕ
unsettled_steps c x [] = 0
unsettled_steps c x (y ∷ ys) = cond (unsettled c x) 1 0 + unsettled_steps c y ys

-- "at most t - g·x steps (0 if that is negative)"
unfoldable pub settling_bound : Settling → List ℤ → ℕ
settling_bound c x = cond (unsettled c x) (nat_abs (c.t -ℤ dot c.g x)) 0

-- what a settling promises, with the rank, start and fall of the longer loop: g·x rises; from x, no more steps than that are taken from
-- states where g·x < t; from a state where g·x >= t, all further ones are such, and the ranking bounds the steps that are left; no run is
-- endless
pub record SettlingPromise (loop : Loop) (c : Settling) (r : List ℤ) (δ0 δ : ℤ) : Type 0 where
  pub rises : (x x' : List ℤ) → Step loop 1 x x' → (dot c.g x +ℤ pos 1) ≤ℤ dot c.g x'
  pub settles : (x : List ℤ) (ys : List (List ℤ)) → Run loop x ys → unsettled_steps c x ys ≤ settling_bound c x
  pub stays_settled : (x : List ℤ) (ys : List (List ℤ)) → Settled c x → Run loop x ys → Each (Settled c) ys
  pub rest_bounded : (x : List ℤ) (ys : List (List ℤ)) → Settled c x → Run loop x ys → length ys ≤ bound r δ0 δ x
  pub ends : (state : ℕ → List ℤ) → Endless loop state → ⊥
