-- Lassos: where their parts stand within the bytes, and what is told of start, kept and ranking in their order.
use Rattle.std.specs.Prelude.{Result, Err}
use mathlib.Core.Path.{◌≡◌, ◌∙◌}
use Prim.Native.Nat.{ℕ, ◌+◌}
use mathlib.Core.List.{List}
use lib.IntN.{ℤ, pos, ◌-ℤ◌, +ℤ_idr}
use Rattle.refusal.specs.Tests.{done, refused, ◌then◌}
use Rattle.refusal.specs.declared.Fault.{Fault}
use Rattle.endian.specs.Numbers.{little_at}
use Rattle.judge_sums.specs.Places.{right_at}
use Rattle.judge_sums.specs.declared.rows.Rows.{Rows}
use Rattle.theory.specs.Conditions.{weighed_told, ranking_told, lasso_told}
use Rattle.theory.specs.Lassos.{Lasso, longer, starting, keeping}
use Rattle.theory.specs.Loops.{Loop}
use Rattle.theory.proofs.InOrder.{lasso_in_order}
use Rattle.judge_ranking.specs.RankedBy.{RankingBy}
use Rattle.judge_ranking.specs.declared.Ranked.{Ranked}
use Rattle.judge_ranking.proofs.RankedLaws.{shows_nothing}
use Rattle.judge_ranking.specs.RankingHeld.{ranking_held}
use Rattle.judge_longer.specs.LongerHeld.{longer_held, longer_of}
use Rattle.judge_lasso.specs.LassoBy.{LassoBy}
use Rattle.judge_conditions.specs.LoopHeld.{loop_held, loop_of}
use Rattle.judge_weighed.specs.WeightedHeld.{weighted_held, weighted_of}
use Rattle.judge_lasso.specs.LassoAt.{lasso_at}
use Rattle.judge_lasso.specs.declared.lasso_record.LassoRecord.{LassoRecord}
use Rattle.judge_lasso.specs.LassoHeld.{carrying_held, s_place, k_place, T-place, s0_place, k2_place, H-place, h0_place, Y-place, lasso_held}

-- ---- start and kept are weighted rows of the theory

module _ (c : LassoRecord) where
  -- start by its places; (k - 0) s0 is k s0
  pub start_as : (k : ℕ) → k ≡ little_at 2 c.bytes.now (k_place c.n c.ms)
      → weighted_held c.bytes.now 8 c.n c.ms c.bytes.now (carrying_held c.bytes.now c.n (T-place c.n c.ms) (s_place c.n c.ms) 0 k) ≡ starting (lasso_at c)
  unfolding lasso_held weighted_held
  start_as k is =
      let none : pos k -ℤ pos 0 ≡ pos k = +ℤ_idr (pos k) in
      rw (none, is)

  -- kept by its places
  pub kept_as : (rows : Rows) (h0 k2 : ℕ) → rows.n ≡ c.n → rows.count ≡ c.m → h0 ≡ little_at 2 c.bytes.now (h0_place c.n c.m c.ms) → k2 ≡ little_at 2 c.bytes.now (k2_place c.n c.ms)
      → weighted_of rows c.bytes.now (carrying_held c.bytes.now c.n (H-place c.n c.ms) (s_place c.n c.ms) h0 k2) ≡ keeping (loop_of rows) (lasso_at c)
  unfolding lasso_held weighted_held loop_held
  kept_as rows h0 k2 n_is m_is h_is k_is = rw (n_is, m_is, h_is, k_is)

  -- and the ranking over the loop with the added row
  pub longer_as : (rows : Rows) → rows.n ≡ c.n → rows.count ≡ c.m → {r : Result Ranked Fault} {before after : List ℤ}
      → RankingBy r (longer_of rows c.bytes.now (s_place c.n c.ms) (right_at c.bytes.now (s0_place c.n c.ms))) (ranking_held c.bytes.now (Y-place c.n c.m c.ms) (rows.count + 1)) before after
      → RankingBy r (longer (loop_of rows) (lasso_at c)) (lasso_at c).ranking before after
  unfolding lasso_held longer_held loop_held
  longer_as rows n_is m_is by = rw (← n_is, ← m_is) (rw (← n_is, ← m_is) at by)

-- ---- start, kept, ranking

module _ (loop : Loop) (c : Lasso) where
  -- start is told of the record's variables, which are the loop's
  module _ (n : ℕ) (same : loop.variables ≡ n) where
    pub start_told : (k p : ℕ) → weighed_told 41 42 43 n (starting c) ≡ refused k p → lasso_told loop c ≡ refused k p
    unfolding ◌then◌
    start_told k p h = lasso_in_order loop c ∙ rw (same, h)

    module _ (started : weighed_told 41 42 43 n (starting c) ≡ done) where
      start_done : weighed_told 41 42 43 loop.variables (starting c) ≡ done
      start_done = rw same started

      pub kept_told : (k p : ℕ) → weighed_told 44 45 46 loop.variables (keeping loop c) ≡ refused k p → lasso_told loop c ≡ refused k p
      unfolding ◌then◌
      kept_told k p h = lasso_in_order loop c ∙ rw (start_done, h)

      pub ranking_told_lem : weighed_told 44 45 46 loop.variables (keeping loop c) ≡ done → lasso_told loop c ≡ ranking_told (longer loop c) c.ranking
      unfolding ◌then◌
      ranking_told_lem h = lasso_in_order loop c ∙ rw (start_done, h)

  -- a refusal shows nothing
  pub lasso_refused : (r : Result Ranked Fault) (lent : List ℤ) (k p : ℕ) → lasso_told loop c ≡ refused k p
      → r ≡ Err (record { number = k; place = p }) → LassoBy r loop c lent lent
  lasso_refused r lent k p told e = let so = shows_nothing (lasso_told loop c) k p r _ _ _ lent told e in record { shown = so.0; put = so.1 }

  -- start and kept hold: what is left is the ranking
  pub lasso_ranked : (r : Result Ranked Fault) (before after : List ℤ) → lasso_told loop c ≡ ranking_told (longer loop c) c.ranking
      → RankingBy r (longer loop c) c.ranking before after → LassoBy r loop c before after
  lasso_ranked r before after told by = rw told (record { shown = by.shown; put = by.put })
