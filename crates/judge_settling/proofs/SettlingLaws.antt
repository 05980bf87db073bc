-- Settlings: the rise by its places, and what is told of rise and ranking in their order.
use Rattle.std.specs.Prelude.{Result, Err}
use mathlib.Core.Path.{◌≡◌, ◌∙◌}
use Prim.Native.Nat.{ℕ}
use mathlib.Core.List.{List}
use lib.IntN.{ℤ, pos, neg_ℤ}
use Rattle.endian.specs.Numbers.{little_at}
use Rattle.record_settling.specs.SettlingRecords.{g_place, k_place, E-place}
use Rattle.refusal.specs.Tests.{done, refused, ◌then◌}
use Rattle.refusal.specs.declared.Fault.{Fault}
use Rattle.theory.specs.Conditions.{weighed_told, ranking_told}
use Rattle.theory.specs.Loops.{Loop}
use Rattle.theory_settling.specs.SettlingConditions.{settling_told}
use Rattle.theory_settling.specs.Settlings.{Settling, longer, rising}
use Rattle.theory_settling.proofs.SettlingInOrder.{settling_in_order}
use Rattle.judge_sums.specs.declared.rows.Rows.{Rows}
use Rattle.judge_conditions.specs.LoopHeld.{loop_held, loop_of}
use Rattle.judge_ranking.specs.RankedBy.{RankingBy}
use Rattle.judge_ranking.specs.declared.Ranked.{Ranked}
use Rattle.judge_ranking.proofs.RankedLaws.{shows_nothing}
use Rattle.judge_weighed.specs.declared.Held.{Held}
use Rattle.judge_weighed.specs.WeightedHeld.{weighted_held, weighted_of}
use Rattle.judge_settling.specs.SettlingBy.{SettlingBy}
use Rattle.judge_settling.specs.SettlingHeld.{settling_held}

-- what the rise is held to
abbrev pub rise_held : ℕ → ℕ → Held
rise_held n k = record { weights = E-place n; v = g_place; now = pos k; next = neg_ℤ (pos k); limit = neg_ℤ (pos k) }

-- the rise is weighted rows of the theory
pub rise_as : (rows : Rows) (bytes : List ℕ) (k : ℕ) → k ≡ little_at 2 bytes (k_place rows.n)
    → weighted_of rows bytes (rise_held rows.n k) ≡ rising (loop_of rows) (settling_held bytes rows.n rows.count)
unfolding settling_held weighted_held loop_held
rise_as rows bytes k read = rw read

-- ---- rise, ranking

module _ (loop : Loop) (c : Settling) where
  pub rise_told : (k p : ℕ) → weighed_told 61 62 63 loop.variables (rising loop c) ≡ refused k p → settling_told loop c ≡ refused k p
  unfolding ◌then◌
  rise_told k p h = settling_in_order loop c ∙ rw h

  pub ranking_told_lem : weighed_told 61 62 63 loop.variables (rising loop c) ≡ done → settling_told loop c ≡ ranking_told (longer loop c) c.ranking
  unfolding ◌then◌
  ranking_told_lem h = settling_in_order loop c ∙ rw h

  -- a refusal shows nothing
  pub settling_refused : (r : Result Ranked Fault) (lent : List ℤ) (k p : ℕ) → settling_told loop c ≡ refused k p
      → r ≡ Err (record { number = k; place = p }) → SettlingBy r loop c lent lent
  settling_refused r lent k p told e =
      let so = shows_nothing (settling_told loop c) k p r _ _ _ lent told e in
      record { shown = so.0; put = so.1 }

  -- the rise holds: what is left is the ranking
  pub settling_ranked : (r : Result Ranked Fault) (before after : List ℤ) → settling_told loop c ≡ ranking_told (longer loop c) c.ranking
      → RankingBy r (longer loop c) c.ranking before after → SettlingBy r loop c before after
  settling_ranked r before after told by = rw told (record { shown = by.shown; put = by.put })
