-- The settling that bytes hold by its places, which crate `record_settling` names.
use Rattle.std.specs.Prelude.{ℕ, ◌+◌, ◌*◌, ◌≤◌, List, length}
use Rattle.endian.specs.Numbers.{little_at}
use Rattle.record_settling.specs.SettlingRecords.{g_place, t_place, k_place, E-place, Y-place}
use Rattle.judge_sums.specs.Lists.{multipliers_from, entries_from}
use Rattle.judge_sums.specs.Places.{right_at}
use Rattle.theory_settling.specs.Settlings.{Settling}
use Rattle.judge_ranking.specs.RankingHeld.{ranking_held}

-- a record of kind 8 for a loop within the limits: its last field ends it
pub record SettlingIn (bytes : List ℕ) (n m : ℕ) : Type 0 where
  pub n_few : n ≤ 16
  pub m_few : m ≤ 64
  pub inside : Y-place n m + 4 * (m + 1) ≤ length bytes

unfoldable pub settling_held : List ℕ → ℕ → ℕ → Settling
settling_held bytes n m =
    record {
      g = entries_from bytes g_place n;
      t = right_at bytes (t_place n);
      k = little_at 2 bytes (k_place n);
      E = multipliers_from bytes (E-place n) m;
      ranking = ranking_held bytes (Y-place n m) (m + 1);
    }
