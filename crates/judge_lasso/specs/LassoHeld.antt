-- The lasso that bytes hold by its places (01, "Records on file"): ms at 6, the stem rows from 8 on, then s, s0, k, T, k2, H, h0, Y and Z.
use Rattle.std.specs.Prelude.{ℕ, ◌+◌, ◌*◌, ◌≤◌, List, length, pos, neg_ℤ, ◌-ℤ◌, ◌*ℤ◌}
use Rattle.endian.specs.Numbers.{little_at}
use Rattle.judge_sums.specs.Lists.{multipliers_from, entries_from, rows_from}
use Rattle.judge_sums.specs.Places.{right_at}
use Rattle.theory.specs.Lassos.{Lasso}
use Rattle.judge_ranking.specs.RankingHeld.{ranking_held}
use Rattle.judge_weighed.specs.declared.Held.{Held}

abbrev pub s_place : ℕ → ℕ → ℕ
s_place n ms = 8 + ms * (4 * n + 4)

abbrev pub s0_place : ℕ → ℕ → ℕ
s0_place n ms = s_place n ms + 2 * n

abbrev pub k_place : ℕ → ℕ → ℕ
k_place n ms = s0_place n ms + 4

abbrev pub T-place : ℕ → ℕ → ℕ
T-place n ms = k_place n ms + 2

abbrev pub k2_place : ℕ → ℕ → ℕ
k2_place n ms = T-place n ms + 2 * ms

abbrev pub H-place : ℕ → ℕ → ℕ
H-place n ms = k2_place n ms + 2

abbrev pub h0_place : ℕ → ℕ → ℕ → ℕ
h0_place n m ms = H-place n ms + 2 * m

abbrev pub Y-place : ℕ → ℕ → ℕ → ℕ
Y-place n m ms = h0_place n m ms + 2

-- a lasso record for a loop within the limits: its last field ends it
pub record LassoIn (bytes : List ℕ) (n m ms : ℕ) : Type 0 where
  pub n_few : n ≤ 16
  pub m_few : m ≤ 64
  pub ms_few : ms ≤ 64
  pub inside : Y-place n m ms + 4 * (m + 1) ≤ length bytes

unfoldable pub lasso_held : List ℕ → ℕ → ℕ → ℕ → Lasso
lasso_held bytes n m ms =
    record {
      stem = rows_from bytes n 8 ms;
      s = entries_from bytes (s_place n ms) n;
      s0 = right_at bytes (s0_place n ms);
      k = little_at 2 bytes (k_place n ms);
      T = multipliers_from bytes (T-place n ms) ms;
      k2 = little_at 2 bytes (k2_place n ms);
      H = multipliers_from bytes (H-place n ms) m;
      h0 = little_at 2 bytes (h0_place n m ms);
      ranking = ranking_held bytes (Y-place n m ms) (m + 1);
    }

-- what start and kept are held to: to carry s·x + s0 >= 0, whose s lies from a place on, from h times itself before a step to k times itself after it
abbrev pub carrying_held : List ℕ → ℕ → ℕ → ℕ → ℕ → ℕ → Held
carrying_held bytes n weights s h k =
    record { weights = weights; v = s; now = pos h; next = neg_ℤ (pos k); limit = (pos k -ℤ pos h) *ℤ right_at bytes (s + 2 * n) }
