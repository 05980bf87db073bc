-- The totals along a row begin, and take one column more.
use Prim.Native.Nat.{ℕ, ◌+◌, ◌*◌}
use mathlib.Core.Path.{◌≡◌}
use mathlib.Core.List.{List}
use lib.IntN.{ℤ, pos, ◌*ℤ◌}
use Rattle.judge_sums.specs.Places.{entry_at, right_at}
use Rattle.judge_sums.specs.Running.{Adds}
use Rattle.judge_sums.proofs.RunningLaws.{sum_none, sum_more}
use Rattle.judge_along.specs.AlongRows.{along_term, AlongOf, most_along}

module _ (rows : List ℕ) (row n : ℕ) (certificate : List ℕ) (place : ℕ) where
  pub along_none : {v u now next : ℤ} → v ≡ pos 0 → u ≡ pos 0 → now ≡ pos 0 → next ≡ pos 0 → AlongOf rows row n certificate place 0 v u now next
  along_none hv hu hnow hnext =
      record {
        v_sum = sum_none most_along (along_term rows row certificate (place + 4 * n)) hv;
        u_sum = sum_none most_along (along_term rows (row + 2 * n) certificate place) hu;
        now_sum = sum_none most_along (along_term rows row certificate (place + 8 * n)) hnow;
        next_sum = sum_none most_along (along_term rows (row + 2 * n) certificate (place + 8 * n)) hnext;
      }

  pub along_more : (j : ℕ) {v u now next v' u' now' next' : ℤ} → AlongOf rows row n certificate place j v u now next
      → let first = row + 2 * j in
      let second = row + 2 * n + 2 * j in
      Adds most_along (entry_at rows first *ℤ right_at certificate (place + 4 * n + 4 * j)) v v'
      × Adds most_along (entry_at rows second *ℤ right_at certificate (place + 4 * j)) u u'
      × Adds most_along (entry_at rows first *ℤ right_at certificate (place + 8 * n + 4 * j)) now now'
      × Adds most_along (entry_at rows second *ℤ right_at certificate (place + 8 * n + 4 * j)) next next'
      → AlongOf rows row n certificate place (j + 1) v' u' now' next'
  unfolding along_term
  along_more j h more =
      record {
        v_sum = sum_more most_along (along_term rows row certificate (place + 4 * n)) j h.v_sum more.0;
        u_sum = sum_more most_along (along_term rows (row + 2 * n) certificate place) j h.u_sum more.1;
        now_sum = sum_more most_along (along_term rows row certificate (place + 8 * n)) j h.now_sum more.2;
        next_sum = sum_more most_along (along_term rows (row + 2 * n) certificate (place + 8 * n)) j h.next_sum more.3;
      }
