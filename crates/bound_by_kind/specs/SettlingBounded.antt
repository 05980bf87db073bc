-- The bound by a certificate of kind 8, by places.
use Rattle.std.specs.Prelude.{ℕ, cond, List, ℤ, nat_abs, ◌-ℤ◌}
use Rattle.std.specs.Int.Signed.{lt_z}
use Rattle.whole.specs.Sums.{dot}
use Rattle.record_settling.specs.SettlingRecords.{g_place, t_place}
use Rattle.judge_sums.specs.Lists.{entries_from}
use Rattle.judge_sums.specs.Places.{right_at}

-- t - g·x by places, 0 if that is negative
unfoldable pub steps_held : List ℕ → ℕ → List ℤ → ℕ
steps_held certificate n state =
    cond (lt_z (dot (entries_from certificate g_place n) state) (right_at certificate (t_place n)))
    (nat_abs (right_at certificate (t_place n) -ℤ dot (entries_from certificate g_place n) state)) 0
