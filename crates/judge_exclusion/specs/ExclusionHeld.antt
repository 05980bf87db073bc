-- The exclusion that bytes hold by its places (01, "Records on file"), and the tests of its two conditions at one row.
use Rattle.std.specs.Prelude.{ℕ, ◌+◌, ◌*◌, Bool, List, pos, ◌+ℤ◌, ◌*ℤ◌}
use Rattle.std.specs.Int.Signed.{le_z}
use Rattle.endian.specs.Numbers.{little_at}
use Rattle.judge_sums.specs.Lists.{rights_from}
use Rattle.theory.specs.Exclusions.{Exclusion}
use Rattle.whole.specs.Rows.{Row}
use Rattle.whole.specs.Sums.{dot, less}

-- q at 6; U, V, W from 8 on
unfoldable pub exclusion_held : List ℕ → ℕ → Exclusion
exclusion_held bytes n =
    record { q = little_at 2 bytes 6; U = rights_from bytes 8 n; «V» = rights_from bytes (8 + 4 * n) n; W = rights_from bytes (8 + 8 * n) n }

-- A·V + A'·U <= 0, and A·(W - V) + A'·W <= q·b
abbrev pub stays : Exclusion → Row → Bool
stays c row = le_z (dot row.now c.«V» +ℤ dot row.next c.U) (pos 0)

abbrev pub meets : Exclusion → Row → Bool
meets c row = le_z (dot row.now (less c.W c.«V») +ℤ dot row.next c.W) (pos c.q *ℤ row.right)
