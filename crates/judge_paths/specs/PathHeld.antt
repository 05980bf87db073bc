-- The conditions of a path as it lies, those of `PathByPlaces`: what its weighted rows are held to, and what is told of it.
use Rattle.std.specs.Prelude.{ℕ, ◌+◌, ◌*◌, Bool, ℤ}
use Rattle.refusal.specs.Tests.{Told}
use Rattle.theory.specs.WeightedRows.{Weighted}
use Rattle.judge_sums.specs.declared.rows.Rows.{Rows}
use Rattle.judge_ranking.specs.declared.lifted.Lifted.{Lifted}
use Rattle.judge_paths.specs.PathByPlaces.{weighted_by, column_held, totals_held, bounded_by, falling_by, staying_by, path_told_by}
use Rattle.judge_paths.specs.declared.path.Held.{Held}
use Rattle.judge_paths.specs.declared.path.Path.{Path}

abbrev pub weighted_of : Rows → Held → Weighted
weighted_of rows held = weighted_by rows.bytes.now rows.start rows.n rows.count held.weights.bytes.now held.weights.place held.r held.next held.limit

-- out of lifted totals: column j, and all of it
abbrev pub column_meets : Lifted → Held → ℕ → Bool
column_meets sums held = column_held sums.sums.now sums.lift sums.n held.weights.bytes.now held.r held.next

abbrev pub totals_meet : Lifted → ℤ → Held → Bool
totals_meet sums right held = totals_held sums.sums.now sums.lift right sums.n held.weights.bytes.now held.r held.next held.limit

-- ---- of a path

-- where r of its own component stands
abbrev pub own_place : Path → ℕ
own_place p = p.first + p.component * (4 * p.rows.n + 8)

abbrev pub bounded_of : Path → Weighted
bounded_of p = bounded_by p.rows.bytes.now p.rows.start p.rows.n p.rows.count p.certificate.now p.place (own_place p)

abbrev pub falling_of : Path → Weighted
falling_of p = falling_by p.rows.bytes.now p.rows.start p.rows.n p.rows.count p.certificate.now (p.place + 2 * p.rows.count) (own_place p)

-- of the earlier component i
abbrev pub staying_of : Path → ℕ → Weighted
staying_of p = staying_by p.rows.bytes.now p.rows.start p.rows.n p.rows.count p.certificate.now (p.place + 4 * p.rows.count) p.first

abbrev pub told_of : Path → ℕ → Told
told_of p = path_told_by p.rows.bytes.now p.rows.start p.rows.n p.rows.count p.certificate.now p.place p.first p.component
