-- The ranking that bytes hold from a place on (01, "Records on file"): Y, then Z, each of `count` multipliers.
use Rattle.std.specs.Prelude.{ℕ, ◌+◌, ◌*◌, List}
use Rattle.judge_sums.specs.Lists.{multipliers_from}
use Rattle.theory.specs.Rankings.{Ranking}

unfoldable pub ranking_held : List ℕ → ℕ → ℕ → Ranking
ranking_held bytes place count = record { Y = multipliers_from bytes place count; Z = multipliers_from bytes (place + 2 * count) count }
