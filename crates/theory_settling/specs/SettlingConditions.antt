-- The conditions as tests that compute: "61 to 63 for the rise, then 21 to 24, in Q-1's manner."
use Rattle.std.specs.Prelude.{ℕ, List, ◌++◌}
use Rattle.refusal.specs.Tests.{Told, Test, first}
use Rattle.theory.specs.Conditions.{Proposal, of, weighed_tests, ranking_tests}
use Rattle.theory.specs.Loops.{Loop}
use Rattle.theory.specs.Rankings.{Ranking}
use Rattle.theory.specs.WeightedRows.{Weighted}
use Rattle.theory_settling.specs.Settlings.{Settling, rising, longer}

-- the rise
abbrev pub rise : Proposal Settling → Weighted
rise p = rising p.loop p.values

-- the ranking within a settling
abbrev pub ranked : Proposal Settling → Proposal Ranking
ranked p = record { loop = longer p.loop p.values; values = p.values.ranking }

-- for n variables
unfoldable pub settling_tests : ℕ → List (Test (Proposal Settling))
settling_tests n = of rise (weighed_tests 61 62 63 n) ++ of ranked (ranking_tests n)

unfoldable pub settling_told : Loop → Settling → Told
settling_told loop c = first (settling_tests loop.variables) (record { loop = loop; values = c })
