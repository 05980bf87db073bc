-- What a short ranking holds for a loop of m rows, in the words of the theory: the multipliers that it stands for. Y and Z of row i
-- are those of the triple with row i, and 0 where there is none (crate `record_short`).
use Rattle.std.specs.Prelude.{ℕ, List}
use Rattle.record_short.specs.ShortRecords.{Y-for, Z-for}
use Rattle.theory.specs.Loops.{Loop}
use Rattle.theory.specs.Rankings.{Ranking}
use Rattle.verdict.specs.Contents.{loop_in}
use Rattle.verdict.specs.Pairs.{loop_record}
use Rattle.verdict_short.specs.ShortJudging.{ShortPair, rows_for}

unfoldable pub stood_for : ℕ → List ℕ → Ranking
stood_for m bytes = record { Y = Y-for m bytes; Z = Z-for m bytes }

-- the loop of a pair, and the ranking that its certificate stands for
unfoldable pub loop_of : ShortPair → Loop
loop_of p = loop_in (loop_record p.loopbytes)

unfoldable pub ranking_of : ShortPair → Ranking
ranking_of p = stood_for (rows_for p) p.certificate
