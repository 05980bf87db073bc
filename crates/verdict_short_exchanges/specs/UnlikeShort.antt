-- A loop of eight rows and a short ranking for it in which no two numbers are alike, as bytes written out from the layouts of 01 and of
-- 02, Q-6, and as the values that they hold. Three rows have weight, and several multipliers are numbers of rows that have none: what is
-- exchanged puts weight on another row, or breaks the order of the rows.
use Rattle.std.specs.Prelude.{ℕ, List, [], ◌∷◌, pos}
use Rattle.theory.specs.Loops.{Loop, over}
use Rattle.theory.specs.Rankings.{Ranking}
use Rattle.theory.specs.Samples.{row, ranking}
use Rattle.verdict.specs.Samples.{−}

-- n 2, m 8; a line for each row
unfoldable pub eight_rows_bytes : List ℕ
eight_rows_bytes =
    102 ∷ 0 ∷ 0 ∷ 0 ∷ 1 ∷ 0 ∷ 2 ∷ 0 ∷ 8 ∷ 0
    ∷ 255 ∷ 255 ∷ 3 ∷ 0 ∷ 243 ∷ 255 ∷ 9 ∷ 0 ∷ 249 ∷ 255 ∷ 255 ∷ 255
    ∷ 252 ∷ 255 ∷ 6 ∷ 0 ∷ 14 ∷ 0 ∷ 12 ∷ 0 ∷ 3 ∷ 0 ∷ 0 ∷ 0
    ∷ 5 ∷ 0 ∷ 236 ∷ 255 ∷ 18 ∷ 0 ∷ 247 ∷ 255 ∷ 251 ∷ 255 ∷ 255 ∷ 255
    ∷ 7 ∷ 0 ∷ 245 ∷ 255 ∷ 8 ∷ 0 ∷ 253 ∷ 255 ∷ 8 ∷ 0 ∷ 0 ∷ 0
    ∷ 254 ∷ 255 ∷ 10 ∷ 0 ∷ 15 ∷ 0 ∷ 250 ∷ 255 ∷ 254 ∷ 255 ∷ 255 ∷ 255
    ∷ 238 ∷ 255 ∷ 2 ∷ 0 ∷ 248 ∷ 255 ∷ 4 ∷ 0 ∷ 1 ∷ 0 ∷ 0 ∷ 0
    ∷ 13 ∷ 0 ∷ 251 ∷ 255 ∷ 244 ∷ 255 ∷ 11 ∷ 0 ∷ 6 ∷ 0 ∷ 0 ∷ 0
    ∷ 1 ∷ 0 ∷ 240 ∷ 255 ∷ 249 ∷ 255 ∷ 16 ∷ 0 ∷ 247 ∷ 255 ∷ 255 ∷ 255
    ∷ []

-- three triples; a line for each: row, Y, Z
unfoldable pub unlike_short_bytes : List ℕ
unlike_short_bytes =
    22 ∷ 0 ∷ 0 ∷ 0 ∷ 7 ∷ 0 ∷ 3 ∷ 0
    ∷ 1 ∷ 0 ∷ 0 ∷ 0 ∷ 7 ∷ 0
    ∷ 2 ∷ 0 ∷ 4 ∷ 0 ∷ 6 ∷ 0
    ∷ 5 ∷ 0 ∷ 9 ∷ 0 ∷ 8 ∷ 0
    ∷ []

-- what they hold
unfoldable pub eight_rows : Loop
eight_rows =
    over 2
    (row (− 1 ∷ pos 3 ∷ []) (− 13 ∷ pos 9 ∷ []) (− 7)
    ∷ row (− 4 ∷ pos 6 ∷ []) (pos 14 ∷ pos 12 ∷ []) (pos 3)
    ∷ row (pos 5 ∷ − 20 ∷ []) (pos 18 ∷ − 9 ∷ []) (− 5)
    ∷ row (pos 7 ∷ − 11 ∷ []) (pos 8 ∷ − 3 ∷ []) (pos 8)
    ∷ row (− 2 ∷ pos 10 ∷ []) (pos 15 ∷ − 6 ∷ []) (− 2)
    ∷ row (− 18 ∷ pos 2 ∷ []) (− 8 ∷ pos 4 ∷ []) (pos 1)
    ∷ row (pos 13 ∷ − 5 ∷ []) (− 12 ∷ pos 11 ∷ []) (pos 6)
    ∷ row (pos 1 ∷ − 16 ∷ []) (− 7 ∷ pos 16 ∷ []) (− 9) ∷ [])

unfoldable pub unlike_short : Ranking
unlike_short = ranking (0 ∷ 0 ∷ 4 ∷ 0 ∷ 0 ∷ 9 ∷ 0 ∷ 0 ∷ []) (0 ∷ 7 ∷ 6 ∷ 0 ∷ 0 ∷ 8 ∷ 0 ∷ 0 ∷ [])
