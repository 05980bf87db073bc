-- A loop and a settling for it in which no two numbers of one form are alike in a record, as bytes written out from the layouts of 01 and
-- of 02, Q-8, and as the values that they hold. Every sum is exact, the rise meets its limit with nothing to spare, and so does the fall,
-- which is 1: what is exchanged is refused.
use Rattle.std.specs.Prelude.{ℕ, List, [], ◌∷◌, pos}
use Rattle.theory.specs.Loops.{Loop, over}
use Rattle.theory.specs.Samples.{row, ranking}
use Rattle.theory_settling.specs.SettlingSamples.{settling}
use Rattle.theory_settling.specs.Settlings.{Settling}
use Rattle.verdict.specs.Samples.{−}

-- n 2, m 3; a line for each row
unfoldable pub unlike_loop_bytes : List ℕ
unlike_loop_bytes =
    42 ∷ 0 ∷ 0 ∷ 0 ∷ 1 ∷ 0 ∷ 2 ∷ 0 ∷ 3 ∷ 0
    ∷ 243 ∷ 255 ∷ 11 ∷ 0 ∷ 5 ∷ 0 ∷ 246 ∷ 255 ∷ 252 ∷ 255 ∷ 255 ∷ 255
    ∷ 6 ∷ 0 ∷ 254 ∷ 255 ∷ 242 ∷ 255 ∷ 12 ∷ 0 ∷ 4 ∷ 0 ∷ 0 ∷ 0
    ∷ 3 ∷ 0 ∷ 245 ∷ 255 ∷ 15 ∷ 0 ∷ 2 ∷ 0 ∷ 1 ∷ 0 ∷ 0 ∷ 0
    ∷ []

-- a line each for g, t, k, E, Y and Z
unfoldable pub unlike_settling_bytes : List ℕ
unlike_settling_bytes =
    34 ∷ 0 ∷ 0 ∷ 0 ∷ 8 ∷ 0
    ∷ 250 ∷ 255 ∷ 2 ∷ 0
    ∷ 254 ∷ 255 ∷ 255 ∷ 255
    ∷ 8 ∷ 0
    ∷ 6 ∷ 0 ∷ 3 ∷ 0 ∷ 4 ∷ 0
    ∷ 13 ∷ 0 ∷ 10 ∷ 0 ∷ 5 ∷ 0 ∷ 12 ∷ 0
    ∷ 7 ∷ 0 ∷ 2 ∷ 0 ∷ 1 ∷ 0 ∷ 9 ∷ 0
    ∷ []

-- what they hold
unfoldable pub unlike_rows : Loop
unlike_rows =
    over 2
    (row (− 13 ∷ pos 11 ∷ []) (pos 5 ∷ − 10 ∷ []) (− 4)
    ∷ row (pos 6 ∷ − 2 ∷ []) (− 14 ∷ pos 12 ∷ []) (pos 4)
    ∷ row (pos 3 ∷ − 11 ∷ []) (pos 15 ∷ pos 2 ∷ []) (pos 1) ∷ [])

unfoldable pub unlike_parts : Settling
unlike_parts = settling (− 6 ∷ pos 2 ∷ []) (− 2) 8 (6 ∷ 3 ∷ 4 ∷ []) (ranking (13 ∷ 10 ∷ 5 ∷ 12 ∷ []) (7 ∷ 2 ∷ 1 ∷ 9 ∷ []))
