-- Loops and settlings, as lists of rows: a curve that climbs before it falls; one in which no two numbers of a form are alike; and
-- loops that run for ever, each with a settling that lacks one thing only.
use Rattle.std.specs.Prelude.{ℕ, List, [], ◌∷◌, map, ℤ, pos, negsuc}
use Rattle.theory.specs.Exclusions.{Exclusion}
use Rattle.theory.specs.Loops.{Loop, over}
use Rattle.theory.specs.Rankings.{Ranking}
use Rattle.theory.specs.Samples.{row, ranking}
use Rattle.theory_settling.specs.Settlings.{Settling}

-- g, t, k, E and the ranking, multipliers as they are on file
abbrev pub settling : List ℤ → ℤ → ℕ → List ℕ → Ranking → Settling
settling g t k E c = record { g = g; t = t; k = k; E = map pos E; ranking = c }

-- ---- a curve over (x, y): x' = x + y and y' = y - 1 while x >= 0

-- -x <= 0; -x - y + x' <= 0; x + y - x' <= 0; -y + y' <= -1; y - y' <= 1
unfoldable pub curve : Loop
curve =
    over 2
    (row (negsuc 0 ∷ pos 0 ∷ []) (pos 0 ∷ pos 0 ∷ []) (pos 0) ∷
    row (negsuc 0 ∷ negsuc 0 ∷ []) (pos 1 ∷ pos 0 ∷ []) (pos 0) ∷
    row (pos 1 ∷ pos 1 ∷ []) (negsuc 0 ∷ pos 0 ∷ []) (pos 0) ∷
    row (pos 0 ∷ negsuc 0 ∷ []) (pos 0 ∷ pos 1 ∷ []) (negsuc 0) ∷
    row (pos 0 ∷ pos 1 ∷ []) (pos 0 ∷ negsuc 0 ∷ []) (pos 1) ∷ [])

-- -y rises to 1, that is y falls to -1; from there on x falls
abbrev pub curve_by : ℤ → ℕ → List ℕ → List ℕ → List ℕ → Settling
curve_by t k E Y Z = settling (pos 0 ∷ negsuc 0 ∷ []) t k E (ranking Y Z)

unfoldable pub curve_settles : Settling
curve_settles = curve_by (pos 1) 1 (0 ∷ 0 ∷ 0 ∷ 1 ∷ 0 ∷ []) (1 ∷ 0 ∷ 0 ∷ 0 ∷ 0 ∷ 0 ∷ []) (0 ∷ 1 ∷ 0 ∷ 0 ∷ 0 ∷ 1 ∷ [])

-- no linear rank holds from the start
unfoldable pub curve_excluded : Exclusion
curve_excluded = record { q = 1; U = negsuc 0 ∷ negsuc 0 ∷ []; «V» = pos 0 ∷ negsuc 0 ∷ []; W = pos 0 ∷ negsuc 0 ∷ [] }

-- from (0, 5), all the way
abbrev pub curve_run : List (List ℤ)
curve_run =
    (pos 5 ∷ pos 4 ∷ []) ∷ (pos 9 ∷ pos 3 ∷ []) ∷ (pos 12 ∷ pos 2 ∷ []) ∷ (pos 14 ∷ pos 1 ∷ []) ∷ (pos 15 ∷ pos 0 ∷ []) ∷
    (pos 15 ∷ negsuc 0 ∷ []) ∷ (pos 14 ∷ negsuc 1 ∷ []) ∷ (pos 12 ∷ negsuc 2 ∷ []) ∷ (pos 9 ∷ negsuc 3 ∷ []) ∷ (pos 5 ∷ negsuc 4 ∷ []) ∷
    (pos 0 ∷ negsuc 5 ∷ []) ∷ (negsuc 5 ∷ negsuc 6 ∷ []) ∷ []

-- ---- no two numbers of a form alike

-- -9x + 7y + 10x' - 8y' <= -1; 11x - 11y - 4x' + 8y' <= -4; -6x + 4y - 5x' + y' <= 3
unfoldable pub unlike_loop : Loop
unlike_loop =
    over 2
    (row (negsuc 8 ∷ pos 7 ∷ []) (pos 10 ∷ negsuc 7 ∷ []) (negsuc 0) ∷
    row (pos 11 ∷ negsuc 10 ∷ []) (negsuc 3 ∷ pos 8 ∷ []) (negsuc 3) ∷
    row (negsuc 5 ∷ pos 4 ∷ []) (negsuc 4 ∷ pos 1 ∷ []) (pos 3) ∷ [])

unfoldable pub unlike_settling : Settling
unlike_settling = settling (pos 4 ∷ negsuc 5 ∷ []) (pos 5) 3 (1 ∷ 3 ∷ 2 ∷ []) (ranking (6 ∷ 5 ∷ 8 ∷ 3 ∷ []) (9 ∷ 4 ∷ 3 ∷ 1 ∷ []))

-- ---- loops that run for ever, with settlings whose conditions hold

-- x <= 0, and a rise that is none: k 0. From x >= 1 on there is no step
unfoldable pub still : Loop
still = over 1 (row (pos 1 ∷ []) (pos 0 ∷ []) (pos 0) ∷ [])

unfoldable pub no_scale : Settling
no_scale = settling (pos 1 ∷ []) (pos 1) 0 (0 ∷ []) (ranking (0 ∷ 0 ∷ []) (1 ∷ 1 ∷ []))

-- x <= 0; -x + x' <= 1, where x would rise by the second row times -1
unfoldable pub at_most_one_up : Loop
at_most_one_up = over 1 (row (pos 1 ∷ []) (pos 0 ∷ []) (pos 0) ∷ row (negsuc 0 ∷ []) (pos 1 ∷ []) (pos 1) ∷ [])

unfoldable pub E-below-nought : Settling
E-below-nought =
    record { g = pos 1 ∷ []; t = pos 1; k = 1; E = pos 0 ∷ negsuc 0 ∷ []; ranking = ranking (0 ∷ 0 ∷ 0 ∷ []) (1 ∷ 0 ∷ 1 ∷ []) }

-- `upward`, in which x rises: -x falls, and is held above 0 by the added row times -1
unfoldable pub Y-below-nought : Settling
Y-below-nought = settling (pos 1 ∷ []) (pos 0) 1 (1 ∷ []) (record { Y = pos 0 ∷ negsuc 0 ∷ []; Z = pos 1 ∷ pos 0 ∷ [] })

-- `upward` with the row 0 <= 1, which times -1 is a fall of nothing
unfoldable pub upward_idly : Loop
upward_idly = over 1 (row (pos 1 ∷ []) (negsuc 0 ∷ []) (negsuc 0) ∷ row [] [] (pos 1) ∷ [])

unfoldable pub Z-below-nought : Settling
Z-below-nought = settling (pos 1 ∷ []) (pos 0) 1 (1 ∷ 0 ∷ []) (record { Y = []; Z = pos 0 ∷ negsuc 0 ∷ pos 0 ∷ [] })
