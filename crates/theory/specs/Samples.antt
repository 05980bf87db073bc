-- Loops and certificates of 01's sample sheet, as lists of rows: those that theorems speak of, and those that fix the order of the
-- conditions.
use Rattle.std.specs.Prelude.{ℕ, List, [], ◌∷◌, map, ℤ, pos, negsuc}
use Rattle.theory.specs.Loops.{Row, Loop, over}
use Rattle.theory.specs.Rankings.{Ranking}
use Rattle.theory.specs.Exclusions.{Exclusion}
use Rattle.theory.specs.Lassos.{Lasso}

-- a row, written in a line
abbrev pub row : List ℤ → List ℤ → ℤ → Row
row a a' right = record { now = a; next = a'; right = right }

-- a ranking, its multipliers written as they are on file
abbrev pub ranking : List ℕ → List ℕ → Ranking
ranking Y Z = record { Y = map pos Y; Z = map pos Z }

-- loop P over (p, q): -p + q <= -2; -p + p' <= -1; q - q' <= 0, and S1's ranking of it
unfoldable pub P : Loop
P =
    over 2
    (row (negsuc 0 ∷ pos 1 ∷ []) (pos 0 ∷ pos 0 ∷ []) (negsuc 1) ∷
    row (negsuc 0 ∷ pos 0 ∷ []) (pos 1 ∷ pos 0 ∷ []) (negsuc 0) ∷
    row (pos 0 ∷ pos 1 ∷ []) (pos 0 ∷ negsuc 0 ∷ []) (pos 0) ∷ [])

unfoldable pub S1 : Ranking
S1 = ranking (1 ∷ 0 ∷ 0 ∷ []) (0 ∷ 1 ∷ 1 ∷ [])

-- S7: -x <= 0; 2x + x' <= 10; -2x - x' <= -10, and q 1, U -2, V 1, W 4
unfoldable pub S7-loop : Loop
S7-loop =
    over 1
    (row (negsuc 0 ∷ []) (pos 0 ∷ []) (pos 0) ∷
    row (pos 2 ∷ []) (pos 1 ∷ []) (pos 10) ∷
    row (negsuc 1 ∷ []) (negsuc 0 ∷ []) (negsuc 9) ∷ [])

-- q, U, V and W of an exclusion over one variable
abbrev pub excluding : ℕ → ℤ → ℤ → ℤ → Exclusion
excluding q U one-V W = record { q = q; U = U ∷ []; «V» = one-V ∷ []; W = W ∷ [] }

unfoldable pub S7 : Exclusion
S7 = excluding 1 (negsuc 1) (pos 1) (pos 4)

-- S8: the same step with q 2
unfoldable pub S8 : Exclusion
S8 = excluding 2 (negsuc 3) (pos 2) (pos 8)

-- S9: 2x <= 1; -2x <= -1; x' - x <= 0; x - x' <= 0
unfoldable pub S9-loop : Loop
S9-loop =
    over 1
    (row (pos 2 ∷ []) (pos 0 ∷ []) (pos 1) ∷
    row (negsuc 1 ∷ []) (pos 0 ∷ []) (negsuc 0) ∷
    row (negsuc 0 ∷ []) (pos 1 ∷ []) (pos 0) ∷
    row (pos 1 ∷ []) (negsuc 0 ∷ []) (pos 0) ∷ [])

unfoldable pub S9 : Exclusion
S9 = excluding 2 (pos 0) (pos 0) (pos 1)

-- -2x + 2x' <= -1; 2x - 2x' <= 1, that is x' = x - 1/2, and q 2, U -1, V -1, W 0
unfoldable pub half_steps : Loop
half_steps = over 1 (row (negsuc 1 ∷ []) (pos 2 ∷ []) (negsuc 0) ∷ row (pos 2 ∷ []) (negsuc 1 ∷ []) (pos 1) ∷ [])

unfoldable pub half_step : Exclusion
half_step = excluding 2 (negsuc 0) (negsuc 0) (pos 0)

-- -x <= 0, and q 2, U 1, V 2, W 2: q divides V and W and not U
unfoldable pub never_below : Loop
never_below = over 1 (row (negsuc 0 ∷ []) (pos 0 ∷ []) (pos 0) ∷ [])

unfoldable pub odd_U : Exclusion
odd_U = excluding 2 (pos 1) (pos 2) (pos 2)

-- S10: a lasso over (x, y), stem -y' <= -1, loop -x <= 0; -x + y + x' <= 0; y - y' <= 0
unfoldable pub S10-loop : Loop
S10-loop =
    over 2
    (row (negsuc 0 ∷ pos 0 ∷ []) (pos 0 ∷ pos 0 ∷ []) (pos 0) ∷
    row (negsuc 0 ∷ pos 1 ∷ []) (pos 1 ∷ pos 0 ∷ []) (pos 0) ∷
    row (pos 0 ∷ pos 1 ∷ []) (pos 0 ∷ negsuc 0 ∷ []) (pos 0) ∷ [])

-- stem rows, s0, k, T, k2, H, h0 and the ranking of a lasso with s = (0, 1)
abbrev pub lasso : List Row → ℤ → ℕ → List ℕ → ℕ → List ℕ → ℕ → Ranking → Lasso
lasso stem s0 k T k2 H h0 c =
    record { stem = stem; s = pos 0 ∷ pos 1 ∷ []; s0 = s0; k = k; T = map pos T; k2 = k2; H = map pos H; h0 = h0; ranking = c }

abbrev pub S10-stem : List Row
S10-stem = row (pos 0 ∷ pos 0 ∷ []) (pos 0 ∷ negsuc 0 ∷ []) (negsuc 0) ∷ []

abbrev pub S10-ranking : Ranking
S10-ranking = ranking (1 ∷ 0 ∷ 0 ∷ 0 ∷ []) (0 ∷ 1 ∷ 0 ∷ 1 ∷ [])

unfoldable pub S10 : Lasso
S10 = lasso S10-stem (negsuc 0) 1 (1 ∷ []) 1 (0 ∷ 0 ∷ 1 ∷ []) 1 S10-ranking

-- S14: -x <= 0; x' - x <= -2, and Y (1, 0), Z (0, 1)
unfoldable pub S14-loop : Loop
S14-loop = over 1 (row (negsuc 0 ∷ []) (pos 0 ∷ []) (pos 0) ∷ row (negsuc 0 ∷ []) (pos 1 ∷ []) (negsuc 1) ∷ [])

unfoldable pub S14 : Ranking
S14 = ranking (1 ∷ 0 ∷ []) (0 ∷ 1 ∷ [])

-- a loop that runs for ever from every state: x' >= x + 1
unfoldable pub upward : Loop
upward = over 1 (row (pos 1 ∷ []) (negsuc 0 ∷ []) (negsuc 0) ∷ [])

-- ---- loops and certificates in which no two numbers of one form are alike

-- -5x + 8y - 2x' + y' <= -3; 5x - 7y + 2x' + 4y' <= 2; -4x + 6y + 3x' - 9y' <= -1, and Y (6, 3, 2), Z (4, 5, 7)
unfoldable pub unlike_loop : Loop
unlike_loop =
    over 2
    (row (negsuc 4 ∷ pos 8 ∷ []) (negsuc 1 ∷ pos 1 ∷ []) (negsuc 2) ∷
    row (pos 5 ∷ negsuc 6 ∷ []) (pos 2 ∷ pos 4 ∷ []) (pos 2) ∷
    row (negsuc 3 ∷ pos 6 ∷ []) (pos 3 ∷ negsuc 8 ∷ []) (negsuc 0) ∷ [])

unfoldable pub unlike_ranking : Ranking
unlike_ranking = ranking (6 ∷ 3 ∷ 2 ∷ []) (4 ∷ 5 ∷ 7 ∷ [])

-- x' = 2x + y - 3 and y' = x - y - 5, each as two rows, and q 1, U (1, 8), V (3, -5), W (7, -3)
unfoldable pub excluded_loop : Loop
excluded_loop =
    over 2
    (row (negsuc 1 ∷ negsuc 0 ∷ []) (pos 1 ∷ pos 0 ∷ []) (negsuc 2) ∷
    row (pos 2 ∷ pos 1 ∷ []) (negsuc 0 ∷ pos 0 ∷ []) (pos 3) ∷
    row (negsuc 0 ∷ pos 1 ∷ []) (pos 0 ∷ pos 1 ∷ []) (negsuc 4) ∷
    row (pos 1 ∷ negsuc 0 ∷ []) (pos 0 ∷ negsuc 0 ∷ []) (pos 5) ∷ [])

unfoldable pub unlike_exclusion : Exclusion
unlike_exclusion = record { q = 1; U = pos 1 ∷ pos 8 ∷ []; «V» = pos 3 ∷ negsuc 4 ∷ []; W = pos 7 ∷ negsuc 2 ∷ [] }

-- a lasso with two stem rows
unfoldable pub lasso_loop : Loop
lasso_loop =
    over 2
    (row (pos 18 ∷ pos 2 ∷ []) (pos 6 ∷ negsuc 17 ∷ []) (negsuc 19) ∷
    row (negsuc 12 ∷ pos 4 ∷ []) (pos 1 ∷ pos 17 ∷ []) (pos 9) ∷
    row (negsuc 9 ∷ negsuc 13 ∷ []) (negsuc 15 ∷ pos 8 ∷ []) (pos 4) ∷ [])

unfoldable pub unlike_lasso : Lasso
unlike_lasso =
    record {
      stem =
          row (pos 3 ∷ negsuc 8 ∷ []) (negsuc 0 ∷ pos 1 ∷ []) (pos 10) ∷
          row (negsuc 3 ∷ pos 12 ∷ []) (negsuc 9 ∷ pos 10 ∷ []) (pos 15) ∷ [];
      s = pos 2 ∷ negsuc 1 ∷ [];
      s0 = pos 5;
      k = 17;
      T = pos 4 ∷ pos 3 ∷ [];
      k2 = 10;
      H = pos 18 ∷ pos 16 ∷ pos 9 ∷ [];
      h0 = 13;
      ranking = ranking (14 ∷ 12 ∷ 6 ∷ 15 ∷ []) (11 ∷ 8 ∷ 5 ∷ 19 ∷ []);
    }
