-- Loops of several paths, and arguments for them, as lists of rows: two counters, which ends though its steps have no bound; ping-pong,
-- which runs for ever though each of its paths has a ranking; and loops that run for ever, each with an argument that lacks one thing only.
use Rattle.std.specs.Prelude.{ℕ, zero, suc, List, [], ◌∷◌, map, ℤ, pos, negsuc, neg_ℤ}
use Rattle.theory.specs.Loops.{Row}
use Rattle.theory.specs.Rankings.{Ranking}
use Rattle.theory.specs.Samples.{row, ranking}
use Rattle.theory_paths.specs.Paths.{Branches}
use Rattle.theory_paths.specs.Lexicographics.{Component, PathPart, Lexicographic}
use Rattle.theory_paths.specs.OnePath.{alone}

-- a component, and what is held for a path, each written in a line; multipliers as they are on file
abbrev pub component_of : List ℤ → ℤ → ℤ → Component
component_of r δ0 δ = record { r = r; δ0 = δ0; δ = δ }

abbrev pub part_of : ℕ → List ℕ → List ℕ → List (List ℕ) → PathPart
part_of k bounded ranking unaffecting =
    record { component = k; bounded = map pos bounded; ranking = map pos ranking; unaffecting = map (λ ys. map pos ys) unaffecting }

abbrev pub argument : List Component → List PathPart → Lexicographic
argument components parts = record { components = components; parts = parts }

-- x and y as components that are 1 at least and fall by 1
abbrev pub x_then_y : List Component
x_then_y = component_of (pos 1 ∷ pos 0 ∷ []) (pos 1) (pos 1) ∷ component_of (pos 0 ∷ pos 1 ∷ []) (pos 1) (pos 1) ∷ []

-- ---- two counters: in the first path x falls and y is free, in the second x does not rise and y falls

-- -x <= -1; -y <= -1; -x + x' <= -1
abbrev pub x_falls : List Row
x_falls =
    row (negsuc 0 ∷ pos 0 ∷ []) (pos 0 ∷ pos 0 ∷ []) (negsuc 0) ∷
    row (pos 0 ∷ negsuc 0 ∷ []) (pos 0 ∷ pos 0 ∷ []) (negsuc 0) ∷
    row (negsuc 0 ∷ pos 0 ∷ []) (pos 1 ∷ pos 0 ∷ []) (negsuc 0) ∷ []

-- -x <= -1; -y <= -1; -x + x' <= 0; -y + y' <= -1
abbrev pub y_falls : List Row
y_falls =
    row (negsuc 0 ∷ pos 0 ∷ []) (pos 0 ∷ pos 0 ∷ []) (negsuc 0) ∷
    row (pos 0 ∷ negsuc 0 ∷ []) (pos 0 ∷ pos 0 ∷ []) (negsuc 0) ∷
    row (negsuc 0 ∷ pos 0 ∷ []) (pos 1 ∷ pos 0 ∷ []) (pos 0) ∷
    row (pos 0 ∷ negsuc 0 ∷ []) (pos 0 ∷ pos 1 ∷ []) (negsuc 0) ∷ []

unfoldable pub two_counters : Branches
two_counters = record { variables = 2; paths = x_falls ∷ y_falls ∷ [] }

unfoldable pub two_counters_argument : Lexicographic
two_counters_argument =
    argument x_then_y
    (part_of 0 (1 ∷ 0 ∷ 0 ∷ []) (0 ∷ 0 ∷ 1 ∷ []) [] ∷ part_of 1 (0 ∷ 1 ∷ 0 ∷ 0 ∷ []) (0 ∷ 0 ∷ 0 ∷ 1 ∷ []) ((0 ∷ 0 ∷ 1 ∷ 0 ∷ []) ∷ []) ∷ [])

-- ---- ping-pong: in the first path one goes from x to y, in the second from y to x

-- x >= 1; x' = x - 1; y' = y + 1: -x <= -1; -x + x' <= -1; x - x' <= 1; -y + y' <= 1; y - y' <= -1
abbrev pub x_to_y : List Row
x_to_y =
    row (negsuc 0 ∷ pos 0 ∷ []) (pos 0 ∷ pos 0 ∷ []) (negsuc 0) ∷
    row (negsuc 0 ∷ pos 0 ∷ []) (pos 1 ∷ pos 0 ∷ []) (negsuc 0) ∷
    row (pos 1 ∷ pos 0 ∷ []) (negsuc 0 ∷ pos 0 ∷ []) (pos 1) ∷
    row (pos 0 ∷ negsuc 0 ∷ []) (pos 0 ∷ pos 1 ∷ []) (pos 1) ∷
    row (pos 0 ∷ pos 1 ∷ []) (pos 0 ∷ negsuc 0 ∷ []) (negsuc 0) ∷ []

-- y >= 1; y' = y - 1; x' = x + 1: -y <= -1; -y + y' <= -1; y - y' <= 1; -x + x' <= 1; x - x' <= -1
abbrev pub y_to_x : List Row
y_to_x =
    row (pos 0 ∷ negsuc 0 ∷ []) (pos 0 ∷ pos 0 ∷ []) (negsuc 0) ∷
    row (pos 0 ∷ negsuc 0 ∷ []) (pos 0 ∷ pos 1 ∷ []) (negsuc 0) ∷
    row (pos 0 ∷ pos 1 ∷ []) (pos 0 ∷ negsuc 0 ∷ []) (pos 1) ∷
    row (negsuc 0 ∷ pos 0 ∷ []) (pos 1 ∷ pos 0 ∷ []) (pos 1) ∷
    row (pos 1 ∷ pos 0 ∷ []) (negsuc 0 ∷ pos 0 ∷ []) (negsuc 0) ∷ []

unfoldable pub ping_pong : Branches
ping_pong = record { variables = 2; paths = x_to_y ∷ y_to_x ∷ [] }

-- the ranking of either path alone: by its guard, and by the row in which its own variable falls
unfoldable pub ping_pong_ranking : Ranking
ping_pong_ranking = ranking (1 ∷ 0 ∷ 0 ∷ 0 ∷ 0 ∷ []) (0 ∷ 1 ∷ 0 ∷ 0 ∷ 0 ∷ [])

-- the two together, with x' - x <= 1 held against x in the second path
unfoldable pub ping_pong_argument : Lexicographic
ping_pong_argument =
    argument x_then_y
    (part_of 0 (1 ∷ 0 ∷ 0 ∷ 0 ∷ 0 ∷ []) (0 ∷ 1 ∷ 0 ∷ 0 ∷ 0 ∷ []) [] ∷
    part_of 1 (1 ∷ 0 ∷ 0 ∷ 0 ∷ 0 ∷ []) (0 ∷ 1 ∷ 0 ∷ 0 ∷ 0 ∷ []) ((0 ∷ 0 ∷ 0 ∷ 1 ∷ 0 ∷ []) ∷ []) ∷ [])

-- (1, 0), (0, 1), (1, 0), ..
unfoldable pub to_and_fro : ℕ → List ℤ
to_and_fro zero = pos 1 ∷ pos 0 ∷ []
to_and_fro (suc zero) = pos 0 ∷ pos 1 ∷ []
to_and_fro (suc (suc i)) = to_and_fro i

-- ---- three components, and a path that owns the last: -z <= -1; -x + x' <= 0; -y + y' <= 0; -z + z' <= -1

unfoldable pub third_counter : Branches
third_counter =
    alone 3
    (row (pos 0 ∷ pos 0 ∷ negsuc 0 ∷ []) (pos 0 ∷ pos 0 ∷ pos 0 ∷ []) (negsuc 0) ∷
    row (negsuc 0 ∷ pos 0 ∷ pos 0 ∷ []) (pos 1 ∷ pos 0 ∷ pos 0 ∷ []) (pos 0) ∷
    row (pos 0 ∷ negsuc 0 ∷ pos 0 ∷ []) (pos 0 ∷ pos 1 ∷ pos 0 ∷ []) (pos 0) ∷
    row (pos 0 ∷ pos 0 ∷ negsuc 0 ∷ []) (pos 0 ∷ pos 0 ∷ pos 1 ∷ []) (negsuc 0) ∷ [])

-- with the multipliers of its unaffecting condition
abbrev pub third_owned : List (List ℕ) → Lexicographic
third_owned unaffecting =
    argument
    (component_of (pos 1 ∷ pos 0 ∷ pos 0 ∷ []) (pos 0) (pos 1) ∷
    component_of (pos 0 ∷ pos 1 ∷ pos 0 ∷ []) (pos 0) (pos 1) ∷
    component_of (pos 0 ∷ pos 0 ∷ pos 1 ∷ []) (pos 1) (pos 1) ∷ [])
    (part_of 2 (1 ∷ 0 ∷ 0 ∷ 0 ∷ []) (0 ∷ 0 ∷ 0 ∷ 1 ∷ []) unaffecting ∷ [])

-- ---- loops that run for ever, with arguments whose conditions hold

-- a path without rows, for a component that is not there, and for one that falls by 0
unfoldable pub free : Branches
free = alone 1 []

unfoldable pub component_missing : Lexicographic
component_missing = argument [] (part_of 0 [] [] [] ∷ [])

unfoldable pub no_fall : Lexicographic
no_fall = argument (component_of (pos 0 ∷ []) (pos 0) (pos 0) ∷ []) (part_of 0 [] [] [] ∷ [])

-- x <= 0; -x + x' <= -1, held above 0 by the first row times -1
unfoldable pub downward : Branches
downward = alone 1 (row (pos 1 ∷ []) (pos 0 ∷ []) (pos 0) ∷ row (negsuc 0 ∷ []) (pos 1 ∷ []) (negsuc 0) ∷ [])

-- what is held for one path that owns the only component, of either sign
abbrev pub signed_part : List ℤ → List ℤ → PathPart
signed_part bounded ranking = record { component = 0; bounded = bounded; ranking = ranking; unaffecting = [] }

unfoldable pub bounded_below_nought : Lexicographic
bounded_below_nought =
    argument (component_of (pos 1 ∷ []) (pos 0) (pos 1) ∷ []) (signed_part (negsuc 0 ∷ pos 0 ∷ []) (pos 0 ∷ pos 1 ∷ []) ∷ [])

-- 0, -1, -2, ..
abbrev pub descent : ℕ → List ℤ
descent i = neg_ℤ (pos i) ∷ []

-- -x <= 0; x - x' <= 1, held to fall by the second row times -1
unfoldable pub level : Branches
level = alone 1 (row (negsuc 0 ∷ []) (pos 0 ∷ []) (pos 0) ∷ row (pos 1 ∷ []) (negsuc 0 ∷ []) (pos 1) ∷ [])

unfoldable pub ranking_below_nought : Lexicographic
ranking_below_nought =
    argument (component_of (pos 1 ∷ []) (pos 0) (pos 1) ∷ []) (signed_part (pos 1 ∷ pos 0 ∷ []) (pos 0 ∷ negsuc 0 ∷ []) ∷ [])

-- 0, 0, 0, ..
abbrev pub at_rest : ℕ → List ℤ
at_rest i = pos 0 ∷ []

-- -x <= -1; -x + x' <= -1 and -y <= -1; -y + y' <= -1; x - x' <= 0, where x is held down by the last row times -1
unfoldable pub loose_ping_pong : Branches
loose_ping_pong =
    record {
      variables = 2;
      paths =
          (row (negsuc 0 ∷ pos 0 ∷ []) (pos 0 ∷ pos 0 ∷ []) (negsuc 0) ∷
          row (negsuc 0 ∷ pos 0 ∷ []) (pos 1 ∷ pos 0 ∷ []) (negsuc 0) ∷ []) ∷
          (row (pos 0 ∷ negsuc 0 ∷ []) (pos 0 ∷ pos 0 ∷ []) (negsuc 0) ∷
          row (pos 0 ∷ negsuc 0 ∷ []) (pos 0 ∷ pos 1 ∷ []) (negsuc 0) ∷
          row (pos 1 ∷ pos 0 ∷ []) (negsuc 0 ∷ pos 0 ∷ []) (pos 0) ∷ []) ∷ [];
    }

unfoldable pub unaffecting_below_nought : Lexicographic
unaffecting_below_nought =
    argument x_then_y
    (part_of 0 (1 ∷ 0 ∷ []) (0 ∷ 1 ∷ []) [] ∷
    record {
      component = 1;
      bounded = pos 1 ∷ pos 0 ∷ pos 0 ∷ [];
      ranking = pos 0 ∷ pos 1 ∷ pos 0 ∷ [];
      unaffecting = (pos 0 ∷ pos 0 ∷ negsuc 0 ∷ []) ∷ [];
    } ∷ [])
