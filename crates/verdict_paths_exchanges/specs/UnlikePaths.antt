-- Two pairs of kinds 5 and 6 in which no two numbers of one form are alike, as bytes written out from the layout of 02, Q-3, and as the
-- values that they hold. In the first n is 1 and there are two paths, each owning a component, so it is about paths, components and their
-- lists; in the second there is one path over two variables, so it is about columns. Every sum is exact, and every right side meets its
-- limit with nothing to spare: what is exchanged is refused.
use Rattle.std.specs.Prelude.{ℕ, List, [], ◌∷◌, pos}
use Rattle.theory.specs.Samples.{row}
use Rattle.theory_paths.specs.Lexicographics.{Lexicographic}
use Rattle.theory_paths.specs.PathSamples.{component_of, part_of, argument}
use Rattle.theory_paths.specs.Paths.{Branches}
use Rattle.verdict.specs.Samples.{−}

-- ---- two paths, of 3 and 4 rows, over one variable; the paths own components 0 and 1

unfoldable pub unlike_paths_bytes : List ℕ
unlike_paths_bytes =
    66 ∷ 0 ∷ 0 ∷ 0 ∷ 5 ∷ 0 ∷ 1 ∷ 0 ∷ 2 ∷ 0 ∷ 3 ∷ 0 ∷ 4 ∷ 0
    ∷ 196 ∷ 255 ∷ 246 ∷ 255 ∷ 10 ∷ 0 ∷ 0 ∷ 0
    ∷ 22 ∷ 0 ∷ 6 ∷ 0 ∷ 254 ∷ 255 ∷ 255 ∷ 255
    ∷ 13 ∷ 0 ∷ 1 ∷ 0 ∷ 253 ∷ 255 ∷ 255 ∷ 255
    ∷ 253 ∷ 255 ∷ 57 ∷ 0 ∷ 226 ∷ 255 ∷ 255 ∷ 255
    ∷ 239 ∷ 255 ∷ 213 ∷ 255 ∷ 69 ∷ 0 ∷ 0 ∷ 0
    ∷ 16 ∷ 0 ∷ 234 ∷ 255 ∷ 232 ∷ 255 ∷ 255 ∷ 255
    ∷ 4 ∷ 0 ∷ 252 ∷ 255 ∷ 250 ∷ 255 ∷ 255 ∷ 255
    ∷ []

unfoldable pub unlike_argument_bytes : List ℕ
unlike_argument_bytes =
    68 ∷ 0 ∷ 0 ∷ 0 ∷ 6 ∷ 0 ∷ 2 ∷ 0 ∷ 0 ∷ 0 ∷ 1 ∷ 0
    ∷ 242 ∷ 255 ∷ 255 ∷ 255 ∷ 4 ∷ 0 ∷ 0 ∷ 0 ∷ 14 ∷ 0 ∷ 0 ∷ 0
    ∷ 244 ∷ 255 ∷ 255 ∷ 255 ∷ 12 ∷ 0 ∷ 0 ∷ 0 ∷ 3 ∷ 0 ∷ 0 ∷ 0
    ∷ 9 ∷ 0 ∷ 11 ∷ 0 ∷ 24 ∷ 0
    ∷ 6 ∷ 0 ∷ 4 ∷ 0 ∷ 22 ∷ 0
    ∷ 20 ∷ 0 ∷ 16 ∷ 0 ∷ 18 ∷ 0 ∷ 14 ∷ 0
    ∷ 21 ∷ 0 ∷ 17 ∷ 0 ∷ 19 ∷ 0 ∷ 15 ∷ 0
    ∷ 12 ∷ 0 ∷ 10 ∷ 0 ∷ 8 ∷ 0 ∷ 23 ∷ 0
    ∷ []

-- what they hold
unfoldable pub unlike_paths : Branches
unlike_paths =
    record {
      variables = 1;
      paths =
          (row (− 60 ∷ []) (− 10 ∷ []) (pos 10)
          ∷ row (pos 22 ∷ []) (pos 6 ∷ []) (− 2)
          ∷ row (pos 13 ∷ []) (pos 1 ∷ []) (− 3) ∷ [])
          ∷ (row (− 3 ∷ []) (pos 57 ∷ []) (− 30)
          ∷ row (− 17 ∷ []) (− 43 ∷ []) (pos 69)
          ∷ row (pos 16 ∷ []) (− 22 ∷ []) (− 24)
          ∷ row (pos 4 ∷ []) (− 4 ∷ []) (− 6) ∷ [])
          ∷ [];
    }

-- components; bounded, ranking; bounded, ranking, unaffecting
unfoldable pub unlike_paths_argument : Lexicographic
unlike_paths_argument =
    argument
    (component_of (− 14 ∷ []) (pos 4) (pos 14)
    ∷ component_of (− 12 ∷ []) (pos 12) (pos 3) ∷ [])
    (part_of 0 (9 ∷ 11 ∷ 24 ∷ []) (6 ∷ 4 ∷ 22 ∷ []) []
    ∷ part_of 1 (20 ∷ 16 ∷ 18 ∷ 14 ∷ []) (21 ∷ 17 ∷ 19 ∷ 15 ∷ []) ((12 ∷ 10 ∷ 8 ∷ 23 ∷ []) ∷ []) ∷ [])

-- ---- one path, of 3 rows, over two variables

unfoldable pub unlike_path_bytes : List ℕ
unlike_path_bytes =
    44 ∷ 0 ∷ 0 ∷ 0 ∷ 5 ∷ 0 ∷ 2 ∷ 0 ∷ 1 ∷ 0 ∷ 3 ∷ 0
    ∷ 252 ∷ 255 ∷ 251 ∷ 255 ∷ 0 ∷ 0 ∷ 254 ∷ 255 ∷ 254 ∷ 255 ∷ 255 ∷ 255
    ∷ 8 ∷ 0 ∷ 11 ∷ 0 ∷ 1 ∷ 0 ∷ 7 ∷ 0 ∷ 1 ∷ 0 ∷ 0 ∷ 0
    ∷ 4 ∷ 0 ∷ 6 ∷ 0 ∷ 253 ∷ 255 ∷ 248 ∷ 255 ∷ 6 ∷ 0 ∷ 0 ∷ 0
    ∷ []

unfoldable pub unlike_weights_bytes : List ℕ
unlike_weights_bytes =
    34 ∷ 0 ∷ 0 ∷ 0 ∷ 6 ∷ 0 ∷ 1 ∷ 0 ∷ 0 ∷ 0
    ∷ 252 ∷ 255 ∷ 255 ∷ 255 ∷ 243 ∷ 255 ∷ 255 ∷ 255 ∷ 8 ∷ 0 ∷ 0 ∷ 0 ∷ 1 ∷ 0 ∷ 0 ∷ 0
    ∷ 13 ∷ 0 ∷ 6 ∷ 0 ∷ 2 ∷ 0
    ∷ 12 ∷ 0 ∷ 5 ∷ 0 ∷ 3 ∷ 0
    ∷ []

-- what they hold
unfoldable pub unlike_path : Branches
unlike_path =
    record {
      variables = 2;
      paths =
          (row (− 4 ∷ − 5 ∷ []) (pos 0 ∷ − 2 ∷ []) (− 2)
          ∷ row (pos 8 ∷ pos 11 ∷ []) (pos 1 ∷ pos 7 ∷ []) (pos 1)
          ∷ row (pos 4 ∷ pos 6 ∷ []) (− 3 ∷ − 8 ∷ []) (pos 6) ∷ [])
          ∷ [];
    }

-- a component; bounded, ranking
unfoldable pub unlike_path_argument : Lexicographic
unlike_path_argument =
    argument
    (component_of (− 4 ∷ − 13 ∷ []) (pos 8) (pos 1) ∷ [])
    (part_of 0 (13 ∷ 6 ∷ 2 ∷ []) (12 ∷ 5 ∷ 3 ∷ []) [] ∷ [])
