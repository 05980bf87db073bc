-- 02, Q-3, once more from the values' side: what it is for a loop of several paths and an argument for it to be within the limits, part by
-- part, and the bytes that hold them, in the layout's order. The statements about all values in range are in these words.
use Rattle.std.specs.Prelude.{ℕ, ◌+◌, ◌*◌, ◌<◌, ◌≡◌, List, [], ◌∷◌, ◌++◌, ℤ, pos, length, replicate}
use Rattle.endian.specs.Numbers.{digits}
use Rattle.refusal.specs.Places.{Throughout}
use Rattle.record.specs.Contents.{In, ListIn, RowIn, row_values, rows_values}
use Rattle.record.specs.Fields.{bytes_of}
use Rattle.record.specs.Layouts.{multiplier, rows_of}
use Rattle.record.specs.Ranges.{variables, rows, right_sides, multipliers, directions}
use Rattle.record_paths.specs.PathCertificates.{component_fields}
use Rattle.record_paths.specs.PathFields.{path_counts, component_counts, falls, sum_of}
use Rattle.theory_paths.specs.Lexicographics.{Component, PathPart, Lexicographic, part_at}
use Rattle.theory_paths.specs.Paths.{Branches, rows_for}
use Rattle.whole.specs.Rows.{Row}
use Rattle.whole.specs.Sums.{Each}

-- ---- within the limits: a loop of several paths

-- a path: 0 to 64 rows over n variables
pub record PathIn (n : ℕ) (path : List Row) : Type 0 where
  pub m_in : In rows (pos (length path))
  pub each : Each (RowIn n) path

-- n, 1 to 8 paths, and each path
pub record BranchesIn (loop : Branches) : Type 0 where
  pub n_in : In variables (pos loop.variables)
  pub count_in : In path_counts (pos (length loop.paths))
  pub each : Each (PathIn loop.variables) loop.paths

-- ---- within the limits: an argument for it

-- a component: r, δ0, δ
pub record ComponentIn (n : ℕ) (k : Component) : Type 0 where
  pub r_in : ListIn directions n k.r
  pub δ0-in : In right_sides k.δ0
  pub δ-in : In falls k.δ

-- what is held for a path of m rows, where there are so many components: its component exists, each list has m multipliers, and there is
-- one unaffecting list for each earlier component
pub record PartIn (components m : ℕ) (part : PathPart) : Type 0 where
  pub there : part.component < components
  pub bounded_in : ListIn multipliers m part.bounded
  pub ranking_in : ListIn multipliers m part.ranking
  pub counted : length part.unaffecting ≡ part.component
  pub unaffecting_in : Each (ListIn multipliers m) part.unaffecting

-- 1 to 8 components, and a part for each path
pub record ArgumentIn (loop : Branches) (c : Lexicographic) : Type 0 where
  pub count_in : In component_counts (pos (length c.components))
  pub components_in : Each (ComponentIn loop.variables) c.components
  pub parts_counted : length c.parts ≡ length loop.paths
  pub parts_in : Throughout (length loop.paths) (λ j. PartIn (length c.components) (length (rows_for loop j)) (part_at c j))

-- ---- the bytes

-- those of each one of a list, one after another
unfoldable pub joined : {B : Type 0} → (B → List ℕ) → List B → List ℕ
joined bytes [] = []
joined bytes (b ∷ bs) = bytes b ++ joined bytes bs

-- L, the kind, and the rest
unfoldable pub framed : ℕ → ℕ → List ℕ → List ℕ
framed L kind rest = digits 4 L ++ (digits 2 kind ++ rest)

-- a u16
abbrev pub count_bytes : ℕ → List ℕ
count_bytes k = digits 2 k

-- the rows of a path over n variables
unfoldable pub path_bytes : ℕ → List Row → List ℕ
path_bytes n path = bytes_of (rows_of n (length path)) (rows_values path)

-- kind 5: n, the count of paths, the m of each, and path after path its rows
unfoldable pub branches_bytes : Branches → List ℕ
branches_bytes loop =
    let n = loop.variables in
    let all_rows = sum_of (length loop.paths) (λ j. length (rows_for loop j)) in
    framed (6 + 2 * length loop.paths + all_rows * (4 * n + 4)) 5
    (count_bytes n
    ++ (count_bytes (length loop.paths)
    ++ (joined (λ path. count_bytes (length path)) loop.paths
    ++ joined (path_bytes n) loop.paths)))

-- r, δ0, δ of a component
unfoldable pub component_bytes : ℕ → Component → List ℕ
component_bytes n k = bytes_of (component_fields n) (k.r ++ (k.δ0 ∷ k.δ ∷ []))

-- a list of multipliers, and the lists of a path: bounded, ranking, unaffecting
unfoldable pub list_bytes : List ℤ → List ℕ
list_bytes ys = bytes_of (replicate (length ys) multiplier) ys

abbrev pub lists_of : PathPart → List (List ℤ)
lists_of part = part.bounded ∷ part.ranking ∷ part.unaffecting

unfoldable pub part_bytes : PathPart → List ℕ
part_bytes part = joined list_bytes (lists_of part)

-- kind 6: the count of components, the component number of each path, component after component, and path after path its multipliers
unfoldable pub argument_bytes : Branches → Lexicographic → List ℕ
argument_bytes loop c =
    let paths = length loop.paths in
    let components = length c.components in
    let all_multipliers = sum_of paths (λ j. length (rows_for loop j) * (2 + (part_at c j).component)) in
    framed (4 + 2 * paths + 4 * components * (loop.variables + 2) + 2 * all_multipliers) 6
    (count_bytes components
    ++ (joined (λ part. count_bytes part.component) c.parts
    ++ (joined (component_bytes loop.variables) c.components
    ++ joined part_bytes c.parts)))

-- opens all that makes the bytes
unfoldable pub making : Unit {0}
unfolding joined framed path_bytes branches_bytes component_bytes list_bytes part_bytes argument_bytes rows_values row_values bytes_of
making = tt
