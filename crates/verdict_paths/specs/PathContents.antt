-- What sound records of kinds 5 and 6 hold, in the words of the theory: the paths of a loop, and a lexicographic argument for them. Each
-- part stands at the place that crate `record_paths` gives it.
use Rattle.std.specs.Prelude.{ℕ, ◌+◌, ◌*◌, List, ℤ, drop}
use Rattle.record.specs.Fields.{values}
use Rattle.record.specs.Layouts.{direction, right_side, multiplier, rows_of}
use Rattle.record_fields.specs.Runs.{field_number_at}
use Rattle.record_paths.specs.PathFields.{fall, numbers_at}
use Rattle.record_paths.specs.PathLoops.{variables_in, paths_in, rows_in, rows_place}
use Rattle.record_paths.specs.PathCertificates.{Counted, components_in, component_in, component_place, list_place}
use Rattle.theory_paths.specs.Lexicographics.{Component, PathPart, Lexicographic}
use Rattle.theory_paths.specs.Paths.{Branches}
use Rattle.verdict.specs.Contents.{rows_of_numbers}
use Rattle.whole.specs.Rows.{Row}
use Rattle.whole.specs.Sums.{tabulate}

-- ---- kind 5

-- m rows over n variables, the first of them at a place
unfoldable pub rows_at : ℕ → ℕ → List ℕ → ℕ → List Row
rows_at n m bytes place = rows_of_numbers n m (values (rows_of n m) (drop place bytes))

unfoldable pub path_in : List ℕ → ℕ → List Row
path_in bytes j = rows_at (variables_in bytes) (rows_in bytes j) bytes (rows_place bytes j)

unfoldable pub branches_in : List ℕ → Branches
branches_in bytes = record { variables = variables_in bytes; paths = tabulate (paths_in bytes) (path_in bytes) }

-- ---- kind 6, for a loop that counts n, the paths and their rows

-- r, δ0, δ
unfoldable pub component_held : Counted → List ℕ → ℕ → Component
component_held c bytes i =
    record {
      r = numbers_at direction c.n bytes (component_place c i);
      δ0 = field_number_at right_side bytes (component_place c i + 4 * c.n);
      δ = field_number_at fall bytes (component_place c i + 4 * c.n + 4);
    }

-- list k of path j
unfoldable pub list_held : Counted → List ℕ → ℕ → ℕ → List ℤ
list_held c bytes j k = numbers_at multiplier (c.m j) bytes (list_place c bytes j k)

-- bounded, ranking, and one list per earlier component
unfoldable pub part_held : Counted → List ℕ → ℕ → PathPart
part_held c bytes j =
    record {
      component = component_in bytes j;
      bounded = list_held c bytes j 0;
      ranking = list_held c bytes j 1;
      unaffecting = tabulate (component_in bytes j) (λ i. list_held c bytes j (2 + i));
    }

unfoldable pub lexicographic_in : Counted → List ℕ → Lexicographic
lexicographic_in c bytes =
    record { components = tabulate (components_in bytes) (component_held c bytes); parts = tabulate c.paths (part_held c bytes) }
