-- 02, Q-3: "A certificate of kind 6 holds a count of 1 to 8 components, a component number (u16, from 0) for each path, each component's
-- r, δ0, δ (i32, ranged as U, as s0, and 1 to 1,000,000), and path by path multipliers for the bounded, ranking and unaffecting conditions
-- of document 004, the last with one list per earlier component". It is read with the n, the count of paths and the m's of its loop.
use Rattle.std.specs.Prelude.{ℕ, zero, suc, ◌+◌, ◌*◌, List, [], ◌∷◌, ◌++◌, eqb, ltb, replicate}
use Rattle.endian.specs.Numbers.{little_at}
use Rattle.refusal.specs.Places.{before_failing}
use Rattle.refusal.specs.Tests.{Test, ◌at◌unless◌}
use Rattle.record.specs.Fields.{Field}
use Rattle.record.specs.Layouts.{direction, right_side, multiplier}
use Rattle.record.specs.Readers.{Reader, framing}
use Rattle.record_paths.specs.PathFields.{component_count, fall, sum_of, is_kind, holds_counts, is_long, fields_fit}
use Rattle.record_paths.specs.PathLoops.{variables_in, paths_in, rows_in}

-- what a loop of kind 5 counts: n, the paths, and m of each
pub record Counted : Type 0 where
  pub n : ℕ
  pub paths : ℕ
  pub m : ℕ → ℕ

unfoldable pub counted : List ℕ → Counted
counted loopbytes = record { n = variables_in loopbytes; paths = paths_in loopbytes; m = rows_in loopbytes }

-- the count of components, and the component number of path j
unfoldable pub components_in : List ℕ → ℕ
components_in bytes = little_at 2 bytes 6

unfoldable pub component_in : List ℕ → ℕ → ℕ
component_in bytes j = little_at 2 bytes (8 + 2 * j)

-- how many paths come before the first whose component number doesn't exist
unfoldable pub before_missing : Counted → List ℕ → ℕ
before_missing c bytes = before_failing c.paths (λ j. ltb (component_in bytes j) (components_in bytes))

-- path j has two lists of m multipliers, bounded and ranking, and one more for each earlier component; the multipliers before path j, and
-- of all paths
unfoldable pub multipliers_before : Counted → List ℕ → ℕ → ℕ
multipliers_before c bytes j = sum_of j (λ i. c.m i * (2 + component_in bytes i))

unfoldable pub all_multipliers : Counted → List ℕ → ℕ
all_multipliers c bytes = multipliers_before c bytes c.paths

-- where component i stands, and where list k of path j does: 0 bounded, 1 ranking, 2 and on unaffecting
unfoldable pub component_place : Counted → ℕ → ℕ
component_place c i = 8 + 2 * c.paths + i * (4 * c.n + 8)

unfoldable pub list_place : Counted → List ℕ → ℕ → ℕ → ℕ
list_place c bytes j k = component_place c (components_in bytes) + 2 * multipliers_before c bytes j + 2 * c.m j * k

-- r, δ0 and δ of one component, and of so many
unfoldable pub component_fields : ℕ → List Field
component_fields n = replicate n direction ++ (right_side ∷ fall ∷ [])

unfoldable pub components_fields : ℕ → ℕ → List Field
components_fields n zero = []
components_fields n (suc count) = component_fields n ++ components_fields n count

unfoldable pub certificate_fields : Counted → List ℕ → List Field
certificate_fields c bytes = components_fields c.n (components_in bytes) ++ replicate (all_multipliers c bytes) multiplier

-- L = 4 + 2p + 4C(n + 2) + the sum of 2 m (2 + component number) over the paths
unfoldable pub certificate_length : Counted → List ℕ → ℕ
certificate_length c bytes = 4 + 2 * c.paths + 4 * components_in bytes * (c.n + 2) + 2 * all_multipliers c bytes

-- "Order for a record", of kind 6: "a component number that doesn't exist, 14 at its first byte, in a count's place in the order"
unfoldable pub sound_lexicographic : Counted → List (Test Reader)
sound_lexicographic c =
    framing ++
    (is_kind 6
    ∷ holds_counts (λ r. 4)
    ∷ fields_fit 5 (λ r. 6) (λ r. component_count ∷ [])
    ∷ holds_counts (λ r. 4 + 2 * c.paths)
    ∷ (14 at (λ r. 8 + 2 * before_missing c r.bytes) unless λ r. eqb (before_missing c r.bytes) c.paths)
    ∷ is_long (λ r. certificate_length c r.bytes)
    ∷ fields_fit 6 (λ r. 8 + 2 * c.paths) (λ r. certificate_fields c r.bytes)
    ∷ [])
