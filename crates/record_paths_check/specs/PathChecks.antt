-- What the parts of a check of kinds 5 and 6 answer; the whole answers by `sound_paths` and `sound_lexicographic` of `record_paths`.
use Rattle.std.specs.Prelude.{ℕ, ◌+◌, ◌*◌, ◌≤◌, ◌≡◌, Bool, true, cond, List, ltb, eqb, pos, length, Result}
use Rattle.endian.specs.Numbers.{little_at}
use Rattle.refusal.specs.declared.Fault.{Fault}
use Rattle.refusal.specs.Faults.{result_of}
use Rattle.refusal.specs.Places.{before_failing}
use Rattle.refusal.specs.Tests.{Told, done, refused, first}
use Rattle.record.specs.Ranges.{variables, rows, within}
use Rattle.record_check.specs.Framing.{Framed}
use Rattle.record_paths.specs.PathCertificates.{components_in, component_in}
use Rattle.record_paths.specs.PathFields.{path_counts, component_counts, sum_of, bytes_alone}
use Rattle.record_paths.specs.PathLoops.{variables_in, paths_in, rows_in, sound_paths}

-- what is told of paths that have a number each, the first of them at a place: a refusal at the first number that fails a test
unfoldable pub told_along : ℕ → ℕ → ℕ → (ℕ → Bool) → Told
told_along number place paths holds =
    cond (eqb (before_failing paths holds) paths) done (refused number (place + 2 * before_failing paths holds))

-- a walk along them: the sum of what the paths have, or the refusal
unfoldable pub walked : ℕ → ℕ → ℕ → (ℕ → Bool) → (ℕ → ℕ) → Result ℕ Fault
walked number place paths holds has = result_of (told_along number place paths holds) (sum_of paths has)

-- the m of path j is a count of rows
abbrev pub m_fits : List ℕ → ℕ → Bool
m_fits bytes j = within rows (pos (rows_in bytes j))

-- the component number of path j exists
abbrev pub component_there : ℕ → List ℕ → ℕ → Bool
component_there components bytes j = ltb (component_in bytes j) components

-- the multipliers of path j
abbrev pub multipliers_of : List ℕ → List ℕ → ℕ → ℕ
multipliers_of loopbytes bytes j = rows_in loopbytes j * (2 + component_in bytes j)

-- a record of kind 5 that meets the tests up to its counts
pub record PathsCounted (bytes : List ℕ) (n paths : ℕ) : Type 0 where
  pub frame : Framed bytes
  pub numbered : little_at 2 bytes 4 ≡ 5
  pub there : 10 ≤ length bytes
  pub n_read : n ≡ variables_in bytes
  pub n_fits : within variables (pos n) ≡ true
  pub paths_read : paths ≡ paths_in bytes
  pub paths_fit : within path_counts (pos paths) ≡ true

-- a record of kind 6 that does
pub record ComponentsCounted (bytes : List ℕ) (components : ℕ) : Type 0 where
  pub frame : Framed bytes
  pub numbered : little_at 2 bytes 4 ≡ 6
  pub there : 8 ≤ length bytes
  pub read : components ≡ components_in bytes
  pub fit : within component_counts (pos components) ≡ true

-- bytes that have a component number for each path of a sound loop
pub record Numbered (loopbytes bytes : List ℕ) (paths : ℕ) : Type 0 where
  pub loop_sound : first sound_paths (bytes_alone loopbytes) ≡ done
  pub paths_read : paths ≡ paths_in loopbytes
  pub there : 8 + 2 * paths ≤ length bytes
