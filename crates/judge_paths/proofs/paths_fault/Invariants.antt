-- before path j the paths so far hold, and its rows and lists start at `row` and `place`
use Rattle.std.proofs.Common.{ℕ, ◌≡◌, ◌+◌, ◌*◌, ◌<◌}
use Rattle.refusal.specs.Tests.{done}
use Rattle.record_paths.specs.PathCertificates.{counted, components_in, component_place, multipliers_before}
use Rattle.record_paths.specs.PathLoops.{variables_in, rows_place}
use Rattle.theory_paths.specs.PathConditions.{path_told}
use Rattle.verdict_paths.specs.PathContents.{branches_in, lexicographic_in}
use Rattle.judge_paths.proofs.paths_fault.Given as goal

abbrev pub invariant-loop-j : goal.invariant-loop-j
invariant-loop-j l = record {
  row_here : l.row ≡ rows_place l.loopbytes l.j;
  place_here : l.place ≡ component_place (counted l.loopbytes) (components_in l.certificate) + 2 * multipliers_before (counted l.loopbytes) l.certificate l.j;
  before : (i : ℕ) → i < l.j → path_told (variables_in l.loopbytes) (branches_in l.loopbytes) (lexicographic_in (counted l.loopbytes) l.certificate) i ≡ done;
}
