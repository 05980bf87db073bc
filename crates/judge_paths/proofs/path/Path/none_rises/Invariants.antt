-- before turn k the first 2k earlier components do not rise
use Rattle.std.proofs.Common.{ℕ, ◌≡◌, ◌*◌, ◌<◌, true}
use Rattle.theory_paths.specs.PathConditions.{weighs}
use Rattle.judge_paths.specs.PathHeld.{staying_of}
use Rattle.judge_paths.proofs.path.Path.none_rises.Given as goal

abbrev pub invariant-loop-k : goal.invariant-loop-k
invariant-loop-k l = (i : ℕ) → i < 2 * l.k → weighs l.self.rows.n (staying_of l.self i) ≡ true
