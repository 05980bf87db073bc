-- Where the parts of a path's argument lie, out of what lies in the bytes as a whole.
use Prim.Native.Nat.{ℕ, ◌+◌, ◌*◌, ◌≤◌, ◌<◌}
use mathlib.Core.Path.{◌≡◌}
use native.Mathlib.Nat.{mul-le-mul_left, mul-le-mul_right}
use native.Mathlib.Omega.{arith}
use lib.ListN.{length}
use Rattle.judge_paths.specs.declared.path.Path.{Path}

module _ (p : Path) where
  -- list k of the path, and component i
  pub list_in : (k : ℕ) → k < 2 + p.component → p.place + 2 * p.rows.count * k + 2 * p.rows.count ≤ length p.certificate.now
  list_in k below =
      let more : p.rows.count * (k + 1) ≤ p.rows.count * (2 + p.component) = mul-le-mul_left p.rows.count (omega arith) in
      let next : p.rows.count * (k + 1) ≡ p.rows.count * k + p.rows.count = omega arith in
      omega (arith, p.lies.lists_there)

  pub component_in : (i : ℕ) → i < p.component + 1 → p.first + i * (4 * p.rows.n + 8) + (4 * p.rows.n + 8) ≤ length p.certificate.now
  component_in i below =
      let more : (i + 1) * (4 * p.rows.n + 8) ≤ (p.component + 1) * (4 * p.rows.n + 8) = mul-le-mul_right (4 * p.rows.n + 8) (omega arith) in
      let next : (i + 1) * (4 * p.rows.n + 8) ≡ i * (4 * p.rows.n + 8) + (4 * p.rows.n + 8) = omega arith in
      omega (arith, p.lies.components_there)
