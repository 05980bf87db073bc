-- The bytes that the components of a certificate of kind 6 take.
use mathlib.Core.Path.{◌≡◌}
use Prim.Native.Nat.{ℕ, zero, suc, ◌+◌, ◌*◌}
use native.Mathlib.Omega.{arith}
use Rattle.record.specs.Fields.{width, widths}
use Rattle.record.specs.Layouts.{right_side, direction}
use Rattle.record.proofs.FieldLaws.{widths_append}
use Rattle.record.proofs.Lengths.{widths_replicate}
use Rattle.record_paths.specs.PathCertificates.{component_fields, components_fields}
use Rattle.record_paths.specs.PathFields.{fall}

pub widths_component : (n : ℕ) → widths (component_fields n) ≡ 4 * n + 8
unfolding component_fields widths width direction right_side fall
widths_component n = rw (widths_append, widths_replicate) (omega arith)

pub widths_components : (n count : ℕ) → widths (components_fields n count) ≡ count * (4 * n + 8)
unfolding components_fields widths
widths_components n zero = omega arith
widths_components n (suc count) = rw (widths_append, widths_component n, widths_components n count) (omega arith)
