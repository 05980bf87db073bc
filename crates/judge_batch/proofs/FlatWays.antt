-- A verdict told in numbers: what is known of the verdict is known of its numbers.
use mathlib.Core.Path.{◌≡◌, ap, ◌∙◌}
use mathlib.Core.List.{List}
use lib.IntN.{ℤ}
use Rattle.verdict.specs.declared.Verdict.{Verdict}
use Rattle.verdict_flat.specs.FlatVerdicts.{flat_verdict}
use Rattle.verdict_flat.specs.declared.FlatVerdict.{FlatVerdict}

pub in_numbers : {told : FlatVerdict} {v w : Verdict} {after last : List ℤ} → told ≡ flat_verdict v → (v ≡ w) × (after ≡ last) → (told ≡ flat_verdict w) × (after ≡ last)
in_numbers is judged = (is ∙ ap flat_verdict judged.0, judged.1)
