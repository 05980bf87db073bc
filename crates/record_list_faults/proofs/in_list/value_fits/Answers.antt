-- What `between` answers, at the field's own range.
use Rattle.std.proofs.Common.{◌≡◌, ℤ, SFits, w64, to_z, of_z, rules, refl, ◌∙◌}
use Rattle.std.proofs.lemmas.Int.{to_z-of_z}
use Rattle.record.specs.Ranges.{Range, within}
use Rattle.record_list_faults.proofs.in_list.value_fits.Goals as goal

tested : (range : Range) (least most z : ℤ) (l m : ℤ) → SFits w64 l → SFits w64 m → SFits w64 z → l ≡ least → m ≡ most → range ≡ record { least = least; most = most }
    → within (record { least = to_z w64 (of_z w64 l); most = to_z w64 (of_z w64 m) }) (to_z w64 (of_z w64 z)) ≡ within range z
tested range least most z l m fl fm fz ls ms ranged = rw (to_z-of_z w64 l fl, to_z-of_z w64 m fm, to_z-of_z w64 z fz, ls, ms, ranged) refl

pub returns : goal.returns
returns g c =
    c.between.ensures
    ∙ tested g.F.BodyField.field.range _ _ _ c.LEAST.result c.MOST.result (search rules) (search rules) (search rules) c.LEAST.ensures c.MOST.ensures g.met.F.BodyField.range
