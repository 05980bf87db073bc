use Rattle.std.proofs.Common.{◌≡◌, ℕ, ◌+◌, ◌*◌, ◌≤◌, true, List, [], ◌∷◌, ◌++◌, ℤ, length, drop, replicate, refl, ap, ◌∙◌, arith}
use Rattle.std.proofs.lemmas.List.Edits.{sets}
use Rattle.record.specs.Fields.{u16, i32, width, widths, in_range}
use Rattle.record.specs.Layouts.{scale, direction}
use Rattle.record_fields.specs.Runs.{all_held}
use Rattle.record_fields.proofs.Stores.{bytes_run, held_run, in_range_both, write_both}
use Rattle.record_fill.proofs.write_exclusion.Goals as goal

-- the scale and the directions are held
held : (n : ℕ) (zs : List ℤ) → 1 + 3 * n ≤ length zs → in_range ((scale ∷ []) ++ replicate (3 * n) direction) zs ≡ true
    → (all_held u16 1 zs ≡ true) × (all_held i32 (3 * n) (drop 1 zs) ≡ true)
unfolding scale direction
held n zs there fit =
    let both = in_range_both (scale ∷ []) (replicate (3 * n) direction) zs 0 1 refl (omega arith) fit in
    (held_run u16 scale 1 zs refl both.0, held_run i32 direction (3 * n) (drop 1 zs) refl both.1)

pub write_run-requires-clause-held : goal.write_run-requires-clause-held
write_run-requires-clause-held c = (held c.args.n c.args.values.now c.requires.there c.requires.fit).0

pub write_run-requires-2-clause-held : goal.write_run-requires-2-clause-held
write_run-requires-2-clause-held c = (held c.args.n c.args.values.now c.requires.there c.requires.fit).1

pub returns : goal.returns
unfolding widths width scale direction
returns c =
    let a = c.args in
    let first = c.write_run in
    let zs = a.values.now in
    write_both (scale ∷ []) (replicate (3 * a.n) direction) zs 0 1 refl (omega (arith, c.requires.there)) 0 2 a.body.now first.new.body refl
    (first.ensures ∙ ap (sets a.body.now 0) (bytes_run u16 scale 1 zs refl))
    (c.write_run-2.ensures ∙ ap (sets first.new.body 2) (bytes_run i32 direction (3 * a.n) (drop 1 zs) refl))
