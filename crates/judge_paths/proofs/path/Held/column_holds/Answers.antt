-- `judge_paths::Held::column_holds` meets its contract: the totals are compared by their bits.
use Rattle.std.proofs.Common.{◌≡◌, ◌&&◌, pos, w64, to_z, ◌∙◌, arith}
use mathlib.Core.Path.{ap₂}
use mir.Facts.{to_z_pos}
use borrow.Author.Rules.{sfits_of}
use Rattle.whole.specs.Same.{same_z}
use Rattle.whole.proofs.Size.{back}
use Rattle.judge_sums.specs.Places.{right_at}
use Rattle.judge_conditions.proofs.Compared.{bits_same}
use Rattle.judge_paths.specs.PathByPlaces.{column_held}
use Rattle.judge_paths.proofs.path.Held.column_holds.Goals as goal

pub returns : goal.returns
unfolding column_held right_at
returns c =
    let entry = c.i32_at-entry in
    let passed = back {z = entry.result} (omega (arith, entry.ensures.1)) in
    let next : to_z w64 c.args.self.next ≡ pos c.args.self.next = to_z_pos w64 (omega arith) in
    ap₂ (λ x y. x && y)
    (bits_same {a = c.now.result} {b = c.minus.result} (sfits_of c.now.type_inv) (sfits_of c.minus.type_inv)
    ∙ ap₂ same_z c.now.ensures.0 (rw (passed, entry.ensures.0) at c.minus.ensures.0))
    (bits_same {a = c.next.result} {b = c.times.result} (sfits_of c.next.type_inv) (sfits_of c.times.type_inv)
    ∙ ap₂ same_z c.next.ensures.0 (rw (passed, next, entry.ensures.0) at c.times.ensures.0))
