-- `judge_paths::Path::own_holds` meets its contract: δ0 and δ stand after r, and lists 0 and 1 of the path are those of its own component.
use Rattle.std.proofs.Common.{ℕ, ℤ, ◌≡◌, ◌+◌, ◌*◌, to_z, of_z, w64, arith}
use Rattle.std.proofs.Common.{List}
use mir.Facts.{to_z-of_z}
use borrow.Author.Rules.{sfits_of}
use Rattle.whole.proofs.Size.{back}
use Rattle.theory_paths.specs.PathConditions.{weighs}
use Rattle.judge_sums.specs.Places.{right_at}
use Rattle.judge_paths.specs.PathByPlaces.{weighted_by, bounded_by, falling_by}
use Rattle.judge_paths.specs.PathHeld.{own_place}
use Rattle.judge_paths.proofs.path.Path.own_holds.Goals as goal

pub returns : goal.returns
unfolding bounded_by falling_by right_at
returns c =
    let path = c.args.self in
    let rows = path.rows in
    let weighs_by = λ (bytes : List ℕ) (place next : ℕ) (limit : ℤ). weighs rows.n (weighted_by rows.bytes.now rows.start rows.n rows.count bytes place (own_place path) next limit) in
    let bounded : c.weigh_two.result.0 ≡ weighs_by c.list.result.bytes.now c.list.result.place 0 (to_z w64 (of_z w64 c.minus.result)) = c.weigh_two.ensures.0 in
    let ranking : c.weigh_two.result.1 ≡ weighs_by c.list-2.result.bytes.now c.list-2.result.place 1 (to_z w64 (of_z w64 c.minus-2.result)) = c.weigh_two.ensures.1 in
    let start = back {z = c.i32_at-start.result} (omega (arith, c.i32_at-start.ensures.1)) in
    let fall = back {z = c.i32_at-fall.result} (omega (arith, c.i32_at-fall.ensures.1)) in
    let first : path.place + 2 * rows.count * 0 ≡ path.place = omega arith in
    let second : path.place + 2 * rows.count * 1 ≡ path.place + 2 * rows.count = omega arith in (
      rw (c.list.ensures.0, c.list.ensures.1, first, to_z-of_z {w = w64} {z = c.minus.result} (sfits_of c.minus.type_inv), c.minus.ensures.0, start, c.i32_at-start.ensures.0) at bounded,
      rw (c.list-2.ensures.0, c.list-2.ensures.1, second, to_z-of_z {w = w64} {z = c.minus-2.result} (sfits_of c.minus-2.type_inv), c.minus-2.ensures.0, fall, c.i32_at-fall.ensures.0) at ranking,
    )
