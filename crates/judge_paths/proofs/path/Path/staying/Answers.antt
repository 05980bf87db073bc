-- `judge_paths::Path::staying` meets its contract: the list of the earlier component i is list 2 + i of the path.
use Rattle.std.proofs.Common.{◌≡◌, ◌+◌, ◌*◌, pos, refl, arith}
use Rattle.judge_paths.specs.PathByPlaces.{weighted_by, staying_by}
use Rattle.judge_paths.specs.PathHeld.{staying_of}
use Rattle.judge_paths.proofs.path.Path.staying.Goals as goal

pub returns : goal.returns
unfolding staying_by
returns c =
    let path = c.args.self in
    let rows = path.rows in
    let list = c.list in
    let place : path.place + 2 * rows.count * (2 + c.args.i) ≡ path.place + 4 * rows.count + 2 * rows.count * c.args.i = omega arith in
    let same : weighted_by rows.bytes.now rows.start rows.n rows.count list.result.bytes.now list.result.place (path.first + c.args.i * (4 * rows.n + 8)) 1 (pos 0) ≡ staying_of path c.args.i =
    rw (list.ensures.0, list.ensures.1, place)
    in
    (same, list.ensures.2, refl)
