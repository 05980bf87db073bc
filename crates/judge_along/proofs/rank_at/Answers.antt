-- `judge_along::rank_at` meets its contract.
use Rattle.std.proofs.Common.{ℕ, pos, ◌*ℤ◌, length, get_or, List, sym, ◌∙◌, ◌≡◌, refl, arith, rules, length-append}
use lib.IntN.{ℤ}
use Rattle.std.proofs.lemmas.Slice.Zip.{zip_turn, zip_end}
use Rattle.whole.proofs.Tables.{dot_total}
use Rattle.judge_sums.proofs.RunningLaws.{sum_none, sum_more, may_add, added}
use Rattle.judge_along.specs.AlongRows.{most_rank}
use Rattle.judge_along.proofs.rank_at.Goals as goal

abbrev term : List ℤ → List ℤ → ℕ → ℤ
term rank state j = get_or rank j (pos 0) *ℤ get_or state j (pos 0)

pub loop-r-init : goal.loop-r-init
loop-r-init c = sum_none most_rank (term c.args.rank.now c.args.state.entries.now) c.new-total.ensures

pub plus-total-requires : goal.plus-total-requires
plus-total-requires c =
    let rank = c.args.rank.now in
    let state = c.args.state.entries.now in
    let j = length c.loop-r.yielded in
    let turn =
    zip_turn rank state c.loop-r.yielded c.into_iter-r-iterator.result c.loop-r.r-iterator c.next.new.self c.next.result (search rules) (search rules) c.loop-r.yielded_by
    (c.in-Some.r, c.in-Some.x) c.in-Some.is c.next.ensures.steps in
    rw (turn.2 (pos 0), turn.3 (pos 0))
    (may_add (get_or rank j (pos 0)) (get_or state j (pos 0)) 274877906944 1048576 (c.requires.2 j) (c.args.state.small j) (omega arith) c.loop-r.total.sum
    (omega (arith, c.loop-r.invariant.small, turn.0)))

pub loop-r-preserved : goal.loop-r-preserved
loop-r-preserved c =
    let rank = c.args.rank.now in
    let state = c.args.state.entries.now in
    let j = length c.loop-r.yielded in
    let turn =
    zip_turn rank state c.loop-r.yielded c.into_iter-r-iterator.result c.loop-r.r-iterator c.next.new.self c.next.result (search rules) (search rules) c.loop-r.yielded_by
    (c.in-Some.r, c.in-Some.x) c.in-Some.is c.next.ensures.steps in
    rw length-append
    (sum_more most_rank (term rank state) j c.loop-r.invariant
    (added (get_or rank j (pos 0)) (get_or state j (pos 0)) 274877906944 1048576 (c.requires.2 j) (c.args.state.small j) (omega arith) refl refl
    (rw (turn.2 (pos 0), turn.3 (pos 0)) at c.plus-total.ensures)))

pub returns : goal.returns
returns c =
    let rank = c.args.rank.now in
    let state = c.args.state.entries.now in
    let last =
    zip_end rank state c.loop-r.yielded c.into_iter-r-iterator.result c.loop-r.r-iterator c.next.new.self c.next.result (search rules) (search rules) c.loop-r.yielded_by
    c.in-None.is c.next.ensures.steps in
    let end : length c.loop-r.yielded ≡ length rank = omega (arith, last) in
    let sum = rw end at c.loop-r.invariant in
    (sum.is ∙ sym (dot_total (length rank) rank state (omega arith)), sum.small)
