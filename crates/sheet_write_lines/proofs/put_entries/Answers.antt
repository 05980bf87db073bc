-- `sheet_write_lines::put_entries` meets its contract: each turn writes the first of the entries that are still to come.
use Rattle.std.proofs.Common.{◌≡◌, ℕ, ◌+◌, ◌<◌, ◌≤◌, List, [], ◌∷◌, ◌++◌, rules, add-one, length, drop, get_or, drop-cons}
use lib.IntN.{ℤ, pos}
use lib.ListN.{drop_of_length-le}
use mir.Syntax.{w64}
use mir.Val.{SFits}
use mir.Facts.{to_z-of_z}
use Rattle.decimal.specs.Decimals.{signed_decimal}
use Rattle.decimal.proofs.TextLaws.{room_first, so_far_none, so_far_more, so_far_all}
use Rattle.sheet_lines.specs.Words.{bytes, run}
use Rattle.sheet_lines.proofs.LineLaws.{entries}
use Rattle.sheet_write_lines.proofs.put_entries.Goals as goal

entries_first : (r : List ℤ) (i : ℕ) → i < length r → entries (drop i r) ≡ (signed_decimal (get_or r i (pos 0)) ++ (32 ∷ [])) ++ entries (drop (i + 1) r)
unfolding run bytes
entries_first r i there = rw (add-one, drop-cons r i (pos 0))

entries_end : (r : List ℤ) (i : ℕ) → length r ≤ i → entries (drop i r) ≡ []
unfolding run
entries_end r i past = rw (drop_of_length-le r {i = i} past)

pub loop-z-init : goal.loop-z-init
loop-z-init c = so_far_none c.requires

pub put_whole-requires : goal.put_whole-requires
put_whole-requires c =
    let l = c.loop-z in
    let fits : SFits w64 (get_or c.args.rank.now l.z-index (pos 0)) = search rules in
    rw (to_z-of_z fits) (room_first _ _ (rw (entries_first c.args.rank.now l.z-index (search rules)) at l.invariant.room))

pub loop-z-preserved : goal.loop-z-preserved
loop-z-preserved c =
    let l = c.loop-z in
    let fits : SFits w64 (get_or c.args.rank.now l.z-index (pos 0)) = search rules in
    so_far_more _ _ (rw (entries_first c.args.rank.now l.z-index (search rules)) at l.invariant) (rw (to_z-of_z fits) at c.put_whole.ensures)

pub returns : goal.returns
returns c = so_far_all (rw (entries_end c.args.rank.now c.loop-z.z-index (search rules)) at c.loop-z.invariant)
