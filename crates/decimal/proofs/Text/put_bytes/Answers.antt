-- `Text::put_bytes` meets its contract: the part of the room from the place on is the word afterwards.
use Rattle.std.proofs.Common.{◌≡◌, ◌+◌, ◌-◌, refl, arith, length}
use lib.Seq.{drop-drop}
use Rattle.decimal.specs.Rooms.{written}
use Rattle.decimal.proofs.Text.put_bytes.Goals as goal

pub returns : goal.returns
unfolding written
returns c =
    let text = c.args.self.now in
    let word = c.args.word.now in
    let size : text.at + length word - text.at ≡ length word = omega arith in
    record {
      same_room = refl;
      puts = record { end_is = refl; room_is = rw (c.copy_from_slice.ensures.after, size, drop-drop (length word) text.at text.room.now) refl };
    }
