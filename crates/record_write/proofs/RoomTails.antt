-- A part of a room that was lent from a place on.
use mathlib.Core.Path.{◌≡◌, sym}
use Prim.Native.Nat.{ℕ, ◌+◌, ◌-◌, ◌≤◌}
use mathlib.Core.List.{List, append_assoc, append-nil}
use native.Mathlib.Omega.{arith}
use lib.ListN.{length, take, drop, length-drop, drop_of_length-le}
use lib.Seq.{sets, sets-eq, take_all, drop-drop}
use borrow.Rule.Slice.PartMut.{put_mid}
use Rattle.record_fields.proofs.Copies.{sets_front}

-- the part from a place on, written from its front, is the room written from that place
pub tail_sets : (room : List ℕ) (place : ℕ) (bytes : List ℕ) {part : List ℕ} → place + length bytes ≤ length room
    → part ≡ sets (take (length room - place) (drop place room)) 0 bytes → put_mid place (length room - place) room part ≡ sets room place bytes
tail_sets room place bytes fits written =
    let tail = drop place room in
    let long : length tail ≤ length room - place = rw length-drop (omega arith) in
    let enough : length bytes ≤ length tail = rw length-drop (omega arith) in
    rw (written, take_all (length room - place) tail long, sets_front tail bytes enough, drop_of_length-le tail long, append-nil, drop-drop, ← append_assoc)
    (sym (sets-eq bytes room place fits))
