-- The laws of `written`: a writer that puts one text after another, or one byte before another, leaves what one writing of the whole would.
-- Rooms, places and texts are explicit, for they stand under functions that compute. Assumes nothing.
use Prim.Native.Nat.{ℕ, suc, ◌+◌, ◌/◌, ◌%◌, ◌≤◌, ◌<◌}
use mathlib.Core.Path.{◌≡◌, sym, ◌∙◌}
use mathlib.Core.List.{List, [], ◌∷◌, ◌++◌, append_assoc}
use native.Mathlib.Nat.{add-zero, zero-add, add_assoc}
use native.Mathlib.Numerals.{add-one}
use native.Mathlib.Omega.{arith}
use lib.ListN.{length, take, drop, set, length-append, length-drop, take-append-drop}
use lib.Seq.{length-take-le, take_at, drop_at, drop-drop, set_split, take-set-le}
use Rattle.decimal.specs.Decimals.{decimal}
use Rattle.decimal.specs.Rooms.{written, Puts}
use Rattle.decimal.proofs.DecimalLaws.{length_small, length_more, decimal_some, decimal_room, decimal_small, decimal_more, length_below, signed_below, signed_above}

pub length_written : (room : List ℕ) (place : ℕ) (text : List ℕ) → place + length text ≤ length room → length (written room place text) ≡ length room
unfolding written
length_written room place text fits =
    let before : place ≤ length room = omega arith in
    simp (length-append, length-drop, length-take-le place room before) (omega arith)

-- no text changes nothing
pub written_none : (room : List ℕ) (place : ℕ) → written room place [] ≡ room
unfolding written
written_none room place = rw (add-zero, take-append-drop)

-- at the front of the room
pub written_front : (room text : List ℕ) → written room 0 text ≡ text ++ drop (length text) room
unfolding written
written_front room text = rw zero-add

-- one text after another
pub written_on : (room : List ℕ) (place : ℕ) (first second : List ℕ) → place + length first ≤ length room
    → written (written room place first) (place + length first) second ≡ written room place (first ++ second)
unfolding written
written_on room place first second fits =
    let before : place ≤ length room = omega arith in
    let end : length (take place room ++ first) ≡ place + length first = simp (length-append, length-take-le place room before) in
    rw (← append_assoc (take place room) first (drop (place + length first) room), ← drop-drop (length second) (place + length first), take_at _ _ _ end, drop_at _ _ _ end, drop-drop, append_assoc (take place room), append_assoc first, length-append, add_assoc)

pub puts_none : (room : List ℕ) (place : ℕ) → Puts room place [] place room
puts_none room place = record { end_is = omega arith; room_is = sym (written_none room place) }

pub puts_on : {room between after : List ℕ} {place middle end : ℕ} (first second : List ℕ) → place + length first ≤ length room
    → Puts room place first middle between → Puts between middle second end after → Puts room place (first ++ second) end after
puts_on {room} {place = place} first second fits one two =
    record {
      end_is = simp length-append (omega (arith, one.end_is, two.end_is));
      room_is = two.room_is ∙ rw (one.room_is, one.end_is) (written_on room place first second fits);
    }

-- a store is a text of one byte
pub written_byte : (room : List ℕ) (place : ℕ) (b : ℕ) → place < length room → set room place b ≡ written room place (b ∷ [])
unfolding written
written_byte room place b here = rw (set_split, add-one)

-- the last byte of a text before the others
pub written_last : (room : List ℕ) (place : ℕ) (text : List ℕ) (b : ℕ) → place + length text < length room
    → written (set room (place + length text) b) place text ≡ written room place (text ++ (b ∷ []))
unfolding written
written_last room place text b here =
    let within : place ≤ place + length text = omega arith in
    let whole : place + length text ≤ length room = omega arith in
    let after : drop (place + length text) (set room (place + length text) b) ≡ b ∷ drop (suc (place + length text)) room
    = rw set_split (drop_at (take (place + length text) room) (b ∷ drop (suc (place + length text)) room) (place + length text) (length-take-le _ _ whole)) in
    let next : place + length (text ++ (b ∷ [])) ≡ suc (place + length text) = simp length-append (omega arith) in
    rw (take-set-le place room (place + length text) b within, after, next, append_assoc)

-- the last digit of a number before those of its tenth
pub written_digit : (room : List ℕ) (place at x : ℕ) → 10 ≤ x → at ≡ place + length (decimal (x / 10)) → at < length room
    → written (set room at (48 + x % 10)) place (decimal (x / 10)) ≡ written room place (decimal x)
written_digit room place at x large is here =
    rw (is, decimal_more x large) (written_last room place (decimal (x / 10)) (48 + x % 10) (omega arith))

-- what the writers of numbers are proved by
pub ruleset number_writing = (length_small, length_more, decimal_some, decimal_room, decimal_small, length_below, signed_below, signed_above, length_written, written_byte, written_on, written_digit)
