-- A room that is written from its first byte on, part after part, and a part of it that is filled with zeros.
use mathlib.Core.Path.{◌≡◌, sym, ap, ◌∙◌}
use Prim.Native.Nat.{ℕ, ◌+◌, ◌-◌, ◌≤◌}
use mathlib.Core.List.{List, ◌++◌, append_assoc}
use native.Mathlib.Omega.{arith}
use lib.ListN.{length, take, drop, replicate, length-append, length-drop}
use lib.Seq.{length-take-le, take_at, drop_at, drop-drop}

-- ---- part after part

module _ (room : List ℕ) where
  -- the room begins with some bytes, and is as it was past them
  abbrev pub Begun : List ℕ → List ℕ → Type 0
  Begun front now = now ≡ front ++ drop (length front) room

  pub begun_more : (front bs now : List ℕ) {then : List ℕ} (at wide : ℕ) → Begun front now → length front ≡ at → length bs ≡ wide
      → then ≡ take at now ++ bs ++ drop (at + wide) now → Begun (front ++ bs) then
  begun_more front bs now at wide here before long put =
      let past : drop (at + wide) (front ++ drop (length front) room) ≡ drop (length (front ++ bs)) room
      = sym (drop-drop wide at (front ++ drop (length front) room)) ∙ ap (drop wide) (drop_at front (drop (length front) room) at before)
      ∙ drop-drop wide (length front) room ∙ rw (length-append, long) in
      put ∙ rw (here, take_at front (drop (length front) room) at before, past)

-- ---- zeros

pub zeros_put : (room zeros : List ℕ) (place count : ℕ) → place + count ≤ length room
    → zeros ≡ replicate (length (take (place + count - place) (drop place room))) 0
    → take place room ++ (zeros ++ drop (place + count - place) (drop place room)) ≡ take place room ++ replicate count 0 ++ drop (place + count) room
zeros_put room zeros place count fits filled =
    let wide : place + count - place ≡ count = omega arith in
    let long : length (take count (drop place room)) ≡ count = length-take-le count (drop place room) (omega (arith, length-drop place room)) in
    rw (filled, wide, long, drop-drop) (sym (append_assoc (take place room) (replicate count 0) (drop (place + count) room)))
