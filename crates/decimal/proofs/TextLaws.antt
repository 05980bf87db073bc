-- The laws of writers: where there is room for words one after another there is room for the first, and when they are put for the second; and what both put
-- is one text. Assumes nothing.
use Prim.Native.Nat.{ℕ}
use mathlib.Core.Path.{refl, ap, ◌∙◌}
use mathlib.Core.List.{List, [], ◌++◌}
use native.Mathlib.Omega.{arith}
use lib.ListN.{length, length-append}
use Rattle.decimal.specs.declared.Text.{Text}
use Rattle.decimal.specs.Texts.{HasRoom, Appends}
use Rattle.decimal.proofs.RoomLaws.{length_written, puts_none, puts_on}

pub appends_none : (a : Text) → Appends a [] a
appends_none a = record { same_room = refl; puts = puts_none a.room.now a.at }

module _ {a : Text} (x y : List ℕ) (room : HasRoom a (x ++ y)) where
  pub room_first : HasRoom a x
  room_first = record { fits = omega (arith, room.fits, length-append x y) }

  pub room_next : {b : Text} → Appends a x b → HasRoom b y
  room_next one =
      let kept = length_written a.room.now a.at x room_first.fits in
      record { fits = omega (arith, room.fits, length-append x y, one.puts.end_is, ap length one.puts.room_is, kept) }

  pub appends_on : {b c : Text} → Appends a x b → Appends b y c → Appends a (x ++ y) c
  appends_on one two = record { same_room = two.same_room ∙ one.same_room; puts = puts_on x y room_first.fits one.puts two.puts }

-- ---- words that are put one after another: there is room for those that are still to come, and with them all are put

pub record SoFar (start : Text) (all : List ℕ) (now : Text) (rest : List ℕ) : Type 0 where
  pub room : HasRoom now rest
  pub whole : (end : Text) → Appends now rest end → Appends start all end

pub so_far_none : {start : Text} {all : List ℕ} → HasRoom start all → SoFar start all start all
so_far_none room = record { room = room; whole = λ end put. put }

module _ {start now : Text} {all : List ℕ} where
  pub so_far_more : {next : Text} (part rest : List ℕ) → SoFar start all now (part ++ rest) → Appends now part next → SoFar start all next rest
  so_far_more part rest far put =
      record {
        room = room_next part rest far.room put;
        whole = λ end more. far.whole end (appends_on part rest far.room put more);
      }

  pub so_far_all : SoFar start all now [] → Appends start all now
  so_far_all far = far.whole now (appends_none now)
