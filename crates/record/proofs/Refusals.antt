-- A refusal changes nothing that was lent, and answers 0 but for its number and place.
use mathlib.Core.Path.{◌≡◌, refl}
use Prim.Native.Nat.{ℕ}
use mathlib.Core.List.{List}
use lib.IntN.{ℤ}
use Rattle.refusal.specs.Tests.{Told, done, refused, first}
use Rattle.record.specs.Readers as R
use Rattle.record.specs.Readers.{Reader, reading}
use Rattle.record.specs.Writers as W
use Rattle.record.specs.Writers.{Writer, writing}

pub refused_reading : (r : Reader) (lent : List ℤ) → ((R.reads r).number ≡ 0 → ⊥)
    → (R.reads r ≡ record { number = (R.reads r).number; place = (R.reads r).place; kind = 0; n = 0; m = 0; count = 0 }) × (R.fills r lent ≡ lent)
unfolding R.reads R.fills R.answer R.filled
refused_reading r lent told = by_told (first reading r) told
  where
    by_told : (t : Told) → ((R.answer t r).number ≡ 0 → ⊥)
        → (R.answer t r ≡ record { number = (R.answer t r).number; place = (R.answer t r).place; kind = 0; n = 0; m = 0; count = 0 }) × (R.filled t r lent ≡ lent)
    by_told done h = absurd (h refl)
    by_told (refused k p) h = (refl, refl)

pub refused_writing : (w : Writer) (room : List ℕ) → ((W.writes w).number ≡ 0 → ⊥)
    → (W.writes w ≡ record { number = (W.writes w).number; place = (W.writes w).place; written = 0 }) × (W.room_after w room ≡ room)
unfolding W.writes W.room_after W.answer W.filled
refused_writing w room told = by_told (first writing w) told
  where
    by_told : (t : Told) → ((W.answer t w).number ≡ 0 → ⊥)
        → (W.answer t w ≡ record { number = (W.answer t w).number; place = (W.answer t w).place; written = 0 }) × (W.filled t w room ≡ room)
    by_told done h = absurd (h refl)
    by_told (refused k p) h = (refl, refl)
