-- The records that are written out by hand in specs/Samples.antt: the reader's definition gives their values and the writer's
-- gives their bytes. So a layout that is swapped in reader and writer alike does not pass. The lent list and the room are one
-- longer than needed, and what is past the end stays.
use mathlib.Core.Path.{◌≡◌, refl}
use Prim.Native.Nat.{ℕ, suc}
use mathlib.Core.Bool.{cond}
use mathlib.Core.List.{List, [], ◌∷◌, ◌++◌}
use lib.Dec.{eqb}
use lib.IntN.{ℤ, pos}
use lib.ListN.{length, replicate}
use Rattle.record.specs.Computing.{computing}
use Rattle.record.specs.Readers.{Reader, loop_reader, certificate_reader, reads, fills}
use Rattle.record.specs.Samples.{Sample, P, S1, S7, S10, unlike_loop, unlike_ranking, unlike_exclusion, unlike_lasso}
use Rattle.record.specs.Writers.{writer, writes, room_after}

-- a list that is lent to the reader, and a room that is lent to the writer, with what stands in them before
abbrev lent : Sample → List ℤ
lent s = replicate (suc (length s.values)) (pos 77)

abbrev room : Sample → List ℕ
room s = replicate (suc (length s.bytes)) 77

-- the reader for the sample's kind
abbrev reader : Sample → Reader
reader s = cond (eqb s.kind 1) (loop_reader s.bytes (lent s)) (certificate_reader s.bytes s.n s.m (lent s))

abbrev Reads : Sample → Type 0
Reads s =
    (reads (reader s) ≡ record { number = 0; place = 0; kind = s.kind; n = cond (eqb s.kind 1) s.n 0; m = cond (eqb s.kind 1) s.m 0; count = length s.values })
    × (fills (reader s) (lent s) ≡ s.values ++ (pos 77 ∷ []))

abbrev Writes : Sample → Type 0
Writes s =
    (writes (writer s.kind s.n s.m s.values (room s)) ≡ record { number = 0; place = 0; written = length s.bytes })
    × (room_after (writer s.kind s.n s.m s.values (room s)) (room s) ≡ s.bytes ++ (77 ∷ []))

-- every sample of a list is read and written
abbrev pub Each : List Sample → Type 0
Each [] = Unit {0}
Each (s ∷ ss) = Reads s × Writes s × Each ss

pub literal_bytes : Each (P ∷ S1 ∷ S7 ∷ S10 ∷ unlike_loop ∷ unlike_ranking ∷ unlike_exclusion ∷ unlike_lasso ∷ [])
unfolding computing P S1 S7 S10 unlike_loop unlike_ranking unlike_exclusion unlike_lasso
literal_bytes =
    ((refl, refl), (refl, refl), ((refl, refl), (refl, refl), ((refl, refl), (refl, refl), ((refl, refl), (refl, refl), ((refl, refl), (refl, refl), ((refl, refl), (refl, refl), ((refl, refl), (refl, refl), ((refl, refl), (refl, refl), tt))))))))
