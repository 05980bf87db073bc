-- The edges of moving rankings to kind 7 and back, proved by computing them: a sample both ways with its bytes written out, and each refusal
-- number with its place, both ends of each range and one past each end, and for neighbours in the order a record that has both faults.
use mathlib.Core.Path.{◌≡◌, refl}
use Prim.Native.Nat.{ℕ, zero, suc, ◌+◌}
use mathlib.Core.Bool.{true, false, ◌&&◌}
use mathlib.Core.List.{List, [], ◌∷◌, ◌++◌}
use lib.Dec.{eqb}
use lib.ListN.{length, replicate, take}
use Rattle.refusal.specs.Tests.{Told, number, place, first}
use Rattle.record.specs.Samples as Samples
use Rattle.record.proofs.EdgeInputs.{two, four, filed}
use Rattle.record_short.specs.Conversions.{ranking_given, shortening, lengthening, shortens, shortened_room, lengthens, lengthened_room}
use Rattle.record_short.specs.Conversions.{short_bytes}
use Rattle.record_short.specs.ShortComputing.{computing}
use Rattle.record_short.specs.ShortRecords.{long_bytes}

-- ---- a sample: Y (1,0,0), Z (0,1,1), so all three rows have weight

unfoldable pub S1-short : List ℕ
S1-short = 22 ∷ 0 ∷ 0 ∷ 0 ∷ 7 ∷ 0 ∷ 3 ∷ 0 ∷ 0 ∷ 0 ∷ 1 ∷ 0 ∷ 0 ∷ 0 ∷ 1 ∷ 0 ∷ 0 ∷ 0 ∷ 1 ∷ 0 ∷ 2 ∷ 0 ∷ 0 ∷ 0 ∷ 1 ∷ 0 ∷ []

-- the room is longer than the record, and its bytes past it stay
pub lengthens_S1 : lengthened_room S1-short 2 3 (replicate 20 9) ≡ (Samples.S1).bytes ++ (9 ∷ 9 ∷ [])
unfolding computing S1-short Samples.S1
lengthens_S1 = refl

pub told_of_S1 : lengthens S1-short 2 3 (replicate 20 9) ≡ record { number = 0; place = 0; written = 18 }
unfolding computing S1-short
told_of_S1 = refl

pub shortens_S1 : shortened_room (Samples.S1).bytes 2 3 (replicate 27 9) ≡ S1-short ++ (9 ∷ [])
unfolding computing S1-short Samples.S1
shortens_S1 = refl

pub told_of_short_S1 : shortens (Samples.S1).bytes 2 3 (replicate 27 9) ≡ record { number = 0; place = 0; written = 26 }
unfolding computing Samples.S1
told_of_short_S1 = refl

-- rows 1 and 4 of five have weight, and no two numbers are alike: no two fields can be exchanged unseen
unfoldable pub two_of_five : List ℕ
two_of_five = 16 ∷ 0 ∷ 0 ∷ 0 ∷ 7 ∷ 0 ∷ 2 ∷ 0 ∷ 1 ∷ 0 ∷ 0 ∷ 0 ∷ 44 ∷ 1 ∷ 4 ∷ 0 ∷ 5 ∷ 0 ∷ 6 ∷ 0 ∷ []

unfoldable pub five_rows : List ℕ
five_rows = 22 ∷ 0 ∷ 0 ∷ 0 ∷ 2 ∷ 0 ∷ 0 ∷ 0 ∷ 0 ∷ 0 ∷ 0 ∷ 0 ∷ 0 ∷ 0 ∷ 5 ∷ 0 ∷ 0 ∷ 0 ∷ 44 ∷ 1 ∷ 0 ∷ 0 ∷ 0 ∷ 0 ∷ 6 ∷ 0 ∷ []

pub lengthens_two_of_five : long_bytes 1 5 two_of_five ≡ five_rows
unfolding computing two_of_five five_rows
lengthens_two_of_five = refl

pub shortens_five_rows : short_bytes 5 five_rows ≡ two_of_five
unfolding computing two_of_five five_rows
shortens_five_rows = refl

-- a ranking of zeros only has no triples
pub shortens_zeros : short_bytes 2 (10 ∷ 0 ∷ 0 ∷ 0 ∷ 2 ∷ 0 ∷ replicate 8 0) ≡ 4 ∷ 0 ∷ 0 ∷ 0 ∷ 7 ∷ 0 ∷ 0 ∷ 0 ∷ []
unfolding computing
shortens_zeros = refl

pub lengthens_none : long_bytes 1 2 (4 ∷ 0 ∷ 0 ∷ 0 ∷ 7 ∷ 0 ∷ 0 ∷ 0 ∷ []) ≡ 10 ∷ 0 ∷ 0 ∷ 0 ∷ 2 ∷ 0 ∷ replicate 8 0
unfolding computing
lengthens_none = refl

-- ---- lines: a call, and the number and place that it tells

pub data Call : Type 0 where
  -- bytes, n, m, bytes of room
  shorten : List ℕ → ℕ → ℕ → ℕ → Call
  lengthen : List ℕ → ℕ → ℕ → ℕ → Call

unfoldable pub tells : Call → Told
tells (shorten bytes n m room) = first shortening (ranking_given bytes n m room)
tells (lengthen bytes n m room) = first (lengthening n m) (ranking_given bytes n m room)

infix 2 ◌gives◌at◌
pub data Edge : Type 0 where
  ◌gives◌at◌ : Call → ℕ → ℕ → Edge

-- the lines of a table that do not hold
unfoldable pub wrong : List Edge → List Edge
wrong [] = []
wrong ((call gives k at p) ∷ es) =
    elim (eqb (number (tells call)) k && eqb (place (tells call)) p) [ true ↦ wrong es | false ↦ (call gives k at p) ∷ wrong es ]

-- ---- bytes by hand

unfoldable pub triple : ℕ → ℕ → ℕ → List ℕ
triple row y z = two row ++ (two y ++ two z)

-- a count and what follows it, in a record whose L is right for its bytes
unfoldable pub short : ℕ → List ℕ → List ℕ
short count body = filed (4 + length body) 7 (two count ++ body)

-- triples of rows i, i + 1, ..
unfoldable pub run : ℕ → ℕ → List ℕ
run i zero = []
run i (suc count) = triple i 1 0 ++ run (i + 1) count

-- a ranking with some multipliers, m of Y and m of Z
unfoldable pub ranking : List ℕ → List ℕ
ranking body = filed (2 + length body) 2 body

-- ---- kind 7 to kind 2

unfoldable pub longer : List Edge
longer =
    (lengthen [] 2 3 18 gives 1 at 0)
    ∷ (lengthen (1 ∷ 0 ∷ 0 ∷ 0 ∷ []) 2 3 18 gives 3 at 0)
    ∷ (lengthen (take 25 S1-short) 2 3 18 gives 1 at 25)
    ∷ (lengthen (S1-short ++ (0 ∷ [])) 2 3 18 gives 2 at 26)
    ∷ (lengthen S1-short 2 3 18 gives 0 at 0)
    -- the kind, behind L and before n and m
    ∷ (lengthen (filed 2 2 (0 ∷ [])) 2 3 18 gives 2 at 6)
    ∷ (lengthen (Samples.S1).bytes 2 3 18 gives 4 at 4)
    ∷ (lengthen (Samples.S1).bytes 0 3 18 gives 4 at 4)
    ∷ (lengthen (filed 2 263 []) 2 3 18 gives 4 at 4)
    -- n and m, before the count
    ∷ (lengthen (filed 2 7 []) 0 3 18 gives 5 at 0)
    ∷ (lengthen S1-short 0 3 18 gives 5 at 0)
    ∷ (lengthen S1-short 1 3 18 gives 0 at 0)
    ∷ (lengthen S1-short 16 3 18 gives 0 at 0)
    ∷ (lengthen S1-short 17 3 18 gives 5 at 0)
    ∷ (lengthen (short 0 []) 1 0 6 gives 0 at 0)
    ∷ (lengthen S1-short 2 64 262 gives 0 at 0)
    ∷ (lengthen S1-short 2 65 266 gives 5 at 0)
    -- room for the count
    ∷ (lengthen (filed 2 7 []) 2 3 18 gives 3 at 0)
    ∷ (lengthen (filed 3 7 (65 ∷ [])) 2 3 18 gives 3 at 0)
    ∷ (lengthen (filed 4 7 (two 0)) 2 3 18 gives 0 at 0)
    -- the count, before the formula
    ∷ (lengthen (short 64 (run 0 64)) 1 64 262 gives 0 at 0)
    ∷ (lengthen (short 65 (run 0 65)) 1 64 262 gives 5 at 6)
    ∷ (lengthen (short 65 []) 1 64 262 gives 5 at 6)
    ∷ (lengthen (short 256 []) 1 64 262 gives 5 at 6)
    -- the formula, before the triples
    ∷ (lengthen (short 1 (0 ∷ 0 ∷ 1 ∷ 0 ∷ 0 ∷ [])) 2 3 18 gives 3 at 0)
    ∷ (lengthen (short 1 (triple 0 1 0)) 2 3 18 gives 0 at 0)
    ∷ (lengthen (short 1 (triple 3 0 0 ++ (0 ∷ []))) 2 3 18 gives 3 at 0)
    ∷ (lengthen (short 0 (0 ∷ [])) 2 3 18 gives 3 at 0)
    -- a row below m
    ∷ (lengthen (short 1 (triple 2 1 0)) 2 3 18 gives 0 at 0)
    ∷ (lengthen (short 1 (triple 3 1 0)) 2 3 18 gives 15 at 8)
    ∷ (lengthen (short 1 (triple 256 1 0)) 2 3 18 gives 15 at 8)
    ∷ (lengthen (short 1 (triple 0 1 0)) 1 0 6 gives 15 at 8)
    ∷ (lengthen (short 3 (triple 0 1 0 ++ (triple 1 1 0 ++ triple 3 1 0))) 2 3 18 gives 15 at 20)
    -- and above the row before
    ∷ (lengthen (short 2 (triple 0 1 0 ++ triple 1 1 0)) 2 3 18 gives 0 at 0)
    ∷ (lengthen (short 2 (triple 1 1 0 ++ triple 1 1 0)) 2 3 18 gives 15 at 14)
    ∷ (lengthen (short 2 (triple 1 1 0 ++ triple 0 1 0)) 2 3 18 gives 15 at 14)
    ∷ (lengthen (short 3 (triple 0 1 0 ++ (triple 2 1 0 ++ triple 1 1 0))) 2 3 18 gives 15 at 20)
    ∷ (lengthen (short 4 (run 0 4)) 2 3 18 gives 15 at 26)
    -- weight
    ∷ (lengthen (short 1 (triple 0 0 1)) 2 3 18 gives 0 at 0)
    ∷ (lengthen (short 1 (triple 0 0 0)) 2 3 18 gives 16 at 8)
    ∷ (lengthen (short 3 (triple 0 1 0 ++ (triple 1 0 1 ++ triple 2 0 0))) 2 3 18 gives 16 at 20)
    -- both in one triple, and in two
    ∷ (lengthen (short 1 (triple 3 0 0)) 2 3 18 gives 15 at 8)
    ∷ (lengthen (short 2 (triple 0 1 0 ++ triple 0 0 0)) 2 3 18 gives 15 at 14)
    ∷ (lengthen (short 2 (triple 0 0 0 ++ triple 3 1 0)) 2 3 18 gives 16 at 8)
    ∷ (lengthen (short 2 (triple 3 1 0 ++ triple 4 0 0)) 2 3 18 gives 15 at 8)
    -- multipliers, once all triples have passed
    ∷ (lengthen (short 1 (triple 0 60000 60000)) 2 3 18 gives 0 at 0)
    ∷ (lengthen (short 1 (triple 0 60001 60001)) 2 3 18 gives 6 at 10)
    ∷ (lengthen (short 1 (triple 0 0 60001)) 2 3 18 gives 6 at 12)
    ∷ (lengthen (short 2 (triple 0 1 0 ++ triple 1 60001 0)) 2 3 18 gives 6 at 16)
    ∷ (lengthen (short 2 (triple 0 0 65535 ++ triple 1 60001 0)) 2 3 18 gives 6 at 12)
    ∷ (lengthen (short 2 (triple 0 60001 0 ++ triple 1 0 0)) 2 3 18 gives 16 at 14)
    ∷ (lengthen (short 2 (triple 0 60001 0 ++ triple 0 1 0)) 2 3 18 gives 15 at 14)
    -- room
    ∷ (lengthen S1-short 2 3 17 gives 7 at 18)
    ∷ (lengthen (short 0 []) 1 0 5 gives 7 at 6)
    ∷ (lengthen (short 1 (triple 0 60001 0)) 2 3 0 gives 6 at 10)
    ∷ []

-- ---- kind 2 to kind 7

unfoldable pub shorter : List Edge
shorter =
    (shorten [] 2 3 26 gives 1 at 0)
    ∷ (shorten (take 17 (Samples.S1).bytes) 2 3 26 gives 1 at 17)
    ∷ (shorten ((Samples.S1).bytes ++ (0 ∷ [])) 2 3 26 gives 2 at 18)
    ∷ (shorten (Samples.S1).bytes 2 3 26 gives 0 at 0)
    -- the kind, before n and m
    ∷ (shorten S1-short 2 3 26 gives 4 at 4)
    ∷ (shorten (Samples.S7).bytes 1 3 26 gives 4 at 4)
    ∷ (shorten (Samples.S10).bytes 2 3 26 gives 4 at 4)
    ∷ (shorten S1-short 0 3 26 gives 4 at 4)
    -- n and m, before the formula
    ∷ (shorten (Samples.S1).bytes 0 4 26 gives 5 at 0)
    ∷ (shorten (Samples.S1).bytes 1 3 26 gives 0 at 0)
    ∷ (shorten (Samples.S1).bytes 16 3 26 gives 0 at 0)
    ∷ (shorten (Samples.S1).bytes 17 3 26 gives 5 at 0)
    ∷ (shorten (ranking []) 1 0 8 gives 0 at 0)
    ∷ (shorten (ranking (replicate 256 0)) 1 64 8 gives 0 at 0)
    ∷ (shorten (ranking (replicate 260 0)) 1 65 8 gives 5 at 0)
    -- the formula, before the multipliers
    ∷ (shorten (Samples.S1).bytes 2 2 26 gives 3 at 0)
    ∷ (shorten (Samples.S1).bytes 2 4 26 gives 3 at 0)
    ∷ (shorten (ranking (two 60001 ++ (0 ∷ 0 ∷ 0 ∷ []))) 1 1 26 gives 3 at 0)
    -- multipliers, before the room
    ∷ (shorten (ranking (two 60000 ++ two 60000)) 1 1 14 gives 0 at 0)
    ∷ (shorten (ranking (two 60001 ++ two 60001)) 1 1 0 gives 6 at 6)
    ∷ (shorten (ranking (two 0 ++ two 60001)) 1 1 14 gives 6 at 8)
    -- room, by the rows that have weight
    ∷ (shorten (Samples.S1).bytes 2 3 25 gives 7 at 26)
    ∷ (shorten (ranking (two 0 ++ two 0)) 1 1 8 gives 0 at 0)
    ∷ (shorten (ranking (two 0 ++ two 0)) 1 1 7 gives 7 at 8)
    ∷ (shorten (ranking (two 0 ++ (two 0 ++ (two 0 ++ two 5)))) 1 2 13 gives 7 at 14)
    ∷ []

-- no line of the tables is wrong
pub every_edge : wrong (longer ++ shorter) ≡ []
unfolding
    computing number place tells wrong two four filed triple short run ranking longer shorter S1-short Samples.S1 Samples.S7 Samples.S10
every_edge = refl
