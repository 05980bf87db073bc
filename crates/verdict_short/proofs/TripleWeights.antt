-- Triples that rise: there are no more of them than rows, and of a row it is the same to look for its triple from the first on or from the last.
use mathlib.Core.Path.{◌≡◌, refl, ◌∙◌}
use Prim.Native.Nat.{ℕ, zero, suc, ◌+◌, ◌≤◌, ◌<◌}
use mathlib.Core.Bool.{cond}
use mathlib.Core.List.{List, [], ◌∷◌}
use native.Mathlib.Omega.{arith}
use lib.Dec.{eqb}
use lib.ListN.{length, get_or}
use borrow.Author.Tests.{eqb-true, ne_eqb}
use Rattle.record_short.specs.ShortRecords.{weight_of}
use Rattle.refusal.proofs.TestLaws.{either}
use Rattle.whole.specs.Sums.{Each}
use Rattle.whole.proofs.EachLaws.{each_at, each_then}
use Rattle.verdict_short.specs.ShortValues.{Triple, TripleIn, Rising, TriplesIn, weight_at}

-- what stands past the last
abbrev pub no_triple : Triple
no_triple = record { row = 0; Y = 0; Z = 0 }

abbrev pub triple_of : List Triple → ℕ → Triple
triple_of ts k = get_or ts k no_triple

-- ---- how many

rows_between : (a m : ℕ) (ts : List Triple) → a ≤ m → Each (λ (t : Triple). a ≤ t.row) ts → Each (λ (t : Triple). t.row < m) ts → Rising ts
    → a + length ts ≤ m
unfolding Each Rising
rows_between a m [] few above below rise = omega arith
rows_between a m (t ∷ ts) few above below rise =
    let next : suc t.row ≤ m = omega (arith, below.0) in
    let later = each_then (λ (u : Triple). t.row < u.row) (λ (u : Triple). suc t.row ≤ u.row) ts (λ u h. omega arith) rise.0 in
    omega (arith, above.0, rows_between (suc t.row) m ts next later below.1 rise.1)

pub no_more_than_rows : (m : ℕ) (ts : List Triple) → TriplesIn m ts → length ts ≤ m
no_more_than_rows m ts h =
    omega (
      arith,
      rows_between 0 m ts (omega arith) (each_then (TripleIn m) (λ (t : Triple). 0 ≤ t.row) ts (λ t i. omega arith) h.each)
          (each_then (TripleIn m) (λ (t : Triple). t.row < m) ts (λ t i. i.below) h.each) h.rise,
    )

-- ---- neighbours

pub rising_next : (ts : List Triple) → Rising ts → (k : ℕ) → suc k < length ts → (triple_of ts k).row < (triple_of ts (suc k)).row
unfolding Rising
rising_next [] rise k below = absurd (omega arith)
rising_next (t ∷ ts) rise zero below = each_at (λ (u : Triple). t.row < u.row) ts 0 no_triple rise.0 (omega arith)
rising_next (t ∷ ts) rise (suc k) below = rising_next ts rise.1 k (omega arith)

-- ---- the triple with a row

-- the first comes off, where no other has its row
weight_first : (row w : ℕ → ℕ) (count i : ℕ) → ((k : ℕ) → k < count → row 0 < row (suc k))
    → weight_of row w (suc count) i ≡ cond (eqb (row 0) i) (w 0) (weight_of (λ k. row (suc k)) (λ k. w (suc k)) count i)
unfolding weight_of
weight_first row w zero i other = refl
weight_first row w (suc count) i other =
    let before = weight_first row w count i (λ k below. other k (omega arith)) in
    either (eqb (row 0) i)
    (λ e.
    let is : row 0 ≡ i = eqb-true (row 0) i e in
    let apart = ne_eqb (row (suc count)) i (λ same. omega (arith, other count (omega arith), is, same)) in
    rw apart (before ∙ rw e))
    (λ e. rw (before, e))

weight_none : (row w : ℕ → ℕ) (i : ℕ) → weight_of row w 0 i ≡ 0
unfolding weight_of
weight_none row w i = refl

pub weight_by_list : (w : Triple → ℕ) (ts : List Triple) → Rising ts → (i : ℕ)
    → weight_of (λ k. (triple_of ts k).row) (λ k. w (triple_of ts k)) (length ts) i ≡ weight_at w ts i
unfolding weight_at Rising
weight_by_list w [] rise i = weight_none _ _ i
weight_by_list w (t ∷ ts) rise i =
    weight_first (λ k. (triple_of (t ∷ ts) k).row) (λ k. w (triple_of (t ∷ ts) k)) (length ts) i
    (λ k below. each_at (λ (u : Triple). t.row < u.row) ts k no_triple rise.0 below)
    ∙ rw (weight_by_list w ts rise.1 i)
