-- Other loops and multipliers with the same ranking: rows without weight, and a common factor.
use Rattle.std.specs.Prelude.{ℕ, ◌≡◌, ◌↔◌, List, [], ◌∷◌, ℤ, pos, ◌*ℤ◌}
use Rattle.whole.specs.Sums.{scale}
use Rattle.theory.specs.Loops.{Row, Loop}
use Rattle.theory.specs.Rankings.{Ranking, RankingHolds, rank, start, fall}

-- the second rows, Y and Z are the first with rows put in anywhere, and zero multipliers at those places
pub data PutIn : List Row → List ℤ → List ℤ → List Row → List ℤ → List ℤ → Type 0 where
  none : PutIn [] [] [] [] [] []
  old : {rows rows' : List Row} {Y Z Y' Z' : List ℤ} (row : Row) (y z : ℤ) → PutIn rows Y Z rows' Y' Z'
      → PutIn (row ∷ rows) (y ∷ Y) (z ∷ Z) (row ∷ rows') (y ∷ Y') (z ∷ Z')
  new : {rows rows' : List Row} {Y Z Y' Z' : List ℤ} (row : Row) → PutIn rows Y Z rows' Y' Z'
      → PutIn rows Y Z (row ∷ rows') (pos 0 ∷ Y') (pos 0 ∷ Z')

-- every multiplier times k
abbrev pub times : ℕ → Ranking → Ranking
times k c = record { Y = scale (pos k) c.Y; Z = scale (pos k) c.Z }

-- the four conditions are equivalent, and the second's rank, start and fall are k times the first's
pub record Multiplied (k : ℕ) (loop : Loop) (c : Ranking) (loop' : Loop) (c' : Ranking) : Type 0 where
  pub conditions : RankingHolds loop c ↔ RankingHolds loop' c'
  pub same_rank : rank loop' c' ≡ scale (pos k) (rank loop c)
  pub same_start : start loop' c' ≡ pos k *ℤ start loop c
  pub same_fall : fall loop' c' ≡ pos k *ℤ fall loop c

-- the four conditions are equivalent, and rank, start and fall are equal
pub record Unchanged (loop : Loop) (c : Ranking) (loop' : Loop) (c' : Ranking) : Type 0 where
  pub conditions : RankingHolds loop c ↔ RankingHolds loop' c'
  pub same_rank : rank loop' c' ≡ rank loop c
  pub same_start : start loop' c' ≡ start loop c
  pub same_fall : fall loop' c' ≡ fall loop c
