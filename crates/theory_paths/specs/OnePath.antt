-- Loops of one path: what a ranking is as a lexicographic argument, and what such an argument is as a ranking. The earlier mathematics and
-- this one are held together by them.
use Rattle.std.specs.Prelude.{ℕ, ◌≡◌, List, [], ◌∷◌, pos, get_or, ◌≤ℤ◌}
use Rattle.refusal.specs.Places.{Throughout}
use Rattle.theory.specs.Loops.{Row, Loop, over}
use Rattle.theory.specs.Rankings.{Ranking, RankingHolds, rank, start, fall}
use Rattle.theory_paths.specs.Paths.{Branches}
use Rattle.theory_paths.specs.Lexicographics.{Lexicographic, part_at, own}

-- some rows as the only path
abbrev pub alone : ℕ → List Row → Branches
alone n rows = record { variables = n; paths = rows ∷ [] }

-- a ranking as the argument with one component
abbrev pub one_component : Loop → Ranking → Lexicographic
one_component loop c =
    record {
      components = record { r = rank loop c; δ0 = start loop c; δ = fall loop c } ∷ [];
      parts = record { component = 0; bounded = c.Y; ranking = c.Z; unaffecting = [] } ∷ [];
    }

-- the multipliers of the only path
abbrev pub as_ranking : Lexicographic → Ranking
as_ranking c = record { Y = (part_at c 0).bounded; Z = (part_at c 0).ranking }

-- they are a ranking, with the same rank, and with a start and a fall that are no lower
pub record AsRanking (n : ℕ) (rows : List Row) (c : Lexicographic) : Type 0 where
  pub conditions : RankingHolds (over n rows) (as_ranking c)
  pub same_rank : Throughout n (λ j. get_or (rank (over n rows) (as_ranking c)) j (pos 0) ≡ get_or (own c 0).r j (pos 0))
  pub start_no_lower : (own c 0).δ0 ≤ℤ start (over n rows) (as_ranking c)
  pub fall_no_lower : (own c 0).δ ≤ℤ fall (over n rows) (as_ranking c)
