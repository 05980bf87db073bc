-- What the tests of a ranking's conditions tell, and what is shown where all hold: start, fall, and the rank in the front of a list.
use Rattle.std.specs.Prelude.{Result, ℕ, ◌+◌, ◌<◌, ◌≡◌, Bool, cond, List, ◌++◌, eqb, ℤ, pos, ◌+ℤ◌, ◌-ℤ◌, length, get_or, drop}
use Rattle.std.specs.Int.Signed.{lt_z}
use Rattle.refusal.specs.Tests.{Told, done, refused, ◌then◌}
use Rattle.refusal.specs.Places.{told_each, told_once}
use Rattle.refusal.specs.Faults.{result_of}
use Rattle.refusal.specs.declared.Fault.{Fault}
use Rattle.theory.specs.Conditions.{ranking_told}
use Rattle.theory.specs.Loops.{A, A', Loop}
use Rattle.theory.specs.Rankings.{Ranking, rank, start, fall}
use Rattle.whole.specs.Same.{same_z}
use Rattle.whole.specs.Sums.{sum}
use Rattle.judge_ranking.specs.declared.Ranked.{Ranked}

-- ---- out of lists of lifted totals: n over A and then n over A', under Y and under Z

-- total j over A, and over A'
abbrev pub now_in_sums : List ℤ → ℤ → ℕ → ℤ
now_in_sums sums lift j = get_or sums j (pos 0) -ℤ lift

abbrev pub next_in_sums : List ℤ → ℤ → ℕ → ℕ → ℤ
next_in_sums sums lift n j = get_or sums (n + j) (pos 0) -ℤ lift

-- the condition of a number at column j: 21 is YA' = 0, 22 is (Y - Z)A = 0, 23 is Z(A + A') = 0
unfoldable pub holds_at : ℕ → List ℤ → ℤ → List ℤ → ℤ → ℕ → ℕ → Bool
holds_at number ys ylift zs zlift n j =
    cond (eqb number 21) (same_z (next_in_sums ys ylift n j) (pos 0))
    (cond (eqb number 22) (same_z (now_in_sums ys ylift j) (now_in_sums zs zlift j))
    (same_z (now_in_sums zs zlift j +ℤ next_in_sums zs zlift n j) (pos 0)))

-- what is told of one of them, and of all three
unfoldable pub column_told : ℕ → List ℤ → ℤ → List ℤ → ℤ → ℕ → Told
column_told number ys ylift zs zlift n = told_each number n (holds_at number ys ylift zs zlift n)

unfoldable pub columns_told : List ℤ → ℤ → List ℤ → ℤ → ℕ → Told
columns_told ys ylift zs zlift n =
    column_told 21 ys ylift zs zlift n then column_told 22 ys ylift zs zlift n then column_told 23 ys ylift zs zlift n

-- and of the fourth: Zb < 0
unfoldable pub totals_told : List ℤ → ℤ → List ℤ → ℤ → ℕ → ℤ → Told
totals_told ys ylift zs zlift n zb = columns_told ys ylift zs zlift n then told_once 24 (lt_z zb (pos 0))

-- those totals are the sums of a loop and a ranking
abbrev pub Totalled : List ℤ → ℤ → List ℤ → ℤ → Loop → Ranking → Type 0
Totalled ys ylift zs zlift loop c =
    (j : ℕ) → j < loop.variables
    → (now_in_sums ys ylift j ≡ sum c.Y (A j) loop.rows)
    × (next_in_sums ys ylift loop.variables j ≡ sum c.Y (A' j) loop.rows)
    × (now_in_sums zs zlift j ≡ sum c.Z (A j) loop.rows)
    × (next_in_sums zs zlift loop.variables j ≡ sum c.Z (A' j) loop.rows)

-- ---- what is shown

-- from what is told: start and fall where nothing is
abbrev pub ranked_of : Told → ℤ → ℤ → Result Ranked Fault
ranked_of told start fall = result_of told (record { start = start; fall = fall })

-- and the rank in the front of a list, which stays otherwise
unfoldable pub rank_put : Told → List ℤ → List ℤ → List ℤ
rank_put done r lent = r ++ drop (length r) lent
rank_put (refused k p) r lent = lent

-- of a ranking of a loop, with what is told of it or of the certificate that holds it
pub record RankedBy (r : Result Ranked Fault) (told : Told) (loop : Loop) (c : Ranking) (before after : List ℤ) : Type 0 where
  pub shown : r ≡ ranked_of told (start loop c) (fall loop c)
  pub put : after ≡ rank_put told (rank loop c) before

-- of the ranking's own conditions
abbrev pub RankingBy : Result Ranked Fault → Loop → Ranking → List ℤ → List ℤ → Type 0
RankingBy r loop c before after = RankedBy r (ranking_told loop c) loop c before after
