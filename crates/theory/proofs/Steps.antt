-- One law of steps, on which every kind of certificate stands: rows with non-negative multipliers add up. And what follows for rows that
-- weigh as they are held to.
use Prim.Native.Nat.{ℕ, ◌<◌, zero-le}
use mathlib.Core.Path.{◌≡◌, sym}
use mathlib.Core.List.{List}
use native.Mathlib.Omega.{arith}
use lib.IntN.{ℤ, pos, ◌+ℤ◌, ◌*ℤ◌}
use lib.ListN.{length, get_or}
use lib.Signed.{◌≤ℤ◌}
use Rattle.whole.specs.Sums.{dot, sum, tabulate, Each, NonNeg}
use Rattle.whole.proofs.SumLaws.{sum_mono, sum_add, sum_scale}
use Rattle.whole.proofs.Tables.{exchange, dot_columns}
use Rattle.whole.proofs.Solve.{v, ◌⊕◌, solve_le, eq_fact, le_fact}
use Rattle.whole.proofs.Ring.{pos_mono, mul_mono}
use Rattle.theory.specs.Loops.{Row, A, A', b, Loop, over, Step}
use Rattle.theory.specs.WeightedRows.{Weighted, Weighs}

-- the sums over the rows, one for each column
abbrev pub columns : Loop → List ℤ → (ℕ → Row → ℤ) → List ℤ
columns loop ys f = tabulate loop.variables (λ j. sum ys (f j) loop.rows)

-- columns first is rows first
across : (loop : Loop) (ys : List ℤ) (f : Row → List ℤ) (X : List ℤ) → length X ≡ loop.variables
    → dot (columns loop ys (λ j row. get_or (f row) j (pos 0))) X ≡ sum ys (λ row. dot (f row) X) loop.rows
across loop ys f X h = rw (← h) (sym (exchange ys f loop.rows X))

-- (yA)·X + (yA')·X' <= p·(yb)
pub weighted : (loop : Loop) (ys : List ℤ) (p : ℕ) (X X' : List ℤ) → Each NonNeg ys → Step loop p X X'
    → (dot (columns loop ys A) X +ℤ dot (columns loop ys A') X') ≤ℤ (pos p *ℤ sum ys b loop.rows)
weighted loop ys p X X' n t =
    rw (
      across loop ys (λ row. row.now) X t.before,
      across loop ys (λ row. row.next) X' t.after,
      ← (sum_add ys (λ row. dot row.now X) (λ row. dot row.next X') loop.rows),
      ← (sum_scale ys (pos p) b loop.rows),
    )
    (sum_mono ys (λ row. dot row.now X +ℤ dot row.next X') (λ row. pos p *ℤ b row) loop.rows n t.meets)

-- columns that are k times the entries of a list
pub columns_are : (loop : Loop) (ys : List ℤ) (f : ℕ → Row → ℤ) (k : ℤ) (l X : List ℤ) → length X ≡ loop.variables
    → ((j : ℕ) → j < loop.variables → sum ys (f j) loop.rows ≡ k *ℤ get_or l j (pos 0)) → dot (columns loop ys f) X ≡ k *ℤ dot l X
columns_are loop ys f k l X h e = rw (← h) (dot_columns k (λ j. sum ys (f j) loop.rows) l X (rw h e))

-- rows that weigh as they are held to: now·(v·X) + next·(v·X') <= p·limit, in every step at denominator p
pub weighed_step : (n : ℕ) (w : Weighted) (p : ℕ) (X X' : List ℤ) → Each NonNeg w.weights → Weighs n w → Step (over n w.rows) p X X'
    → (w.now *ℤ dot w.v X +ℤ w.next *ℤ dot w.v X') ≤ℤ (pos p *ℤ w.limit)
weighed_step n w p X X' nonneg weighs t =
    together _ _ _ _ _ _
    (weighted (over n w.rows) w.weights p X X' nonneg t)
    (columns_are (over n w.rows) w.weights A w.now w.v X t.before weighs.over_A)
    (columns_are (over n w.rows) w.weights A' w.next w.v X' t.after weighs.over_A')
    (mul_mono (pos p) (pos_mono zero-le) weighs.over_b)
  where
    together : (wA_X wA'·X' now·vX next·vX' wb limit : ℤ) → (wA_X +ℤ wA'·X') ≤ℤ wb → wA_X ≡ now·vX → wA'·X' ≡ next·vX' → wb ≤ℤ limit
        → (now·vX +ℤ next·vX') ≤ℤ limit
    together wA_X wA'·X' now·vX next·vX' wb limit h e f g =
        solve_le (v now·vX ⊕ v next·vX') (v limit)
        (omega (arith, le_fact (v wA_X ⊕ v wA'·X') (v wb) h, eq_fact (v wA_X) (v now·vX) e, eq_fact (v wA'·X') (v next·vX') f, le_fact (v wb) (v limit) g))
