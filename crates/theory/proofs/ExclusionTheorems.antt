-- An exclusion rules linear ranking functions out, and no loop has both a ranking and an exclusion.
-- The one argument is `line_excludes`: a step, and a direction that no row leaves and that goes on the way of the step, make a line of steps
-- along which r·x falls below any start. `none_at` and `whole_step_excludes` give the direction each in its own way.
use Prim.Native.Nat.{ℕ, suc, ◌*◌, ◌/◌, ◌%◌, ◌≤◌, zero-le}
use mathlib.Core.Bool.{true}
use mathlib.Core.Path.{◌≡◌, refl, sym, ap, ◌∙◌}
use mathlib.Core.List.{List, [], ◌∷◌, map}
use native.Mathlib.Nat.{add-zero, mul_comm, mul-one, one-mul, div-add-mod'}
use native.Mathlib.Omega.{arith}
use borrow.Author.Tests.{eqb-true}
use lib.Dec.{eqb}
use lib.IntN.{ℤ, pos, negsuc, nat_abs, neg_ℤ, ◌+ℤ◌, ◌-ℤ◌, ◌*ℤ◌}
use lib.ListN.{length}
use lib.Signed.{◌≤ℤ◌}
use Rattle.whole.specs.Sums.{dot, add, scale, less, Each}
use Rattle.whole.proofs.Solve.{v, ◌⊕◌, ◌⊝◌, ◌⊗◌, solve, solve_le, eq_fact, le_fact, abs_fact}
use Rattle.refusal.proofs.TestLaws.{both_true}
use Rattle.whole.proofs.Ring.{*ℤ-neg, pos_mono, mul_mono, mul_cancel}
use Rattle.whole.proofs.EachLaws.{each_both, each_then}
use Rattle.whole.proofs.SumLaws.{dot_comm, dot_add, dot_scale, dot_less, scale_one, length_add, length_scale, length_less}
use Rattle.theory.specs.Loops.{Row, Loop, Meets, Step}
use Rattle.theory.specs.Rankings.{Ranking, NonNegative, RankingHolds, rank, start, fall, Ranks, RanksWhole, RanksFractions}
use Rattle.theory.specs.Exclusions.{Exclusion, OfSize, Stays, ExclusionHolds, divides, all_divided, step_is_whole}
use Rattle.theory.proofs.RankingTheorems.{ranking_is_linear_ranking}

-- the state t times further on
abbrev on : ℕ → List ℤ → List ℤ → List ℤ
on t X D = add X (scale (pos t) D)

dot_on : (l : List ℤ) (t : ℕ) (X D : List ℤ) → dot l (on t X D) ≡ dot l X +ℤ pos t *ℤ dot l D
dot_on l t X D =
    dot_comm l (on t X D) ∙ dot_add X (scale (pos t) D) l ∙ rw (dot_scale (pos t) D l, dot_comm l X, dot_comm l D)

-- what falls by 1 at least with each step of a line comes below any number
no_line : (p c : ℕ) (S δ x x' d : ℤ) → 1 ≤ p → 1 ≤ c → pos 1 ≤ℤ δ → (pos p *ℤ δ) ≤ℤ (x -ℤ x') → d ≡ pos c *ℤ (x' -ℤ x)
    → S ≤ℤ (x +ℤ pos (suc (nat_abs (x -ℤ S))) *ℤ d) → ⊥
no_line p c S δ x x' d hp hc hδ hx hd hS =
    let falls : pos 1 ≤ℤ (x -ℤ x') =
    solve_le (v (pos 1)) (v x ⊝ v x')
    (omega (arith, le_fact (v (pos p) ⊗ v δ) (v x ⊝ v x') hx, le_fact (v (pos p) ⊗ v (pos 1)) (v (pos p) ⊗ v δ) (mul_mono (pos p) (pos_mono zero-le) hδ)))
    in
    let down : d ≤ℤ negsuc 0 =
    solve_le (v d) (v (negsuc 0))
    (omega (
      arith,
      eq_fact (v d) (v (pos c) ⊗ (v x' ⊝ v x)) hd,
      le_fact (v (pos c) ⊗ v (pos 1)) (v (pos c) ⊗ (v x ⊝ v x')) (mul_mono (pos c) (pos_mono zero-le) falls),
    ))
    in
    let t : ℕ = suc (nat_abs (x -ℤ S)) in
    omega (
      arith,
      le_fact (v S) (v x ⊕ v (pos t) ⊗ v d) hS,
      le_fact (v (pos t) ⊗ v d) (v (pos t) ⊗ v (negsuc 0)) (mul_mono (pos t) (pos_mono zero-le) down),
      abs_fact (v x ⊝ v S),
    )

module _ (loop : Loop) (p : ℕ) (X X' D E : List ℤ) (D-entries : length D ≡ loop.variables) (E-entries : length E ≡ loop.variables)
    (step : Step loop p X X') (stays : Each (Stays D E) loop.rows) where
  -- a row that the step meets and that the direction never leaves is met t times further on
  row_on : (t : ℕ) (row : Row) → Meets p X X' row → Stays D E row → Meets p (on t X D) (on t X' E) row
  row_on t row h k =
      rw (dot_on row.now t X D, dot_on row.next t X' E)
      (further (pos p *ℤ row.right) (dot row.now X) (dot row.next X') (dot row.now D) (dot row.next E) h k)
    where
      further : (c x x' d e : ℤ) → (x +ℤ x') ≤ℤ c → (d +ℤ e) ≤ℤ pos 0 → ((x +ℤ pos t *ℤ d) +ℤ (x' +ℤ pos t *ℤ e)) ≤ℤ c
      further c x x' d e h k =
          solve_le ((v x ⊕ v (pos t) ⊗ v d) ⊕ (v x' ⊕ v (pos t) ⊗ v e)) (v c)
          (omega (
            arith,
            le_fact (v x ⊕ v x') (v c) h,
            le_fact (v (pos t) ⊗ (v d ⊕ v e)) (v (pos t) ⊗ v (pos 0)) (mul_mono (pos t) (pos_mono zero-le) k),
          ))

  step_on : (t : ℕ) → Step loop p (on t X D) (on t X' E)
  step_on t =
      record {
        before = length_add X (scale (pos t) D) (step.before ∙ sym (length_scale (pos t) D ∙ D-entries)) ∙ step.before;
        after = length_add X' (scale (pos t) E) (step.after ∙ sym (length_scale (pos t) E ∙ E-entries)) ∙ step.after;
        meets = each_both (Meets p X X') (Stays D E) (Meets p (on t X D) (on t X' E)) loop.rows (row_on t) step.meets stays;
      }

  line_excludes : (c : ℕ) → 1 ≤ p → 1 ≤ c → ((l : List ℤ) → dot l D ≡ pos c *ℤ (dot l X' -ℤ dot l X)) → (r : List ℤ) (δ0 δ : ℤ) → Ranks loop p r δ0 δ → ⊥
  line_excludes c hp hc way r δ0 δ ranks =
      let t : ℕ = suc (nat_abs (dot r X -ℤ pos p *ℤ δ0)) in
      no_line p c (pos p *ℤ δ0) δ (dot r X) (dot r X') (dot r D) hp hc ranks.positive (ranks.falls X X' step) (way r)
      (rw (dot_on r t X D) at (ranks.bounded (on t X D) (on t X' E) (step_on t)))

-- a whole-number step, and whole (D, E) that no row leaves with D = c·(x' - x): no linear ranking function over whole numbers
pub whole_step_excludes : (loop : Loop) (x x' D E : List ℤ) (c : ℕ) → Step loop 1 x x' → length E ≡ loop.variables → Each (Stays D E) loop.rows
    → 1 ≤ c → D ≡ scale (pos c) (less x' x) → (r : List ℤ) (δ0 δ : ℤ) → RanksWhole loop r δ0 δ → ⊥
whole_step_excludes loop x x' D E c step E-entries stays hc way = line_excludes loop 1 x x' D E D-entries E-entries step stays c (omega arith) hc along
  where
    D-entries : length D ≡ loop.variables
    D-entries = rw (way, length_scale (pos c) (less x' x), length_less x' x (step.after ∙ sym step.before)) step.after

    along : (l : List ℤ) → dot l D ≡ pos c *ℤ (dot l x' -ℤ dot l x)
    along l = rw (way, dot_comm l (scale (pos c) (less x' x)), dot_scale (pos c) (less x' x) l, dot_less x' x l, dot_comm x' l, dot_comm x l)

-- where q divides z, what times q is z
quotient : ℕ → ℤ → ℤ
quotient q (pos n) = pos (n / q)
quotient q (negsuc n) = neg_ℤ (pos (suc n / q))

divided : (q n : ℕ) → eqb (n % q) 0 ≡ true → q * (n / q) ≡ n
divided q n h = let k = eqb-true (n % q) 0 h in let all = div-add-mod' n q in rw mul_comm (rw (k, add-zero) at all)

quotient_times : (q : ℕ) (z : ℤ) → divides q z ≡ true → z ≡ pos q *ℤ quotient q z
unfolding divides quotient
quotient_times q (pos n) h = ap pos (sym (divided q n h))
quotient_times q (negsuc n) h = ap (λ k. neg_ℤ (pos k)) (sym (divided q (suc n) h)) ∙ sym (*ℤ-neg (pos q) (pos (suc n / q)))

abbrev quotients : ℕ → List ℤ → List ℤ
quotients q zs = map (quotient q) zs

quotients_times : (q : ℕ) (zs : List ℤ) → all_divided q zs ≡ true → zs ≡ scale (pos q) (quotients q zs)
unfolding all_divided scale
quotients_times q [] h = refl
quotients_times q (z ∷ zs) h =
    let both = both_true (divides q z) (all_divided q zs) h in
    rw (← quotient_times q z both.0, ← quotients_times q zs both.1)

-- the two exclusion conditions at q >= 1
module _ (loop : Loop) (c : Exclusion) (size : OfSize loop c) (q_positive : 1 ≤ c.q) (holds : ExclusionHolds loop c) where
  -- with a factor f of q that W and V have in common, the step is one at the denominator that is left
  module _ (p f : ℕ) (p_positive : 1 ≤ p) (f_positive : 1 ≤ f) (u w : List ℤ) (parts : c.q ≡ f * p) (V-is : c.«V» ≡ scale (pos f) u) (W-is : c.W ≡ scale (pos f) w) where
    dot_W : (l : List ℤ) → dot l c.W ≡ pos f *ℤ dot l w
    dot_W l = rw (W-is, dot_comm l (scale (pos f) w), dot_scale (pos f) w l, dot_comm w l)

    dot_V : (l : List ℤ) → dot l c.«V» ≡ pos f *ℤ dot l u
    dot_V l = rw (V-is, dot_comm l (scale (pos f) u), dot_scale (pos f) u l, dot_comm u l)

    dot_before : (l xs ys : List ℤ) → dot l (less xs ys) ≡ dot l xs -ℤ dot l ys
    dot_before l xs ys = rw (dot_comm l (less xs ys), dot_less xs ys l, dot_comm xs l, dot_comm ys l)

    row_shown : (row : Row) → Meets c.q (less c.W c.«V») c.W row → Meets p (less w u) w row
    row_shown row h =
        rw dot_before
        (less_f (dot row.now w) (dot row.now u) (dot row.next w) row.right (rw (dot_before, dot_W row.now, dot_V, dot_W row.next, parts) at h))
      where
        less_f : (x y z b : ℤ) → ((pos f *ℤ x -ℤ pos f *ℤ y) +ℤ pos f *ℤ z) ≤ℤ (pos (f * p) *ℤ b) → ((x -ℤ y) +ℤ z) ≤ℤ (pos p *ℤ b)
        less_f x y z b h =
            mul_cancel (pos f) (pos_mono f_positive)
            (solve_le (v (pos f) ⊗ ((v x ⊝ v y) ⊕ v z)) (v (pos f) ⊗ (v (pos p) ⊗ v b))
            (omega (arith, le_fact ((v (pos f) ⊗ v x ⊝ v (pos f) ⊗ v y) ⊕ v (pos f) ⊗ v z) (v (pos f) ⊗ v (pos p) ⊗ v b) h)))

    none_at : (r : List ℤ) (δ0 δ : ℤ) → Ranks loop p r δ0 δ → ⊥
    none_at =
        line_excludes loop p (less w u) w c.«V» c.U size.V-entries size.U-entries shown holds.direction f p_positive f_positive way
      where
        w_entries : length w ≡ loop.variables
        w_entries = sym (length_scale (pos f) w) ∙ ap length (sym W-is) ∙ size.W-entries

        u_entries : length u ≡ loop.variables
        u_entries = sym (length_scale (pos f) u) ∙ ap length (sym V-is) ∙ size.V-entries

        shown : Step loop p (less w u) w
        shown =
            record {
              before = length_less w u (w_entries ∙ sym u_entries) ∙ w_entries;
              after = w_entries;
              meets = each_then (Meets c.q (less c.W c.«V») c.W) (Meets p (less w u) w) loop.rows row_shown holds.step;
            }

        way : (l : List ℤ) → dot l c.«V» ≡ pos f *ℤ (dot l w -ℤ dot l (less w u))
        way l = rw (dot_V, dot_before) (back (dot l w) (dot l u))
          where
            back : (w x : ℤ) → pos f *ℤ x ≡ pos f *ℤ (w -ℤ (w -ℤ x))
            back w x = solve (v (pos f) ⊗ v x) (v (pos f) ⊗ (v w ⊝ (v w ⊝ v x))) (omega arith)

  -- none over fractions; none over whole numbers where q divides W and V
  pub exclusion_excludes : ((r : List ℤ) (δ0 δ : ℤ) → RanksFractions loop r δ0 δ → ⊥)
      × (step_is_whole c ≡ true → (r : List ℤ) (δ0 δ : ℤ) → RanksWhole loop r δ0 δ → ⊥)
  unfolding step_is_whole
  exclusion_excludes = (
    λ r δ0 δ ranks. none_at c.q 1 q_positive (omega arith) c.«V» c.W (sym (one-mul c.q)) (sym (scale_one c.«V»)) (sym (scale_one c.W)) r δ0 δ (ranks c.q q_positive),
    λ whole.
        let both = both_true (all_divided c.q c.W) (all_divided c.q c.«V») whole in
        none_at 1 c.q (omega arith) q_positive (quotients c.q c.«V») (quotients c.q c.W) (sym (mul-one c.q))
        (quotients_times c.q c.«V» both.1) (quotients_times c.q c.W both.0),
  )

-- no loop has multipliers that meet the ranking conditions and (q, U, V, W) that meet the exclusion's
pub not_both : (loop : Loop) (c : Ranking) (d : Exclusion) → NonNegative c → RankingHolds loop c → OfSize loop d → 1 ≤ d.q → ExclusionHolds loop d → ⊥
not_both loop c d n h size q k =
    (exclusion_excludes loop d size q k).0 (rank loop c) (start loop c) (fall loop c) (ranking_is_linear_ranking loop c n h)
