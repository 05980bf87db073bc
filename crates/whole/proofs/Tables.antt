-- Sums by place: lists that a function of the place makes (`tabulate`), sums that add one place after another (`total`), and the exchange of two sums.
-- A loop that carries a `Total` has the invariant `t.sum ≡ total i (λ j. y j *ℤ x j)`: it starts by `total_none`, each turn is allowed by `total_ready`
-- and kept by `total_more`, and at the end `dot_total`, `dot_tabulate` or `sum_tabulate` say which sum over whole lists it is.
use Prim.Native.Nat.{ℕ, zero, suc, ◌+◌, ◌*◌, ◌^◌, ◌≤◌, ◌<◌}
use mathlib.Core.Path.{◌≡◌, refl, sym, ap, ◌∙◌}
use mathlib.Core.List.{List, [], ◌∷◌, ◌++◌, map}
use native.Mathlib.Nat.{mul-le-mul_right}
use native.Mathlib.Numerals.{add-one}
use native.Mathlib.Omega.{arith}
use lib.IntN.{ℤ, pos, nat_abs, ◌+ℤ◌, ◌*ℤ◌, +ℤ_assoc, +ℤ_comm, *ℤ_comm, *ℤ-zero, zero-*ℤ}
use lib.ListN.{length, get_or, drop}
use Rattle.whole.specs.Sums.{dot, sum, total, tabulate, Each}
use Rattle.whole.specs.Ready.{Ready}
use Rattle.whole.proofs.Solve.{v, ◌⊕◌, ◌⊗◌, solve}
use Rattle.whole.proofs.Size.{abs_add, abs_product, ready_by}
use Rattle.whole.proofs.SumLaws.{dot_nil, dot_cons, dot_cons_right, get_d_tail, sum_same, sum_nought, sum_add, sum_scale}

-- ---- tables

module _ {B : Type 0} where
  pub length_tabulate : (n : ℕ) (f : ℕ → B) → length (tabulate n f) ≡ n
  unfolding tabulate
  length_tabulate zero f = refl
  length_tabulate (suc n) f = ap suc (length_tabulate n (λ i. f (suc i)))

  pub tabulate_at : (n : ℕ) (f : ℕ → B) (i : ℕ) (d : B) → i < n → get_or (tabulate n f) i d ≡ f i
  unfolding tabulate
  tabulate_at zero f i d h = absurd (omega arith)
  tabulate_at (suc n) f zero d h = refl
  tabulate_at (suc n) f (suc i) d h = tabulate_at n (λ j. f (suc j)) i d (omega arith)

  -- one entry more, at the end
  pub tabulate_more : (n : ℕ) (f : ℕ → B) → tabulate (suc n) f ≡ tabulate n f ++ (f n ∷ [])
  unfolding tabulate
  tabulate_more zero f = refl
  tabulate_more (suc n) f = ap (λ l. f 0 ∷ l) (tabulate_more n (λ i. f (suc i)))

  pub tabulate_same : (n : ℕ) (f g : ℕ → B) → ((i : ℕ) → i < n → f i ≡ g i) → tabulate n f ≡ tabulate n g
  unfolding tabulate
  tabulate_same zero f g h = refl
  tabulate_same (suc n) f g h = rw (h 0 (omega arith), tabulate_same n (λ i. f (suc i)) (λ i. g (suc i)) (λ i k. h (suc i) (omega arith)))

  pub map_tabulate : {C : Type 0} (n : ℕ) (f : ℕ → B) (g : B → C) → map g (tabulate n f) ≡ tabulate n (λ i. g (f i))
  unfolding tabulate
  map_tabulate zero f g = refl
  map_tabulate (suc n) f g = ap (λ l. g (f 0) ∷ l) (map_tabulate n (λ i. f (suc i)) g)

  pub each_tabulate : (P : B → Type 0) (n : ℕ) (f : ℕ → B) → ((i : ℕ) → i < n → P (f i)) → Each P (tabulate n f)
  unfolding tabulate Each
  each_tabulate P zero f h = tt
  each_tabulate P (suc n) f h = (h 0 (omega arith), each_tabulate P n (λ i. f (suc i)) (λ i k. h (suc i) (omega arith)))

-- ---- totals

pub total_same : (n : ℕ) (f g : ℕ → ℤ) → ((i : ℕ) → i < n → f i ≡ g i) → total n f ≡ total n g
unfolding total
total_same zero f g h = refl
total_same (suc n) f g h = rw (total_same n f g (λ i k. h i (omega arith)), h n (omega arith))

-- the first comes off too
total_first : (n : ℕ) (f : ℕ → ℤ) → total (suc n) f ≡ f 0 +ℤ total n (λ i. f (suc i))
unfolding total
total_first zero f = +ℤ_comm (pos 0) (f 0)
total_first (suc n) f = ap (λ t. t +ℤ f (suc n)) (total_first n f) ∙ +ℤ_assoc (f 0) (total n (λ i. f (suc i))) (f (suc n))

total_zeros : (n : ℕ) → total n (λ i. pos 0) ≡ pos 0
unfolding total
total_zeros zero = refl
total_zeros (suc n) = rw (total_zeros n)

pub dot_total : (n : ℕ) (ys xs : List ℤ) → length ys ≤ n → dot ys xs ≡ total n (λ i. get_or ys i (pos 0) *ℤ get_or xs i (pos 0))
unfolding dot
dot_total n [] xs h = sym (total_same n (λ i. pos 0 *ℤ get_or xs i (pos 0)) (λ i. pos 0) (λ i k. zero-*ℤ (get_or xs i (pos 0))) ∙ total_zeros n)
dot_total zero (y ∷ ys) xs h = absurd (omega arith)
dot_total (suc n) (y ∷ ys) xs h =
    dot_cons y ys xs ∙
    ap (λ t. y *ℤ get_or xs 0 (pos 0) +ℤ t) (dot_total n ys (drop 1 xs) (omega arith) ∙ simp get_d_tail) ∙
    sym (total_first n (λ i. get_or (y ∷ ys) i (pos 0) *ℤ get_or xs i (pos 0)))

pub dot_tabulate : (n : ℕ) (y x : ℕ → ℤ) → dot (tabulate n y) (tabulate n x) ≡ total n (λ i. y i *ℤ x i)
unfolding dot tabulate total
dot_tabulate zero y x = refl
dot_tabulate (suc n) y x = ap (λ t. y 0 *ℤ x 0 +ℤ t) (dot_tabulate n (λ i. y (suc i)) (λ i. x (suc i))) ∙ sym (total_first n (λ i. y i *ℤ x i))

pub sum_tabulate : {B : Type 0} (n : ℕ) (y : ℕ → ℤ) (f : B → ℤ) (row : ℕ → B)
    → sum (tabulate n y) f (tabulate n row) ≡ total n (λ i. y i *ℤ f (row i))
unfolding sum
sum_tabulate n y f row = rw (map_tabulate n row f) (dot_tabulate n y (λ i. f (row i)))

pub total_bound : (n p : ℕ) (f : ℕ → ℤ) → ((i : ℕ) → i < n → nat_abs (f i) ≤ p) → nat_abs (total n f) ≤ n * p
unfolding total
total_bound zero p f h = omega arith
total_bound (suc n) p f h = omega (arith, abs_add (total n f) (f n), h n (omega arith), total_bound n p f (λ i k. h i (omega arith)))

-- ---- the invariant of a loop that carries a `Total`

pub total_none : (f : ℕ → ℤ) → pos 0 ≡ total 0 f
unfolding total
total_none f = refl

pub total_more : {s r : ℤ} (i : ℕ) (f : ℕ → ℤ) → s ≡ total i f → r ≡ s +ℤ f i → r ≡ total (i + 1) f
unfolding total
total_more i f h k = rw (add-one, ← h) k

pub total_ready : (m i a b : ℕ) (y x : ℕ → ℤ) → ((j : ℕ) → j < m → nat_abs (y j) ≤ a) → ((j : ℕ) → j < m → nat_abs (x j) ≤ b)
    → i < m → m * (a * b) < 2 ^ 63 → Ready (total i (λ j. y j *ℤ x j)) (y i) (x i)
total_ready m i a b y x h k l fits =
    ready_by (total i (λ j. y j *ℤ x j)) (y i) (x i)
    (total_bound i (a * b) (λ j. y j *ℤ x j) (λ j n. abs_product (y j) (x j) (h j (omega arith)) (k j (omega arith))))
    (h i l) (k i l)
    (omega (arith, mul-le-mul_right (a * b) l))

-- ---- the exchange of two sums: rows first, or columns first

pub exchange : {B : Type 0} (ys : List ℤ) (f : B → List ℤ) (rows : List B) (xs : List ℤ)
    → sum ys (λ row. dot (f row) xs) rows ≡ dot (tabulate (length xs) (λ j. sum ys (λ row. get_or (f row) j (pos 0)) rows)) xs
unfolding dot tabulate
exchange ys f rows [] = sum_same ys (λ row. dot (f row) []) (λ row. pos 0) rows (λ row. dot_nil (f row)) ∙ sum_nought ys rows
exchange ys f rows (x ∷ xs) =
    sum_same ys (λ row. dot (f row) (x ∷ xs)) (λ row. x *ℤ get_or (f row) 0 (pos 0) +ℤ dot (drop 1 (f row)) xs) rows (λ row. dot_cons_right (f row) x xs) ∙
    sum_add ys (λ row. x *ℤ get_or (f row) 0 (pos 0)) (λ row. dot (drop 1 (f row)) xs) rows ∙
    rw
    (sum_scale ys x (λ row. get_or (f row) 0 (pos 0)) rows, *ℤ_comm x (sum ys (λ row. get_or (f row) 0 (pos 0)) rows), exchange ys (λ row. drop 1 (f row)) rows xs)
    (simp get_d_tail)

-- columns that are k times a list's entries
pub dot_columns : (k : ℤ) (g : ℕ → ℤ) (l xs : List ℤ) → ((j : ℕ) → j < length xs → g j ≡ k *ℤ get_or l j (pos 0)) → dot (tabulate (length xs) g) xs ≡ k *ℤ dot l xs
unfolding dot tabulate
dot_columns k g l [] h = sym (*ℤ-zero k) ∙ ap (λ t. k *ℤ t) (sym (dot_nil l))
dot_columns k g l (x ∷ xs) h =
    step (g 0) (get_or l 0 (pos 0)) _ _ _ (h 0 (omega arith))
    (dot_columns k (λ j. g (suc j)) (drop 1 l) xs (λ j i. rw (get_d_tail l j) (h (suc j) (omega arith))))
    (dot_cons_right l x xs)
  where
    step : (a c s t u : ℤ) → a ≡ k *ℤ c → s ≡ k *ℤ t → u ≡ x *ℤ c +ℤ t → a *ℤ x +ℤ s ≡ k *ℤ u
    step a c s t u h i j = rw (h, i, j) (solve (v k ⊗ v c ⊗ v x ⊕ v k ⊗ v t) (v k ⊗ (v x ⊗ v c ⊕ v t)) (omega arith))
