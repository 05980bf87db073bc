-- Laws of the dot product and of the weighted sum over rows: linear in either argument (`dot_comm` turns the arguments round), over `++`, under scaling,
-- at zeros; monotone under non-negative weights; bounded by the bounds of the parts and the count of terms; and the total that takes one row after another.
-- No law asks for lists of one length but those over `++`: what is missing counts 0.
use Prim.Native.Nat.{ℕ, zero, suc, ◌+◌, ◌*◌, ◌≤◌, ◌<◌}
use mathlib.Core.Path.{◌≡◌, refl, sym, ap, ◌∙◌}
use mathlib.Core.List.{List, [], ◌∷◌, ◌++◌, map, map-append}
use native.Mathlib.Omega.{arith}
use native.Mathlib.Numerals.{add-one}
use lib.IntN.{ℤ, pos, negsuc, nat_abs, ◌+ℤ◌, ◌-ℤ◌, ◌*ℤ◌, +ℤ_idr, +ℤ_idl, +ℤ_assoc, *ℤ_comm, *ℤ-zero, zero-*ℤ}
use lib.ListN.{length, get_or, drop, replicate, length-map}
use lib.Seq.{drop-cons}
use lib.Signed.{◌≤ℤ◌, ≤ℤ_refl}
use Rattle.whole.specs.Sums.{dot, sum, running, scale, add, less, Each, NonNeg, Within}
use Rattle.whole.proofs.Solve.{v, ◌⊕◌, ◌⊗◌, neg, solve}
use Rattle.whole.proofs.Ring.{one-*ℤ, +ℤ-mono, mul_mono}
use Rattle.whole.proofs.Size.{abs_add, abs_product}

-- ---- the dot product is bilinear

pub dot_nil : (xs : List ℤ) → dot xs [] ≡ pos 0
unfolding dot
dot_nil [] = refl
dot_nil (x ∷ xs) = refl

pub dot_comm : (xs ys : List ℤ) → dot xs ys ≡ dot ys xs
unfolding dot
dot_comm [] ys = sym (dot_nil ys)
dot_comm (x ∷ xs) [] = refl
dot_comm (x ∷ xs) (y ∷ ys) = rw (dot_comm xs ys, *ℤ_comm x y)

scale_step : (k x y s t : ℤ) → s ≡ k *ℤ t → k *ℤ x *ℤ y +ℤ s ≡ k *ℤ (x *ℤ y +ℤ t)
scale_step k x y s t h = rw h (solve (v k ⊗ v x ⊗ v y ⊕ v k ⊗ v t) (v k ⊗ (v x ⊗ v y ⊕ v t)) (omega arith))

pub dot_scale : (k : ℤ) (xs ys : List ℤ) → dot (scale k xs) ys ≡ k *ℤ dot xs ys
unfolding dot scale
dot_scale k [] ys = sym (*ℤ-zero k)
dot_scale k (x ∷ xs) [] = sym (*ℤ-zero k)
dot_scale k (x ∷ xs) (y ∷ ys) = scale_step k x y (dot (scale k xs) ys) (dot xs ys) (dot_scale k xs ys)

add_step : (a b y s t u : ℤ) → s ≡ t +ℤ u → (a +ℤ b) *ℤ y +ℤ s ≡ (a *ℤ y +ℤ t) +ℤ (b *ℤ y +ℤ u)
add_step a b y s t u h = rw h (solve ((v a ⊕ v b) ⊗ v y ⊕ (v t ⊕ v u)) ((v a ⊗ v y ⊕ v t) ⊕ (v b ⊗ v y ⊕ v u)) (omega arith))

pub dot_add : (xs ys zs : List ℤ) → dot (add xs ys) zs ≡ dot xs zs +ℤ dot ys zs
unfolding dot add
dot_add [] ys zs = sym (+ℤ_idl (dot ys zs))
dot_add (x ∷ xs) [] zs = sym (+ℤ_idr (dot (x ∷ xs) zs))
dot_add (x ∷ xs) (y ∷ ys) [] = refl
dot_add (x ∷ xs) (y ∷ ys) (z ∷ zs) = add_step x y z (dot (add xs ys) zs) (dot xs zs) (dot ys zs) (dot_add xs ys zs)

pub dot_less : (xs ys zs : List ℤ) → dot (less xs ys) zs ≡ dot xs zs -ℤ dot ys zs
unfolding less
dot_less xs ys zs =
    dot_add xs (scale (negsuc 0) ys) zs ∙
    ap (λ t. dot xs zs +ℤ t) (dot_scale (negsuc 0) ys zs ∙ solve (v (negsuc 0) ⊗ v (dot ys zs)) (neg (v (dot ys zs))) (omega arith))

pub scale_one : (xs : List ℤ) → scale (pos 1) xs ≡ xs
unfolding scale
scale_one [] = refl
scale_one (x ∷ xs) = rw (one-*ℤ x, scale_one xs)

pub length_scale : (k : ℤ) (xs : List ℤ) → length (scale k xs) ≡ length xs
unfolding scale
length_scale k xs = length-map xs (λ x. k *ℤ x)

pub length_add : (xs ys : List ℤ) → length xs ≡ length ys → length (add xs ys) ≡ length xs
unfolding add
length_add [] ys h = sym h
length_add (x ∷ xs) [] h = refl
length_add (x ∷ xs) (y ∷ ys) h = ap suc (length_add xs ys (omega arith))

pub length_less : (xs ys : List ℤ) → length xs ≡ length ys → length (less xs ys) ≡ length xs
unfolding less
length_less xs ys h = length_add xs (scale (negsuc 0) ys) (h ∙ sym (length_scale (negsuc 0) ys))

pub dot_append : (xs ys us ws : List ℤ) → length xs ≡ length ys → dot (xs ++ us) (ys ++ ws) ≡ dot xs ys +ℤ dot us ws
unfolding dot
dot_append [] [] us ws h = sym (+ℤ_idl (dot us ws))
dot_append [] (y ∷ ys) us ws h = absurd (omega arith)
dot_append (x ∷ xs) [] us ws h = absurd (omega arith)
dot_append (x ∷ xs) (y ∷ ys) us ws h = rw (dot_append xs ys us ws (omega arith)) (sym (+ℤ_assoc (x *ℤ y) (dot xs ys) (dot us ws)))

pub dot_zeros : (n : ℕ) (ys : List ℤ) → dot (replicate n (pos 0)) ys ≡ pos 0
unfolding dot
dot_zeros zero ys = refl
dot_zeros (suc n) [] = refl
dot_zeros (suc n) (y ∷ ys) = rw (dot_zeros n ys, zero-*ℤ y)

-- the first term, where the second list may have none
pub dot_cons : (x : ℤ) (xs ys : List ℤ) → dot (x ∷ xs) ys ≡ x *ℤ get_or ys 0 (pos 0) +ℤ dot xs (drop 1 ys)
unfolding dot
dot_cons x xs [] = rw (*ℤ-zero x, dot_nil xs)
dot_cons x xs (y ∷ ys) = refl

-- and where the first list may have none
pub dot_cons_right : (xs : List ℤ) (y : ℤ) (ys : List ℤ) → dot xs (y ∷ ys) ≡ y *ℤ get_or xs 0 (pos 0) +ℤ dot (drop 1 xs) ys
dot_cons_right xs y ys = dot_comm xs (y ∷ ys) ∙ dot_cons y ys xs ∙ ap (λ t. y *ℤ get_or xs 0 (pos 0) +ℤ t) (dot_comm ys (drop 1 xs))

pub get_d_tail : (xs : List ℤ) (i : ℕ) → get_or (drop 1 xs) i (pos 0) ≡ get_or xs (suc i) (pos 0)
get_d_tail [] i = refl
get_d_tail (x ∷ xs) i = refl

-- one entry comes off: the step of a loop that keeps the rest of both lists
pub dot_drop : (xs ys : List ℤ) (i : ℕ) → i < length xs → i < length ys
    → dot (drop i xs) (drop i ys) ≡ get_or xs i (pos 0) *ℤ get_or ys i (pos 0) +ℤ dot (drop (i + 1) xs) (drop (i + 1) ys)
unfolding dot
dot_drop xs ys i h k = rw (add-one, drop-cons xs i (pos 0), drop-cons ys i (pos 0))

-- ---- a weighted sum over rows: it is a dot product, and linear in what it takes from each row

module _ {B : Type 0} where
  pub sum_same : (ys : List ℤ) (f g : B → ℤ) (rows : List B) → ((b : B) → f b ≡ g b) → sum ys f rows ≡ sum ys g rows
  unfolding sum dot
  sum_same [] f g rows h = refl
  sum_same (y ∷ ys) f g [] h = refl
  sum_same (y ∷ ys) f g (r ∷ rows) h = rw (h r, sum_same ys f g rows h)

  pub sum_nought : (ys : List ℤ) (rows : List B) → sum ys (λ b. pos 0) rows ≡ pos 0
  unfolding sum dot
  sum_nought [] rows = refl
  sum_nought (y ∷ ys) [] = refl
  sum_nought (y ∷ ys) (r ∷ rows) = rw (*ℤ-zero y, sum_nought ys rows)

  pub sum_add : (ys : List ℤ) (f g : B → ℤ) (rows : List B) → sum ys (λ b. f b +ℤ g b) rows ≡ sum ys f rows +ℤ sum ys g rows
  unfolding sum dot
  sum_add [] f g rows = refl
  sum_add (y ∷ ys) f g [] = refl
  sum_add (y ∷ ys) f g (r ∷ rows) = step y (f r) (g r) _ _ _ (sum_add ys f g rows)
    where
      step : (y a b s t u : ℤ) → s ≡ t +ℤ u → y *ℤ (a +ℤ b) +ℤ s ≡ (y *ℤ a +ℤ t) +ℤ (y *ℤ b +ℤ u)
      step y a b s t u h = rw h (solve (v y ⊗ (v a ⊕ v b) ⊕ (v t ⊕ v u)) ((v y ⊗ v a ⊕ v t) ⊕ (v y ⊗ v b ⊕ v u)) (omega arith))

  pub sum_scale : (ys : List ℤ) (k : ℤ) (f : B → ℤ) (rows : List B) → sum ys (λ b. k *ℤ f b) rows ≡ k *ℤ sum ys f rows
  unfolding sum dot
  sum_scale [] k f rows = sym (*ℤ-zero k)
  sum_scale (y ∷ ys) k f [] = sym (*ℤ-zero k)
  sum_scale (y ∷ ys) k f (r ∷ rows) = step y (f r) _ _ (sum_scale ys k f rows)
    where
      step : (y a s t : ℤ) → s ≡ k *ℤ t → y *ℤ (k *ℤ a) +ℤ s ≡ k *ℤ (y *ℤ a +ℤ t)
      step y a s t h = rw h (solve (v y ⊗ (v k ⊗ v a) ⊕ v k ⊗ v t) (v k ⊗ (v y ⊗ v a ⊕ v t)) (omega arith))

  pub sum_add_weights : (ys zs : List ℤ) (f : B → ℤ) (rows : List B) → sum (add ys zs) f rows ≡ sum ys f rows +ℤ sum zs f rows
  unfolding sum
  sum_add_weights ys zs f rows = dot_add ys zs (map f rows)

  pub sum_scale_weights : (k : ℤ) (ys : List ℤ) (f : B → ℤ) (rows : List B) → sum (scale k ys) f rows ≡ k *ℤ sum ys f rows
  unfolding sum
  sum_scale_weights k ys f rows = dot_scale k ys (map f rows)

  pub sum_less_weights : (ys zs : List ℤ) (f : B → ℤ) (rows : List B) → sum (less ys zs) f rows ≡ sum ys f rows -ℤ sum zs f rows
  unfolding sum
  sum_less_weights ys zs f rows = dot_less ys zs (map f rows)

  pub sum_zeros : (n : ℕ) (f : B → ℤ) (rows : List B) → sum (replicate n (pos 0)) f rows ≡ pos 0
  unfolding sum
  sum_zeros n f rows = dot_zeros n (map f rows)

  pub sum_append : (ys zs : List ℤ) (f : B → ℤ) (rows more : List B) → length ys ≡ length rows
      → sum (ys ++ zs) f (rows ++ more) ≡ sum ys f rows +ℤ sum zs f more
  unfolding sum
  sum_append ys zs f rows more h = rw map-append (dot_append ys (map f rows) zs (map f more) (h ∙ sym (length-map rows f)))

  -- a weighted sum of inequalities is an inequality
  pub sum_mono : (ys : List ℤ) (f g : B → ℤ) (rows : List B) → Each NonNeg ys → Each (λ b. f b ≤ℤ g b) rows → sum ys f rows ≤ℤ sum ys g rows
  unfolding sum dot Each
  sum_mono [] f g rows n h = ≤ℤ_refl (pos 0)
  sum_mono (y ∷ ys) f g [] n h = ≤ℤ_refl (pos 0)
  sum_mono (y ∷ ys) f g (r ∷ rows) n h = +ℤ-mono (mul_mono y n.0 h.0) (sum_mono ys f g rows n.1 h.1)

pub dot_mono : (ws xs ys : List ℤ) → Each NonNeg ws → ((i : ℕ) → get_or xs i (pos 0) ≤ℤ get_or ys i (pos 0)) → dot ws xs ≤ℤ dot ws ys
unfolding dot Each
dot_mono [] xs ys n h = ≤ℤ_refl (pos 0)
dot_mono (w ∷ ws) xs ys n h =
    rw (dot_cons w ws xs, dot_cons w ws ys)
    (+ℤ-mono (mul_mono w n.0 (h 0)) (dot_mono ws (drop 1 xs) (drop 1 ys) n.1 (λ i. rw (get_d_tail xs i, get_d_tail ys i) (h (suc i)))))

-- ---- sizes

pub dot_bound : (a b : ℕ) (ys xs : List ℤ) → Within a ys → Within b xs → nat_abs (dot ys xs) ≤ length ys * (a * b)
unfolding dot
dot_bound a b [] xs h k = omega arith
dot_bound a b (y ∷ ys) [] h k = omega arith
dot_bound a b (y ∷ ys) (x ∷ xs) h k =
    omega (
      arith,
      abs_add (y *ℤ x) (dot ys xs),
      abs_product y x (h 0) (k 0),
      dot_bound a b ys xs (λ i. h (suc i)) (λ i. k (suc i)),
    )

pub within_map : {B : Type 0} (b : ℕ) (f : B → ℤ) (rows : List B) → Each (λ r. nat_abs (f r) ≤ b) rows → Within b (map f rows)
unfolding Each
within_map b f [] h i = omega arith
within_map b f (r ∷ rows) h zero = h.0
within_map b f (r ∷ rows) h (suc i) = within_map b f rows h.1 i

pub sum_bound : {B : Type 0} (a b : ℕ) (ys : List ℤ) (f : B → ℤ) (rows : List B) → Within a ys → Each (λ r. nat_abs (f r) ≤ b) rows
    → nat_abs (sum ys f rows) ≤ length ys * (a * b)
unfolding sum
sum_bound a b ys f rows h k = dot_bound a b ys (map f rows) h (within_map b f rows k)

-- ---- a column total that takes one row after another equals the sum over the whole list

pub running_dot : (s : ℤ) (ys xs : List ℤ) → running s ys xs ≡ s +ℤ dot ys xs
unfolding running dot
running_dot s [] xs = sym (+ℤ_idr s)
running_dot s (y ∷ ys) [] = sym (+ℤ_idr s)
running_dot s (y ∷ ys) (x ∷ xs) = running_dot (s +ℤ y *ℤ x) ys xs ∙ +ℤ_assoc s (y *ℤ x) (dot ys xs)

pub running_sum : {B : Type 0} (ys : List ℤ) (f : B → ℤ) (rows : List B) → running (pos 0) ys (map f rows) ≡ sum ys f rows
unfolding sum
running_sum ys f rows = running_dot (pos 0) ys (map f rows) ∙ +ℤ_idl (dot ys (map f rows))
