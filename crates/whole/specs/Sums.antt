-- Sums over lists of whole numbers and over lists of rows. A list that is too short counts as if zeros followed.
use Rattle.std.specs.Prelude.{ℕ, zero, suc, ◌≤◌, List, [], ◌∷◌, map, ℤ, pos, negsuc, nat_abs, ◌+ℤ◌, ◌*ℤ◌, get_or, ◌≤ℤ◌}

-- x₀·y₀ + x₁·y₁ + ..
unfoldable pub dot : List ℤ → List ℤ → ℤ
dot [] ys = pos 0
dot (x ∷ xs) [] = pos 0
dot (x ∷ xs) (y ∷ ys) = x *ℤ y +ℤ dot xs ys

-- the weighted sum over rows: Σ of weight times the row's number
unfoldable pub sum : {B : Type 0} → List ℤ → (B → ℤ) → List B → ℤ
sum weights f rows = dot weights (map f rows)

-- 01, "Conditions": the column total that takes one row after another; what it has so far, the multipliers and the entries to come
unfoldable pub running : ℤ → List ℤ → List ℤ → ℤ
running so_far [] entries = so_far
running so_far (y ∷ ys) [] = so_far
running so_far (y ∷ ys) (e ∷ es) = running (so_far +ℤ y *ℤ e) ys es

-- f 0 + .. + f (n - 1), the last added last
unfoldable pub total : ℕ → (ℕ → ℤ) → ℤ
total zero f = pos 0
total (suc n) f = total n f +ℤ f n

-- f 0, .. , f (n - 1) as a list
unfoldable pub tabulate : {B : Type 0} → ℕ → (ℕ → B) → List B
tabulate zero f = []
tabulate (suc n) f = f 0 ∷ tabulate n (λ i. f (suc i))

-- every entry times k
unfoldable pub scale : ℤ → List ℤ → List ℤ
scale k xs = map (λ x. k *ℤ x) xs

-- two lists, entry by entry
unfoldable pub add : List ℤ → List ℤ → List ℤ
add [] ys = ys
add (x ∷ xs) [] = x ∷ xs
add (x ∷ xs) (y ∷ ys) = (x +ℤ y) ∷ add xs ys

-- xs - ys, entry by entry
unfoldable pub less : List ℤ → List ℤ → List ℤ
less xs ys = add xs (scale (negsuc 0) ys)

-- a statement holds of each one of a list
unfoldable pub Each : {B : Type 0} → (B → Type 0) → List B → Type 0
Each P [] = Unit {0}
Each P (b ∷ bs) = P b × Each P bs

-- not below 0
abbrev pub NonNeg : ℤ → Type 0
NonNeg z = pos 0 ≤ℤ z

-- no entry is larger than `bound`, whatever its sign
abbrev pub Within : ℕ → List ℤ → Type 0
Within bound xs = (i : ℕ) → nat_abs (get_or xs i (pos 0)) ≤ bound
