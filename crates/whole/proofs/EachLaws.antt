-- Laws of `Each`: what holds of each one of a list.
use Prim.Native.Nat.{ℕ, zero, suc, ◌<◌}
use mathlib.Core.List.{List, [], ◌∷◌, ◌++◌}
use native.Mathlib.Omega.{arith}
use lib.ListN.{length, get_or}
use Rattle.whole.specs.Sums.{Each}

module _ {B : Type 0} (P : B → Type 0) where
  pub each_at : (bs : List B) (i : ℕ) (d : B) → Each P bs → i < length bs → P (get_or bs i d)
  unfolding Each
  each_at [] i d e h = absurd (omega arith)
  each_at (b ∷ bs) zero d e h = e.0
  each_at (b ∷ bs) (suc i) d e h = each_at bs i d e.1 (omega arith)

  pub each_by : (bs : List B) (d : B) → ((i : ℕ) → i < length bs → P (get_or bs i d)) → Each P bs
  unfolding Each
  each_by [] d h = tt
  each_by (b ∷ bs) d h = (h 0 (omega arith), each_by bs d (λ i k. h (suc i) (omega arith)))

  pub each_append : (xs ys : List B) → Each P xs → Each P ys → Each P (xs ++ ys)
  unfolding Each
  each_append [] ys e f = f
  each_append (x ∷ xs) ys e f = (e.0, each_append xs ys e.1 f)

  pub each_both : (Q R : B → Type 0) (bs : List B) → ((b : B) → P b → Q b → R b) → Each P bs → Each Q bs → Each R bs
  unfolding Each
  each_both Q R [] f e g = tt
  each_both Q R (b ∷ bs) f e g = (f b e.0 g.0, each_both Q R bs f e.1 g.1)

  pub each_then : (Q : B → Type 0) (bs : List B) → ((b : B) → P b → Q b) → Each P bs → Each Q bs
  unfolding Each
  each_then Q [] f e = tt
  each_then Q (b ∷ bs) f e = (f b e.0, each_then Q bs f e.1)
