-- Stores into a list, one after another.
use mathlib.Core.Path.{◌≡◌, sym, ap, ◌∙◌}
use Prim.Native.Nat.{ℕ, suc, ◌+◌, ◌≤◌}
use mathlib.Core.List.{List, [], ◌∷◌, ◌++◌}
use native.Mathlib.Nat.{add-zero, zero-add}
use native.Mathlib.Omega.{arith}
use lib.ListN.{length, drop, set}
use lib.Seq.{sets, sets-eq}

module _ {X : Type 0} where
  -- two runs of stores are one
  pub sets_append : (l : List X) (i : ℕ) (xs ys : List X) → sets l i (xs ++ ys) ≡ sets (sets l i xs) (i + length xs) ys
  sets_append l i [] ys = rw (add-zero i)
  sets_append l i (x ∷ xs) ys =
      let next : suc i + length xs ≡ i + suc (length xs) = omega arith in
      sets_append (set l i x) (suc i) xs ys ∙ ap (λ k. sets (sets (set l i x) (suc i) xs) k ys) next

  pub sets_both : (l : List X) (i next : ℕ) (xs ys : List X) {then last : List X} → then ≡ sets l i xs → last ≡ sets then next ys → next ≡ i + length xs → last ≡ sets l i (xs ++ ys)
  sets_both l i next xs ys first second from = second ∙ rw (first, from) (sym (sets_append l i xs ys))

  -- from the front
  pub sets_front : (l xs : List X) → length xs ≤ length l → sets l 0 xs ≡ xs ++ drop (length xs) l
  sets_front l xs h = sets-eq xs l 0 (omega arith) ∙ ap (λ k. xs ++ drop k l) (zero-add (length xs))
