-- What is told of a ranking's totals is told of the loop and the ranking that they are of; and how the rank is put. The laws speak of any loop
-- and ranking, so they serve a ranking of kind 2 and one over a longer loop.
use Rattle.std.specs.Prelude.{Option, Some, None, Result, Ok, Err}
use mathlib.Core.Path.{◌≡◌, sym, ap, ap₂, ◌∙◌}
use Prim.Native.Nat.{ℕ, suc, ◌+◌, ◌<◌}
use mathlib.Core.Bool.{true, false}
use mathlib.Core.List.{List, ◌++◌}
use native.Mathlib.Numerals.{add-one}
use lib.IntN.{ℤ, pos, neg_ℤ, ◌+ℤ◌}
use lib.ListN.{length, get_or, set, drop}
use lib.Seq.{drop-cons, append_snoc, set_at}
use lib.Signed.{lt_z}
use Rattle.refusal.specs.Tests.{Told, done, refused, ◌then◌}
use Rattle.refusal.specs.Places.{Throughout, told_once}
use Rattle.refusal.specs.Faults.{result_of}
use Rattle.refusal.specs.declared.Fault.{Fault}
use Rattle.refusal.proofs.PlaceLaws.{before_all, before_first, told_none, told_at, told_same, then_assoc}
use Rattle.whole.specs.Same.{same_z}
use Rattle.whole.specs.Sums.{sum, tabulate}
use Rattle.whole.proofs.Tables.{length_tabulate, tabulate_more, tabulate_same}
use Rattle.theory.specs.Conditions.{ranking_told}
use Rattle.theory.specs.Loops.{b, Loop}
use Rattle.theory.specs.Rankings.{Ranking, rank, start, fall}
use Rattle.theory.proofs.InOrder.{ranking_in_order}
use Rattle.judge_conditions.specs.Remembered.{first_failing}
use Rattle.judge_conditions.proofs.RememberedLaws.{told_nothing, told_remembered}
use Rattle.judge_ranking.specs.RankedBy.{next_in_sums, holds_at, column_told, columns_told, totals_told, Totalled, ranked_of, rank_put, RankedBy}
use Rattle.judge_ranking.specs.declared.Ranked.{Ranked}

-- ---- the rank, put into the front of a list one entry after another

pub put_more : (entry : ℕ → ℤ) (lent : List ℤ) (j : ℕ) → j < length lent
    → set (tabulate j entry ++ drop j lent) j (entry j) ≡ tabulate (j + 1) entry ++ drop (j + 1) lent
put_more entry lent j there =
    rw (add-one, drop-cons lent j (pos 0) there, tabulate_more j entry)
    (set_at (tabulate j entry) (get_or lent j (pos 0)) (drop (suc j) lent) (entry j) j (length_tabulate j entry) ∙ sym (append_snoc (tabulate j entry) (entry j) (drop (suc j) lent)))

-- ---- condition after condition

module _ (ys : List ℤ) (ylift : ℤ) (zs : List ℤ) (zlift : ℤ) (n : ℕ) where
  -- by one walk that ends at a column that fails the first, or has gone along all of them and remembered the others
  pub first_told : (j : ℕ) → j < n → holds_at 21 ys ylift zs zlift n j ≡ false → Throughout j (λ k. holds_at 21 ys ylift zs zlift n k ≡ true)
      → columns_told ys ylift zs zlift n ≡ refused 21 j
  unfolding columns_told column_told ◌then◌
  first_told j below fails before = rw (told_at 21 n (holds_at 21 ys ylift zs zlift n) j (sym (before_first n _ j below fails before)) below)

  module _ (all : Throughout n (λ k. holds_at 21 ys ylift zs zlift n k ≡ true)) (second third : Option ℕ)
      (second_is : second ≡ first_failing n (holds_at 22 ys ylift zs zlift n)) (third_is : third ≡ first_failing n (holds_at 23 ys ylift zs zlift n)) where
    past_first : columns_told ys ylift zs zlift n ≡ (column_told 22 ys ylift zs zlift n then column_told 23 ys ylift zs zlift n)
    unfolding columns_told column_told ◌then◌
    past_first = rw (told_none 21 n (holds_at 21 ys ylift zs zlift n) (before_all n _ all))

    pub second_told : (place : ℕ) → second ≡ Some place → columns_told ys ylift zs zlift n ≡ refused 22 place
    unfolding column_told ◌then◌
    second_told place found = past_first ∙ rw (told_remembered n (holds_at 22 ys ylift zs zlift n) 22 place (sym found ∙ second_is))

    past_second : second ≡ None → columns_told ys ylift zs zlift n ≡ column_told 23 ys ylift zs zlift n
    unfolding column_told ◌then◌
    past_second found = past_first ∙ rw (told_nothing n (holds_at 22 ys ylift zs zlift n) 22 (sym found ∙ second_is))

    pub third_told : (place : ℕ) → second ≡ None → third ≡ Some place → columns_told ys ylift zs zlift n ≡ refused 23 place
    unfolding column_told
    third_told place past found = past_second past ∙ told_remembered n _ 23 place (sym found ∙ third_is)

    pub none_told : second ≡ None → third ≡ None → columns_told ys ylift zs zlift n ≡ done
    unfolding column_told
    none_told past found = past_second past ∙ told_nothing n _ 23 (sym found ∙ third_is)

  -- the first three, then the fourth
  pub three_fail : (zb : ℤ) (k p : ℕ) → columns_told ys ylift zs zlift n ≡ refused k p → totals_told ys ylift zs zlift n zb ≡ refused k p
  unfolding totals_told ◌then◌
  three_fail zb k p h = rw h

  pub fourth_fails : (zb : ℤ) → columns_told ys ylift zs zlift n ≡ done → lt_z zb (pos 0) ≡ false → totals_told ys ylift zs zlift n zb ≡ refused 24 0
  unfolding totals_told ◌then◌ told_once
  fourth_fails zb h e = rw (h, e)

  pub all_hold : (zb : ℤ) → columns_told ys ylift zs zlift n ≡ done → lt_z zb (pos 0) ≡ true → totals_told ys ylift zs zlift n zb ≡ done
  unfolding totals_told ◌then◌ told_once
  all_hold zb h e = rw (h, e)

-- ---- what is then shown

pub shows_nothing : (told : Told) (k p : ℕ) (r : Result Ranked Fault) (start fall : ℤ) (entries lent : List ℤ) → told ≡ refused k p
    → r ≡ Err (record { number = k; place = p }) → (r ≡ ranked_of told start fall) × (lent ≡ rank_put told entries lent)
unfolding result_of rank_put
shows_nothing told k p r start fall entries lent h e = (e ∙ rw h, rw h)

pub shows_rank : (told : Told) (start fall : ℤ) (n : ℕ) (entry : ℕ → ℤ) (lent after : List ℤ) → told ≡ done → after ≡ tabulate n entry ++ drop n lent
    → (Ok (record { start = start; fall = fall }) ≡ ranked_of told start fall) × (after ≡ rank_put told (tabulate n entry) lent)
unfolding result_of rank_put
shows_rank told start fall n entry lent after h e = (rw h, e ∙ rw (h, length_tabulate n entry))

-- ---- the totals are those of a loop and a ranking

module _ (loop : Loop) (c : Ranking) (ys : List ℤ) (ylift : ℤ) (zs : List ℤ) (zlift : ℤ) (same : Totalled ys ylift zs zlift loop c) where
  pub told_of : totals_told ys ylift zs zlift loop.variables (sum c.Z b loop.rows) ≡ ranking_told loop c
  unfolding totals_told columns_told column_told holds_at
  told_of =
      rw (
        told_same 21 loop.variables _ _ (λ j below. ap (λ z. same_z z (pos 0)) (same j below).1),
        told_same 22 loop.variables _ _ (λ j below. ap₂ same_z (same j below).0 (same j below).2),
        told_same 23 loop.variables _ _ (λ j below. ap₂ (λ (x y : ℤ). same_z (x +ℤ y) (pos 0)) (same j below).2 (same j below).3),
        then_assoc,
        then_assoc,
      ) (sym (ranking_in_order loop c))

  rank_of : tabulate loop.variables (next_in_sums zs zlift loop.variables) ≡ rank loop c
  unfolding rank
  rank_of = tabulate_same loop.variables _ _ (λ j below. (same j below).3)

  pub ranked_by : (yb zb : ℤ) (r : Result Ranked Fault) (before after : List ℤ) → yb ≡ sum c.Y b loop.rows → zb ≡ sum c.Z b loop.rows
      → r ≡ ranked_of (totals_told ys ylift zs zlift loop.variables zb) (neg_ℤ yb) (neg_ℤ zb)
      → after ≡ rank_put (totals_told ys ylift zs zlift loop.variables zb) (tabulate loop.variables (next_in_sums zs zlift loop.variables)) before
      → RankedBy r (ranking_told loop c) loop c before after
  unfolding start fall
  ranked_by yb zb r before after y-is z-is shown put =
      record { shown = rw (y-is, z-is, told_of) at shown; put = rw (z-is, told_of, rank_of) at put }
