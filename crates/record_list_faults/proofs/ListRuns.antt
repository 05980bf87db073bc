-- A run of values of one field, four at a time: their tests, what is answered behind them, and what is left.
use Rattle.std.specs.Prelude.{Ok}
use mathlib.Core.Path.{◌≡◌, refl, sym, ap, ◌∙◌}
use Prim.Native.Nat.{ℕ, suc, ◌+◌, ◌*◌, ◌-◌, ◌≤◌, ◌<◌}
use mathlib.Core.Bool.{Bool, true, false, ◌&&◌}
use mathlib.Core.List.{List, ◌∷◌, ◌++◌}
use native.Mathlib.Omega.{arith}
use lib.IntN.{ℤ, pos}
use lib.ListN.{length, drop, get_or, replicate, replicate-append-replicate, length-replicate, length-drop}
use lib.Seq.{drop-cons}
use Rattle.refusal.specs.Tests.{done}
use Rattle.refusal.proofs.FaultLaws.{gives, told_given}
use Rattle.record.specs.Fields.{width, Field, in_range}
use Rattle.record.specs.Ranges.{within}
use Rattle.record.proofs.Lengths.{widths_replicate}
use Rattle.record_fields.specs.Runs.{list_told, list_fault}
use Rattle.record_fields.proofs.FirstFaults.{before_all}
use Rattle.record_fields.proofs.ToldFaults.{fault_told-end}
use Rattle.record_list_faults.specs.declared.in_list.InList.{InList}
use Rattle.record_list_faults.specs.ListAnswers.{list_answer, list_has, list_in_parts}

four_tests : (a b c d : Bool) → (((a && b) && c) && d) ≡ (a && (b && (c && (d && true))))
four_tests true true true true = refl
four_tests true true true false = refl
four_tests true true false d = refl
four_tests true false c d = refl
four_tests false b c d = refl

module _ (f : Field) where
  pub in_range-none : (zs : List ℤ) → in_range (replicate 0 f) zs ≡ true
  unfolding in_range
  in_range-none zs = refl

  abbrev here : List ℤ → ℕ → Bool
  here zs index = within f.range (get_or zs index (pos 0))

  first_and_rest : (zs : List ℤ) (index next k : ℕ) → index < length zs → suc index ≡ next
      → in_range (replicate (suc k) f) (drop index zs) ≡ (here zs index && in_range (replicate k f) (drop next zs))
  unfolding in_range
  first_and_rest zs index next k there is = ap (in_range (replicate (suc k) f)) (drop-cons zs index (pos 0) there ∙ ap (λ n. get_or zs index (pos 0) ∷ drop n zs) is)

  -- the tests of four values
  pub in_range-four : (zs : List ℤ) (index : ℕ) (a b c d : Bool) → index + 4 ≤ length zs → a ≡ here zs index → b ≡ here zs (index + 1)
      → c ≡ here zs (index + 2) → d ≡ here zs (index + 3) → (((a && b) && c) && d) ≡ in_range (replicate 4 f) (drop index zs)
  in_range-four zs index a b c d there first second third fourth =
      let from_fourth = first_and_rest zs (index + 3) (index + 4) 0 (omega arith) (omega arith) ∙ ap (λ x. here zs (index + 3) && x) (in_range-none (drop (index + 4) zs)) in
      let from_third = first_and_rest zs (index + 2) (index + 3) 1 (omega arith) (omega arith) ∙ ap (λ x. here zs (index + 2) && x) from_fourth in
      let from_second = first_and_rest zs (index + 1) (index + 2) 2 (omega arith) (omega arith) ∙ ap (λ x. here zs (index + 1) && x) from_third in
      let all = first_and_rest zs index (index + 1) 3 (omega arith) (omega arith) ∙ ap (λ x. here zs index && x) from_second in
      four_tests a b c d ∙ rw (first, second, third, fourth) (sym all)

  -- as a loop goes by fours: none so far; and the source behind some of a run, and how many are left
  pub four_none : (s : InList) (count : ℕ) → Ok s ≡ list_answer s (replicate (count - count) f)
  four_none s count =
      let none : 0 ≡ count - count = omega arith in
      list_in_parts.none s ∙ ap (λ n. list_answer s (replicate n f)) none

  module _ (s : InList) (count : ℕ) (x : InList) (left : ℕ) (few : left ≤ count)
      (so_far : Ok x ≡ list_answer s (replicate (count - left) f)) where
    split : replicate count f ≡ replicate (count - left) f ++ replicate left f
    split =
        let sum : count ≡ (count - left) + left = omega arith in
        ap (λ n. replicate n f) sum ∙ sym (replicate-append-replicate (count - left) left f)

    -- the list stays
    pub same_length : length x.values.now ≡ length s.values.now
    same_length = ap (λ y. length y.values.now) (told_given (list_told (replicate (count - left) f) s.values.now s.index s.place) _ x so_far)

    pub rest_answer : list_answer x (replicate left f) ≡ list_answer s (replicate count f)
    rest_answer = rw split (list_in_parts.on s x (replicate (count - left) f) (replicate left f) so_far)

    module _ (has : list_has s (replicate count f)) where
      pub rest_there : list_has x (replicate left f)
      rest_there = list_in_parts.rest s x (replicate (count - left) f) (replicate left f) so_far (rw split at has)

      module _ (wide : ℕ) (sized : width f.form ≡ wide) (some : 4 ≤ left) where
        pub four_there : (x.index + 4 ≤ length x.values.now) × (x.place + 4 * wide ≤ 65536)
        four_there =
            let sum : left ≡ 4 + (left - 4) = omega arith in
            let parts : replicate left f ≡ replicate 4 f ++ replicate (left - 4) f = ap (λ n. replicate n f) sum ∙ sym (replicate-append-replicate 4 (left - 4) f) in
            let there = list_in_parts.front x (replicate 4 f) (replicate (left - 4) f) (rw parts at rest_there) in
            let bytes = rw sized at (widths_replicate 4 f) in
            (omega (arith, there.0, length-replicate 4 f), omega (arith, there.1, bytes))

        four_told : in_range (replicate 4 f) (drop x.index x.values.now) ≡ true → list_told (replicate 4 f) x.values.now x.index x.place ≡ done
        unfolding list_told list_fault
        four_told fit =
            let long : length (replicate 4 f) ≤ length (drop x.index x.values.now) = omega (arith, four_there.0, length-replicate 4 f, length-drop x.index x.values.now) in
            fault_told-end _ _ (omega (arith, before_all (replicate 4 f) (drop x.index x.values.now) long fit))

        pub four_more : in_range (replicate 4 f) (drop x.index x.values.now) ≡ true
            → Ok (record x { index = x.index + 4; place = x.place + 4 * wide }) ≡ list_answer s (replicate (count - (left - 4)) f)
        four_more fit =
            let y : InList = record x { index = x.index + 4; place = x.place + 4 * wide } in
            let one : Ok y ≡ list_answer x (replicate 4 f) = rw (widths_replicate 4 f, sized) (gives y (four_told fit)) in
            let sum : (count - left) + 4 ≡ count - (left - 4) = omega arith in
            one ∙ list_in_parts.on s x (replicate (count - left) f) (replicate 4 f) so_far
            ∙ ap (list_answer s) (replicate-append-replicate (count - left) 4 f ∙ ap (λ n. replicate n f) sum)
