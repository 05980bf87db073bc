-- What a source answers of fields in parts, as code meets it: equal parts one after another, as a loop walks along them. And how what is
-- told of fields, and how far they go, make such an answer.
use Rattle.std.specs.Prelude.{Result, Ok, Err}
use mathlib.Core.Path.{◌≡◌, refl, sym, ap, ◌∙◌}
use Prim.Native.Nat.{ℕ, zero, suc, ◌+◌, ◌*◌, ◌-◌, ◌^◌, ◌≤◌, ◌<◌}
use mathlib.Core.List.{List, [], ◌∷◌, ◌++◌, append_assoc, append-nil}
use native.Mathlib.Omega.{arith}
use lib.ListN.{length, replicate}
use Rattle.refusal.specs.declared.Fault.{Fault}
use Rattle.refusal.specs.Faults.{result_of}
use Rattle.refusal.specs.Tests.{Told, done, ◌then◌}
use Rattle.refusal.proofs.FaultLaws.{told_given, gives, gives_then, refuses_then}
use Rattle.record.specs.Fields.{Field, widths}
use Rattle.record.specs.Layouts.{rows_of}
use Rattle.record_fields.specs.Runs.{linear}
use Rattle.record_fields.specs.Sources.{InParts}
use Rattle.record_fields.proofs.BodyParts.{row_is}
use Rattle.record_fields.proofs.FirstFaults.{width_some}

-- ---- equal parts

pub record Repeats (part : List Field) (parts : ℕ → List Field) : Type 0 where
  pub none : parts 0 ≡ []
  pub more : (k : ℕ) → parts (suc k) ≡ part ++ parts k

pub replicate_repeats : (f : Field) → Repeats (f ∷ []) (λ k. replicate k f)
replicate_repeats f = record { none = refl; more = λ k. refl }

pub rows_repeat : (n : ℕ) → Repeats (linear (2 * n)) (rows_of n)
unfolding rows_of
rows_repeat n = record { none = refl; more = λ k. ap (λ fs. fs ++ rows_of n k) (row_is n) }

module _ {part : List Field} {parts : ℕ → List Field} (r : Repeats part parts) where
  parts_add : (a b : ℕ) → parts (a + b) ≡ parts a ++ parts b
  parts_add zero b = rw r.none (ap parts (omega arith))
  parts_add (suc a) b =
      let next : suc a + b ≡ suc (a + b) = omega arith in
      ap parts next ∙ r.more (a + b) ∙ rw (parts_add a b, r.more a) (sym (append_assoc part (parts a) (parts b)))

  parts_one : (k : ℕ) → parts (k + 1) ≡ parts k ++ part
  parts_one k = parts_add k 1 ∙ ap (λ fs. parts k ++ fs) (r.more 0 ∙ ap (λ fs. part ++ fs) r.none ∙ append-nil part)

  -- part k among them, and what comes after it
  parts_split : (count k : ℕ) → k < count → parts count ≡ parts k ++ (part ++ parts (count - suc k))
  parts_split count k below =
      let split : count ≡ k + suc (count - suc k) = omega arith in
      ap parts split ∙ parts_add k (suc (count - suc k)) ∙ ap (λ fs. parts k ++ fs) (r.more (count - suc k))

  module _ {S : Type 0} {answer : S → List Field → Result S Fault} {has : S → List Field → Type 0} (t : InParts answer has) (start : S) where
    -- as a loop meets them: the source behind k parts
    pub parts_start : Ok start ≡ answer start (parts 0)
    parts_start = rw r.none (t.none start)

    module _ (k : ℕ) (here : S) (so_far : Ok here ≡ answer start (parts k)) where
      pub parts_more : (x : S) → Ok x ≡ answer here part → Ok x ≡ answer start (parts (k + 1))
      parts_more x one = rw (parts_one k) (one ∙ t.on start here (parts k) part so_far)

      module _ (count : ℕ) (below : k < count) where
        pub parts_out : (f : Fault) → Err f ≡ answer here part → Err f ≡ answer start (parts count)
        parts_out f out = rw (parts_split count k below) (t.out here part (parts (count - suc k)) f out ∙ t.on start here (parts k) _ so_far)

        pub part_there : has start (parts count) → has here part
        part_there there = t.front here part _ (t.rest start here (parts k) _ so_far (rw (parts_split count k below) at there))

-- ---- an answer of what is told

-- a field takes a byte at least
pub few_fields : (fs : List Field) → length fs ≤ widths fs
unfolding widths
few_fields [] = omega arith
few_fields (f ∷ fs) = omega (arith, width_some f.form, few_fields fs)

-- what is told of fields, and what comes behind them, go with fields in two parts
pub record Tells {S : Type 0} (told : S → List Field → Told) (past : S → List Field → S) : Type 0 where
  pub told_none : (s : S) → told s [] ≡ done
  pub told_append : (s : S) (fs gs : List Field) → told s (fs ++ gs) ≡ (told s fs then told (past s fs) gs)
  pub past_none : (s : S) → past s [] ≡ s
  pub past_append : (s : S) (fs gs : List Field) → past s (fs ++ gs) ≡ past (past s fs) gs

module _ {S : Type 0} {told : S → List Field → Told} {past : S → List Field → S} (t : Tells told past) where
  -- and so does the answer of both
  pub in_parts : (has : S → List Field → Type 0) → ((s : S) (fs gs : List Field) → has s (fs ++ gs) → has s fs × has (past s fs) gs)
      → ((s : S) (fs : List Field) → has s fs → length fs < 2 ^ 63) → InParts (λ s fs. result_of (told s fs) (past s fs)) has
  in_parts has split few =
      record {
        none = λ s. rw t.past_none (gives s (t.told_none s));
        out = λ s fs gs f h. rw t.told_append (refuses_then (told s fs) _ f _ _ h);
        on = λ s x fs gs h. rw (told_given (told s fs) _ x h, t.told_append, t.past_append) (gives_then (told s fs) _ x _ _ h);
        front = λ s fs gs h. (split s fs gs h).0;
        rest = λ s x fs gs h there. rw (told_given (told s fs) _ x h) ((split s fs gs there).1);
        few = few;
      }
