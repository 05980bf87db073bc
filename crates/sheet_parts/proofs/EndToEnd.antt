-- Laid end to end, the parts of a sheet are its text. And so is what was handed on, if each part came next in the text and together they have as many
-- bytes. Assumes nothing.
use mathlib.Core.Path.{◌≡◌, refl, sym, ap, ◌∙◌}
use Prim.Native.Nat.{ℕ, ◌+◌, ◌-◌, ◌≤◌}
use mathlib.Core.List.{List, [], ◌∷◌, ◌++◌, append-nil, flatten}
use native.Mathlib.Omega.{arith}
use lib.ListN.{length, take, drop, length-append, length-take, length-drop}
use lib.Seq.{take-add, take-length, take-append_seam, drop_at, drop-drop, length-take-le}
use Rattle.sheet_parts.specs.Parts.{to_come, Begins, Parts, the_last, one_more, Next, EachNext}
use Rattle.sheet_parts.specs.declared.Part.{Part}
use Rattle.sheet_parts.proofs.PartLaws.{nothing_to_come}

-- ---- the parts

pub parts_end_to_end : {input text : List ℕ} {parts : List (List ℕ)} → Parts input text parts → flatten parts ≡ text
unfolding flatten
parts_end_to_end {input} (the_last {part = part} begins end) = rw (← nothing_to_come input part.place part.count end) (sym begins.whole)
parts_end_to_end (one_more {room = room} {part = part} begins others) = ap (λ (l : List ℕ). take part.written room ++ l) (parts_end_to_end others) ∙ sym begins.whole

-- ---- what is handed on

-- it is the front of what was left
front : (text : List ℕ) (done : ℕ) (parts : List (List ℕ)) → EachNext text done parts → flatten parts ≡ take (length (flatten parts)) (drop done text)
unfolding flatten
front text done [] next = refl
front text done (part ∷ parts) next =
    rw (length-append, take-add, drop-drop)
    (ap (λ (l : List ℕ). l ++ flatten parts) (sym next.0) ∙ ap (λ (l : List ℕ). take (length part) (drop done text) ++ l) (front text (done + length part) parts next.1))

pub handed_on_end_to_end : (text : List ℕ) (parts : List (List ℕ)) → EachNext text 0 parts → length (flatten parts) ≡ length text → flatten parts ≡ text
handed_on_end_to_end text parts next all = front text 0 parts next ∙ rw (all, take-length)

-- what comes next lies within the text
pub next_within : (text part : List ℕ) (done : ℕ) → Next text done part → done ≤ length text → done + length part ≤ length text
next_within text part done next within = omega (arith, simp (length-take, length-drop) at (ap length next))

-- ---- a part that begins what was not handed on yet

module _ (text input room : List ℕ) (done : ℕ) (part : Part) (begins : Begins (drop done text) input room part) where
  abbrev bytes : List ℕ
  bytes = take part.written room

  size : length bytes ≡ part.written
  size = length-take-le part.written room begins.fits

  -- it comes next
  pub comes_next : Next text done bytes
  comes_next = rw begins.whole (take-append_seam bytes (to_come input part.place part.count))

  -- and then what is to come is not handed on yet
  pub then_to_come : drop (done + part.written) text ≡ to_come input part.place part.count
  then_to_come = sym (drop-drop part.written done text) ∙ ap (drop part.written) begins.whole ∙ drop_at bytes _ part.written size

  -- after the last part all was handed on
  pub all_handed_on : done ≤ length text → length input ≤ part.place → done + part.written ≡ length text
  all_handed_on within end =
      let left : length text - done ≡ part.written
      = sym (length-drop done text) ∙ ap length begins.whole ∙ rw (nothing_to_come input part.place part.count end, append-nil) size in
      omega arith
