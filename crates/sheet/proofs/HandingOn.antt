-- What the bytes of a part are in the text, and what is read of an input that is too long. Assumes nothing.
use Rattle.std.proofs.Common.{◌≡◌, ℕ, ◌+◌, ◌≤◌, ◌<◌, ◌⊎◌, inl, inr, List, [], ◌++◌, length, take, drop, Option, None, Some, IfSome, sym, ap, ◌∙◌, subst, arith, take-take, append-nil, length-append, length-take-le}
use native.Mathlib.Decide.{dec_lt}
use lib.Seq.{take-length}
use Rattle.std.proofs.lemmas.List.{drop-take}
use Rattle.std.specs.Io.KnownBytes.{Appends, Consumes, IsAtEnd}
use Rattle.sheet_text.specs.Sheets.{sheet_text}
use Rattle.sheet_text.proofs.TextLaws.{text_too_long}
use Rattle.sheet_parts.specs.Parts.{Next}

-- the first bytes of a part that comes next in a text
pub handed_on : (old new : Option (List ℕ)) (text part : List ℕ) (done size : ℕ) → Next text done part → size ≤ length part → Appends old new (take size part)
    → Appends old new (drop done (take (done + size) text))
handed_on old new text part done size next within written =
    let behind : drop done (take (done + size) text) ≡ take size part =
    drop-take done size text ∙ sym (take-take size (length part) (drop done text) within) ∙ ap (take size) next in
    subst (Appends old new) (sym behind) written

-- ---- the input

-- two inputs that are too long have the same text
same_long : (short long : List ℕ) → 65_536 < length short → 65_536 < length long → sheet_text short ≡ sheet_text long
same_long short long a b = text_too_long short a ∙ sym (text_too_long long b)

-- the first bytes of an input have its text, if there are no more or they are too many already
same_text : (first rest : List ℕ) → (rest ≡ []) ⊎ (65_536 < length first) → sheet_text first ≡ sheet_text (first ++ rest)
same_text first rest (inl none) = ap sheet_text (sym (append-nil first) ∙ ap (λ l. first ++ l) (sym none))
same_text first rest (inr long) = same_long first (first ++ rest) long (rw length-append (omega (arith, long)))

-- what was read of an input is all of it, or too much
read_enough : (rest : List ℕ) (room : List ℕ) (size : ℕ) → length room ≡ 65_537 → size ≤ length room → (size < length room → rest ≡ []) → (rest ≡ []) ⊎ (65_536 < length (take size room))
read_enough rest room size long within end =
    elim (dec_lt size (length room)) [ yes less ↦ inl (end less) | no full ↦ inr (rw (length-take-le size room within) (omega (arith, full, long))) ]

pub whole_text : (a b old new : Option (List ℕ)) (room : List ℕ) (size printed : ℕ) → length room ≡ 65_537 → size ≤ length room → Consumes a b (take size room) → (size < length room → IsAtEnd b)
    → printed ≡ length (sheet_text (take size room)) → Appends old new (take printed (sheet_text (take size room))) → IfSome a (λ all. Appends old new (sheet_text all))
whole_text None b old new room size printed long within read end whole written = tt
whole_text (Some all) None old new room size printed long within read end whole written = absurd read
whole_text (Some all) (Some rest) old new room size printed long within read end whole written =
    let first = take size room in
    let text : take printed (sheet_text first) ≡ sheet_text all =
    ap (λ n. take n (sheet_text first)) whole ∙ take-length (sheet_text first) ∙ same_text first rest (read_enough rest room size long within end) ∙ ap sheet_text (sym read) in
    subst (Appends old new) text written
