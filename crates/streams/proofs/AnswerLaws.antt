-- The laws of steps, test by test, and of bytes that several calls move. Assumes nothing.
use Rattle.std.proofs.Common.{◌≡◌, ℕ, zero, suc, ◌+◌, ◌-◌, ◌≤◌, ⊎_elim, min, Bool, true, false, true≢false, cond, not, ◌&&◌, ◌||◌, eqb, ℤ, pos, negsuc, arith, List, [], ◌∷◌, ◌++◌, length, take, drop, Result, Ok, Err, None, Some, Option, refl, sym, ap, ◌∙◌, subst, take-take, take-append-drop, append-nil}
use Rattle.std.proofs.lemmas.Bool.{ne_eqb, lt-leb}
use Rattle.std.proofs.lemmas.Bool.Decides.{eqb_tells}
use Rattle.std.proofs.lemmas.List.{drop-take, take_min, take_rest, take-append-le}
use Rattle.std.proofs.KnownBytes.{Consumes-nil, Consumes-kept, Consumes-trans, Appends-trans}
use Rattle.std.proofs.Math.Seq.{take-append-add}
use Rattle.std.specs.Io.KnownBytes.{Keeps, Appends, Consumes, ReadConsumes, WriteAppends}
use Rattle.std.specs.declared.io.Error.{Error}
use Rattle.std.specs.declared.io.ErrorKind.{ErrorKind}
use Rattle.std.specs.declared.io.ErrorKind.TheVariants.{Interrupted, WouldBlock}
use Rattle.std.specs.IoError.{error_kind, os_error_kind, os_error_kinds, kind_in}
use Rattle.streams.specs.SystemAnswers.{passes, passes_number, step_of, StepConsumes, StepAppends}
use Rattle.streams.specs.declared.Step.TheVariants.{Moved, Nothing, Again, Failed}

-- ---- the errors that pass

pub passes-not : (error : ErrorKind) → (error ≡ WouldBlock → ⊥) → (error ≡ Interrupted → ⊥) → false ≡ passes error
unfolding passes
passes-not Interrupted blocks interrupted = absurd (interrupted refl)
passes-not WouldBlock blocks interrupted = absurd (blocks refl)
passes-not _ blocks interrupted = refl

-- the rows of a table in which only 4 and 11 have a kind that passes
two_pass : List (ℕ × ErrorKind) → Bool
two_pass [] = true
two_pass (row ∷ rows) = (eqb row.0 4 || eqb row.0 11 || not (passes row.1)) && two_pass rows

second : (a b : Bool) → (a && b) ≡ true → b ≡ true
second true b both = both
second false b both = absurd (true≢false (sym both))

not_first : (a b : Bool) → (not a && b) ≡ true → a ≡ false
not_first true b both = absurd (true≢false (sym both))
not_first false b both = refl

-- the two numbers aside, such a table gives no kind that passes
others_not : (rows : List (ℕ × ErrorKind)) (number : ℕ) → two_pass rows ≡ true → (number ≡ 4 → ⊥) → (number ≡ 11 → ⊥) → passes (kind_in rows number) ≡ false
unfolding passes two_pass
others_not [] number only four eleven = refl
others_not (row ∷ rows) number only four eleven =
    ⊎_elim (λ here. rw here.0 (listed (λ e. four (here.1 ∙ e)) (λ e. eleven (here.1 ∙ e)))) (λ below. rw below.0 (others_not rows number (second _ _ only) four eleven))
    (eqb_tells number row.0)
  where
    listed : (row.0 ≡ 4 → ⊥) → (row.0 ≡ 11 → ⊥) → passes row.1 ≡ false
    listed not_four not_eleven = not_first (passes row.1) (two_pass rows) (rw (ne_eqb row.0 4 not_four, ne_eqb row.0 11 not_eleven) at only)

listed_kind : (number : ℕ) → os_error_kind (pos number) ≡ kind_in os_error_kinds number
unfolding os_error_kind
listed_kind number = rw (lt-leb (suc number) 0 (omega arith)) refl

other_kind : (number : ℕ) → (number ≡ 4 → ⊥) → (number ≡ 11 → ⊥) → passes (os_error_kind (pos number)) ≡ false
unfolding passes two_pass
other_kind number four eleven = ap passes (listed_kind number) ∙ others_not os_error_kinds number refl four eleven

other_number : (number : ℕ) → eqb number 4 ≡ false → eqb number 11 ≡ false → false ≡ passes_number (pos number)
unfolding passes_number
other_number number four eleven = rw (four, eleven) refl

pub passes_by_number : (error : ℤ) → passes (os_error_kind error) ≡ passes_number error
unfolding passes passes_number os_error_kind
passes_by_number (pos error) =
    ⊎_elim (λ four. rw four.1 refl)
    (λ four. ⊎_elim (λ eleven. rw eleven.1 refl) (λ eleven. other_kind error four.1 eleven.1 ∙ other_number error four.0 eleven.0) (eqb_tells error 11))
    (eqb_tells error 4)
passes_by_number (negsuc error) = refl

-- ---- the answers, test by test

pub step-nothing : (count most : ℕ) → count ≡ 0 → Nothing ≡ step_of (Ok count) most
unfolding step_of
step-nothing count most none = rw none

pub step-moved : (count most : ℕ) → (count ≡ 0 → ⊥) → Moved (min count most) ≡ step_of (Ok count) most
unfolding step_of
step-moved zero most some = absurd (some refl)
step-moved (suc count) most some = refl

pub step-again : (error : Error) (most : ℕ) → true ≡ passes (error_kind error) → Again ≡ step_of (Err error) most
unfolding step_of
step-again error most pass = ap (λ b. cond b Again (Failed error)) pass

pub step-failed : (error : Error) (most : ℕ) → false ≡ passes (error_kind error) → Failed error ≡ step_of (Err error) most
unfolding step_of
step-failed error most pass = ap (λ b. cond b Again (Failed error)) pass

-- what a failed call means, by the system's number of its error
pub step_by_number : (error : Error) (number : ℤ) (most : ℕ) → error_kind error ≡ os_error_kind number
    → step_of (Err error) most ≡ cond (passes_number number) Again (Failed error)
unfolding step_of
step_by_number error number most kind = ap (λ b. cond b Again (Failed error)) (ap passes kind ∙ passes_by_number number)

-- single answers: the end, an interrupted call, a moment's emptiness, and a failure (EIO is 5)
pub answers_told : (interrupted blocked broken : Error) → error_kind interrupted ≡ os_error_kind (pos 4) → error_kind blocked ≡ os_error_kind (pos 11)
    → error_kind broken ≡ os_error_kind (pos 5)
    → (step_of (Ok 0) 8 ≡ Nothing) × (step_of (Err interrupted) 8 ≡ Again) × (step_of (Err blocked) 8 ≡ Again) × (step_of (Err broken) 8 ≡ Failed broken)
unfolding passes_number
answers_told interrupted blocked broken four eleven five = (
  sym (step-nothing 0 8 refl),
  sym (step-again interrupted 8 (sym (ap passes four ∙ passes_by_number (pos 4)))),
  sym (step-again blocked 8 (sym (ap passes eleven ∙ passes_by_number (pos 11)))),
  sym (step-failed broken 8 (sym (ap passes five ∙ passes_by_number (pos 5)))),
)

-- ---- what a read or a write did to known bytes

none-read : (old new : Option (List ℕ)) → Consumes old new [] → Keeps old new
none-read None new read = tt
none-read (Some xs) None read = absurd read
none-read (Some xs) (Some ys) read = sym read

none-written : (old new : Option (List ℕ)) → Appends old new [] → Keeps old new
none-written None new written = tt
none-written (Some xs) None written = absurd written
none-written (Some xs) (Some ys) written = written ∙ append-nil xs

unread : (old new : Option (List ℕ)) (error : Error) (buf : List ℕ) (pass : Bool) → Keeps old new → StepConsumes old new (cond pass Again (Failed error)) buf
unread old new error buf true kept = kept
unread old new error buf false kept = kept

unwritten : (old new : Option (List ℕ)) (error : Error) (buf : List ℕ) (pass : Bool) → Keeps old new → StepAppends old new (cond pass Again (Failed error)) buf
unwritten old new error buf true kept = kept
unwritten old new error buf false kept = kept

pub step-consumes : (old new : Option (List ℕ)) (got : Result ℕ Error) (buf : List ℕ) → ReadConsumes old new got buf → StepConsumes old new (step_of got (length buf)) buf
unfolding step_of
step-consumes old new (Ok zero) buf read = (none-read old new read.0, read.1 refl)
step-consumes old new (Ok (suc count)) buf read = subst (Consumes old new) (sym (take_min (suc count) buf)) read.0
step-consumes old new (Err error) buf kept = unread old new error buf (passes (error_kind error)) kept

pub step-appends : (old new : Option (List ℕ)) (got : Result ℕ Error) (buf : List ℕ) → WriteAppends old new got buf → StepAppends old new (step_of got (length buf)) buf
unfolding step_of
step-appends old new (Ok zero) buf written = none-written old new written
step-appends old new (Ok (suc count)) buf written = subst (Appends old new) (sym (take_min (suc count) buf)) written
step-appends old new (Err error) buf kept = unwritten old new error buf (passes (error_kind error)) kept

-- ---- in several calls

kept-read : (old new : Option (List ℕ)) → Keeps old new → Consumes old new []
kept-read old new kept = Consumes-kept old old new [] (Consumes-nil old) kept

kept-written : (old new : Option (List ℕ)) → Keeps old new → Appends old new []
kept-written None new kept = tt
kept-written (Some xs) None kept = absurd kept
kept-written (Some xs) (Some ys) kept = kept ∙ sym (append-nil xs)

-- what was read into a part lies behind what was read before it
pub read-on : (a b c : Option (List ℕ)) (front part rest : List ℕ) (size count to : ℕ) → length front ≡ size → count ≤ length part → to ≡ size + count → Consumes a b front
    → Consumes b c (take count part) → Consumes a c (take to (front ++ (part ++ rest)))
read-on a b c front part rest size count to long within sum first second =
    let parts : take to (front ++ (part ++ rest)) ≡ front ++ take count part =
    ap (λ n. take n (front ++ (part ++ rest))) (sum ∙ ap (λ n. n + count) (sym long)) ∙ take-append-add front (part ++ rest) count ∙ ap (λ l. front ++ l) (take-append-le count part rest within) in
    subst (Consumes a c) (sym parts) (Consumes-trans a b c _ _ first second)

-- a read that moved nothing leaves what was read before it
pub read-no-more : (a b c : Option (List ℕ)) (front part rest : List ℕ) (size to : ℕ) → length front ≡ size → to ≡ size → Consumes a b front → Keeps b c
    → Consumes a c (take to (front ++ (part ++ rest)))
read-no-more a b c front part rest size to long same first kept =
    read-on a b c front part rest size 0 to long (omega arith) (omega (arith, same)) first (kept-read b c kept)

-- the first bytes of a text, in two parts
in-parts : (list : List ℕ) (size to : ℕ) → size ≤ to → take to list ≡ take size list ++ drop size (take to list)
in-parts list size to grows = sym (take-append-drop size (take to list)) ∙ ap (λ l. l ++ drop size (take to list)) (take-take size to list grows)

pub written-on : (a b c : Option (List ℕ)) (text : List ℕ) (size to : ℕ) → size ≤ to → Appends a b (take size text) → Appends b c (drop size (take to text)) → Appends a c (take to text)
written-on a b c text size to grows first second =
    subst (Appends a c) (sym (in-parts text size to grows)) (Appends-trans a b c _ _ first second)

-- what was written of the rest of a text lies behind what was written before it
pub written-more : (a b c : Option (List ℕ)) (text : List ℕ) (size count to : ℕ) → to ≡ size + count → Appends a b (take size text)
    → Appends b c (take count (take (length text - size) (drop size text))) → Appends a c (take to text)
written-more a b c text size count to sum first second =
    let behind : drop size (take to text) ≡ take count (take (length text - size) (drop size text)) =
    ap (λ n. drop size (take n text)) sum ∙ drop-take size count text ∙ ap (take count) (sym (take_rest text size)) in
    written-on a b c text size to (omega (arith, sum)) first (subst (Appends b c) (sym behind) second)

-- a write that moved nothing leaves what was written before it
pub written-no-more : (a b c : Option (List ℕ)) (text : List ℕ) (size to : ℕ) → to ≡ size → Appends a b (take size text) → Keeps b c → Appends a c (take to text)
written-no-more a b c text size to same first kept = written-more a b c text size 0 to (omega (arith, same)) first (kept-written b c kept)
