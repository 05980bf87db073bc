-- The round trips, of the calls themselves: whatever answers meet the contracts, what one call wrote and the other got gives the first bytes again.
-- The contracts are those that the check sees, `Learnt`; what was lent is read off the call, `now` before it and at its exit.
use mathlib.Core.Path.{◌≡◌, ◌∙◌}
use Prim.Native.Nat.{ℕ, ◌≤◌}
use mathlib.Core.List.{List}
use lib.ListN.{length, take}
use contract.Lifetimes.{Lfts}
use denote.Bor.{Bor}
use denote.MutBor.{MutBor}
use denote.Triple.Clauses.{AtExit}
use borrow.Fn.Kinds.{ended_of}
use Rattle.endian.specs.Numbers.{Bytes}
use Rattle.record.specs.declared.Writing.{Writing}
use Rattle.record_short.proofs.ThereAndBack.{Holds, shorten_then_lengthen, lengthen_then_shorten}
use Rattle.record_short_write.proofs.shorten.Kinds as shorten-kinds
use Rattle.record_short_write.proofs.shorten.Reads as shorten-reads
use Rattle.record_short_write.proofs.lengthen.Kinds as lengthen-kinds
use Rattle.record_short_write.proofs.lengthen.Reads as lengthen-reads

-- each call: its parameters at exit, and what is learnt of an answer to its arguments
abbrev AfterShorten : Lfts 2 → Type 0
AfterShorten κs = AtExit (ended_of 2 shorten-kinds.ps shorten-kinds.r) κs

abbrev Shortened : (κs : Lfts 2) (bytes : Bor (List ℕ)) (n m : ℕ) (room : MutBor (List ℕ)) → Writing → AfterShorten κs → Type 0
Shortened κs bytes n m room = shorten-reads.Learnt κs (bytes, (n, (m, (room, tt))))

abbrev AfterLengthen : Lfts 2 → Type 0
AfterLengthen κs = AtExit (ended_of 2 lengthen-kinds.ps lengthen-kinds.r) κs

abbrev Lengthened : (κs : Lfts 2) (bytes : Bor (List ℕ)) (n m : ℕ) (room : MutBor (List ℕ)) → Writing → AfterLengthen κs → Type 0
Lengthened κs bytes n m room = lengthen-reads.Learnt κs (bytes, (n, (m, (room, tt))))

-- `moved` are the bytes that the first call wrote, `next` the room of the second
module _ (bytes : Bor (List ℕ)) (n m : ℕ) (moved : Bor (List ℕ)) (room next : MutBor (List ℕ)) (all : Bytes bytes.now) (fits : length bytes.now ≤ length next.now)
    (κs λs : Lfts 2) (s : AfterShorten κs) (t : AfterLengthen λs) {v w : Writing} where
  pub shortened_then_lengthened : Shortened κs bytes n m room v s → v.number ≡ 0 → moved.now ≡ take v.written s.1.1.1.0.now
      → Lengthened λs moved n m next w t → Holds w next.now t.1.1.1.0.now bytes.now
  shortened_then_lengthened first zero same second =
      let back = shorten_then_lengthen bytes.now n m room.now next.now all fits (rw first.0 at zero) in
      let second' = rw (same, first.0, first.1) at second in
      record { answers = second'.0 ∙ back.answers; room_holds = second'.1 ∙ back.room_holds }

  pub lengthened_then_shortened : Lengthened λs bytes n m room v t → v.number ≡ 0 → moved.now ≡ take v.written t.1.1.1.0.now
      → Shortened κs moved n m next w s → Holds w next.now s.1.1.1.0.now bytes.now
  lengthened_then_shortened first zero same second =
      let back = lengthen_then_shorten bytes.now n m room.now next.now all fits (rw first.0 at zero) in
      let second' = rw (same, first.0, first.1) at second in
      record { answers = second'.0 ∙ back.answers; room_holds = second'.1 ∙ back.room_holds }
