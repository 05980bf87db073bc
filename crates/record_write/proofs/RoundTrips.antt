-- The round trips of the definitions, carried over to the calls: whatever answers meet the contracts of a reader and of the writer, bytes that are read and
-- written again come back, and so do values that are written and read back. The contracts are those that the check sees, `Learnt`; what was lent is read
-- off the call, `now` before it and at its exit.
use mathlib.Core.Path.{◌≡◌, ◌∙◌}
use Prim.Native.Nat.{ℕ, ◌≤◌}
use mathlib.Core.List.{List, ◌++◌}
use lib.IntN.{ℤ}
use lib.ListN.{length, take, drop}
use contract.Lifetimes.{Lfts}
use denote.Bor.{Bor}
use denote.MutBor.{MutBor}
use denote.Triple.Clauses.{AtExit}
use borrow.Fn.Kinds.{ended_of}
use Rattle.endian.specs.Numbers.{Bytes}
use Rattle.record.specs.declared.Reading.{Reading}
use Rattle.record.specs.declared.Writing.{Writing}
use Rattle.record.proofs.ReadThenWrite.{read_then_write_loop, read_then_write_certificate}
use Rattle.record.proofs.WriteThenRead.{write_then_read_loop, write_then_read_certificate}
use Rattle.record_read.proofs.read_loop.Kinds as loop-kinds
use Rattle.record_read.proofs.read_loop.Reads as loop-reads
use Rattle.record_read.proofs.read_certificate.Kinds as certificate-kinds
use Rattle.record_read.proofs.read_certificate.Reads as certificate-reads
use Rattle.record_write.proofs.write_record.Kinds as writer-kinds
use Rattle.record_write.proofs.write_record.Reads as writer-reads

-- each call: its parameters at exit, and what is learnt of an answer to its arguments
abbrev AfterLoop : Lfts 2 → Type 0
AfterLoop κs = AtExit (ended_of 2 loop-kinds.ps loop-kinds.r) κs

abbrev LoopRead : (κs : Lfts 2) (bytes : Bor (List ℕ)) (lent : MutBor (List ℤ)) → Reading → AfterLoop κs → Type 0
LoopRead κs bytes lent = loop-reads.Learnt κs (bytes, (lent, tt))

abbrev AfterCertificate : Lfts 2 → Type 0
AfterCertificate κs = AtExit (ended_of 2 certificate-kinds.ps certificate-kinds.r) κs

abbrev CertificateRead : (κs : Lfts 2) (bytes : Bor (List ℕ)) (n m : ℕ) (lent : MutBor (List ℤ)) → Reading → AfterCertificate κs → Type 0
CertificateRead κs bytes n m lent = certificate-reads.Learnt κs (bytes, (n, (m, (lent, tt))))

abbrev AfterWriting : Lfts 2 → Type 0
AfterWriting κs = AtExit (ended_of 2 writer-kinds.ps writer-kinds.r) κs

abbrev Written : (κs : Lfts 2) (kind n m : ℕ) (zs : Bor (List ℤ)) (room : MutBor (List ℕ)) → Writing → AfterWriting κs → Type 0
Written κs kind n m zs room = writer-reads.Learnt κs (kind, (n, (m, (zs, (room, tt)))))

-- a writing is done, and the room then begins with these bytes and is as it was past them
pub record Wrote (w : Writing) (room after bytes : List ℕ) : Type 0 where
  pub answers : w ≡ record { number = 0; place = 0; written = length bytes }
  pub room_holds : after ≡ bytes ++ drop (length bytes) room

-- a reading is done: what it answers, and the list afterwards
pub record Read (r : Reading) (lent after : List ℤ) (kind n m : ℕ) (zs : List ℤ) : Type 0 where
  pub answers : r ≡ record { number = 0; place = 0; kind = kind; n = n; m = m; count = length zs }
  pub list_holds : after ≡ zs ++ drop (length zs) lent

-- ---- read, then written: `given` are the values that were read

module _ (bytes : Bor (List ℕ)) (all : Bytes bytes.now) (lent : MutBor (List ℤ)) (room : MutBor (List ℕ)) (fits : length bytes.now ≤ length room.now)
    (κs λs : Lfts 2) (given : Bor (List ℤ)) {r : Reading} {w : Writing} (t : AfterWriting λs) where
  pub loop_read_then_written : (s : AfterLoop κs) → LoopRead κs bytes lent r s → r.number ≡ 0
      → given.now ≡ take r.count s.1.0.now
      → Written λs r.kind r.n r.m given room w t → Wrote w room.now t.1.1.1.1.0.now bytes.now
  loop_read_then_written s read zero same write =
      let done = read_then_write_loop bytes.now lent.now room.now all fits (rw read.0 at zero) in
      let write' = rw (same, read.0, read.1) at write in
      record { answers = write'.0 ∙ done.answers; room_holds = write'.1 ∙ done.room_holds }

  pub certificate_read_then_written : (n m : ℕ) (s : AfterCertificate κs) → CertificateRead κs bytes n m lent r s → r.number ≡ 0
      → given.now ≡ take r.count s.1.1.1.0.now
      → Written λs r.kind n m given room w t → Wrote w room.now t.1.1.1.1.0.now bytes.now
  certificate_read_then_written n m s read zero same write =
      let done = read_then_write_certificate bytes.now n m lent.now room.now all fits (rw read.0 at zero) in
      let write' = rw (same, read.0, read.1) at write in
      record { answers = write'.0 ∙ done.answers; room_holds = write'.1 ∙ done.room_holds }

-- ---- written, then read: `bytes` are those that were written

module _ (n m : ℕ) (zs : Bor (List ℤ)) (room : MutBor (List ℕ)) (lent : MutBor (List ℤ)) (fits : length zs.now ≤ length lent.now)
    (κs λs : Lfts 2) (bytes : Bor (List ℕ)) {w : Writing} {r : Reading} (t : AfterWriting λs) where
  pub loop_written_then_read : (s : AfterLoop κs) → Written λs 1 n m zs room w t → w.number ≡ 0
      → bytes.now ≡ take w.written t.1.1.1.1.0.now
      → LoopRead κs bytes lent r s → Read r lent.now s.1.0.now 1 n m zs.now
  loop_written_then_read s write zero same read =
      let done = write_then_read_loop n m zs.now room.now lent.now fits (rw write.0 at zero) in
      let read' = rw (same, write.0, write.1) at read in
      record { answers = read'.0 ∙ done.answers; list_holds = read'.1 ∙ done.list_holds }

  pub certificate_written_then_read : (kind : ℕ) → (kind ≡ 1 → ⊥) → (s : AfterCertificate κs) → Written λs kind n m zs room w t → w.number ≡ 0
      → bytes.now ≡ take w.written t.1.1.1.1.0.now
      → CertificateRead κs bytes n m lent r s → Read r lent.now s.1.1.1.0.now kind 0 0 zs.now
  certificate_written_then_read kind no_loop s write zero same read =
      let done = write_then_read_certificate kind n m zs.now room.now lent.now no_loop fits (rw write.0 at zero) in
      let read' = rw (same, write.0, write.1) at read in
      record { answers = read'.0 ∙ done.answers; list_holds = read'.1 ∙ done.list_holds }
