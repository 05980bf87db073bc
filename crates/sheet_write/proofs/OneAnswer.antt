-- The promises of `sheet` and `room_needed` leave one possible answer: two answers, of a sheet each with its room afterwards, that meet the call's contract on
-- the same input are equal. The contract is the one that the check sees, `Learnt`.
use mathlib.Core.Path.{refl, sym, ◌∙◌}
use Rattle.refusal.specs.Single.{Single}
use Rattle.sheet_write.proofs.sheet.Kinds as sheet-kinds
use Rattle.sheet_write.proofs.sheet.Reads as sheet-reads
use Rattle.sheet_write.proofs.room_needed.Kinds as room-kinds
use Rattle.sheet_write.proofs.room_needed.Reads as room-reads

-- lent: the room for the text
pub one_answer : Single 2 sheet-kinds.ps sheet-kinds.r sheet-reads.Learnt (λ κs s. s.1.0.now)
one_answer κs a x y s t p q = (p.0 ∙ sym q.0, p.1 ∙ sym q.1)

-- lent: nothing
pub one_answer_room_needed : Single 0 room-kinds.ps room-kinds.r room-reads.Learnt {L = Unit {0}} (λ κs s. tt)
one_answer_room_needed κs a x y s t p q = (p ∙ sym q, refl)
