-- A batch is judging one by one (`as_one_by_one`): verdict i is that of record i with stretch i as its rank list, stretch i afterwards is what that judging leaves of
-- it, and the numbers past the last stretch stay. And the law of one turn, for the code: what the first i + 1 records leave comes from what the first i leave.
use mathlib.Core.Path.{◌≡◌, refl, sym, ap, ◌∙◌}
use Prim.Native.Nat.{ℕ, zero, suc, ◌+◌, ◌*◌, ◌≤◌, ◌<◌}
use mathlib.Core.List.{List, [], ◌∷◌, ◌++◌, append_assoc}
use native.Mathlib.Omega.{arith}
use lib.IntN.{ℤ}
use lib.ListN.{length, get_or, take, drop, length-append, length-take, length-drop}
use lib.Seq.{length-take-le, take_at, drop-drop, take-append-add, drop-append-add}
use Rattle.verdict.specs.declared.Verdict.{Verdict}
use Rattle.verdict_short.specs.Answers.{answered, rank_answered}
use Rattle.verdict_batch.specs.Batches.{variables, verdicts_in_turn, ranks_in_turn, stretch, with_stretch}
use Rattle.verdict_batch.proofs.RankLengths.{rank_keeps}

one_more : (n i : ℕ) → n + n * i ≡ n * suc i
one_more n i = omega arith

module _ (loopbytes : List ℕ) where
  abbrev n : ℕ
  n = variables loopbytes

  -- ---- verdicts

  pub verdicts_length : (certificates : List (List ℕ)) (ranks : List ℤ) → length (verdicts_in_turn loopbytes certificates ranks) ≡ length certificates
  unfolding verdicts_in_turn
  verdicts_length [] ranks = refl
  verdicts_length (c ∷ certificates) ranks = ap suc (verdicts_length certificates (drop n ranks))

  first_stretch : (ranks : List ℤ) → stretch n 0 ranks ≡ take n ranks
  unfolding stretch
  first_stretch ranks = let none : n * 0 ≡ 0 = omega arith in rw none

  -- a stretch of what is left after the first is the next of all
  next_stretch : (i : ℕ) (ranks : List ℤ) → stretch n i (drop n ranks) ≡ stretch n (suc i) ranks
  unfolding stretch
  next_stretch i ranks = ap (take n) (drop-drop (n * i) n ranks ∙ ap (λ k. drop k ranks) (one_more n i))

  pub as_one_by_one : (i : ℕ) (certificates : List (List ℕ)) (ranks : List ℤ) (z : Verdict) → i < length certificates
      → get_or (verdicts_in_turn loopbytes certificates ranks) i z ≡ answered loopbytes (get_or certificates i []) (stretch n i ranks)
  unfolding verdicts_in_turn
  as_one_by_one i [] ranks z less = absurd (omega arith)
  as_one_by_one zero (c ∷ certificates) ranks z less = ap (answered loopbytes c) (sym (first_stretch ranks))
  as_one_by_one (suc i) (c ∷ certificates) ranks z less =
      as_one_by_one i certificates (drop n ranks) z (omega arith) ∙ ap (answered loopbytes (get_or certificates i [])) (next_stretch i ranks)

  -- ---- rank numbers

  pub ranks_length : (certificates : List (List ℕ)) (ranks : List ℤ) → length (ranks_in_turn loopbytes certificates ranks) ≡ length ranks
  unfolding ranks_in_turn
  ranks_length [] ranks = refl
  ranks_length (c ∷ certificates) ranks =
      length-append (rank_answered loopbytes c (take n ranks)) (ranks_in_turn loopbytes certificates (drop n ranks))
      ∙ omega (arith, rank_keeps loopbytes c (take n ranks), ranks_length certificates (drop n ranks), length-take n ranks, length-drop n ranks)

  -- the first stretch, with room for it, is n numbers
  first_length : (c : List ℕ) (ranks : List ℤ) → n ≤ length ranks → length (rank_answered loopbytes c (take n ranks)) ≡ n
  first_length c ranks room = rank_keeps loopbytes c (take n ranks) ∙ length-take-le n ranks room

  with_first : (ranks other : List ℤ) → with_stretch n 0 other ranks ≡ other ++ drop n ranks
  unfolding with_stretch
  with_first ranks other =
      let none : n * 0 ≡ 0 = omega arith in
      let past : n * 0 + n ≡ n = omega arith in
      rw (past, none) refl

  -- behind n numbers, the next stretch is the stretch of what follows
  stretch_behind : (front rest : List ℤ) (i : ℕ) → length front ≡ n → stretch n (suc i) (front ++ rest) ≡ stretch n i rest
  unfolding stretch
  stretch_behind front rest i long =
      let at : n * suc i ≡ length front + n * i = omega (arith, one_more n i, long) in
      rw (at, drop-append-add front rest (n * i))

  with_behind : (front rest other : List ℤ) (i : ℕ) → length front ≡ n → with_stretch n (suc i) other (front ++ rest) ≡ front ++ with_stretch n i other rest
  unfolding with_stretch
  with_behind front rest other i long =
      let at : n * suc i ≡ length front + n * i = omega (arith, one_more n i, long) in
      let past : n * suc i + n ≡ length front + (n * i + n) = omega (arith, one_more n i, long) in
      rw (past, at, drop-append-add front rest (n * i + n), take-append-add front rest (n * i)) (append_assoc front (take (n * i) rest) _)

  -- one turn: stretch i is as it was lent, and judging record i with it leads from what the records before leave to what they leave with it
  abbrev pub so_far : ℕ → List (List ℕ) → List ℤ → List ℤ
  so_far i certificates ranks = ranks_in_turn loopbytes (take i certificates) ranks

  pub one_turn : (i : ℕ) (certificates : List (List ℕ)) (ranks : List ℤ) → i < length certificates → n * length certificates ≤ length ranks
      → (stretch n i (so_far i certificates ranks) ≡ stretch n i ranks)
      × (so_far (suc i) certificates ranks
      ≡ with_stretch n i (rank_answered loopbytes (get_or certificates i []) (stretch n i ranks)) (so_far i certificates ranks))
  unfolding ranks_in_turn
  one_turn i [] ranks less room = absurd (omega arith)
  one_turn zero (c ∷ certificates) ranks less room = (refl, first_turn c ranks)
    where
      first_turn : (c : List ℕ) (ranks : List ℤ)
          → rank_answered loopbytes c (take n ranks) ++ drop n ranks ≡ with_stretch n 0 (rank_answered loopbytes c (stretch n 0 ranks)) ranks
      first_turn c ranks = rw (first_stretch ranks) (sym (with_first ranks (rank_answered loopbytes c (take n ranks))))
  one_turn (suc i) (c ∷ certificates) ranks less room =
      let after = one_turn i certificates (drop n ranks) (omega arith) (omega (arith, one_more n (length certificates), length-drop n ranks)) in
      let front = rank_answered loopbytes c (take n ranks) in
      let long = first_length c ranks (omega (arith, one_more n (length certificates))) in
      let rest = so_far i certificates (drop n ranks) in (
        stretch_behind front rest i long ∙ after.0 ∙ next_stretch i ranks,
        ap (λ xs. front ++ xs) after.1
            ∙ sym (with_behind front rest (rank_answered loopbytes (get_or certificates i []) (stretch n i (drop n ranks))) i long)
            ∙ ap (λ xs. with_stretch n (suc i) (rank_answered loopbytes (get_or certificates i []) xs) (front ++ rest)) (next_stretch i ranks),
      )

  -- ---- afterwards: each stretch as judging its record leaves it, and what is past the last as it was

  -- the stretch of what follows n numbers
  pub stretch_after : (i : ℕ) (certificates : List (List ℕ)) (ranks : List ℤ) → i < length certificates → n * length certificates ≤ length ranks
      → stretch n i (ranks_in_turn loopbytes certificates ranks) ≡ rank_answered loopbytes (get_or certificates i []) (stretch n i ranks)
  unfolding ranks_in_turn
  stretch_after i [] ranks less room = absurd (omega arith)
  stretch_after zero (c ∷ certificates) ranks less room =
      let front = rank_answered loopbytes c (take n ranks) in
      let long = first_length c ranks (omega (arith, one_more n (length certificates))) in
      first_stretch (front ++ ranks_in_turn loopbytes certificates (drop n ranks))
      ∙ take_at front (ranks_in_turn loopbytes certificates (drop n ranks)) n long
      ∙ ap (rank_answered loopbytes c) (sym (first_stretch ranks))
  stretch_after (suc i) (c ∷ certificates) ranks less room =
      let front = rank_answered loopbytes c (take n ranks) in
      let long = first_length c ranks (omega (arith, one_more n (length certificates))) in
      stretch_behind front (ranks_in_turn loopbytes certificates (drop n ranks)) i long
      ∙ stretch_after i certificates (drop n ranks) (omega arith) (omega (arith, one_more n (length certificates), length-drop n ranks))
      ∙ ap (rank_answered loopbytes (get_or certificates i [])) (next_stretch i ranks)

  pub past_last : (certificates : List (List ℕ)) (ranks : List ℤ) → n * length certificates ≤ length ranks
      → drop (n * length certificates) (ranks_in_turn loopbytes certificates ranks) ≡ drop (n * length certificates) ranks
  unfolding ranks_in_turn
  past_last [] ranks room = refl
  past_last (c ∷ certificates) ranks room =
      let front = rank_answered loopbytes c (take n ranks) in
      let rest = ranks_in_turn loopbytes certificates (drop n ranks) in
      let long = first_length c ranks (omega (arith, one_more n (length certificates))) in
      let at : n * suc (length certificates) ≡ length front + n * length certificates = omega (arith, one_more n (length certificates), long) in
      ap (λ k. drop k (front ++ rest)) at
      ∙ drop-append-add front rest (n * length certificates)
      ∙ past_last certificates (drop n ranks) (omega (arith, one_more n (length certificates), length-drop n ranks))
      ∙ drop-drop (n * length certificates) n ranks
      ∙ ap (λ k. drop k ranks) (one_more n (length certificates))
