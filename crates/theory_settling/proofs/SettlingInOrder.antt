-- What the tests of a settling tell, the rise and then the ranking: the shape in which code asks them. None of them tells 0.
use mathlib.Core.Path.{◌≡◌}
use native.Mathlib.Omega.{arith}
use Rattle.refusal.specs.Tests.{done, number, ◌then◌}
use Rattle.refusal.proofs.PlaceLaws.{first_append}
use Rattle.refusal.proofs.FaultLaws.{named_then}
use Rattle.theory.specs.Conditions.{weighed_told, ranking_told}
use Rattle.theory.specs.Loops.{Loop}
use Rattle.theory.proofs.Orders.{first_of}
use Rattle.theory.proofs.InOrder.{weighed_named, ranking_named}
use Rattle.theory_settling.specs.Settlings.{Settling, rising, longer}
use Rattle.theory_settling.specs.SettlingConditions.{settling_tests, settling_told}

module _ (loop : Loop) (c : Settling) where
  pub settling_in_order : settling_told loop c
      ≡ (weighed_told 61 62 63 loop.variables (rising loop c) then ranking_told (longer loop c) c.ranking)
  unfolding settling_told settling_tests weighed_told ranking_told
  settling_in_order = simp (first_append, first_of)

  pub settling_named : number (settling_told loop c) ≡ 0 → settling_told loop c ≡ done
  settling_named =
      rw settling_in_order
      (named_then _ _
      (weighed_named 61 62 63 loop.variables (rising loop c) (λ e. omega arith) (λ e. omega arith) (λ e. omega arith))
      (ranking_named (longer loop c) c.ranking))
