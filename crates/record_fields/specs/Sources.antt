-- Where the numbers of a body come from, bytes or a list of values: what is answered of fields in two parts.
use Rattle.std.specs.Prelude.{◌≡◌, ◌<◌, ◌^◌, List, [], ◌++◌, length, Result, Ok, Err}
use Rattle.refusal.specs.declared.Fault.{Fault}
use Rattle.record.specs.Fields.{Field}

-- a source's answer of fields is what comes behind them, or the fault of the first that is out of range; and it has as many numbers
pub record InParts {S : Type 0} (answer : S → List Field → Result S Fault) (has : S → List Field → Type 0) : Type 0 where
  pub none : (s : S) → Ok s ≡ answer s []
  -- the first part's fault is that of both
  pub out : (s : S) (fs gs : List Field) (f : Fault) → Err f ≡ answer s fs → Err f ≡ answer s (fs ++ gs)
  -- and what comes behind it answers of the second
  pub on : (s x : S) (fs gs : List Field) → Ok x ≡ answer s fs → answer x gs ≡ answer s (fs ++ gs)
  -- as many numbers in two parts
  pub front : (s : S) (fs gs : List Field) → has s (fs ++ gs) → has s fs
  pub rest : (s x : S) (fs gs : List Field) → Ok x ≡ answer s fs → has s (fs ++ gs) → has x gs
  -- no more than an index tells
  pub few : (s : S) (fs : List Field) → has s fs → length fs < 2 ^ 63
