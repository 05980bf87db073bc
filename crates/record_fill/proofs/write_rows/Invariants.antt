use Rattle.std.proofs.Common.{◌≡◌, ◌+◌, ◌*◌, drop}
use Rattle.std.proofs.lemmas.List.Edits.{sets}
use Rattle.record.specs.Fields.{bytes_of}
use Rattle.record.specs.Layouts.{rows_of}
use Rattle.record_fill.proofs.write_rows.Given as goal

-- the rows so far are written, and the next one stands after them
abbrev pub invariant-loop : goal.invariant-loop
invariant-loop l = record {
  at_next : l.at ≡ l.place + l.counter * (4 * l.n + 4);
  i_next : l.i ≡ l.index + l.counter * (2 * l.n + 1);
  written : l.body ≡ sets l.initial.body l.place (bytes_of (rows_of l.n l.counter) (drop l.index l.values));
}
