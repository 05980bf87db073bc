-- The lasso of a record as it lies.
use Rattle.theory.specs.Lassos.{Lasso}
use Rattle.judge_lasso.specs.LassoHeld.{lasso_held}
use Rattle.judge_lasso.specs.declared.lasso_record.LassoRecord.{LassoRecord}

abbrev pub lasso_at : LassoRecord → Lasso
lasso_at c = lasso_held c.bytes.now c.n c.m c.ms
