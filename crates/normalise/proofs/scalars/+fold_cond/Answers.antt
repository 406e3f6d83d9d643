use Rattle.normalise.proofs.Folding.{folded_compare, folded_connective, folded_not}
use Rattle.normalise.proofs.scalars.+fold_cond.Goals as goal

pub folded_cond-returns-in-Compare : goal.folded_cond-returns-in-Compare
folded_cond-returns-in-Compare g t c = rw (c.into_parts.ensures, c.in-Compare.is) (folded_compare _ _ _ _ _ c.folded.ensures c.folded-in-Compare.ensures)

pub folded_cond-returns-in-Logical : goal.folded_cond-returns-in-Logical
folded_cond-returns-in-Logical g t c = rw (c.into_parts.ensures, c.in-Logical.is) (folded_connective c.in-Logical.connective _ _ _ _ c.folded_cond_in_box-left.ensures c.folded_cond_in_box-right.ensures)

pub folded_cond-returns-in-Not : goal.folded_cond-returns-in-Not
folded_cond-returns-in-Not g t c = rw (c.into_parts.ensures, c.in-Not.is) (folded_not _ _ c.folded_cond_in_box-inner.ensures)
