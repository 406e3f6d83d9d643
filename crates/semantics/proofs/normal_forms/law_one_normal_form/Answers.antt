use Rattle.semantics.proofs.OneNormalForm.{one_normal_form}
use Rattle.semantics.proofs.normal_forms.law_one_normal_form.Goals as goal

pub returns : goal.returns
returns c = one_normal_form
