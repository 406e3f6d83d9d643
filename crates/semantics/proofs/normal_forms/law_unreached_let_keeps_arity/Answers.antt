use Rattle.semantics.proofs.RulesKeepArity.{typed_dropped}
use Rattle.semantics.proofs.normal_forms.law_unreached_let_keeps_arity.Goals as goal

pub returns : goal.returns
returns c = typed_dropped
