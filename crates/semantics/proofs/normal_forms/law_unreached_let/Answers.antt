use Rattle.semantics.proofs.RulesKeepMeaning.{rule_let}
use Rattle.semantics.proofs.normal_forms.law_unreached_let.Goals as goal

pub returns : goal.returns
returns c = rule_let
