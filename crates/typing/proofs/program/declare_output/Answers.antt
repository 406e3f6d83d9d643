use Rattle.std.proofs.Common.{◌≡◌, length, ◌∙◌, ap, arith}
use Rattle.typing.proofs.PartVerdicts.{length_arities}
use Rattle.typing.proofs.program.declare_output.Goals as goal

pub push-requires : goal.push-requires
push-requires g c = let e : length c.args.arities.now.items ≡ length c.args.before.now = ap length c.requires ∙ length_arities c.args.before.now in omega arith
