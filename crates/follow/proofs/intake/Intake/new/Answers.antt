use Rattle.std.proofs.Common.{refl, rules}
use Rattle.follow.proofs.Waiting.{declared_arity, fits_all}
use Rattle.follow.proofs.intake.Intake.new.Goals as goal

pub new-requires-clause-some : goal.new-requires-clause-some
new-requires-clause-some c = (declared_arity c.args.inputs.now c.loop-declared.declared-index c.declared-item.result c.requires (search rules) (search rules)).0

pub new-requires-clause-fits : goal.new-requires-clause-fits
new-requires-clause-fits c = (declared_arity c.args.inputs.now c.loop-declared.declared-index c.declared-item.result c.requires (search rules) (search rules)).1

pub returns : goal.returns
returns c = record {
  begun = refl;
  fits = fits_all c.loop-declared.portion.items c.args.inputs.now c.loop-declared.declared-index c.loop-declared.invariant.fits (search rules);
  line = refl;
  none = c.loop-declared.invariant.none;
}
