use Rattle.tables.proofs.Joined.{held-refused}
use Rattle.tables.proofs.encoding.refusal_of.Goals as goal

pub returns-in-Refused : goal.returns-in-Refused
returns-in-Refused c = λ tables files texts h. held-refused tables files texts c.args.fault c.in-Refused.refusal c.in-Refused.is h
