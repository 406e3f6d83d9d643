use Rattle.std.proofs.Common.{rules}
use Rattle.std.proofs.lemmas.Slice.Eq.{bytes_eq-Decides}
use Rattle.record_core.proofs.name.NamePartialEq.eq.Goals as goal

pub returns-clause-decides : goal.returns-clause-decides
returns-clause-decides c = let d = bytes_eq-Decides c.args.self.now c.args.other.now in search (rules, d)
