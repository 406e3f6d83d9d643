use Rattle.std.proofs.Common.{arith}
use Rattle.sql.proofs.Made.{one_made}
use Rattle.sql.proofs.table.add_table.Goals as goal

pub returns : goal.returns
returns g c = one_made c.args.made.now.items c.push.new.self.items c.args.query c.len-number.result c.in_ok-push.ensures.items (omega arith)
