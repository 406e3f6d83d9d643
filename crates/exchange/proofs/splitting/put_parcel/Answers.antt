use Rattle.std.proofs.Common.{rules}
use Rattle.exchange.proofs.Gathering.{put_one}
use Rattle.exchange.proofs.splitting.put_parcel.Goals as goal

pub returns-in-Some : goal.returns-in-Some
returns-in-Some c = put_one c.args.worker c.in-Some.batch c.args.part.runs c.args.parcels.now.items c.push.new.self.items c.len-count.ensures.some (search rules) (search rules)
