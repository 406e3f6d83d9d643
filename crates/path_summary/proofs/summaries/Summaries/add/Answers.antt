use Rattle.std.proofs.Common.{◌≡◌, arith, length}
use Rattle.path_summary.proofs.CodesGrow.{grows_one, last_code}
use Rattle.path_summary.proofs.Notes.{noted_more}
use Rattle.path_summary.proofs.summaries.Summaries.add.Goals as goal

pub invariant_of-self-2 : goal.invariant_of-self-2
invariant_of-self-2 c =
    let i = c.self.inside in
    rw (c.in_ok-push.ensures.items, c.in_ok-push-2.ensures.items, c.in_ok-push-3.ensures.items)
    (noted_more i.list.items c.push-4.new.self.items i.entered.items i.left.items i.turned.items (grows_one i.list.items c.push-4.new.self.items c.args.summary c.in_ok-push-4.ensures.items) c.self.invariant)

pub returns-clause-code : goal.returns-clause-code
returns-clause-code c =
    let n : c.len.result ≡ length c.push-4.new.self.items = omega (arith, c.in_ok-push-4.ensures.len) in
    last_code c.self.inside.list.items c.push-4.new.self.items c.args.summary c.len.result c.in_ok-push-4.ensures.items n
