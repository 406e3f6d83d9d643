use Rattle.std.proofs.Common.{◌<◌, arith}
use Rattle.std.proofs.lemmas.List.Elements.{All-push}
use Rattle.path_summary.proofs.Carrying.{pushed_kept}
use Rattle.path_summary.proofs.summary.+push_kept.Goals as goal

pub returns-in-len1-up-clause-items : goal.returns-in-len1-up-clause-items
returns-in-len1-up-clause-items t c = pushed_kept c.args.out.now.items c.push.new.self.items c.push_kept.new.out.items c.args.counters.now c.args.keep c.args.add c.raise_last.result (omega arith) c.in-len1-up.len_at_least c.raise_last.ensures.value c.push.ensures.items c.push_kept.ensures.items

pub returns-in-len1-up-clause-small : goal.returns-in-len1-up-clause-small
returns-in-len1-up-clause-small t c = λ h. c.push_kept.ensures.small (rw c.push.ensures.items (All-push (λ n. n < 8589934592) c.args.out.now.items c.raise_last.result h c.raise_last.ensures.small))
