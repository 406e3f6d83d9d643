use Rattle.std.proofs.Common.{◌∙◌, ◌≤◌, ap₂, arith, List, ℕ}
use Rattle.path_summary.specs.Order.{in_order}
use Rattle.path_summary.specs.Carried.{carried, counters_after}
use Rattle.loop_context.specs.Actions.{action_of}
use Rattle.path_summary.proofs.InOrder.{covers_in}
use Rattle.path_summary.proofs.paths.covers.Goals as goal

pub returns-then-epoch : goal.returns-then-epoch
returns-then-epoch c =
    let early : c.args.time.now.epoch ≤ c.args.until.now.epoch = omega arith in
    covers_in (action_of c.args.action) c.args.time.now c.args.until.now c.args.summary.now c.reaches.result early
    (c.reaches.ensures ∙ ap₂ (λ (x y : List ℕ). in_order (counters_after (action_of c.args.action) (carried c.args.summary.now x)) y) c.counters.ensures.value c.counters-then-epoch.ensures.value)
