use Rattle.std.proofs.Common.{◌<◌, ℕ, sym, subst, arith}
use Rattle.semantics.specs.Could.{at_vertex}
use Rattle.semantics.specs.Time.{at_epoch}
use Rattle.graph.specs.Shown.{shown_graph}
use Rattle.engine_conformance.proofs.FirstEpochs.{first_active}
use Rattle.engine_conformance.proofs.turns.new_turns.Goals as goal

pub turns-requires-clause-open : goal.turns-requires-clause-open
turns-requires-clause-open g c =
    let count = rw c.graph.ensures at c.input_count.ensures.value in
    let there = first_active (shown_graph c.args.paths.now) (let t = c.if-input_count-eq0.false in omega (arith, count)) in
    subst (λ (n : ℕ). 0 < n) (sym (c.requires.content (at_vertex 0 (at_epoch 0)))) there
