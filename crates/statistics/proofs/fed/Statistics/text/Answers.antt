use Rattle.std.proofs.Common.{◌+◌, [], cond, nat_lt, vec_len}
use Rattle.std.specs.Prelude.{slice_index_or, slice_range}
use Rattle.semantics.specs.Graph.{input_count}
use Rattle.graph.specs.Shown.{shown_graph}
use Rattle.statistics.proofs.Texts.{no_input}
use Rattle.statistics.proofs.fed.Statistics.text.Goals as goal

pub returns : goal.returns
returns c =
    let s = c.args.self.now in
    record {
      shown = λ v. cond (nat_lt v (vec_len s.inputs)) (slice_range s.inputs.items v (v + 1)) (slice_index_or c.args.tally.now v []);
      counted_are = λ v past. no_input (vec_len s.inputs) (input_count (shown_graph s.graph.value)) v _ _ s.few past;
      lines = c.in_ok-text.text.items;
      vertices = c.in_ok-text.ensures;
      ends = c.in_ok-put_sums.ensures;
    }
