use Rattle.sql.proofs.Inputs.{one_input, split_first}
use Rattle.sql.proofs.Texts.{on_ok}
use Rattle.sql.proofs.whole.+bind_inputs.Goals as goal

pub returns-in_ok-bind_inputs-in-len1-up : goal.returns-in_ok-bind_inputs-in-len1-up
returns-in_ok-bind_inputs-in-len1-up t c =
    let e = split_first c.args.inputs.now c.input-item.result c.in-len1-up.len_at_least c.input-item.is in
    on_ok c.bind.result (one_input c.args.inputs.now _ c.input-item.result c.args.first c.bind_inputs.new.scope c.bind.new.self e c.in_ok-bind_inputs-in-len1-up.ensures) c.bind.ensures
