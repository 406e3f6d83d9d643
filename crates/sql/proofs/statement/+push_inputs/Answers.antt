use Rattle.sql.proofs.Inputs.{split_first}
use Rattle.sql.proofs.Texts.{on_ok, two_texts}
use Rattle.sql.proofs.statement.+push_inputs.Goals as goal

pub returns-in_ok-push_declaration-in-len1-up : goal.returns-in_ok-push_declaration-in-len1-up
returns-in_ok-push_declaration-in-len1-up t c =
    let e = split_first c.args.inputs.now c.input-item.result c.in-len1-up.len_at_least c.input-item.is in
    rw e (on_ok c.push_inputs.result (two_texts c.args.text.now.items _ _ _ _ c.in_ok-push_declaration-in-len1-up.ensures) c.push_inputs.ensures)
