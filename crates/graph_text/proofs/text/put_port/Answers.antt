use Rattle.graph_text.proofs.Lines.{four_texts}
use Rattle.graph_text.proofs.text.put_port.Goals as goal

pub returns : goal.returns
returns c = four_texts c.args.text.now.items _ _ _ _ _ _ _ _ c.in_ok-extend_from_slice.ensures.items c.in_ok-put_number.ensures c.in_ok-extend_from_slice-2.ensures.items c.in_ok-put_number-2.ensures
