use Rattle.std.proofs.lemmas.List.{map-set}
use Rattle.table_epochs.proofs.epoch_answer.put_text.Goals as goal

pub returns-then-place-len : goal.returns-then-place-len
returns-then-place-len c = map-set (λ v. v.items) c.args.files.now.items c.args.place c.args.text
