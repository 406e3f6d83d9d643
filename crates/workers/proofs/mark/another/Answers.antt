use Rattle.workers.proofs.Moves.{splits}
use Rattle.workers.proofs.mark.another.Goals as goal

pub split_seat-seat-requires : goal.split_seat-seat-requires
split_seat-seat-requires c = (c.requires.table, c.requires.word, splits _ _)
