use Rattle.std.proofs.Common.{None, Some}
use Rattle.board.specs.Shown.{tables}
use Rattle.execution.proofs.executing.drive_any.Given as goal

abbrev pub ghosts-drive : goal.ghosts-drive
ghosts-drive g a = record { names = tables a.start.board.shown; graph = a.start.board.shown.graph; mark = a.publisher.table; received = None; first = a.start.board.shown }

abbrev pub ghosts-drive_watched : goal.ghosts-drive_watched
ghosts-drive_watched g a = record {
  names = tables a.start.board.shown;
  graph = a.start.board.shown.graph;
  mark = a.marks.passed.reader.mark;
  received = Some a.marks.received.reader.mark;
  first = a.start.board.shown;
}
