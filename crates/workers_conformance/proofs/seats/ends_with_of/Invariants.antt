use Rattle.std.proofs.Common.{None}
use Rattle.board.specs.Shown.{tables}
use Rattle.workers_conformance.proofs.seats.ends_with_of.Given as goal

abbrev pub ghosts-ends_with : goal.ghosts-ends_with
ghosts-ends_with g a = record { names = tables a.board.shown; first = a.board.shown; graph = a.board.shown.graph; mark = a.publisher.table; received = None }
