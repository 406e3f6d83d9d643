use Rattle.std.proofs.Common.{None}
use Rattle.board.specs.Shown.{tables}
use Rattle.workers_conformance.proofs.scenarios.goes_with.Given as goal

abbrev pub ghosts-goes : goal.ghosts-goes
ghosts-goes g a = record { names = tables a.board.shown; first = a.board.shown; graph = a.board.shown.graph; mark = a.observed.publisher.table; received = None }
