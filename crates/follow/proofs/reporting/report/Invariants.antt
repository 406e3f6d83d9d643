use Rattle.std.proofs.Common.{◌≡◌, ◌≤◌, ℕ, List}
use Rattle.collector.specs.Lines.{Item}
use Rattle.follow.specs.Entries.{Entry}
use Rattle.follow.specs.Scenes.{IsAllFed}
use Rattle.follow.specs.Steps.{CanReport}
use Rattle.follow.proofs.Reported.{HasReportedTill}
use Rattle.follow.proofs.reporting.report.Given as goal

abbrev pub invariant-loop-epoch : goal.invariant-loop-epoch
invariant-loop-epoch g l = record {
  done : l.reporting.done ≡ l.epoch;
  within : l.fn.reporting.done ≤ l.begun → l.epoch ≤ l.begun;
  till : (items : List Item) (entries : List Entry) (text : List ℕ) → IsAllFed l.board.shown l.numbering.base items → l.sealed ≤ l.begun → CanReport l.numbering.first.number l.board.shown l.numbering.base l.fn.reporting items l.begun l.sealed entries text → HasReportedTill l.numbering.first.number l.board.shown l.numbering.base l.reporting items l.begun l.sealed text l.fn.out.items l.out.items;
}
