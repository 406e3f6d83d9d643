use Rattle.std.proofs.Common.{subst, sym, ap}
use Rattle.schedule.specs.LineReader.{command_of}
use Rattle.schedule.specs.Commands.{Command}
use Rattle.replay.specs.Steps.{Leads}
use Rattle.replay.proofs.Runs.{print_leads}
use Rattle.replay.proofs.replaying.replay_line.Goals as goal

pub returns-in-Print-clause-line : goal.returns-in-Print-clause-line
returns-in-Print-clause-line g c =
    let printed = c.in_ok-push_answer.ensures in
    (printed.0, printed.1, subst (λ (x : Command). Leads g.V.Views.late c.args.board.now c.args.board.now c.args.hand.now c.args.hand.now x printed.0) (sym (ap command_of c.in-Print.is)) (print_leads g.V.Views.late c.args.board.now c.args.hand.now c.in-Print.epoch printed.0 printed.2))
