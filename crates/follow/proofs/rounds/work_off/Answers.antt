use Rattle.std.proofs.Common.{length, subst}
use Rattle.alone.specs.Moves.{Advances}
use Rattle.follow.specs.Working.{HasWorked}
use Rattle.follow.specs.declared.rounds.Round.{Round}
use Rattle.follow.specs.declared.rounds.Round.TheVariants as round
use Rattle.alone.proofs.Moved.{works_not, works_on}
use Rattle.alone.proofs.Stepping.{advances_move, moves_work, stays}
use Rattle.follow.proofs.Working.{advances_less, idle_off}
use Rattle.follow.proofs.rounds.work_off.Goals as goal

pub rounds-init : goal.rounds-init
rounds-init g c = record { free = c.requires; works = λ live. works_not c.args.board.now.shown live }

pub rounds-preserved : goal.rounds-preserved
rounds-preserved g c =
    let s = c.rounds.board.shown in
    let t = c.work_once.new.board.shown in
    let steps : Advances s t = subst (λ (r : Round). HasWorked r (length s.sides) s t) c.in-Sent.is c.in_ok-work_once.ensures.worked in
    record {
      free = c.in_ok-work_once.ensures.free;
      works = λ live. let before = c.rounds.invariant.works live in works_on c.args.board.now.shown s t before (moves_work s t (advances_move s t steps) before.grows.live);
    }

pub rounds-smaller : goal.rounds-smaller
rounds-smaller g c =
    let s = c.rounds.board.shown in
    let t = c.work_once.new.board.shown in
    let steps : Advances s t = subst (λ (r : Round). HasWorked r (length s.sides) s t) c.in-Sent.is c.in_ok-work_once.ensures.worked in
    advances_less s t c.law_run.ensures steps

pub returns-in-Idle-clause-works : goal.returns-in-Idle-clause-works
returns-in-Idle-clause-works g c = λ live.
    let s = c.rounds.board.shown in
    let t = c.work_once.new.board.shown in
    let before = c.rounds.invariant.works live in
    let none : HasWorked round.Idle (length s.sides) s t = subst (λ (r : Round). HasWorked r (length s.sides) s t) c.in-Idle.is c.in_ok-work_once.ensures.worked in
    works_on c.args.board.now.shown s t before (moves_work s t (stays s t none.0) before.grows.live)

pub returns-in-Idle-clause-rests : goal.returns-in-Idle-clause-rests
returns-in-Idle-clause-rests g c =
    let s = c.rounds.board.shown in
    let t = c.work_once.new.board.shown in
    idle_off s t c.law_run.ensures c.in_ok-work_once.ensures.free (subst (λ (r : Round). HasWorked r (length s.sides) s t) c.in-Idle.is c.in_ok-work_once.ensures.worked)
