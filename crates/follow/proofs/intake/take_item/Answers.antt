use Rattle.std.proofs.Common.{sym, subst, ap}
use Rattle.collector.specs.Said.{item_of}
use Rattle.follow.specs.Steps.{CanTake, TakesItem}
use Rattle.follow.proofs.Calls.{on_ok}
use Rattle.follow.proofs.Fed.{epoch_fits, gathers_moves, row_fits}
use Rattle.follow.proofs.intake.take_item.Goals as goal

pub begin-requires-clause-few : goal.begin-requires-clause-few
begin-requires-clause-few g c = epoch_fits c.args.board.now.shown c.args.intake.now (subst (λ l. CanTake c.args.board.now.shown c.args.intake.now (item_of l c.args.fields.now)) c.in-Epoch.is c.requires)

pub gather-requires-clause-some : goal.gather-requires-clause-some
gather-requires-clause-some g c = (row_fits c.args.board.now.shown c.args.intake.now c.in-Row.input c.args.fields.now (subst (λ l. CanTake c.args.board.now.shown c.args.intake.now (item_of l c.args.fields.now)) c.in-Row.is c.requires)).0

pub gather-requires-clause-there : goal.gather-requires-clause-there
gather-requires-clause-there g c = (row_fits c.args.board.now.shown c.args.intake.now c.in-Row.input c.args.fields.now (subst (λ l. CanTake c.args.board.now.shown c.args.intake.now (item_of l c.args.fields.now)) c.in-Row.is c.requires)).1

pub gather-requires-clause-fits : goal.gather-requires-clause-fits
gather-requires-clause-fits g c = (row_fits c.args.board.now.shown c.args.intake.now c.in-Row.input c.args.fields.now (subst (λ l. CanTake c.args.board.now.shown c.args.intake.now (item_of l c.args.fields.now)) c.in-Row.is c.requires)).2

pub returns-in-Row : goal.returns-in-Row
returns-in-Row g c =
    let is = ap (λ l. item_of l c.args.fields.now) c.in-Row.is in
    on_ok c.gather.result (λ gathers. subst (TakesItem c.args.board.now.shown c.args.board.now.shown c.args.intake.now c.gather.new.self) (sym is) (gathers_moves c.args.board.now.shown c.args.intake.now c.gather.new.self c.in-Row.input c.args.fields.now gathers)) c.gather.ensures
