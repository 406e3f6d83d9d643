use Rattle.std.proofs.Common.{◌∙◌, sym, ap, map, length}
use Rattle.collector.specs.Piles.{piled, with_open}
use Rattle.collector.proofs.Piles.{opened_len, row_more}
use Rattle.collector.proofs.input_records.Track.push.Goals as goal

pub returns-clause-len : goal.returns-clause-len
returns-clause-len c =
    opened_len (map (λ v. piled v.items) c.make_room.new.epochs.items) c.push.new.self.rows ∙ sym (opened_len (map (λ v. piled v.items) c.make_room.new.epochs.items) c.make_room.new.last.rows)
    ∙ ap length (c.in_ok-make_room.ensures.same ∙ c.self.view_is)

pub returns-clause-at : goal.returns-clause-at
returns-clause-at c =
    row_more (map (λ v. piled v.items) c.make_room.new.epochs.items) c.make_room.new.last.rows c.args.row.now c.args.self.now _ (sym (c.in_ok-make_room.ensures.same ∙ c.self.view_is))
    (ap (with_open (map (λ v. piled v.items) c.make_room.new.epochs.items)) c.in_ok-push.ensures.rows)
