use Rattle.std.proofs.Common.{◌∙◌, ap, map}
use Rattle.rows.specs.FlatRows.{RowList}
use Rattle.collector.specs.Piles.{piled, with_open}
use Rattle.collector.proofs.Piles.{begun, Records}
use Rattle.collector.proofs.input_records.Track.begin.Goals as goal

abbrev rows_of : RowList → Records
rows_of r = r.rows

pub returns : goal.returns
returns c = begun (λ v. piled v.items) c.seal.new.epochs.items c.push.new.self.items c.new-2.result c.replace-rows.new.dest.rows c.args.self.now c.in_ok-push.ensures.items (ap piled c.new-2.ensures.items) (ap rows_of (c.replace-rows.ensures.after ∙ c.new.ensures)) (c.in_ok-seal.ensures ∙ ap (λ (r : RowList). with_open (map (λ v. piled v.items) c.self.inside.epochs.items) r.rows) c.replace-rows.ensures.value ∙ c.self.view_is)
