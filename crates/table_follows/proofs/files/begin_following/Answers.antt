use Rattle.std.proofs.Common.{[], map, refl}
use Rattle.table_follows.proofs.Others.{others-set}
use Rattle.table_follows.proofs.files.begin_following.Goals as goal

pub returns : goal.returns
returns g c = λ stream. record {
  followed = record {
    same_schema = refl;
    same_table = refl;
    same_query = refl;
    stream = stream;
    files = others-set (g.S.Sources.content c.args.sources.now) c.args.streamed.stream.place (map (λ s. s.now) c.args.streamed.job.paths.now)
        (map (λ v. v.items) c.in_ok-other_texts.field-0.items) [] c.in_ok-other_texts.ensures;
  };
  same_paths = refl;
  start = record { count = refl; last = refl };
  same_texts = refl;
  header = c.in_ok-header_row.ensures;
}
