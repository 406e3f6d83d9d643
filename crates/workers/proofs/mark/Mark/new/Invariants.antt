use Rattle.std.proofs.Common.{◌≡◌, ◌≤◌, ◌<◌, All, [], vec_len, vec_capacity}
use Rattle.workers.specs.Tokens.{Token}
use Rattle.workers.specs.Rule.{publisher}
use Rattle.workers.proofs.mark.Mark.new.Given as goal

abbrev pub invariant-loop-observer : goal.invariant-loop-observer
invariant-loop-observer l =
    record {
      words : 0 < l.word.shared.table_id.words;
      same : l.first.table_id ≡ l.word.shared.table_id;
      view : l.first.me ≡ (publisher 0, []);
      count : vec_len l.seats ≡ l._observer;
      room : l.observers ≤ vec_capacity l.seats;
      seats : All (λ (s : Token). s.table ≡ l.word.shared.table_id) l.seats.items;
    }
