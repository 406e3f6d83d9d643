use Rattle.std.proofs.Common.{◌≡◌, ◌∙◌, ◌&&◌, ◌||◌, Bool, true, false, nat_lt, refl, ap, sym, take, arith}
use Rattle.std.proofs.lemmas.List.{take_all}
use Rattle.rows.specs.Counts.{rows_of, runs}
use Rattle.rows.proofs.Runs.{length_rows, row_at}
use Rattle.semantics.specs.Multiset.{is_present, same}
use Rattle.semantics.proofs.MultisetSums.{≈-from}
use Rattle.vertices.specs.FirstTurns.{is_first_below}
use Rattle.vertices.proofs.FirstTurns.{noted_more, present_take}
use Rattle.vertices.proofs.PortSets.{as_present, rows_once_of}
use Rattle.vertices.proofs.loop_rows.LoopRows.note_all.Goals as goal

pub loop-place-init : goal.loop-place-init
loop-place-init c = record {
  arity = sym c.requires.arity;
  as_many = c.requires.as_many;
  first = λ r n. nothing (is_first_below c.args.self.now.rows.rows c.args.self.now.turns.items r n) (nat_lt c.args.turn n);
  places = λ lists h. h;
  lists = refl;
}
  where
    nothing : (b t : Bool) → b ≡ b || (false && t)
    nothing true t = refl
    nothing false t = refl

pub loop-place-preserved : goal.loop-place-preserved
loop-place-preserved c =
    let i = c.loop-place.invariant in
    let is = c.in_ok-note.ensures in
    let rows = rows_of (runs c.args.batch.now) in
    record {
      arity = is.arity ∙ i.arity;
      as_many = is.as_many;
      first = λ r n.
          noted_more (is_first_below c.args.self.now.rows.rows c.args.self.now.turns.items r n) (is_present r (take c.loop-place.place rows)) (same c.row.result.now r) (nat_lt c.args.turn n) _
          (is.first r n ∙ ap (λ b. b || (same c.row.result.now r && nat_lt c.args.turn n)) (i.first r n))
          ∙ ap (λ b. is_first_below c.args.self.now.rows.rows c.args.self.now.turns.items r n || (b && nat_lt c.args.turn n))
          (ap (λ x. is_present r (take c.loop-place.place rows) || same x r) (c.row.ensures.value ∙ sym (row_at (runs c.args.batch.now) c.loop-place.place))
          ∙ sym (present_take r rows c.loop-place.place (omega (arith, length_rows (runs c.args.batch.now), c.len-place-end.ensures.value))));
      places = λ lists h. is.places lists (i.places lists h);
      lists = is.lists ∙ i.lists;
    }

pub returns-clause-first : goal.returns-clause-first
returns-clause-first c =
    let rows = rows_of (runs c.args.batch.now) in
    let is = c.len-place-end.ensures in
    λ r n.
    c.loop-place.invariant.first r n
    ∙ ap (λ b. is_first_below c.args.self.now.rows.rows c.args.self.now.turns.items r n || (b && nat_lt c.args.turn n))
    (ap (is_present r) (take_all c.loop-place.place rows (omega (arith, length_rows (runs c.args.batch.now), is.value))) ∙ as_present rows c.args.batch.now (rows_once_of (runs c.args.batch.now) c.args.batch.now is.runs (≈-from is.all)) r)
