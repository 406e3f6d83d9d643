use Rattle.std.proofs.Common.{rules, ◌≡◌, ◌≤◌, ◌∙◌, sym, ap, refl, arith, ℕ, length, get_or, Some, None}
use Rattle.std.proofs.lemmas.Option.{slice_get_past, slice_get-get_or}
use Rattle.csv_strict.specs.Strict.{Stops, state_at, next_state, ends_text}
use Rattle.csv_strict.proofs.Runs.{place-here, state_first}
use Rattle.csv_strict.proofs.checking.check_text.Goals as goal

pub loop-i-init : goal.loop-i-init
loop-i-init c = record { reached = state_first c.args.text.now; opened = omega arith }

pub returns-in-None-clause-refused : goal.returns-in-None-clause-refused
returns-in-None-clause-refused c =
    let text = c.args.text.now in
    let i = c.loop-i.i in
    record {
      stop = i;
      state = c.loop-i.state;
      before = c.loop-i.invariant.reached;
      stops = rw (slice_get-get_or text i 0 c.loop-i-test.true) (sym c.next.ensures ∙ c.in-None.is);
      told = c.fault_at.ensures;
      place = i;
      is_place = rw c.fault_at.ensures (place-here c.loop-i.state i);
      on_line = c.line_at.ensures;
    }

pub returns-clause-refused : goal.returns-clause-refused
returns-clause-refused c =
    let text = c.args.text.now in
    let at_end : c.loop-i.i ≡ length text = omega (arith, c.loop-i-test.false, c.loop-i.auto.i-end) in
    record {
      stop = c.loop-i.i;
      state = c.loop-i.state;
      before = c.loop-i.invariant.reached;
      stops = rw (slice_get_past text c.loop-i.i (omega (arith, at_end))) (sym c.may_end.ensures ∙ c.if-may_end.false);
      told = c.fault_at-2.ensures;
      place = c.place_at-place.result;
      is_place = rw (c.fault_at-2.ensures, at_end) c.place_at-place.ensures.place;
      on_line = c.line_at-2.ensures;
    }
