use Rattle.std.proofs.Common.{rules, ◌≡◌, ◌<◌, ◌∙◌, Err, length}
use Rattle.schema.specs.Schemas.{parts_of}
use Rattle.schema.specs.Steps.{state_of}
use Rattle.schema.proofs.ReadOn.{ended-lines, ended-parts, leads-end, leads-next, leads-start, step-refused, step-taken}
use Rattle.schema.proofs.reading.read_lines.Goals as goal

pub loop-rest-init : goal.loop-rest-init
loop-rest-init c = record {
  right = (
    record {
      inputs = rw c.new.ensures.items (tt, tt);
      outputs = rw c.new-2.ensures.items (tt, tt);
      no_epochs = rw c.new-2.ensures.items tt;
      constants = rw c.new-3.ensures.items (tt, tt, tt);
    },
    tt,
  );
  leads = λ s right is. rw (c.new.ensures.items, c.new-2.ensures.items, c.new-3.ensures.items) (leads-start s c.args.text.now right is);
}

pub loop-rest-preserved : goal.loop-rest-preserved
loop-rest-preserved c =
    let filled : 0 < length c.loop-rest.rest.now = search rules in
    record {
      right = c.in-Ok.ensures.right c.loop-rest.invariant.right c.cut_line.ensures.line;
      leads = λ s right is. step-taken c.cut_line.result.1.now (parts_of s) c.take_line.result c.in-Ok.next c.in-Ok.is
          (leads-next (state_of c.loop-rest.draft) c.loop-rest.rest.now
          (parts_of s) c.cut_line.result.0.now c.cut_line.result.1.now c.take_line.result
          (c.loop-rest.invariant.leads s right is) filled c.cut_line.ensures.cut c.take_line.ensures.made);
    }

pub returns-in-Err-clause-made : goal.returns-in-Err-clause-made
returns-in-Err-clause-made c = λ s right is.
    let filled : 0 < length c.loop-rest.rest.now = search rules in
    step-refused c.cut_line.result.1.now (parts_of s) c.take_line.result c.in-Err.refusal c.in-Err.is
    (leads-next (state_of c.loop-rest.draft) c.loop-rest.rest.now (parts_of s) c.cut_line.result.0.now c.cut_line.result.1.now
    c.take_line.result (c.loop-rest.invariant.leads s right is) filled c.cut_line.ensures.cut c.take_line.ensures.made)

pub returns-in-Ok-end_open-clause-made : goal.returns-in-Ok-end_open-clause-made
returns-in-Ok-end_open-clause-made c = λ s right is.
    let none : length c.loop-rest.rest.now ≡ 0 = search rules in
    let end = leads-end (state_of c.loop-rest.draft) c.loop-rest.rest.now (parts_of s) none (c.loop-rest.invariant.leads s right is) in
    c.in-Ok-end_open.ensures.made end.0 ∙ end.1

pub returns-in-Err-end_open-clause-made : goal.returns-in-Err-end_open-clause-made
returns-in-Err-end_open-clause-made c = λ s right is.
    let none : length c.loop-rest.rest.now ≡ 0 = search rules in
    let end = leads-end (state_of c.loop-rest.draft) c.loop-rest.rest.now (parts_of s) none (c.loop-rest.invariant.leads s right is) in
    ended-lines (parts_of s) c.in-Err-end_open.refusal
    (ended-parts _ (parts_of s) (Err c.in-Err-end_open.refusal) end.1 (c.in-Err-end_open.ensures.made end.0))
