use Rattle.std.proofs.Common.{◌≡◌, ◌∷◌, ◌+◌, ◌∙◌, [], ℕ, List, ap, arith, length, map, sym}
use Rattle.record_core.specs.Inputs.{input_of}
use Rattle.collector.specs.Pieces.{split_on}
use Rattle.collector.specs.Said.{item_of}
use Rattle.collector.specs.Lines.{IsFault, Says, code_of}
use Rattle.collector.proofs.LinesRead.{no_rest}
use Rattle.follow.proofs.Lines.{can_take, few_epochs, still_inputs, taken_so, takes_more, takes_none, took_all, took_epoch, took_fault, took_long, unended_nothing}
use Rattle.follow.proofs.TooLong.{short_rest}
use Rattle.follow.proofs.intake.take_lines.Goals as goal

pub loop-alloc-init : goal.loop-alloc-init
loop-alloc-init g c = record { takes = takes_none c.args.base c.args.board.now.shown c.args.intake.now (map input_of c.args.inputs.now) c.args.text.now; within = omega arith; counted = omega arith }

pub overflow_add-base : goal.overflow_add-base
overflow_add-base g c =
    let (bytes, lines, items, h) = taken_so c.args.base c.args.board.now.shown c.loop-alloc.board.shown c.args.intake.now c.loop-alloc.intake (map input_of c.args.inputs.now) c.args.text.now c.loop-alloc.rest.now c.loop-alloc.invariant.takes c.requires.taken in
    let few = few_epochs c.loop-alloc.board.shown c.args.base c.loop-alloc.intake (map input_of c.args.inputs.now) bytes c.loop-alloc.rest.now lines items h in
    omega (arith, few)

pub take_item-requires : goal.take_item-requires
take_item-requires g c =
    let inputs = map input_of c.args.inputs.now in
    let s = c.args.board.now.shown in
    let t = c.loop-alloc.board.shown in
    let line : List ℕ = c.in-Ok.ensures.0 in
    let said : Says inputs (c.args.base + c.loop-alloc.intake.begun) line (item_of c.in-Ok.said c.as_slice.result.now) = rw c.as_slice.ensures.value c.in-Ok.ensures.3 in
    let so = taken_so c.args.base s t c.args.intake.now c.loop-alloc.intake inputs c.args.text.now c.loop-alloc.rest.now c.loop-alloc.invariant.takes c.requires.taken in
    let same = c.requires.same ∙ sym (still_inputs c.args.base s t c.args.intake.now c.loop-alloc.intake inputs c.args.text.now c.loop-alloc.rest.now c.loop-alloc.invariant.takes c.requires.taken) in
    can_take c.args.base t c.loop-alloc.intake inputs c.loop-alloc.rest.now line (item_of c.in-Ok.said c.as_slice.result.now) so same said

pub count_line-requires : goal.count_line-requires
count_line-requires g c =
    let l = c.in-Ok.ensures.2 in
    let k = c.loop-alloc.invariant.counted in
    let m = c.in_ok-take_item-in-Ok.ensures.line in
    omega (arith, l, k, m, c.requires.few)

pub loop-alloc-preserved : goal.loop-alloc-preserved
loop-alloc-preserved g c =
    let line : List ℕ = c.in-Ok.ensures.0 in
    let said : Says (map input_of c.args.inputs.now) (c.args.base + c.loop-alloc.intake.begun) line (item_of c.in-Ok.said c.as_slice.result.now) = rw c.as_slice.ensures.value c.in-Ok.ensures.3 in
    let l = c.in-Ok.ensures.2 in
    let w = c.loop-alloc.invariant.within in
    record {
      within = omega (arith, l, w);
      counted = let k = c.loop-alloc.invariant.counted in let n = c.count_line.ensures.line in let m = c.in_ok-take_item-in-Ok.ensures.line in omega (arith, l, k, n, m);
      takes = takes_more c.args.base c.args.board.now.shown c.loop-alloc.board.shown c.take_item.new.board.shown c.args.intake.now c.loop-alloc.intake c.take_item.new.intake c.count_line.new.self (map input_of c.args.inputs.now) c.args.text.now c.loop-alloc.rest.now c.in-Ok.after.now line (item_of c.in-Ok.said c.as_slice.result.now)
          c.loop-alloc.invariant.takes c.in-Ok.ensures.1 said c.in_ok-take_item-in-Ok.ensures c.count_line.ensures;
    }

pub returns-then-begins_epoch-clause-lines : goal.returns-then-begins_epoch-clause-lines
returns-then-begins_epoch-clause-lines g c =
    let line : List ℕ = c.in-Ok.ensures.0 in
    let said : Says (map input_of c.args.inputs.now) (c.args.base + c.loop-alloc.intake.begun) line (item_of c.in-Ok.said c.as_slice.result.now) = rw c.as_slice.ensures.value c.in-Ok.ensures.3 in
    took_epoch c.args.base c.args.board.now.shown c.loop-alloc.board.shown c.take_item.new.board.shown c.args.intake.now c.loop-alloc.intake c.take_item.new.intake c.count_line.new.self (map input_of c.args.inputs.now) c.args.text.now c.loop-alloc.rest.now c.in-Ok.after.now line (item_of c.in-Ok.said c.as_slice.result.now)
    c.loop-alloc.invariant.takes c.in-Ok.ensures.1 said c.in_ok-take_item-in-Ok.ensures c.count_line.ensures (c.begins_epoch.ensures c.if-begins_epoch.true c.as_slice.result.now)

pub returns-in-Err-Fault-clause-lines : goal.returns-in-Err-Fault-clause-lines
returns-in-Err-Fault-clause-lines g c =
    let found : (line : List ℕ) × (after : List ℕ) × (split_on 10 c.loop-alloc.rest.now ≡ line ∷ split_on 10 after) × IsFault (map input_of c.args.inputs.now) (c.args.base + c.loop-alloc.intake.begun) line c.in-Err-Fault.fault = rw c.in-Err-Fault.field-0-is at c.in-Err-Fault.ensures in
    let is : c.code.result ≡ code_of c.in-Err-Fault.fault = rw c.in-Err-Fault.field-0-is at c.code.ensures in
    took_fault c.args.base c.args.board.now.shown c.loop-alloc.board.shown c.args.intake.now c.loop-alloc.intake (map input_of c.args.inputs.now) c.args.text.now c.loop-alloc.rest.now found.0 found.1 c.in-Err-Fault.fault c.code.result c.loop-alloc.invariant.takes found.2 found.3 is

pub returns-in-Err-NoLineFeed-clause-lines : goal.returns-in-Err-NoLineFeed-clause-lines
returns-in-Err-NoLineFeed-clause-lines g c =
    let none : split_on 10 c.loop-alloc.rest.now ≡ c.loop-alloc.rest.now ∷ [] = rw c.in-Err-NoLineFeed.field-0-is at c.in-Err-NoLineFeed.ensures in
    took_all c.args.base c.args.board.now.shown c.loop-alloc.board.shown c.args.intake.now c.loop-alloc.intake (map input_of c.args.inputs.now) c.args.text.now c.loop-alloc.rest.now c.loop-alloc.invariant.takes none
    (short_rest c.loop-alloc.rest.now c.is_too_long.result none c.is_too_long.ensures c.if-is_too_long.false)

pub returns-then-is_too_long-clause-lines : goal.returns-then-is_too_long-clause-lines
returns-then-is_too_long-clause-lines g c =
    took_long c.args.base c.args.board.now.shown c.loop-alloc.board.shown c.args.intake.now c.loop-alloc.intake (map input_of c.args.inputs.now) c.args.text.now c.loop-alloc.rest.now c.loop-alloc.invariant.takes (c.is_too_long.ensures.0 c.if-is_too_long.true)

pub returns-then-is_too_long-clause-counted : goal.returns-then-is_too_long-clause-counted
returns-then-is_too_long-clause-counted g c = c.loop-alloc.invariant.counted

pub returns-clause-lines : goal.returns-clause-lines
returns-clause-lines g c = took_all c.args.base c.args.board.now.shown c.loop-alloc.board.shown c.args.intake.now c.loop-alloc.intake (map input_of c.args.inputs.now) c.args.text.now c.loop-alloc.rest.now c.loop-alloc.invariant.takes (unended_nothing c.loop-alloc.rest.now (no_rest c.loop-alloc.rest.now c.is_empty.result c.is_empty.ensures c.loop-alloc-test.false))
    (let n = ap length (no_rest c.loop-alloc.rest.now c.is_empty.result c.is_empty.ensures c.loop-alloc-test.false) in omega (arith, n))

pub returns-then-begins_epoch-clause-shorter : goal.returns-then-begins_epoch-clause-shorter
returns-then-begins_epoch-clause-shorter g c = λ e. let l = c.in-Ok.ensures.2 in let w = c.loop-alloc.invariant.within in omega (arith, l, w)

pub returns-then-begins_epoch-clause-counted : goal.returns-then-begins_epoch-clause-counted
returns-then-begins_epoch-clause-counted g c = let l = c.in-Ok.ensures.2 in let k = c.loop-alloc.invariant.counted in let n = c.count_line.ensures.line in let m = c.in_ok-take_item-in-Ok.ensures.line in omega (arith, l, k, n, m)
