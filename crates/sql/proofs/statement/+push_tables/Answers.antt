use Rattle.std.proofs.Common.{◌≡◌, ◌-◌, suc, map, sym, arith, ◌∙◌}
use Rattle.expr_tree.specs.Plain.{plain_input}
use Rattle.sql.specs.Widths.{width_in}
use Rattle.sql.proofs.Texts.{on_ok}
use Rattle.sql.proofs.WantedTables.{left_out, put_in}
use Rattle.sql.proofs.statement.+push_tables.Goals as goal

pub returns-then-not-is_in : goal.returns-then-not-is_in
returns-then-not-is_in g t c =
    let inputs = map plain_input c.args.inputs.now in
    let count : c.args.count ≡ suc (c.args.count - 1) = omega (arith, c.if-count-eq0.false) in
    on_ok c.push_tables.result
    (left_out c.args.style.form c.args.style.epochs c.args.style.making inputs (width_in inputs c.args.widths.now) c.args.made.now c.args.text.now.items c.push_tables.new.text.items c.args.wanted.now.items c.args.count (c.args.count - 1) count c.requires.count
    (rw c.deref.ensures.value at (sym c.is_in.ensures ∙ c.if-not-is_in.true))) c.push_tables.ensures

pub returns : goal.returns
returns g t c =
    let inputs = map plain_input c.args.inputs.now in
    let count : c.args.count ≡ suc (c.args.count - 1) = omega (arith, c.if-count-eq0.false) in
    on_ok c.push_create.result
    (put_in c.args.style.form c.args.style.epochs c.args.style.making inputs (width_in inputs c.args.widths.now) c.args.made.now c.args.text.now.items c.push_tables-2.new.text.items c.push_create.new.text.items c.args.wanted.now.items c.push_reads.new.wanted.items c.args.count (c.args.count - 1)
    c.index-made-number.result count c.requires.count (rw c.deref.ensures.value at (sym c.is_in.ensures ∙ c.if-not-is_in.false)) c.index-made-number.is c.in_ok-push_reads.ensures c.in_ok-push_tables.ensures)
    c.push_create.ensures
