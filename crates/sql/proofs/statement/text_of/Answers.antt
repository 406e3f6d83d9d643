use Rattle.std.proofs.Common.{map, arith}
use Rattle.expr_tree.specs.Plain.{plain_input}
use Rattle.sql.specs.Asked.{asked_of, layout_of}
use Rattle.sql.specs.Text.{making_of}
use Rattle.sql.specs.Widths.{width_in}
use Rattle.sql.proofs.PartsOfScripts.{whole_text}
use Rattle.sql.proofs.WantedTables.{all_tables}
use Rattle.sql.proofs.statement.text_of.Goals as goal

pub returns : goal.returns
returns g c =
    let inputs = map plain_input c.args.program.now.inputs.items in
    let wanted = c.push_asked.new.wanted.items in
    let making = making_of (layout_of (asked_of c.args.request)) wanted in
    whole_text c.args.program.now (asked_of c.args.request) c.in_ok-script.script c.in_ok-widths.widths.items wanted c.push_head.new.text.items c.push_titles.new.text.items c.push.new.text.items c.push_tables.new.text.items c.push_results.new.text.items c.push-2.new.text.items
    (rw (c.has_recursion.ensures, c.dialect.ensures) at c.in_ok-script.ensures) (simp (c.deref.ensures.value, c.deref-2.ensures.value) at c.in_ok-widths.ensures)
    (simp (c.new-wanted.ensures.items, c.deref-3.ensures.value, c.deref-4.ensures.value) at c.in_ok-push_asked.ensures)
    (simp (c.new-text.ensures.items, c.deref-6.ensures.value) at c.in_ok-push_head.ensures)
    (simp (c.layout-layout.ensures, c.deref-7.ensures.value, c.deref-8.ensures.value) at c.in_ok-push_titles.ensures)
    (simp (c.with_text.ensures, c.making.ensures, c.layout-layout.ensures, c.deref-5.ensures.value) at c.in_ok-push.ensures)
    (all_tables c.args.request.form c.args.request.epochs making inputs (width_in inputs c.in_ok-widths.widths.items) c.in_ok-script.script.made.items c.push.new.text.items c.push_tables.new.text.items wanted c.len.result (omega arith)
    (simp (c.making.ensures, c.layout-layout.ensures, c.deref-5.ensures.value, c.deref-9.ensures.value, c.deref-10.ensures.value, c.deref-11.ensures.value) at c.in_ok-push_tables.ensures))
    (simp (c.deref-12.ensures.value, c.deref-13.ensures.value, c.deref-14.ensures.value, c.deref-15.ensures.value) at c.in_ok-push_results.ensures)
    (simp (c.closing_text.ensures, c.layout-layout.ensures, c.dialect-2.ensures) at c.in_ok-push-2.ensures)
