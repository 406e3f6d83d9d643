use Rattle.std.proofs.Common.{◌≡◌, ◌++◌, ap, map, sym, ◌∙◌}
use Rattle.expr_tree.specs.Plain.{plain_input}
use Rattle.sql.specs.Text.{alias_text}
use Rattle.sql.proofs.Texts.{on_ok, two_texts, ends_five, ends_seven}
use Rattle.sql.proofs.recursion.+push_term.Goals as goal

pub returns-in_ok-push-in-Latest : goal.returns-in_ok-push-in-Latest
returns-in_ok-push-in-Latest g t c =
    rw c.in-Latest.is (on_ok c.push_made.result (two_texts c.args.text.now.items _ _ _ _ c.in_ok-push-in-Latest.ensures) (rw c.dialect.ensures at c.push_made.ensures))

pub returns-in_ok-push_alias-in-Select : goal.returns-in_ok-push_alias-in-Select
returns-in_ok-push_alias-in-Select g t c =
    let width = rw c.deref.ensures at c.in_ok-width-in-Select.ensures in
    rw c.in-Select.is
    (ends_seven c.push-in-Select-4.result c.args.text.now.items _ _ _ _ _ _ _ _ _ _ _ _ _ _ c.in_ok-push-in-Select.ensures (rw c.epoch_text.ensures at c.in_ok-push-in-Select-2.ensures) c.in_ok-push_scalars-in-Select.ensures c.in_ok-push-in-Select-3.ensures
    (rw c.deref-in-Select.ensures at c.in_ok-push_term-in-Select.ensures) (rw width at c.in_ok-push_alias-in-Select.ensures) c.push-in-Select-4.ensures)

pub returns-in_ok-push-in-Where-2 : goal.returns-in_ok-push-in-Where-2
returns-in_ok-push-in-Where-2 g t c =
    let width = rw c.deref-in-Where.ensures at c.in_ok-width-in-Where.ensures in
    rw c.in-Where.is
    (ends_five c.push_cond.result c.args.text.now.items _ _ _ _ _ _ _ _ _ _ c.in_ok-push-in-Where.ensures (rw c.deref-in-Where-2.ensures at c.in_ok-push_term-in-Where.ensures) (rw width at c.in_ok-push_alias-in-Where.ensures)
    c.in_ok-push-in-Where-2.ensures c.push_cond.ensures)

pub returns-in_ok-push-in-JoinLeft-3 : goal.returns-in_ok-push-in-JoinLeft-3
returns-in_ok-push-in-JoinLeft-3 g t c =
    let width = rw c.deref-in-JoinLeft.ensures at c.in_ok-width-in-JoinLeft.ensures in
    rw c.in-JoinLeft.is
    (ends_seven c.push_pairs.result c.args.text.now.items _ _ _ _ _ _ _ _ _ _ _ _ _ _ c.in_ok-push-in-JoinLeft.ensures (rw c.deref-in-JoinLeft-2.ensures at c.in_ok-push_term-in-JoinLeft.ensures) (rw width at c.in_ok-push_alias-in-JoinLeft.ensures)
    c.in_ok-push-in-JoinLeft-2.ensures (rw c.dialect-in-JoinLeft.ensures at c.in_ok-push_table-in-JoinLeft.ensures) (rw c.join_word.ensures at c.in_ok-push-in-JoinLeft-3.ensures) c.push_pairs.ensures)

pub returns-in_ok-push-in-JoinRight-3 : goal.returns-in_ok-push-in-JoinRight-3
returns-in_ok-push-in-JoinRight-3 g t c =
    let width = rw c.deref-in-JoinRight.ensures at c.in_ok-width-in-JoinRight.ensures in
    rw c.in-JoinRight.is
    (ends_seven c.push_pairs-in-JoinRight.result c.args.text.now.items _ _ _ _ _ _ _ _ _ _ _ _ _ _ c.in_ok-push-in-JoinRight.ensures (rw c.dialect-in-JoinRight.ensures at c.in_ok-push_table-in-JoinRight.ensures) c.in_ok-push-in-JoinRight-2.ensures
    (rw c.deref-in-JoinRight-2.ensures at c.in_ok-push_term-in-JoinRight.ensures) (rw width at c.in_ok-push_alias-in-JoinRight.ensures) (rw c.inner_join_word.ensures at c.in_ok-push-in-JoinRight-3.ensures) c.push_pairs-in-JoinRight.ensures)
