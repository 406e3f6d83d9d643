use Rattle.std.proofs.Common.{rules, [], ◌++◌, map, sym, ◌∙◌, ap}
use Rattle.std.proofs.lemmas.List.{append-nil, append_assoc}
use Rattle.schema.proofs.Written.{columns-more, columns-none, name-more, names-none}
use Rattle.schema.proofs.writing.push_columns.Goals as goal

pub loop-i-preserved : goal.loop-i-preserved
loop-i-preserved c = λ rest more.
    let (first, here, out) = c.in_ok-push_column.ensures.text c.if-not-branch.false in
    let named = name-more (λ v. v.items) c.args.names.now c.loop-i.i c.index-names-i.result c.deref.result.now
    (search (rules, c.loop-i-test.true, c.if-names-columns.false)) c.index-names-i.is c.deref.ensures.value in
    let (text, all, whole) = c.loop-i.invariant (first ++ rest)
    (columns-more (map (λ v. v.items) c.args.names.now) c.args.columns.now c.loop-i.i c.deref.result.now _ first rest named
    c.loop-i-test.true here more) in
    (text, all, ap (λ x. x ++ rest) out ∙ append_assoc c.loop-i.out.items first rest ∙ whole)

pub returns-clause-text : goal.returns-clause-text
returns-clause-text c = λ e.
    let none = names-none (λ v. v.items) c.args.names.now c.loop-i.i (search (rules, c.loop-i-test.false, c.if-names-columns.false)) in
    let (text, all, whole) = c.loop-i.invariant [] (columns-none (map (λ v. v.items) c.args.names.now) c.args.columns.now c.loop-i.i none
    (search (rules, c.loop-i-test.false))) in
    (text, all, sym (append-nil c.loop-i.out.items) ∙ whole)
