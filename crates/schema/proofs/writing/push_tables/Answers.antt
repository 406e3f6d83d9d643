use Rattle.std.proofs.Common.{rules, ◌<◌, [], ◌++◌, length, map, sym, ◌∙◌, ap, subst, arith}
use Rattle.std.proofs.lemmas.List.{append-nil, append_assoc, get_or-map, length-map}
use Rattle.schema.specs.Schemas.{IsTable, said}
use Rattle.schema.proofs.Written.{tables-more, tables-none}
use Rattle.schema_lines.proofs.Each.{each-at}
use Rattle.schema.proofs.writing.push_tables.Goals as goal

pub loop-table-preserved : goal.loop-table-preserved
loop-table-preserved c = λ rest more.
    let (first, here, out) = c.in_ok-push_table.ensures.text c.if-not-branch.false in
    let (text, all, whole) = c.loop-table.invariant (first ++ rest)
    (tables-more c.args.word.now c.args.tables.now c.loop-table.table-index c.table-item.result first rest c.loop-table-test.true
    c.table-item.is here more) in
    (text, all, ap (λ x. x ++ rest) out ∙ append_assoc c.loop-table.out.items first rest ∙ whole)

pub returns-clause-text : goal.returns-clause-text
returns-clause-text c = λ e.
    let (text, all, whole) = c.loop-table.invariant []
    (tables-none c.args.word.now c.args.tables.now c.loop-table.table-index (search (rules, c.loop-table-test.false))) in
    (text, all, sym (append-nil c.loop-table.out.items) ∙ whole)

pub returns-then-not-branch-clause-right : goal.returns-then-not-branch-clause-right
returns-then-not-branch-clause-right c = λ so.
    let tables = c.args.tables.now in
    let i = c.loop-table.table-index in
    let table = c.table-item.result in
    let below : i < length (map said tables) = omega (arith, c.loop-table-test.true, length-map tables said) in
    let right : IsTable (said table) = subst IsTable (get_or-map said tables i table (said table) c.loop-table-test.true
    ∙ ap said (sym c.table-item.is)) (each-at IsTable (map said tables) i (said table) below so) in
    sym c.if-not-branch.true ∙ c.in_ok-push_table.ensures.right right
