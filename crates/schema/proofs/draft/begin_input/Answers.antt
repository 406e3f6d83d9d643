use Rattle.std.proofs.Common.{◌≡◌, ◌∙◌, List, ℕ, false, map, sym, ap, subst}
use Rattle.std.specs.List.{list_any}
use Rattle.std.proofs.lemmas.Bool.{both_ways}
use Rattle.std.specs.Str.{bytes_eq}
use Rattle.schema.specs.Drafts.{IsNew, IsOpenTable}
use Rattle.schema.specs.Schemas.{said}
use Rattle.schema.proofs.Right.{fresh, new-table}
use Rattle.schema.proofs.InUse.{table-free}
use Rattle.schema.proofs.draft.begin_input.Goals as goal

pub returns-clause-right : goal.returns-clause-right
returns-clause-right c = λ so.
    let name = c.args.name.now in
    let tables = c.args.schema.inputs.items in
    let none : list_any (λ t. bytes_eq t.name.items name) tables ≡ false =
    ap (λ ts. list_any (λ t. bytes_eq t.name.items name) ts) (sym c.as_slice.ensures.value) ∙ sym c.is_table.ensures ∙ c.if-is_table.false in
    let N : List ℕ → Type 0 = λ n. IsNew n (map (λ t. t.name) (map said tables)) in (
      so,
      (
        subst IsOpenTable (sym c.in_ok-table.ensures) (fresh name _ (c.is_name.ensures.0 c.if-not-is_name.false) c.begun_epochs.ensures.unsaid),
        subst N (sym (ap (λ t. t.name) c.in_ok-table.ensures)) (new-table name tables none),
        λ e. cc e,
      ),
    )

pub returns-then-is_table-clause-made : goal.returns-then-is_table-clause-made
returns-then-is_table-clause-made c = λ may.
    let name = c.args.name.now in
    let free = table-free name c.args.schema.inputs.items may.3 in
    let none = c.is_table.ensures ∙ ap (λ ts. list_any (λ t. bytes_eq t.name.items name) ts) c.as_slice.ensures.value ∙ free in
    both_ways c.is_table.result none c.if-is_table.true
