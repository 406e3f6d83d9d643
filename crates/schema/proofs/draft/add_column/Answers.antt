use Rattle.std.proofs.Common.{rules, ◌≡◌, ◌<◌, ◌∙◌, false, length, sym, ap}
use Rattle.std.specs.List.{list_any}
use Rattle.std.proofs.lemmas.Bool.{both_ways}
use Rattle.std.specs.Str.{bytes_eq}
use Rattle.schema.specs.Schemas.{said}
use Rattle.schema.proofs.Right.{column-more, headers-more, new-header, not-empty}
use Rattle.schema.proofs.InUse.{header-free}
use Rattle.schema.proofs.draft.add_column.Goals as goal

pub returns-clause-right : goal.returns-clause-right
returns-clause-right c = λ so lacks ends right.
    let name = c.args.name.now in
    let headers = c.args.table.headers.items in
    let none : list_any (λ h. bytes_eq h.items name) headers ≡ false =
    ap (λ hs. list_any (λ h. bytes_eq h.items name) hs) (sym c.as_slice.ensures.value) ∙ sym c.is_header.ensures ∙ c.if-is_header.false in
    let filled : 0 < length name = search rules in
    let few : length c.args.table.columns.items < 16 = search rules in
    column-more (said c.args.table) name c.args.column _ _
    (headers-more (λ v. v.items) headers c.push.new.self.items _ name c.in_ok-push.ensures.items c.in_ok-from_slice.ensures.items)
    c.in_ok-push-2.ensures.items
    so (not-empty name filled, lacks, ends) right few (new-header (λ v. v.items) name headers none)

pub returns-then-is_header-clause-made : goal.returns-then-is_header-clause-made
returns-then-is_header-clause-made c = λ may.
    let free = header-free (λ v. v.items) c.args.name.now c.args.table.headers.items may.2 in
    let none = c.is_header.ensures ∙ ap (λ hs. list_any (λ h. bytes_eq h.items c.args.name.now) hs) c.as_slice.ensures.value ∙ free in
    both_ways c.is_header.result none c.if-is_header.true
