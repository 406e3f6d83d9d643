use Rattle.std.proofs.Common.{◌≡◌, ◌||◌, ◌∙◌, false, sym, ap}
use Rattle.std.specs.List.{list_any}
use Rattle.std.proofs.lemmas.Bool.{both_ways}
use Rattle.std.specs.Str.{bytes_eq}
use Rattle.schema.proofs.Right.{constants-more, new-constant}
use Rattle.schema.proofs.InUse.{constant-free}
use Rattle.schema.proofs.draft.add_constant.Goals as goal

pub returns-clause-right : goal.returns-clause-right
returns-clause-right c = λ so lacks.
    let name = c.args.name.now in
    let text = c.args.text.now in
    let constants = c.args.schema.constants.items in
    let none : list_any (λ k. bytes_eq k.name.items name || bytes_eq k.text.items text) constants ≡ false =
    ap (λ ks. list_any (λ k. bytes_eq k.name.items name || bytes_eq k.text.items text) ks) (sym c.as_slice.ensures.value)
    ∙ sym c.is_constant.ensures ∙ c.if-is_constant.false in
    let new = new-constant name text constants none in (
      record {
        inputs = so.inputs;
        outputs = so.outputs;
        no_epochs = so.no_epochs;
        constants = constants-more constants c.push.new.self.items _ name text c.in_ok-push.ensures.items c.in_ok-name.ensures.items
            c.in_ok-text.ensures.items so.constants (c.is_name.ensures.0 c.if-not-is_name.false) lacks new.0 new.1;
      },
      tt,
    )

pub returns-then-is_constant-clause-made : goal.returns-then-is_constant-clause-made
returns-then-is_constant-clause-made c = λ may.
    let name = c.args.name.now in
    let text = c.args.text.now in
    let free = constant-free name text c.args.schema.constants.items may.1 may.2 in
    let none = c.is_constant.ensures ∙ ap (λ ks. list_any (λ k. bytes_eq k.name.items name || bytes_eq k.text.items text) ks)
    c.as_slice.ensures.value ∙ free in
    both_ways c.is_constant.result none c.if-is_constant.true
