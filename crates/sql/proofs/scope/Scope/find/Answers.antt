use Rattle.std.proofs.Common.{◌-◌, get_or, length, sym, ap, ◌∙◌, arith}
use Rattle.sql_meaning.specs.Script.{Table}
use Rattle.sql.specs.Shown.{Known}
use Rattle.sql.proofs.Names.{told_here, told_before, told_first, told_nowhere}
use Rattle.sql.proofs.scope.Scope.find.Goals as goal

pub loop-left-init : goal.loop-left-init
loop-left-init c =
    let e = ap (λ (k : Known). length k.entries) c.self.view_is in
    told_first c.args.self.now c.args.name.now c.len-left.result (omega (arith, e))

pub index-entry-requires : goal.index-entry-requires
index-entry-requires c =
    let e = ap (λ (k : Known). length k.entries) c.self.view_is in
    omega (arith, e, c.loop-left.invariant.0)

pub returns-then-eq : goal.returns-then-eq
returns-then-eq c =
    let e = c.index-entry.ensures ∙ ap (λ (k : Known). get_or k.entries (c.loop-left.left - 1) c.index-entry.result.now) c.self.view_is in
    sym (told_here c.args.self.now c.args.name.now c.loop-left.left c.index-entry.result.now c.loop-left-test.true e c.loop-left.invariant (sym c.eq.ensures.value ∙ c.if-eq.true))

pub loop-left-preserved : goal.loop-left-preserved
loop-left-preserved c =
    let e = c.index-entry.ensures ∙ ap (λ (k : Known). get_or k.entries (c.loop-left.left - 1) c.index-entry.result.now) c.self.view_is in
    told_before c.args.self.now c.args.name.now c.loop-left.left c.index-entry.result.now c.loop-left-test.true e c.loop-left.invariant (sym c.eq.ensures.value ∙ c.if-eq.false)

pub returns : goal.returns
returns c =
    ap (λ (k : Known). Table.given k.inputs) c.self.view_is ∙ sym (told_nowhere c.args.self.now c.args.name.now c.loop-left.left c.loop-left-test.false c.loop-left.invariant)
