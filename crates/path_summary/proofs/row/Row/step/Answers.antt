use Rattle.std.proofs.Common.{rules, ◌≡◌, ◌∙◌, ◌<◌, ◌≤◌, ℕ, Some, List, length, subst, sym, ap, arith, slice_index_or}
use denote.Enum.Bare.{same_true}
use Rattle.semantics.specs.Summary.{Summary}
use Rattle.loop_context.specs.contracts.action.Action.{the_type}
use Rattle.loop_context.specs.declared.action.Action.{Action as Declared}
use Rattle.loop_context.specs.declared.action.Action.TheVariants.{Stay}
use Rattle.path_summary.specs.Codes.{decoded, row_of}
use Rattle.path_summary.specs.Noted.{IsCodeBelow, LeadsTo}
use Rattle.path_summary.specs.Rows.{Stepped}
use Rattle.loop_context.specs.Actions.{action_of}
use Rattle.path_summary.proofs.Carrying.{below_self}
use Rattle.path_summary.proofs.CodesGrow.{grows_none}
use Rattle.path_summary.proofs.Notes.{leads_stay, stepped_not, stepped_to}
use Rattle.path_summary.proofs.row.Row.step.Goals as goal

pub returns-then-code-old-clause-stepped : goal.returns-then-code-old-clause-stepped
returns-then-code-old-clause-stepped c =
    let s = c.args.summaries.now in
    let code = c.code-code.result in
    let stays : c.action-action.result ≡ Stay = same_true the_type (search rules) _ _ (sym c.if-eq.ensures) in
    let some : 0 < code = omega arith in
    let within : code ≤ length s = let k = c.requires.codes.within c.source.result in omega (arith, c.code-code.ensures) in
    let leads : LeadsTo s (action_of c.action-action.result) code code = subst (λ (a : Declared). LeadsTo s (action_of a) code code) (sym stays) (leads_stay s code some within) in
    stepped_not c.args.link.now s s c.args.self.now c.source.result code c.target.result code (action_of c.action-action.result) (grows_none s) c.requires.codes c.source.ensures c.target.ensures c.action-action.ensures c.code-code.ensures leads
    (λ h k. record { least = h; known = ap (decoded s) (sym c.code-old.ensures ∙ sym c.if-code-old.true) ∙ k; below = below_self h })

pub returns-then-is_below-clause-stepped : goal.returns-then-is_below-clause-stepped
returns-then-is_below-clause-stepped c =
    let new = c.after.new.self in
    stepped_not c.args.link.now c.args.summaries.now new c.args.self.now c.source.result c.code-code.result c.target.result c.in_ok-next.next (action_of c.action-action.result)
    c.after.ensures.grows c.requires.codes c.source.ensures c.target.ensures c.action-action.ensures c.code-code.ensures c.in_ok-next.ensures.leads
    (subst (λ (k : ℕ). (h : Summary) → decoded new c.in_ok-next.next ≡ Some h → IsCodeBelow new k h) c.code-old.ensures (c.is_below.ensures.below c.if-is_below.true))

pub returns-clause-stepped : goal.returns-clause-stepped
returns-clause-stepped c =
    let new = c.after.new.self in
    subst (λ (codes : List ℕ). Stepped c.args.link.now (row_of c.args.summaries.now c.args.self.now) (row_of new codes)) (sym c.put.ensures)
    (stepped_to c.args.link.now c.args.summaries.now new c.args.self.now c.source.result c.code-code.result c.target-2.result c.in_ok-next.next (action_of c.action-action.result) c.after.ensures.grows c.requires.codes c.source.ensures c.target-2.ensures c.action-action.ensures c.code-code.ensures c.in_ok-next.ensures.leads
    (λ f h k l. c.is_below.ensures.not c.if-is_below.false f h (ap (decoded new) (c.code-old.ensures ∙ ap (λ (x : ℕ). slice_index_or c.args.self.now x 0) (c.target.ensures ∙ sym c.target-2.ensures)) ∙ k) l))
