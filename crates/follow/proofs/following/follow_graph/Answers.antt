use Rattle.std.proofs.Common.{◌≡◌, ◌∷◌, ◌∙◌, [], ap, arith, length, map, refl, subst, sym, List, ℕ}
use Rattle.record_core.specs.Inputs.{input_of}
use Rattle.semantics.specs.Query.{Input}
use Rattle.graph.specs.Shown.{shown_inputs}
use Rattle.collector.specs.Pieces.{split_on}
use Rattle.collector.specs.Watching.{inner_of}
use Rattle.follow.specs.Scenes.{IsWritten}
use Rattle.follow.specs.Steps.{HaveArities, IsNew}
use Rattle.follow.proofs.Positions.{opened}
use Rattle.follow.proofs.Working.{opening_off}
use Rattle.follow.proofs.following.follow_graph.Goals as goal

pub new-requires : goal.new-requires
new-requires g c = subst HaveArities (sym (c.inputs-inputs.ensures ∙ ap shown_inputs c.deref-2.ensures)) (subst HaveArities (ap shown_inputs c.deref.ensures) c.law_inputs.ensures.fields)

pub follow_pieces-ended-requires-clause-rests : goal.follow_pieces-ended-requires-clause-rests
follow_pieces-ended-requires-clause-rests g c κs within = opening_off c.args.plan.now.graph.value c.args.plan.now.workers.count c.args.board.now.shown c.law_run.ensures c.requires.opening

pub follow_pieces-ended-requires-clause-first : goal.follow_pieces-ended-requires-clause-first
follow_pieces-ended-requires-clause-first g c κs within =
    let graph = c.args.plan.now.graph.value in
    let p = c.in_ok-position.position in
    let first = c.in_ok-position.ensures in
    let start = g.W.Write.contents (inner_of c.args.writer.now) in
    let inputs : map input_of c.inputs-inputs.result.now ≡ shown_inputs graph = c.inputs-inputs.ensures ∙ ap shown_inputs c.deref-2.ensures in
    let at_first = opened c.args.plan.now.first.number graph c.args.plan.now.workers.count c.args.board.now.shown p.base p.intake p.reporting start c.requires.opening c.requires.shows first.base (subst (λ (is : List Input). IsNew is p.intake) inputs first.new) (first.room ∙ c.output_count.ensures) first.fresh in
    record {
      written = subst (λ (xs : List ℕ). IsWritten c.args.plan.now.first.number graph c.args.board.now.shown p.base p.intake p.reporting [] xs start start) (sym first.none) at_first;
      unended = subst (λ (xs : List ℕ). split_on 10 xs ≡ xs ∷ []) (sym first.none) refl;
      short = let n = ap length first.none in omega (arith, n);
    }

pub follow_pieces-ended-requires-clause-none : goal.follow_pieces-ended-requires-clause-none
follow_pieces-ended-requires-clause-none g c κs within = let first = c.in_ok-position.ensures in let a = first.new.line in let b = ap length first.none in omega (arith, a, b)
