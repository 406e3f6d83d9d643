use Rattle.std.proofs.Common.{◌≡◌, ◌∙◌, ◌+◌, ◌++◌, ◌∷◌, [], List, length, ap, sym, subst, arith, length-append}
use Rattle.semantics.specs.Dataflow.{IsDataflow}
use Rattle.semantics.specs.Could.{Pointstamp, at_vertex}
use Rattle.semantics.specs.Time.{Time, at_epoch}
use Rattle.graph.specs.Shown.{GraphValue, shown_graph}
use Rattle.views.proofs.OpenInputs.{AreOpened, opened_more, opened_known}
use Rattle.views.proofs.opening.open_inputs.Goals as goal

pub loop-input-preserved : goal.loop-input-preserved
loop-input-preserved c =
    let ps = c.loop-input.first.items in
    let n = c.loop-input.input in
    let one : c.new.result ≡ at_vertex n (at_epoch 0) = c.new.ensures ∙ ap (λ (t : Time). at_vertex n t) c.at_epoch-time.ensures in
    let items : c.push.new.self.items ≡ ps ++ (at_vertex n (at_epoch 0) ∷ []) = c.in_ok-push.ensures.items ∙ ap (λ (p : Pointstamp). ps ++ (p ∷ [])) one in
    record {
      content = subst (λ (l : List Pointstamp). AreOpened l (n + 1)) (sym items) (opened_more ps n c.loop-input.invariant.content);
      long = ap (λ (l : List Pointstamp). length l) items ∙ (let e = length-append ps (at_vertex n (at_epoch 0) ∷ []) in let h = c.loop-input.invariant.long in omega arith);
    }

pub returns-clause-known : goal.returns-clause-known
returns-clause-known c =
    let A : GraphValue → Type 0 = λ x. IsDataflow (shown_graph x) in
    let flows = subst A c.graph-graph.ensures c.law_of_dataflow.ensures in
    let count = rw c.graph-graph.ensures at c.input_count-count.ensures.value in
    opened_known (shown_graph c.args.paths.now) flows c.loop-input.first.items c.loop-input.input (let e = c.loop-input.auto.input-end in omega (arith, count)) c.loop-input.invariant.content
