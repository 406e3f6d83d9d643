use Rattle.std.proofs.Common.{◌≡◌, ◌∙◌, sym, subst, arith, ap}
use Rattle.semantics.specs.Could.{Pointstamp, CouldResultIn}
use Rattle.semantics.proofs.Cases.{is_true, true_is}
use Rattle.graph.specs.Locations.{location_of}
use Rattle.graph.specs.Shown.{shown_graph}
use Rattle.progress.specs.Kept.{stamp}
use Rattle.progress.proofs.Earlier.{clear_none, clear_least}
use Rattle.progress.proofs.located.is_clear_in.Goals as goal

pub returns-in-None-clause-clear : goal.returns-in-None-clause-clear
returns-in-None-clause-clear c = λ _.
    let b = c.is_excepting-excepting.result in
    let x = c.is_excepting-excepting.ensures in
    clear_none (shown_graph c.args.paths.now) c.args.tree.now (location_of c.args.location) c.args.p.now c.args.other b
    (λ e. x.0 (is_true b e), λ k. true_is b (x.1 k)) (rw c.time.ensures at c.in-None.ensures.none)

pub returns-in-Some-clause-clear : goal.returns-in-Some-clause-clear
returns-in-Some-clause-clear c = λ n.
    let g = shown_graph c.args.paths.now in
    let l = location_of c.args.location in
    let b = c.is_excepting-excepting.result in
    let x = c.is_excepting-excepting.ensures in
    let is : c.new.result ≡ stamp l c.in-Some.time.now = c.new.ensures ∙ ap (stamp l) c.copied.ensures in
    clear_least g c.args.tree.now l c.args.p.now c.args.other b
    (λ e. x.0 (is_true b e), λ k. true_is b (x.1 k)) c.law_of_dataflow.ensures c.requires.known c.in-Some.time.now (rw c.time.ensures at c.in-Some.ensures.some)
    (λ h. let t = c.could.ensures.1 (subst (λ (q : Pointstamp). CouldResultIn g q c.args.p.now) (sym is) h) in grind arith)
