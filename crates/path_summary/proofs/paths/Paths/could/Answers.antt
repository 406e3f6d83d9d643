use Rattle.std.proofs.Common.{subst}
use Rattle.std.specs.Prelude.{IsTrue, ◌↔◌}
use Rattle.semantics.specs.Could.{CouldResultIn, IsTimeAt}
use Rattle.graph.specs.Shown.{shown_graph}
use Rattle.path_summary.proofs.WholeTables.{decides_could}
use Rattle.path_summary.proofs.paths.Paths.could.Goals as goal

pub returns : goal.returns
returns c =
    let p = c.args.p.now in
    let q = c.args.q.now in
    let i = c.self.inside in
    let d = rw c.deref.ensures.value at c.could_in.ensures in
    (subst (λ v. IsTimeAt (shown_graph v) p.location p.time → IsTimeAt (shown_graph v) q.location q.time → IsTrue c.could_in.result ↔ CouldResultIn (shown_graph v) p q) c.self.view_is
    (λ f h. decides_could (shown_graph i.graph.value) i.links i.summaries i.rows.items c.self.invariant p q f h c.could_in.result d)) c.requires.from c.requires.to
