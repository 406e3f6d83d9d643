-- What a commit says of its event.
use Rattle.std.proofs.Common.{◌≡◌, ◌+◌, ℕ, List, [], ◌∷◌, ◌++◌, length, sym, ap, ◌∙◌, subst, arith}
use Rattle.semantics.specs.Graph.{Graph}
use Rattle.semantics.specs.Could.{Pointstamp}
use Rattle.semantics.specs.Multiset.{total}
use Rattle.graph.specs.Shown.{shown_graph}
use Rattle.machine.specs.Step.{Step}
use Rattle.machine.proofs.Counting.{below_same}
use Rattle.tokens.specs.declared.rule.Place.TheVariants.{Out}
use Rattle.events.specs.Jobs.{Pass}
use Rattle.events.specs.Outputs.{IsOutputOf, counted}
use Rattle.events.specs.declared.letter.Letter.{Letter}
use Rattle.events.specs.declared.work.Output.{Output}
use Rattle.board.specs.Commits.{IsOf}
use Rattle.board.specs.Counting.{TellsCommit, records_sent}
use Rattle.board.specs.Kept.{Goes, IsKept}
use Rattle.board.specs.Shown.{Shown, event_at, net, side_at}
use Rattle.board.specs.Steps.{after_commit}
use Rattle.board.specs.declared.sent.Sent.{Sent}
use Rattle.board.proofs.Committed.{done, goes_commit}
use Rattle.board.proofs.Facts as facts
use Rattle.board.proofs.Mails.{by_workers}

-- one letter more
pub records_push : (f : Letter → ℕ) (letters : List Letter) (letter : Letter) → total f (letters ++ letter ∷ []) ≡ total f letters + f letter
records_push f [] letter = omega arith
records_push f (l ∷ letters) letter = let more = records_push f letters letter in omega (arith, more)

module _ (graph : Graph) (content : Pointstamp → ℕ) (s : Shown) (kept : IsKept graph content s) (p : Pass) (of : IsOf s p) (out : (side_at s p.worker).place ≡ Out p.job) (o : Output) (is : IsOutputOf p.worker p.job o) where
  records_are : total (λ (l : Letter). length l.message.records) o.sent.items ≡ records_sent (net s) p.worker p.job.happening (done graph content s kept p of out o is).out
  records_are =
      let d = done graph content s kept p of out o is in
      sym (by_workers (length s.sides) (λ m. length m.records) o.sent.items d.sends.within)
      ∙ below_same (length s.sides) _ _ (λ to l. ap (total (λ m. length m.records)) (d.sends.each to l))

  pub tells_commit : (t : Shown) (sent : Sent) → t ≡ after_commit s p.worker p.job o.shard.value o.sent.items o.emitted o.asked
      → sent.worker ≡ p.worker → sent.vertex ≡ event_at (shown_graph s.graph) p.job.happening → sent.received ≡ o.received
      → sent.records ≡ counted (total (λ (l : Letter). length l.message.records) o.sent.items) → TellsCommit s t p sent
  tells_commit t sent state worker vertex received records =
      let d = done graph content s kept p of out o is in
      record {
        out = d.out;
        goes = subst (Goes s (Step.commit p.worker p.job.happening d.out)) (sym state) (goes_commit graph content s kept p of out o is);
        worker = worker;
        vertex = vertex ∙ sym ((facts.net_of graph content s kept).at p.job.happening);
        received = received ∙ is.received;
        records = records ∙ ap counted records_are;
      }
