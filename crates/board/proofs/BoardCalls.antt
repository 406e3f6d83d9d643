-- What the calls of a board rest on.
use Rattle.std.proofs.Common.{◌≡◌, ℕ, zero, suc, List, [], ◌∷◌, map, refl, sym, ap, ◌∙◌, subst, slice_set}
use Rattle.atomic_table.specs.Seated.{TableId}
use Rattle.semantics.specs.Multiset.{Record}
use Rattle.semantics.specs.Graph.{Graph}
use Rattle.semantics.specs.Could.{Pointstamp}
use Rattle.graph.specs.Shown.{shown_graph}
use Rattle.machine.specs.Step.{Step}
use Rattle.events.specs.Jobs.{Pass}
use Rattle.events.specs.declared.letter.Letter.{Letter}
use Rattle.board.specs.Shown.{Shown, Side, side_in, side_at, tables, event_at}
use Rattle.board.specs.Steps.{delivered, with_mail, settled}
use Rattle.board.specs.Kept.{IsKept, Goes}
use Rattle.board.specs.Commits.{FeedsBy, IsOf, Settles}
use Rattle.board.specs.Answers.{Holds}
use Rattle.board.proofs.Committed.{goes_commit, keeps_commit, done}

abbrev pub names : List Side → List TableId
names xs = map (λ (x : Side). x.table) xs

pub same_names : (xs : List Side) (k : ℕ) (y : Side) → y.table ≡ (side_in xs k).table → names (slice_set xs k y) ≡ names xs
same_names [] k y e = refl
same_names (x ∷ xs) zero y e = ap (λ t. t ∷ names xs) e
same_names (x ∷ xs) (suc k) y e = ap (λ l. x.table ∷ l) (same_names xs k y e)

pub delivered_names : (os : List Letter) (xs : List Side) → names (delivered xs os) ≡ names xs
delivered_names [] xs = refl
delivered_names (o ∷ os) xs =
    delivered_names os (slice_set xs o.to (with_mail (side_in xs o.to) o.message)) ∙ same_names xs o.to (with_mail (side_in xs o.to) o.message) refl

-- a feed leaves the workers' tables as they are
pub feed_tables : (s t : Shown) (added : List Pointstamp) (input : ℕ) (batch : List Record) → FeedsBy s t added input batch → tables t ≡ tables s
feed_tables s t added input batch f = ap tables f.state ∙ delivered_names f.letters s.sides

module _ (graph graph' : Graph) (content content' : Pointstamp → ℕ) (s t : Shown) (p : Pass) (kept : IsKept graph content s) (of : IsOf s p) (settles : Settles s t content content' p) where
  pub kept_commit : graph' ≡ graph → IsKept graph' content' t
  kept_commit same = subst (IsKept graph' content') (sym settles.state) (keeps_commit graph content s kept p of settles.out settles.output settles.is graph' content' same settles.content)

  pub commit_goes : Holds s p × ((out : ℕ → List Record) × Goes s (Step.commit p.worker p.job.happening out) t)
  commit_goes =
      let d = done graph content s kept p of settles.out settles.output settles.is in
      let A : Shown → Type 0 = λ z. Goes s (Step.commit p.worker p.job.happening d.out) z in
      (settles.out, (d.out, subst A (sym settles.state) (goes_commit graph content s kept p of settles.out settles.output settles.is)))

  pub commit_tables : tables t ≡ tables s
  commit_tables =
      let o = settles.output in
      let y = settled (side_at s p.worker) (event_at (shown_graph s.graph) p.job.happening) o.shard.value o.asked in
      ap tables settles.state ∙ delivered_names o.sent.items (slice_set s.sides p.worker y) ∙ same_names s.sides p.worker y refl
