-- What a board promises, from the run that it keeps.
use Rattle.std.proofs.Common.{◌≡◌, ℕ, List, length, sym, ap, ◌∙◌, subst, arith}
use Rattle.semantics.specs.Multiset.{Record, IsPartOf, ◌≈◌}
use Rattle.semantics.proofs.MultisetSums.{≈-from, ≈-sym, ≈-trans}
use Rattle.semantics.specs.Query.{Program}
use Rattle.semantics.specs.Meaning.{program_meaning}
use Rattle.semantics.specs.Graph.{Graph, output_number}
use Rattle.semantics.specs.Could.{Pointstamp}
use Rattle.graph.specs.Shown.{shown_graph}
use Rattle.machine.specs.World.{opening}
use Rattle.machine.specs.Frontier.{Passed}
use Rattle.machine.specs.Engine.{engine, network}
use Rattle.machine.specs.Headline.{IsRunOf, meant, output_of}
use Rattle.machine.specs.Run.{Run}
use Rattle.machine.proofs.Headline.{emitted_part, emitted_whole}
use Rattle.machine.proofs.PassedEpochs.{drained_passed}
use Rattle.board.specs.Shown.{Shown, held_of}
use Rattle.board.specs.Kept.{IsKept}
use Rattle.board.specs.Promises.{RunsProgram, HasPassed, IsDrained, KeepsPromise, emitted_at, meant_of}

pub part_alike : {xs ys zs : List Record} → xs ≈ ys → IsPartOf xs zs → IsPartOf ys zs
part_alike e h = record { within = λ r. let n = e.counts r in let m = h.within r in omega (arith, n, m) }

module _ (graph : Graph) (content : Pointstamp → ℕ) (s : Shown) (kept : IsKept graph content s) where
  module _ (p : Program) (runs : RunsProgram p s) where
    is_run : IsRunOf p (length s.sides) kept.steps kept.world
    is_run = record {
      arities = runs.arities;
      typed = runs.typed;
      some = kept.some;
      run = let R : Graph → Type 0 = λ g. Run (network g (length s.sides)) opening kept.steps kept.world in subst R runs.graph kept.run;
    }

    shown_emitted : (k e : ℕ) → kept.world.emitted (output_of p k) e ≈ emitted_at s k e
    shown_emitted k e = ≈-trans (≈-from (ap (λ g. kept.world.emitted (output_number g k) e) (sym runs.graph))) (kept.shows.emitted (output_number (shown_graph s.graph) k) e)

    shown_meaning : (k e : ℕ) → meant p kept.world k e ≡ meant_of p s k e
    shown_meaning k e = λ j. program_meaning p k (λ i. kept.shows.fed i e j)

    passed_there : (k e : ℕ) → HasPassed s k e → Passed (engine p (length s.sides)) kept.world (output_of p k) e
    passed_there k e passed =
        let P : Graph → Type 0 = λ g. Passed (network g (length s.sides)) kept.world (output_number g k) e in
        subst P runs.graph (passed kept.world kept.shows)

    pub headline : KeepsPromise p s
    headline k e there = record {
      part =
          let B : List Record → Type 0 = λ ys. IsPartOf (emitted_at s k e) ys in
          subst B (shown_meaning k e) (part_alike (shown_emitted k e) (emitted_part p (length s.sides) kept.steps kept.world is_run k e there));
      whole = λ passed.
          let B : List Record → Type 0 = λ ys. emitted_at s k e ≈ ys in
          subst B (shown_meaning k e) (≈-trans (≈-sym (shown_emitted k e)) (emitted_whole p (length s.sides) kept.steps kept.world is_run k e there (passed_there k e passed)));
    }

  pub drained : IsDrained s → (k e : ℕ) → HasPassed s k e
  drained is k e w shows =
      drained_passed (shown_graph s.graph) kept.flows (length s.sides) kept.some w (record {
        closed = λ i l. shows.closed i ∙ is.closed i (let n = kept.inputs in omega (arith, l, n));
        mail = λ k l. shows.mail k l ∙ (is.idle k l).mail;
        requests = λ k l. shows.requests k l ∙ (is.idle k l).requests;
        held = λ k l. shows.held k l ∙ ap held_of (is.idle k l).place;
      }) (output_number (shown_graph s.graph) k) e
