-- What is printed of an epoch keeps the promise to the query's own program.
use Rattle.std.proofs.Common.{ℕ, List, subst}
use Rattle.semantics.specs.Multiset.{Record, IsPartOf, ◌≈◌}
use Rattle.semantics.proofs.StepsKeep.{rewrites_meaning, rewrites_typed}
use Rattle.replay.specs.Replays.{Setting, answer_of}
use Rattle.replay.specs.Waits.{State}
use Rattle.commands.specs.Replayed.{IsPromisedByText}

-- the program that the graph was made of is the normal form of the text's
pub promised_by_text : (query : List ℕ) (s : Setting) (x : State) (epoch output : ℕ) (label text : List ℕ) → IsPromisedByText query s x epoch output label text
promised_by_text query s x epoch output label text c prints =
    let same = rewrites_meaning c.normal.reached output (λ i. x.world.fed i epoch) in
    let kept = prints.promise c.rewritten (record { arities = c.reads.arities; typed = rewrites_typed c.normal.reached c.reads.arities c.reads.typed; graph = c.graph }) in
    record {
      part = subst (λ (rs : List Record). IsPartOf (answer_of s x.world output epoch) rs) same kept.part;
      whole = λ passed. subst (λ (rs : List Record). answer_of s x.world output epoch ≈ rs) same (kept.whole passed);
    }
