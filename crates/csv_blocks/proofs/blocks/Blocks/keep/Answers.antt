use Rattle.std.proofs.Common.{◌≡◌, ◌∙◌, ◌∷◌, ap, drop, List, ℕ, Some}
use Rattle.csv_strict.specs.Strict.{run}
use Rattle.csv_strict.specs.declared.state.State.TheVariants.{Record}
use Rattle.csv_blocks.proofs.Holding.{feed-stays}
use Rattle.csv_blocks.proofs.Scans.{nothing-whole}
use Rattle.csv_blocks.proofs.blocks.Blocks.keep.Goals as goal

pub invariant_of-self-2 : goal.invariant_of-self-2
invariant_of-self-2 c =
    let old : List ℕ = c.args.self.now.block.items in
    let first : List ℕ = c.extend_from_slice.new.self.items in
    let grown : first ≡ 10 ∷ drop 1 first = rw c.in_ok-extend_from_slice.ensures.items (feed-stays old c.as_slice.result.now c.args.self.now.feed) in
    record {
      feed = rw c.in_ok-extend_from_slice-2.ensures.items (feed-stays first c.args.ends.now grown);
      reached = λ _. ap (λ (t : List ℕ). run (Some Record) t) c.clear.ensures.items ∙ nothing-whole;
    }
