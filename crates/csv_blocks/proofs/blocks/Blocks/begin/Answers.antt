use Rattle.std.proofs.Common.{◌∙◌, ap, List, ℕ, Some}
use Rattle.csv_strict.specs.Strict.{run}
use Rattle.csv_strict.specs.declared.state.State.TheVariants.{Record}
use Rattle.csv_blocks.proofs.Scans.{nothing-whole}
use Rattle.csv_blocks.proofs.blocks.Blocks.begin.Goals as goal

pub invariant_of-self : goal.invariant_of-self
invariant_of-self c = record {
  feed = c.args.self.now.feed;
  reached = λ _. ap (λ v. run (Some Record) v.items) c.replace-text.ensures.after ∙ (ap (λ (t : List ℕ). run (Some Record) t) c.new.ensures.items ∙ nothing-whole);
}
