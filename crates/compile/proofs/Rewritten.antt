-- What is lowered means what was read.
use Rattle.std.proofs.Common.{◌≡◌, ◌<◌, ℕ, List, length, refl, sym, ap, subst, ◌∙◌, arith}
use Rattle.std.proofs.lemmas.List.{length-map}
use Rattle.expr_tree.specs.Plain.{plain_program}
use Rattle.expr_tree.specs.Trees.{ProgramTree}
use Rattle.grammar.specs.Texts.{Reads}
use Rattle.semantics.specs.Multiset.{◌≈◌}
use Rattle.semantics.specs.Rewriting.{IsNormalForm}
use Rattle.semantics.proofs.StepsKeep.{rewrites_meaning, rewrites_inputs, rewrites_names}
use Rattle.semantics.specs.Query.{Input, Name, Output, Program}
use Rattle.compile.specs.Queries.{output_names}
use Rattle.semantics.specs.Time.{at_epoch}
use Rattle.semantics.specs.Typing.{WellTyped}
use Rattle.semantics.specs.Graph.{Graph, output_number}
use Rattle.semantics.specs.Lower.{lowered}
use Rattle.lowering.specs.Computing.{Computes}
use Rattle.compile.specs.Compiled.{IsCompiled, IsTooLarge}

-- as many outputs as names
pub same_many : (q p : Program) → output_names q ≡ output_names p → length q.outputs ≡ length p.outputs
same_many q p e = sym (length-map q.outputs (λ (o : Output). o.name)) ∙ ap length e ∙ length-map p.outputs (λ (o : Output). o.name)

-- a graph that computes q computes what rewrites to q
computes_both : (g : Graph) (q p : Program) → IsNormalForm q p → Computes g q → Computes g p
computes_both g q p s c = record {
  one_flow = c.one_flow;
  outputs = c.outputs ∙ many;
  meaning = λ inputs f output epoch h l. subst (λ rs. f (output_number g output) 0 (at_epoch epoch) ≈ rs) (rewrites_meaning s.reached output (λ i. inputs i epoch)) (c.meaning inputs f output epoch h (omega (arith, l, many)));
  quiet = c.quiet;
}
  where
    many : length q.outputs ≡ length p.outputs
    many = same_many q p (rewrites_names s.reached)

pub compiled : (text : List ℕ) (tree : ProgramTree) (ns : List ℕ) (q : Program) (g : Graph) (inputs : List Input) (names : List Name) → Reads text tree → WellTyped (plain_program tree) ns → IsNormalForm q (plain_program tree)
    → g ≡ lowered q → inputs ≡ q.inputs → names ≡ output_names q → Computes g q → IsCompiled text g inputs names
compiled text tree ns q g inputs names read well s e i m c = record {
  program = plain_program tree;
  reads = record { tree = tree; arities = ns; read = read; plain = refl; typed = well };
  rewritten = q;
  normal = s;
  graph = e;
  named = i ∙ rewrites_inputs s.reached;
  named_outputs = m ∙ rewrites_names s.reached;
  computes = computes_both g q (plain_program tree) s c;
}

pub too_large : (text : List ℕ) (tree : ProgramTree) (ns : List ℕ) (q : Program) → Reads text tree → WellTyped (plain_program tree) ns → IsNormalForm q (plain_program tree) → 4096 < length (lowered q) → IsTooLarge text
too_large text tree ns q read well s l = record {
  program = plain_program tree;
  reads = record { tree = tree; arities = ns; read = read; plain = refl; typed = well };
  rewritten = q;
  normal = s;
  large = l;
}
