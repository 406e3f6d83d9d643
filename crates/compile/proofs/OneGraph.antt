-- A text has one program, that has one normal form, and that has one graph.
use Rattle.std.proofs.Common.{◌≡◌, ◌<◌, ℕ, List, length, sym, ap, subst, ◌∙◌}
use Rattle.expr_tree.specs.Plain.{plain_program}
use Rattle.semantics.specs.Query.{Input, Name, Program}
use Rattle.semantics.specs.Graph.{Graph}
use Rattle.semantics.specs.Lower.{lowered}
use Rattle.semantics.specs.Rewriting.{IsNormalForm}
use Rattle.semantics.proofs.OneNormalForm.{one_normal_form}
use Rattle.compile.specs.Queries.{IsQuery}
use Rattle.compile.specs.Compiled.{IsCompiled, IsTooLarge}
use Rattle.grammar.proofs.Texts.{one_text}

pub same_program : (text : List ℕ) (p q : Program) → IsQuery text p → IsQuery text q → p ≡ q
same_program text p q a b = a.plain ∙ ap plain_program (one_text text a.tree b.tree a.read b.read) ∙ sym b.plain

same_form : (text : List ℕ) (p q r s : Program) → IsQuery text p → IsQuery text q → IsNormalForm r p → IsNormalForm s q → r ≡ s
same_form text p q r s a b m n = one_normal_form q r s (subst (λ u. IsNormalForm r u) (same_program text p q a b) m) n

pub same_graph : (text : List ℕ) (g h : Graph) (i j : List Input) (m n : List Name) → IsCompiled text g i m → IsCompiled text h j n → g ≡ h
same_graph text g h i j m n a b = a.graph ∙ ap lowered (same_form text a.program b.program a.rewritten b.rewritten a.reads b.reads a.normal b.normal) ∙ sym b.graph

pub large_graph : (text : List ℕ) (g : Graph) (i : List Input) (m : List Name) → IsCompiled text g i m → IsTooLarge text → 4096 < length g
large_graph text g i m a b =
    subst (λ h. 4096 < length h) (ap lowered (same_form text b.program a.program b.rewritten a.rewritten b.reads a.reads b.normal a.normal) ∙ sym a.graph) b.large
