-- Why a text is refused is why its query is.
use Rattle.std.proofs.Common.{List, ℕ, inr}
use Rattle.record_core.specs.declared.span.Refusal.{Refusal}
use Rattle.record_core.specs.declared.span.Refusal.TheVariants.{At, NoMemory}
use Rattle.expr_tree.specs.Trees.{ProgramTree}
use Rattle.grammar.specs.Texts.{Reads}
use Rattle.parser.specs.Refusals as parser
use Rattle.typing.specs.FirstFault.{HasFirstFault}
use Rattle.compile.specs.Checked.{IsCheckFault}
use Rattle.compile.specs.Compiled.{IsUncompiled}
use Rattle.compile.specs.Faults.{compile_fault_of, fault_of}
use Rattle.compile.specs.Canonical.{IsFormatFault}
use Rattle.compile.specs.CheckedInputs.{IsInputCheckFault}
use Rattle.compile.specs.Queries.{IsRefusal}

pub ill_typed : (text : List ℕ) (tree : ProgramTree) (e : Refusal) → Reads text tree → HasFirstFault tree e → IsRefusal text e
ill_typed text tree (At code span) read first = inr (tree, read, first)
ill_typed text tree NoMemory read first = tt

pub graph_refused : (text : List ℕ) (e : Refusal) → IsRefusal text e → IsUncompiled text (compile_fault_of e)
graph_refused text (At code span) h = h
graph_refused text NoMemory h = tt

pub check_refused : (text : List ℕ) (e : Refusal) → IsRefusal text e → IsCheckFault text (fault_of e)
check_refused text (At code span) h = h
check_refused text NoMemory h = tt

pub format_refused : (text : List ℕ) (e : Refusal) → parser.Refuses text e → IsFormatFault text (fault_of e)
format_refused text (At code span) h = h
format_refused text NoMemory h = tt

pub input_check_refused : (text input : List ℕ) (e : Refusal) → IsRefusal text e → IsInputCheckFault text input (fault_of e)
input_check_refused text input (At code span) h = h
input_check_refused text input NoMemory h = tt
