-- A typed query's script is the query's.
use Rattle.std.proofs.Common.{◌≡◌, ◌⊎◌, true, List, ℕ, inl, inr, refl, ap, ◌∙◌}
use Rattle.record_core.specs.declared.span.Refusal.{Refusal}
use Rattle.record_core.specs.declared.span.Refusal.TheVariants.{At, NoMemory}
use Rattle.semantics.specs.Query.{Program}
use Rattle.semantics.specs.Typing.{WellTyped}
use Rattle.expr_tree.specs.Plain.{plain_program}
use Rattle.expr_tree.specs.Trees.{ProgramTree}
use Rattle.grammar.specs.Texts.{Reads}
use Rattle.sql.specs.Limits.{IsSqlRefusal}
use Rattle.sql.specs.Text.{script_text}
use Rattle.sql.specs.Asked.{Asked, has_layout, has_output}
use Rattle.compile.specs.Faults.{fault_of}
use Rattle.compile.specs.Queries.{IsQuery, IsRefusal}
use Rattle.compile.specs.Scripts.{IsScript, IsScriptFault}

pub script_refused : (a : Asked) (text : List ℕ) (e : Refusal) → IsRefusal text e → IsScriptFault a text (fault_of e)
script_refused a text (At code span) h = inl h
script_refused a text NoMemory h = tt

is_query : (text : List ℕ) (tree : ProgramTree) (ns : List ℕ) → Reads text tree → WellTyped (plain_program tree) ns → IsQuery text (plain_program tree)
is_query text tree ns r w = record { tree = tree; arities = ns; read = r; plain = refl; typed = w }

pub script_unwritten : (a : Asked) (text : List ℕ) (tree : ProgramTree) (ns : List ℕ) (e : Refusal) → Reads text tree → WellTyped (plain_program tree) ns → IsSqlRefusal a (plain_program tree) e → IsScriptFault a text (fault_of e)
script_unwritten a text tree ns (At code span) r w (inl h) = inr (inl (h.0, (plain_program tree, is_query text tree ns r w, h.1)))
script_unwritten a text tree ns (At code span) r w (inr (inl h)) = inr (inr (inl (h.0, (plain_program tree, is_query text tree ns r w, h.1))))
script_unwritten a text tree ns (At code span) r w (inr (inr h)) = inr (inr (inr (h.0, (plain_program tree, is_query text tree ns r w, h.1))))
script_unwritten a text tree ns NoMemory r w h = tt

pub script_written : (a : Asked) (text written : List ℕ) (tree : ProgramTree) (ns : List ℕ) → Reads text tree → WellTyped (plain_program tree) ns → has_output a.output (plain_program tree).outputs ≡ true →
    has_layout a (plain_program tree).outputs ≡ true → written ≡ script_text a (plain_program tree) →
    IsScript a text written
script_written a text written tree ns r w o l h = (plain_program tree, is_query text tree ns r w, o, l, h)
