-- A text is at most one program.
use Rattle.std.proofs.Common.{◌≡◌, ℕ, List}
use Rattle.lexer.proofs.Unique.{lexes_one}
use Rattle.expr_tree.specs.Trees.{ProgramTree}
use Rattle.grammar.specs.Programs.{ReadsProgram}
use Rattle.grammar.specs.Texts.{Reads}
use Rattle.grammar.proofs.Programs.{one_program}

pub one_text : (text : List ℕ) (p q : ProgramTree) → Reads text p → Reads text q → p ≡ q
one_text text p q d e =
    let r : ReadsProgram text d.tokens q e.height = rw (lexes_one text d.tokens e.tokens d.lexed e.lexed) at e.program in
    (one_program d.program r).0
