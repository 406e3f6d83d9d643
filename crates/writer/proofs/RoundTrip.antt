-- The canonical text of a source reads as that source.
use Rattle.std.proofs.Common.{◌≡◌, ◌≢◌, ℕ, ◌≤◌, List, [], ◌++◌, length, refl, ap, ◌∙◌, Result, IfOk}
use Rattle.std.specs.Prelude.{IfErr}
use Rattle.std.proofs.lemmas.Result.{IfOk-weaker, IfErr-weaker}
use Rattle.record_core.specs.declared.span.Refusal.{Refusal}
use Rattle.record_core.specs.declared.span.Refusal.TheVariants.{At, NoMemory}
use Rattle.expr_tree.specs.declared.program.Program.{Program}
use Rattle.expr_tree.specs.Plain.{plain_program}
use Rattle.expr_tree.specs.Views.{program_tree}
use Rattle.grammar.specs.Texts.{Reads}
use Rattle.grammar.proofs.Texts.{one_text}
use Rattle.expr_tree.specs.Trees.{ProgramTree}
use Rattle.lexer.specs.Tokens.{max_length}
use Rattle.writer.specs.Programs.{program_pieces, program_text}
use Rattle.writer.specs.Sources.{IsSource, ReadsAs}
use Rattle.writer.proofs.Spaced.{apart_program}
use Rattle.writer.proofs.Lexing.{lexed}
use Rattle.writer.proofs.Programs.{program_back}

pub reads_as : (p : ProgramTree) → IsSource p → length (program_text p) ≤ max_length → ReadsAs (program_text p) p
reads_as p w short =
    let a = lexed (program_text p) (program_pieces p) 0 refl (apart_program p w) in
    let b = program_back (program_text p) p w a.ts a.said in
    record {
      tree = b.tree;
      same = b.same;
      reads = record { tokens = a.ts; height = _; lexed = record { short = short; stop = a.stop; tokens = a.tokens; rest = a.rest }; program = b.reads; low = w.low };
    }

-- the text that was written, from an empty vector on
pub text_is : (p : ProgramTree) (empty out text : List ℕ) → empty ≡ [] → out ≡ empty ++ program_text p → text ≡ out → text ≡ program_text p
text_is p empty out text e f g = rw (g, f, e) refl

-- what is read of it is the program
pub read_same : {B : Type 0} (r : Result (Program B) Refusal) (p : ProgramTree) (text : List ℕ) → text ≡ program_text p → ReadsAs (program_text p) p → IfOk r (λ q. Reads text (program_tree q)) → IfOk r (λ q. plain_program (program_tree q) ≡ plain_program p)
read_same r p text e a h = IfOk-weaker r _ _ (λ q d. ap plain_program (one_text text (program_tree q) a.tree d (rw e a.reads)) ∙ a.same) h

only_memory : (e : Refusal) (text : List ℕ) (t : ProgramTree) → Reads text t → (e ≢ NoMemory → (p : ProgramTree) → Reads text p → ⊥) → e ≡ NoMemory
only_memory NoMemory text t d n = refl
only_memory (At code span) text t d n = absurd (n (λ q. cc) t d)

pub read_memory : {B : Type 0} (r : Result (Program B) Refusal) (p : ProgramTree) (text : List ℕ) → text ≡ program_text p → ReadsAs (program_text p) p → IfErr r (λ e. e ≢ NoMemory → (q : ProgramTree) → Reads text q → ⊥) → IfErr r (λ e. e ≡ NoMemory)
read_memory r p text e a h = IfErr-weaker r _ _ (λ f n. only_memory f text a.tree (rw e a.reads) n) h
