-- The canonical text of a program reads as that program.
use Rattle.std.proofs.Common.{◌≡◌, ℕ, max, List, [], ◌∷◌, ◌++◌, map, Bool, true, false, cond, refl, ap, ap₂, sym, ◌∙◌, arith}
use Rattle.std.specs.Prelude.{bytes_eq}
use Rattle.std.proofs.lemmas.Slice.Eq.{bytes_eq-Decides}
use Rattle.std.specs.List.{flat_map}
use Rattle.record_core.specs.declared.span.Span.{Span}
use Rattle.record_core.specs.Names.{IsName}
use Rattle.record_core.specs.declared.keyword.Keyword.TheVariants as keyword
use Rattle.expr_tree.specs.declared.program.Input.{Input}
use Rattle.expr_tree.specs.Trees.{RelTree, LetTree, OutputTree, ProgramTree}
use Rattle.expr_tree.specs.Plain.{plain_input, plain_let, plain_output, plain_program}
use Rattle.semantics.specs.Query as query
use Rattle.lexer.specs.declared.token.Token.{Token}
use Rattle.lexer.specs.declared.token.TokenKind.TheVariants as kind
use Rattle.lexer.specs.declared.mark.Mark.TheVariants as sign
use Rattle.grammar.specs.Tokens.{token, mark_at, keyword_at, NoKeyword}
use Rattle.grammar.specs.Relations.{piece, IsNameAt}
use Rattle.grammar.specs.Relations as relation
use Rattle.grammar.specs.Programs.{Inputs, no_input, input, Lets, no_let, binding, default_name, OutputAt, Outputs, ReadsProgram}
use Rattle.grammar.specs.Programs as program
use Rattle.writer.specs.Pieces.{word, Word, spaced}
use Rattle.writer.specs.Relations.{rel_pieces, heights, rel_height}
use Rattle.writer.specs.Programs.{line_end, input_pieces, let_pieces, naming, output_pieces, program_pieces, lets_height, output_height, program_height}
use Rattle.writer.specs.Sources.{Each, Filled, IsInputSource, IsLetSource, IsOutputSource, IsSource}
use Rattle.writer.proofs.PieceTokens.{Says, cut}
use Rattle.writer.proofs.Relations.{rel_back, is_name_at}

pub record InputsBack (text : List ℕ) (is : List Input) (ts us : List Token) : Type 0 where
  pub inputs : List Input
  pub same : map plain_input inputs ≡ map plain_input is
  pub reads : Inputs text ts inputs us

abbrev input_at : List ℕ → Span → Span → ℕ → Input
input_at text x d n = record { name_span = x; name = piece text x; arity_span = d; arity = n }

abbrev plain_input_of : List ℕ → ℕ → query.Input
plain_input_of x n = record { name = x; arity = n }

no_inputs : {text : List ℕ} {ts us : List Token} → ts ≡ us → NoKeyword keyword.Input us → Inputs text ts [] us
no_inputs e n = rw e (no_input n)

inputs_at : {text : List ℕ} {is : List Input} {ts us zs : List Token} → ts ≡ zs → Inputs text zs is us → Inputs text ts is us
inputs_at e d = rw e d

inputs_back : (text : List ℕ) (is : List Input) → Each IsInputSource is → (ts us : List Token) → Says text (flat_map input_pieces is) ts us → NoKeyword keyword.Input us → InputsBack text is ts us
inputs_back text [] w ts us s last = record { inputs = []; same = refl; reads = no_inputs s last }
inputs_back text (i ∷ is) w ts us s last =
    let n = s.4 in
    let p = n.4 in
    let d = p.4 in
    let q = d.4 in
    let b = inputs_back text is w.1 q.1 us q.4 last in
    record {
      inputs = input_at text n.0 d.0 i.arity ∷ b.inputs;
      same = ap₂ (λ x xs. plain_input_of x i.arity ∷ xs) n.3.1 b.same;
      reads = inputs_at (s.2 ∙ ap (λ v. keyword_at keyword.Input s.0 ∷ v) (n.2 ∙ ap (λ v. token kind.Name n.0 ∷ v) (p.2 ∙ ap (λ v. mark_at sign.Slash p.0 ∷ v) (d.2 ∙ ap (λ v. token (kind.Number i.arity) d.0 ∷ v) q.2)))) (input w.0.1 (is_name_at text n.0 i.name w.0.0 n.3) b.reads);
    }

pub record LetsBack (text : List ℕ) (ls : List LetTree) (n : ℕ) (ts us : List Token) : Type 0 where
  pub lets : List LetTree
  pub same : map plain_let lets ≡ map plain_let ls
  pub reads : Lets text ts lets n us

abbrev let_at : List ℕ → Span → RelTree → LetTree
let_at text x r = record { name_span = x; name = piece text x; relation = r }

abbrev plain_let_of : List ℕ → query.Rel → query.Let
plain_let_of x r = record { name = x; value = r }

no_lets : {text : List ℕ} {ts us : List Token} → ts ≡ us → NoKeyword keyword.Let us → Lets text ts [] 1 us
no_lets e n = rw e (no_let n)

lets_at : {text : List ℕ} {ls : List LetTree} {h : ℕ} {ts us zs : List Token} → ts ≡ zs → Lets text zs ls h us → Lets text ts ls h us
lets_at e d = rw e d

lets_back : (text : List ℕ) (ls : List LetTree) → Each IsLetSource ls → (ts us : List Token) → Says text (flat_map let_pieces ls) ts us → NoKeyword keyword.Let us → LetsBack text ls (lets_height ls) ts us
lets_back text [] w ts us s last = record { lets = []; same = refl; reads = no_lets s last }
lets_back text (l ∷ ls) w ts us s last =
    let n = s.4 in
    let p = n.4 in
    let c = cut (rel_pieces l.relation ++ line_end) (flat_map let_pieces ls) p.4 in
    let e = cut (rel_pieces l.relation) line_end c.first in
    let q = e.second in
    let r = rel_back text l.relation w.0.1 p.1 (mark_at sign.Semicolon q.0 ∷ c.vs) (rw (q.2, q.4) at e.first) (λ e. cc) in
    let b = lets_back text ls w.1 c.vs us c.second last in
    record {
      lets = let_at text n.0 r.tree ∷ b.lets;
      same = ap₂ (λ x xs. x ∷ xs) (ap₂ plain_let_of n.3.1 r.same) b.same;
      reads = lets_at (s.2 ∙ ap (λ v. keyword_at keyword.Let s.0 ∷ v) (n.2 ∙ ap (λ v. token kind.Name n.0 ∷ v) p.2)) (binding (is_name_at text n.0 l.name w.0.0 n.3) r.reads b.reads);
    }

abbrev output_of : Span → Span → List ℕ → RelTree → OutputTree
output_of s x n r = record { keyword_span = s; name_span = x; name = n; relation = r }

-- what names an output, and the output
record NamingBack (text : List ℕ) (s : Span) (x : List ℕ) (r : RelTree) (h : ℕ) (ts us : List Token) : Type 0 where
  pub place : Span
  pub name : List ℕ
  pub same : name ≡ x
  pub reads : OutputAt text (keyword_at keyword.Output s ∷ ts) (output_of s place name r) h us

unnamed_at : {text : List ℕ} {s q : Span} {r : RelTree} {h : ℕ} {ts vs us : List Token} → ts ≡ vs → relation.Reads text vs r h (mark_at sign.Semicolon q ∷ us) → OutputAt text (keyword_at keyword.Output s ∷ ts) (output_of s s default_name r) h us
unnamed_at e d = rw e (program.unnamed d)

named_at : {text : List ℕ} {s x p q : Span} {r : RelTree} {h : ℕ} {ts vs us : List Token} → ts ≡ token kind.Name x ∷ mark_at sign.Equal p ∷ vs → IsNameAt text x → relation.Reads text vs r h (mark_at sign.Semicolon q ∷ us) → OutputAt text (keyword_at keyword.Output s ∷ ts) (output_of s x (piece text x) r) h us
named_at e n d = rw e (program.named n d)

naming_back : (text : List ℕ) (s q : Span) (x : List ℕ) (b : Bool) → (b ≡ true → x ≡ default_name) → IsName x → (r : RelTree) (h : ℕ) (ts vs us : List Token) → Says text (cond b [] (word (Word.name x) ∷ spaced sign.Equal)) ts vs → relation.Reads text vs r h (mark_at sign.Semicolon q ∷ us) → NamingBack text s x r h ts us
naming_back text s q x true is n r h ts vs us said d = record { place = s; name = default_name; same = sym (is refl); reads = unnamed_at said d }
naming_back text s q x false is n r h ts vs us said d =
    let p = said.4 in
    record { place = said.0; name = piece text said.0; same = said.3.1; reads = named_at (said.2 ∙ ap (λ v. token kind.Name said.0 ∷ v) (p.2 ∙ ap (λ v. mark_at sign.Equal p.0 ∷ v) p.4)) (is_name_at text said.0 x n said.3) d }

pub record OutputBack (text : List ℕ) (o : OutputTree) (ts us : List Token) : Type 0 where
  pub tree : OutputTree
  pub same : plain_output tree ≡ plain_output o
  pub reads : OutputAt text ts tree (rel_height o.relation) us

abbrev plain_output_of : List ℕ → query.Rel → query.Output
plain_output_of x r = record { name = x; value = r }

output_at : {text : List ℕ} {o : OutputTree} {h : ℕ} {ts us zs : List Token} → ts ≡ zs → OutputAt text zs o h us → OutputAt text ts o h us
output_at e d = rw e d

output_back : (text : List ℕ) (o : OutputTree) → IsOutputSource o → (ts us : List Token) → Says text (output_pieces o) ts us → OutputBack text o ts us
output_back text o w ts us s =
    let c = cut (naming o.name) (rel_pieces o.relation ++ line_end) s.4 in
    let e = cut (rel_pieces o.relation) line_end c.second in
    let q = e.second in
    let r = rel_back text o.relation w.1 c.vs (mark_at sign.Semicolon q.0 ∷ us) (rw (q.2, q.4) at e.first) (λ e. cc) in
    let n = naming_back text s.0 q.0 o.name (bytes_eq o.name default_name) (λ e. (bytes_eq-Decides o.name default_name).0 e) w.0 r.tree (rel_height o.relation) s.1 c.vs us c.first r.reads in
    record { tree = output_of s.0 n.place n.name r.tree; same = ap₂ plain_output_of n.same r.same; reads = output_at s.2 n.reads }

pub record OutputsBack (text : List ℕ) (os : List OutputTree) (n : ℕ) (ts : List Token) : Type 0 where
  pub outputs : List OutputTree
  pub same : map plain_output outputs ≡ map plain_output os
  pub reads : Outputs text ts outputs n

last_at : {text : List ℕ} {o : OutputTree} {h : ℕ} {ts : List Token} → OutputAt text ts o h [] → Outputs text ts (o ∷ []) (max h 0)
last_at {h = h} d = let same : max h 0 ≡ h = omega arith in rw same (program.last d)

outputs_back : (text : List ℕ) (os : List OutputTree) → Filled IsOutputSource os → (ts : List Token) → Says text (flat_map output_pieces os) ts [] → OutputsBack text os (heights output_height os) ts
outputs_back text [] w ts s = absurd w
outputs_back text (o ∷ []) w ts s =
    let c = cut (output_pieces o) [] s in
    let b = output_back text o w.0 ts [] (rw c.second at c.first) in
    record { outputs = b.tree ∷ []; same = ap (λ x. x ∷ []) b.same; reads = last_at b.reads }
outputs_back text (o ∷ p ∷ os) w ts s =
    let c = cut (output_pieces o) (flat_map output_pieces (p ∷ os)) s in
    let b = output_back text o w.0 ts c.vs c.first in
    let r = outputs_back text (p ∷ os) w.1 c.vs c.second in
    record { outputs = b.tree ∷ r.outputs; same = ap₂ (λ x xs. x ∷ xs) b.same r.same; reads = program.more b.reads r.reads }

-- no input is where the named relations begin, and none of those is where the outputs begin
after_inputs : (text : List ℕ) (ls : List LetTree) (os : List OutputTree) → Filled IsOutputSource os → (ts us : List Token) → Says text (flat_map let_pieces ls ++ flat_map output_pieces os) ts us → NoKeyword keyword.Input ts
after_inputs text (l ∷ ls) os w ts us s = rw s.2 (λ e. cc)
after_inputs text [] (o ∷ os) w ts us s = rw s.2 (λ e. cc)
after_inputs text [] [] w ts us s = absurd w

after_lets : (text : List ℕ) (os : List OutputTree) → Filled IsOutputSource os → (ts us : List Token) → Says text (flat_map output_pieces os) ts us → NoKeyword keyword.Let ts
after_lets text [] w ts us s = absurd w
after_lets text (o ∷ os) w ts us s = rw s.2 (λ e. cc)

abbrev made : List query.Input → List query.Let → List query.Output → query.Program
made is ls os = record { inputs = is; lets = ls; outputs = os }

pub record ProgramBack (text : List ℕ) (p : ProgramTree) (n : ℕ) (ts : List Token) : Type 0 where
  pub tree : ProgramTree
  pub same : plain_program tree ≡ plain_program p
  pub reads : ReadsProgram text ts tree n

abbrev tree_of : List Input → List LetTree → List OutputTree → ProgramTree
tree_of is ls os = record { inputs = is; lets = ls; outputs = os }

pub program_back : (text : List ℕ) (p : ProgramTree) → IsSource p → (ts : List Token) → Says text (program_pieces p) ts [] → ProgramBack text p (program_height p) ts
program_back text p w ts s =
    let c = cut (flat_map input_pieces p.inputs) (flat_map let_pieces p.lets ++ flat_map output_pieces p.outputs) s in
    let e = cut (flat_map let_pieces p.lets) (flat_map output_pieces p.outputs) c.second in
    let a = inputs_back text p.inputs w.inputs ts c.vs c.first (after_inputs text p.lets p.outputs w.outputs c.vs [] c.second) in
    let b = lets_back text p.lets w.lets c.vs e.vs e.first (after_lets text p.outputs w.outputs e.vs [] e.second) in
    let o = outputs_back text p.outputs w.outputs e.vs e.second in
    record {
      tree = tree_of a.inputs b.lets o.outputs;
      same = ap₂ (λ (i : List query.Input × List query.Let) u. made i.0 i.1 u) (ap₂ (λ i l. (i, l)) a.same b.same) o.same;
      reads = record {
        us = c.vs;
        vs = e.vs;
        lets_height = lets_height p.lets;
        outputs_height = heights output_height p.outputs;
        inputs = a.reads;
        lets = b.reads;
        outputs = o.reads;
        is = refl;
      };
    }
