-- The grammar of programs, as a relation between tokens and trees.
use Rattle.std.specs.Prelude.{ℕ, max, ◌<◌, ◌^◌, ◌≡◌, List, [], ◌∷◌, codes}
use Rattle.record_core.specs.declared.span.Span.{Span}
use Rattle.record_core.specs.declared.keyword.Keyword.TheVariants as keyword
use Rattle.lexer.specs.declared.token.Token.{Token}
use Rattle.lexer.specs.declared.token.TokenKind.TheVariants as kind
use Rattle.lexer.specs.declared.mark.Mark.TheVariants as mark
use Rattle.expr_tree.specs.declared.program.Input.{Input}
use Rattle.expr_tree.specs.Trees.{RelTree, LetTree, OutputTree, ProgramTree}
use Rattle.grammar.specs.Tokens.{token, mark_at, keyword_at, NoKeyword}
use Rattle.grammar.specs.Relations.{piece, IsNameAt}
use Rattle.grammar.specs.Relations as relation

-- { input }, and the tokens left
pub data Inputs (text : List ℕ) : List Token → List Input → List Token → Type 0 where
  no_input : {ts : List Token} → NoKeyword keyword.Input ts → Inputs text ts [] ts
  -- input = "input" NAME "/" NUMBER ";"
  input : {s x p d q : Span} {n : ℕ} {is : List Input} {ts us : List Token} → n < 2 ^ 63 → IsNameAt text x → Inputs text ts is us
      → Inputs text
      (keyword_at keyword.Input s ∷ token kind.Name x ∷ mark_at mark.Slash p ∷ token (kind.Number n) d ∷ mark_at mark.Semicolon q ∷ ts)
      (record { name_span = x; name = piece text x; arity_span = d; arity = n } ∷ is) us

-- { let }, the greatest height of their relations, and the tokens left
pub data Lets (text : List ℕ) : List Token → List LetTree → ℕ → List Token → Type 0 where
  no_let : {ts : List Token} → NoKeyword keyword.Let ts → Lets text ts [] 1 ts
  -- let = "let" NAME "=" rel ";"
  binding : {s x p q : Span} {r : RelTree} {h k : ℕ} {bs : List LetTree} {ts us vs : List Token} → IsNameAt text x
      → relation.Reads text ts r h (mark_at mark.Semicolon q ∷ us) → Lets text us bs k vs
      → Lets text (keyword_at keyword.Let s ∷ token kind.Name x ∷ mark_at mark.Equal p ∷ ts)
      (record { name_span = x; name = piece text x; relation = r } ∷ bs) (max h k) vs

-- the name of an output to which the text gives none
abbrev pub default_name : List ℕ
default_name = codes "out"

-- output = "output" rel ";" | "output" NAME "=" rel ";"
pub data OutputAt (text : List ℕ) : List Token → OutputTree → ℕ → List Token → Type 0 where
  unnamed : {s q : Span} {r : RelTree} {h : ℕ} {ts us : List Token} → relation.Reads text ts r h (mark_at mark.Semicolon q ∷ us)
      → OutputAt text (keyword_at keyword.Output s ∷ ts) (record { keyword_span = s; name_span = s; name = default_name; relation = r }) h us
  named : {s x p q : Span} {r : RelTree} {h : ℕ} {ts us : List Token} → IsNameAt text x → relation.Reads text ts r h (mark_at mark.Semicolon q ∷ us)
      → OutputAt text (keyword_at keyword.Output s ∷ token kind.Name x ∷ mark_at mark.Equal p ∷ ts)
      (record { keyword_span = s; name_span = x; name = piece text x; relation = r }) h us

-- the tokens are output { output }, and this is the greatest height of their relations
pub data Outputs (text : List ℕ) : List Token → List OutputTree → ℕ → Type 0 where
  last : {o : OutputTree} {h : ℕ} {ts : List Token} → OutputAt text ts o h [] → Outputs text ts (o ∷ []) h
  more : {o : OutputTree} {os : List OutputTree} {h k : ℕ} {ts us : List Token} → OutputAt text ts o h us
      → Outputs text us os k → Outputs text ts (o ∷ os) (max h k)

-- the tokens are a program, which is this tree, and its highest phrase has this height: program = { input } { let } output { output }
pub record ReadsProgram (text : List ℕ) (ts : List Token) (p : ProgramTree) (h : ℕ) : Type 0 where
  pub us : List Token
  pub vs : List Token
  pub lets_height : ℕ
  pub outputs_height : ℕ
  pub inputs : Inputs text ts p.inputs us
  pub lets : Lets text us p.lets lets_height vs
  pub outputs : Outputs text vs p.outputs outputs_height
  pub is : h ≡ max lets_height outputs_height
