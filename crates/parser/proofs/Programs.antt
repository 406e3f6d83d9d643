-- Programs, at tokens that are known by an equation; and refusals.
use Rattle.std.proofs.Common.{◌≡◌, ◌≢◌, ℕ, max, arith, List, Result, refl, ◌∙◌, inl, inr}
use Rattle.std.specs.Prelude.{IfErr}
use Rattle.std.proofs.lemmas.Result.{IfErr-weaker}
use Rattle.record_core.specs.declared.span.Refusal.{Refusal}
use Rattle.record_core.specs.declared.span.Refusal.TheVariants.{At, NoMemory}
use Rattle.lexer.specs.declared.token.Token.{Token}
use Rattle.lexer.specs.Tokens.{Lexes}
use Rattle.lexer.proofs.Unique.{lexes_one, refused_none}
use Rattle.expr_tree.specs.declared.program.Input.{Input}
use Rattle.expr_tree.specs.Trees.{LetTree, ProgramTree}
use Rattle.grammar.specs.Phrases.{Unread}
use Rattle.grammar.specs.Programs.{Inputs, Lets, Outputs, ReadsProgram}
use Rattle.grammar.specs.Texts.{Reads, max_height}
use Rattle.grammar.proofs.Programs.{one_inputs, one_lets}
use Rattle.parser.specs.declared.fault.Fault.{Fault}
use Rattle.parser.specs.declared.fault.Fault.TheVariants as fault
use Rattle.parser.specs.Faults.{Denies}
use Rattle.parser.specs.Items.{NoInputs, NoOutputs}
use Rattle.parser.specs.Refusals.{NoProgram, Refuses, IsRefusalFor}

pub no_inputs : (text : List ℕ) (ts : List Token) (m : ℕ) → NoInputs text ts → NoProgram text ts m
no_inputs text ts m n p h d = absurd (n _ _ d.inputs)

pub no_lets : (text : List ℕ) (ts us : List Token) (is : List Input) (m : ℕ) → Inputs text ts is us → Unread (Lets text) us m → NoProgram text ts m
no_lets text ts us is m i u p h d =
    let a = one_inputs i d.inputs in
    let w = u _ _ _ (rw (← a.left) at d.lets) in let e = d.is in omega arith

pub no_outputs : (text : List ℕ) (ts us vs : List Token) (is : List Input) (ls : List LetTree) (k m : ℕ) → Inputs text ts is us → Lets text us ls k vs → NoOutputs text vs m → NoProgram text ts m
no_outputs text ts us vs is ls k m i l n p h d =
    let a = one_inputs i d.inputs in
    let b = one_lets l (rw (← a.left) at d.lets) in
    let w = n _ _ (rw (← b.left) at d.outputs) in let e = d.is in omega arith

pub program_at : (text : List ℕ) (ts us vs : List Token) (p : ProgramTree) (k n : ℕ) → Inputs text ts p.inputs us → Lets text us p.lets k vs → Outputs text vs p.outputs n → ReadsProgram text ts p (max k n)
program_at text ts us vs p k n i l o = record { us = us; vs = vs; lets_height = k; outputs_height = n; inputs = i; lets = l; outputs = o; is = refl }

-- a fault in the program of a text's tokens, as a refusal
pub refuses : (text : List ℕ) (ts : List Token) (f : Fault) (e : Refusal) → Lexes text ts → Denies f (NoProgram text ts) max_height → IsRefusalFor f e → Refuses text e
refuses text ts (fault.Unexpected s) (At code span) l d t = inr (ts, l, inl (t, d))
refuses text ts (fault.TooHigh s) (At code span) l d t = inr (ts, l, inr (t.0, d))
refuses text ts fault.NoMemory (At code span) l d t = absurd t
refuses text ts f NoMemory l d t = tt

-- a text that is refused by a number is no program
no_text : (text : List ℕ) (ts : List Token) (p : ProgramTree) → Lexes text ts → NoProgram text ts max_height → Reads text p → ⊥
no_text text ts p l n d =
    let same : d.tokens ≡ ts = lexes_one text ts d.tokens l d.lexed in
    let w = n p d.height (rw same at d.program) in let k = d.low in omega arith

pub not_read : (text : List ℕ) (e : Refusal) (p : ProgramTree) → Refuses text e → e ≢ NoMemory → Reads text p → ⊥
not_read text NoMemory p r n d = n refl
not_read text (At code span) p r n d = elim r [
  | inl a ↦ refused_none text (At code span) d.tokens a n d.lexed
  | inr b ↦ elim b.2 [
    | inl u ↦ no_text text b.0 p b.1 (u.1 max_height) d
    | inr u ↦ no_text text b.0 p b.1 u.1 d
  ]
]

-- a fault of the tokens that is passed on
pub no_tokens : {T : Type 0} (r : Result T Refusal) (e : Refusal) (text : List ℕ) → IfErr r (λ f. f ≡ e) → (e ≢ NoMemory → (ts : List Token) → Lexes text ts → ⊥) → IfErr r (λ f. f ≢ NoMemory → (p : ProgramTree) → Reads text p → ⊥)
no_tokens r e text h n = IfErr-weaker r _ _ (λ f i q p d. n (λ z. q (i ∙ z)) d.tokens d.lexed) h
