-- Tokens are at most one program.
use Rattle.std.proofs.Common.{◌≡◌, ℕ, max, List, [], ◌∷◌, refl, ap, ap₂, sym, ◌∙◌}
use Rattle.record_core.specs.declared.span.Span.{Span}
use Rattle.expr_tree.specs.declared.program.Input.{Input}
use Rattle.expr_tree.specs.Trees.{RelTree, LetTree, OutputTree, ProgramTree}
use Rattle.lexer.specs.declared.token.Token.{Token}
use Rattle.lexer.specs.declared.token.TokenKind.TheVariants as kind
use Rattle.lexer.specs.declared.mark.Mark.TheVariants as mark
use Rattle.grammar.specs.Tokens.{token, mark_at}
use Rattle.grammar.specs.Phrases.{Agree, IsOne}
use Rattle.grammar.specs.Relations.{piece}
use Rattle.grammar.specs.Relations as relation
use Rattle.grammar.specs.Programs.{Inputs, no_input, input, Lets, no_let, binding, default_name, OutputAt, unnamed, named, Outputs, last, more, ReadsProgram}
use Rattle.grammar.proofs.Tokens.{rest_one}
use Rattle.grammar.proofs.Relations.{one_reading}

pub one_inputs : {text : List ℕ} {ts us vs : List Token} {x y : List Input} → Inputs text ts x us → Inputs text ts y vs → Agree x y 0 0 us vs
one_inputs (no_input d) (no_input e) = record { value = refl; height = refl; left = refl }
one_inputs (no_input d) (input n i e) = absurd (d refl)
one_inputs (input n i d) (no_input e) = absurd (e refl)
one_inputs (input n i d) (input m j e) = let a = one_inputs d e in record { value = cc a.value; height = refl; left = a.left }

pub one_lets : {text : List ℕ} {ts us vs : List Token} {x y : List LetTree} {h k : ℕ} → Lets text ts x h us → Lets text ts y k vs → Agree x y h k us vs
one_lets (no_let d) (no_let e) = record { value = refl; height = refl; left = refl }
one_lets (no_let d) (binding i e r) = absurd (d refl)
one_lets (binding i d r) (no_let e) = absurd (e refl)
one_lets {text = text} (binding {x = x} i d r) (binding j e t) =
    let a = one_reading d e in
    let b = one_lets r (rw (← rest_one a.left) at t) in
    record { value = ap₂ (λ q bs. record { name_span = x; name = piece text x; relation = q } ∷ bs) a.value b.value; height = cc (a.height, b.height); left = b.left }

-- a name with its relation isn't a relation with its semicolon
pub not_named : {text : List ℕ} {x p q : Span} {r : RelTree} {h : ℕ} {ts us : List Token} → relation.Reads text (token kind.Name x ∷ mark_at mark.Equal p ∷ ts) r h (mark_at mark.Semicolon q ∷ us) → ⊥
not_named d = elim d [ ]

pub one_output : (text : List ℕ) → IsOne (OutputAt text)
one_output text ts us vs x y h k (unnamed {s = s} d) (unnamed e) =
    let a = one_reading d e in
    record { value = ap (λ r. record { keyword_span = s; name_span = s; name = default_name; relation = r }) a.value; height = a.height; left = rest_one a.left }
one_output text ts us vs x y h k (named {s = s} {x = z} i d) (named j e) =
    let a = one_reading d e in
    record { value = ap (λ r. record { keyword_span = s; name_span = z; name = piece text z; relation = r }) a.value; height = a.height; left = rest_one a.left }
one_output text ts us vs x y h k (unnamed d) (named j e) = absurd (not_named d)
one_output text ts us vs x y h k (named i d) (unnamed e) = absurd (not_named e)

-- an output begins with its keyword
some_output : {text : List ℕ} {o : OutputTree} {h : ℕ} {us : List Token} → OutputAt text [] o h us → ⊥
some_output d = elim d [ ]

some_outputs : {text : List ℕ} {os : List OutputTree} {h : ℕ} → Outputs text [] os h → ⊥
some_outputs (last d) = some_output d
some_outputs (more d r) = some_output d

pub one_outputs : {text : List ℕ} {ts : List Token} {x y : List OutputTree} {h k : ℕ} → Outputs text ts x h → Outputs text ts y k → (x ≡ y) × (h ≡ k)
one_outputs {text = text} (last d) (last e) = let a = one_output text _ _ _ _ _ _ _ d e in (ap (λ o. o ∷ []) a.value, a.height)
one_outputs {text = text} (last d) (more e t) = let a = one_output text _ _ _ _ _ _ _ d e in absurd (some_outputs (rw (← a.left) at t))
one_outputs {text = text} (more d r) (last e) = let a = one_output text _ _ _ _ _ _ _ d e in absurd (some_outputs (rw a.left at r))
one_outputs {text = text} (more d r) (more e t) =
    let a = one_output text _ _ _ _ _ _ _ d e in
    let b = one_outputs r (rw (← a.left) at t) in
    (ap₂ (λ o os. o ∷ os) a.value b.0, ap₂ max a.height b.1)

abbrev program : List Input → List LetTree → List OutputTree → ProgramTree
program is ls os = record { inputs = is; lets = ls; outputs = os }

same_program : (is js : List Input) (ls ms : List LetTree) (os ns : List OutputTree) → is ≡ js → ls ≡ ms → os ≡ ns → program is ls os ≡ program js ms ns
same_program is js ls ms os ns a b c = cc

pub one_program : {text : List ℕ} {ts : List Token} {p q : ProgramTree} {h k : ℕ} → ReadsProgram text ts p h → ReadsProgram text ts q k → (p ≡ q) × (h ≡ k)
one_program {p = p} {q = q} d e =
    let a = one_inputs d.inputs e.inputs in
    let b = one_lets d.lets (rw (← a.left) at e.lets) in
    let c = one_outputs d.outputs (rw (← b.left) at e.outputs) in
    let i : d.lets_height ≡ e.lets_height = b.height in
    let j : d.outputs_height ≡ e.outputs_height = c.1 in
    (same_program p.inputs q.inputs p.lets q.lets p.outputs q.outputs a.value b.value c.0, d.is ∙ (ap₂ max i j ∙ sym e.is))
