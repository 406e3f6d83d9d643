-- What the checks say, computed: the arities, or the first fault. Only the clauses inside this crate cite it; `check` is stated
-- by what is well typed and what a first fault is.
use Rattle.std.specs.Prelude.{◌≡◌, ℕ, suc, ◌+◌, Bool, cond, nat_lt, nat_le, nat_eq, ◌&&◌, List, []}
use Rattle.std.specs.Prelude.{◌∷◌, ◌++◌, length, flat_map, Option, None, Some, Result, Ok, Err}
use Rattle.record_core.specs.declared.span.Span.{Span}
use Rattle.record_core.specs.declared.span.Refusal.{Refusal}
use Rattle.record_core.specs.declared.span.Refusal.TheVariants.{At, NoMemory}
use Rattle.expr_tree.specs.declared.program.Input.{Input}
use Rattle.expr_tree.specs.Trees.{RelTree, LetTree, OutputTree, ProgramTree}
use Rattle.semantics.specs.Limits.{max_fields, max_inputs, max_outputs, max_turns, max_loops}
use Rattle.semantics.specs.Typing.{Scope, lookup, entry}
use Rattle.typing.specs.declared.refusals.TheConstants.{UNKNOWN_NAME, NAME_TAKEN, NO_SUCH_COLUMN, ARITIES_DIFFER, BODY_DIFFERS, BAD_ARITY}
use Rattle.typing.specs.declared.refusals.TheConstants.{TOO_MANY_TURNS, TOO_DEEP, TOO_MANY_INPUTS, OUTPUT_TAKEN, TOO_MANY_OUTPUTS}
use Rattle.typing.specs.Columns.{first_beyond, scalar_columns, cond_columns, pair_columns, key_columns, agg_columns}
use Rattle.typing.specs.Fault.{Fault, fault, span_of}

-- what follows once the checks before it passed
abbrev pub chain : {X Y : Type 0} → Result X Fault → (X → Result Y Fault) → Result Y Fault
chain (Ok n) k = k n
chain (Err f) k = Err f

-- what follows once no column is beyond
abbrev pub within : {X : Type 0} → Option Span → Result X Fault → Result X Fault
within None v = v
within (Some at) v = Err (fault NO_SUCH_COLUMN at)

-- what follows once the name is free; that fault where it isn't
abbrev pub unless_taken : {X : Type 0} → Option ℕ → Fault → Result X Fault → Result X Fault
unless_taken None f v = v
unless_taken (Some k) f v = Err f

-- a name's arity
abbrev pub known : Option ℕ → Span → Result ℕ Fault
known None s = Err (fault UNKNOWN_NAME s)
known (Some n) s = Ok n

-- as many fields as a record may have
abbrev pub is_arity : ℕ → Bool
is_arity n = nat_lt 0 n && nat_le n max_fields

-- an arity of a form at that place
abbrev pub sized : Span → ℕ → Result ℕ Fault
sized s n = cond (is_arity n) (Ok n) (Err (fault BAD_ARITY s))

-- what follows once a loop in d others hasn't too many turns, and isn't too deep
abbrev pub within_limits : {X : Type 0} → (turns : ℕ) → Span → (d : ℕ) → Span → Result X Fault → Result X Fault
within_limits n t d s v = cond (nat_le n max_turns) (cond (nat_lt d max_loops) v (Err (fault TOO_DEEP s))) (Err (fault TOO_MANY_TURNS t))

-- of a relation
abbrev pub verdict : RelTree → Scope → ℕ → Result ℕ Fault
verdict (RelTree.named s x) scope d = known (lookup scope x) s
verdict (RelTree.select s r ts) scope d = chain (verdict r scope d) (λ m. within (first_beyond (flat_map (scalar_columns m) ts)) (sized s (length ts)))
verdict (RelTree.filter s r c) scope d = chain (verdict r scope d) (λ m. within (first_beyond (cond_columns m c)) (Ok m))
verdict (RelTree.set_operation s o p q) scope d =
    chain (verdict p scope d) (λ l. chain (verdict q scope d) (λ m. cond (nat_eq l m) (Ok l) (Err (fault ARITIES_DIFFER s))))
verdict (RelTree.join s p q ps) scope d =
    chain (verdict p scope d) (λ l. chain (verdict q scope d) (λ m. within (first_beyond (flat_map (pair_columns l m) ps)) (sized s (l + m))))
verdict (RelTree.group s r ks gs) scope d =
    chain (verdict r scope d)
    (λ m. within (first_beyond (flat_map (key_columns m) ks)) (within (first_beyond (flat_map (agg_columns m) gs)) (sized s (length ks + length gs))))
verdict (RelTree.distinct s r) scope d = verdict r scope d
verdict (RelTree.loop s w t n u x r b) scope d =
    within_limits n t d s
    (chain (verdict r scope d) (λ m. unless_taken (lookup scope x) (fault NAME_TAKEN u)
    (chain (verdict b (entry x m ∷ scope) (suc d)) (λ k. cond (nat_eq k m) (Ok m) (Err (fault BODY_DIFFERS (span_of b)))))))

-- of an input: the scope after it
abbrev pub input_verdict : Input → Scope → Result Scope Fault
input_verdict i scope =
    unless_taken (lookup scope i.name) (fault NAME_TAKEN i.name_span)
    (cond (is_arity i.arity)
    (cond (nat_lt (length scope) max_inputs) (Ok (entry i.name i.arity ∷ scope)) (Err (fault TOO_MANY_INPUTS i.name_span)))
    (Err (fault BAD_ARITY i.arity_span)))

-- of a let: the scope after it
abbrev pub let_verdict : LetTree → Scope → Result Scope Fault
let_verdict l scope = chain (verdict l.relation scope 0) (λ m. unless_taken (lookup scope l.name) (fault NAME_TAKEN l.name_span) (Ok (entry l.name m ∷ scope)))

-- of an output in that scope, after those `before` it: the outputs with it
abbrev pub output_verdict : (scope : Scope) → OutputTree → (before : Scope) → Result Scope Fault
output_verdict scope o before =
    chain (verdict o.relation scope 0) (λ m.
    unless_taken (lookup before o.name) (fault OUTPUT_TAKEN o.name_span)
    (cond (nat_lt (length before) max_outputs) (Ok (entry o.name m ∷ before)) (Err (fault TOO_MANY_OUTPUTS o.keyword_span))))

-- of items in order
abbrev pub each : {X : Type 0} → (X → Scope → Result Scope Fault) → List X → Scope → Result Scope Fault
each step [] scope = Ok scope
each step (x ∷ xs) scope = chain (step x scope) (each step xs)

-- the arities of names, the last of which comes first, in order
abbrev pub arities_of : Scope → List ℕ
arities_of [] = []
arities_of (e ∷ es) = arities_of es ++ e.arity ∷ []

-- of outputs: their arities
abbrev pub outputs_verdict : (scope : Scope) → List OutputTree → (before : Scope) → Result (List ℕ) Fault
outputs_verdict scope os before = chain (each (output_verdict scope) os before) (λ b. Ok (arities_of b))

-- of a program: its outputs' arities
abbrev pub program_verdict : ProgramTree → Result (List ℕ) Fault
program_verdict p = chain (each input_verdict p.inputs []) (λ s. chain (each let_verdict p.lets s) (λ t. outputs_verdict t p.outputs []))

-- the refusal is what the checks say, or says that there was no memory
abbrev pub Says : {X : Type 0} → Refusal → Result X Fault → Type 0
Says (At c s) v = v ≡ Err (fault c s)
Says NoMemory v = Unit {0}

-- the answer is what the checks say
abbrev pub IsVerdict : {X : Type 0} → Result X Refusal → Result X Fault → Type 0
IsVerdict (Ok n) v = v ≡ Ok n
IsVerdict (Err e) v = Says e v
