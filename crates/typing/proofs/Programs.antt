-- A program is well typed exactly where the checks say so, and has a first fault exactly where they report it.
use Rattle.std.proofs.Common.{◌≡◌, ℕ, ◌+◌, ◌<◌, ◌≤◌, cond, nat_lt, List, [], ◌∷◌, ◌++◌, length, map, append_assoc, append-nil, ap, ◌∙◌, None, Result, Ok, Err, refl, sym, subst, arith}
use Rattle.std.proofs.lemmas.Bool.{ltb-true, lt-ltb, ltb-false}
use Rattle.std.proofs.lemmas.List.{length-map}
use Rattle.expr_tree.specs.declared.program.Input.{Input}
use Rattle.expr_tree.specs.Trees.{LetTree, OutputTree, ProgramTree}
use Rattle.expr_tree.specs.Plain.{plain_rel, plain_input, plain_let, plain_output, plain_program}
use Rattle.semantics.specs.Limits.{max_inputs, max_outputs}
use Rattle.semantics.specs.Typing.{Scope, lookup, entry, IsArity, HasArity, InputsFit, after_inputs, OutputsFit, RestFits, WellTyped}
use Rattle.typing.specs.declared.refusals.TheConstants.{NAME_TAKEN, BAD_ARITY, TOO_MANY_INPUTS, OUTPUT_TAKEN, TOO_MANY_OUTPUTS}
use Rattle.typing.specs.Fault.{Fault, fault}
use Rattle.typing.specs.FirstFault.{InputFault, OutputFault, RestFault, FirstFault}
use Rattle.typing.specs.Verdict.{chain, unless_taken, is_arity, verdict, input_verdict, let_verdict, output_verdict, each, arities_of, outputs_verdict, program_verdict}
use Rattle.typing.proofs.Chains.{chain_is_ok, chain_is_err, unless_is_ok, unless_is_err, test_is_ok, test_is_err, arity_true, true_arity, arity_false, false_arity, least_false}
use Rattle.typing.proofs.DecidedArities.{typed_checked, checked_typed}
use Rattle.typing.proofs.Faults.{fault_checked, checked_fault}

-- the inputs pass where they fit and are few
inputs_checked : (is : List Input) (scope : Scope) → InputsFit scope (map plain_input is) → length scope + length is ≤ max_inputs → each input_verdict is scope ≡ Ok (after_inputs scope (map plain_input is))
inputs_checked [] scope h few = refl
inputs_checked (i ∷ is) scope h few = rw (h.0, arity_true i.arity h.1, lt-ltb (length scope) max_inputs (omega arith)) (inputs_checked is (entry i.name i.arity ∷ scope) h.2 (omega arith))

-- of one input
input_passed : (i : Input) (scope t : Scope) → input_verdict i scope ≡ Ok t → (lookup scope i.name ≡ None) × IsArity i.arity × (length scope < max_inputs) × (entry i.name i.arity ∷ scope ≡ t)
input_passed i scope t h =
    let few = cond (nat_lt (length scope) max_inputs) (Ok (entry i.name i.arity ∷ scope)) (Err (fault TOO_MANY_INPUTS i.name_span)) in
    let a = unless_is_ok (lookup scope i.name) (fault NAME_TAKEN i.name_span) (cond (is_arity i.arity) few (Err (fault BAD_ARITY i.arity_span))) t h in
    let b = test_is_ok (is_arity i.arity) few (fault BAD_ARITY i.arity_span) t a.1 in
    let c = test_is_ok (nat_lt (length scope) max_inputs) (Ok (entry i.name i.arity ∷ scope)) (fault TOO_MANY_INPUTS i.name_span) t b.1 in
    (a.0, true_arity i.arity b.0, ltb-true (length scope) max_inputs c.0, (cc))

checked_inputs : (is : List Input) (scope t : Scope) → length scope ≤ max_inputs → each input_verdict is scope ≡ Ok t → InputsFit scope (map plain_input is) × (length scope + length is ≤ max_inputs) × (after_inputs scope (map plain_input is) ≡ t)
checked_inputs [] scope t few h = (tt, omega arith, (cc))
checked_inputs (i ∷ is) scope t few h =
    let a = chain_is_ok (input_verdict i scope) (each input_verdict is) t h in
    let b = input_passed i scope a.0 a.1 in
    let c = checked_inputs is (entry i.name i.arity ∷ scope) t (let k = b.2 in omega arith) (subst (λ s. each input_verdict is s ≡ Ok t) (sym b.3) a.2) in
    ((b.0, b.1, c.0), (let k = c.1 in omega arith), c.2)

input_checked : {is : List Input} {scope : Scope} {f : Fault} → InputFault is scope f → each input_verdict is scope ≡ Err f
input_checked (InputFault.taken k h) = rw h
input_checked (InputFault.bad_arity {i = i} h k) = rw (h, arity_false i.arity k)
input_checked (InputFault.too_many {i = i} {scope = scope} h k e) = rw (h, arity_true i.arity k, least_false (length scope) max_inputs e)
input_checked (InputFault.later {i = i} {scope = scope} h k e p) = rw (h, arity_true i.arity k, lt-ltb (length scope) max_inputs e) (input_checked p)

checked_input : (is : List Input) (scope : Scope) (f : Fault) → each input_verdict is scope ≡ Err f → InputFault is scope f
checked_input [] scope f h = absurd (cc)
checked_input (i ∷ is) scope f h =
    let G = InputFault (i ∷ is) scope in
    let few = cond (nat_lt (length scope) max_inputs) (Ok (entry i.name i.arity ∷ scope)) (Err (fault TOO_MANY_INPUTS i.name_span)) in
    chain_is_err (input_verdict i scope) (each input_verdict is) f (G f) h
    (λ e. unless_is_err (lookup scope i.name) (fault NAME_TAKEN i.name_span) (cond (is_arity i.arity) few (Err (fault BAD_ARITY i.arity_span))) f (G f) e
    (λ k a b. subst G b (InputFault.taken k a))
    (λ free k. test_is_err (is_arity i.arity) few (fault BAD_ARITY i.arity_span) f (G f) k
    (λ a b. subst G b (InputFault.bad_arity free (false_arity i.arity a)))
    (λ fits b. test_is_err (nat_lt (length scope) max_inputs) (Ok (entry i.name i.arity ∷ scope)) (fault TOO_MANY_INPUTS i.name_span) f (G f) b
    (λ a c. subst G c (InputFault.too_many free (true_arity i.arity fits) (ltb-false (length scope) max_inputs a)))
    (λ a c. absurd (cc)))))
    (λ t e k. let p = input_passed i scope t e in InputFault.later p.0 p.1 p.2 (checked_input is (entry i.name i.arity ∷ scope) f (subst (λ s. each input_verdict is s ≡ Err f) (sym p.3) k)))

-- the arities of the outputs pass where they fit and are few
each_checked : (scope : Scope) (os : List OutputTree) (before : Scope) (ns : List ℕ) → OutputsFit scope before (map plain_output os) ns → length before + length os ≤ max_outputs → outputs_verdict scope os before ≡ Ok (arities_of before ++ ns)
each_checked scope [] before [] h few = ap Ok (sym (append-nil (arities_of before)))
each_checked scope [] before (n ∷ ns) h few = absurd h
each_checked scope (o ∷ os) before [] h few = absurd h
each_checked scope (o ∷ os) before (n ∷ ns) h few =
    rw (typed_checked o.relation scope 0 n h.0, h.1, lt-ltb (length before) max_outputs (omega arith))
    (each_checked scope os (entry o.name n ∷ before) ns h.2 (omega arith) ∙ ap Ok (append_assoc (arities_of before) (n ∷ []) ns))

-- of one output
output_passed : (scope : Scope) (o : OutputTree) (before b : Scope) → output_verdict scope o before ≡ Ok b → (m : ℕ) × HasArity (plain_rel o.relation) scope 0 m × (lookup before o.name ≡ None) × (length before < max_outputs) × (entry o.name m ∷ before ≡ b)
output_passed scope o before b h =
    let few = λ (m : ℕ). cond (nat_lt (length before) max_outputs) (Ok (entry o.name m ∷ before)) (Err (fault TOO_MANY_OUTPUTS o.keyword_span)) in
    let a = chain_is_ok (verdict o.relation scope 0) (λ m. unless_taken (lookup before o.name) (fault OUTPUT_TAKEN o.name_span) (few m)) b h in
    let c = unless_is_ok (lookup before o.name) (fault OUTPUT_TAKEN o.name_span) (few a.0) b a.2 in
    let d = test_is_ok (nat_lt (length before) max_outputs) (Ok (entry o.name a.0 ∷ before)) (fault TOO_MANY_OUTPUTS o.keyword_span) b c.1 in
    (a.0, checked_typed o.relation scope 0 a.0 a.1, c.0, ltb-true (length before) max_outputs d.0, (cc))

-- what passes are outputs that fit
checked_each : (scope : Scope) (os : List OutputTree) (before b : Scope) → length before ≤ max_outputs → each (output_verdict scope) os before ≡ Ok b → (ns : List ℕ) × OutputsFit scope before (map plain_output os) ns × (length before + length os ≤ max_outputs) × (arities_of before ++ ns ≡ arities_of b)
checked_each scope [] before b few h = let e : before ≡ b = cc in ([], tt, omega arith, append-nil (arities_of before) ∙ ap arities_of e)
checked_each scope (o ∷ os) before b few h =
    let a = chain_is_ok (output_verdict scope o before) (each (output_verdict scope) os) b h in
    let c = output_passed scope o before a.0 a.1 in
    let d = checked_each scope os (entry o.name c.0 ∷ before) b (let k = c.3 in omega arith) (subst (λ s. each (output_verdict scope) os s ≡ Ok b) (sym c.4) a.2) in
    (c.0 ∷ d.0, (c.1, c.2, d.1), (let k = d.2 in omega arith), sym (append_assoc (arities_of before) (c.0 ∷ []) d.0) ∙ d.3)

output_fault_checked : {os : List OutputTree} {scope before : Scope} {f : Fault} → OutputFault os scope before f → each (output_verdict scope) os before ≡ Err f
output_fault_checked (OutputFault.relation p) = rw (fault_checked p)
output_fault_checked (OutputFault.taken {o = o} {scope = scope} m k h e) = rw (typed_checked o.relation scope 0 m h, e)
output_fault_checked (OutputFault.too_many {o = o} {scope = scope} {before = before} m h e k) = rw (typed_checked o.relation scope 0 m h, e, least_false (length before) max_outputs k)
output_fault_checked (OutputFault.later {o = o} {scope = scope} {before = before} m h e k p) = rw (typed_checked o.relation scope 0 m h, e, lt-ltb (length before) max_outputs k) (output_fault_checked p)

checked_output_fault : (scope : Scope) (os : List OutputTree) (before : Scope) (f : Fault) → each (output_verdict scope) os before ≡ Err f → OutputFault os scope before f
checked_output_fault scope [] before f h = absurd (cc)
checked_output_fault scope (o ∷ os) before f h =
    let G = OutputFault (o ∷ os) scope before in
    let few = λ (m : ℕ). cond (nat_lt (length before) max_outputs) (Ok (entry o.name m ∷ before)) (Err (fault TOO_MANY_OUTPUTS o.keyword_span)) in
    let next = λ (m : ℕ). unless_taken (lookup before o.name) (fault OUTPUT_TAKEN o.name_span) (few m) in
    chain_is_err (output_verdict scope o before) (each (output_verdict scope) os) f (G f) h
    (λ e. chain_is_err (verdict o.relation scope 0) next f (G f) e
    (λ a. OutputFault.relation (checked_fault o.relation scope 0 f a))
    (λ m a b. unless_is_err (lookup before o.name) (fault OUTPUT_TAKEN o.name_span) (few m) f (G f) b
    (λ k c d. subst G d (OutputFault.taken m k (checked_typed o.relation scope 0 m a) c))
    (λ free c. test_is_err (nat_lt (length before) max_outputs) (Ok (entry o.name m ∷ before)) (fault TOO_MANY_OUTPUTS o.keyword_span) f (G f) c
    (λ d i. subst G i (OutputFault.too_many m (checked_typed o.relation scope 0 m a) free (ltb-false (length before) max_outputs d)))
    (λ d i. absurd (cc)))))
    (λ t e k. let p = output_passed scope o before t e in OutputFault.later p.0 p.1 p.2 p.3 (checked_output_fault scope os (entry o.name p.0 ∷ before) f (subst (λ s. each (output_verdict scope) os s ≡ Err f) (sym p.4) k)))

-- all outputs
outputs_checked : (os : List OutputTree) (scope : Scope) (ns : List ℕ) → OutputsFit scope [] (map plain_output os) ns → length os ≤ max_outputs → outputs_verdict scope os [] ≡ Ok ns
outputs_checked os scope ns h few = each_checked scope os [] ns h (omega arith)

checked_outputs : (os : List OutputTree) (scope : Scope) (ns : List ℕ) → outputs_verdict scope os [] ≡ Ok ns → OutputsFit scope [] (map plain_output os) ns × (length os ≤ max_outputs)
checked_outputs os scope ns h =
    let a = chain_is_ok (each (output_verdict scope) os []) (λ b. Ok (arities_of b)) ns h in
    let b = checked_each scope os [] a.0 (omega arith) a.1 in
    let e : b.0 ≡ ns = cc in
    (subst (OutputsFit scope [] (map plain_output os)) e b.1, (let k = b.2 in omega arith))

outputs_fault_checked : {os : List OutputTree} {scope : Scope} {f : Fault} → OutputFault os scope [] f → outputs_verdict scope os [] ≡ Err f
outputs_fault_checked p = rw (output_fault_checked p)

checked_outputs_fault : (os : List OutputTree) (scope : Scope) (f : Fault) → outputs_verdict scope os [] ≡ Err f → OutputFault os scope [] f
checked_outputs_fault os scope f h =
    chain_is_err (each (output_verdict scope) os []) (λ b. Ok (arities_of b)) f (OutputFault os scope [] f) h
    (λ e. checked_output_fault scope os [] f e)
    (λ b e k. absurd (cc))

-- the lets, then the outputs
abbrev pub rest : List LetTree → List OutputTree → Scope → Result (List ℕ) Fault
rest ls outs scope = chain (each let_verdict ls scope) (λ t. outputs_verdict t outs [])

rest_checked : (ls : List LetTree) (outs : List OutputTree) (scope : Scope) (ns : List ℕ) → RestFits scope (map plain_let ls) (map plain_output outs) ns → length outs ≤ max_outputs → rest ls outs scope ≡ Ok ns
rest_checked [] outs scope ns h few = outputs_checked outs scope ns h few
rest_checked (l ∷ ls) outs scope ns h few = rw (typed_checked l.relation scope 0 h.0 h.1, h.2) (rest_checked ls outs (entry l.name h.0 ∷ scope) ns h.3 few)

-- of one let
let_passed : (l : LetTree) (scope t : Scope) → let_verdict l scope ≡ Ok t → (m : ℕ) × HasArity (plain_rel l.relation) scope 0 m × (lookup scope l.name ≡ None) × (entry l.name m ∷ scope ≡ t)
let_passed l scope t h =
    let a = chain_is_ok (verdict l.relation scope 0) (λ m. unless_taken (lookup scope l.name) (fault NAME_TAKEN l.name_span) (Ok (entry l.name m ∷ scope))) t h in
    let b = unless_is_ok (lookup scope l.name) (fault NAME_TAKEN l.name_span) (Ok (entry l.name a.0 ∷ scope)) t a.2 in
    (a.0, checked_typed l.relation scope 0 a.0 a.1, b.0, (cc))

checked_rest : (ls : List LetTree) (outs : List OutputTree) (scope : Scope) (ns : List ℕ) → rest ls outs scope ≡ Ok ns → RestFits scope (map plain_let ls) (map plain_output outs) ns × (length outs ≤ max_outputs)
checked_rest [] outs scope ns h = checked_outputs outs scope ns h
checked_rest (l ∷ ls) outs scope ns h =
    let a = chain_is_ok (each let_verdict (l ∷ ls) scope) (λ t. outputs_verdict t outs []) ns h in
    let b = chain_is_ok (let_verdict l scope) (each let_verdict ls) a.0 a.1 in
    let c = let_passed l scope b.0 b.1 in
    let d = checked_rest ls outs (entry l.name c.0 ∷ scope) ns (rw (c.3, b.2) a.2) in
    ((c.0, c.1, c.2, d.0), d.1)

rest_fault_checked : {ls : List LetTree} {outs : List OutputTree} {scope : Scope} {f : Fault} → RestFault ls outs scope f → rest ls outs scope ≡ Err f
rest_fault_checked (RestFault.relation p) = rw (fault_checked p)
rest_fault_checked (RestFault.taken {l = l} {scope = scope} m k h e) = rw (typed_checked l.relation scope 0 m h, e)
rest_fault_checked (RestFault.later {l = l} {scope = scope} m h e p) = rw (typed_checked l.relation scope 0 m h, e) (rest_fault_checked p)
rest_fault_checked (RestFault.output p) = outputs_fault_checked p

checked_rest_fault : (ls : List LetTree) (outs : List OutputTree) (scope : Scope) (f : Fault) → rest ls outs scope ≡ Err f → RestFault ls outs scope f
checked_rest_fault [] outs scope f h = RestFault.output (checked_outputs_fault outs scope f h)
checked_rest_fault (l ∷ ls) outs scope f h =
    let G = RestFault (l ∷ ls) outs scope in
    let next = λ (m : ℕ). unless_taken (lookup scope l.name) (fault NAME_TAKEN l.name_span) (Ok (entry l.name m ∷ scope)) in
    chain_is_err (each let_verdict (l ∷ ls) scope) (λ t. outputs_verdict t outs []) f (G f) h
    (λ e. chain_is_err (let_verdict l scope) (each let_verdict ls) f (G f) e
    (λ a. chain_is_err (verdict l.relation scope 0) next f (G f) a
    (λ b. RestFault.relation (checked_fault l.relation scope 0 f b))
    (λ m b c. unless_is_err (lookup scope l.name) (fault NAME_TAKEN l.name_span) (Ok (entry l.name m ∷ scope)) f (G f) c
    (λ k i j. subst G j (RestFault.taken m k (checked_typed l.relation scope 0 m b) i))
    (λ i j. absurd (cc))))
    (λ t a b. let c = let_passed l scope t a in RestFault.later c.0 c.1 c.2 (checked_rest_fault ls outs (entry l.name c.0 ∷ scope) f (rw (c.3, b)))))
    (λ t e k.
    let b = chain_is_ok (let_verdict l scope) (each let_verdict ls) t e in
    let c = let_passed l scope b.0 b.1 in
    RestFault.later c.0 c.1 c.2 (checked_rest_fault ls outs (entry l.name c.0 ∷ scope) f (rw (c.3, b.2) k)))

-- the whole program
pub program_typed_checked : (p : ProgramTree) (ns : List ℕ) → WellTyped (plain_program p) ns → program_verdict p ≡ Ok ns
program_typed_checked p ns h =
    rw (inputs_checked p.inputs [] h.inputs (let k = subst (λ m. m ≤ max_inputs) (length-map p.inputs plain_input) h.few in omega arith))
    (rest_checked p.lets p.outputs (after_inputs [] (map plain_input p.inputs)) ns h.rest (subst (λ m. m ≤ max_outputs) (length-map p.outputs plain_output) h.few_outputs))

pub program_checked_typed : (p : ProgramTree) (ns : List ℕ) → program_verdict p ≡ Ok ns → WellTyped (plain_program p) ns
program_checked_typed p ns h =
    let a = chain_is_ok (each input_verdict p.inputs []) (rest p.lets p.outputs) ns h in
    let b = checked_inputs p.inputs [] a.0 (omega arith) a.1 in
    let c = checked_rest p.lets p.outputs (after_inputs [] (map plain_input p.inputs)) ns (rw b.2 a.2) in
    record {
      few = rw (length-map p.inputs plain_input) (let k = b.1 in omega arith);
      few_outputs = rw (length-map p.outputs plain_output) c.1;
      inputs = b.0;
      rest = c.0;
    }

pub program_fault_checked : {p : ProgramTree} {f : Fault} → FirstFault p f → program_verdict p ≡ Err f
program_fault_checked (FirstFault.input {p = p} h) = rw (input_checked h)
program_fault_checked (FirstFault.rest {p = p} few h k) = rw (inputs_checked p.inputs [] h (omega arith)) (rest_fault_checked k)

pub program_checked_fault : (p : ProgramTree) (f : Fault) → program_verdict p ≡ Err f → FirstFault p f
program_checked_fault p f h =
    chain_is_err (each input_verdict p.inputs []) (rest p.lets p.outputs) f (FirstFault p f) h
    (λ e. FirstFault.input (checked_input p.inputs [] f e))
    (λ t e k.
    let b = checked_inputs p.inputs [] t (omega arith) e in
    FirstFault.rest (let i = b.1 in omega arith) b.0 (checked_rest_fault p.lets p.outputs (after_inputs [] (map plain_input p.inputs)) f (rw b.2 k)))
