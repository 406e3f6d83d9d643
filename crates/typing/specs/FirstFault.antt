-- The first check that fails: a case for each check, which says what passed before it.
use Rattle.std.specs.Prelude.{◌≡◌, ◌≢◌, ℕ, suc, ◌+◌, ◌≤◌, ◌<◌, List, [], ◌∷◌, length, map, flat_map, Some, None}
use Rattle.record_core.specs.declared.span.Span.{Span}
use Rattle.record_core.specs.declared.span.Refusal.{Refusal}
use Rattle.record_core.specs.declared.span.Refusal.TheVariants.{At, NoMemory}
use Rattle.expr_tree.specs.declared.relation.Column.{Column}
use Rattle.expr_tree.specs.declared.relation.Pair.{Pair}
use Rattle.expr_tree.specs.declared.relation.Agg.{Agg}
use Rattle.expr_tree.specs.declared.relation.SetOperator.{SetOperator}
use Rattle.expr_tree.specs.declared.program.Input.{Input}
use Rattle.expr_tree.specs.declared.relation.LoopForm.{LoopForm}
use Rattle.expr_tree.specs.Trees.{ScalarTree, CondTree, RelTree, LetTree, OutputTree, ProgramTree}
use Rattle.expr_tree.specs.Plain.{plain_rel, plain_input}
use Rattle.semantics.specs.Limits.{max_inputs, max_outputs, max_turns, max_loops}
use Rattle.semantics.specs.Typing.{Scope, lookup, entry, IsArity, HasArity, InputsFit, after_inputs}
use Rattle.typing.specs.declared.refusals.TheConstants.{UNKNOWN_NAME, NAME_TAKEN, NO_SUCH_COLUMN, ARITIES_DIFFER, BODY_DIFFERS, BAD_ARITY}
use Rattle.typing.specs.declared.refusals.TheConstants.{TOO_MANY_TURNS, TOO_DEEP, TOO_MANY_INPUTS, OUTPUT_TAKEN, TOO_MANY_OUTPUTS}
use Rattle.typing.specs.Columns.{first_beyond, scalar_columns, cond_columns, pair_columns, key_columns, agg_columns}
use Rattle.typing.specs.Fault.{Fault, fault, span_of}

-- the first fault of a relation in that scope, in the bodies of d loops
pub data FaultIn : RelTree → Scope → ℕ → Fault → Type 0 where
  -- a name
  unknown : {s : Span} {x : List ℕ} {scope : Scope} {d : ℕ} → lookup scope x ≡ None → FaultIn (RelTree.named s x) scope d (fault UNKNOWN_NAME s)
  -- select: its relation, its columns, its arity
  select_part : {s : Span} {r : RelTree} {ts : List ScalarTree} {scope : Scope} {d : ℕ} {f : Fault}
      → FaultIn r scope d f → FaultIn (RelTree.select s r ts) scope d f
  select_column : {s at : Span} {r : RelTree} {ts : List ScalarTree} {scope : Scope} {d : ℕ} (m : ℕ) → HasArity (plain_rel r) scope d m
      → first_beyond (flat_map (scalar_columns m) ts) ≡ Some at → FaultIn (RelTree.select s r ts) scope d (fault NO_SUCH_COLUMN at)
  select_arity : {s : Span} {r : RelTree} {ts : List ScalarTree} {scope : Scope} {d : ℕ} (m : ℕ) → HasArity (plain_rel r) scope d m
      → first_beyond (flat_map (scalar_columns m) ts) ≡ None → ¬ IsArity (length ts) → FaultIn (RelTree.select s r ts) scope d (fault BAD_ARITY s)
  -- where: its relation, its columns
  filter_part : {s : Span} {r : RelTree} {c : CondTree} {scope : Scope} {d : ℕ} {f : Fault} → FaultIn r scope d f → FaultIn (RelTree.filter s r c) scope d f
  filter_column : {s at : Span} {r : RelTree} {c : CondTree} {scope : Scope} {d : ℕ} (m : ℕ) → HasArity (plain_rel r) scope d m
      → first_beyond (cond_columns m c) ≡ Some at → FaultIn (RelTree.filter s r c) scope d (fault NO_SUCH_COLUMN at)
  -- a set operation: left, right, the arities
  set_left : {s : Span} {o : SetOperator} {p q : RelTree} {scope : Scope} {d : ℕ} {f : Fault}
      → FaultIn p scope d f → FaultIn (RelTree.set_operation s o p q) scope d f
  set_right : {s : Span} {o : SetOperator} {p q : RelTree} {scope : Scope} {d : ℕ} {f : Fault} (l : ℕ) → HasArity (plain_rel p) scope d l
      → FaultIn q scope d f → FaultIn (RelTree.set_operation s o p q) scope d f
  set_arity : {s : Span} {o : SetOperator} {p q : RelTree} {scope : Scope} {d : ℕ} (l m : ℕ) → HasArity (plain_rel p) scope d l
      → HasArity (plain_rel q) scope d m → l ≢ m → FaultIn (RelTree.set_operation s o p q) scope d (fault ARITIES_DIFFER s)
  -- join: left, right, the columns, the arity
  join_left : {s : Span} {p q : RelTree} {ps : List Pair} {scope : Scope} {d : ℕ} {f : Fault} → FaultIn p scope d f → FaultIn (RelTree.join s p q ps) scope d f
  join_right : {s : Span} {p q : RelTree} {ps : List Pair} {scope : Scope} {d : ℕ} {f : Fault} (l : ℕ) → HasArity (plain_rel p) scope d l
      → FaultIn q scope d f → FaultIn (RelTree.join s p q ps) scope d f
  join_column : {s at : Span} {p q : RelTree} {ps : List Pair} {scope : Scope} {d : ℕ} (l m : ℕ) → HasArity (plain_rel p) scope d l
      → HasArity (plain_rel q) scope d m → first_beyond (flat_map (pair_columns l m) ps) ≡ Some at
      → FaultIn (RelTree.join s p q ps) scope d (fault NO_SUCH_COLUMN at)
  join_arity : {s : Span} {p q : RelTree} {ps : List Pair} {scope : Scope} {d : ℕ} (l m : ℕ) → HasArity (plain_rel p) scope d l
      → HasArity (plain_rel q) scope d m → first_beyond (flat_map (pair_columns l m) ps) ≡ None → ¬ IsArity (l + m)
      → FaultIn (RelTree.join s p q ps) scope d (fault BAD_ARITY s)
  -- group: its relation, the keys, the aggregates' columns, the arity
  group_part : {s : Span} {r : RelTree} {ks : List Column} {gs : List Agg} {scope : Scope} {d : ℕ} {f : Fault}
      → FaultIn r scope d f → FaultIn (RelTree.group s r ks gs) scope d f
  group_key : {s at : Span} {r : RelTree} {ks : List Column} {gs : List Agg} {scope : Scope} {d : ℕ} (m : ℕ) → HasArity (plain_rel r) scope d m
      → first_beyond (flat_map (key_columns m) ks) ≡ Some at → FaultIn (RelTree.group s r ks gs) scope d (fault NO_SUCH_COLUMN at)
  group_column : {s at : Span} {r : RelTree} {ks : List Column} {gs : List Agg} {scope : Scope} {d : ℕ} (m : ℕ) → HasArity (plain_rel r) scope d m
      → first_beyond (flat_map (key_columns m) ks) ≡ None → first_beyond (flat_map (agg_columns m) gs) ≡ Some at
      → FaultIn (RelTree.group s r ks gs) scope d (fault NO_SUCH_COLUMN at)
  group_arity : {s : Span} {r : RelTree} {ks : List Column} {gs : List Agg} {scope : Scope} {d : ℕ} (m : ℕ) → HasArity (plain_rel r) scope d m
      → first_beyond (flat_map (key_columns m) ks) ≡ None → first_beyond (flat_map (agg_columns m) gs) ≡ None
      → ¬ IsArity (length ks + length gs) → FaultIn (RelTree.group s r ks gs) scope d (fault BAD_ARITY s)
  -- distinct: its relation
  distinct_part : {s : Span} {r : RelTree} {scope : Scope} {d : ℕ} {f : Fault} → FaultIn r scope d f → FaultIn (RelTree.distinct s r) scope d f
  -- a loop: the turns, the depth, the start, the variable, the body, the body's arity
  loop_turns : {s t u : Span} {w : LoopForm} {n : ℕ} {x : List ℕ} {r b : RelTree} {scope : Scope} {d : ℕ} → max_turns < n
      → FaultIn (RelTree.loop s w t n u x r b) scope d (fault TOO_MANY_TURNS t)
  loop_depth : {s t u : Span} {w : LoopForm} {n : ℕ} {x : List ℕ} {r b : RelTree} {scope : Scope} {d : ℕ} → n ≤ max_turns
      → max_loops ≤ d → FaultIn (RelTree.loop s w t n u x r b) scope d (fault TOO_DEEP s)
  loop_start : {s t u : Span} {w : LoopForm} {n : ℕ} {x : List ℕ} {r b : RelTree} {scope : Scope} {d : ℕ} {f : Fault} → n ≤ max_turns
      → d < max_loops → FaultIn r scope d f → FaultIn (RelTree.loop s w t n u x r b) scope d f
  loop_variable : {s t u : Span} {w : LoopForm} {n : ℕ} {x : List ℕ} {r b : RelTree} {scope : Scope} {d : ℕ} (m k : ℕ) → n ≤ max_turns → d < max_loops
      → HasArity (plain_rel r) scope d m → lookup scope x ≡ Some k → FaultIn (RelTree.loop s w t n u x r b) scope d (fault NAME_TAKEN u)
  loop_body : {s t u : Span} {w : LoopForm} {n : ℕ} {x : List ℕ} {r b : RelTree} {scope : Scope} {d : ℕ} {f : Fault} (m : ℕ) → n ≤ max_turns → d < max_loops
      → HasArity (plain_rel r) scope d m → lookup scope x ≡ None → FaultIn b (entry x m ∷ scope) (suc d) f → FaultIn (RelTree.loop s w t n u x r b) scope d f
  loop_arity : {s t u : Span} {w : LoopForm} {n : ℕ} {x : List ℕ} {r b : RelTree} {scope : Scope} {d : ℕ} (m k : ℕ) → n ≤ max_turns → d < max_loops
      → HasArity (plain_rel r) scope d m → lookup scope x ≡ None → HasArity (plain_rel b) (entry x m ∷ scope) (suc d) k → k ≢ m
      → FaultIn (RelTree.loop s w t n u x r b) scope d (fault BODY_DIFFERS (span_of b))

-- the first fault of inputs that follow those in the scope: of each its name, its arity, its number
pub data InputFault : List Input → Scope → Fault → Type 0 where
  taken : {i : Input} {rest : List Input} {scope : Scope} (k : ℕ) → lookup scope i.name ≡ Some k → InputFault (i ∷ rest) scope (fault NAME_TAKEN i.name_span)
  bad_arity : {i : Input} {rest : List Input} {scope : Scope} → lookup scope i.name ≡ None → ¬ IsArity i.arity
      → InputFault (i ∷ rest) scope (fault BAD_ARITY i.arity_span)
  too_many : {i : Input} {rest : List Input} {scope : Scope} → lookup scope i.name ≡ None → IsArity i.arity
      → max_inputs ≤ length scope → InputFault (i ∷ rest) scope (fault TOO_MANY_INPUTS i.name_span)
  later : {i : Input} {rest : List Input} {scope : Scope} {f : Fault} → lookup scope i.name ≡ None → IsArity i.arity → length scope < max_inputs
      → InputFault rest (entry i.name i.arity ∷ scope) f → InputFault (i ∷ rest) scope f

-- the first fault of outputs that follow those `before` them, in that scope: of each its relation, its name, its number
pub data OutputFault : List OutputTree → (scope before : Scope) → Fault → Type 0 where
  relation : {o : OutputTree} {rest : List OutputTree} {scope before : Scope} {f : Fault} → FaultIn o.relation scope 0 f → OutputFault (o ∷ rest) scope before f
  taken : {o : OutputTree} {rest : List OutputTree} {scope before : Scope} (m k : ℕ) → HasArity (plain_rel o.relation) scope 0 m
      → lookup before o.name ≡ Some k → OutputFault (o ∷ rest) scope before (fault OUTPUT_TAKEN o.name_span)
  too_many : {o : OutputTree} {rest : List OutputTree} {scope before : Scope} (m : ℕ) → HasArity (plain_rel o.relation) scope 0 m
      → lookup before o.name ≡ None → max_outputs ≤ length before → OutputFault (o ∷ rest) scope before (fault TOO_MANY_OUTPUTS o.keyword_span)
  later : {o : OutputTree} {rest : List OutputTree} {scope before : Scope} {f : Fault} (m : ℕ) → HasArity (plain_rel o.relation) scope 0 m
      → lookup before o.name ≡ None → length before < max_outputs → OutputFault rest scope (entry o.name m ∷ before) f → OutputFault (o ∷ rest) scope before f

-- the first fault of lets, then of the outputs: of each let its relation, its name
pub data RestFault : List LetTree → List OutputTree → Scope → Fault → Type 0 where
  relation : {l : LetTree} {rest : List LetTree} {outs : List OutputTree} {scope : Scope} {f : Fault}
      → FaultIn l.relation scope 0 f → RestFault (l ∷ rest) outs scope f
  taken : {l : LetTree} {rest : List LetTree} {outs : List OutputTree} {scope : Scope} (m k : ℕ) → HasArity (plain_rel l.relation) scope 0 m
      → lookup scope l.name ≡ Some k → RestFault (l ∷ rest) outs scope (fault NAME_TAKEN l.name_span)
  later : {l : LetTree} {rest : List LetTree} {outs : List OutputTree} {scope : Scope} {f : Fault} (m : ℕ) → HasArity (plain_rel l.relation) scope 0 m
      → lookup scope l.name ≡ None → RestFault rest outs (entry l.name m ∷ scope) f → RestFault (l ∷ rest) outs scope f
  output : {outs : List OutputTree} {scope : Scope} {f : Fault} → OutputFault outs scope [] f → RestFault [] outs scope f

-- the first fault of a program
pub data FirstFault : ProgramTree → Fault → Type 0 where
  input : {p : ProgramTree} {f : Fault} → InputFault p.inputs [] f → FirstFault p f
  rest : {p : ProgramTree} {f : Fault} → length p.inputs ≤ max_inputs → InputsFit [] (map plain_input p.inputs)
      → RestFault p.lets p.outputs (after_inputs [] (map plain_input p.inputs)) f → FirstFault p f

-- a numbered refusal is the first fault of the program; want of memory says nothing of it
abbrev pub HasFirstFault : ProgramTree → Refusal → Type 0
HasFirstFault p (At code span) = FirstFault p (fault code span)
HasFirstFault p NoMemory = Unit {0}
