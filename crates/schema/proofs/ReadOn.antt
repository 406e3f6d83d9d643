-- The reader goes from line to line, and at the end has what the text says.
use Rattle.std.proofs.Common.{◌≡◌, ◌≢◌, ◌<◌, ℕ, List, [], ◌∷◌, ◌++◌, None, Result, Ok, Err, length, map, sym, ◌∙◌, ap, subst, arith}
use Rattle.std.specs.List.{AllByRecursion}
use Rattle.schema.specs.Drafts.{IsBegun}
use Rattle.schema_lines.specs.Lines.{Event, IsLine, IsProper}
use Rattle.schema_lines.specs.Words.{Lacks}
use Rattle.schema.specs.Schemas.{HaveEpochs, IsRefusal, IsSchema, Parts, parts_of, said}
use Rattle.schema.specs.Steps.{Allowed, AreLines, Leads, MakesDraft, MakesLines, MakesParts, MakesState}
use Rattle.schema.specs.Steps.{MayClose, Runs, State, after, closed, events_of, state_of}
use Rattle.schema.specs.Text.{IsSchemaText}
use Rattle.schema.specs.declared.draft.Draft.{Draft}
use Rattle.schema_lines.specs.declared.lines.LineError.{LineError}
use Rattle.schema.specs.declared.refusal.SchemaRefusal.{SchemaRefusal}
use Rattle.schema.specs.declared.refusal.SchemaRefusal.TheVariants.{At, NoMemory}
use Rattle.schema.specs.declared.tables.Schema.{Schema}
use Rattle.schema_lines.proofs.LineBytes.{line-lacks}
use Rattle.schema.proofs.ProperLines.{schema-proper}
use Rattle.schema.proofs.RightRuns.{schema-run}
use Rattle.schema.proofs.TextLines.{lines-same, schema-lines}

pub leads-start : (s : Schema) (text : List ℕ) → IsSchema s → IsSchemaText s text
    → Leads (record { parts = record { inputs = []; outputs = []; constants = [] }; opened = None }) text (parts_of s)
leads-start s text right is = (events_of (parts_of s), schema-proper s right, schema-lines s text right.no_epochs is, schema-run s right)

-- the parts that were ended are these
pub along-parts : (F : Parts → State) (p q : Parts) (r : Result Draft LineError) → p ≡ q → MakesState (F p) r → MakesState (F q) r
along-parts F p q r e made = let M : Parts → Type 0 = λ x. MakesState (F x) r in subst M e made

-- a line is taken, or memory is out
pub IsStep : List ℕ → Parts → Result Draft SchemaRefusal → Type 0
IsStep rest parts (Ok draft) = Leads (state_of draft) rest parts
IsStep rest parts (Err (At fault line)) = ⊥
IsStep rest parts (Err NoMemory) = Unit {0}

step-made : (state : State) (rest : List ℕ) (parts : Parts) (events : List Event) (r : Result Draft SchemaRefusal)
    → AllByRecursion IsProper events → AreLines events rest → Runs state events parts → MakesDraft state r → IsStep rest parts r
unfolding IsStep
step-made state rest parts events (Ok draft) proper lines runs made = let R : State → Type 0 = λ st. Runs st events parts in
    (events, proper, lines, subst R (sym made) runs)
step-made state rest parts events (Err (At fault line)) proper lines runs made = made
step-made state rest parts events (Err NoMemory) proper lines runs made = tt

leads-events : (state : State) (rest : List ℕ) (parts : Parts) (line next : List ℕ) (r : Result Draft SchemaRefusal) (events : List Event)
    → AllByRecursion IsProper events → AreLines events rest → Runs state events parts → 0 < length rest
    → ((l m : List ℕ) → Lacks 10 l → rest ≡ l ++ 10 ∷ m → (line ≡ l) × (next ≡ m))
    → ((event : Event) → IsProper event → IsLine event line → Allowed state event → MakesDraft (after state event) r) → IsStep next parts r
unfolding AreLines Runs
leads-events state rest parts line next r [] proper lines runs filled cut made = absurd (let e = ap (λ t. length t) lines in omega (arith, e))
leads-events state rest parts line next r (e ∷ es) proper (l, m, is, more, whole) runs filled cut made =
    let at = cut l m (line-lacks e l proper.0 is) whole in
    let I : List ℕ → Type 0 = λ t. IsLine e t in
    let A : List ℕ → Type 0 = λ t. AreLines es t in
    step-made (after state e) next parts es r proper.1 (subst A (sym at.1) more) runs.1 (made e proper.0 (subst I (sym at.0) is) runs.0)

pub leads-next : (state : State) (rest : List ℕ) (parts : Parts) (line next : List ℕ) (r : Result Draft SchemaRefusal)
    → Leads state rest parts → 0 < length rest
    → ((l m : List ℕ) → Lacks 10 l → rest ≡ l ++ 10 ∷ m → (line ≡ l) × (next ≡ m))
    → ((event : Event) → IsProper event → IsLine event line → Allowed state event → MakesDraft (after state event) r) → IsStep next parts r
leads-next state rest parts line next r (events, proper, lines, runs) filled cut made =
    leads-events state rest parts line next r events proper lines runs filled cut made

pub step-taken : (rest : List ℕ) (parts : Parts) (r : Result Draft SchemaRefusal) (draft : Draft) → r ≡ Ok draft → IsStep rest parts r
    → Leads (state_of draft) rest parts
unfolding IsStep
step-taken rest parts r draft e step = let S : Result Draft SchemaRefusal → Type 0 = λ x. IsStep rest parts x in subst S e step

refusal-lines : (rest : List ℕ) (parts : Parts) (e : SchemaRefusal) → IsStep rest parts (Err e) → MakesLines parts (Err e)
unfolding IsStep
refusal-lines rest parts (At fault line) step = step
refusal-lines rest parts NoMemory step = tt

pub step-refused : (rest : List ℕ) (parts : Parts) (r : Result Draft SchemaRefusal) (e : SchemaRefusal) → r ≡ Err e → IsStep rest parts r
    → MakesLines parts (Err e)
step-refused rest parts r e is step = let S : Result Draft SchemaRefusal → Type 0 = λ x. IsStep rest parts x in
    refusal-lines rest parts e (subst S is step)

long : (l m : List ℕ) → length (l ++ 10 ∷ m) ≡ 0 → ⊥
long [] m e = omega arith
long (x ∷ xs) m e = omega arith

-- no line is left
end-events : (state : State) (rest : List ℕ) (parts : Parts) (events : List Event) → length rest ≡ 0 → AreLines events rest
    → Runs state events parts → MayClose state.opened × (closed state.opened state.parts ≡ parts)
unfolding AreLines Runs
end-events state rest parts [] none lines runs = runs
end-events state rest parts (e ∷ es) none (l, m, is, more, whole) runs = absurd (long l m (ap (λ t. length t) (sym whole) ∙ none))

pub leads-end : (state : State) (rest : List ℕ) (parts : Parts) → length rest ≡ 0 → Leads state rest parts → MayClose state.opened
    × (closed state.opened state.parts ≡ parts)
leads-end state rest parts none (events, proper, lines, runs) = end-events state rest parts events none lines runs

pub ended-parts : (made parts : Parts) (r : Result Schema SchemaRefusal) → made ≡ parts → MakesParts made r → MakesParts parts r
ended-parts made parts r e so = let P : Parts → Type 0 = λ p. MakesParts p r in subst P e so

pub ended-lines : (parts : Parts) (e : SchemaRefusal) → MakesParts parts (Err e) → MakesLines parts (Err e)
ended-lines parts (At fault line) made = made
ended-lines parts NoMemory made = tt

-- what is read is a right schema, and no other's text is this
pub complete : (s : Schema) → IsBegun s → HaveEpochs (map said s.inputs.items) → IsSchema s
complete s so fit = record { inputs = so.inputs; epochs = fit; outputs = so.outputs; no_epochs = so.no_epochs; constants = so.constants }

pub refused-lines : (text : List ℕ) (e : SchemaRefusal) → ((s : Schema) → IsSchema s → IsSchemaText s text → MakesLines (parts_of s) (Err e))
    → IsRefusal text e
refused-lines text (At fault line) made = made
refused-lines text NoMemory made = tt

pub not-schema : (d s : Schema) (text written : List ℕ) → IsSchema d → IsSchema s → IsSchemaText s text → parts_of d ≡ parts_of s
    → IsSchemaText d written → written ≢ text → ⊥
not-schema d s text written right other is same wrote apart =
    let L : Parts → Type 0 = λ p. AreLines (events_of p) written in
    apart (lines-same (events_of (parts_of s)) written text (subst L same (schema-lines d written right.no_epochs wrote))
    (schema-lines s text other.no_epochs is))

pub epochs-along : (d s : Schema) → parts_of d ≡ parts_of s → HaveEpochs (map said s.inputs.items) → HaveEpochs (map said d.inputs.items)
epochs-along d s same fit = let H : Parts → Type 0 = λ p. HaveEpochs p.inputs in subst H (sym same) fit
