-- The lines of a right schema may come as they do, and say it.
use Rattle.std.proofs.Common.{◌≡◌, ◌≢◌, ◌≤◌, ◌<◌, ◌+◌, Bool, true, false, ℕ, zero, suc, List, [], ◌∷◌}
use Rattle.std.proofs.Common.{◌++◌, Option, Some, None, get_or, length, map, refl, sym, ◌∙◌, ap, subst, arith}
use Rattle.std.specs.List.{AllByRecursion}
use Rattle.std.specs.Str.{bytes_eq}
use Rattle.std.proofs.lemmas.List.{append-nil, append_assoc, length-append, map-append}
use Rattle.std.proofs.lemmas.Slice.Eq.{bytes_eq-Decides}
use Rattle.csv_cells.specs.declared.column.Column.{Column}
use Rattle.schema.specs.Drafts.{IsNew}
use Rattle.schema_lines.specs.Lines.{Event}
use Rattle.schema_lines.specs.Words.{IsHeader, IsName, Lacks}
use Rattle.schema.specs.Schemas.{AreConstants, AreDifferent, AreTables, IsEpochsOf, IsSchema, IsTable, Parts, Said, parts_of}
use Rattle.schema.specs.Steps.{MayAddConstant, MayBeginInput, MayBeginOutput, MayClose, MayEnd, Runs, State, begun_by, begun_epochs, closed}
use Rattle.schema.specs.Steps.{column_events, constant_events, epoched_of, events_of, input_event, output_event, place_in, put, table_events, with_by}
use Rattle.schema.specs.declared.tables.Epochs.{Epochs}
use Rattle.schema.specs.declared.tables.Epochs.TheVariants.{One, By, Every}
use Rattle.schema.specs.declared.tables.Schema.{Schema}
use Rattle.schema_lines.proofs.Each.{each-at, each-right}
use Rattle.schema.proofs.InUse.{differs}

-- a name that comes later is none of those before it
new-after : (done : List (List ℕ)) (name : List ℕ) (rest : List (List ℕ)) → AreDifferent (done ++ name ∷ rest) → IsNew name done
new-after [] name rest so = tt
new-after (d ∷ ds) name rest so = ((each-right (λ n. n ≢ d) ds (name ∷ rest) so.0).0, new-after ds name rest so.1)

-- the place of a column's name is the column's
place-of : (names : List (List ℕ)) (place : ℕ) → place < length names → AreDifferent names → place_in (get_or names place []) names ≡ place
place-of [] place below so = absurd (omega arith)
place-of (n ∷ ns) zero below so = rw ((bytes_eq-Decides n n).1 refl) refl
place-of (n ∷ ns) (suc p) below so =
    let apart : bytes_eq n (get_or ns p []) ≡ false = differs (get_or ns p []) n (each-at (λ m. m ≢ n) ns p [] (omega arith) so.0) in
    let next : place_in (get_or ns p []) ns ≡ p = place-of ns p (omega arith) so.1 in
    rw (apart, next) (omega arith)

-- a table that ends with its columns is the right one
ended : (name : List ℕ) (epochs : Epochs) (names : List (List ℕ)) (columns : List Column) → 1 ≤ length columns → length names ≡ length columns
    → AreDifferent names → IsEpochsOf columns epochs
    → MayEnd (begun_by (epoched_of epochs names))
    (record { name = name; epochs = begun_epochs (epoched_of epochs names); names = names; columns = columns })
    × (with_by (begun_by (epoched_of epochs names))
    (record { name = name; epochs = begun_epochs (epoched_of epochs names); names = names; columns = columns })
    ≡ record { name = name; epochs = epochs; names = names; columns = columns })
ended name One names columns some counted different fit = (some, refl)
ended name Every names columns some counted different fit = (some, refl)
ended name (By place) names columns some counted different fit =
    let below : place < length names = omega (arith, fit.0, counted) in
    let at : place_in (get_or names place []) names ≡ place = place-of names place below different in
    rw at ((some, below, fit), refl)

abbrev growing : Said → Epochs → Option (List ℕ) → Bool → Parts → List (List ℕ) → List Column → State
growing t epochs by output parts names columns = record {
  parts = parts;
  opened = Some (record { table = record { name = t.name; epochs = epochs; names = names; columns = columns }; by = by; output = output });
}

columns-run : (t : Said) (epochs : Epochs) (by : Option (List ℕ)) (output : Bool) (parts : Parts) (es : List Event) (p : Parts)
    (ns : List (List ℕ)) (cs : List Column) (dn : List (List ℕ)) (dc : List Column)
    → IsTable t → dn ++ ns ≡ t.names → dc ++ cs ≡ t.columns → length ns ≡ length cs → Runs (growing t epochs by output parts t.names t.columns) es p
    → Runs (growing t epochs by output parts dn dc) (column_events ns cs ++ es) p
unfolding Runs column_events
columns-run t epochs by output parts es p [] [] dn dc right e f counted run =
    rw (sym (append-nil dn) ∙ e, sym (append-nil dc) ∙ f) run
columns-run t epochs by output parts es p [] (c ∷ cs) dn dc right e f counted run = absurd (omega arith)
columns-run t epochs by output parts es p (n ∷ ns) [] dn dc right e f counted run = absurd (omega arith)
columns-run t epochs by output parts es p (n ∷ ns) (c ∷ cs) dn dc right e f counted run =
    let H : List (List ℕ) → Type 0 = λ m. AllByRecursion IsHeader m in
    let header = (each-right IsHeader dn (n ∷ ns) (subst H (sym e) right.headers)).0 in
    let few = right.few in
    let whole : length dc + suc (length cs) ≡ length t.columns = sym (length-append dc (c ∷ cs)) ∙ ap (λ k. length k) f in (
      (header.0, omega arith, new-after dn n ns (subst AreDifferent (sym e) right.different)),
      columns-run t epochs by output parts es p ns cs (dn ++ n ∷ []) (dc ++ c ∷ []) right (append_assoc dn (n ∷ []) ns ∙ e)
          (append_assoc dc (c ∷ []) cs ∙ f) (omega arith) run,
    )

-- what each of them is, the one after those that are done is
one-of : {X : Type 0} (P : X → Type 0) (done : List X) (x : X) (rest all : List X) → done ++ x ∷ rest ≡ all → AllByRecursion P all → P x
one-of P done x rest all e so = let Q : List _ → Type 0 = λ xs. AllByRecursion P xs in (each-right P done (x ∷ rest) (subst Q (sym e) so)).0

new-one : {X : Type 0} (f : X → List ℕ) (done : List X) (x : X) (rest all : List X) → done ++ x ∷ rest ≡ all → AreDifferent (map f all)
    → IsNew (f x) (map f done)
new-one f done x rest all e so = new-after (map f done) (f x) (map f rest) (subst AreDifferent (ap (map f) (sym e) ∙ map-append f done (x ∷ rest)) so)

abbrev inputs_only : List Said → Parts
inputs_only inputs = record { inputs = inputs; outputs = []; constants = [] }

inputs-run : (all : List Said) (es : List Event) (p : Parts) → AreTables all → (ts done : List Said) → done ++ ts ≡ all → (state : State)
    → MayClose state.opened → closed state.opened state.parts ≡ inputs_only done
    → ((next : State) → MayClose next.opened → closed next.opened next.parts ≡ inputs_only all → Runs next es p)
    → Runs state (table_events input_event ts ++ es) p
unfolding Runs table_events
inputs-run all es p right [] done e state may is go = go state may (is ∙ ap inputs_only (sym (append-nil done) ∙ e))
inputs-run all es p right (t ∷ ts) done e state may is go =
    let table : IsTable t = one-of IsTable done t ts all e right.0 in
    let A : Parts → Type 0 = λ q. MayBeginInput q t.name in
    let whole = ended t.name t.epochs t.names t.columns table.some table.counted table.different table.epochs in
    let epochs = begun_epochs (epoched_of t.epochs t.names) in
    let by = begun_by (epoched_of t.epochs t.names) in
    let parts = closed state.opened state.parts in
    let R : List Event → Type 0 = λ xs. Runs (growing t epochs by false parts [] []) xs p in (
      (may, subst A (sym is) (refl, refl, table.named, new-one (λ u. u.name) done t ts all e right.1)),
      subst R (sym (append_assoc (column_events t.names t.columns) (table_events input_event ts) es))
          (columns-run t epochs by false parts (table_events input_event ts ++ es) p t.names t.columns [] [] table refl refl table.counted
          (inputs-run all es p right ts (done ++ t ∷ []) (append_assoc done (t ∷ []) ts ∙ e)
          (growing t epochs by false parts t.names t.columns) whole.0
          (ap (λ u. put false u parts) whole.1 ∙ ap (λ q. put false t q) is) go)),
    )

abbrev tables_only : List Said → List Said → Parts
tables_only inputs outputs = record { inputs = inputs; outputs = outputs; constants = [] }

outputs-run : (ins all : List Said) (es : List Event) (p : Parts) → AreTables all → AllByRecursion (λ t. t.epochs ≡ One) all
    → (ts done : List Said) → done ++ ts ≡ all → (state : State) → MayClose state.opened
    → closed state.opened state.parts ≡ tables_only ins done
    → ((next : State) → MayClose next.opened → closed next.opened next.parts ≡ tables_only ins all → Runs next es p)
    → Runs state (table_events output_event ts ++ es) p
unfolding Runs table_events
outputs-run ins all es p right ones [] done e state may is go = go state may (is ∙ ap (tables_only ins) (sym (append-nil done) ∙ e))
outputs-run ins all es p right ones (t ∷ ts) done e state may is go =
    let table : IsTable t = one-of IsTable done t ts all e right.0 in
    let one : t.epochs ≡ One = one-of (λ u. u.epochs ≡ One) done t ts all e ones in
    let A : Parts → Type 0 = λ q. MayBeginOutput q t.name in
    let parts = closed state.opened state.parts in
    let R : List Event → Type 0 = λ xs. Runs (growing t One None true parts [] []) xs p in
    let plain : (let u : Said = record { name = t.name; epochs = One; names = t.names; columns = t.columns } in u)
    ≡ t = ap (λ x. let u : Said = record { name = t.name; epochs = x; names = t.names; columns = t.columns } in u) (sym one) in (
      (may, subst A (sym is) (refl, table.named, new-one (λ u. u.name) done t ts all e right.1)),
      subst R (sym (append_assoc (column_events t.names t.columns) (table_events output_event ts) es))
          (columns-run t One None true parts (table_events output_event ts ++ es) p t.names t.columns [] [] table refl refl table.counted
          (outputs-run ins all es p right ones ts (done ++ t ∷ []) (append_assoc done (t ∷ []) ts ∙ e)
          (growing t One None true parts t.names t.columns) table.some
          (ap (λ u. put true u parts) plain ∙ ap (λ q. put true t q) is) go)),
    )

abbrev with_constants : List Said → List Said → List (List ℕ × List ℕ) → Parts
with_constants inputs outputs constants = record { inputs = inputs; outputs = outputs; constants = constants }

constants-run : (ins outs : List Said) (all : List (List ℕ × List ℕ)) → AreConstants all → (cs done : List (List ℕ × List ℕ)) → done ++ cs
    ≡ all → (state : State) → MayClose state.opened
    → closed state.opened state.parts ≡ with_constants ins outs done → Runs state (constant_events cs) (with_constants ins outs all)
unfolding Runs constant_events
constants-run ins outs all right [] done e state may is = (may, is ∙ ap (with_constants ins outs) (sym (append-nil done) ∙ e))
constants-run ins outs all right (c ∷ cs) done e state may is =
    let A : Parts → Type 0 = λ q. MayAddConstant q c.0 c.1 in
    let named = one-of (λ k. IsName k.0 × Lacks 10 k.1) done c cs all e right.0 in (
      (may, subst A (sym is) (named.0, new-one (λ k. k.0) done c cs all e right.1, new-one (λ k. k.1) done c cs all e right.2)),
      constants-run ins outs all right cs (done ++ c ∷ []) (append_assoc done (c ∷ []) cs ∙ e)
          (record {
            parts = with_constants (closed state.opened state.parts).inputs (closed state.opened state.parts).outputs
                ((closed state.opened state.parts).constants ++ c ∷ []);
            opened = None;
          }) tt
          (ap (λ q. with_constants q.inputs q.outputs (q.constants ++ c ∷ [])) is),
    )

pub schema-run : (s : Schema) → IsSchema s → Runs (record { parts = record { inputs = []; outputs = []; constants = [] }; opened = None })
    (events_of (parts_of s)) (parts_of s)
schema-run s right =
    let p = parts_of s in
    inputs-run p.inputs (table_events output_event p.outputs ++ constant_events p.constants) p right.inputs p.inputs [] refl
    (record { parts = record { inputs = []; outputs = []; constants = [] }; opened = None }) tt refl
    (λ next may is. outputs-run p.inputs p.outputs (constant_events p.constants) p right.outputs right.no_epochs p.outputs [] refl next may is
    (λ last may' is'. constants-run p.inputs p.outputs p.constants right.constants p.constants [] refl last may' is'))
