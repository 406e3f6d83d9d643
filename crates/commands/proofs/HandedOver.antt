-- The commands on what their readers handed over.
use Rattle.std.proofs.Common.{◌⊎◌, ℕ, List, [], inl, inr, refl, sym, Option, Result, Err}
use Rattle.std.proofs.lemmas.List.{append-nil}
use Rattle.collector.specs.Watching.{HandsSome, handed}
use Rattle.collector.specs.declared.watched.Watched.{Watched}
use Rattle.command_line.specs.declared.line_options.GraphForm.{GraphForm}
use Rattle.schedule.specs.declared.verb.ViewKind.{ViewKind}
use Rattle.commands.specs.Checks.{CheckEnds}
use Rattle.commands.specs.Formats.{FormatEnds}
use Rattle.commands.specs.Scripts.{ScriptEnds}
use Rattle.sql.specs.Asked.{Asked}
use Rattle.commands.specs.Graphs.{GraphEnds}
use Rattle.commands.specs.Heeded.{Heeds}
use Rattle.commands.specs.InputChecks.{CheckInputEnds}
use Rattle.commands.specs.Readings.{ChecksBothOnHanded, ChecksOnHanded, EndsOnBothHanded, EndsOnHanded, FormatsOnHanded, GraphsOnHanded, HandsBoth, HandsQuery, ReplaysOnHanded, RunsOnHanded, ScriptsOnHanded}
use Rattle.commands.specs.Replayed.{ReplayEnds}
use Rattle.commands.specs.Runs.{Ends, IsUnreadInput, IsUnreadQuery}
use Rattle.diagnostics.specs.declared.fault.Fault.{Fault}
use Rattle.diagnostics.specs.declared.fault.Fault.TheVariants.{Query, TooManyVertices, Input as InputFault, Schedule, NoMemory, Count, NoWorker, Incomplete, ReadQuery, ReadInput, Write}

pub hands_nothing : {T : Type 0} (r : Watched T) → HandsSome r r
hands_nothing r = ([], sym (append-nil (handed r)))

pub hands_part : {T : Type 0} (left : T → Option (List ℕ)) (old new : Watched T) (text : List ℕ) → HandsQuery left old new text → HandsSome old new
hands_part left old new text h = (text, h.0)

-- a fault of reading, case by case
pub unread_query : (P : Fault → Type 0) → P NoMemory → P ReadQuery → (e : Fault) → IsUnreadQuery e → P e
unread_query P memory query NoMemory u = memory
unread_query P memory query ReadQuery u = query
unread_query P memory query ReadInput u = absurd u
unread_query P memory query (Query code start end) u = absurd u
unread_query P memory query TooManyVertices u = absurd u
unread_query P memory query (InputFault code line) u = absurd u
unread_query P memory query (Schedule code line) u = absurd u
unread_query P memory query Count u = absurd u
unread_query P memory query NoWorker u = absurd u
unread_query P memory query Incomplete u = absurd u
unread_query P memory query Write u = absurd u

unread_input : (P : Fault → Type 0) → P NoMemory → P ReadInput → (e : Fault) → IsUnreadInput e → P e
unread_input P memory input NoMemory u = memory
unread_input P memory input ReadQuery u = absurd u
unread_input P memory input ReadInput u = input
unread_input P memory input (Query code start end) u = absurd u
unread_input P memory input TooManyVertices u = absurd u
unread_input P memory input (InputFault code line) u = absurd u
unread_input P memory input (Schedule code line) u = absurd u
unread_input P memory input Count u = absurd u
unread_input P memory input NoWorker u = absurd u
unread_input P memory input Incomplete u = absurd u
unread_input P memory input Write u = absurd u

-- the query could not be read
one_unread : {Q : Type 0} (left : Q → Option (List ℕ)) (q₀ q₁ : Watched Q) (P : List ℕ → Fault → Type 0) (e : Fault) → ((q : List ℕ) → P q NoMemory) → ((q : List ℕ) → P q ReadQuery) → HandsSome q₀ q₁ → IsUnreadQuery e → EndsOnHanded left q₀ q₁ (λ q. P q e) (Err e)
one_unread left q₀ q₁ P e memory query h u = record { query = h.0; read = inr (h.1, u); ends = unread_query (P h.0) (memory h.0) (query h.0) e u }

-- it was read
pub one_read : {Q : Type 0} (left : Q → Option (List ℕ)) (q₀ q₁ : Watched Q) (query : List ℕ) (ends : List ℕ → Type 0) (result : Result (Unit {0}) Fault) → HandsQuery left q₀ q₁ query → ends query → EndsOnHanded left q₀ q₁ ends result
one_read left q₀ q₁ query ends result h e = record { query = query; read = inl h; ends = e }

-- one of the two could not be read
both_unread : {Q I : Type 0} (left : Q → Option (List ℕ)) (q₀ q₁ : Watched Q) (i₀ i₁ : Watched I) (P : List ℕ → List ℕ → Fault → Type 0) (e : Fault)
    → ((q i : List ℕ) → P q i NoMemory) → ((q i : List ℕ) → P q i ReadQuery) → ((q i : List ℕ) → P q i ReadInput)
    → HandsSome q₀ q₁ × HandsSome i₀ i₁ → IsUnreadQuery e ⊎ IsUnreadInput e → EndsOnBothHanded left q₀ q₁ i₀ i₁ (λ q i. P q i e) (Err e)
both_unread left q₀ q₁ i₀ i₁ P e memory query input h u = record {
  query = h.0.0;
  input = h.1.0;
  read = inr (h.0.1, h.1.1, u);
  ends = elim u [
    | inl v ↦ unread_query (P h.0.0 h.1.0) (memory h.0.0 h.1.0) (query h.0.0 h.1.0) e v
    | inr v ↦ unread_input (P h.0.0 h.1.0) (memory h.0.0 h.1.0) (input h.0.0 h.1.0) e v
  ];
}

-- both were read
pub both_read : {Q I : Type 0} (left : Q → Option (List ℕ)) (q₀ q₁ : Watched Q) (i₀ i₁ : Watched I) (query input : List ℕ) (ends : List ℕ → List ℕ → Type 0) (result : Result (Unit {0}) Fault) → HandsBoth left q₀ q₁ i₀ i₁ query input → ends query input → EndsOnBothHanded left q₀ q₁ i₀ i₁ ends result
both_read left q₀ q₁ i₀ i₁ query input ends result h e = record { query = query; input = input; read = inl h; ends = e }

-- each command writes nothing where a text could not be read
module _ {Q : Type 0} (left : Q → Option (List ℕ)) (q₀ q₁ : Watched Q) (old : Option (List ℕ)) (e : Fault) (h : HandsSome q₀ q₁) (u : IsUnreadQuery e) where
  pub check_unread : ChecksOnHanded left q₀ q₁ old old (Err e)
  check_unread = one_unread left q₀ q₁ (λ q f. CheckEnds q old old (Err f)) e (λ q. refl) (λ q. refl) h u

  pub format_unread : FormatsOnHanded left q₀ q₁ old old (Err e)
  format_unread = one_unread left q₀ q₁ (λ q f. FormatEnds q old old (Err f)) e (λ q. refl) (λ q. refl) h u

  pub script_unread : (a : Asked) → ScriptsOnHanded a left q₀ q₁ old old (Err e)
  script_unread a = one_unread left q₀ q₁ (λ q f. ScriptEnds a q old old (Err f)) e (λ q. refl) (λ q. refl) h u

  pub graph_unread : (form : GraphForm) → GraphsOnHanded form left q₀ q₁ old old (Err e)
  graph_unread form = one_unread left q₀ q₁ (λ q f. GraphEnds form q old old (Err f)) e (λ q. refl) (λ q. refl) h u

module _ {Q I : Type 0} (left : Q → Option (List ℕ)) (q₀ q₁ : Watched Q) (i₀ i₁ : Watched I) (old : Option (List ℕ)) (e : Fault) (h : HandsSome q₀ q₁ × HandsSome i₀ i₁) (u : IsUnreadQuery e ⊎ IsUnreadInput e) where
  pub run_unread : RunsOnHanded left q₀ q₁ i₀ i₁ old old (Err e)
  run_unread = both_unread left q₀ q₁ i₀ i₁ (λ q i f. Ends q i old old (Err f) × Heeds q old old (Err f)) e (λ q i. (refl, refl)) (λ q i. (refl, refl)) (λ q i. (refl, refl)) h u

  pub check_input_unread : ChecksBothOnHanded left q₀ q₁ i₀ i₁ old old (Err e)
  check_input_unread = both_unread left q₀ q₁ i₀ i₁ (λ q i f. CheckInputEnds q i old old (Err f)) e (λ q i. refl) (λ q i. refl) (λ q i. refl) h u

  pub replay_unread : (workers : ℕ) (kind : ViewKind) → ReplaysOnHanded workers kind left q₀ q₁ i₀ i₁ old old (Err e)
  replay_unread workers kind =
      both_unread left q₀ q₁ i₀ i₁ (λ q s f. ReplayEnds q workers kind s old old (Err f) × Heeds q old old (Err f)) e (λ q i. (refl, refl)) (λ q i. (refl, refl)) (λ q i. (refl, refl)) h u
