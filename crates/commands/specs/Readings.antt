-- What is read of the texts, how the commands end on it where the bytes are known, and what is kept of it.
use Rattle.std.specs.Prelude.{◌≡◌, ◌⊎◌, ℕ, suc, true, List, length, Option, Result, IfErr, IfSome, MatchResult}
use Rattle.lexer.specs.Tokens.{max_length}
use Rattle.collector.specs.Watching.{Hands, HandsAll, has_ended, inner_of}
use Rattle.collector.specs.declared.watched.Watched.{Watched}
use Rattle.command_line.specs.declared.line_options.GraphForm.{GraphForm}
use Rattle.schedule.specs.declared.verb.ViewKind.{ViewKind}
use Rattle.diagnostics.specs.declared.fault.Fault.{Fault}
use Rattle.follow.specs.Follows.{HasRead}
use Rattle.commands.specs.Checks.{CheckEnds}
use Rattle.commands.specs.Followed.{FollowEnds, IsReadOf}
use Rattle.commands.specs.Formats.{FormatEnds}
use Rattle.commands.specs.Scripts.{ScriptEnds}
use Rattle.sql.specs.Asked.{Asked}
use Rattle.commands.specs.Graphs.{GraphEnds}
use Rattle.commands.specs.Heeded.{Heeds}
use Rattle.commands.specs.InputChecks.{CheckInputEnds}
use Rattle.commands.specs.Replayed.{ReplayEnds}
use Rattle.commands.specs.Runs.{Ends, IsUnreadInput, IsUnreadQuery}
pub use Rattle.query_answers.specs.Runs.{Known, read_part}

-- each command ends so, on the bytes of its texts where they are known
abbrev pub RunsOver : (query input : Option (List ℕ)) → Option (List ℕ) → Option (List ℕ) → Result (Unit {0}) Fault → Type 0
RunsOver query input old new result = IfSome query (λ q. IfSome input (λ i. Ends (read_part q) i old new result))

abbrev pub FollowsOver : (offset : ℕ) → (query input : Option (List ℕ)) → Option (List ℕ) → Option (List ℕ) → Result (Unit {0}) Fault → Type 0
FollowsOver offset query input old new result = IfSome query (λ q. FollowEnds offset (read_part q) (IsReadOf input) old new result)

abbrev pub ChecksOver : (query : Option (List ℕ)) → Option (List ℕ) → Option (List ℕ) → Result (Unit {0}) Fault → Type 0
ChecksOver query old new result = IfSome query (λ q. CheckEnds (read_part q) old new result)

abbrev pub ChecksBothOver : (query input : Option (List ℕ)) → Option (List ℕ) → Option (List ℕ) → Result (Unit {0}) Fault → Type 0
ChecksBothOver query input old new result = IfSome query (λ q. IfSome input (λ i. CheckInputEnds (read_part q) i old new result))

abbrev pub FormatsOver : (query : Option (List ℕ)) → Option (List ℕ) → Option (List ℕ) → Result (Unit {0}) Fault → Type 0
FormatsOver query old new result = IfSome query (λ q. FormatEnds (read_part q) old new result)

abbrev pub ScriptsOver : Asked → (query : Option (List ℕ)) → Option (List ℕ) → Option (List ℕ) → Result (Unit {0}) Fault → Type 0
ScriptsOver a query old new result = IfSome query (λ q. ScriptEnds a (read_part q) old new result)

abbrev pub GraphsOver : GraphForm → (query : Option (List ℕ)) → Option (List ℕ) → Option (List ℕ) → Result (Unit {0}) Fault → Type 0
GraphsOver form query old new result = IfSome query (λ q. GraphEnds form (read_part q) old new result)

abbrev pub ReplaysOver : (workers : ℕ) → ViewKind → (query schedule : Option (List ℕ))
    → Option (List ℕ) → Option (List ℕ) → Result (Unit {0}) Fault → Type 0
ReplaysOver workers kind query schedule old new result = IfSome query (λ q. IfSome schedule (λ s. ReplayEnds (read_part q) workers kind s old new result))

-- a command heeds its query, where its bytes are known
abbrev pub HeedsOver : (query : Option (List ℕ)) → Option (List ℕ) → Option (List ℕ) → Result (Unit {0}) Fault → Type 0
HeedsOver query old new result = IfSome query (λ q. Heeds (read_part q) old new result)

-- after a fault that came once the query was read, this is what was read of it
abbrev pub KeepsQuery : (query : Option (List ℕ)) → Result (Unit {0}) Fault → (kept : List ℕ) → Type 0
KeepsQuery query result kept = IfSome query (λ q. IfErr result (λ e. IsUnreadQuery e ⊎ (kept ≡ read_part q)))

-- after a fault that came once both texts were read, this is the other one
abbrev pub KeepsInput : (input : Option (List ℕ)) → Result (Unit {0}) Fault → (kept : List ℕ) → Type 0
KeepsInput input result kept = IfSome input (λ i. IfErr result (λ e. IsUnreadQuery e ⊎ (IsUnreadInput e ⊎ (kept ≡ i))))

-- ---- Of any readers, whose bytes nobody need know: what they handed over.

-- this was read of a query: all of it, or one byte more than it may have; where its bytes are known, these are they
abbrev pub HandsQuery : {Q : Type 0} → (left : Q → Option (List ℕ)) → (old new : Watched Q) → List ℕ → Type 0
HandsQuery left old new text =
    Hands old new text × ((has_ended new ≡ true) ⊎ (length text ≡ suc max_length)) × IfSome (left (inner_of old)) (λ q. text ≡ read_part q)

-- the two were read to their ends
abbrev pub HandsBoth : {Q I : Type 0} → (left : Q → Option (List ℕ)) → (q₀ q₁ : Watched Q) → (i₀ i₁ : Watched I) → (query input : List ℕ) → Type 0
HandsBoth left q₀ q₁ i₀ i₁ query input = HandsQuery left q₀ q₁ query × HandsAll i₀ i₁ input

-- the fault is of reading the query
abbrev pub IsOfQuery : Result (Unit {0}) Fault → Type 0
IsOfQuery result = MatchResult result (λ _. ⊥) IsUnreadQuery

-- the fault is of reading one of the two
abbrev pub IsOfReading : Result (Unit {0}) Fault → Type 0
IsOfReading result = MatchResult result (λ _. ⊥) (λ e. IsUnreadQuery e ⊎ IsUnreadInput e)

-- A command of one text ends so on what its reader handed over, which is the whole text: that it is too long is enough. Where the reader failed,
-- or memory ran out, it may be a beginning of the text.
pub record EndsOnHanded {Q : Type 0} (left : Q → Option (List ℕ)) (q₀ q₁ : Watched Q) (promised : (query : List ℕ) → Type 0) (result : Result (Unit {0}) Fault) : Type 0 where
  pub query : List ℕ
  pub read : HandsQuery left q₀ q₁ query ⊎ (Hands q₀ q₁ query × IsOfQuery result)
  pub ends : promised query

-- The same of a command of two. Where a reader failed, or memory ran out, a beginning of the query was read, or all of it and a beginning of the
-- input.
pub record EndsOnBothHanded {Q I : Type 0} (left : Q → Option (List ℕ)) (q₀ q₁ : Watched Q) (i₀ i₁ : Watched I)
    (promised : (query input : List ℕ) → Type 0) (result : Result (Unit {0}) Fault) : Type 0 where
  pub query : List ℕ
  pub input : List ℕ
  pub read : HandsBoth left q₀ q₁ i₀ i₁ query input ⊎ (Hands q₀ q₁ query × Hands i₀ i₁ input × IsOfReading result)
  pub ends : promised query input

abbrev pub RunsOnHanded : {Q I : Type 0} → (left : Q → Option (List ℕ)) → (q₀ q₁ : Watched Q) → (i₀ i₁ : Watched I)
    → Option (List ℕ) → Option (List ℕ) → Result (Unit {0}) Fault → Type 0
RunsOnHanded left q₀ q₁ i₀ i₁ old new result = EndsOnBothHanded left q₀ q₁ i₀ i₁ (λ q i. Ends q i old new result × Heeds q old new result) result

abbrev pub ChecksOnHanded : {Q : Type 0} → (left : Q → Option (List ℕ)) → (q₀ q₁ : Watched Q)
    → Option (List ℕ) → Option (List ℕ) → Result (Unit {0}) Fault → Type 0
ChecksOnHanded left q₀ q₁ old new result = EndsOnHanded left q₀ q₁ (λ q. CheckEnds q old new result) result

abbrev pub ChecksBothOnHanded : {Q I : Type 0} → (left : Q → Option (List ℕ)) → (q₀ q₁ : Watched Q) → (i₀ i₁ : Watched I)
    → Option (List ℕ) → Option (List ℕ) → Result (Unit {0}) Fault → Type 0
ChecksBothOnHanded left q₀ q₁ i₀ i₁ old new result = EndsOnBothHanded left q₀ q₁ i₀ i₁ (λ q i. CheckInputEnds q i old new result) result

abbrev pub FormatsOnHanded : {Q : Type 0} → (left : Q → Option (List ℕ)) → (q₀ q₁ : Watched Q)
    → Option (List ℕ) → Option (List ℕ) → Result (Unit {0}) Fault → Type 0
FormatsOnHanded left q₀ q₁ old new result = EndsOnHanded left q₀ q₁ (λ q. FormatEnds q old new result) result

abbrev pub ScriptsOnHanded : Asked → {Q : Type 0} → (left : Q → Option (List ℕ)) → (q₀ q₁ : Watched Q)
    → Option (List ℕ) → Option (List ℕ) → Result (Unit {0}) Fault → Type 0
ScriptsOnHanded a left q₀ q₁ old new result = EndsOnHanded left q₀ q₁ (λ q. ScriptEnds a q old new result) result

abbrev pub GraphsOnHanded : GraphForm → {Q : Type 0} → (left : Q → Option (List ℕ)) → (q₀ q₁ : Watched Q)
    → Option (List ℕ) → Option (List ℕ) → Result (Unit {0}) Fault → Type 0
GraphsOnHanded form left q₀ q₁ old new result = EndsOnHanded left q₀ q₁ (λ q. GraphEnds form q old new result) result

abbrev pub ReplaysOnHanded : (workers : ℕ) → ViewKind → {Q S : Type 0} → (left : Q → Option (List ℕ)) → (q₀ q₁ : Watched Q) → (s₀ s₁ : Watched S)
    → Option (List ℕ) → Option (List ℕ) → Result (Unit {0}) Fault → Type 0
ReplaysOnHanded workers kind left q₀ q₁ s₀ s₁ old new result =
    EndsOnBothHanded left q₀ q₁ s₀ s₁ (λ q s. ReplayEnds q workers kind s old new result × Heeds q old new result) result

-- Following ends so on what its two readers handed over: of the query the whole text, and of the input what its reader has handed over so far,
-- which is all of it only once that has ended. Where the reader of the query failed, or memory ran out, nothing is written.
pub record FollowsOnHanded (offset : ℕ) {Q I : Type 0} (left : Q → Option (List ℕ)) (remaining : I → Option (List ℕ)) (q₀ q₁ : Watched Q)
    (i₀ i₁ : Watched I) (old new : Option (List ℕ)) (result : Result (Unit {0}) Fault) : Type 0 where
  pub query : List ℕ
  pub read : HandsQuery left q₀ q₁ query ⊎ (Hands q₀ q₁ query × IsOfQuery result)
  pub ends : FollowEnds offset query (HasRead remaining i₀ i₁) old new result
