-- What the calls of following do.
use Rattle.std.specs.Prelude.{◌≡◌, ◌⊎◌, ◌≢◌, ◌<◌, ◌≤◌, ℕ, ◌+◌, ◌-◌, ◌==◌, cond, Bool, true, List, [], ◌∷◌, ◌++◌, length, map, drop, slice_get, Option, Some, Result, Ok, Err}
use Rattle.std.specs.List.{flat_map}
use Rattle.semantics.specs.Multiset.{Record}
use Rattle.semantics.specs.Query.{Input}
use Rattle.semantics.specs.Typing.{IsArity}
use Rattle.graph.specs.Shown.{GraphValue, shown_inputs}
use Rattle.rows.specs.FlatRows.{joined}
use Rattle.board.specs.Shown.{Shown}
use Rattle.board.specs.Promises.{IsOutputPlace, emitted_at}
use Rattle.collector.specs.Pieces.{split_on}
use Rattle.collector.specs.Lines.{Item, Says}
use Rattle.collector.specs.InputText.{IsRefused, epochs_after, records_in}
use Rattle.collector.specs.declared.refusal.InputRefusal.TheVariants.{At}
use Rattle.collector.specs.declared.codes.TheConstants.{MALFORMED, NO_LINE_FEED}
use Rattle.follow.specs.Entries.{Entry, records_of, row_line}
use Rattle.follow.specs.Follows.{Follows, IsPart, IsTooLong, max_line, said_records}
use Rattle.alone.specs.Scenes.{Grows}
use Rattle.follow.specs.Scenes.{HasTaken, HasReported, HasRoom, IsAllFed, IsFed, IsWritten, arities_of, IsPositionAfter, batches_of, reported_count, waiting}
use Rattle.follow.specs.declared.outcome.Ending.{Ending}
use Rattle.follow.specs.declared.outcome.Ending.TheVariants as ending
use Rattle.follow.specs.declared.outcome.Halt.{Halt}
use Rattle.follow.specs.declared.outcome.Halt.TheVariants as halt
use Rattle.follow.specs.declared.intake.Intake.{Intake}
use Rattle.follow.specs.declared.position.Position.{Position}
use Rattle.follow.specs.declared.line_stop.Taken.{Taken}
use Rattle.follow.specs.declared.line_stop.Taken.TheVariants as taken
use Rattle.follow.specs.declared.reporting.Reporting.{Reporting}

-- how following ends if the work stops
abbrev pub ending_of : Halt → Ending
ending_of halt.NoMemory = ending.NoMemory
ending_of halt.Count = ending.Count

-- ---- what waits

-- each input has an arity
abbrev pub HaveArities : List Input → Type 0
HaveArities inputs = (i : ℕ) (input : Input) → slice_get inputs i ≡ Some input → IsArity input.arity

-- nothing was taken, for these inputs
pub record IsNew (inputs : List Input) (x : Intake) : Type 0 where
  pub begun : x.begun ≡ 0
  pub fits : arities_of x ≡ map (λ (i : Input). i.arity) inputs
  pub line : x.line ≡ 0
  pub none : (i : ℕ) → waiting x i ≡ []

-- no epoch begins, no line is counted, and the inputs stay
pub record Holds (x y : Intake) : Type 0 where
  pub begun : y.begun ≡ x.begun
  pub line : y.line ≡ x.line
  pub inputs : length y.portion.items ≡ length x.portion.items
  pub arities : arities_of y ≡ arities_of x

-- one more record waits at an input, of an epoch that began
pub record Gathers (x y : Intake) (input : ℕ) (row : Record) : Type 0 where
  pub some : 0 < x.begun
  pub holds : Holds x y
  pub waits : (i : ℕ) → waiting y i ≡ cond (i == input) (waiting x i ++ row ∷ []) (waiting x i)

-- a line is counted
pub record Counts (x y : Intake) : Type 0 where
  pub line : y.line ≡ x.line + 1
  pub begun : y.begun ≡ x.begun
  pub portion : y.portion.items ≡ x.portion.items

-- what waited at an input is taken away
pub record Empties (x y : Intake) (input : ℕ) (rows : List Record) : Type 0 where
  pub holds : Holds x y
  pub taken : rows ≡ waiting x input
  pub waits : (i : ℕ) → waiting y i ≡ cond (i == input) [] (waiting x i)

-- what waited at an input was fed
pub record FeedsRows (s t : Shown) (x y : Intake) (input : ℕ) : Type 0 where
  pub holds : Holds x y
  pub waits : (i : ℕ) → waiting y i ≡ cond (i == input) [] (waiting x i)
  pub fed : (base : ℕ) (items : List Item) → IsFed s base x items → IsFed t base y items × Grows s t

-- all that waited was fed
pub record FeedsPortion (s t : Shown) (x y : Intake) : Type 0 where
  pub holds : Holds x y
  pub none : (i : ℕ) → waiting y i ≡ []
  pub fed : (base : ℕ) (items : List Item) → IsFed s base x items → IsFed t base y items × Grows s t

-- an item may be taken: a line says it
abbrev pub CanTake : Shown → Intake → Item → Type 0
CanTake s x item =
    (base : ℕ) × (items : List Item) × (line : List ℕ) × IsFed s base x items × Says (shown_inputs s.graph) (base + x.begun) line item

-- an item was taken
pub record TakesItem (s t : Shown) (x y : Intake) (item : Item) : Type 0 where
  pub line : y.line ≡ x.line
  pub fed : (base : ℕ) (items : List Item) → IsFed s base x items → IsFed t base y (items ++ item ∷ []) × Grows s t

-- what was said of the epochs that ended stays
pub record Continues (items later : List Item) : Type 0 where
  pub begun : epochs_after 0 items ≤ epochs_after 0 later
  pub ended : (epoch input : ℕ) → epoch + 1 < epochs_after 0 items → records_in epoch input 0 later ≡ records_in epoch input 0 items

-- the last item begins an epoch
abbrev pub EndsInEpoch : List Item → Type 0
EndsInEpoch items = (before : List Item) × (items ≡ before ++ Item.epoch ∷ [])

-- why taking lines stopped: the rest is part of a line, the next line has a fault of that code or is too long, or an epoch has begun
abbrev pub Stops : List Input → (bytes rest : List ℕ) → (lines : ℕ) → List Item → Taken → Type 0
Stops inputs bytes rest n items taken.Whole = (split_on 10 rest ≡ rest ∷ []) × (length rest ≤ max_line)
Stops inputs bytes rest n items (taken.Fault code) =
    (IsRefused inputs bytes (At code (n + 1)) × (code ≡ NO_LINE_FEED → ⊥)) ⊎ ((code ≡ MALFORMED) × IsTooLong (split_on 10 rest))
Stops inputs bytes rest n items taken.Epoch = EndsInEpoch items

-- lines were taken, and these bytes are left
pub record HasTakenLines (base : ℕ) (s t : Shown) (y : Intake) (inputs : List Input) (bytes rest : List ℕ) (how : Taken) (items : List Item) : Type 0 where
  pub lines : List (List ℕ)
  pub later : List Item
  pub reached : HasTaken t base y inputs bytes rest lines later
  pub continues : Continues items later
  pub grows : Grows s t
  pub stops : Stops inputs bytes rest (length lines) later how

-- the same, whatever was taken before
abbrev pub TakesLines : (base : ℕ) → (s t : Shown) → (x y : Intake) → List Input → (text rest : List ℕ) → Taken → Type 0
TakesLines base s t x y inputs text rest how =
    (bytes : List ℕ) (lines : List (List ℕ)) (items : List Item) → HasTaken s base x inputs bytes text lines items
    → HasTakenLines base s t y inputs bytes rest how items

-- ---- what is written

-- nothing was written
pub record IsFresh (t : Reporting) : Type 0 where
  pub done : t.done ≡ 0
  pub none : (k : ℕ) → reported_count t k ≡ 0

-- nothing was taken or written
pub record IsFirst (inputs : List Input) (outputs : ℕ) (p : Position) : Type 0 where
  pub base : p.base ≡ 0
  pub new : IsNew inputs p.intake
  pub room : length p.reporting.reported.items ≡ outputs
  pub fresh : IsFresh p.reporting
  pub none : p.pending.items ≡ []

-- one more epoch is complete
pub record Completes (t u : Reporting) : Type 0 where
  pub room : length u.reported.items ≡ length t.reported.items
  pub done : u.done ≡ t.done + 1
  pub none : (k : ℕ) → reported_count u k ≡ 0

-- all that was emitted at an output for the first incomplete epoch is written
pub record ReportsOutput (offset : ℕ) (s : Shown) (base : ℕ) (t u : Reporting) (output : ℕ) (label : List ℕ) (old new : List ℕ) : Type 0 where
  pub done : u.done ≡ t.done
  pub room : length u.reported.items ≡ length t.reported.items
  pub here : reported_count u output ≡ length (batches_of s output t.done)
  pub others : (k : ℕ) → k ≢ output → reported_count u k ≡ reported_count t k
  pub lines : new ≡ old ++ flat_map (row_line (offset + (base + t.done)) label) (joined (drop (reported_count t output) (batches_of s output t.done)))

-- more entries were written: at the first n outputs, all that was emitted
pub record HasReportedMore (offset : ℕ) (s : Shown) (base done n : ℕ) (u : Reporting) (records : (epoch input : ℕ) → List Record)
    (entries : List Entry) (text old new : List ℕ) : Type 0 where
  pub more : List Entry
  pub lines : List ℕ
  pub reported : HasReported offset s base done (reported_count u) records (entries ++ more) (text ++ lines)
  pub appended : new ≡ old ++ lines
  pub all : (k : ℕ) → k < n → IsOutputPlace s k → records_of k (entries ++ more) ≡ emitted_at s k done

-- the same, whatever was written before
pub record ReportsOutputs (offset : ℕ) (s : Shown) (base n : ℕ) (t u : Reporting) (old new : List ℕ) : Type 0 where
  pub done : u.done ≡ t.done
  pub room : length u.reported.items ≡ length t.reported.items
  pub more : (records : (epoch input : ℕ) → List Record) (entries : List Entry) (text : List ℕ)
      → HasReported offset s base t.done (reported_count t) records entries text → HasReportedMore offset s base t.done n u records entries text old new

-- the same at every output
abbrev pub ReportsOpen : (offset : ℕ) → Shown → (base : ℕ) → (t u : Reporting) → (old new : List ℕ) → Type 0
ReportsOpen offset s base t u old new = (n : ℕ) × ((k : ℕ) → IsOutputPlace s k → k < n) × ReportsOutputs offset s base n t u old new

-- what was written is an answer to the items, and a whole one for epochs below `sealed`
pub record HasAnswered (offset : ℕ) (s : Shown) (base : ℕ) (u : Reporting) (items : List Item) (begun sealed : ℕ) (text old new : List ℕ) : Type 0 where
  pub entries : List Entry
  pub lines : List ℕ
  pub room : HasRoom s u
  pub reported : HasReported offset s base u.done (reported_count u) (said_records items) entries (text ++ lines)
  pub appended : new ≡ old ++ lines
  pub part : IsPart s.graph (said_records items (base + u.done)) entries
  pub order : u.done ≤ sealed
  pub none : u.done ≡ begun → entries ≡ []

-- what must be known of what was written before
pub record CanReport (offset : ℕ) (s : Shown) (base : ℕ) (t : Reporting) (items : List Item) (begun sealed : ℕ) (entries : List Entry) (text : List ℕ) : Type 0 where
  pub room : HasRoom s t
  pub reported : HasReported offset s base t.done (reported_count t) (said_records items) entries text
  pub order : t.done ≤ sealed
  pub none : t.done ≡ begun → entries ≡ []

-- something was reported before, and more can be
abbrev pub MayReport : (offset : ℕ) → Shown → (base : ℕ) → (t : Reporting) → (begun sealed : ℕ) → Type 0
MayReport offset s base t begun sealed =
    (items : List Item) × (entries : List Entry) × (text : List ℕ) × IsAllFed s base items × (sealed ≤ begun) × CanReport offset s base t items begun sealed entries text

-- from any report that was written before, such an answer is written
abbrev pub Reports : (offset : ℕ) → Shown → (base : ℕ) → (t u : Reporting) → (begun sealed : ℕ) → (old new : List ℕ) → Type 0
Reports offset s base t u begun sealed old new =
    (items : List Item) (entries : List Entry) (text : List ℕ) → IsAllFed s base items → sealed ≤ begun
    → CanReport offset s base t items begun sealed entries text → HasAnswered offset s base u items begun sealed text old new

-- ---- answers

-- something was taken and answered before, and more can be
abbrev pub MayAnswer : (offset : ℕ) → Shown → (base : ℕ) → Intake → Reporting → (sealed : ℕ) → Type 0
MayAnswer offset s base x u sealed =
    (items : List Item) × (entries : List Entry) × (text : List ℕ) × IsFed s base x items × CanReport offset s base u items x.begun sealed entries text

-- what waited was fed and worked off, and this is to be written; the epochs before the last one may be complete
pub record IsOpenAnswer (offset : ℕ) (base : ℕ) (t : Shown) (x y : Intake) (v : Reporting) (items : List Item) (text out : List ℕ) (s : Shown) : Type 0 where
  pub graph : t.graph ≡ s.graph
  pub holds : Holds x y
  pub fed : IsFed t base y items
  pub reported : HasAnswered offset t base v items x.begun (x.begun - 1) text [] out

-- the same, whatever was taken and written before
abbrev pub AnswersOpen : (offset : ℕ) → (base : ℕ) → (s t : Shown) → (x y : Intake) → (u v : Reporting) → (out : List ℕ) → Type 0
AnswersOpen offset base s t x y u v out =
    (items : List Item) (entries : List Entry) (text : List ℕ) → IsFed s base x items
    → CanReport offset s base u items x.begun (x.begun - 1) entries text → IsOpenAnswer offset base t x y v items text out s

-- at the end of the input every epoch is complete
pub record IsLastAnswer (offset : ℕ) (base : ℕ) (t : Shown) (x : Intake) (v : Reporting) (items : List Item) (text out : List ℕ) (s : Shown) : Type 0 where
  pub graph : t.graph ≡ s.graph
  pub complete : v.done ≡ x.begun
  pub reported : HasAnswered offset t base v items x.begun x.begun text [] out

-- the same, whatever was taken and written before
abbrev pub AnswersLast : (offset : ℕ) → (base : ℕ) → (s t : Shown) → (x : Intake) → (u v : Reporting) → (out : List ℕ) → Type 0
AnswersLast offset base s t x u v out =
    (items : List Item) (entries : List Entry) (text : List ℕ) → IsFed s base x items
    → CanReport offset s base u items x.begun x.begun entries text → IsLastAnswer offset base t x v items text out s

-- ---- the whole

-- how far lines were taken and answered, or how following ended there
abbrev pub HasFollowedLines : (offset : ℕ) → GraphValue → (bytes : List ℕ) → (ended : Bool) → (start new : Option (List ℕ)) → Shown → Position → Result Taken Ending → Type 0
HasFollowedLines offset g bytes ended start new s p (Ok how) =
    (w : IsWritten offset g s p.base p.intake p.reporting bytes p.pending.items start new)
    × Stops (shown_inputs g) bytes p.pending.items (length w.known.lines) w.known.items how
HasFollowedLines offset g bytes ended start new s p (Err e) = Follows offset g bytes ended start new (Err e)

-- the same, whatever was taken before
abbrev pub FollowsLines : (offset : ℕ) → List Input → (s t : Shown) → (p q : Position) → (old new : Option (List ℕ)) → Result Taken Ending → Type 0
FollowsLines offset inputs s t p q old new result =
    (g : GraphValue) (bytes : List ℕ) (ended : Bool) (start : Option (List ℕ)) → inputs ≡ shown_inputs g
    → IsWritten offset g s p.base p.intake p.reporting bytes p.pending.items start old → HasFollowedLines offset g bytes ended start new t q result

-- when an epoch has just begun, a new board may replace the old one
abbrev pub Renews : (offset : ℕ) → GraphValue → (s t : Shown) → (p q : Position) → Type 0
Renews offset g s t p q =
    (bytes : List ℕ) (start now : Option (List ℕ)) (w : IsWritten offset g s p.base p.intake p.reporting bytes p.pending.items start now)
    → EndsInEpoch w.known.items → IsWritten offset g t q.base q.intake q.reporting bytes q.pending.items start now

-- following goes on, or ends
abbrev pub GoesOn : (offset : ℕ) → GraphValue → (bytes : List ℕ) → (ended : Bool) → (start new : Option (List ℕ)) → Shown → Position → Result (Unit {0}) Ending → Type 0
GoesOn offset g bytes ended start new s p (Ok _) = IsPositionAfter offset g s p bytes start new
GoesOn offset g bytes ended start new s p (Err e) = Follows offset g bytes ended start new (Err e)

-- the same after a piece, from any position
abbrev pub FollowsPiece : (offset : ℕ) → GraphValue → (s t : Shown) → (p q : Position) → (piece : List ℕ)
    → (old new : Option (List ℕ)) → Result (Unit {0}) Ending → Type 0
FollowsPiece offset g s t p q piece old new result =
    (bytes : List ℕ) (ended : Bool) (start : Option (List ℕ)) → IsPositionAfter offset g s p bytes start old
    → GoesOn offset g (bytes ++ piece) ended start new t q result

-- following ends when the reader has ended
abbrev pub FollowsEnd : (offset : ℕ) → Shown → Position → (old new : Option (List ℕ)) → Result (Unit {0}) Ending → Type 0
FollowsEnd offset s p old new result =
    (g : GraphValue) (bytes : List ℕ) (ended : Bool) (start : Option (List ℕ)) → ended ≡ true
    → IsPositionAfter offset g s p bytes start old → Follows offset g bytes ended start new result
