-- What a schedule does to the engine's world and to the workers' views, line by line, and what it prints.
use Rattle.std.specs.Prelude.{◌≡◌, ◌<◌, ◌≤◌, ◌⊎◌, ℕ, suc, ◌+◌, ℤ, true, false, List, [], ◌∷◌, ◌++◌, length, codes, decimal}
use Rattle.std.specs.List.{flat_map}
use Rattle.record_core.specs.Records.{IsRecord}
use Rattle.semantics.specs.Multiset.{Record, IsPartOf, ◌≈◌}
use Rattle.semantics.specs.Query.{Input, Name, Program}
use Rattle.semantics.specs.Typing.{WellTyped}
use Rattle.semantics.specs.Graph.{Graph, output_number}
use Rattle.semantics.specs.Lower.{lowered}
use Rattle.machine.specs.Network.{Network}
use Rattle.machine.specs.World.{World, Event, Held}
use Rattle.machine.specs.Step.{Step, Allowed, after_step}
use Rattle.machine.specs.Choices.{Chooses, IsClaimBy}
use Rattle.machine.specs.Frontier.{Passed}
use Rattle.machine.specs.Engine.{network}
use Rattle.machine.specs.Headline.{meant}
use Rattle.board.specs.Overflow.{Overflows}
use Rattle.collector.specs.Lines.{IsInput, IsAbsent, MakeRecord}
use Rattle.collector.specs.OutputText.{IsInOrder, is_plain, label_of, record_line}
use Rattle.schedule.specs.Commands.{Command}
use Rattle.schedule.specs.declared.verb.ViewKind.{ViewKind}
use Rattle.replay.specs.Waits.{SeesAll, State, TellsMore, Told, Waits, posted, waiting_now}

-- what a schedule runs on: a graph, the number of workers and their kind of view, and the graph's inputs and the names of its outputs, in order
pub record Setting : Type 0 where
  pub graph : Graph
  pub workers : ℕ
  pub views : ViewKind
  pub inputs : List Input
  pub outputs : List Name

abbrev pub net_of : Setting → Network
net_of s = network s.graph s.workers

-- the setting's graph is that of this well-typed program
pub record IsGraphOf (s : Setting) (p : Program) : Type 0 where
  pub arities : List ℕ
  pub typed : WellTyped p arities
  pub graph : s.graph ≡ lowered p

-- ---- refusals: each has a code, and the first in the order written here counts

-- of every call on an input: the engine is stopped; no input has the name; the input is closed
pub data RefusesInput (s : Setting) (w : World) (name : List ℕ) : (code : ℕ) → Type 0 where
  is_stopped : w.stopped ≡ true → RefusesInput s w name 37
  is_unknown : w.stopped ≡ false → IsAbsent s.inputs name → RefusesInput s w name 32
  is_closed : (i arity : ℕ) → w.stopped ≡ false → IsInput s.inputs name i arity → w.closed i ≡ true → RefusesInput s w name 31

-- of a feed: the same, then the fields make no record of the input
pub data RefusesFeed (s : Setting) (w : World) (name : List ℕ) (fields : List ℤ) : (code : ℕ) → Type 0 where
  feed_input : (code : ℕ) → RefusesInput s w name code → RefusesFeed s w name fields code
  misfit : (i arity : ℕ) → w.stopped ≡ false → IsInput s.inputs name i arity → w.closed i ≡ false
      → (MakeRecord arity fields → ⊥) → RefusesFeed s w name fields 33

-- of a seal: the same, then the open epoch is the last one
pub data RefusesSeal (s : Setting) (w : World) (name : List ℕ) : (code : ℕ) → Type 0 where
  seal_input : (code : ℕ) → RefusesInput s w name code → RefusesSeal s w name code
  last_epoch : (i arity : ℕ) → w.stopped ≡ false → IsInput s.inputs name i arity → w.closed i ≡ false → w.open_epoch i ≡ 4294967295 → RefusesSeal s w name 38

-- the worker sees everything that was posted
abbrev pub SeesAllOf : Setting → State → (worker : ℕ) → Type 0
SeesAllOf s x worker = SeesAll s.views s.workers x.waits worker

-- which choice has that number is known for sure: it is a message, for which no view counts; or the worker sees everything that was posted
abbrev pub KnowsChoice : Setting → State → (worker choice : ℕ) → Type 0
KnowsChoice s x worker choice = (choice < length (x.world.mail worker)) ⊎ SeesAllOf s x worker

-- the worker takes an event that it may take: its choice of that number, where that is known
pub record Takes (s : Setting) (x : State) (worker choice : ℕ) (taken : Step) : Type 0 where
  pub claims : IsClaimBy worker taken
  pub chosen : KnowsChoice s x worker choice → Chooses (net_of s) x.world worker choice taken
  pub allowed : Allowed (net_of s) x.world taken

-- Of a pick: the engine is stopped; the worker holds an event; it doesn't exist, or has no such choice. A worker that doesn't see everything that was
-- posted may see fewer of its notifications than there are, but it has all of its messages.
pub data RefusesPick (s : Setting) (x : State) (worker choice : ℕ) : (code : ℕ) → Type 0 where
  pick_stopped : x.world.stopped ≡ true → RefusesPick s x worker choice 37
  holds_event : x.world.stopped ≡ false → worker < s.workers → (x.world.held worker ≡ Held.nothing → ⊥) → RefusesPick s x worker choice 35
  no_choice : x.world.stopped ≡ false → (worker < s.workers → x.world.held worker ≡ Held.nothing)
      → (KnowsChoice s x worker choice → (taken : Step) → Takes s x worker choice taken → ⊥) → RefusesPick s x worker choice 34

-- the worker doesn't exist, or holds no event, or one that was abandoned
abbrev pub HasNothingHeld : Setting → World → (worker : ℕ) → Type 0
HasNothingHeld s w worker = (event : Event) → worker < s.workers → w.held worker ≡ Held.holding false event → ⊥

-- the event that the worker holds once it has taken it can be computed: no count of what its shard absorbs, or of what it sends, is too large
abbrev pub IsComputable : Setting → State → (worker : ℕ) → (taken : Step) → Type 0
IsComputable s x worker taken = (event : Event) → (after_step (net_of s) x.world taken).held worker ≡ Held.holding false event
    → Overflows s.graph (after_step (net_of s) x.world taken) worker event → ⊥

-- The worker takes an event that it may take, and abandons it, which stops the engine: computing it is refused, since a count of what its shard
-- would have absorbed, or of what it would send, would be above 9223372036854775807.
pub record Abandons (s : Setting) (x : State) (worker choice : ℕ) (taken : Step) (event : Event) : Type 0 where
  pub takes : Takes s x worker choice taken
  pub over : Overflows s.graph (after_step (net_of s) x.world taken) worker event
  pub allowed : Allowed (net_of s) (after_step (net_of s) x.world taken) (Step.abandon worker event)

-- ---- what is printed

abbrev pub refusal_line : ℕ → List ℕ
refusal_line code = codes "refused " ++ decimal code ++ 10 ∷ []

-- Whether an epoch has passed at an output, with the word for it. It also counts as open if it has passed and worker 0 doesn't see that yet, as long
-- as it was never said to have passed.
pub data HasWord (s : Setting) (x : State) (output epoch : ℕ) : (word : List ℕ) → Type 0 where
  has_passed : x.told output epoch ≡ true → Passed (net_of s) x.world (output_number s.graph output) epoch → HasWord s x output epoch (codes " passed")
  is_open : x.told output epoch ≡ false → (SeesAllOf s x 0 → Passed (net_of s) x.world (output_number s.graph output) epoch → ⊥) → HasWord s x output epoch (codes " open")

-- the line of an epoch, a label and a word
abbrev pub heading : ℕ → (label word : List ℕ) → List ℕ
heading epoch label word = codes "epoch " ++ (decimal epoch ++ (label ++ (word ++ 10 ∷ [])))

-- the records that were emitted at an output for an epoch
abbrev pub answer_of : Setting → World → (output epoch : ℕ) → List Record
answer_of s w output epoch = w.emitted (output_number s.graph output) epoch

-- the answer at an output for an epoch so far is part of what the program means there on what was fed for it, and all of it once the epoch has passed
pub record KeepsPromise (s : Setting) (w : World) (output epoch : ℕ) (p : Program) : Type 0 where
  pub part : IsPartOf (answer_of s w output epoch) (meant p w output epoch)
  pub whole : Passed (net_of s) w (output_number s.graph output) epoch → answer_of s w output epoch ≈ meant p w output epoch

-- a line that says whether the epoch has passed at an output, and the answer there so far, one record a line, in order
pub record PrintsOutput (s : Setting) (x : State) (epoch output : ℕ) (label text : List ℕ) : Type 0 where
  pub word : List ℕ
  pub says : HasWord s x output epoch word
  pub rows : List Record
  pub ordered : IsInOrder (answer_of s x.world output epoch) rows
  pub lines : text ≡ heading epoch label word ++ flat_map record_line rows
  pub promise : (p : Program) → IsGraphOf s p → KeepsPromise s x.world output epoch p

-- the same for each output of these names, from a place on
abbrev pub PrintsFrom : Setting → State → (epoch : ℕ) → (names : List Name) → (output : ℕ) → (text : List ℕ) → Type 0
PrintsFrom s x epoch [] output text = text ≡ []
PrintsFrom s x epoch (name ∷ names) output text =
    (first rest : List ℕ) × PrintsOutput s x epoch output (label_of (is_plain s.outputs) name) first
    × PrintsFrom s x epoch names (output + 1) rest × (text ≡ first ++ rest)

-- the same for all outputs
abbrev pub PrintsAnswer : Setting → State → (epoch : ℕ) → (text : List ℕ) → Type 0
PrintsAnswer s x epoch text = PrintsFrom s x epoch s.outputs 0 text

-- ---- what a line does

-- no message came to a worker between these worlds
abbrev pub NothingCame : Setting → (before after : World) → Type 0
NothingCame s before after = (worker : ℕ) → worker < s.workers → after.mail worker ≡ before.mail worker

-- A feed posts a batch; its sender is the number of workers. It may post none if none of its records comes to a worker.
abbrev pub FeedPosts : Setting → (before after : State) → Type 0
FeedPosts s before after = (after.waits ≡ posted s.views s.workers before.waits) ⊎ ((after.waits ≡ before.waits) × NothingCame s before.world after.world)

-- the state after a step by which a sender posts a batch
abbrev pub after_posting : Setting → State → Step → (by : ℕ) → State
after_posting s x taken by = record { world = after_step (net_of s) x.world taken; waits = posted s.views by x.waits; told = x.told }

-- the state after a step that posts nothing
abbrev pub after_taking : Setting → State → Step → State
after_taking s x taken = record { world = after_step (net_of s) x.world taken; waits = x.waits; told = x.told }

-- the state after an event was taken and abandoned
abbrev pub after_abandoning : Setting → State → (taken : Step) → (worker : ℕ) → Event → State
after_abandoning s x taken worker event = after_taking s (after_taking s x taken) (Step.abandon worker event)

-- the state after a question
abbrev pub after_saying : State → Told → State
after_saying x told = record { world = x.world; waits = x.waits; told = told }

-- no batch of the sender waits for the worker, or one of them doesn't exist
abbrev pub HasNothingWaiting : Setting → State → (worker sender : ℕ) → Type 0
HasNothingWaiting s x worker sender = worker < s.workers → sender ≤ s.workers → x.waits worker sender ≡ 0

-- From the state x the command prints this text and leaves this state: the one after the engine's step that it names; or x itself; or the one after
-- the event that it took is abandoned and the engine stopped; or one with one batch fewer waiting; or one in which more was said to have passed.
pub data Does (s : Setting) (x : State) : Command → State → (text : List ℕ) → Type 0 where
  does_feed : (name : List ℕ) (fields : List ℤ) (i : ℕ) (waits : Waits) → IsInput s.inputs name i (length fields)
      → IsRecord fields → Allowed (net_of s) x.world (Step.feed i (fields ∷ []))
      → FeedPosts s x (record { world = after_step (net_of s) x.world (Step.feed i (fields ∷ [])); waits = waits; told = x.told })
      → Does s x (Command.feed name fields) (record { world = after_step (net_of s) x.world (Step.feed i (fields ∷ [])); waits = waits; told = x.told }) []
  feed_refused : (name : List ℕ) (fields : List ℤ) (code : ℕ) → RefusesFeed s x.world name fields code
      → Does s x (Command.feed name fields) x (refusal_line code)
  does_seal : (name : List ℕ) (i arity : ℕ) → IsInput s.inputs name i arity → Allowed (net_of s) x.world (Step.seal i)
      → Does s x (Command.seal name) (after_posting s x (Step.seal i) s.workers) []
  seal_refused : (name : List ℕ) (code : ℕ) → RefusesSeal s x.world name code → Does s x (Command.seal name) x (refusal_line code)
  does_close : (name : List ℕ) (i arity : ℕ) → IsInput s.inputs name i arity → Allowed (net_of s) x.world (Step.close i)
      → Does s x (Command.close name) (after_posting s x (Step.close i) s.workers) []
  close_refused : (name : List ℕ) (code : ℕ) → RefusesInput s x.world name code → Does s x (Command.close name) x (refusal_line code)
  does_take : (worker choice : ℕ) (taken : Step) → Takes s x worker choice taken → IsComputable s x worker taken
      → Does s x (Command.take worker choice) (after_taking s x taken) []
  take_refused : (worker choice code : ℕ) → RefusesPick s x worker choice code → Does s x (Command.take worker choice) x (refusal_line code)
  take_abandons : (worker choice : ℕ) (taken : Step) (event : Event) → Abandons s x worker choice taken event
      → Does s x (Command.take worker choice) (after_abandoning s x taken worker event) (refusal_line 39)
  does_commit : (worker : ℕ) (event : Event) (out : ℕ → List Record) → Allowed (net_of s) x.world (Step.commit worker event out)
      → Does s x (Command.commit worker) (after_posting s x (Step.commit worker event out) worker) []
  commit_refused : (worker : ℕ) → HasNothingHeld s x.world worker → Does s x (Command.commit worker) x (refusal_line 36)
  does_deliver : (worker choice : ℕ) (taken : Step) (event : Event) (out : ℕ → List Record) → Takes s x worker choice taken → IsComputable s x worker taken
      → Allowed (net_of s) (after_step (net_of s) x.world taken) (Step.commit worker event out)
      → Does s x (Command.deliver worker choice) (after_posting s (after_taking s x taken) (Step.commit worker event out) worker) []
  deliver_refused : (worker choice code : ℕ) → RefusesPick s x worker choice code → Does s x (Command.deliver worker choice) x (refusal_line code)
  deliver_abandons : (worker choice : ℕ) (taken : Step) (event : Event) → Abandons s x worker choice taken event
      → Does s x (Command.deliver worker choice) (after_abandoning s x taken worker event) (refusal_line 39)
  does_print : (epoch : ℕ) (told : Told) (text : List ℕ) → TellsMore x.told told → PrintsAnswer s (after_saying x told) epoch text
      → Does s x (Command.print epoch) (after_saying x told) text
  does_apply : (worker sender rest : ℕ) → worker < s.workers → sender ≤ s.workers → x.waits worker sender ≡ suc rest
      → Does s x (Command.apply worker sender) (record { world = x.world; waits = waiting_now x.waits worker sender rest; told = x.told }) []
  apply_refused : (worker sender : ℕ) → HasNothingWaiting s x worker sender → Does s x (Command.apply worker sender) x (refusal_line 40)

-- the commands lead from the state x, one after another, and print this text
pub data Replays (s : Setting) (x : State) : List Command → State → (text : List ℕ) → Type 0 where
  replays_nothing : Replays s x [] x []
  replays_more : (commands : List Command) (command : Command) (y z : State) (before text : List ℕ) → Replays s x commands y before
      → Does s y command z text → Replays s x (commands ++ command ∷ []) z (before ++ text)
