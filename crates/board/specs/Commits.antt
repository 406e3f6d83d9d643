-- What a commit does.
use Rattle.std.specs.Prelude.{◌≡◌, ◌+◌, ℕ, List, length, Some, slice_get}
use Rattle.semantics.specs.Multiset.{Record}
use Rattle.views.specs.Content.{times_in}
use Rattle.semantics.specs.Time.{at_epoch}
use Rattle.graph.specs.Shown.{shown_graph}
use Rattle.machine.specs.Engine.{network}
use Rattle.events.specs.Letters.{AreParcels}
use Rattle.events.specs.declared.letter.Letter.{Letter}
use Rattle.semantics.specs.Could.{Pointstamp}
use Rattle.machine.specs.Active.{one_if_same, event_pointstamp}
use Rattle.tokens.specs.declared.rule.Place.TheVariants.{Out}
use Rattle.events.specs.Happenings.{requests_of}
use Rattle.events.specs.Jobs.{Pass}
use Rattle.events.specs.Outputs.{IsOutputOf}
use Rattle.events.specs.declared.work.Output.{Output}
use Rattle.board.specs.WorkerShown.{letters_count, requests_count}
use Rattle.board.specs.Shown.{Shown, input_at, side_at, tables}
use Rattle.board.specs.Steps.{after_commit, after_feed}

-- the event is one of this board's
abbrev pub IsOf : Shown → Pass → Type 0
IsOf s p = slice_get (tables s) p.worker ≡ Some p.table

-- the same in terms of the code: `added` are the pointstamps that become active, and `place` is the event's
pub record SettlesBy (s t : Shown) (added : List Pointstamp) (place : Pointstamp) (p : Pass) : Type 0 where
  pub out : (side_at s p.worker).place ≡ Out p.job
  pub output : Output
  pub is : IsOutputOf p.worker p.job output
  pub state : t ≡ after_commit s p.worker p.job output.shard.value output.sent.items output.emitted output.asked
  pub added_are : (q : Pointstamp) → times_in added q ≡ letters_count q output.sent.items + requests_count q (requests_of output.asked)
  pub place_is : place ≡ event_pointstamp p.job.happening

-- the event was out, its output is what it leaves, and what is active changes by its pointstamps
pub record Settles (s t : Shown) (before after : Pointstamp → ℕ) (p : Pass) : Type 0 where
  pub out : (side_at s p.worker).place ≡ Out p.job
  pub output : Output
  pub is : IsOutputOf p.worker p.job output
  pub state : t ≡ after_commit s p.worker p.job output.shard.value output.sent.items output.emitted output.asked
  pub content : (q : Pointstamp) → after q + one_if_same q (event_pointstamp p.job.happening)
      ≡ letters_count q output.sent.items + requests_count q (requests_of output.asked) + before q

-- the records were fed, and their messages' pointstamps are active
pub record Feeds (s t : Shown) (before after : Pointstamp → ℕ) (input : ℕ) (batch : List Record) : Type 0 where
  pub letters : List Letter
  pub parcels : AreParcels (network (shown_graph s.graph) (length s.sides)) 0 input (at_epoch (input_at s input).open_epoch) (λ q. batch) letters
  pub state : t ≡ after_feed s input batch letters
  pub content : (q : Pointstamp) → after q ≡ letters_count q letters + before q

-- the same in terms of the code: `added` are the messages' pointstamps
pub record FeedsBy (s t : Shown) (added : List Pointstamp) (input : ℕ) (batch : List Record) : Type 0 where
  pub letters : List Letter
  pub parcels : AreParcels (network (shown_graph s.graph) (length s.sides)) 0 input (at_epoch (input_at s input).open_epoch) (λ q. batch) letters
  pub state : t ≡ after_feed s input batch letters
  pub added_are : (q : Pointstamp) → times_in added q ≡ letters_count q letters
  pub as_many : length added ≡ length letters
