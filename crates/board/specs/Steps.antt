-- What each call does.
use Rattle.std.specs.Prelude.{ℕ, ◌+◌, zero, suc, true, List, [], ◌∷◌, ◌++◌, Option, Some, None, slice_set, remove}
use Rattle.semantics.specs.Multiset.{Record}
use Rattle.machine.specs.World.{Message, Request}
use Rattle.machine.specs.Processing.{event_time}
use Rattle.vertices.specs.declared.shard.Shard.{Shard}
use Rattle.tokens.specs.declared.rule.Place.TheVariants.{Home, Out, Lost}
use Rattle.graph.specs.Shown.{shown_graph}
use Rattle.events.specs.Jobs.{Job}
use Rattle.events.specs.Happenings.{requests_of}
use Rattle.events.specs.declared.letter.Letter.{Letter}
use Rattle.board.specs.Shown.{Shown, Side, InputShown, Epochs, input_at, side_at, side_in, emitted_by, event_at}

abbrev pub with_input : Shown → ℕ → InputShown → Shown
with_input s i x = record s { inputs = slice_set s.inputs i x }

abbrev pub with_side : Shown → ℕ → Side → Shown
with_side s k x = record s { sides = slice_set s.sides k x }

abbrev pub after_seal : Shown → (input : ℕ) → Shown
after_seal s i = with_input s i (record (input_at s i) { open_epoch = (input_at s i).open_epoch + 1 })

abbrev pub after_close : Shown → (input : ℕ) → Shown
after_close s i = with_input s i (record (input_at s i) { closed = true })

-- the event goes out with its shard, and its cause is removed from the mailbox or the requests
abbrev pub out_with : Side → (vertex : ℕ) → Job → Side
out_with x v j = record x { place = Out j; shards = slice_set x.shards v None }

abbrev pub after_claim_message : Shown → (worker at : ℕ) → Job → Shown
after_claim_message s k at j =
    with_side s k (out_with (record (side_at s k) { mail = remove (side_at s k).mail at }) (event_at (shown_graph s.graph) j.happening) j)

abbrev pub after_claim_request : Shown → (worker at : ℕ) → Job → Shown
after_claim_request s k at j =
    with_side s k (out_with (record (side_at s k) { requests = remove (side_at s k).requests at }) (event_at (shown_graph s.graph) j.happening) j)

abbrev pub with_mail : Side → Message → Side
with_mail x m = record x { mail = x.mail ++ m ∷ [] }

-- a letter's message is in its worker's mailbox
abbrev pub with_letter : List Side → Letter → List Side
with_letter xs o = slice_set xs o.to (with_mail (side_in xs o.to) o.message)

-- the same for all of them
abbrev pub delivered : List Side → List Letter → List Side
delivered xs [] = xs
delivered xs (o ∷ os) = delivered (with_letter xs o) os

-- more batches at the end of the entry e, which is made if it is missing
abbrev pub more_at : ℕ → List (List Record) → Epochs → Epochs
more_at zero bs [] = bs ∷ []
more_at zero bs (x ∷ xs) = (x ++ bs) ∷ xs
more_at (suc e) bs [] = [] ∷ more_at e bs []
more_at (suc e) bs (x ∷ xs) = x ∷ more_at e bs xs

-- one more batch of a vertex, if there is one
abbrev pub with_emitted : (vertex epoch : ℕ) → Option (List Record) → List Epochs → List Epochs
with_emitted v e None es = es
with_emitted v e (Some b) es = slice_set es v (more_at e (b ∷ []) (emitted_by es v))

-- the shard is back at home, and the request that was made is stored
abbrev pub settled : Side → (vertex : ℕ) → Shard → Option Request → Side
settled x v shard asked = record x { place = Home; shards = slice_set x.shards v (Some shard); requests = x.requests ++ requests_of asked }

-- a worker's event has ended, and what it sends is delivered
abbrev pub sides_after_commit : List Side → (worker vertex : ℕ) → Shard → List Letter → Option Request → List Side
sides_after_commit xs k v shard outgoing asked = delivered (slice_set xs k (settled (side_in xs k) v shard asked)) outgoing

abbrev pub after_commit : Shown → (worker : ℕ) → Job → Shard → List Letter → Option (List Record) → Option Request → Shown
after_commit s k j shard outgoing emitted asked =
    record s {
      sides = sides_after_commit s.sides k (event_at (shown_graph s.graph) j.happening) shard outgoing asked;
      emitted = with_emitted (event_at (shown_graph s.graph) j.happening) (event_time j.happening).epoch emitted s.emitted;
    }

abbrev pub after_feed : Shown → (input : ℕ) → List Record → List Letter → Shown
after_feed s i batch outgoing =
    record s {
      inputs = slice_set s.inputs i (record (input_at s i) { fed = more_at (input_at s i).open_epoch (batch ∷ []) (input_at s i).fed });
      sides = delivered s.sides outgoing;
    }

abbrev pub after_abandon : Shown → (worker : ℕ) → Job → Shown
after_abandon s k j = record (with_side s k (record (side_at s k) { place = Lost j })) { stopped = true }
