-- What a vertex sends, cut into messages for the workers. (Naiad, SOSP 2013, section 3.1: exchange.)
use Rattle.std.specs.Prelude.{ℕ, zero, suc, cond, ◌==◌, List, [], ◌∷◌, ◌++◌, filter}
use Rattle.semantics.specs.Multiset.{Record}
use Rattle.semantics.specs.Time.{Time, same_time}
use Rattle.machine.specs.Network.{Network}
use Rattle.machine.specs.World.{Message, World}

-- one message, or none if there are no records: no message is empty
abbrev pub as_message : (edge : ℕ) → Time → List Record → List Message
as_message e u [] = []
as_message e u (r ∷ records) = record { edge = e; time = u; records = r ∷ records } ∷ []

-- The messages for the worker `to` of what a vertex sends at u, on the edges below e, in order: on each edge one message with the records that go to
-- this worker, if there are any. `out` is what the vertex sends, by out port, and `sender` is the worker that sends it.
abbrev pub parcels : Network → (sender vertex : ℕ) → Time → (out : ℕ → List Record) → (to e : ℕ) → List Message
parcels g sender v u out to zero = []
parcels g sender v u out to (suc e) =
    parcels g sender v u out to e
    ++ cond (g.source e == v) (as_message e u (filter (λ r. g.home sender e r == to) (out (g.out_port e)))) []

-- a worker's mailbox, plus what a vertex sent at u
abbrev pub mail_after : Network → World → (sender vertex : ℕ) → Time → (out : ℕ → List Record) → (worker : ℕ) → List Message
mail_after g w sender v u out to = w.mail to ++ parcels g sender v u out to g.edges

-- what was sent, plus what a vertex sent at u
abbrev pub sent_after : Network → World → (vertex : ℕ) → Time → (out : ℕ → List Record) → (edge : ℕ) → Time → List Record
sent_after g w v u out e t = w.sent e t ++ cond (g.source e == v) (cond (same_time u t) (out (g.out_port e)) []) []
