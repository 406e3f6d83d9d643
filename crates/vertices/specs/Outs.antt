-- What is sent for one event.
use Rattle.std.specs.Prelude.{ℕ, zero, suc, Bool, List, Option, ◌⊎◌}
use Rattle.rows.specs.Counts.{IsOver, records_in}
use Rattle.semantics.specs.Kinds.{Kind, role, in_ports, out_ports}
use Rattle.semantics.specs.Multiset.{Record, end_to_end}
use Rattle.semantics.specs.Op.{op, reads}
use Rattle.semantics.specs.Shard.{Absorbed, SendsAtNotification, SendsBy, absorbed_by, asks}
use Rattle.semantics.specs.Time.{Time}
use Rattle.vertices.specs.Kept.{kept_by}
use Rattle.vertices.specs.declared.out.Out.{Out}

-- the records of a batch, if there is one
abbrev pub records_of : Option (List Record) → List Record
records_of batch = records_in batch

-- by two out ports
abbrev pub two : Out → (port : ℕ) → List Record
two out zero = records_of out.first
two out (suc port) = records_of out.second

-- The same for a kind of that many out ports: beyond its last out port, its equation has what it has at the last one.
abbrev pub sent : (ports : ℕ) → Out → (port : ℕ) → List Record
sent zero out port = records_of out.first
sent (suc zero) out port = records_of out.first
sent (suc (suc ports)) out port = two out port

-- what a shard of that kind would send, by out port, for records that come to a port at a time, where it had absorbed a
abbrev pub Sends : Kind → Time → Absorbed → (port : ℕ) → List Record → (ℕ → List Record) → Type 0
Sends kind t a port records would =
    SendsBy (role kind) (λ q ins. op kind t ins q) (λ p. a p t) (λ p. absorbed_by (role kind) a port t records p t) port records would

-- what it sends
abbrev pub SendsFor : Kind → Time → Absorbed → (port : ℕ) → List Record → Out → Type 0
SendsFor kind t a port records out = Sends kind t a port records (sent (out_ports kind) out)

-- some out port would send a record too often
abbrev pub WouldSendOver : Kind → Time → Absorbed → (port : ℕ) → List Record → Type 0
WouldSendOver kind t a port records = (would : ℕ → List Record) × Sends kind t a port records would × (q : ℕ) × IsOver (would q)

-- a shard of that kind would then keep a record too often, or send one too often
abbrev pub GoesOver : Kind → Time → Absorbed → (port : ℕ) → List Record → Type 0
GoesOver kind t a port records = IsOver (kept_by (role kind) a port t records) ⊎ WouldSendOver kind t a port records

-- what it sends at its notification of a time
abbrev pub SendsForNotification : Kind → Time → Absorbed → Out → Type 0
SendsForNotification kind t a out = SendsAtNotification (λ q ins. op kind t ins q) (reads kind a t) (sent (out_ports kind) out)

-- some out port would send a record too often at the notification of a time
abbrev pub WouldNotifyOver : Kind → Time → Absorbed → Type 0
WouldNotifyOver kind t a = (would : ℕ → List Record) × SendsAtNotification (λ q ins. op kind t ins q) (reads kind a t) would × (q : ℕ) × IsOver (would q)

-- whether it asks for a notification when records of a time come
abbrev pub asks_at : Kind → Time → Absorbed → Bool
asks_at kind t a = asks (role kind) (end_to_end (λ p. a p t) (in_ports kind))
