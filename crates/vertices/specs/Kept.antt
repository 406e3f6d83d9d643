-- What a shard keeps of what comes. It keeps the different records of a time, each with a count; contracts speak of the records with their repeats.
use Rattle.std.specs.Prelude.{ℕ, zero, suc, cond, ◌==◌, List, [], ◌++◌}
use Rattle.semantics.specs.Multiset.{Record}
use Rattle.semantics.specs.Time.{Time}
use Rattle.semantics.specs.Kinds.{Role}
use Rattle.semantics.specs.Shard.{Absorbed}

-- of two, what is a port's
abbrev pub by_port : {A : Type 0} → (left right : A) → (port : ℕ) → A
by_port left right zero = left
by_port left right (suc port) = right

-- the records by port, with these more at one port
abbrev pub more_at : (ℕ → List Record) → (port : ℕ) → List Record → (ℕ → List Record)
more_at f p records p' = f p' ++ cond (p == p') records []

-- a vertex of that role keeps a state for each time
abbrev pub HasState : Role → Type 0
HasState Role.input = ⊥
HasState Role.stateless = ⊥
HasState Role.stateful = Unit {0}
HasState Role.notified = Unit {0}
HasState Role.output = ⊥

-- what a vertex of that role then keeps of a port at a time: what it had absorbed there, and the records; nothing where it absorbs nothing
abbrev pub kept_by : Role → Absorbed → (port : ℕ) → Time → List Record → List Record
kept_by Role.input a p t records = []
kept_by Role.stateless a p t records = []
kept_by Role.stateful a p t records = a p t ++ records
kept_by Role.notified a p t records = a p t ++ records
kept_by Role.output a p t records = []
