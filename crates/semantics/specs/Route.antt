-- The worker to which a record goes. (Naiad, SOSP 2013, section 3.1: exchange by a partitioning function.)
use Rattle.std.specs.Prelude.{ℕ, ◌+◌, ◌*◌, ◌%◌, ◌^◌, Bool, true, false, [], ◌∷◌, Option, Some, None}
use Rattle.std.specs.Int.{cast_unsigned}
use mir.Syntax.{w64}
use Rattle.semantics.specs.Multiset.{Record}
use Rattle.semantics.specs.Kinds.{is_input, route_key}
use Rattle.semantics.specs.Graph.{Graph, vertex, target, in_port, edge_source}

-- for each field: 31 times the hash so far, plus the field read as an unsigned number, modulo 2^64
abbrev pub hash_from : ℕ → Record → ℕ
hash_from h [] = h
hash_from h (v ∷ vs) = hash_from ((31 * h + cast_unsigned w64 v) % 2 ^ 64) vs

-- the worker of a key, out of `workers`
unfoldable pub route : (key : Record) → (workers : ℕ) → ℕ
route key workers = hash_from 7 key % workers

-- by the key, if the edge's target has one; otherwise by the whole record from an input, and otherwise to the sender
abbrev pub home_by : Option (Record → Record) → (from_input : Bool) → (workers sender : ℕ) → Record → ℕ
home_by (Some key) from_input workers sender r = route (key r) workers
home_by None true workers sender r = route r workers
home_by None false workers sender r = sender

-- the worker to which a record goes on an edge
abbrev pub home : Graph → (workers sender edge : ℕ) → Record → ℕ
home g workers sender e r =
    home_by (route_key (vertex g (target g e)).kind (in_port g e)) (is_input (vertex g (edge_source g e).vertex).kind) workers
    sender r
