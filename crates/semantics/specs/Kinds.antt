-- The kinds of vertices, and a table of what each means to the graph: its ports, what it does to times, its route keys, its role. (Naiad, SOSP 2013,
-- sections 2.1 and 2.2: vertices, and the ingress, egress and feedback vertices of a loop context.)
use Rattle.std.specs.Prelude.{ℕ, zero, suc, Bool, true, false, List, Option, Some, None}
use Rattle.semantics.specs.Query.{Scalar, Cond, Agg, Pair}
use Rattle.semantics.specs.Multiset.{Record}
use Rattle.semantics.specs.Meaning.{project, left_columns, right_columns}
use Rattle.semantics.specs.Time.{Action}

-- A gate has the number of turns of its loop, and so has an unseen, which is the gate of a closure. A hold keeps a name from outside for that many turns. A
-- lookup is a join whose second port is read over all turns so far.
pub data Kind : Type 0 where
  input output concat distinct except intersect ingress egress feedback : Kind
  select : List Scalar → Kind
  filter : Cond → Kind
  join lookup : List Pair → Kind
  group : List ℕ → List Agg → Kind
  gate unseen hold : ℕ → Kind

-- how many in ports a kind has
abbrev pub in_ports : Kind → ℕ
in_ports Kind.input = 0
in_ports Kind.output = 1
in_ports (Kind.select ss) = 1
in_ports (Kind.filter c) = 1
in_ports Kind.concat = 2
in_ports (Kind.join ps) = 2
in_ports (Kind.lookup ps) = 2
in_ports (Kind.group ks as') = 1
in_ports Kind.distinct = 1
in_ports Kind.except = 2
in_ports Kind.intersect = 2
in_ports Kind.ingress = 1
in_ports Kind.egress = 1
in_ports Kind.feedback = 1
in_ports (Kind.gate n) = 1
in_ports (Kind.unseen n) = 1
in_ports (Kind.hold n) = 1

-- how many out ports a kind has
abbrev pub out_ports : Kind → ℕ
out_ports Kind.input = 1
out_ports Kind.output = 0
out_ports (Kind.select ss) = 1
out_ports (Kind.filter c) = 1
out_ports Kind.concat = 1
out_ports (Kind.join ps) = 1
out_ports (Kind.lookup ps) = 1
out_ports (Kind.group ks as') = 1
out_ports Kind.distinct = 1
out_ports Kind.except = 1
out_ports Kind.intersect = 1
out_ports Kind.ingress = 1
out_ports Kind.egress = 1
out_ports Kind.feedback = 1
out_ports (Kind.gate n) = 2
out_ports (Kind.unseen n) = 2
out_ports (Kind.hold n) = 2

-- what a kind does to the time of what it sends
abbrev pub action : Kind → Action
action Kind.input = Action.stay
action Kind.output = Action.stay
action (Kind.select ss) = Action.stay
action (Kind.filter c) = Action.stay
action Kind.concat = Action.stay
action (Kind.join ps) = Action.stay
action (Kind.lookup ps) = Action.stay
action (Kind.group ks as') = Action.stay
action Kind.distinct = Action.stay
action Kind.except = Action.stay
action Kind.intersect = Action.stay
action Kind.ingress = Action.enter
action Kind.egress = Action.leave
action Kind.feedback = Action.next
action (Kind.gate n) = Action.stay
action (Kind.unseen n) = Action.stay
action (Kind.hold n) = Action.stay

-- the route key of a record that comes in at a port, for the kinds that need records of equal keys on one worker
abbrev pub route_key : Kind → (port : ℕ) → Option (Record → Record)
route_key Kind.input port = None
route_key Kind.output port = None
route_key (Kind.select ss) port = None
route_key (Kind.filter c) port = None
route_key Kind.concat port = None
route_key (Kind.join ps) zero = Some (project (left_columns ps))
route_key (Kind.join ps) (suc port) = Some (project (right_columns ps))
route_key (Kind.lookup ps) zero = Some (project (left_columns ps))
route_key (Kind.lookup ps) (suc port) = Some (project (right_columns ps))
route_key (Kind.group ks as') port = Some (project ks)
route_key Kind.distinct port = Some (λ r. r)
route_key Kind.except port = Some (λ r. r)
route_key Kind.intersect port = Some (λ r. r)
route_key Kind.ingress port = None
route_key Kind.egress port = None
route_key Kind.feedback port = None
route_key (Kind.gate n) port = None
route_key (Kind.unseen n) port = Some (λ r. r)
route_key (Kind.hold n) port = None

-- it also reads what came to its last port in the earlier turns of its loop
abbrev pub looks_back : Kind → Bool
looks_back Kind.input = false
looks_back Kind.output = false
looks_back (Kind.select ss) = false
looks_back (Kind.filter c) = false
looks_back Kind.concat = false
looks_back (Kind.join ps) = false
looks_back (Kind.lookup ps) = true
looks_back (Kind.group ks as') = false
looks_back Kind.distinct = false
looks_back Kind.except = false
looks_back Kind.intersect = false
looks_back Kind.ingress = false
looks_back Kind.egress = false
looks_back Kind.feedback = false
looks_back (Kind.gate n) = false
looks_back (Kind.unseen n) = true
looks_back (Kind.hold n) = false

-- a turn of a loop ends at this kind: what comes in leaves the loop, or goes to its next turn
abbrev pub ends_turn : Kind → Bool
ends_turn Kind.input = false
ends_turn Kind.output = false
ends_turn (Kind.select ss) = false
ends_turn (Kind.filter c) = false
ends_turn Kind.concat = false
ends_turn (Kind.join ps) = false
ends_turn (Kind.lookup ps) = false
ends_turn (Kind.group ks as') = false
ends_turn Kind.distinct = false
ends_turn Kind.except = false
ends_turn Kind.intersect = false
ends_turn Kind.ingress = false
ends_turn Kind.egress = true
ends_turn Kind.feedback = true
ends_turn (Kind.gate n) = false
ends_turn (Kind.unseen n) = false
ends_turn (Kind.hold n) = false

-- the kind is an input
abbrev pub is_input : Kind → Bool
is_input Kind.input = true
is_input Kind.output = false
is_input (Kind.select ss) = false
is_input (Kind.filter c) = false
is_input Kind.concat = false
is_input (Kind.join ps) = false
is_input (Kind.lookup ps) = false
is_input (Kind.group ks as') = false
is_input Kind.distinct = false
is_input Kind.except = false
is_input Kind.intersect = false
is_input Kind.ingress = false
is_input Kind.egress = false
is_input Kind.feedback = false
is_input (Kind.gate n) = false
is_input (Kind.unseen n) = false
is_input (Kind.hold n) = false

-- the kind is an output
abbrev pub is_output : Kind → Bool
is_output Kind.input = false
is_output Kind.output = true
is_output (Kind.select ss) = false
is_output (Kind.filter c) = false
is_output Kind.concat = false
is_output (Kind.join ps) = false
is_output (Kind.lookup ps) = false
is_output (Kind.group ks as') = false
is_output Kind.distinct = false
is_output Kind.except = false
is_output Kind.intersect = false
is_output Kind.ingress = false
is_output Kind.egress = false
is_output Kind.feedback = false
is_output (Kind.gate n) = false
is_output (Kind.unseen n) = false
is_output (Kind.hold n) = false

-- How a vertex answers what comes in. An input has no in port. A stateless vertex sends what its equation makes of each message. A stateful one
-- absorbs the message, and sends what its equation gains by it. A notified one absorbs it, and sends when it is notified that no more can come at
-- that time. An output sends nothing.
pub data Role : Type 0 where
  input stateless stateful notified output : Role

-- how each kind answers
abbrev pub role : Kind → Role
role Kind.input = Role.input
role Kind.output = Role.output
role (Kind.select ss) = Role.stateless
role (Kind.filter c) = Role.stateless
role Kind.concat = Role.stateless
role (Kind.join ps) = Role.stateful
role (Kind.lookup ps) = Role.notified
role (Kind.group ks as') = Role.notified
role Kind.distinct = Role.stateful
role Kind.except = Role.notified
role Kind.intersect = Role.stateful
role Kind.ingress = Role.stateless
role Kind.egress = Role.stateless
role Kind.feedback = Role.stateless
role (Kind.gate n) = Role.stateless
role (Kind.unseen n) = Role.notified
role (Kind.hold n) = Role.stateless
