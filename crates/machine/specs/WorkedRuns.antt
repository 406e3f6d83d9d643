-- Small runs of the engine that are computed, to check the definitions.
use Rattle.std.specs.Prelude.{ℕ, List, [], ◌∷◌, ◌++◌, pos}
use Rattle.semantics.specs.Multiset.{Record}
use Rattle.semantics.specs.Time.{at_epoch}
use Rattle.semantics.specs.Query.{Agg, Rel, Program}
use Rattle.semantics.specs.Examples.{name_a, input_of, one_field, two_fields, query_on, in_a_alone, in_a_and_b, small_and_all}
use Rattle.machine.specs.Network.{Network}
use Rattle.machine.specs.World.{Message, Request, Event, World}
use Rattle.machine.specs.Step.{Step, after_step}
use Rattle.machine.specs.Engine.{engine}

-- the world after some steps
abbrev pub after_steps : Network → World → List Step → World
after_steps g w [] = w
after_steps g w (step ∷ steps) = after_steps g (after_step g w step) steps

-- a message on an edge in epoch 0
abbrev pub message_on : (edge : ℕ) → List Record → Message
message_on e records = record { edge = e; time = at_epoch 0; records = records }

-- a vertex sends nothing
abbrev pub nothing_sent : ℕ → List Record
nothing_sent q = []

-- ---- input a/1; output a;

abbrev pub copying : Program
copying = query_on (input_of name_a 1) (Rel.named name_a)

-- its engine on one worker
abbrev pub copier : Network
copier = engine copying 1

-- the message of the record 5
abbrev pub the_five : Message
the_five = message_on 0 (one_field (pos 5) ∷ [])

-- the record 5 is fed
abbrev pub one_fed : List Step
one_fed = Step.feed 0 (one_field (pos 5) ∷ []) ∷ []

-- the record 5 is fed, and the output's worker claims and commits it
abbrev pub one_record : List Step
one_record = Step.feed 0 (one_field (pos 5) ∷ []) ∷ Step.claim_message 0 0 the_five ∷ Step.commit 0 (Event.arrival the_five) nothing_sent ∷ []

-- then the input is sealed
abbrev pub one_record_sealed : List Step
one_record_sealed = one_record ++ Step.seal 0 ∷ []

-- the record 5 is fed, the input is closed, and the event is claimed and abandoned
abbrev pub one_abandoned : List Step
one_abandoned = Step.feed 0 (one_field (pos 5) ∷ []) ∷ Step.close 0 ∷ Step.claim_message 0 0 the_five ∷ Step.abandon 0 (Event.arrival the_five) ∷ []

-- ---- input a/1; output group(a; #0; count);

abbrev pub counting : Program
counting = query_on (input_of name_a 1) (Rel.group (Rel.named name_a) (0 ∷ []) (Agg.count ∷ []))

-- its engine on two workers
abbrev pub counter : Network
counter = engine counting 2

-- the records 1, 2 and 3 are fed at once; 1 and 3 go to worker 0, and 2 to worker 1
abbrev pub three_fed : List Step
three_fed = Step.feed 0 (one_field (pos 1) ∷ one_field (pos 2) ∷ one_field (pos 3) ∷ []) ∷ []

abbrev pub to_worker_0 : Message
to_worker_0 = message_on 0 (one_field (pos 1) ∷ one_field (pos 3) ∷ [])

abbrev pub to_worker_1 : Message
to_worker_1 = message_on 0 (one_field (pos 2) ∷ [])

-- each worker's shard of the group absorbs its message
abbrev pub both_absorbed : List Step
both_absorbed =
    three_fed
    ++ Step.claim_message 0 0 to_worker_0 ∷ Step.commit 0 (Event.arrival to_worker_0) nothing_sent
    ∷ Step.claim_message 1 0 to_worker_1 ∷ Step.commit 1 (Event.arrival to_worker_1) nothing_sent ∷ []

-- what each asks for: the group's vertex at epoch 0
abbrev pub the_request : Request
the_request = record { vertex = 1; time = at_epoch 0 }

-- then the input is sealed
abbrev pub absorbed_and_sealed : List Step
absorbed_and_sealed = both_absorbed ++ Step.seal 0 ∷ []

-- worker 0 claims its notification
abbrev pub first_notified : List Step
first_notified = absorbed_and_sealed ++ Step.claim_request 0 0 the_request ∷ []

-- what it then sends: one record for each of its keys, with its count
abbrev pub counts_of_0 : ℕ → List Record
counts_of_0 q = two_fields 1 1 ∷ two_fields 3 1 ∷ []

-- worker 0 commits it
abbrev pub first_committed : List Step
first_committed = first_notified ++ Step.commit 0 (Event.notification the_request) counts_of_0 ∷ []

-- the records 1 and 3 are fed one after the other, and worker 0 has a message for each
abbrev pub two_fed : List Step
two_fed = Step.feed 0 (one_field (pos 1) ∷ []) ∷ Step.feed 0 (one_field (pos 3) ∷ []) ∷ []

-- it merges the two, and claims and commits the result
abbrev pub two_merged : List Step
two_merged =
    two_fed
    ++ Step.merge 0 0 (message_on 0 (one_field (pos 1) ∷ [])) (message_on 0 (one_field (pos 3) ∷ []))
    ∷ Step.claim_message 0 0 to_worker_0 ∷ Step.commit 0 (Event.arrival to_worker_0) nothing_sent ∷ []

-- the record 1 is fed in epoch 0, and the record 3 in epoch 1
abbrev pub fed_in_two_epochs : List Step
fed_in_two_epochs = Step.feed 0 (one_field (pos 1) ∷ []) ∷ Step.seal 0 ∷ Step.feed 0 (one_field (pos 3) ∷ []) ∷ []

-- ---- input a/1; input b/1; output except(a, b);

-- its engine on one worker
abbrev pub differ : Network
differ = engine in_a_alone 1

-- the record 1, on an edge
abbrev pub one_on : (edge : ℕ) → Message
one_on e = message_on e (one_field (pos 1) ∷ [])

-- the record 1 is fed to a, and absorbed by the except; then a is sealed
abbrev pub a_sealed : List Step
a_sealed = Step.feed 0 (one_field (pos 1) ∷ []) ∷ Step.claim_message 0 0 (one_on 0) ∷ Step.commit 0 (Event.arrival (one_on 0)) nothing_sent ∷ Step.seal 0 ∷ []

-- what the except asks for
abbrev pub except_request : Request
except_request = record { vertex = 2; time = at_epoch 0 }

-- b is sealed too
abbrev pub a_and_b_sealed : List Step
a_and_b_sealed = a_sealed ++ Step.seal 1 ∷ []

-- a vertex sends the record 1
abbrev pub one_sent : ℕ → List Record
one_sent q = one_field (pos 1) ∷ []

-- the except claims its notification and commits it
abbrev pub difference_committed : List Step
difference_committed = a_and_b_sealed ++ Step.claim_request 0 0 except_request ∷ Step.commit 0 (Event.notification except_request) one_sent ∷ []

-- ---- input a/1; input b/1; output intersect(a, b);

-- its engine on one worker
abbrev pub meeter : Network
meeter = engine in_a_and_b 1

-- the record 1 is fed to a and absorbed
abbrev pub one_in_a : List Step
one_in_a = Step.feed 0 (one_field (pos 1) ∷ []) ∷ Step.claim_message 0 0 (one_on 0) ∷ Step.commit 0 (Event.arrival (one_on 0)) nothing_sent ∷ []

-- then it is fed to b, and what the intersect sends is emitted
abbrev pub one_in_both : List Step
one_in_both =
    one_in_a
    ++ Step.feed 1 (one_field (pos 1) ∷ []) ∷ Step.claim_message 0 0 (one_on 1) ∷ Step.commit 0 (Event.arrival (one_on 1)) one_sent
    ∷ Step.claim_message 0 0 (one_on 2) ∷ Step.commit 0 (Event.arrival (one_on 2)) nothing_sent ∷ []

-- ---- input a/1; output x = where(a; #0 < 5); output y = a;

-- its engine on one worker
abbrev pub splitter : Network
splitter = engine small_and_all 1

-- the record 3, on an edge
abbrev pub three_on : (edge : ℕ) → Message
three_on e = message_on e (one_field (pos 3) ∷ [])

-- the record 3 is fed and the input sealed; the second output's worker claims and commits it, and the `where` doesn't yet
abbrev pub second_first : List Step
second_first =
    Step.feed 0 (one_field (pos 3) ∷ []) ∷ Step.seal 0 ∷ Step.claim_message 0 1 (three_on 2) ∷ Step.commit 0 (Event.arrival (three_on 2)) nothing_sent ∷ []
