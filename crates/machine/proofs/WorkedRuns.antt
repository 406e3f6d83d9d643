-- Small runs, by computation.
use Rattle.std.proofs.Common.{◌≡◌, ℕ, zero, suc, true, false, List, [], ◌∷◌, pos, Some, refl, ap, ◌∙◌, arith, slice_get}
use Rattle.std.specs.Int.{int_wrap}
use Rattle.semantics.specs.Multiset.{◌≈◌}
use Rattle.semantics.specs.Time.{Time, at_epoch}
use Rattle.semantics.specs.Graph.{vertex, source}
use Rattle.semantics.specs.Could.{Pointstamp, Location, at_vertex, on_edge, PathStep, CouldResultIn}
use Rattle.semantics.specs.Meaning.{program_meaning, meaning, let_names}
use Rattle.semantics.specs.Typing.{WellTyped, HasArity}
use Rattle.semantics.specs.Lower.{lowered, lower, lower_lets, lower_outputs}
use Rattle.semantics.specs.Route.{route}
use Rattle.semantics.specs.Examples.{one_field, two_fields}
use Rattle.semantics.proofs.CouldRises.{at_most_refl, could_epoch}
use Rattle.semantics.proofs.MultisetSums.{≈-refl}
use Rattle.machine.specs.World.{Message, Event, Held, opening}
use Rattle.machine.specs.Active.{IsActive}
use Rattle.machine.specs.Frontier.{NoOtherBefore, Passed}
use Rattle.machine.specs.Step.{Step, Allowed}
use Rattle.machine.specs.Headline.{IsRunOf, meant, output_of}
use Rattle.machine.specs.WorkedRuns.{after_steps, message_on, copying, copier, the_five, one_fed, one_record, one_record_sealed, one_abandoned, counting, counter, three_fed, two_fed, two_merged, fed_in_two_epochs, to_worker_0, to_worker_1, both_absorbed, the_request, absorbed_and_sealed, first_notified, first_committed}

pub nothing_in : {X : Type 0} (at : ℕ) (x : X) → (let none : List X = [] in slice_get none at) ≡ Some x → ⊥
nothing_in at x e = cc

-- ---- one record, one worker

typed : WellTyped copying (1 ∷ [])
unfolding HasArity
typed = record { few = omega arith; few_outputs = omega arith; inputs = (refl, (omega arith, omega arith), tt); rest = (refl, refl, tt) }

pub one_record_run : IsRunOf copying 1 one_record (after_steps copier opening one_record)
unfolding lowered lower lower_lets lower_outputs vertex source route
one_record_run = record { arities = 1 ∷ []; typed = typed; some = omega arith; run = (((refl, refl, refl), omega arith), (((omega arith, refl, refl), refl), ((omega arith, refl, λ q. refl), refl))) }

pub one_record_sealed_run : IsRunOf copying 1 one_record_sealed (after_steps copier opening one_record_sealed)
unfolding lowered lower lower_lets lower_outputs vertex source route
one_record_sealed_run =
    record { arities = 1 ∷ []; typed = typed; some = omega arith; run = (((refl, refl, refl), omega arith), (((omega arith, refl, refl), refl), ((omega arith, refl, λ q. refl), ((refl, refl, refl), refl)))) }

pub one_record_emitted : (after_steps copier opening one_record).emitted (output_of copying 0) 0 ≡ one_field (pos 5) ∷ []
unfolding lowered lower lower_lets lower_outputs vertex source route
one_record_emitted = refl

input_reaches_output : (n : ℕ) → CouldResultIn (lowered copying) (at_vertex 0 (at_epoch n)) (at_vertex (output_of copying 0) (at_epoch n))
unfolding lowered lower lower_lets lower_outputs vertex source
input_reaches_output n = record { starts = (omega arith, refl); ends = (omega arith, refl); path = PathStep.leaves 0 ∷ PathStep.enters 0 ∷ []; leads = (omega arith, refl, (omega arith, refl, refl)); in_time = at_most_refl (at_epoch n) }

pub one_record_open : Passed copier (after_steps copier opening one_record) (output_of copying 0) 0 → ⊥
unfolding lowered lower lower_lets lower_outputs vertex source route
one_record_open passed = passed (at_vertex 0 (at_epoch 0)) (IsActive.of_input 0 refl refl) (input_reaches_output 0)

pub one_record_passed : Passed copier (after_steps copier opening one_record_sealed) (output_of copying 0) 0
unfolding lowered lower lower_lets lower_outputs vertex source route
one_record_passed q (IsActive.of_input zero k c) could = let l = could_epoch (lowered copying) (at_vertex 0 (at_epoch 1)) (at_vertex 1 (at_epoch 0)) could in omega arith
one_record_passed q (IsActive.of_input (suc zero) k c) could = absurd cc
one_record_passed q (IsActive.of_input (suc (suc i)) k c) could = absurd cc
one_record_passed q (IsActive.of_mail zero at m l e) could = absurd (nothing_in at m e)
one_record_passed q (IsActive.of_mail (suc k) at m l e) could = absurd (omega arith)
one_record_passed q (IsActive.of_request zero at n l e) could = absurd (nothing_in at n e)
one_record_passed q (IsActive.of_request (suc k) at n l e) could = absurd (omega arith)
one_record_passed q (IsActive.of_held zero up event l e) could = absurd cc
one_record_passed q (IsActive.of_held (suc k) up event l e) could = absurd (omega arith)

pub fed_run : IsRunOf copying 1 one_fed (after_steps copier opening one_fed)
unfolding lowered lower lower_lets lower_outputs vertex source route
fed_run = record { arities = 1 ∷ []; typed = typed; some = omega arith; run = (((refl, refl, refl), omega arith), refl) }

pub fed_less : (after_steps copier opening one_fed).emitted (output_of copying 0) 0 ≈ meant copying (after_steps copier opening one_fed) 0 0 → ⊥
unfolding program_meaning meaning let_names lowered lower lower_lets lower_outputs vertex source route
fed_less same = differs (same.counts (one_field (pos 5)))
  where
    differs : ◌≡◌ {A = ℕ} 0 1 → ⊥
    differs e = cc

-- ---- an abandoned event

pub one_abandoned_run : IsRunOf copying 1 one_abandoned (after_steps copier opening one_abandoned)
unfolding lowered lower lower_lets lower_outputs vertex source route
one_abandoned_run = record { arities = 1 ∷ []; typed = typed; some = omega arith; run = (((refl, refl, refl), omega arith), ((refl, refl, refl), (((omega arith, refl, refl), refl), ((omega arith, refl), refl)))) }

message_reaches_output : CouldResultIn (lowered copying) (on_edge 0 (at_epoch 0)) (at_vertex (output_of copying 0) (at_epoch 0))
unfolding lowered lower lower_lets lower_outputs vertex source
message_reaches_output = record { starts = (omega arith, refl); ends = (omega arith, refl); path = PathStep.enters 0 ∷ []; leads = (omega arith, refl, refl); in_time = at_most_refl (at_epoch 0) }

pub one_abandoned_open : Passed copier (after_steps copier opening one_abandoned) (output_of copying 0) 0 → ⊥
unfolding lowered lower lower_lets lower_outputs vertex source route
one_abandoned_open passed = passed (on_edge 0 (at_epoch 0)) (IsActive.of_held 0 true (Event.arrival the_five) (omega arith) refl) message_reaches_output

-- ---- a batch of three records, a group on two workers

counting_typed : WellTyped counting (2 ∷ [])
unfolding HasArity
counting_typed = record { few = omega arith; few_outputs = omega arith; inputs = (refl, (omega arith, omega arith), tt); rest = ((1, refl, (omega arith, tt), (tt, tt), refl, (omega arith, omega arith)), refl, tt) }

pub batch_to_0 : (after_steps counter opening three_fed).mail 0 ≡ to_worker_0 ∷ []
unfolding lowered lower lower_lets lower_outputs vertex source route
batch_to_0 = refl

pub batch_to_1 : (after_steps counter opening three_fed).mail 1 ≡ to_worker_1 ∷ []
unfolding lowered lower lower_lets lower_outputs vertex source route
batch_to_1 = refl

-- ---- two messages that are merged

pub two_mail : (after_steps counter opening two_fed).mail 0 ≡ message_on 0 (one_field (pos 1) ∷ []) ∷ message_on 0 (one_field (pos 3) ∷ []) ∷ []
unfolding lowered lower lower_lets lower_outputs vertex source route
two_mail = refl

pub two_merged_run : IsRunOf counting 2 two_merged (after_steps counter opening two_merged)
unfolding lowered lower lower_lets lower_outputs vertex source route
two_merged_run =
    record {
      arities = 2 ∷ [];
      typed = counting_typed;
      some = omega arith;
      run = (((refl, refl, refl), omega arith), (((refl, refl, refl), omega arith), (((omega arith, refl, refl), refl, refl, refl, refl), (((omega arith, refl, refl), refl), ((omega arith, refl, λ q. refl), refl)))));
    }

pub two_absorbed : (after_steps counter opening two_merged).absorbed 0 1 0 (at_epoch 0) ≡ one_field (pos 1) ∷ one_field (pos 3) ∷ []
unfolding lowered lower lower_lets lower_outputs vertex source route
two_absorbed = refl

pub none_left : (after_steps counter opening two_merged).mail 0 ≡ []
unfolding lowered lower lower_lets lower_outputs vertex source route
none_left = refl

-- the message of epoch 1
later : Message
later = record { edge = 0; time = at_epoch 1; records = one_field (pos 3) ∷ [] }

two_epochs : (second : Message) → Some later ≡ Some second → second.time ≡ at_epoch 0 → ⊥
unfolding later
two_epochs second e t =
    let z : later ≡ second = cc in
    let n : later.time.epoch ≡ (at_epoch 0).epoch = ap (λ (x : Time). x.epoch) (ap (λ (x : Message). x.time) z ∙ t) in
    omega arith

pub other_epoch : (second : Message) → Allowed counter (after_steps counter opening fed_in_two_epochs) (Step.merge 0 0 (message_on 0 (one_field (pos 1) ∷ [])) second) → ⊥
unfolding later lowered lower lower_lets lower_outputs vertex source route
other_epoch second ok = two_epochs second ok.2 ok.4

pub both_ask_0 : (after_steps counter opening both_absorbed).requests 0 ≡ the_request ∷ []
unfolding lowered lower lower_lets lower_outputs vertex source route
both_ask_0 = refl

pub both_ask_1 : (after_steps counter opening both_absorbed).requests 1 ≡ the_request ∷ []
unfolding lowered lower lower_lets lower_outputs vertex source route
both_ask_1 = refl

input_reaches_group : CouldResultIn (lowered counting) (at_vertex 0 (at_epoch 0)) (at_vertex 1 (at_epoch 0))
unfolding lowered lower lower_lets lower_outputs vertex source
input_reaches_group = record { starts = (omega arith, refl); ends = (omega arith, refl); path = PathStep.leaves 0 ∷ PathStep.enters 0 ∷ []; leads = (omega arith, refl, (omega arith, refl, refl)); in_time = at_most_refl (at_epoch 0) }

unfoldable pub number : Pointstamp → ℕ
number p = by p.location
  where
    by : Location → ℕ
    by (Location.edge e) = e
    by (Location.vertex v) = v

pub held_back : Allowed counter (after_steps counter opening both_absorbed) (Step.claim_request 0 0 the_request) → ⊥
unfolding number lowered lower lower_lets lower_outputs vertex source route
held_back ok = differs (ok.2 (at_vertex 0 (at_epoch 0)) (IsActive.of_input 0 refl refl) input_reaches_group)
  where
    differs : at_vertex 0 (at_epoch 0) ≡ at_vertex 1 (at_epoch 0) → ⊥
    differs e = let n : (let f : Pointstamp → ℕ = number in f (at_vertex 0 (at_epoch 0)) ≡ f (at_vertex 1 (at_epoch 0))) = ap number e in omega arith

alone : NoOtherBefore counter (after_steps counter opening absorbed_and_sealed) (at_vertex 1 (at_epoch 0))
unfolding lowered lower lower_lets lower_outputs vertex source route
alone q (IsActive.of_input zero k c) could = absurd (let l = could_epoch (lowered counting) (at_vertex 0 (at_epoch 1)) (at_vertex 1 (at_epoch 0)) could in omega arith)
alone q (IsActive.of_input (suc zero) k c) could = absurd cc
alone q (IsActive.of_input (suc (suc zero)) k c) could = absurd cc
alone q (IsActive.of_input (suc (suc (suc i))) k c) could = absurd cc
alone q (IsActive.of_mail zero at m l e) could = absurd (nothing_in at m e)
alone q (IsActive.of_mail (suc zero) at m l e) could = absurd (nothing_in at m e)
alone q (IsActive.of_mail (suc (suc k)) at m l e) could = absurd (omega arith)
alone q (IsActive.of_request zero zero n l e) could = by e
  where
    by : Some the_request ≡ Some n → at_vertex n.vertex n.time ≡ at_vertex 1 (at_epoch 0)
    by e = cc
alone q (IsActive.of_request zero (suc at) n l e) could = absurd (nothing_in at n e)
alone q (IsActive.of_request (suc zero) zero n l e) could = by e
  where
    by : Some the_request ≡ Some n → at_vertex n.vertex n.time ≡ at_vertex 1 (at_epoch 0)
    by e = cc
alone q (IsActive.of_request (suc zero) (suc at) n l e) could = absurd (nothing_in at n e)
alone q (IsActive.of_request (suc (suc k)) at n l e) could = absurd (omega arith)
alone q (IsActive.of_held zero up event l e) could = absurd cc
alone q (IsActive.of_held (suc zero) up event l e) could = absurd cc
alone q (IsActive.of_held (suc (suc k)) up event l e) could = absurd (omega arith)

pub delivered : Allowed counter (after_steps counter opening absorbed_and_sealed) (Step.claim_request 0 0 the_request)
unfolding lowered lower lower_lets lower_outputs vertex source route
delivered = ((omega arith, refl, refl), refl, alone)

alone_with_held : NoOtherBefore counter (after_steps counter opening first_notified) (at_vertex 1 (at_epoch 0))
unfolding lowered lower lower_lets lower_outputs vertex source route
alone_with_held q (IsActive.of_input zero k c) could = absurd (let l = could_epoch (lowered counting) (at_vertex 0 (at_epoch 1)) (at_vertex 1 (at_epoch 0)) could in omega arith)
alone_with_held q (IsActive.of_input (suc zero) k c) could = absurd cc
alone_with_held q (IsActive.of_input (suc (suc zero)) k c) could = absurd cc
alone_with_held q (IsActive.of_input (suc (suc (suc i))) k c) could = absurd cc
alone_with_held q (IsActive.of_mail zero at m l e) could = absurd (nothing_in at m e)
alone_with_held q (IsActive.of_mail (suc zero) at m l e) could = absurd (nothing_in at m e)
alone_with_held q (IsActive.of_mail (suc (suc k)) at m l e) could = absurd (omega arith)
alone_with_held q (IsActive.of_request zero at n l e) could = absurd (nothing_in at n e)
alone_with_held q (IsActive.of_request (suc zero) zero n l e) could = by e
  where
    by : Some the_request ≡ Some n → at_vertex n.vertex n.time ≡ at_vertex 1 (at_epoch 0)
    by e = cc
alone_with_held q (IsActive.of_request (suc zero) (suc at) n l e) could = absurd (nothing_in at n e)
alone_with_held q (IsActive.of_request (suc (suc k)) at n l e) could = absurd (omega arith)
alone_with_held q (IsActive.of_held zero up (Event.notification n) l e) could = by e
  where
    by : Held.holding false (Event.notification the_request) ≡ Held.holding up (Event.notification n) → at_vertex n.vertex n.time ≡ at_vertex 1 (at_epoch 0)
    by e = cc
alone_with_held q (IsActive.of_held zero up (Event.arrival m) l e) could = absurd cc
alone_with_held q (IsActive.of_held (suc zero) up event l e) could = absurd cc
alone_with_held q (IsActive.of_held (suc (suc k)) up event l e) could = absurd (omega arith)

pub twin_delivered : Allowed counter (after_steps counter opening first_notified) (Step.claim_request 1 0 the_request)
unfolding lowered lower lower_lets lower_outputs vertex source route
twin_delivered = ((omega arith, refl, refl), refl, alone_with_held)

pub first_committed_run : IsRunOf counting 2 first_committed (after_steps counter opening first_committed)
unfolding int_wrap lowered lower lower_lets lower_outputs vertex source route
first_committed_run =
    record {
      arities = 2 ∷ [];
      typed = counting_typed;
      some = omega arith;
      run = (((refl, refl, refl), omega arith), (((omega arith, refl, refl), refl), ((omega arith, refl, λ q. refl), (((omega arith, refl, refl), refl), ((omega arith, refl, λ q. refl), ((refl, refl, refl), (delivered, ((omega arith, refl, λ q. ≈-refl (two_fields 1 1 ∷ two_fields 3 1 ∷ [])), refl))))))));
    }

pub first_committed_sent : (after_steps counter opening first_committed).mail 0 ≡ message_on 1 (two_fields 1 1 ∷ two_fields 3 1 ∷ []) ∷ []
unfolding lowered lower lower_lets lower_outputs vertex source route
first_committed_sent = refl
