-- Small runs of an except, of an intersect and of two outputs, by computation.
use Rattle.std.proofs.Common.{◌≡◌, ◌<◌, ℕ, zero, suc, Bool, true, ◌||◌, ◌==◌, List, [], ◌∷◌, pos, Some, refl, sym, ap, ◌∙◌, subst, arith}
use Rattle.std.proofs.lemmas.Bool.{true≢false}
use Rattle.semantics.specs.Time.{at_epoch}
use Rattle.semantics.specs.Graph.{vertex, source, edge_count}
use Rattle.semantics.specs.Could.{Pointstamp, Location, at_vertex, on_edge, PathStep, step_edge, step_from, step_to, IsPath, CouldResultIn}
use Rattle.semantics.specs.Typing.{WellTyped, HasArity}
use Rattle.semantics.specs.Lower.{lowered, lower, lower_lets, lower_outputs}
use Rattle.semantics.specs.Route.{route}
use Rattle.semantics.specs.Examples.{one_field, in_a_alone, in_a_and_b, small_and_all}
use Rattle.semantics.proofs.CouldRises.{at_most_refl, could_epoch}
use Rattle.semantics.proofs.ExampleMeanings.{outputs_typed}
use Rattle.semantics.proofs.MultisetSums.{≈-refl}
use Rattle.machine.specs.World.{opening}
use Rattle.machine.specs.Active.{IsActive}
use Rattle.machine.specs.Frontier.{NoOtherBefore, Passed}
use Rattle.machine.specs.Step.{Step, Allowed}
use Rattle.machine.specs.Headline.{IsRunOf, output_of}
use Rattle.machine.specs.WorkedRuns.{after_steps, differ, one_on, a_sealed, except_request, a_and_b_sealed, difference_committed, meeter, one_in_a, one_in_both, splitter, three_on, second_first}
use Rattle.machine.proofs.WorkedRuns.{nothing_in, number}

-- ---- except

pub difference_asked : (after_steps differ opening a_sealed).requests 0 ≡ except_request ∷ []
unfolding lowered lower lower_lets lower_outputs vertex source route
difference_asked = refl

pub difference_none_sent : (after_steps differ opening a_sealed).mail 0 ≡ []
unfolding lowered lower lower_lets lower_outputs vertex source route
difference_none_sent = refl

b_reaches_except : CouldResultIn (lowered in_a_alone) (at_vertex 1 (at_epoch 0)) (at_vertex 2 (at_epoch 0))
unfolding lowered lower lower_lets lower_outputs vertex source
b_reaches_except = record { starts = (omega arith, refl); ends = (omega arith, refl); path = PathStep.leaves 1 ∷ PathStep.enters 1 ∷ []; leads = (omega arith, refl, (omega arith, refl, refl)); in_time = at_most_refl (at_epoch 0) }

pub difference_held_back : Allowed differ (after_steps differ opening a_sealed) (Step.claim_request 0 0 except_request) → ⊥
unfolding number lowered lower lower_lets lower_outputs vertex source route
difference_held_back ok = differs (ok.2 (at_vertex 1 (at_epoch 0)) (IsActive.of_input 1 refl refl) b_reaches_except)
  where
    differs : at_vertex 1 (at_epoch 0) ≡ at_vertex 2 (at_epoch 0) → ⊥
    differs e = let n : (let f : Pointstamp → ℕ = number in f (at_vertex 1 (at_epoch 0)) ≡ f (at_vertex 2 (at_epoch 0))) = ap number e in omega arith

alone : NoOtherBefore differ (after_steps differ opening a_and_b_sealed) (at_vertex 2 (at_epoch 0))
unfolding lowered lower lower_lets lower_outputs vertex source route
alone q (IsActive.of_input zero k c) could = absurd (let l = could_epoch (lowered in_a_alone) (at_vertex 0 (at_epoch 1)) (at_vertex 2 (at_epoch 0)) could in omega arith)
alone q (IsActive.of_input (suc zero) k c) could = absurd (let l = could_epoch (lowered in_a_alone) (at_vertex 1 (at_epoch 1)) (at_vertex 2 (at_epoch 0)) could in omega arith)
alone q (IsActive.of_input (suc (suc zero)) k c) could = absurd cc
alone q (IsActive.of_input (suc (suc (suc zero))) k c) could = absurd cc
alone q (IsActive.of_input (suc (suc (suc (suc i)))) k c) could = absurd cc
alone q (IsActive.of_mail zero at m l e) could = absurd (nothing_in at m e)
alone q (IsActive.of_mail (suc k) at m l e) could = absurd (omega arith)
alone q (IsActive.of_request zero zero n l e) could = by e
  where
    by : Some except_request ≡ Some n → at_vertex n.vertex n.time ≡ at_vertex 2 (at_epoch 0)
    by e = cc
alone q (IsActive.of_request zero (suc at) n l e) could = absurd (nothing_in at n e)
alone q (IsActive.of_request (suc k) at n l e) could = absurd (omega arith)
alone q (IsActive.of_held zero up event l e) could = absurd cc
alone q (IsActive.of_held (suc k) up event l e) could = absurd (omega arith)

pub difference_delivered : Allowed differ (after_steps differ opening a_and_b_sealed) (Step.claim_request 0 0 except_request)
unfolding lowered lower lower_lets lower_outputs vertex source route
difference_delivered = ((omega arith, refl, refl), refl, alone)

difference_typed : WellTyped in_a_alone (1 ∷ [])
unfolding HasArity
difference_typed = record { few = omega arith; few_outputs = omega arith; inputs = (refl, (omega arith, omega arith), (refl, (omega arith, omega arith), tt)); rest = ((refl, refl), refl, tt) }

pub difference_run : IsRunOf in_a_alone 1 difference_committed (after_steps differ opening difference_committed)
unfolding lowered lower lower_lets lower_outputs vertex source route
difference_run =
    record {
      arities = 1 ∷ [];
      typed = difference_typed;
      some = omega arith;
      run = (((refl, refl, refl), omega arith), (((omega arith, refl, refl), refl), ((omega arith, refl, λ q. refl), ((refl, refl, refl), ((refl, refl, refl), (difference_delivered, ((omega arith, refl, λ q. ≈-refl (one_field (pos 1) ∷ [])), refl)))))));
    }

pub difference_sent : (after_steps differ opening difference_committed).mail 0 ≡ one_on 2 ∷ []
unfolding lowered lower lower_lets lower_outputs vertex source route
difference_sent = refl

-- ---- intersect

pub common_none_sent : (after_steps meeter opening one_in_a).mail 0 ≡ []
unfolding lowered lower lower_lets lower_outputs vertex source route
common_none_sent = refl

common_typed : WellTyped in_a_and_b (1 ∷ [])
unfolding HasArity
common_typed = record { few = omega arith; few_outputs = omega arith; inputs = (refl, (omega arith, omega arith), (refl, (omega arith, omega arith), tt)); rest = ((refl, refl), refl, tt) }

pub common_run : IsRunOf in_a_and_b 1 one_in_both (after_steps meeter opening one_in_both)
unfolding lowered lower lower_lets lower_outputs vertex source route
common_run =
    record {
      arities = 1 ∷ [];
      typed = common_typed;
      some = omega arith;
      run = (
        ((refl, refl, refl), omega arith),
        (((omega arith, refl, refl), refl), ((omega arith, refl, λ q. ≈-refl []), (((refl, refl, refl), omega arith), (((omega arith, refl, refl), refl), ((omega arith, refl, λ q. ≈-refl (one_field (pos 1) ∷ [])), (((omega arith, refl, refl), refl), ((omega arith, refl, λ q. refl), refl))))))),
      );
    }

pub common_emitted : (after_steps meeter opening one_in_both).emitted (output_of in_a_and_b 0) 0 ≡ one_field (pos 1) ∷ []
unfolding lowered lower lower_lets lower_outputs vertex source route
common_emitted = refl

a_reaches_output : CouldResultIn (lowered in_a_and_b) (at_vertex 0 (at_epoch 0)) (at_vertex (output_of in_a_and_b 0) (at_epoch 0))
unfolding lowered lower lower_lets lower_outputs vertex source
a_reaches_output =
    record {
      starts = (omega arith, refl);
      ends = (omega arith, refl);
      path = PathStep.leaves 0 ∷ PathStep.enters 0 ∷ PathStep.leaves 2 ∷ PathStep.enters 2 ∷ [];
      leads = (omega arith, refl, (omega arith, refl, (omega arith, refl, (omega arith, refl, refl))));
      in_time = at_most_refl (at_epoch 0);
    }

pub common_open : Passed meeter (after_steps meeter opening one_in_both) (output_of in_a_and_b 0) 0 → ⊥
unfolding lowered lower lower_lets lower_outputs vertex source route
common_open passed = passed (at_vertex 0 (at_epoch 0)) (IsActive.of_input 0 refl refl) a_reaches_output

-- ---- two outputs

pub second_first_run : IsRunOf small_and_all 1 second_first (after_steps splitter opening second_first)
unfolding lowered lower lower_lets lower_outputs vertex source route
second_first_run = record { arities = 1 ∷ 1 ∷ []; typed = outputs_typed; some = omega arith; run = (((refl, refl, refl), omega arith), ((refl, refl, refl), (((omega arith, refl, refl), refl), ((omega arith, refl, λ q. refl), refl)))) }

pub second_emitted : (after_steps splitter opening second_first).emitted (output_of small_and_all 1) 0 ≡ one_field (pos 3) ∷ []
unfolding lowered lower lower_lets lower_outputs vertex source route
second_emitted = refl

pub first_none_emitted : (after_steps splitter opening second_first).emitted (output_of small_and_all 0) 0 ≡ []
unfolding lowered lower lower_lets lower_outputs vertex source route
first_none_emitted = refl

message_reaches_first : CouldResultIn (lowered small_and_all) (on_edge 0 (at_epoch 0)) (at_vertex (output_of small_and_all 0) (at_epoch 0))
unfolding lowered lower lower_lets lower_outputs vertex source
message_reaches_first =
    record {
      starts = (omega arith, refl);
      ends = (omega arith, refl);
      path = PathStep.enters 0 ∷ PathStep.leaves 1 ∷ PathStep.enters 1 ∷ [];
      leads = (omega arith, refl, (omega arith, refl, (omega arith, refl, refl)));
      in_time = at_most_refl (at_epoch 0);
    }

pub first_open : Passed splitter (after_steps splitter opening second_first) (output_of small_and_all 0) 0 → ⊥
unfolding lowered lower lower_lets lower_outputs vertex source route
first_open passed = passed (on_edge 0 (at_epoch 0)) (IsActive.of_mail 0 0 (three_on 0) (omega arith) refl) message_reaches_first

-- the locations that a path can reach from the edge into the `where`: that vertex, the edge into the first output and its vertex
to_first : Location → Bool
to_first (Location.edge e) = (e == 0) || (e == 1)
to_first (Location.vertex v) = (v == 1) || (v == 2)

step_to_first : (s : PathStep) → step_edge s < edge_count (lowered small_and_all) → to_first (step_from (lowered small_and_all) s) ≡ true → to_first (step_to (lowered small_and_all) s) ≡ true
unfolding to_first lowered lower lower_lets lower_outputs vertex source
step_to_first (PathStep.enters zero) l e = refl
step_to_first (PathStep.enters (suc zero)) l e = refl
step_to_first (PathStep.enters (suc (suc zero))) l e = absurd (true≢false (sym e))
step_to_first (PathStep.enters (suc (suc (suc n)))) l e = absurd (omega arith)
step_to_first (PathStep.leaves zero) l e = absurd (true≢false (sym e))
step_to_first (PathStep.leaves (suc zero)) l e = refl
step_to_first (PathStep.leaves (suc (suc zero))) l e = absurd (true≢false (sym e))
step_to_first (PathStep.leaves (suc (suc (suc n)))) l e = absurd (omega arith)

path_to_first : (l m : Location) (path : List PathStep) → IsPath (lowered small_and_all) l path m → to_first l ≡ true → to_first m ≡ true
path_to_first l m [] p e = ap to_first (sym p) ∙ e
path_to_first l m (s ∷ path) p e = path_to_first (step_to (lowered small_and_all) s) m path p.2 (step_to_first s p.0 (ap to_first (sym p.1) ∙ e))

not_to_second : CouldResultIn (lowered small_and_all) (on_edge 0 (at_epoch 0)) (at_vertex 3 (at_epoch 0)) → ⊥
unfolding to_first
not_to_second c = true≢false (sym (path_to_first (Location.edge 0) (Location.vertex 3) c.path c.leads refl))

pub second_passed : Passed splitter (after_steps splitter opening second_first) (output_of small_and_all 1) 0
unfolding lowered lower lower_lets lower_outputs vertex source route
second_passed q (IsActive.of_input zero k c) could = let l = could_epoch (lowered small_and_all) (at_vertex 0 (at_epoch 1)) (at_vertex 3 (at_epoch 0)) could in omega arith
second_passed q (IsActive.of_input (suc zero) k c) could = absurd cc
second_passed q (IsActive.of_input (suc (suc zero)) k c) could = absurd cc
second_passed q (IsActive.of_input (suc (suc (suc zero))) k c) could = absurd cc
second_passed q (IsActive.of_input (suc (suc (suc (suc i)))) k c) could = absurd cc
second_passed q (IsActive.of_mail zero zero m l e) could = not_to_second (subst (λ p. CouldResultIn (lowered small_and_all) p (at_vertex 3 (at_epoch 0))) (by e) could)
  where
    by : Some (three_on 0) ≡ Some m → on_edge m.edge m.time ≡ on_edge 0 (at_epoch 0)
    by e = cc
second_passed q (IsActive.of_mail zero (suc at) m l e) could = absurd (nothing_in at m e)
second_passed q (IsActive.of_mail (suc k) at m l e) could = absurd (omega arith)
second_passed q (IsActive.of_request zero at n l e) could = absurd (nothing_in at n e)
second_passed q (IsActive.of_request (suc k) at n l e) could = absurd (omega arith)
second_passed q (IsActive.of_held zero up event l e) could = absurd cc
second_passed q (IsActive.of_held (suc k) up event l e) could = absurd (omega arith)
