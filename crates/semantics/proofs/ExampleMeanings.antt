-- The meanings of the example programs, by computation.
use Rattle.std.proofs.Common.{◌≡◌, ℕ, Some, None, List, [], ◌∷◌, ◌++◌, pos, negsuc, refl, arith}
use Rattle.std.specs.Int.{int_wrap}
use Rattle.semantics.specs.Multiset.{Record, ◌≈◌}
use Rattle.semantics.specs.Meaning.{meaning, let_names, program_meaning}
use Rattle.semantics.specs.Typing.{Scope, entry, HasArity, OutputsFit, WellTyped}
use Rattle.semantics.specs.Examples.{name_a, one_field, two_fields, three_fields, twice, sums_by_key, reachability, connected, no_turns, outer_name, loop_in_loop, outer_name_in_loops, in_a_alone, in_a_and_b, except_in_loop, small_and_all, least_of_let, twice_out, a_and_b, one_and_two}
use Rattle.semantics.proofs.MultisetSums.{≈-trans, ≈-from}

pub twice_means : (records : List Record) → program_meaning twice 0 (λ i. records) ≡ records ++ records
unfolding program_meaning meaning let_names
twice_means records = refl

-- 9223372036854775807 + 1 wraps
pub sum_wraps : program_meaning sums_by_key 0 (λ i. two_fields 1 9223372036854775807 ∷ two_fields 1 1 ∷ []) ≡ three_fields (pos 1) (negsuc 9223372036854775807) (pos 2) ∷ []
unfolding program_meaning meaning let_names int_wrap
sum_wraps = refl

in_order : program_meaning reachability 0 (λ i. two_fields 1 2 ∷ two_fields 2 3 ∷ two_fields 3 4 ∷ []) ≡ two_fields 1 2 ∷ two_fields 2 3 ∷ two_fields 3 4 ∷ two_fields 1 3 ∷ two_fields 2 4 ∷ two_fields 1 4 ∷ []
unfolding program_meaning meaning let_names int_wrap
in_order = refl

pub reaches : program_meaning reachability 0 (λ i. two_fields 1 2 ∷ two_fields 2 3 ∷ two_fields 3 4 ∷ []) ≈ (two_fields 1 2 ∷ two_fields 1 3 ∷ two_fields 1 4 ∷ two_fields 2 3 ∷ two_fields 2 4 ∷ two_fields 3 4 ∷ [])
reaches = ≈-trans (≈-from in_order) (record { counts = λ r. omega arith })

connected_order : program_meaning connected 0 (λ i. two_fields 1 2 ∷ two_fields 1 2 ∷ two_fields 2 1 ∷ two_fields 2 3 ∷ []) ≡ two_fields 1 2 ∷ two_fields 2 1 ∷ two_fields 2 3 ∷ two_fields 1 1 ∷ two_fields 1 3 ∷ two_fields 2 2 ∷ []
unfolding program_meaning meaning let_names int_wrap
connected_order = refl

pub connects : program_meaning connected 0 (λ i. two_fields 1 2 ∷ two_fields 1 2 ∷ two_fields 2 1 ∷ two_fields 2 3 ∷ [])
    ≈ (two_fields 1 1 ∷ two_fields 1 2 ∷ two_fields 1 3 ∷ two_fields 2 1 ∷ two_fields 2 2 ∷ two_fields 2 3 ∷ [])
connects = ≈-trans (≈-from connected_order) (record { counts = λ r. omega arith })

pub no_turn_means : program_meaning no_turns 0 (λ i. one_field (pos 5) ∷ []) ≡ one_field (pos 5) ∷ []
unfolding program_meaning meaning let_names int_wrap
no_turn_means = refl

-- whatever the start has, the outer name in the body keeps its meaning
pub outer_name_means : (records : ℕ → List Record) → program_meaning outer_name 0 records ≡ records 1
unfolding program_meaning meaning let_names
outer_name_means records = refl

pub loop_in_loop_means : program_meaning loop_in_loop 0 (λ i. one_field (pos 10) ∷ []) ≡ one_field (pos 16) ∷ []
unfolding program_meaning meaning let_names int_wrap
loop_in_loop_means = refl

pub in_a_alone_means : program_meaning in_a_alone 0 a_and_b ≡ one_field (pos 1) ∷ []
unfolding program_meaning meaning let_names
in_a_alone_means = refl

pub in_a_and_b_means : program_meaning in_a_and_b 0 a_and_b ≡ one_field (pos 2) ∷ []
unfolding program_meaning meaning let_names
in_a_and_b_means = refl

-- the first turn has only 2, the second only 1
pub except_in_loop_means : program_meaning except_in_loop 0 one_and_two ≡ one_field (pos 1) ∷ []
unfolding program_meaning meaning let_names
except_in_loop_means = refl

pub small_means : program_meaning small_and_all 0 (λ i. one_field (pos 3) ∷ one_field (pos 7) ∷ []) ≡ one_field (pos 3) ∷ []
unfolding program_meaning meaning let_names int_wrap
small_means = refl

pub all_means : program_meaning small_and_all 1 (λ i. one_field (pos 3) ∷ one_field (pos 7) ∷ []) ≡ one_field (pos 3) ∷ one_field (pos 7) ∷ []
unfolding program_meaning meaning let_names
all_means = refl

pub least_of_let_means : program_meaning least_of_let 1 (λ i. one_field (pos 5) ∷ []) ≡ two_fields 6 6 ∷ []
unfolding program_meaning meaning let_names int_wrap
least_of_let_means = refl

pub no_more_means : program_meaning small_and_all 2 (λ i. one_field (pos 3) ∷ one_field (pos 7) ∷ []) ≡ []
unfolding program_meaning meaning let_names
no_more_means = refl

-- ---- these programs are well typed

pub connected_typed : WellTyped connected (2 ∷ [])
unfolding HasArity
connected_typed = record {
  few = omega arith;
  few_outputs = omega arith;
  inputs = (refl, (omega arith, omega arith), tt);
  rest = (
    (
      omega arith,
      omega arith,
      refl,
      refl,
      (4, (2, 2, refl, refl, ((omega arith, omega arith), tt), refl, (omega arith, omega arith)), (omega arith, (omega arith, tt)), refl, (omega arith, omega arith)),
    ),
    refl,
    tt,
  );
}

pub reachability_typed : WellTyped reachability (2 ∷ [])
unfolding HasArity
reachability_typed = record {
  few = omega arith;
  few_outputs = omega arith;
  inputs = (refl, (omega arith, omega arith), tt);
  rest = (
    (
      omega arith,
      omega arith,
      refl,
      refl,
      (refl, (4, (2, 2, refl, refl, ((omega arith, omega arith), tt), refl, (omega arith, omega arith)), (omega arith, (omega arith, tt)), refl, (omega arith, omega arith))),
    ),
    refl,
    tt,
  );
}

pub loops_typed : WellTyped outer_name_in_loops (1 ∷ [])
unfolding HasArity
loops_typed = record {
  few = omega arith;
  few_outputs = omega arith;
  inputs = (refl, (omega arith, omega arith), (refl, (omega arith, omega arith), tt));
  rest = ((omega arith, omega arith, refl, refl, (omega arith, omega arith, refl, refl, (refl, refl))), refl, tt);
}

pub outputs_typed : WellTyped small_and_all (1 ∷ 1 ∷ [])
unfolding HasArity
outputs_typed = record {
  few = omega arith;
  few_outputs = omega arith;
  inputs = (refl, (omega arith, omega arith), tt);
  rest = ((refl, (omega arith, tt)), refl, (refl, refl, tt));
}

-- a second output with the first one's name isn't allowed
pub one_name_untyped : (ns : List ℕ) → WellTyped twice_out ns → ⊥
one_name_untyped ns t = go ns t.rest
  where
    scope : Scope
    scope = entry name_a 1 ∷ []

    clash : (n : ℕ) → Some n ≡ None → ⊥
    clash n e = cc

    go : (ns : List ℕ) → OutputsFit scope [] twice_out.outputs ns → ⊥
    go [] t = t
    go (n ∷ []) t = t.2
    go (n ∷ m ∷ ns) t = clash n t.2.1
