use Rattle.semantics.proofs.MultisetSums.{≈-refl, ≈-sym, ≈-trans, same_from_parts}
use Rattle.semantics.proofs.Permutations.{same_from_permutation, permutation_from_same}
use Rattle.semantics.proofs.multisets.law_equal_multisets.Goals as goal

pub returns-clause-itself : goal.returns-clause-itself
returns-clause-itself c = ≈-refl

pub returns-clause-other_way : goal.returns-clause-other_way
returns-clause-other_way c = λ xs ys. ≈-sym

pub returns-clause-onward : goal.returns-clause-onward
returns-clause-onward c = λ xs ys zs. ≈-trans

pub returns-clause-from_parts : goal.returns-clause-from_parts
returns-clause-from_parts c = λ xs ys. same_from_parts

pub returns-clause-reordered : goal.returns-clause-reordered
returns-clause-reordered c = same_from_permutation

pub returns-clause-only_reordered : goal.returns-clause-only_reordered
returns-clause-only_reordered c = permutation_from_same
