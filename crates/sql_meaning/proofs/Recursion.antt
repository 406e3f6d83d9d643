-- A database's recursion ends with the query's rows, where nothing is new after its last turn.
use Rattle.std.proofs.Common.{◌≡◌, ℕ, suc, ◌+◌, ◌-◌, List, [], ◌∷◌, ◌++◌, refl, sym, ap, ◌∙◌, arith, append-nil, nat_lt, ltb-true, ltb-false, Bool, true, false}
use Rattle.semantics.specs.Multiset.{Record}
use Rattle.semantics.proofs.FoundByClosures.{closure_ends}
use Rattle.sql_meaning.specs.Script.{Table, Term, Query}
use Rattle.sql_meaning.specs.ScriptMeaning.{Contents, row_pairs, found_by, term_rows, rows_of}
use Rattle.sql_meaning.specs.Epochs.{term_rows_by_epoch, rows_by_epoch}

no_pairs : (xs : List Record) → row_pairs xs [] ≡ []
no_pairs [] = refl
no_pairs (x ∷ xs) = no_pairs xs

-- a turn makes nothing of nothing
none_of_term : (m : Term) (holds : Contents) → term_rows m holds [] ≡ []
none_of_term Term.latest holds = refl
none_of_term (Term.select es m) holds = rw (none_of_term m holds) refl
none_of_term (Term.select_where m c) holds = rw (none_of_term m holds) refl
none_of_term (Term.join_left m t ps) holds = rw (none_of_term m holds) refl
none_of_term (Term.join_right t m ps) holds = rw (none_of_term m holds, no_pairs (holds t)) refl

none_by_epoch : (m : Term) (holds : Contents) → term_rows_by_epoch m holds [] ≡ []
none_by_epoch Term.latest holds = refl
none_by_epoch (Term.select es m) holds = rw (none_by_epoch m holds) refl
none_by_epoch (Term.select_where m c) holds = rw (none_by_epoch m holds) refl
none_by_epoch (Term.join_left m t ps) holds = rw (none_by_epoch m holds) refl
none_by_epoch (Term.join_right t m ps) holds = rw (none_by_epoch m holds, no_pairs (holds t)) refl

-- what is found up to a turn that finds nothing is what is found by any number of turns, after the last of which nothing is new
module _ (f : List Record → List Record) (none : f [] ≡ []) (xs : List Record) (n k : ℕ) (ends : (found_by f k xs).latest ≡ []) (quiet : (found_by f (suc n) xs).latest ≡ []) where
  same_end : (found_by f k xs).all ≡ (found_by f n xs).all
  same_end = by (nat_lt n k) refl
    where
      last_adds_nothing : (found_by f (suc n) xs).all ≡ (found_by f n xs).all
      last_adds_nothing = ap (λ (ys : List Record). (found_by f n xs).all ++ ys) quiet ∙ append-nil (found_by f n xs).all

      by : (b : Bool) → nat_lt n k ≡ b → (found_by f k xs).all ≡ (found_by f n xs).all
      by true e =
          let later : k ≡ (k - suc n) + suc n = let l = ltb-true n k e in omega arith in
          ap (λ j. (found_by f j xs).all) later ∙ closure_ends f none xs (suc n) (k - suc n) quiet ∙ last_adds_nothing
      by false e =
          let later : n ≡ (n - k) + k = let l = ltb-false n k e in omega arith in
          sym (ap (λ j. (found_by f j xs).all) later ∙ closure_ends f none xs k (n - k) ends)

pub recursion_ends : (turns k : ℕ) (t : Table) (m : Term) (holds : Contents) → (found_by (term_rows m holds) k (holds t)).latest ≡ [] → (found_by (term_rows m holds) (suc turns) (holds t)).latest ≡ [] →
    (found_by (term_rows m holds) k (holds t)).all ≡ rows_of (Query.recursive turns t m) holds
unfolding rows_of
recursion_ends turns k t m holds e q = same_end (term_rows m holds) (none_of_term m holds) (holds t) turns k e q

pub epochs_end : (turns k : ℕ) (t : Table) (m : Term) (holds : Contents) → (found_by (term_rows_by_epoch m holds) k (holds t)).latest ≡ [] → (found_by (term_rows_by_epoch m holds) (suc turns) (holds t)).latest ≡ [] →
    (found_by (term_rows_by_epoch m holds) k (holds t)).all ≡ rows_by_epoch (Query.recursive turns t m) holds
unfolding rows_by_epoch
epochs_end turns k t m holds e q = same_end (term_rows_by_epoch m holds) (none_by_epoch m holds) (holds t) turns k e q
