-- Equations that depend only on pointstamps of lower rank have one solution.
use Rattle.std.proofs.Common.{◌≡◌, ℕ, ◌≤◌, nat_le, Bool, true, false, List, [], length, refl, sym, ap, subst, le-leb}
use Rattle.std.proofs.lemmas.Bool.{and_from, true≢false}
use mathlib.Core.WellFounded.{Acc, fix, fix-eq}
use Rattle.semantics.specs.Multiset.{Record, ◌≈◌}
use Rattle.semantics.specs.Time.{is_before}
use Rattle.semantics.proofs.MultisetSums.{≈-sym, ≈-trans, ≈-from}
use Rattle.semantics.proofs.LexicographicOrder.{under, Under, under_well_founded}

-- a value, if a test passes
abbrev choose : {A : Type 0} (b : Bool) → (b ≡ true → A) → A → A
choose true k a = k refl
choose false k a = a

choose_yes : {A : Type 0} (b : Bool) (x a : A) → b ≡ true → choose b (λ _. x) a ≡ x
choose_yes true x a e = refl
choose_yes false x a e = absurd (true≢false (sym e))

module _ {P : Type 0} (rank : P → List ℕ) (n : ℕ) (Valid : P → Type 0) (short : (p : P) → Valid p → length (rank p) ≤ n)
    (eqn : (P → List Record) → P → List Record)
    (reads : (f h : P → List Record) (p : P) → Valid p → ((q : P) → Valid q → is_before (rank q) (rank p) ≡ true → f q ≈ h q) → eqn f p ≈ eqn h p) where
  is_under : (q : P) (xs : List ℕ) → Valid q → is_before (rank q) xs ≡ true → Under n (rank q) xs
  is_under q xs v l = and_from (is_before (rank q) xs) (nat_le (length (rank q)) n) l (le-leb (length (rank q)) n (short q v))

  pub one_solution : (f h : P → List Record) → ((p : P) → Valid p → f p ≈ eqn f p) → ((p : P) → Valid p → h p ≈ eqn h p) → (p : P) → Valid p → f p ≈ h p
  one_solution f h ef eh p v = (elim ((under_well_founded n).apply (rank p)) as (λ xs a. (p : P) → rank p ≡ xs → Valid p → f p ≈ h p) [
    | Acc.intro xs (k → ih) ↦ λ p e v. ≈-trans (ef p v) (≈-trans (reads f h p v (λ q w l. ih (rank q) (subst (Under n (rank q)) e (is_under q (rank p) w l)) q refl w)) (≈-sym (eh p v)))
  ]) p refl v

  -- the solution at a rank, from its values below
  pub build : (xs : List ℕ) → ((ys : List ℕ) → Under n ys xs → P → List Record) → P → List Record
  build xs rec p = eqn (λ q. choose (under n (rank q) xs) (λ e. rec (rank q) e q) []) p

  abbrev pub solution : P → List Record
  solution p = fix (under_well_founded n) build (rank p) p

  pub solution_solves : (p : P) → Valid p → solution p ≈ eqn solution p
  unfolding build
  solution_solves p v = ≈-trans (≈-from (ap (λ k. k p) (fix-eq (under_well_founded n) build (rank p))))
      (reads (λ q. choose (under n (rank q) (rank p)) (λ e. solution q) []) solution p v (λ q w l. ≈-from (choose_yes (under n (rank q) (rank p)) (solution q) [] (is_under q (rank p) w l))))

-- a property that holds wherever it holds at all lower ranks, holds everywhere
module _ {P : Type 0} (rank : P → List ℕ) (n : ℕ) (Valid : P → Type 0) (short : (p : P) → Valid p → length (rank p) ≤ n) (C : P → Type 0) (step : (p : P) → Valid p → ((q : P) → Valid q → is_before (rank q) (rank p) ≡ true → C q) → C p) where
  pub by_rank : (p : P) → Valid p → C p
  by_rank p v = (elim ((under_well_founded n).apply (rank p)) as (λ xs a. (p : P) → rank p ≡ xs → Valid p → C p) [
    | Acc.intro xs (k → ih) ↦ λ p e v. step p v (λ q w l.
        ih (rank q) (subst (Under n (rank q)) e (and_from (is_before (rank q) (rank p)) (nat_le (length (rank q)) n) l (le-leb (length (rank q)) n (short q w)))) q refl w)
  ]) p refl v
