-- Names in scope.
use Rattle.std.proofs.Common.{◌≡◌, ℕ, zero, suc, ◌-◌, ◌<◌, ◌≤◌, true, false, cond, List, [], ◌∷◌, ◌++◌, length, get_or, take, refl, sym, ap, ◌∙◌, arith}
use Rattle.std.proofs.Math.Seq.{take-length}
use Rattle.semantics.specs.Meaning.{same_name}
use Rattle.semantics.specs.Query.{Name}
use Rattle.sql_meaning.specs.Script.{Table}
use Rattle.sql_meaning.specs.Translation.{Tables, stands}
use Rattle.sql.specs.Shown.{Known, names_from, names_of, shown_table, with_entry}
use Rattle.sql.specs.declared.scope.Entry.{Entry}

pub names_append : (names : Tables) (xs ys : List Entry) → names_from names (xs ++ ys) ≡ names_from (names_from names xs) ys
names_append names [] ys = refl
names_append names (x ∷ xs) ys = names_append (stands x.name (shown_table x.table) names) xs ys

pub names_bound : (k : Known) (e : Entry) → names_of (with_entry k e) ≡ stands e.name (shown_table e.table) (names_of k)
names_bound k e = names_append (λ x. Table.given k.inputs) k.entries (e ∷ [])

pub last_stands : (names : Tables) (es : List Entry) (i : ℕ) (e : Entry) → i < length es → e ≡ get_or es i e → names_from names (take (suc i) es) ≡ stands e.name (shown_table e.table) (names_from names (take i es))
last_stands names [] i e h q = absurd (omega arith)
last_stands names (x ∷ es) zero e h q = ap (λ (y : Entry). stands y.name (shown_table y.table) names) (sym q)
last_stands names (x ∷ es) (suc i) e h q = last_stands (stands x.name (shown_table x.table) names) es i e (omega arith) q

module _ (k : Known) (x : Name) where
  abbrev base : Tables
  base y = Table.given k.inputs

  -- what the name stands for is told by the first n entries
  abbrev pub IsTold : ℕ → Type 0
  IsTold n = (n ≤ length k.entries) × (names_of k x ≡ names_from base (take n k.entries) x)

  told_by_last : (n : ℕ) (e : Entry) → 0 < n → e ≡ get_or k.entries (n - 1) e → IsTold n → names_of k x ≡ cond (same_name e.name x) (shown_table e.table) (names_from base (take (n - 1) k.entries) x)
  told_by_last n e p q h =
      let m : n ≡ suc (n - 1) = omega arith in
      h.1 ∙ ap (λ j. names_from base (take j k.entries) x) m ∙ ap (λ (names : Tables). names x) (last_stands base k.entries (n - 1) e (omega (arith, h.0)) q)

  pub told_here : (n : ℕ) (e : Entry) → 0 < n → e ≡ get_or k.entries (n - 1) e → IsTold n → same_name e.name x ≡ true → names_of k x ≡ shown_table e.table
  told_here n e p q h s = told_by_last n e p q h ∙ ap (λ b. cond b (shown_table e.table) (names_from base (take (n - 1) k.entries) x)) s

  pub told_before : (n : ℕ) (e : Entry) → 0 < n → e ≡ get_or k.entries (n - 1) e → IsTold n → same_name e.name x ≡ false → IsTold (n - 1)
  told_before n e p q h s =
      (omega (arith, h.0), told_by_last n e p q h ∙ ap (λ b. cond b (shown_table e.table) (names_from base (take (n - 1) k.entries) x)) s)

  pub told_first : (n : ℕ) → n ≡ length k.entries → IsTold n
  told_first n e = (omega arith, ap (λ (es : List Entry). names_from base es x) (sym (take-length k.entries) ∙ ap (λ j. take j k.entries) (sym e)))

  pub told_nowhere : (n : ℕ) → n ≤ 0 → IsTold n → names_of k x ≡ Table.given k.inputs
  told_nowhere n z h = let m : n ≡ 0 = omega arith in h.1 ∙ ap (λ j. names_from base (take j k.entries) x) m
