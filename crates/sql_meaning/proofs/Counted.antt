-- A script has at most as many tables as the count says.
use Rattle.std.proofs.Common.{ℕ, zero, suc, ◌+◌, ◌*◌, ◌≤◌, Bool, true, false, cond, List, [], ◌∷◌, length, arith}
use Rattle.semantics.specs.Meaning.{repeated}
use Rattle.semantics.specs.Query.{Name, Loop, Rel, Let, Output, Program}
use Rattle.sql_meaning.specs.Script.{Table, Query, Written}
use Rattle.sql_meaning.specs.Translation.{Tables, stands, Finding, finding_first, finding_next, written_loop, is_linear, is_recursion, WrittenTerm, written, written_term, input_tables, Scope, after_lets, written_outputs, script_of}
use Rattle.sql_meaning.specs.Count.{one_at_least, loop_count, table_count, side_count, lets_count, outputs_count, program_count}

-- a number of tables that a turn adds at most
abbrev pub AddsAtMost : ℕ → (Table → List Query → Written) → Type 0
AddsAtMost m turn = (t : Table) (qs : List Query) → length (turn t qs).tables ≤ length qs + m

least_one : (m : ℕ) → m ≤ one_at_least m
least_one zero = omega arith
least_one (suc m) = omega arith

turns_counted : (m : ℕ) (turn : Table → List Query → Written) → AddsAtMost m turn → (a : Written) (n : ℕ) → length (repeated (λ (s : Written). turn s.result s.tables) n a).tables ≤ length a.tables + n * one_at_least m
turns_counted m turn h a zero = omega arith
turns_counted m turn h a (suc n) =
    let s = repeated (λ (s : Written). turn s.result s.tables) n a in
    omega (arith, least_one m, h s.result s.tables, turns_counted m turn h a n)

found_counted : (m : ℕ) (turn : Table → List Query → Written) → AddsAtMost m turn → (a : Written) (n : ℕ) →
    length (repeated (λ (f : Finding). finding_next f (turn f.latest f.tables)) n (finding_first a)).tables ≤ suc (length a.tables) + n * (2 + m)
found_counted m turn h a zero = omega arith
found_counted m turn h a (suc n) =
    let f = repeated (λ (f : Finding). finding_next f (turn f.latest f.tables)) n (finding_first a) in
    omega (arith, h f.latest f.tables, found_counted m turn h a n)

loop_counted : (l : Loop) (m k n : ℕ) (turn : Table → List Query → Written) → AddsAtMost m turn → (a : Written) (i : ℕ) → length a.tables ≤ i + k → length (written_loop l n turn a).tables ≤ i + loop_count l n k m
loop_counted Loop.iterate m k n turn h a i e = omega (arith, e, turns_counted m turn h a n)
loop_counted Loop.closure m k n turn h a i e = omega (arith, e, found_counted m turn h a n)

-- either of two
either_written : (b : Bool) (s t : Written) (i k l : ℕ) → length s.tables ≤ i + k → length t.tables ≤ i + l → length (cond b s t).tables ≤ i + cond b k l
either_written true s t i k l h j = h
either_written false s t i k l h j = j

either_term : (b : Bool) (s t : WrittenTerm) (i k l : ℕ) → length s.tables ≤ i + k → length t.tables ≤ i + l → length (cond b s t).tables ≤ i + cond b k l
either_term true s t i k l h j = h
either_term false s t i k l h j = j

module _ (recursive : Bool) where
  mutual
    unfolding written

    pub written_counted : (r : Rel) (tables : Tables) (qs : List Query) → length (written recursive r tables qs).tables ≤ length qs + table_count recursive r
    written_counted (Rel.named x) tables qs = omega arith
    written_counted (Rel.select r ss) tables qs = omega (arith, written_counted r tables qs)
    written_counted (Rel.filter r c) tables qs = omega (arith, written_counted r tables qs)
    written_counted (Rel.concat p q) tables qs = omega (arith, written_counted p tables qs, written_counted q tables (written recursive p tables qs).tables)
    written_counted (Rel.join p q ps) tables qs = omega (arith, written_counted p tables qs, written_counted q tables (written recursive p tables qs).tables)
    written_counted (Rel.group r ks as') tables qs = omega (arith, written_counted r tables qs)
    written_counted (Rel.distinct r) tables qs = omega (arith, written_counted r tables qs)
    written_counted (Rel.except p q) tables qs = omega (arith, written_counted p tables qs, written_counted q tables (written recursive p tables qs).tables)
    written_counted (Rel.intersect p q) tables qs = omega (arith, written_counted p tables qs, written_counted q tables (written recursive p tables qs).tables)
    written_counted (Rel.loop l n x r b) tables qs =
        either_written (is_recursion recursive l n x b) _ _ (length qs) (suc (table_count recursive r + side_count recursive x b)) (loop_count l n (table_count recursive r) (table_count recursive b))
        (omega (arith, written_counted r tables qs, term_counted x b tables (written recursive r tables qs).tables))
        (loop_counted l (table_count recursive b) (table_count recursive r) n (λ t made. written recursive b (stands x t tables) made) (λ t made. written_counted b (stands x t tables) made)
        (written recursive r tables qs) (length qs) (written_counted r tables qs))

    term_counted : (x : Name) (r : Rel) (tables : Tables) (qs : List Query) → length (written_term recursive x r tables qs).tables ≤ length qs + side_count recursive x r
    term_counted x (Rel.named y) tables qs = omega arith
    term_counted x (Rel.select r ss) tables qs = omega (arith, term_counted x r tables qs)
    term_counted x (Rel.filter r c) tables qs = omega (arith, term_counted x r tables qs)
    term_counted x (Rel.concat p q) tables qs = omega arith
    term_counted x (Rel.join p q ps) tables qs =
        either_term (is_linear x p) _ _ (length qs) (side_count recursive x p + table_count recursive q) (table_count recursive p + side_count recursive x q)
        (omega (arith, term_counted x p tables qs, written_counted q tables (written_term recursive x p tables qs).tables))
        (omega (arith, written_counted p tables qs, term_counted x q tables (written recursive p tables qs).tables))
    term_counted x (Rel.group r ks as') tables qs = omega arith
    term_counted x (Rel.distinct r) tables qs = omega arith
    term_counted x (Rel.except p q) tables qs = omega arith
    term_counted x (Rel.intersect p q) tables qs = omega arith
    term_counted x (Rel.loop l n y r b) tables qs = omega arith

  lets_counted : (ls : List Let) (s : Scope) → length (after_lets recursive ls s).tables ≤ length s.tables + lets_count recursive ls
  unfolding after_lets
  lets_counted [] s = omega arith
  lets_counted (l ∷ ls) s =
      let w = written recursive l.value s.names s.tables in
      omega (arith, written_counted l.value s.names s.tables, lets_counted ls (record { names = stands l.name w.result s.names; tables = w.tables }))

  outputs_counted : (os : List Output) (names : Tables) (qs : List Query) → length (written_outputs recursive os names qs).tables ≤ length qs + outputs_count recursive os
  unfolding written_outputs
  outputs_counted [] names qs = omega arith
  outputs_counted (o ∷ os) names qs = omega (arith, written_counted o.value names qs, outputs_counted os names (written recursive o.value names qs).tables)

  pub script_counted : (p : Program) → length (script_of recursive p).tables ≤ program_count recursive p
  unfolding script_of
  script_counted p =
      let s : Scope = record { names = input_tables p.inputs 0; tables = [] } in
      omega (arith, lets_counted p.lets s, outputs_counted p.outputs (after_lets recursive p.lets s).names (after_lets recursive p.lets s).tables)
