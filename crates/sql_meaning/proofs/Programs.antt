-- The script of a program means what the program means.
use Rattle.std.proofs.Common.{◌≡◌, ℕ, zero, suc, ◌+◌, ◌≤◌, Bool, true, false, cond, List, [], ◌∷◌, map, length, slice_index_or, refl, ap, ap₂, ◌∙◌, arith}
use Rattle.std.specs.List.{AllByRecursion}
use Rattle.semantics.specs.Multiset.{Record, ◌≈◌}
use Rattle.semantics.specs.Meaning.{same_name, Names, bind, meaning, input_names, let_names, program_meaning}
use Rattle.semantics.specs.Query.{Name, Input, Let, Output, Program}
use Rattle.semantics.proofs.MultisetSums.{≈-from}
use Rattle.sql_meaning.specs.Script.{Table, Query, Script}
use Rattle.sql_meaning.specs.ScriptMeaning.{contents, answers}
use Rattle.sql_meaning.specs.Translation.{Tables, stands, written, input_tables, Scope, after_lets, written_outputs, script_of, HaveWords}
use Rattle.sql_meaning.proofs.Words.{meaning_words, bound_words}
use Rattle.sql_meaning.proofs.Relations.{Before, before_later, Agree, agree_later, agree_bound, written_means}

beyond : (tables : List (List Record)) (i : ℕ) → length tables ≤ i → slice_index_or tables i [] ≡ []
beyond [] i h = refl
beyond (t ∷ ts) zero h = absurd (omega arith)
beyond (t ∷ ts) (suc i) h = beyond ts i (omega arith)

table_words : (tables : List (List Record)) (i : ℕ) → AllByRecursion HaveWords tables → HaveWords (slice_index_or tables i [])
table_words [] i h = tt
table_words (t ∷ ts) zero h = h.0
table_words (t ∷ ts) (suc i) h = table_words ts i h.1

module _ (recursive : Bool) (given : List (List Record)) (w : AllByRecursion HaveWords given) where
  abbrev records : ℕ → List Record
  records i = slice_index_or given i []

  one_input : (x : Name) (i : ℕ) (names : Names) (tables : Tables) → Agree recursive given names tables [] → Agree recursive given (bind x (records i) names) (stands x (Table.given i) tables) []
  one_input x i names tables rest = record {
    known = λ y. known_by y (same_name x y);
    equal = λ y. equal_by y (same_name x y);
    words = bound_words x (records i) names (table_words given i w) rest.words;
  }
    where
      known_by : (y : Name) (b : Bool) → Before 0 (cond b (Table.given i) (tables y))
      known_by y true = tt
      known_by y false = rest.known y

      equal_by : (y : Name) (b : Bool) → contents [] given (cond b (Table.given i) (tables y)) ≡ cond b (records i) (names y)
      equal_by y true = refl
      equal_by y false = rest.equal y

  inputs_agree : (as' : List Input) (i : ℕ) → length given ≡ i + length as' → Agree recursive given (input_names as' i records) (input_tables as' i) []
  inputs_agree [] i e = record { known = λ y. tt; equal = λ y. beyond given i (omega arith); words = λ y. tt }
  inputs_agree (a ∷ as') i e =
      let rest = inputs_agree as' (suc i) (omega arith) in
      let here = one_input a.name i (input_names as' (suc i) records) (input_tables as' (suc i)) rest in
      record { known = here.known; equal = here.equal; words = here.words }

  lets_agree : (as' : List Let) (names : Names) (s : Scope) → Agree recursive given names s.names s.tables → Agree recursive given (let_names as' names) (after_lets recursive as' s).names (after_lets recursive as' s).tables
  unfolding let_names after_lets
  lets_agree [] names s a = a
  lets_agree (l ∷ as') names s a = lets_agree as' (bind l.name (meaning l.value names) names) _
      (agree_bound recursive given l.name names s.names s.tables (written recursive l.value s.names s.tables) (meaning l.value names) (meaning_words l.value names a.words) a (written_means recursive given l.value names s.names s.tables a))

  -- a script that keeps the tables that there were, and its answers
  record Gives (qs : List Query) (s : Script) (rows : List (List Record)) : Type 0 where
    kept : (t : Table) → Before (length qs) t → contents s.tables given t ≡ contents qs given t
    equal : answers s given ≡ rows

  outputs_give : (os : List Output) (names : Names) (tables : Tables) (qs : List Query) → Agree recursive given names tables qs → Gives qs (written_outputs recursive os tables qs) (map (λ (o : Output). meaning o.value names) os)
  unfolding written_outputs
  outputs_give [] names tables qs a = record { kept = λ t h. refl; equal = refl }
  outputs_give (o ∷ os) names tables qs a =
      let s = written recursive o.value tables qs in
      let e = written_means recursive given o.value names tables qs a in
      let rest = outputs_give os names tables s.tables (agree_later recursive given names tables qs s (meaning o.value names) a e) in
      record {
        kept = λ t h. rest.kept t (before_later (length qs) (length s.tables) t e.longer h) ∙ e.kept t h;
        equal = ap₂ (λ x xs. x ∷ xs) (rest.kept s.result e.known ∙ e.equal) rest.equal;
      }

pub script_means : (recursive : Bool) (p : Program) (output : ℕ) (tables : List (List Record)) → length tables ≡ length p.inputs → AllByRecursion HaveWords tables → slice_index_or (answers (script_of recursive p) tables) output [] ≈ program_meaning p output (λ i. slice_index_or tables i [])
unfolding script_of program_meaning
script_means recursive p output tables l w =
    let s = after_lets recursive p.lets (record { names = input_tables p.inputs 0; tables = [] }) in
    ≈-from (ap (λ (rows : List (List Record)). slice_index_or rows output []) (outputs_give recursive tables w p.outputs _ s.names s.tables (lets_agree recursive tables w p.lets _ (record { names = input_tables p.inputs 0; tables = [] }) (inputs_agree recursive tables w p.inputs 0 (omega arith)))).equal)
