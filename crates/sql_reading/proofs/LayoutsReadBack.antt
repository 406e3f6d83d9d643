-- A script and a statement read back, from the first table to the end, and can't be mistaken for one another.
use Rattle.std.proofs.Common.{◌≡◌, ℕ, Bool, true, false, cond, nat_eq, ◌||◌, List, [], ◌∷◌, ◌++◌, map, refl, sym, ap, ◌∙◌, get_or, codes}
use Rattle.std.specs.List.{AllByRecursion}
use Rattle.semantics.specs.Query.{Input}
use Rattle.sql_meaning.specs.Script.{Query}
use Rattle.sql_meaning.specs.WellFormed.{Widths}
use Rattle.sql.specs.Dialects.{dialect_of, arithmetic_of, begin_text, end_text}
use Rattle.sql.specs.Text.{with_text, making_of, opening_text, closing_text}
use Rattle.sql.specs.declared.form.Dialect.{Dialect}
use Rattle.sql.specs.declared.form.Dialect.TheVariants.{Postgres, Sqlite, Spark}
use Rattle.sql.specs.declared.form.Epochs.{Epochs}
use Rattle.sql.specs.declared.form.Form.{Form}
use Rattle.sql.specs.declared.form.Layout.{Layout}
use Rattle.sql.specs.declared.form.Layout.TheVariants.{Script, Statement}
use Rattle.sql.specs.declared.form.Making.{Making}
use Rattle.sql.specs.declared.form.Making.TheVariants.{Alone, Within}
use Rattle.sql_reading.specs.Readable.{AreNamed}
use Rattle.sql_reading.specs.Said.{Made, Result}
use Rattle.sql_reading.proofs.PrefixWords.{Text, cancel, both_ways}
use Rattle.sql_reading.proofs.ScriptsReadBack.{Fine, FineResult, SameNames, SameRows, results_same, said_made, begun, entries, entries_text, rows_text, titles, read_entries, read_results, read_titles, read_selects, none_wanted}

abbrev pub titles_of : Layout → List Result → Text
titles_of Script rs = []
titles_of Statement rs = titles rs

-- where the tables are made
abbrev pub IsOpened : Layout → Making → List Made → Type 0
IsOpened Script Alone ms = Unit {0}
IsOpened Script (Within n) ms = ⊥
IsOpened Statement Alone ms = ms ≡ []
IsOpened Statement (Within n) ms = Unit {0}

pub opened : (l : Layout) (wanted : List ℕ) (width : Widths) (qs : List Query) → IsOpened l (making_of l wanted) (entries width wanted qs)
opened Script ns width qs = tt
opened Statement [] width qs = none_wanted width qs
opened Statement (n ∷ ns) width qs = tt

end_follows : (d : Dialect) → nat_eq (get_or (end_text d) 0 0) 45 ≡ false
end_follows Postgres = refl
end_follows Sqlite = refl
end_follows Spark = refl

rows_follow : (d : Dialect) (z : Epochs) (i : List Input) (rs : List Result) → begun Alone (rows_text Script d z i rs ++ end_text d) ≡ false
rows_follow Postgres z i [] = refl
rows_follow Sqlite z i [] = refl
rows_follow Spark z i [] = refl
rows_follow d z i (r ∷ rs) = refl

selects_follow : (n : ℕ) (d : Dialect) (z : Epochs) (i : List Input) (rs : List Result) → begun (Within n) (rows_text Statement d z i rs ++ []) ≡ false
selects_follow n d z i [] = refl
selects_follow n d z i (r ∷ rs) = refl

no_dash : (d : Dialect) (z : Epochs) (i : List Input) (rs : List Result) → nat_eq (get_or (rows_text Statement d z i rs ++ []) 0 0) 45 ≡ false
no_dash d z i [] = refl
no_dash d z i (r ∷ rs) = refl

no_with : (d : Dialect) (z : Epochs) (i : List Input) (rs : List Result) → nat_eq (get_or (rows_text Statement d z i rs ++ []) 0 0) 87 ≡ false
no_with d z i [] = refl
no_with d z i (r ∷ rs) = refl

abbrev layout_in : Text → Layout
layout_in t = cond (nat_eq (get_or t 0 0) 83 || nat_eq (get_or t 0 0) 66) Script Statement

script_told : (d : Dialect) (t : Text) → layout_in (begin_text d ++ t) ≡ Script
script_told Postgres t = refl
script_told Sqlite t = refl
script_told Spark t = refl

abbrev is_script : Layout → Bool
is_script Script = true
is_script Statement = false

module _ (f : Form) (z : Epochs) (i : List Input) where
  abbrev d : Dialect
  d = dialect_of f

  abbrev said : List Made → List Made
  said ms = map (said_made (arithmetic_of f)) ms

  abbrev after : Making → Widths → List Made → List Result → Text
  after o v ms rs = with_text o ++ (entries_text f z o i v ms ++ (rows_text Statement d z i rs ++ []))

  abbrev pub body_of : Layout → Making → Widths → List Made → List Result → Text
  body_of l o v ms rs = opening_text l d ++ (titles_of l rs ++ (with_text o ++ (entries_text f z o i v ms ++ (rows_text l d z i rs ++ closing_text l d))))

  layout_told : (l : Layout) (o : Making) (v : Widths) (ms : List Made) (rs : List Result) → IsOpened l o ms → layout_in (body_of l o v ms rs) ≡ l
  layout_told Script o v ms rs h = script_told d (with_text o ++ (entries_text f z o i v ms ++ (rows_text Script d z i rs ++ end_text d)))
  layout_told Statement o v ms (r ∷ rs) h = refl
  layout_told Statement Alone v ms [] h = ap (λ (x : List Made). layout_in (entries_text f z Alone i v x ++ [])) h
  layout_told Statement (Within n) v ms [] h = refl

  no_title : (o : Making) (v : Widths) (ms : List Made) (rs : List Result) → IsOpened Statement o ms → nat_eq (get_or (after o v ms rs) 0 0) 45 ≡ false
  no_title Alone v ms rs h = ap (λ (x : List Made). nat_eq (get_or (entries_text f z Alone i v x ++ (rows_text Statement d z i rs ++ [])) 0 0) 45) h ∙ no_dash d z i rs
  no_title (Within n) v ms rs h = refl

  module _ (named : AreNamed i) (v w : Widths) (ms ns : List Made) (rs ss : List Result) (g : AllByRecursion (Fine f z i named) ms) (g' : AllByRecursion (Fine f z i named) ns)
      (h : AllByRecursion (FineResult f z i named) rs) (h' : AllByRecursion (FineResult f z i named) ss) where
    abbrev R : Text
    R = rows_text Statement d z i rs ++ []

    abbrev S : Text
    S = rows_text Statement d z i ss ++ []

    none_before : ms ≡ [] → (t : Text) → after Alone v ms rs ≡ t → R ≡ t
    none_before k t e = ap (λ (x : List Made). entries_text f z Alone i v x ++ R) (sym k) ∙ e

    none_behind : ns ≡ [] → (t : Text) → t ≡ after Alone w ns ss → t ≡ S
    none_behind k t e = e ∙ ap (λ (x : List Made). entries_text f z Alone i w x ++ S) k

    read_after : (o o' : Making) → IsOpened Statement o ms → IsOpened Statement o' ns → after o v ms rs ≡ after o' w ns ss → (said ms ≡ said ns) × SameRows rs ss
    read_after Alone Alone k l e =
        (ap said (k ∙ sym l), read_selects f z i named rs ss [] [] h h' refl refl (none_before k S (none_behind l (after Alone v ms rs) e)))
    read_after Alone (Within n) k l e =
        absurd (both_ways (nat_eq (get_or R 0 0) 87) (ap (λ t. nat_eq (get_or t 0 0) 87) (none_before k (after (Within n) w ns ss) e)) (no_with d z i rs))
    read_after (Within n) Alone k l e =
        absurd (both_ways (nat_eq (get_or S 0 0) 87) (sym (ap (λ t. nat_eq (get_or t 0 0) 87) (none_behind l (after (Within n) v ms rs) e))) (no_with d z i ss))
    read_after (Within m) (Within n) k l e =
        let made : (said ms ≡ said ns) × (R ≡ S) =
        read_entries f z i named (Within m) (Within n) tt v w ms ns R S g g' (selects_follow m d z i rs) (selects_follow n d z i ss)
        (cancel (codes "WITH ") (entries_text f z (Within m) i v ms ++ R) (entries_text f z (Within n) i w ns ++ S) e) in
        (made.0, read_selects f z i named rs ss [] [] h h' refl refl made.1)

    read_script : body_of Script Alone v ms rs ≡ body_of Script Alone w ns ss → (said ms ≡ said ns) × (rs ≡ ss)
    read_script e =
        let X : Text = rows_text Script d z i rs ++ end_text d in
        let Y : Text = rows_text Script d z i ss ++ end_text d in
        let made : (said ms ≡ said ns) × (X ≡ Y) =
        read_entries f z i named Alone Alone tt v w ms ns X Y g g' (rows_follow d z i rs) (rows_follow d z i ss)
        (cancel (begin_text d) (entries_text f z Alone i v ms ++ X) (entries_text f z Alone i w ns ++ Y) e) in
        (made.0, (read_results f z i named rs ss (end_text d) (end_text d) h h' (end_follows d) (end_follows d) made.1).0)

    read_statement : (o o' : Making) → IsOpened Statement o ms → IsOpened Statement o' ns → body_of Statement o v ms rs ≡ body_of Statement o' w ns ss → (said ms ≡ said ns) × (rs ≡ ss)
    read_statement o o' k l e =
        let names : SameNames rs ss × (after o v ms rs ≡ after o' w ns ss) =
        read_titles f z i named rs ss (after o v ms rs) (after o' w ns ss) h h' (no_title o v ms rs k) (no_title o' w ns ss l) e in
        let made : (said ms ≡ said ns) × SameRows rs ss = read_after o o' k l names.1 in
        (made.0, results_same rs ss names.0 made.1)

    pub read_body : (l l' : Layout) (o o' : Making) → IsOpened l o ms → IsOpened l' o' ns → body_of l o v ms rs ≡ body_of l' o' w ns ss → (l ≡ l') × (said ms ≡ said ns) × (rs ≡ ss)
    read_body l l' o o' k j e = by l l' o o' k j e (sym (layout_told l o v ms rs k) ∙ ap layout_in e ∙ layout_told l' o' w ns ss j)
      where
        by : (l l' : Layout) (o o' : Making) → IsOpened l o ms → IsOpened l' o' ns → body_of l o v ms rs ≡ body_of l' o' w ns ss → l ≡ l' → (l ≡ l') × (said ms ≡ said ns) × (rs ≡ ss)
        by Script Script Alone Alone k j e q = let both : (said ms ≡ said ns) × (rs ≡ ss) = read_script e in (refl, both.0, both.1)
        by Script Script Alone (Within n) k j e q = absurd j
        by Script Script (Within n) o' k j e q = absurd k
        by Script Statement o o' k j e q = absurd (both_ways (is_script Statement) (sym (ap is_script q)) refl)
        by Statement Script o o' k j e q = absurd (both_ways (is_script Statement) (ap is_script q) refl)
        by Statement Statement o o' k j e q = let both : (said ms ≡ said ns) × (rs ≡ ss) = read_statement o o' k j e in (refl, both.0, both.1)
