-- The records that a reader of a text has read.
use Rattle.std.proofs.Common.{Bor, ◌≡◌, ◌∙◌, ◌++◌, ℕ, List, [], ◌∷◌, Bool, true, false, Option, Some, None, option_map, sym, ap, subst, inl, inr}
use Rattle.csv.specs.Machine.{Read, next_record}
use Rattle.csv.specs.Reading.{AreRecords, ReadRecord, default_config, strip_bom}
use Rattle.csv.specs.Reading.{Reached, names_headers, reader_config, reader_headers, reader_state, reader_trim, source_of, took_first}
use Rattle.csv.specs.declared.parser.State.TheVariants as st
use Rattle.csv.specs.declared.reader.Reader.{Reader}
use Rattle.csv.specs.declared.reader.Trim.TheVariants as trim
use Rattle.csv.proofs.ReadFacts.{rows-end, rows-more}
use Rattle.csv_cells.proofs.Rows.{none-reached}
use Rattle.tables.specs.Tables.{BeginsWith, HasHeader, HasRead}

abbrev pub held : Bor (List ℕ) → Option (List ℕ)
held s = Some s.now

-- before the first
pub none-read : (text : List ℕ) (reader : Reader (Bor (List ℕ))) → reader_trim reader ≡ trim.None → names_headers reader ≡ false → reader_headers reader ≡ None
    → reader_config reader ≡ default_config → source_of held reader ≡ Some (strip_bom text) → reader_state reader ≡ st.StartRecord → HasRead text [] reader
none-read text reader trims names headers config source start = record {
  trim = trims;
  ready = inr (inr (names, headers));
  config = config;
  rest = strip_bom text;
  source = source;
  reached = rw start (none-reached st.StartRecord (strip_bom text));
}

-- one more
pub one-read : (text : List ℕ) (rows : List (List (List ℕ))) (cells : List (List ℕ)) (old new : Reader (Bor (List ℕ))) (more : Bool) → more ≡ true → HasRead text rows old
    → ReadRecord held old new more cells → took_first new ≡ true → HasRead text (rows ++ cells ∷ []) new
one-read text rows cells old new more on h read first =
    let step = subst (λ (b : Bool). ReadRecord held old new b cells) on read in
    let m = rows-more held old new cells default_config st.StartRecord (strip_bom text) h.rest rows h.config h.source h.reached step in
    record { trim = step.3 ∙ h.trim; ready = inl first; config = step.2 ∙ h.config; rest = m.0; source = m.1; reached = m.2 }

-- after the last
pub all-read : (text : List ℕ) (rows : List (List (List ℕ))) (cells : List (List ℕ)) (old new : Reader (Bor (List ℕ))) (more : Bool) → more ≡ false → HasRead text rows old
    → ReadRecord held old new more cells → AreRecords default_config st.StartRecord (strip_bom text) rows
all-read text rows cells old new more off h read =
    let step = subst (λ (b : Bool). ReadRecord held old new b cells) off read in
    (reader_state old, h.rest, h.reached, rows-end held old new cells default_config h.rest h.config h.source step)

pub begins : (text : List ℕ) (rows : List (List (List ℕ))) (reader : Reader (Bor (List ℕ))) → HasRead text rows reader → BeginsWith text rows
begins text rows reader h = (reader_state reader, h.rest, h.reached)

one-header : (a b : List (List ℕ)) → Some a ≡ Some b → a ≡ b
one-header a b e = cc e

-- the first record has the names of the header row, or the text has none
pub other-header : (text : List ℕ) (names cells : List (List ℕ)) (reader : Reader (Bor (List ℕ))) → HasRead text (cells ∷ []) reader → (cells ≡ names → ⊥) → HasHeader names text → ⊥
unfolding Reached
other-header text names cells reader h other is =
    let here : HasHeader cells text = ap (λ (o : Option Read). option_map (λ (p : Read). p.0) o) h.reached.1 ∙ ap Some (sym h.reached.2) in
    other (one-header cells names (sym here ∙ is))

pub no-header : (text : List ℕ) (names : List (List ℕ)) → AreRecords default_config st.StartRecord (strip_bom text) [] → HasHeader names text → ⊥
unfolding Reached
no-header text names (s2, ys, (es, ey), none) is =
    let ends : next_record default_config st.StartRecord [] [] (strip_bom text) ≡ None = rw (← es, ← ey) at none in
    let no : None ≡ Some names = sym (ap (λ (o : Option Read). option_map (λ (p : Read). p.0) o) ends) ∙ is in
    cc no
