-- What was handed out epoch by epoch are the epochs of the text.
use Rattle.std.proofs.Common.{◌≡◌, ◌++◌, ◌∙◌, ℕ, List, [], ◌∷◌, Option, Some, None, refl, sym, ap, append_assoc, inl, inr}
use Rattle.std.specs.Prelude.{◌⊎◌}
use Rattle.std.proofs.lemmas.List.{append-nil}
use Rattle.csv.specs.Reading.{strip_bom}
use Rattle.csv_strict.specs.Strict.{IsStrict, run}
use Rattle.csv_strict.specs.declared.state.State.{State}
use Rattle.csv_strict.specs.declared.state.State.TheVariants.{Record}
use Rattle.csv_strict.proofs.Runs.{run-append}
use Rattle.csv_epochs.specs.Cells.{cells}
use Rattle.csv_epochs.specs.Epochs.{AreEpochs, Differs, EndsRecord, HandsOut, Held, IsHeader, cell_of, lines, plus, text_of}
use Rattle.csv_epochs.specs.declared.epoch.Epoch.{Epoch}
use Rattle.csv_epochs.proofs.Heads.{head-strip}
use Rattle.csv_epochs.proofs.Readings.{cells-append}

-- whole records, and a strict text behind them
ends-strict : (body behind : List ℕ) → EndsRecord body → IsStrict behind → IsStrict (body ++ behind)
ends-strict body behind ends strict =
    (strict.0, run-append (Some Record) body behind ∙ (ap (λ (o : Option State). run o behind) ends ∙ strict.1), strict.2)

one-strict : (body behind : List ℕ) → IsStrict body → IsStrict behind → (EndsRecord body ⊎ (behind ≡ [])) → IsStrict (body ++ behind)
one-strict body behind first strict (inl ends) = ends-strict body behind ends strict
one-strict body behind first strict (inr none) = rw (none, append-nil body) first

-- the bytes of epochs are strict
pub epochs-strict : (column : ℕ) (header : List ℕ) (before : ℕ) (bytes : List ℕ) (epochs : List Epoch) → AreEpochs column header before bytes epochs → IsStrict bytes
unfolding run
epochs-strict column header before bytes [] e = rw e (Record, refl, refl)
epochs-strict column header before bytes (epoch ∷ more) e =
    let body : List ℕ = e.0 in
    let behind : List ℕ = e.1 in
    let rest : IsStrict behind = epochs-strict column header (plus before (lines body)) behind more e.6 in
    let first : IsStrict body = e.3.strict in
    rw e.2 (one-strict body behind first rest e.4)

differs-more : (cell next : Option (List ℕ)) (found : List (Option (List ℕ))) → Differs cell (next ∷ []) → Differs cell (next ∷ found)
differs-more None next found d = tt
differs-more (Some cell) next found d = d

-- the record behind an epoch is of another one, whatever comes behind that record
next-differs : (column : ℕ) (cell next : Option (List ℕ)) (held more : List ℕ) → EndsRecord held → cells column held ≡ next ∷ [] → Differs cell (next ∷ [])
    → IsStrict (held ++ more) → Differs cell (cells column (held ++ more))
next-differs column cell next held more ends is differs strict =
    let behind : run (Some Record) more ≡ Some strict.0 = sym (run-append (Some Record) held more ∙ ap (λ (o : Option State). run o more) ends) ∙ strict.1 in
    let all : cells column (held ++ more) ≡ next ∷ cells column more =
    cells-append column held more strict.0 ends behind ∙ ap (λ (c : List (Option (List ℕ))). c ++ cells column more) is in
    rw all (differs-more cell next (cells column more) differs)

-- an epoch that was handed out, and the epochs of what is held and comes after it
pub next-epoch : (old new : Held) (piece : List ℕ) (epoch : Epoch) (behind more : List ℕ) (epochs : List Epoch) → HandsOut old new piece epoch behind
    → AreEpochs new.column new.header new.before (new.bytes ++ (behind ++ more)) epochs
    → (bytes : List ℕ) × (text_of old ++ (piece ++ more) ≡ new.header ++ bytes) × AreEpochs new.column new.header old.before bytes (epoch ∷ epochs)
next-epoch old new piece epoch behind more epochs h e =
    let rest : List ℕ = new.bytes ++ (behind ++ more) in
    let strict : IsStrict rest = epochs-strict new.column new.header new.before rest epochs e in
    let differs : Differs (cell_of epoch) (cells new.column rest) =
    next-differs new.column (cell_of epoch) h.next new.bytes (behind ++ more) h.next_ends h.next_is h.differs strict in
    let text : text_of old ++ (piece ++ more) ≡ new.header ++ (h.body ++ rest) =
    sym (append_assoc (text_of old) piece more) ∙ (ap (λ (t : List ℕ). t ++ more) h.all
    ∙ (append_assoc new.header (h.body ++ (new.bytes ++ behind)) more
    ∙ ap (λ (t : List ℕ). new.header ++ t) (append_assoc h.body (new.bytes ++ behind) more ∙ ap (λ (t : List ℕ). h.body ++ t) (append_assoc new.bytes behind more)))) in
    (h.body ++ rest, text, (h.body, rest, refl, h.is_epoch, inl h.ends, differs, rw (← h.before) e))

-- a header row and epochs are a strict text
pub all-strict : (column : ℕ) (header : List ℕ) (before : ℕ) (bytes : List ℕ) (epochs : List Epoch) → IsHeader column header
    → AreEpochs column header before bytes epochs → IsStrict (strip_bom (header ++ bytes))
all-strict column header before bytes epochs head e =
    rw (head-strip column header bytes head) (ends-strict (strip_bom header) bytes head.ends (epochs-strict column header before bytes epochs e))
