-- A text that is taken piece by piece, and the epochs that are handed out.
use Rattle.std.proofs.Common.{◌≡◌, ◌++◌, ◌∙◌, ◌+◌, ℕ, List, [], ◌∷◌, true, false, Option, Some, None, refl, sym, ap, append_assoc, inl, inr, subst}
use Rattle.std.specs.Prelude.{◌⊎◌}
use Rattle.std.proofs.lemmas.List.{append-nil, append_cancel_left}
use Rattle.csv_strict.specs.Strict.{run}
use Rattle.csv_strict.specs.declared.state.State.{State}
use Rattle.csv_strict.specs.declared.state.State.TheVariants.{Record}
use Rattle.csv_strict.proofs.Runs.{run-append}
use Rattle.csv_epochs.specs.Cells.{Reading, cells, read_all}
use Rattle.csv_epochs.specs.Epochs.{AreEpochs, Differs, EndsRecord, HandsOut, Held, IsEpoch, IsHeader, Takes, cell_of, lines, plus, text_of}
use Rattle.csv_epochs.specs.Taken.{AreEpochsOf, AreFirst, AreFirstOf, IsBehind, IsInHeader, IsTaken}
use Rattle.csv_epochs.specs.declared.epoch.Epoch.{Epoch}
use Rattle.csv_epochs.proofs.Readings.{cells-append, read-run, state_in}

differs-more : (cell next : Option (List ℕ)) (found : List (Option (List ℕ))) → Differs cell (next ∷ []) → Differs cell (next ∷ found)
differs-more None next found d = tt
differs-more (Some cell) next found d = d

differs-none : (cell : Option (List ℕ)) → Differs cell []
differs-none None = tt
differs-none (Some cell) = tt

unread : (o : Option Reading) → state_in o ≡ None → o ≡ None
unread None e = refl
unread (Some r) e = let bad : Some r.state ≡ None = e in cc bad

differs-on : (column : ℕ) (cell next : Option (List ℕ)) (held more : List ℕ) (o : Option State) → run (Some Record) more ≡ o → EndsRecord held → cells column held ≡ next ∷ []
    → Differs cell (next ∷ []) → Differs cell (cells column (held ++ more))
differs-on column cell next held more (Some s) behind ends is differs =
    let all : cells column (held ++ more) ≡ next ∷ cells column more =
    cells-append column held more s ends behind ∙ ap (λ (c : List (Option (List ℕ))). c ++ cells column more) is in
    rw all (differs-more cell next (cells column more) differs)
differs-on column cell next held more None behind ends is differs =
    let none : run (Some Record) (held ++ more) ≡ None = run-append (Some Record) held more ∙ (ap (λ (o : Option State). run o more) ends ∙ behind) in
    let no : read_all column (held ++ more) ≡ None = unread (read_all column (held ++ more)) (read-run column _ (held ++ more) ∙ none) in
    rw no (differs-none cell)

-- the record behind an epoch is of another one, whatever comes behind that record
pub differs-always : (column : ℕ) (cell next : Option (List ℕ)) (held more : List ℕ) → EndsRecord held → cells column held ≡ next ∷ [] → Differs cell (next ∷ [])
    → Differs cell (cells column (held ++ more))
differs-always column cell next held more ends is differs = differs-on column cell next held more (run (Some Record) more) refl ends is differs

-- one more epoch
pub first-push : (column : ℕ) (header : List ℕ) (before : ℕ) (bytes : List ℕ) (epochs : List Epoch) (after : ℕ) (behind body rest : List ℕ) (epoch : Epoch)
    → AreFirst column header before bytes epochs after behind → behind ≡ body ++ rest → IsEpoch column header after body epoch → EndsRecord body
    → Differs (cell_of epoch) (cells column rest) → AreFirst column header before bytes (epochs ++ epoch ∷ []) (plus after (lines body)) rest
unfolding AreFirst
first-push column header before bytes [] after behind body rest epoch (count, same) cut is ends differs =
    (body, rest, sym same ∙ cut, rw (← count) is, inl ends, differs, rw count (refl, refl))
first-push column header before bytes (e ∷ epochs) after behind body rest epoch (b, r, c, i, w, d, tail) cut is ends differs =
    (b, r, c, i, w, d, first-push column header (plus before (lines b)) r epochs after behind body rest epoch tail cut is ends differs)

-- no epoch yet
pub first-none : (column : ℕ) (header : List ℕ) (before : ℕ) (bytes : List ℕ) → AreFirst column header before bytes [] before bytes
unfolding AreFirst
first-none column header before bytes = (refl, refl)

-- the first epochs and those of what is behind them
pub first-then : (column : ℕ) (header : List ℕ) (before : ℕ) (bytes : List ℕ) (epochs more : List Epoch) (after : ℕ) (behind : List ℕ)
    → AreFirst column header before bytes epochs after behind → AreEpochs column header after behind more → AreEpochs column header before bytes (epochs ++ more)
unfolding AreFirst
first-then column header before bytes [] more after behind (count, same) others = rw (← count, ← same) others
first-then column header before bytes (e ∷ epochs) more after behind (b, r, c, i, w, d, tail) others =
    (b, r, c, i, w, d, first-then column header (plus before (lines b)) r epochs more after behind tail others)

-- nothing was taken
pub taken-none : (held : Held) → held.has_header ≡ false → held.header ≡ [] → held.bytes ≡ [] → held.before ≡ 0 → IsTaken held [] [] []
taken-none held has header bytes before = inl (record { has_header = has; none = refl; all = rw (header, bytes) refl; before = before })

-- a piece comes
pub taken-more : (held : Held) (text piece : List ℕ) (epochs : List Epoch) → IsTaken held text [] epochs → IsTaken held (text ++ piece) piece epochs
taken-more held text piece epochs (inl i) =
    inl (record { has_header = i.has_header; none = i.none; all = ap (λ (t : List ℕ). t ++ piece) (i.all ∙ append-nil (text_of held)); before = i.before })
taken-more held text piece epochs (inr b) = inr (record {
  has_header = b.has_header;
  is_header = b.is_header;
  records = b.records ++ piece;
  all = ap (λ (t : List ℕ). t ++ piece) b.all ∙ append_assoc held.header b.records piece;
  first = λ more. rw (append_assoc b.records piece more) (b.first (piece ++ more));
})

-- the whole piece is taken
pub taken-on : (old new : Held) (text left : List ℕ) (epochs : List Epoch) → IsTaken old text left epochs → Takes old new left → IsTaken new text [] epochs
taken-on old new text left epochs (inl i) t = header-on new.has_header refl
  where
    header-on : (b : _) → new.has_header ≡ b → IsTaken new text [] epochs
    header-on false e = inl (record { has_header = e; none = i.none; all = i.all ∙ (sym t.all ∙ sym (append-nil (text_of new))); before = t.before ∙ i.before })
    header-on true e = inr (record {
      has_header = e;
      is_header = inr i.none;
      records = new.bytes;
      all = i.all ∙ sym t.all;
      first = λ more. rw (i.none, t.before ∙ i.before) (first-none new.column new.header 0 (new.bytes ++ more));
    })
taken-on old new text left epochs (inr b) t =
    let header : new.header ≡ old.header = (t.header b.has_header).1 in
    let bytes : new.bytes ≡ old.bytes ++ left = append_cancel_left old.header new.bytes (old.bytes ++ left)
    (ap (λ (h : List ℕ). h ++ new.bytes) (sym header) ∙ (t.all ∙ append_assoc old.header old.bytes left)) in
    inr (record {
      has_header = (t.header b.has_header).0;
      is_header = rw (t.goes_on.0, header) b.is_header;
      records = b.records;
      all = b.all ∙ ap (λ (h : List ℕ). h ++ b.records) (sym header);
      first = λ more. rw (t.goes_on.0, header, t.before, bytes, append_assoc old.bytes left more) (b.first more);
    })

-- an epoch is handed out
pub taken-out : (old new : Held) (text left behind : List ℕ) (epochs : List Epoch) (epoch : Epoch) → IsTaken old text left epochs → HandsOut old new left epoch behind
    → IsTaken new text behind (epochs ++ epoch ∷ [])
taken-out old new text left behind epochs epoch (inl i) h = inr (record {
  has_header = h.has_header;
  is_header = inl h.is_header;
  records = h.body ++ (new.bytes ++ behind);
  all = i.all ∙ h.all;
  first = λ more.
      let rest : List ℕ = new.bytes ++ (behind ++ more) in
      let cut : (h.body ++ (new.bytes ++ behind)) ++ more ≡ h.body ++ rest =
      append_assoc h.body (new.bytes ++ behind) more ∙ ap (λ (t : List ℕ). h.body ++ t) (append_assoc new.bytes behind more) in
      rw (i.none, h.before) (first-push new.column new.header 0 ((h.body ++ (new.bytes ++ behind)) ++ more) [] old.before
      ((h.body ++ (new.bytes ++ behind)) ++ more) h.body rest epoch (rw i.before (first-none new.column new.header 0 ((h.body ++ (new.bytes ++ behind)) ++ more)))
      cut h.is_epoch h.ends (differs-always new.column (cell_of epoch) h.next new.bytes (behind ++ more) h.next_ends h.next_is h.differs));
})
taken-out old new text left behind epochs epoch (inr b) h =
    let header : new.header ≡ old.header = (h.header b.has_header).1 in
    let bytes : old.bytes ++ left ≡ h.body ++ (new.bytes ++ behind) = append_cancel_left old.header (old.bytes ++ left) (h.body ++ (new.bytes ++ behind))
    (sym (append_assoc old.header old.bytes left) ∙ (h.all ∙ ap (λ (t : List ℕ). t ++ (h.body ++ (new.bytes ++ behind))) header)) in
    inr (record {
      has_header = h.has_header;
      is_header = inl h.is_header;
      records = b.records;
      all = b.all ∙ ap (λ (t : List ℕ). t ++ b.records) (sym header);
      first = λ more.
          let rest : List ℕ = new.bytes ++ (behind ++ more) in
          let cut : old.bytes ++ (left ++ more) ≡ h.body ++ rest =
          sym (append_assoc old.bytes left more) ∙ (ap (λ (t : List ℕ). t ++ more) bytes
          ∙ (append_assoc h.body (new.bytes ++ behind) more ∙ ap (λ (t : List ℕ). h.body ++ t) (append_assoc new.bytes behind more))) in
          let is = rw (h.goes_on.0, header) at h.is_epoch in
          let differs = rw h.goes_on.0 at (differs-always new.column (cell_of epoch) h.next new.bytes (behind ++ more) h.next_ends h.next_is h.differs) in
          rw (h.goes_on.0, header, h.before) (first-push old.column old.header 0 (b.records ++ more) epochs old.before (old.bytes ++ (left ++ more)) h.body rest epoch
          (b.first more) cut is h.ends differs);
    })

-- no epoch leaves all the bytes
first-nothing : (column : ℕ) (header : List ℕ) (before : ℕ) (bytes : List ℕ) (epochs : List Epoch) (after : ℕ) (behind : List ℕ)
    → AreFirst column header before bytes epochs after behind → epochs ≡ [] → behind ≡ bytes
unfolding AreFirst
first-nothing column header before bytes [] after behind f e = f.1
first-nothing column header before bytes (x ∷ epochs) after behind f e = let bad : x ∷ epochs ≡ [] = e in cc bad

whole-or-none : (column : ℕ) (header records : List ℕ) (before : ℕ) (bytes : List ℕ) (epochs : List Epoch) → AreFirst column header 0 records epochs before bytes
    → (IsHeader column header ⊎ (epochs ≡ [])) → (IsHeader column header ⊎ (bytes ≡ [])) → (IsHeader column header ⊎ (records ≡ []))
whole-or-none column header records before bytes epochs f (inl is) other = inl is
whole-or-none column header records before bytes epochs f (inr none) (inl is) = inl is
whole-or-none column header records before bytes epochs f (inr none) (inr nothing) =
    inr (sym (first-nothing column header 0 records epochs before bytes f none) ∙ nothing)

-- the end of the text
pub taken-all : (held : Held) (text : List ℕ) (epochs last : List Epoch) → IsTaken held text [] epochs → (IsHeader held.column held.header ⊎ (held.bytes ≡ []))
    → AreEpochs held.column held.header held.before held.bytes last → AreEpochsOf held.column text held.header (epochs ++ last)
taken-all held text epochs last (inl i) whole e = record {
  records = held.bytes;
  cut = i.all ∙ append-nil (text_of held);
  is_header = whole;
  split = rw (i.none, ← i.before) e;
}
taken-all held text epochs last (inr b) whole e =
    let nil : held.bytes ++ ([] ++ []) ≡ held.bytes = append-nil held.bytes in
    let first = rw (nil, append-nil b.records) at (b.first []) in
    record {
      records = b.records;
      cut = b.all;
      is_header = whole-or-none held.column held.header b.records held.before held.bytes epochs first b.is_header whole;
      split = first-then held.column held.header 0 b.records epochs last held.before held.bytes first e;
    }

-- some of the text was taken
pub taken-part : (held : Held) (text left : List ℕ) (epochs : List Epoch) → IsTaken held text left epochs → AreFirstOf held.column text epochs
taken-part held text left epochs (inl i) = record {
  header = text;
  records = [];
  cut = sym (append-nil text);
  is_header = inr i.none;
  after = 0;
  behind = [];
  first = rw i.none (first-none held.column text 0 []);
}
taken-part held text left epochs (inr b) = record {
  header = held.header;
  records = b.records;
  cut = b.all;
  is_header = b.is_header;
  after = held.before;
  behind = held.bytes ++ (left ++ []);
  first = let first = rw (append-nil b.records) at (b.first []) in first;
}
