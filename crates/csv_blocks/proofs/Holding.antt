-- A text that is taken piece by piece.
use Rattle.std.proofs.Common.{◌≡◌, ◌<◌, ◌≤◌, ◌+◌, ◌^◌, ◌++◌, ◌∙◌, ℕ, List, [], ◌∷◌, Bool, true, false, Some, None, refl, sym, ap, inl, inr, length, length-append, take, drop, arith, add-zero, append_assoc, append-nil}
use Rattle.std.specs.Prelude.{cond, ◌↔◌}
use Rattle.std.proofs.lemmas.Bool.{cases_Bool, cases_lt}
use Rattle.std.proofs.lemmas.List.{take-append-drop}
use Rattle.csv.specs.Reading.{strip_bom}
use Rattle.csv_strict.specs.Strict.{IsRefused, run}
use Rattle.csv_strict.specs.declared.checking.Refusal.{Refusal}
use Rattle.csv_strict.specs.declared.state.State.{State}
use Rattle.csv_strict.specs.declared.state.State.TheVariants.{Record}
use Rattle.csv_blocks.specs.Blocks.{Holds, IsAt, IsFaultOf, IsLast, IsNext, IsStuck, block_of, rest_of}
use Rattle.csv_blocks.specs.Moves.{Ends, Keeps, Moves, size_of}
use Rattle.csv_blocks.specs.Texts.{AreWhole, IsScanned, lines}
use Rattle.csv_blocks.specs.declared.blocks.Blocks.{Blocks}
use Rattle.csv_blocks.specs.declared.fault.BlockFault.{BlockFault}
use Rattle.csv_blocks.specs.declared.fault.BlockFault.TheVariants.{NoMemory, Read, Count, Text}
use Rattle.csv_blocks.proofs.Marks.{short-text, strip-behind, strip-length}
use Rattle.csv_blocks.proofs.Refusals.{refused-before, refused-behind}
use Rattle.csv_blocks.proofs.Scans.{lines-append, nothing-whole, run-behind, run-on, whole-append}

-- the line feed before the block stays
pub feed-stays : (xs ys : List ℕ) → xs ≡ 10 ∷ drop 1 xs → xs ++ ys ≡ 10 ∷ drop 1 (xs ++ ys)
feed-stays [] ys e = cc e
feed-stays (x ∷ xs) ys e = let is : x ≡ 10 = cc e in ap (λ (k : ℕ). k ∷ (xs ++ ys)) is

pub block-grows : (xs ys : List ℕ) → xs ≡ 10 ∷ drop 1 xs → drop 1 (xs ++ ys) ≡ drop 1 xs ++ ys
block-grows [] ys e = cc e
block-grows (x ∷ xs) ys e = refl

both-nil : (xs ys : List ℕ) → xs ++ ys ≡ [] → (xs ≡ []) × (ys ≡ [])
both-nil [] ys e = (refl, e)
both-nil (x ∷ xs) ys e = cc e

-- the text goes on
pub holds-moves : (done text piece : List ℕ) (old new : Blocks) → Holds done old text → Moves old new (rest_of old ++ piece) → Holds done new (text ++ piece)
holds-moves done text piece old new h m = record {
  all =
      ap (λ (t : List ℕ). t ++ piece) h.all ∙ (append_assoc done (block_of old ++ rest_of old) piece
      ∙ ap (λ (t : List ℕ). done ++ t) (append_assoc (block_of old) (rest_of old) piece ∙ sym m.all));
  before = h.before;
  whole = m.whole h.whole;
  lines = m.lines ∙ h.lines;
}

-- all of a text but its rest is whole records
pub holds-run : (done text tail : List ℕ) (b : Blocks) → Holds done b text → run (Some Record) (text ++ tail) ≡ run (Some Record) (rest_of b ++ tail)
holds-run done text tail b h =
    ap (λ (t : List ℕ). run (Some Record) (t ++ tail)) h.all
    ∙ (ap (λ (t : List ℕ). run (Some Record) t) (append_assoc done (block_of b ++ rest_of b) tail)
    ∙ (run-behind done ((block_of b ++ rest_of b) ++ tail) h.before
    ∙ (ap (λ (t : List ℕ). run (Some Record) t) (append_assoc (block_of b) (rest_of b) tail) ∙ run-behind (block_of b) (rest_of b ++ tail) h.whole)))

-- a fault before the end stays
pub faulty-before : (text tail : List ℕ) (fault : BlockFault) → IsFaultOf text fault → run (Some Record) text ≡ None → IsFaultOf (text ++ tail) fault
faulty-before text tail NoMemory f stuck = tt
faulty-before text tail Read f stuck = tt
faulty-before text tail Count f stuck = omega (arith, f, lines-append text tail)
faulty-before text tail (Text r) f stuck = refused-before text tail r f stuck

-- the mark wasn't looked for: all of the text is the rest
pub record IsNew (done : List ℕ) (b : Blocks) (text : List ℕ) : Type 0 where
  pub few : length text < 3
  pub all : text ≡ rest_of b
  pub first : done ≡ []
  pub block : block_of b ≡ []
  pub lines : b.lines ≡ 0

pub is-new : (done text : List ℕ) (b : Blocks) → IsAt done b text → b.begun ≡ false → IsNew done b text
is-new done text b at fresh =
    let nil = both-nil done (block_of b) (at.none fresh) in
    let few : length text < 3 = elim (cases_lt (length text) 3) [
      | inl below ↦ below
      | inr many ↦ let e : true ≡ false = sym (at.begun.1 many) ∙ fresh in cc e
    ] in
    record {
      few = few;
      all = sym (short-text text few) ∙ (at.holds.all ∙ (rw (nil.0, nil.1) refl));
      first = nil.0;
      block = nil.1;
      lines = at.holds.lines ∙ ap lines nil.0;
    }

-- the rest of a text whose mark wasn't looked for
pub holds-new : (done text : List ℕ) (b : Blocks) → IsNew done b text → (whole : Blocks) (piece : List ℕ) → rest_of whole ≡ rest_of b ++ piece
    → block_of whole ≡ block_of b → whole.lines ≡ b.lines → Holds [] whole (text ++ piece)
holds-new done text b n whole piece rest block same = record {
  all = ap (λ (t : List ℕ). t ++ piece) n.all ∙ rw (block, n.block) (sym rest);
  before = nothing-whole;
  whole = rw (block, n.block) nothing-whole;
  lines = same ∙ n.lines;
}

-- the mark is looked for
pub holds-begins : (text : List ℕ) (old new : Blocks) → Holds [] old text → block_of old ≡ [] → Moves old new (strip_bom (rest_of old)) → Holds [] new (strip_bom text)
holds-begins text old new h none m =
    let is : text ≡ rest_of old = h.all ∙ ap (λ (t : List ℕ). t ++ rest_of old) none in
    record {
      all = ap strip_bom is ∙ sym (m.all ∙ ap (λ (t : List ℕ). t ++ strip_bom (rest_of old)) none);
      before = nothing-whole;
      whole = m.whole h.whole;
      lines = m.lines ∙ h.lines;
    }

later : (b : Blocks) (text : List ℕ) → b.begun ≡ true → 3 ≤ length text → (b.begun ≡ true) ↔ (3 ≤ length text)
later b text begun many = (λ _. many, λ _. begun)

-- more of a text whose mark was looked for
pub at-moves : (done text piece : List ℕ) (old new : Blocks) → IsAt done old text → old.begun ≡ true → Moves old new (rest_of old ++ piece) → IsAt done new (text ++ piece)
at-moves done text piece old new at begun m =
    let many : 3 ≤ length text = at.begun.0 begun in
    record {
      holds = rw (strip-behind text piece many) (holds-moves done (strip_bom text) piece old new at.holds m);
      begun = later new (text ++ piece) m.begun (omega (arith, length-append text piece));
      none = λ fresh. let e : true ≡ false = sym m.begun ∙ fresh in cc e;
    }

-- still fewer than three bytes
pub at-few : (done text piece : List ℕ) (old new : Blocks) → IsAt done old text → old.begun ≡ false → new.begun ≡ false → rest_of new ≡ rest_of old ++ piece
    → block_of new ≡ block_of old → new.lines ≡ old.lines → length (rest_of new) < 3 → IsAt done new (text ++ piece)
at-few done text piece old new at fresh fresh_too rest block same few =
    let n = is-new done text old at fresh in
    let all : text ++ piece ≡ rest_of new = ap (λ (t : List ℕ). t ++ piece) n.all ∙ sym rest in
    let short : length (text ++ piece) < 3 = rw all few in
    let h = holds-new done text old n new piece rest block same in
    record {
      holds = rw (n.first, short-text (text ++ piece) short) h;
      begun = (λ begun. let e : true ≡ false = sym begun ∙ fresh_too in cc e, λ many. absurd (omega arith));
      none = λ _. rw (block, n.first, n.block) refl;
    }

-- three bytes have come
pub at-begins : (done text piece : List ℕ) (old whole new : Blocks) → IsAt done old text → old.begun ≡ false → rest_of whole ≡ rest_of old ++ piece
    → block_of whole ≡ block_of old → whole.lines ≡ old.lines → 3 ≤ length (rest_of whole) → Moves whole new (strip_bom (rest_of whole)) → IsAt done new (text ++ piece)
at-begins done text piece old whole new at fresh rest block same many m =
    let n = is-new done text old at fresh in
    let all : text ++ piece ≡ rest_of whole = ap (λ (t : List ℕ). t ++ piece) n.all ∙ sym rest in
    let long : 3 ≤ length (text ++ piece) = rw all many in
    let h = holds-new done text old n whole piece rest block same in
    record {
      holds = rw n.first (holds-begins (text ++ piece) whole new h (block ∙ n.block) m);
      begun = later new (text ++ piece) m.begun long;
      none = λ unbegun. let e : true ≡ false = sym m.begun ∙ unbegun in cc e;
    }

-- the block is handed out
pub at-dropped : (done text : List ℕ) (old new : Blocks) → IsAt done old text → block_of new ≡ [] → rest_of new ≡ rest_of old → new.begun ≡ old.begun
    → new.lines ≡ old.lines + lines (block_of old) → IsAt (done ++ block_of old) new text
at-dropped done text old new at block rest begun same = record {
  holds = record {
    all = at.holds.all ∙ (sym (append_assoc done (block_of old) (rest_of old)) ∙ rw (block, rest) refl);
    before = whole-append done (block_of old) at.holds.before at.holds.whole;
    whole = rw block nothing-whole;
    lines = same ∙ (ap (λ (n : ℕ). n + lines (block_of old)) at.holds.lines ∙ sym (lines-append done (block_of old)));
  };
  begun = rw begun at.begun;
  none = λ fresh. rw block (append-nil (done ++ block_of old) ∙ at.none (sym begun ∙ fresh));
}

-- the rest is the end of the text
pub last-ends : (done text : List ℕ) (old new : Blocks) → Holds done old (strip_bom text) → run (Some Record) (rest_of old) ≡ Some old.state → Ends old new → IsLast done new text
last-ends done text old new h reached e =
    let body : strip_bom text ≡ strip_bom text ++ [] = sym (append-nil (strip_bom text)) in
    let behind : run (Some Record) (strip_bom text) ≡ run (Some Record) (rest_of old) =
    ap (λ (t : List ℕ). run (Some Record) t) body ∙ (holds-run done (strip_bom text) [] old h ∙ ap (λ (t : List ℕ). run (Some Record) t) (append-nil (rest_of old))) in
    record {
      all = h.all ∙ ap (λ (t : List ℕ). done ++ t) (sym e.all);
      none = e.none;
      before = h.before;
      lines = e.lines ∙ h.lines;
      strict = (old.state, behind ∙ reached, e.ends);
    }

-- the number of bytes that are held, before and after the mark was looked for
size-fresh : (b : Blocks) → b.begun ≡ false → size_of b ≡ length (block_of b) + length (rest_of b)
size-fresh b fresh =
    ap (λ (begun : Bool). length (block_of b ++ rest_of b) + cond begun 3 0) fresh ∙ (add-zero (length (block_of b ++ rest_of b)) ∙ length-append (block_of b) (rest_of b))

size-begun : (b : Blocks) → b.begun ≡ true → size_of b ≡ length (block_of b ++ rest_of b) + 3
size-begun b begun = ap (λ (is : Bool). length (block_of b ++ rest_of b) + cond is 3 0) begun

-- it grows by those of the piece
pub size-moves : (old new : Blocks) (piece : List ℕ) → old.begun ≡ true → Moves old new (rest_of old ++ piece) → size_of old + length piece ≤ size_of new
size-moves old new piece begun m =
    let before = size-begun old begun in
    let after = size-begun new m.begun in
    let all : length (block_of new ++ rest_of new) ≡ length (block_of old ++ rest_of old) + length piece =
    ap length m.all ∙ (ap length (sym (append_assoc (block_of old) (rest_of old) piece)) ∙ length-append (block_of old ++ rest_of old) piece) in
    omega (arith, before, after, all)

pub size-begins : (old whole new : Blocks) (piece : List ℕ) → old.begun ≡ false → rest_of whole ≡ rest_of old ++ piece → block_of whole ≡ block_of old
    → Moves whole new (strip_bom (rest_of whole)) → size_of old + length piece ≤ size_of new
size-begins old whole new piece fresh rest block m =
    let before = size-fresh old fresh in
    let after = size-begun new m.begun in
    let all : length (block_of new ++ rest_of new) ≡ length (block_of whole) + length (strip_bom (rest_of whole)) =
    ap length m.all ∙ length-append (block_of whole) (strip_bom (rest_of whole)) in
    let parts : length (rest_of whole) ≡ length (rest_of old) + length piece = ap length rest ∙ length-append (rest_of old) piece in
    let same : length (block_of whole) ≡ length (block_of old) = ap length block in
    let mark = strip-length (rest_of whole) in
    omega (arith, before, after, all, parts, same, mark)

-- a block that is dropped leaves its line feed
pub only-feed : (xs : List ℕ) → drop 1 (take 1 xs) ≡ []
only-feed [] = refl
only-feed (x ∷ xs) = refl

-- the whole records before the rest
holds-all : (done text bytes : List ℕ) (b : Blocks) → Holds done b text → text ++ bytes ≡ (done ++ block_of b) ++ (rest_of b ++ bytes)
holds-all done text bytes b h =
    ap (λ (t : List ℕ). t ++ bytes) (h.all ∙ sym (append_assoc done (block_of b) (rest_of b))) ∙ append_assoc (done ++ block_of b) (rest_of b) bytes

-- the first fault of the rest and more bytes is one of the whole text
pub told-behind : (done text bytes : List ℕ) (b : Blocks) (found told : Refusal) → Holds done b text → IsRefused (rest_of b ++ bytes) found
    → told.fault ≡ found.fault → told.line ≡ (b.lines + lines (block_of b)) + found.line → IsRefused (text ++ bytes) told
told-behind done text bytes b found told h r fault line =
    let before : lines (done ++ block_of b) ≡ b.lines + lines (block_of b) = lines-append done (block_of b) ∙ ap (λ (n : ℕ). n + lines (block_of b)) (sym h.lines) in
    let all : told.line ≡ lines (done ++ block_of b) + found.line = line ∙ ap (λ (n : ℕ). n + found.line) (sym before) in
    rw (holds-all done text bytes b h) (refused-behind (done ++ block_of b) (rest_of b ++ bytes) found told (whole-append done (block_of b) h.before h.whole) r fault all)

-- records end in the piece
pub moves-whole : (old mid new : Blocks) (piece : List ℕ) (count : ℕ) (state : State) → old.begun ≡ true → run (Some Record) (rest_of old) ≡ Some old.state
    → IsScanned old.state piece count state → 0 < count → Keeps old mid (take count piece) → block_of new ≡ block_of mid → rest_of new ≡ rest_of mid ++ drop count piece
    → new.begun ≡ mid.begun → new.lines ≡ mid.lines → Moves old new (rest_of old ++ piece)
moves-whole old mid new piece count state begun reached scanned some kept block rest same lines_same =
    let ends : AreWhole (rest_of old ++ take count piece) = run-on (Some Record) (rest_of old) (take count piece) old.state (Some Record) reached (scanned.ends some) in
    let is : rest_of new ≡ drop count piece = rest ∙ ap (λ (t : List ℕ). t ++ drop count piece) kept.rest in
    let is_block : block_of new ≡ block_of old ++ (rest_of old ++ take count piece) = block ∙ kept.block in
    record {
      all =
          ap (λ (t : List ℕ). t ++ rest_of new) is_block
          ∙ (ap (λ (t : List ℕ). (block_of old ++ (rest_of old ++ take count piece)) ++ t) is
          ∙ (append_assoc (block_of old) (rest_of old ++ take count piece) (drop count piece)
          ∙ ap (λ (t : List ℕ). block_of old ++ t)
          (append_assoc (rest_of old) (take count piece) (drop count piece) ∙ ap (λ (t : List ℕ). rest_of old ++ t) (take-append-drop count piece))));
      whole = λ whole. ap (λ (t : List ℕ). run (Some Record) t) is_block ∙ whole-append (block_of old) (rest_of old ++ take count piece) whole ends;
      begun = same ∙ (kept.begun ∙ begun);
      lines = lines_same ∙ kept.lines;
    }

-- none ends in it
pub moves-within : (old new : Blocks) (piece : List ℕ) (count : ℕ) → old.begun ≡ true → count ≡ 0 → block_of new ≡ block_of old
    → rest_of new ≡ rest_of old ++ drop count piece → new.begun ≡ old.begun → new.lines ≡ old.lines → Moves old new (rest_of old ++ piece)
moves-within old new piece count begun none block rest same lines_same =
    let is : rest_of new ≡ rest_of old ++ piece = rest ∙ ap (λ (n : ℕ). rest_of old ++ drop n piece) none in
    record {
      all = ap (λ (t : List ℕ). t ++ rest_of new) block ∙ ap (λ (t : List ℕ). block_of old ++ t) is;
      whole = λ whole. ap (λ (t : List ℕ). run (Some Record) t) block ∙ whole;
      begun = same ∙ begun;
      lines = lines_same;
    }

-- a byte may not come in a text whose mark was looked for, or in one whose mark is looked for now
pub stuck-moves : (done text piece : List ℕ) (b : Blocks) (fault : BlockFault) → IsAt done b text → b.begun ≡ true
    → ((tail : List ℕ) → IsFaultOf ((strip_bom text ++ piece) ++ tail) fault) → IsStuck (text ++ piece) fault
stuck-moves done text piece b fault at begun f tail =
    let many : 3 ≤ length text = at.begun.0 begun in
    let more : 3 ≤ length (text ++ piece) = omega (arith, length-append text piece) in
    let is : strip_bom ((text ++ piece) ++ tail) ≡ (strip_bom text ++ piece) ++ tail =
    strip-behind (text ++ piece) tail more ∙ ap (λ (t : List ℕ). t ++ tail) (strip-behind text piece many) in
    rw is (f tail)

pub stuck-begins : (done text piece : List ℕ) (old whole : Blocks) (fault : BlockFault) → IsAt done old text → old.begun ≡ false → rest_of whole ≡ rest_of old ++ piece
    → block_of whole ≡ block_of old → whole.lines ≡ old.lines → 3 ≤ length (rest_of whole)
    → ((body tail : List ℕ) → Holds [] whole body → block_of whole ≡ [] → IsFaultOf (strip_bom body ++ tail) fault) → IsStuck (text ++ piece) fault
stuck-begins done text piece old whole fault at fresh rest block same many f tail =
    let n = is-new done text old at fresh in
    let all : text ++ piece ≡ rest_of whole = ap (λ (t : List ℕ). t ++ piece) n.all ∙ sym rest in
    let long : 3 ≤ length (text ++ piece) = rw all many in
    rw (strip-behind (text ++ piece) tail long) (f (text ++ piece) tail (holds-new done text old n whole piece rest block same) (block ∙ n.block))

-- nothing was read
pub at-first : (b : Blocks) → b.block.items ≡ 10 ∷ [] → b.rest.items ≡ [] → b.lines ≡ 0 → b.begun ≡ false → IsAt [] b []
unfolding strip_bom
at-first b block rest none fresh =
    let is : block_of b ≡ [] = ap (λ (xs : List ℕ). drop 1 xs) block in
    record {
      holds = record { all = rw (is, rest) refl; before = nothing-whole; whole = rw is nothing-whole; lines = none };
      begun = (λ begun. let e : true ≡ false = sym begun ∙ fresh in cc e, λ many. absurd (omega arith));
      none = λ _. is;
    }

-- the end of a text whose mark is looked for now
pub faulty-begins : (done text : List ℕ) (b : Blocks) (fault : BlockFault) → IsAt done b text → b.begun ≡ false
    → ((body tail : List ℕ) → Holds [] b body → block_of b ≡ [] → IsFaultOf (strip_bom body ++ tail) fault) → IsFaultOf (strip_bom text) fault
faulty-begins done text b fault at fresh f =
    let n = is-new done text b at fresh in
    let h : Holds [] b (text ++ []) = holds-new done text b n b [] (sym (append-nil (rest_of b))) refl refl in
    let none : (xs : List ℕ) → xs ++ [] ≡ xs = append-nil in
    rw (none (strip_bom text)) at (f text [] (rw (none text) at h) n.block)

pub begins-holds : (done text : List ℕ) (old new : Blocks) → IsAt done old text → old.begun ≡ false → Moves old new (strip_bom (rest_of old)) → Holds done new (strip_bom text)
begins-holds done text old new at fresh m =
    let n = is-new done text old at fresh in
    let h : Holds [] old (text ++ []) = holds-new done text old n old [] (sym (append-nil (rest_of old))) refl refl in
    rw n.first (holds-begins text old new (rw (append-nil text) at h) n.block m)

-- a block that isn't empty
pub next-block : (done text : List ℕ) (b : Blocks) → IsAt done b text → 0 < length (block_of b) → IsNext done b text
next-block done text b at some = record {
  is_at = at;
  some = some;
  more = λ tail.
      let begun : b.begun ≡ true = elim (cases_Bool b.begun) [
        | inl is ↦ is
        | inr fresh ↦ let e = ap length (both-nil done (block_of b) (at.none fresh)).1 in absurd (omega (arith, e, some))
      ] in
      strip-behind text tail (at.begun.0 begun);
}

pub some-block : (b : Blocks) (n : ℕ) → n < length b.block.items → 1 ≤ n → 0 < length (block_of b)
some-block b n many one = let e : length b.block.items ≡ length (block_of b) + 1 = ap length b.feed ∙ omega arith in omega (arith, e)

-- the lines before the rest are some of the text's
holds-lines : (done text bytes : List ℕ) (b : Blocks) → Holds done b text → lines (text ++ bytes) ≡ (b.lines + lines (block_of b)) + lines (rest_of b ++ bytes)
holds-lines done text bytes b h =
    ap lines (holds-all done text bytes b h)
    ∙ (lines-append (done ++ block_of b) (rest_of b ++ bytes)
    ∙ ap (λ (n : ℕ). n + lines (rest_of b ++ bytes)) (lines-append done (block_of b) ∙ ap (λ (n : ℕ). n + lines (block_of b)) (sym h.lines)))

-- they can't be counted
pub many-behind : (done text bytes : List ℕ) (b : Blocks) → Holds done b text → 2 ^ 64 ≤ b.lines + lines (block_of b) → 2 ^ 64 ≤ lines (text ++ bytes) + 1
many-behind done text bytes b h many = omega (arith, holds-lines done text bytes b h, many)

-- nor can the line of the first fault
pub many-told : (done text bytes : List ℕ) (b : Blocks) (found : Refusal) → Holds done b text → IsRefused (rest_of b ++ bytes) found
    → 2 ^ 64 ≤ (b.lines + lines (block_of b)) + found.line → 2 ^ 64 ≤ lines (text ++ bytes) + 1
many-told done text bytes b found h r many =
    let all : List ℕ = rest_of b ++ bytes in
    let parts : lines (take r.place all) + lines (drop r.place all) ≡ lines all =
    sym (lines-append (take r.place all) (drop r.place all)) ∙ ap lines (take-append-drop r.place all) in
    let line : found.line ≡ lines (take r.place all) + 1 = r.on_line in
    omega (arith, holds-lines done text bytes b h, parts, line, many)

-- nor can those before the next block, however the text goes on
pub many-dropped : (done text : List ℕ) (b : Blocks) → IsAt done b text → 2 ^ 64 ≤ b.lines + lines (block_of b) → IsStuck text Count
many-dropped done text b at many tail = elim (cases_Bool b.begun) [
  | inl begun ↦ rw (strip-behind text tail (at.begun.0 begun)) (many-behind done (strip_bom text) tail b at.holds many)
  | inr fresh ↦
      let n = is-new done text b at fresh in
      let none : lines (block_of b) ≡ 0 = ap lines n.block in
      absurd (omega (arith, n.lines, none, many))
]
