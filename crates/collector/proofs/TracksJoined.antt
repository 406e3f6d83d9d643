-- The tracks of a part are put behind those of the text before it, the last one first.
use Rattle.std.proofs.Common.{◌≡◌, ◌<◌, ◌≤◌, ◌+◌, ◌-◌, ◌∙◌, ℕ, List, [], ◌∷◌, ◌++◌, length, Bool, true, false, cond, refl, sym, ap, subst, arith, append_assoc, append-nil, inl, inr, get_or, set}
use Rattle.std.specs.Prelude.{nat_lt}
use Rattle.std.proofs.lemmas.Bool.Decides.{eqb_tells, leb_tells}
use Rattle.std.proofs.lemmas.List.{get_or-append-add, get_or-set_other, get_or-set_same, get_or_past, get_or_read, length-append, length-set}
use Rattle.collector.specs.Parts.{Appends, Stitches}
use Rattle.collector.specs.ReadEpochs.{epoch_count, records_at}
use Rattle.collector.specs.declared.epochs.Epochs.{Epochs}
use Rattle.collector.proofs.PartsRead.{Records, stitches_at}

abbrev Tracks : Type 0
Tracks = List (List Records)

-- the tracks of the part behind the first `left` are behind those of old, which have that many epochs
pub record TracksJoined (old part now left : Tracks) (epochs : ℕ) : Type 0 where
  pub size : length now ≡ length old
  pub left_is : (done : Tracks) × (part ≡ left ++ done)
  pub rest : (i : ℕ) → i < length left → get_or now i [] ≡ get_or old i []
  pub done : (i : ℕ) → length left ≤ i → i < length now → Stitches (get_or old i []) (get_or part i []) (get_or now i []) × (length (get_or old i []) ≡ epochs)

pub none_stitched : (old part : Tracks) (epochs : ℕ) → length part ≡ length old → TracksJoined old part old part epochs
none_stitched old part epochs size = record {
  size = refl;
  left_is = ([], sym (append-nil part));
  rest = λ i lt. refl;
  done = λ i ge lt. absurd (let no : ⊥ = omega (arith, ge, lt, size) in no);
}

module _ (old part now left before : Tracks) (epochs : ℕ) (track new here : List Records) (input : ℕ) (so_far : TracksJoined old part now left epochs) (taken : left ≡ before ++ track ∷ []) (is : input ≡ length before)
    (within : length part ≡ length old) (at : here ≡ get_or now input here) (many : length here ≡ epochs) (stitched : Stitches here track new) where
  one_more_left : length left ≡ length before + 1
  one_more_left = ap length taken ∙ length-append before (track ∷ [])

  part_is : part ≡ before ++ track ∷ so_far.left_is.0
  part_is = so_far.left_is.1 ∙ ap (λ (ts : Tracks). ts ++ so_far.left_is.0) taken ∙ append_assoc before (track ∷ []) so_far.left_is.0

  track_is : get_or part input [] ≡ track
  track_is =
      ap (λ (ts : Tracks). get_or ts input []) part_is ∙ ap (λ n. get_or (before ++ track ∷ so_far.left_is.0) n []) (let n : input ≡ length before + 0 = omega (arith, is) in n)
      ∙ get_or-append-add before (track ∷ so_far.left_is.0) 0 []

  input_within : input < length now
  input_within = let n = ap length part_is in omega (arith, n, length-append before (track ∷ so_far.left_is.0), is, within, so_far.size)

  old_is : here ≡ get_or old input []
  old_is = get_or_read now input here input_within at [] ∙ so_far.rest input (omega (arith, is, one_more_left))

  pub one_stitched : TracksJoined old part (set now input new) before epochs
  one_stitched = record {
    size = length-set now input new ∙ so_far.size;
    left_is = (track ∷ so_far.left_is.0, part_is);
    rest = λ i lt. get_or-set_other now input i new [] (λ same. let no : ⊥ = omega (arith, lt, is, same) in no) ∙ so_far.rest i (omega (arith, lt, one_more_left));
    done = λ i ge lt. elim (eqb_tells i input) [
      | inl same ↦ (
        subst (λ n. Stitches (get_or old n []) (get_or part n []) (get_or (set now input new) n [])) (sym same.1)
            (subst (λ (t : List Records). Stitches (get_or old input []) (get_or part input []) t) (sym (get_or-set_same now input new [] input_within))
            (subst (λ (t : List Records). Stitches (get_or old input []) t new) (sym track_is) (subst (λ (t : List Records). Stitches t track new) old_is stitched))),
        ap (λ n. length (get_or old n [])) same.1 ∙ sym (ap length old_is) ∙ many,
      )
      | inr other ↦
          let further = so_far.done i (omega (arith, ge, one_more_left, is, other.1)) (omega (arith, lt, length-set now input new)) in
          (subst (λ (t : List Records). Stitches (get_or old i []) (get_or part i []) t) (sym (get_or-set_other now input i new [] other.1)) further.0, further.1)
    ];
  }

-- all tracks
module _ (old part new : Epochs) (left : Tracks) (joined : TracksJoined old.tracks.items part.tracks.items new.tracks.items left old.count) (none : length left ≡ 0) (some : 0 < old.count) (more : 0 < part.count)
    (few : new.count ≤ 4294967295) (count : new.count ≡ old.count + (part.count - 1)) (within : length part.tracks.items ≡ length old.tracks.items) where
  none_at : (b : Bool) (k : ℕ) (xs : List Records) → xs ≡ [] → cond b [] (get_or xs k []) ≡ []
  none_at true k xs e = refl
  none_at false k xs e = ap (λ (ys : List Records). get_or ys k []) e ∙ get_or_past [] k [] (omega arith)

  past : (epoch input : ℕ) (ts : Tracks) → length ts ≤ input → get_or (get_or ts input []) epoch [] ≡ []
  past epoch input ts ge = ap (λ (t : List Records). get_or t epoch []) (get_or_past ts input [] ge) ∙ get_or_past [] epoch [] (omega arith)

  records : (epoch input : ℕ)
      → records_at new epoch input ≡ records_at old epoch input ++ cond (nat_lt (epoch + 1) (epoch_count old)) [] (records_at part (epoch + 1 - epoch_count old) input)
  records epoch input = elim (leb_tells (length new.tracks.items) input) [
    | inl out ↦
        past epoch input new.tracks.items out.1
        ∙ (λ i. sym (past epoch input old.tracks.items (let n : length old.tracks.items ≤ input = omega (arith, out.1, joined.size) in n)) i
        ++ sym (none_at (nat_lt (epoch + 1) (epoch_count old)) (epoch + 1 - epoch_count old) (get_or part.tracks.items input []) (get_or_past part.tracks.items input [] (omega (arith, out.1, joined.size, within)))) i)
    | inr here ↦
        let track = joined.done input (omega (arith, none)) here.1 in
        stitches_at (get_or old.tracks.items input []) (get_or part.tracks.items input []) (get_or new.tracks.items input []) track.0 epoch
        ∙ ap (λ n. get_or (get_or old.tracks.items input []) epoch [] ++ cond (nat_lt (epoch + 1) n) [] (get_or (get_or part.tracks.items input []) (epoch + 1 - n) [])) track.1
  ]

  pub all_stitched : Appends old part new
  all_stitched = record { some = some; count = omega (arith, some, more, count); few = few; records = records }
