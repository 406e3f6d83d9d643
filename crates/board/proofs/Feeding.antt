-- A feed of a batch is one step, and keeps what a board keeps.
use Rattle.std.proofs.Common.{◌≡◌, ◌≢◌, ◌⊎◌, inl, inr, ◌<◌, ◌+◌, ℕ, zero, suc, ◌==◌, Bool, true, false, cond, List, [], ◌∷◌, ◌++◌, length, refl, sym, ap, ◌∙◌, subst, arith, slice_set, slice_index_or, append-nil, length-set, None}
use Rattle.std.proofs.lemmas.Bool.Decides.{eqb_tells}
use Rattle.semantics.specs.Multiset.{Record, count, total, same, one_if}
use Rattle.semantics.specs.Graph.{Graph}
use Rattle.semantics.specs.Could.{Pointstamp}
use Rattle.semantics.specs.Time.{at_epoch}
use Rattle.semantics.specs.PortArity.{HaveFields}
use Rattle.graph.specs.Shown.{shown_graph}
use Rattle.machine.specs.World.{World}
use Rattle.machine.specs.Sending.{parcels}
use Rattle.machine.specs.Active.{one_if_same, message_pointstamp}
use Rattle.machine.specs.Changes.{parcel_count}
use Rattle.machine.specs.InTransit.{FedFits}
use Rattle.machine.specs.Step.{Allowed, Step, after_step, put}
use Rattle.machine.proofs.Counting.{below_same, count-append, same_tells}
use Rattle.events.specs.Letters.{sent_to, AreParcels}
use Rattle.events.specs.declared.letter.Letter.{Letter}
use Rattle.rows.specs.FlatRows.{arity_of}
use Rattle.board.specs.Answers.{feed_refusal}
use Rattle.board.specs.WorkerShown.{letters_count}
use Rattle.board.specs.Shown.{Shown, InputShown, Side, input_at, no_input, side_at, side_in, net, records_at, held_of}
use Rattle.board.specs.Showing.{Shows, ShowsIn, IsSideOf, AreSidesOf, EachShard, OnShard, known_shard}
use Rattle.board.specs.Steps.{delivered, more_at, after_feed}
use Rattle.board.specs.Fitting.{FitsPlace, arity_in}
use Rattle.board.specs.Kept.{IsKept, Goes}
use Rattle.board.specs.Commits.{Feeds}
use Rattle.std.specs.List.{All}
use Rattle.board.proofs.Committed.{with_mail_of}
use Rattle.board.proofs.Deliveries.{delivered_at, delivered_length}
use Rattle.board.proofs.Emitting.{records_more, emits_same}
use Rattle.board.proofs.Ended.{feed_tells, open_tells, role_is}
use Rattle.board.proofs.Keeping.{kept_more}
use Rattle.board.proofs.Later.{later}
use Rattle.board.proofs.Still.{IsLater, after_still}
use Rattle.board.proofs.Mails.{by_workers}
use Rattle.board.proofs.Places.{same_set, index_set_here, index_set_other}

-- the function by epoch, with more at one epoch
put_more : (f : ℕ → List Record) (e : ℕ) (rs : List Record) (n : ℕ) → put f e (f e ++ rs) n ≡ f n ++ cond (e == n) rs []
put_more f e rs n = go (eqb_tells n e) (eqb_tells e n)
  where
    go : ((n == e) ≡ true) × (n ≡ e) ⊎ ((n == e) ≡ false) × (n ≢ e) → ((e == n) ≡ true) × (e ≡ n) ⊎ ((e == n) ≡ false) × (e ≢ n) → put f e (f e ++ rs) n ≡ f n ++ cond (e == n) rs []
    go (inl (t, q)) (inl (t', q')) = ap (λ b. cond b (f e ++ rs) (f n)) t ∙ ap (λ k. f k ++ rs) (sym q) ∙ sym (ap (λ b. f n ++ cond b rs []) t')
    go (inl (t, q)) (inr (t', q')) = absurd (q' (sym q))
    go (inr (t, q)) (inl (t', q')) = absurd (q (sym q'))
    go (inr (t, q)) (inr (t', q')) = ap (λ b. cond b (f e ++ rs) (f n)) t ∙ sym (ap (λ b. f n ++ cond b rs []) t' ∙ append-nil (f n))

put_then : {X : Type 0} (f : ℕ → ℕ → X) (i : ℕ) (x : ℕ → X) (j e : ℕ) → ((j ≡ i) × (put f i x j e ≡ x e)) ⊎ ((j ≢ i) × (put f i x j e ≡ f j e))
put_then f i x j e = go (eqb_tells j i)
  where
    go : ((j == i) ≡ true) × (j ≡ i) ⊎ ((j == i) ≡ false) × (j ≢ i) → ((j ≡ i) × (put f i x j e ≡ x e)) ⊎ ((j ≢ i) × (put f i x j e ≡ f j e))
    go (inl (t, q)) = inl (q, ap (λ b. (cond b x (f j)) e) t)
    go (inr (t, q)) = inr (q, ap (λ b. (cond b x (f j)) e) t)

both_fields : (n : ℕ) (xs ys : List Record) → HaveFields n xs → HaveFields n ys → HaveFields n (xs ++ ys)
both_fields n xs ys hx hy r l = go (count r xs) refl
  where
    go : (m : ℕ) → count r xs ≡ m → length r ≡ n
    go zero e = hy r (let c = count-append r xs ys in omega (arith, l, c, e))
    go (suc m) e = hx r (omega (arith, e))

none_fields : (n : ℕ) (b : Bool) (ys : List Record) → HaveFields n ys → HaveFields n (cond b ys [])
none_fields n true ys h r l = h r l
none_fields n false ys h r l = absurd (omega (arith, l))

module _ (s : Shown) (w : World) (is : Shows s w) (i : ℕ) (there : i < length s.inputs) (batch : List Record) (some : 0 < length batch) (letters : List Letter)
    (parcels_are : AreParcels (net s) 0 i (at_epoch (input_at s i).open_epoch) (λ q. batch) letters) where
  x : InputShown
  x = record (input_at s i) { fed = more_at (input_at s i).open_epoch (batch ∷ []) (input_at s i).fed }

  fed_then : (j e : ℕ) → (after_step (net s) w (Step.feed i batch)).fed j e ≡ records_at (slice_index_or (slice_set s.inputs i x) j no_input).fed e
  unfolding x
  fed_then j e = go (put_then w.fed i (put (w.fed i) (w.open_epoch i) (w.fed i (w.open_epoch i) ++ batch)) j e)
    where
      go : ((j ≡ i) × (put w.fed i (put (w.fed i) (w.open_epoch i) (w.fed i (w.open_epoch i) ++ batch)) j e ≡ put (w.fed i) (w.open_epoch i) (w.fed i (w.open_epoch i) ++ batch) e))
          ⊎ ((j ≢ i) × (put w.fed i (put (w.fed i) (w.open_epoch i) (w.fed i (w.open_epoch i) ++ batch)) j e ≡ w.fed j e))
          → put w.fed i (put (w.fed i) (w.open_epoch i) (w.fed i (w.open_epoch i) ++ batch)) j e ≡ records_at (slice_index_or (slice_set s.inputs i x) j no_input).fed e
      go (inl (q, a)) =
          let here : slice_index_or (slice_set s.inputs i x) j no_input ≡ x = ap (λ n. slice_index_or (slice_set s.inputs i x) n no_input) q ∙ index_set_here s.inputs i x no_input there in
          a
          ∙ put_more (w.fed i) (w.open_epoch i) batch e
          ∙ (λ k. is.fed i e k ++ cond (is.open_epoch i k == e) batch [])
          ∙ sym (records_more (input_at s i).open_epoch batch (input_at s i).fed e)
          ∙ ap (λ (z : InputShown). records_at z.fed e) (sym here)
      go (inr (q, a)) = a ∙ is.fed j e ∙ ap (λ (z : InputShown). records_at z.fed e) (sym (index_set_other s.inputs i j x no_input q))

  mail_then : (k : ℕ) → k < length s.sides → (after_step (net s) w (Step.feed i batch)).mail k ≡ (side_in (delivered s.sides letters) k).mail
  mail_then k l =
      (λ j. is.mail k l j ++ parcels (net s) 0 i (at_epoch (is.open_epoch i j)) (λ q. batch) k (net s).edges)
      ∙ ap (λ ms. (side_at s k).mail ++ ms) (sym (parcels_are.each k l))
      ∙ sym (ap (λ (z : Side). z.mail) (delivered_at letters s.sides k l))

  pub shows_feed : IsLater s → Allowed (net s) w (Step.feed i batch) → Shows (after_feed s i batch letters) (after_step (net s) w (Step.feed i batch))
  unfolding x
  shows_feed later ok =
      let n : length (delivered s.sides letters) ≡ length s.sides = delivered_length letters s.sides in
      record {
        stopped = is.stopped;
        open_epoch = λ j. same_set (suc j) w.open_epoch (λ (z : InputShown). z.open_epoch) s.inputs no_input i x there refl (λ n l. is.open_epoch n) j (omega arith);
        closed = λ j. same_set (suc j) w.closed (λ (z : InputShown). z.closed) s.inputs no_input i x there refl (λ n l. is.closed n) j (omega arith);
        fed = fed_then;
        mail = λ k l. mail_then k (omega (arith, l, n));
        requests = λ k l. is.requests k (omega (arith, l, n)) ∙ sym (ap (λ (z : Side). z.requests) (delivered_at letters s.sides k (omega (arith, l, n))));
        held = λ k l. is.held k (omega (arith, l, n)) ∙ sym (ap (λ (z : Side). held_of z.place) (delivered_at letters s.sides k (omega (arith, l, n))));
        absorbed = λ k v l lv.
            let P : Side → Type 0 = λ z. OnShard (ShowsIn (net s) w k v) (known_shard z v) in
            after_still s later w is (Step.feed i batch) ok (length (delivered s.sides letters)) n k v refl (known_shard (side_in (delivered s.sides letters) k) v)
            (subst P (sym (delivered_at letters s.sides k (omega (arith, l, n)))) (is.absorbed k v (omega (arith, l, n)) lv));
        emitted = is.emitted;
      }

module _ (graph : Graph) (content : Pointstamp → ℕ) (s : Shown) (kept : IsKept graph content s) (i : ℕ) (takes : (s.stopped ≡ false) × (i < length s.inputs) × ((input_at s i).closed ≡ false))
    (batch : List Record) (some : 0 < length batch) (fields : HaveFields (arity_in s.graph i) batch) (letters : List Letter)
    (parcels_are : AreParcels (net s) 0 i (at_epoch (input_at s i).open_epoch) (λ q. batch) letters) where
  pub feed_goes : Goes s (Step.feed i batch) (after_feed s i batch letters)
  feed_goes = record {
    step = λ w shows.
        let ok : Allowed (net s) w (Step.feed i batch) = ((role_is graph content s kept i takes, shows.closed i ∙ takes.2, shows.stopped ∙ takes.0), some) in
        (ok, shows_feed s w shows i takes.1 batch some letters parcels_are (later graph content s kept) ok);
    graph = refl;
    workers = delivered_length letters s.sides;
    emitted = emits_same s.emitted;
  }

  sides_then : AreSidesOf (after_feed s i batch letters) (length s.sides)
  sides_then k l =
      let lk : k < length s.sides = (let n = delivered_length letters s.sides in omega (arith, l, n)) in
      let two = subst (IsSideOf s (length s.sides)) (sym (delivered_at letters s.sides k lk)) (with_mail_of s (length s.sides) (side_at s k) (sent_to k letters) (kept.sides k lk)) in
      record { wired = two.wired; shards = two.shards; own = λ j e. let z = two.own j e in record { wired = z.wired; vertex = z.vertex; away = z.away; others = z.others } }

  fits_then : EachShard (after_feed s i batch letters) (FitsPlace s.graph)
  fits_then k v l lv =
      let lk : k < length s.sides = (let n = delivered_length letters s.sides in omega (arith, l, n)) in
      let P : Side → Type 0 = λ z. OnShard (FitsPlace s.graph k v) (known_shard z v) in
      subst P (sym (delivered_at letters s.sides k lk)) (kept.fitting k v lk lv)

  fed_fits : FedFits (shown_graph s.graph) (arity_in s.graph) (after_step (net s) kept.world (Step.feed i batch))
  fed_fits v e lv kind = go (put_then w.fed i (put (w.fed i) (w.open_epoch i) (w.fed i (w.open_epoch i) ++ batch)) v e)
    where
      w : World
      w = kept.world

      go : ((v ≡ i) × (put w.fed i (put (w.fed i) (w.open_epoch i) (w.fed i (w.open_epoch i) ++ batch)) v e ≡ put (w.fed i) (w.open_epoch i) (w.fed i (w.open_epoch i) ++ batch) e))
          ⊎ ((v ≢ i) × (put w.fed i (put (w.fed i) (w.open_epoch i) (w.fed i (w.open_epoch i) ++ batch)) v e ≡ w.fed v e))
          → HaveFields (arity_in s.graph v) (put w.fed i (put (w.fed i) (w.open_epoch i) (w.fed i (w.open_epoch i) ++ batch)) v e)
      go (inl (q, a)) =
          let P : List Record → Type 0 = λ l. HaveFields (arity_in s.graph v) l in
          let old : HaveFields (arity_in s.graph v) (w.fed i e) = (let R : ℕ → Type 0 = λ n. HaveFields (arity_in s.graph v) (w.fed n e) in subst R q (kept.fed v e lv kind)) in
          let new : HaveFields (arity_in s.graph v) batch = (let R : ℕ → Type 0 = λ n. HaveFields (arity_in s.graph n) batch in subst R (sym q) fields) in
          subst P (sym (a ∙ put_more (w.fed i) (w.open_epoch i) batch e)) (both_fields (arity_in s.graph v) (w.fed i e) (cond (w.open_epoch i == e) batch []) old (none_fields (arity_in s.graph v) (w.open_epoch i == e) batch new))
      go (inr (q, a)) = let P : List Record → Type 0 = λ l. HaveFields (arity_in s.graph v) l in subst P (sym a) (kept.fed v e lv kind)

  pub letters_are : (q : Pointstamp) → letters_count q letters ≡ parcel_count (net s) 0 i (at_epoch (kept.world.open_epoch i)) (λ p. batch) q
  letters_are q =
      sym (by_workers (length s.sides) (λ m. one_if_same q (message_pointstamp m)) letters parcels_are.within)
      ∙ below_same (length s.sides) _ _ (λ to l. ap (total (λ m. one_if_same q (message_pointstamp m))) (parcels_are.each to l))
      ∙ ap (λ n. parcel_count (net s) 0 i (at_epoch n) (λ p. batch) q) (sym (kept.shows.open_epoch i))

  pub feed_kept : (graph' : Graph) (content' : Pointstamp → ℕ) → graph' ≡ graph → ((q : Pointstamp) → content' q ≡ letters_count q letters + content q) → IsKept graph' content' (after_feed s i batch letters)
  feed_kept graph' content' same counts =
      let y : InputShown = record (input_at s i) { fed = more_at (input_at s i).open_epoch (batch ∷ []) (input_at s i).fed } in
      let both = feed_goes.step kept.world kept.shows in
      kept_more graph content s kept (Step.feed i batch) (slice_set s.inputs i y) (delivered s.sides letters) s.emitted s.stopped graph' content' (length-set s.inputs i y) refl (delivered_length letters s.sides) same
      sides_then fits_then fed_fits both.0 both.1 (λ q. order _ _ _ _ (counts q) (letters_are q))
    where
      order : (c' l c p : ℕ) → c' ≡ l + c → l ≡ p → c' + 0 ≡ c + p
      order c' l c p a b = omega (arith, a, b)

-- rows of one arity
pub fields_of : (n : ℕ) (xs : List Record) → All (λ (r : Record). length r ≡ n) xs → HaveFields n xs
fields_of n [] all r l = absurd (omega (arith, l))
fields_of n (y ∷ xs) all r l = go (same_tells y r) (fields_of n xs (λ k d lk. all (suc k) d (omega (arith, lk))))
  where
    go : ((same y r ≡ true) × (y ≡ r)) ⊎ ((same y r ≡ false) × (y ≢ r)) → HaveFields n xs → length r ≡ n
    go (inl (t, q)) ih = let P : Record → Type 0 = λ z. length z ≡ n in subst P q (all 0 y (omega arith))
    go (inr (t, q)) ih = ih r (let e : one_if (same y r) ≡ 0 = ap one_if t in omega (arith, l, e))

-- what is known of a feed that isn't refused
pub record IsAccepted (s : Shown) (i : ℕ) (batch : List Record) : Type 0 where
  pub takes : (s.stopped ≡ false) × (i < length s.inputs) × ((input_at s i).closed ≡ false)
  pub some : 0 < length batch
  pub fields : HaveFields (arity_in s.graph i) batch

pub accepted : (s : Shown) (i : ℕ) (batch : List Record) → feed_refusal s i batch ≡ None → 0 < length batch → All (λ (r : Record). length r ≡ arity_of batch) batch → IsAccepted s i batch
accepted s i batch e some each =
    let tells = feed_tells s i batch e in
    record {
      takes = open_tells s i tells.0;
      some = some;
      fields = subst (λ (n : ℕ). HaveFields n batch) tells.1 (fields_of (arity_of batch) batch each);
    }

-- what a feed leaves
module _ (graph graph' : Graph) (content content' : Pointstamp → ℕ) (s t : Shown) (kept : IsKept graph content s) (i : ℕ) (takes : (s.stopped ≡ false) × (i < length s.inputs) × ((input_at s i).closed ≡ false))
    (batch : List Record) (some : 0 < length batch) (fields : HaveFields (arity_in s.graph i) batch) where
  pub feeds_kept : Feeds s t content content' i batch → graph' ≡ graph → IsKept graph' content' t
  feeds_kept f same = subst (IsKept graph' content') (sym f.state) (feed_kept graph content s kept i takes batch some fields f.letters f.parcels graph' content' same f.content)

  pub feeds_goes : Feeds s t content content' i batch → Goes s (Step.feed i batch) t
  feeds_goes f = subst (Goes s (Step.feed i batch)) (sym f.state) (feed_goes graph content s kept i takes batch some fields f.letters f.parcels)
