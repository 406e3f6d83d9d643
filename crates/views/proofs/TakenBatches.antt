-- A worker takes a batch, change by change.
use Rattle.std.proofs.Common.{◌≡◌, ◌≢◌, ◌⊎◌, inl, inr, ℕ, zero, suc, ◌+◌, ◌≤◌, ◌<◌, Bool, true, false, List, [], ◌∷◌, ◌++◌, length, drop, Some, slice_get, slice_set, slice_index_or, eqb, refl, sym, ap, subst, ◌∙◌, arith, length-append, length-drop}
use Rattle.std.specs.Prelude.{MatchBool, ltb, map}
use Rattle.std.proofs.lemmas.Bool.Decides.{nat_tests}
use Rattle.semantics.specs.Graph.{Graph}
use Rattle.semantics.specs.Could.{Pointstamp, IsTimeAt}
use Rattle.machine.specs.Active.{one_if_same}
use Rattle.machine.specs.Views.{Changes}
use Rattle.machine.proofs.Active.{one_self}
use Rattle.std.proofs.lemmas.Bool.Decides.{eqb_tells}
use Rattle.std.proofs.lemmas.List.{get_or_default}
use Rattle.std.proofs.Math.Seq.{drop-nil}
use Rattle.progress.specs.Content.{times_in}
use Rattle.progress.proofs.Contents.{here_drop}
use Rattle.views.specs.Waiting.{batch}
use Rattle.views.specs.Queued.{onto_first, batches_of, EndsFrom, AllKnown, as_changes, IsTaken, IsQueue}
use Rattle.views.specs.declared.queue.Change.{Change}
use Rattle.views.specs.declared.queue.Change.TheVariants.{Add, Remove, End}

-- changes of the first batch were passed, up to this place
pub record IsTaking (old new : List Change) : Type 0 where
  pub adds : Pointstamp → ℕ
  pub removes : Pointstamp → ℕ
  pub first : (s : ℕ) → batches_of s old ≡ onto_first adds removes (batches_of s new)
  pub ends : EndsFrom true new

none_more : (n : ℕ) → 0 + n ≡ n
none_more n = omega arith

onto_none : (bs : List Changes) → onto_first (λ q. 0) (λ q. 0) bs ≡ bs
onto_none [] = refl
onto_none (b ∷ bs) = λ i. record { sender = b.sender; adds = λ q. none_more (b.adds q) i; removes = λ q. none_more (b.removes q) i; applied = b.applied } ∷ bs

onto_onto : (a r a' r' : Pointstamp → ℕ) (bs : List Changes) → onto_first a r (onto_first a' r' bs) ≡ onto_first (λ q. a q + a' q) (λ q. r q + r' q) bs
onto_onto a r a' r' [] = refl
onto_onto a r a' r' (b ∷ bs) =
    λ i. record { sender = b.sender; adds = λ q. shift (a q) (a' q) (b.adds q) i; removes = λ q. shift (r q) (r' q) (b.removes q) i; applied = b.applied } ∷ bs
  where
    shift : (x y z : ℕ) → x + (y + z) ≡ x + y + z
    shift x y z = omega arith

ends_begun : (xs : List Change) → 0 < length xs → EndsFrom false xs → EndsFrom true xs
ends_begun [] h e = absurd (omega arith)
ends_begun (End ∷ xs) h e = e
ends_begun (Add p ∷ xs) h e = e
ends_begun (Remove p ∷ xs) h e = e

pub known_drop : (g : Graph) (xs : List Change) (n : ℕ) → AllKnown g xs → AllKnown g (drop n xs)
known_drop g xs zero k = k
known_drop g [] (suc n) k = k
known_drop g (End ∷ xs) (suc n) k = known_drop g xs n k
known_drop g (Add p ∷ xs) (suc n) k = known_drop g xs n k.1
known_drop g (Remove p ∷ xs) (suc n) k = known_drop g xs n k.1

pub begins : (xs : List Change) → 0 < length xs → EndsFrom false xs → IsTaking xs xs
begins xs h e = record { adds = λ q. 0; removes = λ q. 0; first = λ s. sym (onto_none (batches_of s xs)); ends = ends_begun xs h e }

pub one_added : (old new : List Change) (p : Pointstamp) → IsTaking old (Add p ∷ new) → IsTaking old new
one_added old new p t =
    record {
      adds = λ q. t.adds q + one_if_same q p;
      removes = λ q. t.removes q + 0;
      first = λ s. t.first s ∙ onto_onto t.adds t.removes (λ q. one_if_same q p) (λ q. 0) (batches_of s new);
      ends = t.ends;
    }

pub one_removed : (old new : List Change) (p : Pointstamp) → IsTaking old (Remove p ∷ new) → IsTaking old new
one_removed old new p t =
    record {
      adds = λ q. t.adds q + 0;
      removes = λ q. t.removes q + one_if_same q p;
      first = λ s. t.first s ∙ onto_onto t.adds t.removes (λ q. 0) (λ q. one_if_same q p) (batches_of s new);
      ends = t.ends;
    }

pub ended : (old new : List Change) → IsTaking old (End ∷ new) → IsTaken old new
ended old new t = record { adds = λ q. t.adds q + 0; removes = λ q. t.removes q + 0; first = t.first }

pub never_ends : (xs : List Change) (n : ℕ) → length xs ≤ n → EndsFrom true (drop n xs) → ⊥
never_ends [] zero l e = e
never_ends [] (suc n) l e = e
never_ends (x ∷ xs) zero l e = absurd (omega arith)
never_ends (x ∷ xs) (suc n) l e = never_ends xs n (omega arith) e

-- what is removed at a place is known
pub removed_at : (g : Graph) (xs : List Change) (n : ℕ) (p : Pointstamp) → AllKnown g xs → slice_get xs n ≡ Some (Remove p) → IsTimeAt g p.location p.time
removed_at g xs n p k h = (subst (AllKnown g) (here_drop xs n (Remove p) h) (known_drop g xs n k)).0

-- ---- what was posted

parts_removes : (s : ℕ) (removed : List Pointstamp) → batches_of s (map Remove removed ++ (End ∷ [])) ≡ batch s [] removed ∷ []
parts_removes s [] = refl
parts_removes s (p ∷ removed) = ap (onto_first (λ q. 0) (λ q. one_if_same q p)) (parts_removes s removed)

parts_laid : (s : ℕ) (added removed : List Pointstamp) → batches_of s (as_changes added removed) ≡ batch s added removed ∷ []
parts_laid s [] removed = parts_removes s removed
parts_laid s (p ∷ added) removed =
    ap (onto_first (λ q. one_if_same q p) (λ q. 0)) (parts_laid s added removed)
    ∙ (λ i. record { sender = s; adds = times_in (p ∷ added); removes = λ q. none_more (times_in removed q) i; applied = false } ∷ [])

onto_more : (a r : Pointstamp → ℕ) (bs cs : List Changes) → 0 < length bs → onto_first a r (bs ++ cs) ≡ onto_first a r bs ++ cs
onto_more a r [] cs h = absurd (omega arith)
onto_more a r (b ∷ bs) cs h = refl

pub some_parts : (s : ℕ) (xs : List Change) → EndsFrom true xs → 0 < length (batches_of s xs)
some_parts s [] e = absurd e
some_parts s (End ∷ xs) e = omega arith
some_parts s (Add p ∷ xs) e = onto_some (λ q. one_if_same q p) (λ q. 0) (batches_of s xs) (some_parts s xs e)
  where
    onto_some : (a r : Pointstamp → ℕ) (bs : List Changes) → 0 < length bs → 0 < length (onto_first a r bs)
    onto_some a r [] h = h
    onto_some a r (b ∷ bs) h = omega arith
some_parts s (Remove p ∷ xs) e = onto_some (λ q. 0) (λ q. one_if_same q p) (batches_of s xs) (some_parts s xs e)
  where
    onto_some : (a r : Pointstamp → ℕ) (bs : List Changes) → 0 < length bs → 0 < length (onto_first a r bs)
    onto_some a r [] h = h
    onto_some a r (b ∷ bs) h = omega arith

-- if something is untaken, a batch waits
pub waiting_some : (s n : ℕ) (xs : List Change) → n < length xs → EndsFrom false (drop n xs) → batches_of s (drop n xs) ≡ [] → ⊥
waiting_some s n xs l e none =
    let d = length-drop n xs in
    let a = some_parts s (drop n xs) (ends_begun (drop n xs) (omega arith) e) in let b = ap length none in omega arith

pub waiting_none : (s n : ℕ) (xs : List Change) → length xs ≤ n → batches_of s (drop n xs) ≡ []
waiting_none s zero [] l = refl
waiting_none s (suc n) [] l = refl
waiting_none s zero (x ∷ xs) l = absurd (omega arith)
waiting_none s (suc n) (x ∷ xs) l = waiting_none s n xs (omega arith)

parts_more : (s : ℕ) (b : Bool) (xs ys : List Change) → EndsFrom b xs → batches_of s (xs ++ ys) ≡ batches_of s xs ++ batches_of s ys
parts_more s b [] ys e = refl
parts_more s true (End ∷ xs) ys e = ap (λ (l : List Changes). record { sender = s; adds = λ q. 0; removes = λ q. 0; applied = false } ∷ l) (parts_more s false xs ys e)
parts_more s false (End ∷ xs) ys e = ap (λ (l : List Changes). record { sender = s; adds = λ q. 0; removes = λ q. 0; applied = false } ∷ l) (parts_more s false xs ys e)
parts_more s true (Add p ∷ xs) ys e =
    ap (onto_first (λ q. one_if_same q p) (λ q. 0)) (parts_more s true xs ys e) ∙ onto_more (λ q. one_if_same q p) (λ q. 0) (batches_of s xs) (batches_of s ys) (some_parts s xs e)
parts_more s false (Add p ∷ xs) ys e =
    ap (onto_first (λ q. one_if_same q p) (λ q. 0)) (parts_more s true xs ys e) ∙ onto_more (λ q. one_if_same q p) (λ q. 0) (batches_of s xs) (batches_of s ys) (some_parts s xs e)
parts_more s true (Remove p ∷ xs) ys e =
    ap (onto_first (λ q. 0) (λ q. one_if_same q p)) (parts_more s true xs ys e) ∙ onto_more (λ q. 0) (λ q. one_if_same q p) (batches_of s xs) (batches_of s ys) (some_parts s xs e)
parts_more s false (Remove p ∷ xs) ys e =
    ap (onto_first (λ q. 0) (λ q. one_if_same q p)) (parts_more s true xs ys e) ∙ onto_more (λ q. 0) (λ q. one_if_same q p) (batches_of s xs) (batches_of s ys) (some_parts s xs e)

pub parts_posted : (s : ℕ) (xs : List Change) (added removed : List Pointstamp) → EndsFrom false xs → batches_of s (xs ++ as_changes added removed) ≡ batches_of s xs ++ (batch s added removed ∷ [])
parts_posted s xs added removed e = parts_more s false xs (as_changes added removed) e ∙ ap (λ (l : List Changes). batches_of s xs ++ l) (parts_laid s added removed)

ends_laid : (b : Bool) (added removed : List Pointstamp) → EndsFrom b (as_changes added removed)
ends_laid true (p ∷ added) removed = ends_laid true added removed
ends_laid false (p ∷ added) removed = ends_laid true added removed
ends_laid true [] (p ∷ removed) = ends_laid true [] removed
ends_laid false [] (p ∷ removed) = ends_laid true [] removed
ends_laid true [] [] = tt
ends_laid false [] [] = tt

pub ends_posted : (b : Bool) (xs : List Change) (added removed : List Pointstamp) → EndsFrom b xs → EndsFrom b (xs ++ as_changes added removed)
ends_posted b [] added removed e = ends_laid b added removed
ends_posted true (End ∷ xs) added removed e = ends_posted false xs added removed e
ends_posted false (End ∷ xs) added removed e = ends_posted false xs added removed e
ends_posted true (Add p ∷ xs) added removed e = ends_posted true xs added removed e
ends_posted false (Add p ∷ xs) added removed e = ends_posted true xs added removed e
ends_posted true (Remove p ∷ xs) added removed e = ends_posted true xs added removed e
ends_posted false (Remove p ∷ xs) added removed e = ends_posted true xs added removed e

-- ---- the workers' places

drop_more : (n : ℕ) (xs ys : List Change) → n ≤ length xs → drop n (xs ++ ys) ≡ drop n xs ++ ys
drop_more zero xs ys h = refl
drop_more (suc n) [] ys h = absurd (omega arith)
drop_more (suc n) (x ∷ xs) ys h = drop_more n xs ys (omega arith)

-- what is untaken for a worker, once a batch is posted
pub left_more : (xs ys : List Change) (taken : List ℕ) → IsQueue xs taken → (w : ℕ) → w < length taken
    → drop (slice_index_or taken w (length (xs ++ ys))) (xs ++ ys) ≡ drop (slice_index_or taken w (length xs)) xs ++ ys
left_more xs ys taken q w h =
    ap (λ n. drop n (xs ++ ys)) (get_or_default taken w (length (xs ++ ys)) (length xs) h) ∙ drop_more (slice_index_or taken w (length xs)) xs ys (q.within w h)

pub queue_posted : (xs : List Change) (taken : List ℕ) (added removed : List Pointstamp) → IsQueue xs taken → IsQueue (xs ++ as_changes added removed) taken
queue_posted xs taken added removed q =
    record {
      ends = ends_posted false xs added removed q.ends;
      within = λ w h.
          let a = get_or_default taken w (length (xs ++ as_changes added removed)) (length xs) h in let b = q.within w h in let c = length-append xs (as_changes added removed) in omega arith;
      between = λ w h. subst (EndsFrom false) (sym (left_more xs (as_changes added removed) taken q w h)) (ends_posted false (drop (slice_index_or taken w (length xs)) xs) added removed (q.between w h));
    }

length_map : {A B : Type 0} (f : A → B) (xs : List A) → length (map f xs) ≡ length xs
length_map f [] = refl
length_map f (x ∷ xs) = ap suc (length_map f xs)

pub length_laid : (added removed : List Pointstamp) → length (as_changes added removed) ≡ length added + length removed + 1
length_laid added removed =
    let a = length_map Add added in let b = length_map Remove removed in let c = length-append (map Add added) (map Remove removed ++ (End ∷ [])) in let d = length-append (map Remove removed) (End ∷ []) in omega arith

known_more : (g : Graph) (xs ys : List Change) → AllKnown g xs → AllKnown g ys → AllKnown g (xs ++ ys)
known_more g [] ys k l = l
known_more g (End ∷ xs) ys k l = known_more g xs ys k l
known_more g (Add p ∷ xs) ys k l = (k.0, known_more g xs ys k.1 l)
known_more g (Remove p ∷ xs) ys k l = (k.0, known_more g xs ys k.1 l)

one_self_more : (p : Pointstamp) (n : ℕ) → 0 < one_if_same p p + n
one_self_more p n = let a = one_self p in omega arith

known_laid : (g : Graph) (added removed : List Pointstamp) → ((q : Pointstamp) → 0 < times_in added q → IsTimeAt g q.location q.time) → ((q : Pointstamp) → 0 < times_in removed q → IsTimeAt g q.location q.time) → AllKnown g (as_changes added removed)
known_laid g [] [] a r = tt
known_laid g [] (p ∷ removed) a r = (r p (one_self_more p (times_in removed p)), known_laid g [] removed a (λ q h. r q (omega arith)))
known_laid g (p ∷ added) removed a r = (a p (one_self_more p (times_in added p)), known_laid g added removed (λ q h. a q (omega arith)) r)

pub known_posted : (g : Graph) (xs : List Change) (added removed : List Pointstamp) → AllKnown g xs → ((q : Pointstamp) → 0 < times_in added q → IsTimeAt g q.location q.time) → ((q : Pointstamp) → 0 < times_in removed q → IsTimeAt g q.location q.time) → AllKnown g (xs ++ as_changes added removed)
known_posted g xs added removed k a r = known_more g xs (as_changes added removed) k (known_laid g added removed a r)

pub queue_none : (taken : List ℕ) → ((w : ℕ) → slice_index_or taken w 0 ≡ 0) → IsQueue [] taken
queue_none taken z =
    record {
      ends = tt;
      within = λ w h. let a = z w in let b = get_or_default taken w 0 0 h in omega arith;
      between = λ w h. subst (EndsFrom false) (sym (drop-nil (slice_index_or taken w 0))) tt;
    }

-- a worker's place moves on
set_here : (xs : List ℕ) (w n d : ℕ) → w < length xs → slice_index_or (slice_set xs w n) w d ≡ n
set_here [] w n d h = absurd (omega arith)
set_here (x ∷ xs) zero n d h = refl
set_here (x ∷ xs) (suc w) n d h = set_here xs w n d (omega arith)

set_else : (xs : List ℕ) (w v n d : ℕ) → (v ≡ w → ⊥) → slice_index_or (slice_set xs w n) v d ≡ slice_index_or xs v d
set_else [] w v n d h = refl
set_else (x ∷ xs) zero zero n d h = absurd (h refl)
set_else (x ∷ xs) zero (suc v) n d h = refl
set_else (x ∷ xs) (suc w) zero n d h = refl
set_else (x ∷ xs) (suc w) (suc v) n d h = set_else xs w v n d (λ e. h (ap suc e))

pub set_long : (xs : List ℕ) (w n : ℕ) → length (slice_set xs w n) ≡ length xs
set_long [] w n = refl
set_long (x ∷ xs) zero n = refl
set_long (x ∷ xs) (suc w) n = ap suc (set_long xs w n)

pub left_here : (xs : List Change) (taken : List ℕ) (w n : ℕ) → w < length taken → drop (slice_index_or (slice_set taken w n) w (length xs)) xs ≡ drop n xs
left_here xs taken w n h = ap (λ k. drop k xs) (set_here taken w n (length xs) h)

pub left_else : (xs : List Change) (taken : List ℕ) (w v n : ℕ) → (v ≡ w → ⊥) → drop (slice_index_or (slice_set taken w n) v (length xs)) xs ≡ drop (slice_index_or taken v (length xs)) xs
left_else xs taken w v n h = ap (λ k. drop k xs) (set_else taken w v n (length xs) h)

pub queue_taken : (xs : List Change) (taken : List ℕ) (w n : ℕ) → IsQueue xs taken → w < length taken → n ≤ length xs → EndsFrom false (drop n xs) → IsQueue xs (slice_set taken w n)
queue_taken xs taken w n q l m e =
    record {
      ends = q.ends;
      within = λ v h. go_within v (eqb_tells v w) (rw (set_long taken w n) at h);
      between = λ v h. go_between v (eqb_tells v w) (rw (set_long taken w n) at h);
    }
  where
    go_within : (v : ℕ) → ((eqb v w ≡ true) × (v ≡ w)) ⊎ ((eqb v w ≡ false) × (v ≢ w)) → v < length taken → slice_index_or (slice_set taken w n) v (length xs) ≤ length xs
    go_within v (inl x) h = subst (λ k. slice_index_or (slice_set taken w n) k (length xs) ≤ length xs) (sym x.1) (let a = set_here taken w n (length xs) l in omega arith)
    go_within v (inr x) h = let a = set_else taken w v n (length xs) x.1 in let b = q.within v h in omega arith

    go_between : (v : ℕ) → ((eqb v w ≡ true) × (v ≡ w)) ⊎ ((eqb v w ≡ false) × (v ≢ w)) → v < length taken → EndsFrom false (drop (slice_index_or (slice_set taken w n) v (length xs)) xs)
    go_between v (inl x) h = subst (λ k. EndsFrom false (drop (slice_index_or (slice_set taken w n) k (length xs)) xs)) (sym x.1) (subst (EndsFrom false) (sym (left_here xs taken w n l)) e)
    go_between v (inr x) h = subst (EndsFrom false) (sym (left_else xs taken w v n x.1)) (q.between v h)

-- whether something is untaken, by a test of the worker's place
pub waits_tested : (xs : List Change) (taken : List ℕ) (w s place n : ℕ) → IsQueue xs taken → w < length taken → place ≡ slice_index_or taken w place → n ≡ length xs
    → MatchBool (ltb place n) (batches_of s (drop (slice_index_or taken w (length xs)) xs) ≡ [] → ⊥) (batches_of s (drop (slice_index_or taken w (length xs)) xs) ≡ [])
waits_tested xs taken w s place n q l is e = go (ltb place n) refl
  where
    at : slice_index_or taken w (length xs) ≡ place
    at = get_or_default taken w (length xs) place l ∙ sym is

    go : (b : Bool) → ltb place n ≡ b → MatchBool b (batches_of s (drop (slice_index_or taken w (length xs)) xs) ≡ [] → ⊥) (batches_of s (drop (slice_index_or taken w (length xs)) xs) ≡ [])
    go true t = waiting_some s (slice_index_or taken w (length xs)) xs (let a = at in grind (arith, nat_tests)) (q.between w l)
    go false t = waiting_none s (slice_index_or taken w (length xs)) xs (let a = at in grind (arith, nat_tests))
