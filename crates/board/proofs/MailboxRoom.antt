-- WorkerShown by place, and room in mailboxes.
use Rattle.std.proofs.Common.{◌≡◌, ◌≢◌, ◌⊎◌, inl, inr, ℕ, zero, suc, ◌+◌, ◌<◌, ◌≤◌, ◌==◌, true, false, cond, List, [], ◌∷◌, length, take, refl, sym, ap, ◌∙◌, subst, arith, slice_set, slice_index_or, length-set}
use Rattle.std.specs.List.{AllByRecursion}
use Rattle.std.proofs.lemmas.Bool.Decides.{eqb_tells}
use Rattle.events.specs.declared.letter.Letter.{Letter}
use Rattle.events.specs.Letters.{sent_to}
use Rattle.board.specs.Shown.{Side, side_in}
use Rattle.board.specs.WorkerShown.{WorkerShown, worker_in, no_worker_shown, sides_of, HasRoom}
use Rattle.board.proofs.Mails.{sent_to_here}
use Rattle.board.proofs.Places.{index_any, index_set_here, index_set_other}

pub sides_set : (ds : List WorkerShown) (k : ℕ) (d : WorkerShown) → sides_of (slice_set ds k d) ≡ slice_set (sides_of ds) k d.side
sides_set [] k d = refl
sides_set (x ∷ ds) zero d = refl
sides_set (x ∷ ds) (suc k) d = ap (λ l. x.side ∷ l) (sides_set ds k d)

pub sides_length : (ds : List WorkerShown) → length (sides_of ds) ≡ length ds
sides_length [] = refl
sides_length (x ∷ ds) = ap suc (sides_length ds)

pub sides_at : (ds : List WorkerShown) (k : ℕ) → side_in (sides_of ds) k ≡ (worker_in ds k).side
sides_at [] zero = refl
sides_at [] (suc k) = refl
sides_at (x ∷ ds) zero = refl
sides_at (x ∷ ds) (suc k) = sides_at ds k

-- what an index reads is that worker
pub worker_read : (ds : List WorkerShown) (k : ℕ) (d : WorkerShown) → k < length ds → d ≡ slice_index_or ds k d → worker_in ds k ≡ d
worker_read ds k d l e = sym (index_any ds k no_worker_shown d l e)

pub side_read : (ds : List WorkerShown) (k : ℕ) (d : WorkerShown) → k < length ds → d ≡ slice_index_or ds k d → side_in (sides_of ds) k ≡ d.side
side_read ds k d l e = sides_at ds k ∙ ap (λ (x : WorkerShown). x.side) (worker_read ds k d l e)

pub room_here : (ds : List WorkerShown) (o : Letter) (os : List Letter) → HasRoom ds (o ∷ os) → o.to < length ds → 0 < (worker_in ds o.to).mail_room
room_here ds o os room l = let e = ap length (sent_to_here o os) in let r = room o.to l in omega arith

pub room_next : (ds es : List WorkerShown) (o : Letter) (os : List Letter) → HasRoom ds (o ∷ os) → length es ≡ length ds → (worker_in es o.to).mail_room + 1 ≡ (worker_in ds o.to).mail_room
    → ((k : ℕ) → k ≢ o.to → (worker_in es k).mail_room ≡ (worker_in ds k).mail_room) → HasRoom es os
room_next ds es o os room same here others k l = go (eqb_tells o.to k)
  where
    go : ((o.to == k) ≡ true) × (o.to ≡ k) ⊎ ((o.to == k) ≡ false) × (o.to ≢ k) → length (sent_to k os) ≤ (worker_in es k).mail_room
    go (inl (t, q)) =
        let r : length (sent_to k (o ∷ os)) ≤ (worker_in ds k).mail_room = room k (omega (arith, l, same)) in
        let e : length (sent_to k (o ∷ os)) ≡ suc (length (sent_to k os)) = ap (λ b. length (cond b (o.message ∷ sent_to k os) (sent_to k os))) t in
        let h : (worker_in es k).mail_room + 1 ≡ (worker_in ds k).mail_room = (let P : ℕ → Type 0 = λ n. (worker_in es n).mail_room + 1 ≡ (worker_in ds n).mail_room in subst P q here) in
        omega (arith, r, e, h)
    go (inr (t, q)) =
        let r : length (sent_to k (o ∷ os)) ≤ (worker_in ds k).mail_room = room k (omega (arith, l, same)) in
        let e : length (sent_to k (o ∷ os)) ≡ length (sent_to k os) = ap (λ b. length (cond b (o.message ∷ sent_to k os) (sent_to k os))) t in
        omega (arith, r, e, others k (λ x. q (sym x)))

-- each of these letters' workers has room for n messages
abbrev pub AllRoom : ℕ → List WorkerShown → List Letter → Type 0
AllRoom n ds ls = AllByRecursion (λ (l : Letter). n ≤ (worker_in ds l.to).mail_room) ls

pub all_more : (n : ℕ) (ds : List WorkerShown) (k : ℕ) (d : WorkerShown) (ls : List Letter) → k < length ds → n ≤ d.mail_room → AllRoom n ds ls → AllRoom n (slice_set ds k d) ls
all_more n ds k d [] l h all = tt
all_more n ds k d (o ∷ ls) l h all = (go (eqb_tells o.to k), all_more n ds k d ls l h all.1)
  where
    go : ((o.to == k) ≡ true) × (o.to ≡ k) ⊎ ((o.to == k) ≡ false) × (o.to ≢ k) → n ≤ (worker_in (slice_set ds k d) o.to).mail_room
    go (inl (t, q)) =
        let e : worker_in (slice_set ds k d) o.to ≡ d = ap (λ i. worker_in (slice_set ds k d) i) q ∙ index_set_here ds k d no_worker_shown l in
        omega (arith, h, ap (λ (x : WorkerShown). x.mail_room) e)
    go (inr (t, q)) = omega (arith, all.0, ap (λ (x : WorkerShown). x.mail_room) (index_set_other ds k o.to d no_worker_shown q))

-- one more letter
pub all_take : (n : ℕ) (ds : List WorkerShown) (ls : List Letter) (i : ℕ) (o : Letter) → i < length ls → o ≡ slice_index_or ls i o → AllRoom n ds (take i ls) → n ≤ (worker_in ds o.to).mail_room → AllRoom n ds (take (i + 1) ls)
all_take n ds ls i o l e all h = let m : i + 1 ≡ suc i = omega arith in rw m (go ls i l e all)
  where
    go : (xs : List Letter) (j : ℕ) → j < length xs → o ≡ slice_index_or xs j o → AllRoom n ds (take j xs) → AllRoom n ds (take (suc j) xs)
    go [] j lj q a = absurd (omega arith)
    go (x ∷ xs) zero lj q a = ((let P : Letter → Type 0 = λ z. n ≤ (worker_in ds z.to).mail_room in subst P q h), tt)
    go (x ∷ xs) (suc j) lj q a = (a.0, go xs j (omega arith) q a.1)

pub has_room : (n : ℕ) (ds : List WorkerShown) (ls : List Letter) → length ls ≤ n → AllRoom n ds ls → HasRoom ds ls
has_room n ds [] h all k l = omega arith
has_room n ds (o ∷ ls) h all k l = go (eqb_tells o.to k) (has_room n ds ls (omega (arith, h)) all.1 k l)
  where
    few : (xs : List Letter) → length (sent_to k xs) ≤ length xs
    few [] = omega arith
    few (x ∷ xs) = by (x.to == k) (few xs)
      where
        by : (b : _) → length (sent_to k xs) ≤ length xs → length (cond b (x.message ∷ sent_to k xs) (sent_to k xs)) ≤ suc (length xs)
        by true r = omega arith
        by false r = omega arith

    go : ((o.to == k) ≡ true) × (o.to ≡ k) ⊎ ((o.to == k) ≡ false) × (o.to ≢ k) → length (sent_to k ls) ≤ (worker_in ds k).mail_room → length (sent_to k (o ∷ ls)) ≤ (worker_in ds k).mail_room
    go (inl (t, q)) ih =
        let f : length (sent_to k (o ∷ ls)) ≤ length (o ∷ ls) = few (o ∷ ls) in
        let r : n ≤ (worker_in ds k).mail_room = (let P : ℕ → Type 0 = λ i. n ≤ (worker_in ds i).mail_room in subst P q all.0) in
        omega (arith, f, r, h)
    go (inr (t, q)) ih = let e : length (sent_to k (o ∷ ls)) ≡ length (sent_to k ls) = ap (λ b. length (cond b (o.message ∷ sent_to k ls) (sent_to k ls))) t in omega (arith, e, ih)

set_same : (xs : List Side) (k : ℕ) → slice_set xs k (side_in xs k) ≡ xs
set_same [] k = refl
set_same (x ∷ xs) zero = refl
set_same (x ∷ xs) (suc k) = ap (λ l. x ∷ l) (set_same xs k)

-- replacing a worker by one that shows the same leaves the sides
pub sides_same : (ds : List WorkerShown) (k : ℕ) (d x : WorkerShown) → k < length ds → x ≡ slice_index_or ds k x → d.side ≡ x.side → sides_of (slice_set ds k d) ≡ sides_of ds
sides_same ds k d x l e same =
    sides_set ds k d ∙ ap (λ z. slice_set (sides_of ds) k z) (same ∙ sym (side_read ds k x l e)) ∙ set_same (sides_of ds) k

pub sides_change : (ds : List WorkerShown) (k : ℕ) (d x : WorkerShown) (f : Side → Side) → k < length ds → x ≡ slice_index_or ds k x → d.side ≡ f x.side → sides_of (slice_set ds k d) ≡ slice_set (sides_of ds) k (f (side_in (sides_of ds) k))
sides_change ds k d x f l e new =
    sides_set ds k d ∙ ap (λ z. slice_set (sides_of ds) k z) (new ∙ ap f (sym (side_read ds k x l e)))

pub all_at : (n : ℕ) (ls : List Letter) (i : ℕ) (o : Letter) → AllByRecursion (λ (l : Letter). l.to < n) ls → i < length ls → o ≡ slice_index_or ls i o → o.to < n
all_at n [] i o all l e = absurd (omega arith)
all_at n (x ∷ ls) zero o all l e = let P : Letter → Type 0 = λ z. z.to < n in subst P (sym e) all.0
all_at n (x ∷ ls) (suc i) o all l e = all_at n ls i o all.1 (omega arith) e

-- workers that show the same sides are as many
pub as_many : (ds es : List WorkerShown) → sides_of ds ≡ sides_of es → length ds ≡ length es
as_many ds es e = sym (sides_length ds) ∙ ap length e ∙ sides_length es

pub letter_there : (n : ℕ) (ls : List Letter) (i t : ℕ) (o : Letter) → AllByRecursion (λ (l : Letter). l.to < n) ls → i < length ls → o ≡ slice_index_or ls i o → t ≡ o.to → t < n
letter_there n ls i t o all l e q = omega (arith, all_at n ls i o all l e, q)

pub reserved_next : (n : ℕ) (ds : List WorkerShown) (ls : List Letter) (i t : ℕ) (o : Letter) (d x : WorkerShown) → t < length ds → t ≡ o.to → i < length ls → o ≡ slice_index_or ls i o → n ≤ d.mail_room
    → AllRoom n ds (take i ls) → AllRoom n (slice_set ds t d) (take (i + 1) ls)
reserved_next n ds ls i t o d x l q li e room all =
    let here : worker_in (slice_set ds t d) o.to ≡ d = ap (λ k. worker_in (slice_set ds t d) k) (sym q) ∙ index_set_here ds t d no_worker_shown l in
    all_take n (slice_set ds t d) ls i o li e (all_more n ds t d (take i ls) l room all) (omega (arith, room, ap (λ (z : WorkerShown). z.mail_room) here))

-- replacing a worker by one with the same room leaves the room
pub room_kept : (ds : List WorkerShown) (k : ℕ) (d x : WorkerShown) (ls : List Letter) → k < length ds → x ≡ slice_index_or ds k x → d.mail_room ≡ x.mail_room → HasRoom ds ls → HasRoom (slice_set ds k d) ls
room_kept ds k d x ls l e same room i li = go (eqb_tells i k)
  where
    n : length (slice_set ds k d) ≡ length ds
    n = length-set ds k d

    go : ((i == k) ≡ true) × (i ≡ k) ⊎ ((i == k) ≡ false) × (i ≢ k) → length (sent_to i ls) ≤ (worker_in (slice_set ds k d) i).mail_room
    go (inl (t, q)) =
        let here : worker_in (slice_set ds k d) i ≡ d = ap (λ j. worker_in (slice_set ds k d) j) q ∙ index_set_here ds k d no_worker_shown l in
        let was : worker_in ds i ≡ x = ap (λ j. worker_in ds j) q ∙ worker_read ds k x l e in
        omega (arith, room i (omega (arith, li, n)), ap (λ (z : WorkerShown). z.mail_room) here, ap (λ (z : WorkerShown). z.mail_room) was, same)
    go (inr (t, q)) = omega (arith, room i (omega (arith, li, n)), ap (λ (z : WorkerShown). z.mail_room) (index_set_other ds k i d no_worker_shown q))
