-- A path takes a time where its summary does.
use Rattle.std.proofs.Common.{◌≡◌, ℕ, zero, suc, ◌+◌, ◌-◌, ◌≤◌, ◌<◌, List, [], ◌∷◌, ◌++◌, take, length, refl, sym, ap, ap₂, subst, ◌∙◌, arith, append_assoc, append-nil, length-append}
use Rattle.semantics.specs.Time.{Time, last_from, front_from, last, front, Action, after_action}
use Rattle.semantics.specs.Kinds.{action}
use Rattle.semantics.specs.Graph.{Graph, vertex, target, in_port, edge_source}
use Rattle.semantics.specs.Dataflow.{IsDataflow, IsWired, Goes, IsNested}
use Rattle.semantics.specs.Could.{Location, IsTimeAt, PathStep, IsPath, path_time}
use Rattle.semantics.proofs.EdgeNumbers.{entered}
use Rattle.semantics.proofs.CouldRises.{step_fits}
use Rattle.semantics.specs.Summary.{then_path, summary_of, Summary, raised_from, raised, applied, left_by, turned_by, then_action}

-- ---- the ends of lists

front-append : (xs : List ℕ) (c : ℕ) (cs : List ℕ) → front (xs ++ (c ∷ cs)) ≡ xs ++ front (c ∷ cs)
front-append [] c cs = refl
front-append (x ∷ xs) c cs = go x xs
  where
    go : (x : ℕ) (xs : List ℕ) → front_from x (xs ++ (c ∷ cs)) ≡ x ∷ (xs ++ front_from c cs)
    go x [] = refl
    go x (y ∷ ys) = ap (λ z. x ∷ z) (go y ys)

last-append : (xs : List ℕ) (c : ℕ) (cs : List ℕ) → last (xs ++ (c ∷ cs)) ≡ last (c ∷ cs)
last-append xs c cs = go 0 xs
  where
    go : (b : ℕ) (xs : List ℕ) → last_from b (xs ++ (c ∷ cs)) ≡ last_from c cs
    go b [] = refl
    go b (y ∷ ys) = go y ys

raised_nothing : (xs : List ℕ) → raised 0 xs ≡ xs
raised_nothing [] = refl
raised_nothing (x ∷ xs) = go x xs
  where
    go : (x : ℕ) (xs : List ℕ) → raised_from 0 x xs ≡ x ∷ xs
    go x [] = ap (λ z. z ∷ []) (let e : x + 0 ≡ x = omega arith in e)
    go x (y ∷ ys) = ap (λ z. x ∷ z) (go y ys)

front-raised : (j : ℕ) (xs : List ℕ) → front (raised j xs) ≡ front xs
front-raised j [] = refl
front-raised j (x ∷ xs) = go x xs
  where
    push : (x : ℕ) (d : ℕ) (ds : List ℕ) → front (x ∷ raised_from j d ds) ≡ x ∷ front (raised_from j d ds)
    push x d [] = refl
    push x d (e ∷ es) = refl

    go : (x : ℕ) (xs : List ℕ) → front (raised_from j x xs) ≡ front_from x xs
    go x [] = refl
    go x (y ∷ ys) = push x y ys ∙ ap (λ z. x ∷ z) (go y ys)

last-raised : (j x : ℕ) (xs : List ℕ) → last (raised_from j x xs) ≡ last_from x xs + j
last-raised j x [] = refl
last-raised j x (y ∷ ys) = push y ys ∙ last-raised j y ys
  where
    push : (d : ℕ) (ds : List ℕ) → last (x ∷ raised_from j d ds) ≡ last (raised_from j d ds)
    push d [] = refl
    push d (e ∷ es) = refl

raised_end : (j x : ℕ) (xs : List ℕ) → raised_from j x xs ≡ front_from x xs ++ ((last_from x xs + j) ∷ [])
raised_end j x [] = refl
raised_end j x (y ∷ ys) = ap (λ z. x ∷ z) (raised_end j y ys)

-- the first k without the last of them
front-take : (k : ℕ) (cs : List ℕ) → suc k ≤ length cs → front (take (suc k) cs) ≡ take k cs
front-take k [] l = absurd (omega arith)
front-take zero (c ∷ cs) l = refl
front-take (suc k) (c ∷ []) l = absurd (omega arith)
front-take (suc k) (c ∷ (d ∷ ds)) l = ap (λ z. c ∷ z) (front-take k (d ∷ ds) (omega arith))

-- ---- a summary and then an action

abbrev turns_after : Action → List ℕ → List ℕ
turns_after a cs = (after_action a (record { epoch = 0; counters = cs })).counters

next_raised : (j : ℕ) (xs : List ℕ) → 0 < length xs → front (raised j xs) ++ (suc (last (raised j xs)) ∷ []) ≡ raised (j + 1) xs
next_raised j [] l = absurd (omega arith)
next_raised j (x ∷ xs) l =
    ap₂ (λ fs e. fs ++ (e ∷ [])) (front-raised j (x ∷ xs)) (ap suc (last-raised j x xs) ∙ (let e : suc (last_from x xs + j) ≡ last_from x xs + (j + 1) = omega arith in e))
    ∙ sym (raised_end (j + 1) x xs)

leave_applied : (tail : List ℕ) (f : Summary) (cs : List ℕ) → f.tail ≡ tail → f.keep ≤ length cs → 0 < f.keep + length tail → applied (left_by tail f) cs ≡ front (raised f.add (take f.keep cs) ++ tail)
leave_applied [] f cs e l h = go f.keep refl
  where
    go : (k : ℕ) → f.keep ≡ k → raised 0 (take (f.keep - 1) cs) ++ [] ≡ front (raised f.add (take f.keep cs) ++ [])
    go zero q = absurd (omega arith)
    go (suc k) q =
        let m : f.keep - 1 ≡ k = omega arith in
        append-nil (raised 0 (take (f.keep - 1) cs)) ∙ raised_nothing (take (f.keep - 1) cs) ∙ ap (λ n. take n cs) m
        ∙ sym (ap front (append-nil (raised f.add (take f.keep cs))) ∙ front-raised f.add (take f.keep cs) ∙ ap (λ n. front (take n cs)) q ∙ front-take k cs (omega arith))
leave_applied (c ∷ ts) f cs e l h = sym (front-append (raised f.add (take f.keep cs)) c ts)

length-take : (k : ℕ) (cs : List ℕ) → k ≤ length cs → length (take k cs) ≡ k
length-take zero cs l = refl
length-take (suc k) [] l = absurd (omega arith)
length-take (suc k) (c ∷ cs) l = ap suc (length-take k cs (omega arith))

next_applied : (tail : List ℕ) (f : Summary) (cs : List ℕ) → f.tail ≡ tail → f.keep ≤ length cs → 0 < f.keep + length tail
    → applied (turned_by tail f) cs ≡ front (raised f.add (take f.keep cs) ++ tail) ++ (suc (last (raised f.add (take f.keep cs) ++ tail)) ∷ [])
next_applied [] f cs e l h =
    let xs = raised f.add (take f.keep cs) in
    ap (λ z. raised (f.add + 1) (take f.keep cs) ++ z) e ∙ append-nil (raised (f.add + 1) (take f.keep cs))
    ∙ sym (next_raised f.add (take f.keep cs) (let n = length-take f.keep cs l in omega arith))
    ∙ ap (λ z. front z ++ (suc (last z) ∷ [])) (sym (append-nil xs))
next_applied (c ∷ ts) f cs e l h =
    let xs = raised f.add (take f.keep cs) in
    sym (append_assoc xs (front (c ∷ ts)) (suc (last (c ∷ ts)) ∷ []))
    ∙ ap₂ (λ fs n. fs ++ (suc n ∷ [])) (sym (front-append xs c ts)) (sym (last-append xs c ts))

abbrev pub MayTake : Action → Summary → Type 0
MayTake Action.stay f = Unit {0}
MayTake Action.enter f = Unit {0}
MayTake Action.leave f = 0 < f.keep + length f.tail
MayTake Action.next f = 0 < f.keep + length f.tail

pub then_applied : (a : Action) (f : Summary) (cs : List ℕ) → f.keep ≤ length cs → MayTake a f → applied (then_action a f) cs ≡ turns_after a (applied f cs)
then_applied Action.stay f cs l h = refl
then_applied Action.enter f cs l h = sym (append_assoc (raised f.add (take f.keep cs)) f.tail (0 ∷ []))
then_applied Action.leave f cs l h = leave_applied f.tail f cs refl l h
then_applied Action.next f cs l h = next_applied f.tail f cs refl l h

-- ---- a summary and then a path

length-raised : (j : ℕ) (xs : List ℕ) → length (raised j xs) ≡ length xs
length-raised j [] = refl
length-raised j (x ∷ xs) = go x xs
  where
    go : (x : ℕ) (xs : List ℕ) → length (raised_from j x xs) ≡ suc (length xs)
    go x [] = refl
    go x (y ∷ ys) = ap suc (go y ys)

length-applied : (f : Summary) (cs : List ℕ) → f.keep ≤ length cs → length (applied f cs) ≡ f.keep + length f.tail
length-applied f cs l = omega (arith, length-append (raised f.add (take f.keep cs)) f.tail, length-raised f.add (take f.keep cs), length-take f.keep cs l)

keeps_few : (a : Action) (f : Summary) (n : ℕ) → f.keep ≤ n → (then_action a f).keep ≤ n
keeps_few Action.stay f n l = l
keeps_few Action.enter f n l = l
keeps_few Action.leave f n l = go f.tail
  where
    go : (tail : List ℕ) → (left_by tail f).keep ≤ n
    go [] = omega arith
    go (c ∷ cs) = l
keeps_few Action.next f n l = go f.tail
  where
    go : (tail : List ℕ) → (turned_by tail f).keep ≤ n
    go [] = l
    go (c ∷ cs) = l

pub may_take : (loops : ℕ → List ℕ) (v w : ℕ) (a : Action) → Goes loops v w a → (f : Summary) → f.keep + length f.tail ≡ length (loops v) → MayTake a f
may_take loops v w a (Goes.same_loop e h) f l = tt
may_take loops v w a (Goes.into_loop e q h) f l = tt
may_take loops v w a (Goes.out_of_loop q h) f l = omega (arith, l, ap length q, length-append (loops w) (v ∷ []))
may_take loops v w a (Goes.round_loop e h) f l = omega (arith, l)

time_after : (a : Action) (t : Time) (cs : List ℕ) → t.counters ≡ cs → after_action a t ≡ record { epoch = t.epoch; counters = turns_after a cs }
time_after Action.stay t cs e = λ i. record { epoch = t.epoch; counters = e i }
time_after Action.enter t cs e = ap (λ (ds : List ℕ). record { epoch = t.epoch; counters = ds ++ (0 ∷ []) }) e
time_after Action.leave t cs e = ap (λ (ds : List ℕ). record { epoch = t.epoch; counters = front ds }) e
time_after Action.next t cs e = ap (λ (ds : List ℕ). record { epoch = t.epoch; counters = front ds ++ (suc (last ds) ∷ []) }) e

module _ (g : Graph) (loops : ℕ → List ℕ) (wired : IsWired g) (nested : IsNested g loops) where
  pub path_applied : (path : List PathStep) (l m : Location) (t : Time) (f : Summary) (cs : List ℕ) → IsPath g l path m → IsTimeAt g l t → f.keep ≤ length cs → t.counters ≡ applied f cs
      → path_time g path t ≡ record { epoch = t.epoch; counters = applied (then_path g path f) cs }
  path_applied [] l m t f cs h fits few e = λ i. record { epoch = t.epoch; counters = e i }
  path_applied (PathStep.enters x ∷ path) l m t f cs h fits few e =
      path_applied path (Location.vertex (target g x)) m t f cs h.2 (step_fits g loops wired nested (PathStep.enters x) t h.0 (subst (λ (z : Location). IsTimeAt g z t) h.1 fits)) few e
  path_applied (PathStep.leaves x ∷ path) l m t f cs h fits few e =
      let a = action (vertex g (edge_source g x).vertex).kind in
      let here : IsTimeAt g (Location.vertex (edge_source g x).vertex) t = subst (λ (z : Location). IsTimeAt g z t) h.1 fits in
      let k = entered g x h.0 in
      let deep : f.keep + length f.tail ≡ length (loops (edge_source g x).vertex) = sym (length-applied f cs few) ∙ sym (ap length e) ∙ here.1 ∙ sym (nested.homes (edge_source g x).vertex here.0) in
      let may = may_take loops (edge_source g x).vertex (target g x) a (nested.goes (target g x) (in_port g x) k.known k.port) f deep in
      let is = time_after a t (applied f cs) e in
      path_applied path (Location.edge x) m (after_action a t) (then_action a f) cs h.2 (step_fits g loops wired nested (PathStep.leaves x) t h.0 here) (keeps_few a f (length cs) few)
      (ap (λ (z : Time). z.counters) is ∙ sym (then_applied a f cs few may))
      ∙ ap (λ (n : ℕ). record { epoch = n; counters = applied (then_path g path (then_action a f)) cs }) (ap (λ (z : Time). z.epoch) is)

  take_whole : (cs : List ℕ) → take (length cs) cs ≡ cs
  take_whole [] = refl
  take_whole (c ∷ cs) = ap (λ z. c ∷ z) (take_whole cs)

  -- the summary of a path takes a time where the path does
  pub path_summary : (path : List PathStep) (l m : Location) (t : Time) → IsPath g l path m → IsTimeAt g l t
      → path_time g path t ≡ record { epoch = t.epoch; counters = applied (summary_of g (length t.counters) path) t.counters }
  path_summary path l m t h fits =
      path_applied path l m t (record { keep = length t.counters; add = 0; tail = [] }) t.counters h fits (omega arith)
      (sym (append-nil (raised 0 (take (length t.counters) t.counters)) ∙ raised_nothing (take (length t.counters) t.counters) ∙ take_whole t.counters))

pub typed_summary : (g : Graph) → IsDataflow g → (path : List PathStep) (l m : Location) (t : Time) → IsPath g l path m → IsTimeAt g l t
    → path_time g path t ≡ record { epoch = t.epoch; counters = applied (summary_of g (length t.counters) path) t.counters }
typed_summary g flows path l m t h fits = path_summary g flows.loops flows.wired flows.nested path l m t h fits
