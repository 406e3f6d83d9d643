-- What was fed and what waits, compared with what the items say.
use Rattle.std.proofs.Common.{◌≡◌, ◌<◌, ◌≤◌, ◌+◌, ◌-◌, ◌∙◌, ℕ, Bool, true, false, List, [], ◌∷◌, ◌++◌, length, map, cond, refl, sym, ap, subst, arith, append_assoc, inl, inr, eq-eqb}
use Rattle.std.specs.Prelude.{◌==◌, ◌&&◌}
use Rattle.std.proofs.lemmas.Bool.Decides.{eqb_tells}
use Rattle.std.proofs.lemmas.Bool.{cases_lt}
use Rattle.std.proofs.lemmas.List.{append-nil, get_or-map, get_or_past, length-map}
use Rattle.rows.specs.FlatRows.{RowList}
use Rattle.semantics.specs.Multiset.{Record, ◌≈◌}
use Rattle.semantics.proofs.MultisetSums.{append_same, ≈-from, ≈-trans}
use Rattle.machine.specs.Step.{put}
use Rattle.board.specs.Shown.{Shown}
use Rattle.collector.specs.Lines.{Item}
use Rattle.collector.specs.InputText.{epochs_after, records_in}
use Rattle.collector.proofs.LinesRead.{epoch_push, epochs_push, row_push}
use Rattle.follow.specs.Follows.{said_records}
use Rattle.std.specs.Prelude.{Some, slice_get, slice_index_or}
use Rattle.alone.specs.Scenes.{AreFree, Feeds, Grows, IsLive, IsReady, Seals, Works, fed_at, open_at}
use Rattle.follow.specs.Scenes.{IsAllFed, IsFed, IsFedSo, arity_at, declared_arities, missing, no_rows, waiting}
use Rattle.semantics.specs.Query.{Input}
use Rattle.semantics.specs.Graph.{input_count}
use Rattle.graph.specs.Shown.{GraphValue, shown_graph, shown_inputs}
use Rattle.driver.specs.Inputs.{AreInputsOf}
use Rattle.board.specs.Fitting.{arity_in}
use Rattle.std.proofs.lemmas.Option.{get_or_from_slice_get, slice_get-get_or, slice_get_within}
use Rattle.follow.specs.Steps.{CanTake, Counts, Empties, Gathers, Holds, TakesItem, FeedsRows, FeedsPortion}
use Rattle.follow.specs.declared.intake.Intake.{Intake}
use Rattle.alone.proofs.Moved.{grows_not, grows_on}

nothing_either : (b : Bool) (xs : List Record) → xs ≡ [] → cond b xs [] ≡ []
nothing_either true xs e = e
nothing_either false xs e = refl

-- ---- a record that waits

one_waits : (a b : Bool) (fed before after r : List Record) (z : Record) → after ≡ cond a (before ++ z ∷ []) before → fed ++ cond b before [] ≡ r → fed ++ cond b after [] ≡ cond (a && b) (r ++ z ∷ []) r
one_waits true true fed before after r z e h = ap (λ (xs : List Record). fed ++ xs) e ∙ sym (append_assoc fed before (z ∷ [])) ∙ ap (λ (xs : List Record). xs ++ z ∷ []) h
one_waits true false fed before after r z e h = h
one_waits false true fed before after r z e h = ap (λ (xs : List Record). fed ++ xs) e ∙ h
one_waits false false fed before after r z e h = h

-- an epoch of the board is the last that began exactly if the input's is
same_test : (base e begun epochs : ℕ) → base + begun ≡ epochs → (e + 1 == begun) ≡ (base + e + 1 == epochs)
same_test base e begun epochs is = elim (eqb_tells (e + 1) begun) [
  | inl here ↦ here.0 ∙ sym (eq-eqb (base + e + 1) epochs (omega (arith, here.1, is)))
  | inr other ↦ elim (eqb_tells (base + e + 1) epochs) [
    | inl there ↦ absurd (other.1 (omega (arith, there.1, is)))
    | inr apart ↦ other.0 ∙ sym apart.0
  ]
]

pub gathered : (s : Shown) (x y : Intake) (base : ℕ) (items : List Item) (i : ℕ) (z : Record) → IsFed s base x items → Gathers x y i z → IsFed s base y (items ++ Item.row i z ∷ [])
gathered s x y base items i z f g = record {
  live = f.live;
  ready = f.ready;
  fits = g.holds.arities ∙ f.fits;
  start = λ zero. absurd (omega (arith, zero, g.some, g.holds.begun));
  order = f.order;
  alike = f.alike;
  begun = ap (λ (n : ℕ). base + n) g.holds.begun ∙ f.begun ∙ sym (epochs_push 0 items (Item.row i z));
  fed = λ j e.
      let said = records_in (base + e) j 0 items in
      ap (λ (n : ℕ). f.order j e ++ cond (e + 1 == n) (waiting y j) []) g.holds.begun ∙ one_waits (j == i) (e + 1 == x.begun) (f.order j e) (waiting x j) (waiting y j) said z (g.waits j) (f.fed j e)
      ∙ ap (λ (b : Bool). cond ((j == i) && b) (said ++ z ∷ []) said) (same_test base e x.begun (epochs_after 0 items) f.begun) ∙ sym (row_push (base + e) j 0 items i z);
  opened = λ j lt. f.opened j (omega (arith, lt, g.holds.inputs)) ∙ ap (λ (n : ℕ). n - 1) (sym g.holds.begun);
  none = λ zero. absurd (omega (arith, zero, g.some, g.holds.begun));
}

-- ---- what waits is fed

-- at the input: what waited for the open epoch is fed there
fed_here : (fed : ℕ → List Record) (batch : List Record) (begun now e : ℕ) (r : List Record) → now ≡ begun - 1 → (begun ≡ 0 → batch ≡ []) → fed e ++ cond (e + 1 == begun) batch [] ≡ r → put fed now (fed now ++ batch) e ≡ r
fed_here fed batch begun now e r at none h = elim (eqb_tells e now) [
  | inl same ↦
      ap (λ t. cond t (fed now ++ batch) (fed e)) same.0 ∙ ap (λ (n : ℕ). fed n ++ batch) (sym same.1) ∙ elim (eqb_tells begun 0) [
        | inl zero ↦ ap (λ (xs : List Record). fed e ++ xs) (none zero.1 ∙ sym (nothing_either (e + 1 == begun) batch (none zero.1))) ∙ h
        | inr some ↦
            let last : (e + 1 == begun) ≡ true = eq-eqb (e + 1) begun (let p = some.1 in let q = same.1 in omega (arith, at, p, q)) in
            ap (λ t. fed e ++ cond t batch []) (sym last) ∙ h
      ]
  | inr other ↦
      ap (λ t. cond t (fed now ++ batch) (fed e)) other.0 ∙ elim (eqb_tells (e + 1) begun) [
        | inl last ↦ absurd (other.1 (omega (arith, at, last.1)))
        | inr earlier ↦ sym (append-nil (fed e)) ∙ ap (λ t. fed e ++ cond t batch []) (sym earlier.0) ∙ h
      ]
]

-- the same for an input that was fed or another one
fed_there : (a b : Bool) (here fed missed : ℕ → List Record) (e : ℕ) (r waits after : List Record) → after ≡ cond a [] waits → (a ≡ true → here e ≡ r) → (a ≡ false → fed e ++ cond b waits [] ≡ r) → cond a here fed e ++ cond b after [] ≡ r
fed_there true b here fed missed e r waits after is h g = ap (λ (xs : List Record). here e ++ xs) (nothing_either b after is) ∙ append-nil (here e) ∙ h refl
fed_there false b here fed missed e r waits after is h g = ap (λ (xs : List Record). fed e ++ cond b xs []) is ∙ g refl

put_alike : (f g : ℕ → ℕ → List Record) (i o : ℕ) (batch rows : List Record) → ((j e : ℕ) → f j e ≈ g j e) → batch ≈ rows → (j e : ℕ) → put f i (put (f i) o (f i o ++ batch)) j e ≈ put g i (put (g i) o (g i o ++ rows)) j e
put_alike f g i o batch rows h same j e = go (j == i)
  where
    here : (b : Bool) → cond {A = List Record} b (f i o ++ batch) (f i e) ≈ cond b (g i o ++ rows) (g i e)
    here true = append_same (f i o) (g i o) batch rows (h i o) same
    here false = h i e

    go : (a : Bool) → cond {A = ℕ → List Record} a (put (f i) o (f i o ++ batch)) (f j) e ≈ cond {A = ℕ → List Record} a (put (g i) o (g i o ++ rows)) (g j) e
    go true = here (e == o)
    go false = h j e

pub fed_one : (s t : Shown) (x y : Intake) (base : ℕ) (items : List Item) (i : ℕ) (batch rows : List Record) → batch ≈ rows → IsFed s base x items → Empties x y i rows → i < length x.portion.items → Feeds s t i batch → IsFed t base y items
fed_one s t x y base items i batch rows same f g lt feeds = record {
  live = feeds.grows.live;
  ready = feeds.ready;
  fits = g.holds.arities ∙ f.fits ∙ sym (ap declared_arities feeds.grows.graph);
  start = λ zero. f.start (sym g.holds.begun ∙ zero);
  begun = ap (λ (n : ℕ). base + n) g.holds.begun ∙ f.begun;
  order = put f.order i (put (f.order i) (open_at s i) (f.order i (open_at s i) ++ rows));
  alike = λ j e. ≈-trans (≈-from (feeds.fed j e)) (put_alike (fed_at s) f.order i (open_at s i) batch rows f.alike same j e);
  fed = λ j e.
      let here : ℕ → List Record = put (f.order i) (open_at s i) (f.order i (open_at s i) ++ rows) in
      ap (λ (n : ℕ). cond (j == i) here (f.order j) e ++ cond (e + 1 == n) (waiting y j) []) g.holds.begun
      ∙ fed_there (j == i) (e + 1 == x.begun) here (f.order j) here e (said_records items (base + e) j) (waiting x j) (waiting y j) (g.waits j) (at_input j e) (λ other. f.fed j e);
  opened = λ j less. feeds.opened j ∙ f.opened j (omega (arith, less, g.holds.inputs)) ∙ ap (λ (n : ℕ). n - 1) (sym g.holds.begun);
  none = λ zero j. g.waits j ∙ nothing_here (j == i) (waiting x j) (f.none (sym g.holds.begun ∙ zero) j);
}
  where
    nothing_here : (b : Bool) (xs : List Record) → xs ≡ [] → cond b [] xs ≡ []
    nothing_here true xs e = refl
    nothing_here false xs e = e

    at_input : (j e : ℕ) → (j == i) ≡ true → put (f.order i) (open_at s i) (f.order i (open_at s i) ++ rows) e ≡ said_records items (base + e) j
    at_input j e yes_way = elim (eqb_tells j i) [
      | inl place ↦
          let waited : f.order i e ++ cond (e + 1 == x.begun) rows [] ≡ said_records items (base + e) i = ap (λ (xs : List Record). f.order i e ++ cond (e + 1 == x.begun) xs []) g.taken ∙ f.fed i e in
          fed_here (f.order i) rows x.begun (open_at s i) e (said_records items (base + e) i) (f.opened i lt) (λ zero. g.taken ∙ f.none zero i) waited ∙ ap (λ (k : ℕ). said_records items (base + e) k) (sym place.1)
      | inr other ↦ absurd (let p : true ≡ false = sym yes_way ∙ other.0 in cc)
    ]

-- where nothing waits, there is nothing to feed
pub fed_none : (s : Shown) (x y : Intake) (base : ℕ) (items : List Item) (i : ℕ) → IsFed s base x items → Empties x y i [] → IsFed s base y items
fed_none s x y base items i f g = record {
  live = f.live;
  ready = f.ready;
  fits = g.holds.arities ∙ f.fits;
  start = λ zero. f.start (sym g.holds.begun ∙ zero);
  order = f.order;
  alike = f.alike;
  begun = ap (λ (n : ℕ). base + n) g.holds.begun ∙ f.begun;
  fed = λ j e. ap (λ (n : ℕ). f.order j e ++ cond (e + 1 == n) (waiting y j) []) g.holds.begun ∙ ap (λ (xs : List Record). f.order j e ++ cond (e + 1 == x.begun) xs []) (same j) ∙ f.fed j e;
  opened = λ j less. f.opened j (omega (arith, less, g.holds.inputs)) ∙ ap (λ (n : ℕ). n - 1) (sym g.holds.begun);
  none = λ zero j. same j ∙ f.none (sym g.holds.begun ∙ zero) j;
}
  where
    same : (j : ℕ) → waiting y j ≡ waiting x j
    same j = elim (eqb_tells j i) [
      | inl here ↦ g.waits j ∙ ap (λ t. cond t [] (waiting x j)) here.0 ∙ g.taken ∙ ap (waiting x) (sym here.1)
      | inr other ↦ g.waits j ∙ ap (λ t. cond t [] (waiting x j)) other.0
    ]

-- ---- an epoch begins

in_order : (s : Shown) (x : Intake) (base : ℕ) (items : List Item) (f : IsFed s base x items) → ((i : ℕ) → waiting x i ≡ []) → (i e : ℕ) → f.order i e ≡ said_records items (base + e) i
in_order s x base items f none i e = sym (append-nil (f.order i e)) ∙ ap (λ (xs : List Record). f.order i e ++ xs) (sym (nothing_either (e + 1 == x.begun) (waiting x i) (none i))) ∙ f.fed i e

pub all_fed : (s : Shown) (x : Intake) (base : ℕ) (items : List Item) → IsFed s base x items → ((i : ℕ) → waiting x i ≡ []) → IsAllFed s base items
all_fed s x base items f none = record { live = f.live; fed = λ i e. ≈-trans (f.alike i e) (≈-from (in_order s x base items f none i e)) }

-- what another step of the board leaves, if the open epochs are known
begun_at : (s t : Shown) (x y : Intake) (base : ℕ) (items : List Item) → IsFed s base x items → ((i : ℕ) → waiting x i ≡ []) → IsReady t → Grows s t → ((i e : ℕ) → fed_at t i e ≡ fed_at s i e) → y.begun ≡ x.begun + 1 → y.portion.items ≡ x.portion.items
    → ((i : ℕ) → i < length x.portion.items → open_at t i ≡ x.begun) → IsFed t base y (items ++ Item.epoch ∷ [])
begun_at s t x y base items f none ready grows fed begun same opened = record {
  live = grows.live;
  ready = ready;
  fits = ap (λ xs. map (λ (r : RowList). r.arity) xs) same ∙ f.fits ∙ sym (ap declared_arities grows.graph);
  start = λ zero. absurd (omega (arith, zero, begun));
  begun = omega (arith, begun, f.begun, epochs_push 0 items Item.epoch);
  order = f.order;
  alike = λ i e. ≈-trans (≈-from (fed i e)) (f.alike i e);
  fed = λ i e. ap (λ (xs : List Record). f.order i e ++ xs) (nothing_either (e + 1 == y.begun) (waiting y i) (empty i)) ∙ append-nil (f.order i e) ∙ in_order s x base items f none i e ∙ sym (epoch_push (base + e) i 0 items);
  opened = λ i lt. opened i (omega (arith, lt, ap length same)) ∙ (let e : x.begun ≡ y.begun - 1 = omega (arith, begun) in e);
  none = λ zero. absurd (omega (arith, zero, begun));
}
  where
    waits_same : (i : ℕ) → waiting y i ≡ waiting x i
    waits_same i = ap (λ xs. (slice_index_or xs i no_rows).rows) same

    empty : (i : ℕ) → waiting y i ≡ []
    empty i = waits_same i ∙ none i

pub worked : (s t : Shown) (x : Intake) (base : ℕ) (items : List Item) → IsFed s base x items → Works s t → AreFree t → IsFed t base x items
worked s t x base items f w free = record {
  live = w.grows.live;
  ready = record { free = free; unclosed = λ i. w.closed i ∙ f.ready.unclosed i };
  fits = f.fits ∙ sym (ap declared_arities w.grows.graph);
  start = f.start;
  begun = f.begun;
  order = f.order;
  alike = λ i e. ≈-trans (≈-from (w.fed i e)) (f.alike i e);
  fed = f.fed;
  opened = λ i lt. w.opened i ∙ f.opened i lt;
  none = f.none;
}

pub all_worked : (s t : Shown) (base : ℕ) (items : List Item) → IsAllFed s base items → IsLive t → ((i e : ℕ) → fed_at t i e ≡ fed_at s i e) → IsAllFed t base items
all_worked s t base items f live same = record { live = live; fed = λ i e. ≈-trans (≈-from (same i e)) (f.fed i e) }

-- an item of the next epoch, with or without a seal of the one before
pub begun_sealed : (s t u : Shown) (x y z : Intake) (n : ℕ) → FeedsPortion s t x y → Seals t u n → n ≡ length y.portion.items → (y.begun ≡ 0 → ⊥) → z.begun ≡ y.begun + 1 → z.line ≡ y.line → z.portion.items ≡ y.portion.items → TakesItem s u x z Item.epoch
begun_sealed s t u x y z n sent seals all some begun line same = record {
  line = line ∙ sent.holds.line;
  fed = λ base items f.
      let g = sent.fed base items f in
      (begun_at t u y z base items g.0 sent.none seals.ready seals.grows seals.fed begun same (λ i lt. seals.sealed i (omega (arith, lt, all)) ∙ ap (λ (n : ℕ). n + 1) (g.0.opened i lt) ∙ (let e : y.begun - 1 + 1 ≡ y.begun = omega (arith, some) in e)), grows_on s t u g.1 seals.grows);
}

pub begun_first : (s t : Shown) (x y z : Intake) → FeedsPortion s t x y → y.begun ≡ 0 → z.begun ≡ y.begun + 1 → z.line ≡ y.line → z.portion.items ≡ y.portion.items → TakesItem s t x z Item.epoch
begun_first s t x y z sent none begun line same = record {
  line = line ∙ sent.holds.line;
  fed = λ base items f.
      let g = sent.fed base items f in
      (begun_at t t y z base items g.0 sent.none g.0.ready (grows_not t g.0.live) (λ i e. refl) begun same (λ i lt. g.0.opened i lt ∙ (let e : y.begun - 1 ≡ y.begun = omega (arith, none) in e)), g.1);
}

pub gathers_moves : (s : Shown) (x y : Intake) (i : ℕ) (z : Record) → Gathers x y i z → TakesItem s s x y (Item.row i z)
gathers_moves s x y i z g = record { line = g.holds.line; fed = λ base items f. (gathered s x y base items i z f g, grows_not s f.live) }

-- ---- what waits at each input is fed, one after another

pub holds_on : (x y z : Intake) → Holds x y → Holds y z → Holds x z
holds_on x y z p q = record { begun = q.begun ∙ p.begun; line = q.line ∙ p.line; inputs = q.inputs ∙ p.inputs; arities = q.arities ∙ p.arities }

pub sent_one : (s t : Shown) (x y : Intake) (i : ℕ) (batch rows : List Record) → batch ≈ rows → Empties x y i rows → i < length x.portion.items → Feeds s t i batch → FeedsRows s t x y i
sent_one s t x y i batch rows same g lt feeds = record {
  holds = g.holds;
  waits = g.waits;
  fed = λ base items f. (fed_one s t x y base items i batch rows same f g lt feeds, feeds.grows);
}

pub sent_none : (s : Shown) (x y : Intake) (i : ℕ) (rows : List Record) → Empties x y i rows → rows ≡ [] → FeedsRows s s x y i
sent_none s x y i rows g none = record {
  holds = g.holds;
  waits = g.waits;
  fed = λ base items f. (fed_none s x y base items i f (subst (Empties x y i) none g), grows_not s f.live);
}

-- at the first n inputs nothing waits
pub record SentSome (s t : Shown) (x y : Intake) (n : ℕ) : Type 0 where
  pub holds : Holds x y
  pub none : (i : ℕ) → i < n → waiting y i ≡ []
  pub fed : (base : ℕ) (items : List Item) → IsFed s base x items → IsFed t base y items × Grows s t

pub none_sent : (s : Shown) (x : Intake) → SentSome s s x x 0
none_sent s x = record {
  holds = record { begun = refl; line = refl; inputs = refl; arities = refl };
  none = λ i lt. absurd (omega (arith, lt));
  fed = λ base items f. (f, grows_not s f.live);
}

pub more_sent : (s t u : Shown) (x y z : Intake) (n : ℕ) → SentSome s t x y n → FeedsRows t u y z n → SentSome s u x z (n + 1)
more_sent s t u x y z n p q = record {
  holds = holds_on x y z p.holds q.holds;
  none = λ i lt. q.waits i ∙ elim (eqb_tells i n) [
    | inl same ↦ ap (λ t. cond t [] (waiting y i)) same.0
    | inr other ↦ ap (λ t. cond t [] (waiting y i)) other.0 ∙ p.none i (omega (arith, lt, other.1))
  ];
  fed = λ base items f. let a = p.fed base items f in let b = q.fed base items a.0 in (b.0, grows_on s t u a.1 b.1);
}

pub sent_so : (s t : Shown) (x y : Intake) (n : ℕ) → SentSome s t x y n → IsFedSo s x → IsFedSo t y
sent_so s t x y n p (base, items, f) = (base, items, (p.fed base items f).0)

pub all_sent : (s t : Shown) (x y : Intake) (n : ℕ) → SentSome s t x y n → length x.portion.items ≤ n → FeedsPortion s t x y
all_sent s t x y n p le = record {
  holds = p.holds;
  none = λ i. elim (cases_lt i n) [
    | inl lt ↦ p.none i lt
    | inr ge ↦ ap (λ (r : RowList). r.rows) (get_or_past y.portion.items i no_rows (omega (arith, ge, le, p.holds.inputs)))
  ];
  fed = p.fed;
}

pub portion_so : (s t : Shown) (x y : Intake) → FeedsPortion s t x y → IsFedSo s x → IsFedSo t y
portion_so s t x y p (base, items, f) = (base, items, (p.fed base items f).0)

-- nothing is missing where nothing was fed and nothing waits
pub nothing_waits : (x : Intake) (i e : ℕ) {fed : List Record} → waiting x i ≡ [] → fed ≡ [] → fed ++ missing x i e ≡ []
nothing_waits x i e none f = ap (λ (xs : List Record). xs ++ missing x i e) f ∙ nothing_either (e + 1 == x.begun) (waiting x i) none

-- counting a line changes nothing else
pub counted_fed : (s : Shown) (x y : Intake) (base : ℕ) (items : List Item) → Counts x y → IsFed s base x items → IsFed s base y items
counted_fed s x y base items c f = record {
  live = f.live;
  ready = f.ready;
  fits = ap (λ xs. map (λ (r : RowList). r.arity) xs) c.portion ∙ f.fits;
  start = λ zero. f.start (sym c.begun ∙ zero);
  order = f.order;
  alike = f.alike;
  begun = ap (λ (n : ℕ). base + n) c.begun ∙ f.begun;
  fed = λ i e. ap (λ (n : ℕ). f.order i e ++ cond (e + 1 == n) (waiting y i) []) c.begun ∙ ap (λ (xs : List Record). f.order i e ++ cond (e + 1 == x.begun) xs []) (same i) ∙ f.fed i e;
  opened = λ i lt. f.opened i (omega (arith, lt, ap length c.portion)) ∙ ap (λ (n : ℕ). n - 1) (sym c.begun);
  none = λ zero i. same i ∙ f.none (sym c.begun ∙ zero) i;
}
  where
    same : (i : ℕ) → waiting y i ≡ waiting x i
    same i = ap (λ xs. (slice_index_or xs i no_rows).rows) c.portion

-- ---- inputs

-- there are as many inputs as the graph declares
pub as_many_inputs : (s : Shown) (base : ℕ) (x : Intake) (items : List Item) → IsFed s base x items → length x.portion.items ≡ length (shown_inputs s.graph)
as_many_inputs s base x items f =
    let a = length-map x.portion.items (λ (r : RowList). r.arity) in
    let b = length-map (shown_inputs s.graph) (λ (i : Input). i.arity) in
    let e = ap length f.fits in
    omega (arith, a, b, e)

-- each has the arity that is declared
pub arity_declared : (s : Shown) (base : ℕ) (x : Intake) (items : List Item) (i : ℕ) (input : Input) → IsFed s base x items → slice_get (shown_inputs s.graph) i ≡ Some input → arity_at x i ≡ input.arity
arity_declared s base x items i input f is =
    let within = slice_get_within (shown_inputs s.graph) i input is in
    let there : i < length x.portion.items = omega (arith, within, as_many_inputs s base x items f) in
    sym (get_or-map (λ (r : RowList). r.arity) x.portion.items i no_rows 0 there) ∙ ap (λ (xs : List ℕ). slice_index_or xs i 0) f.fits ∙ get_or-map (λ (j : Input). j.arity) (shown_inputs s.graph) i input 0 within
    ∙ ap (λ (j : Input). j.arity) (get_or_from_slice_get (shown_inputs s.graph) i input input is)

-- the inputs of a board
pub record HasInputs (s : Shown) : Type 0 where
  pub shown : length s.inputs ≡ input_count (shown_graph s.graph)
  pub are : AreInputsOf s.graph (shown_inputs s.graph)

pub has_inputs : (s : Shown) (g : GraphValue) → length s.inputs ≡ input_count (shown_graph s.graph) → g ≡ s.graph → AreInputsOf g (shown_inputs g) → HasInputs s
has_inputs s g shown same are = record { shown = shown; are = subst (λ (h : GraphValue). AreInputsOf h (shown_inputs h)) same are }

-- each input that records wait for is one of the board's
pub input_there : (s : Shown) (base : ℕ) (x : Intake) (items : List Item) → IsFed s base x items → HasInputs s → length x.portion.items ≤ length s.inputs
input_there s base x items f is = let a = as_many_inputs s base x items f in let b = is.shown in let c = is.are.count in omega (arith, a, b, c)

pub few_inputs : (s : Shown) (base : ℕ) (x : Intake) (items : List Item) → IsFed s base x items → HasInputs s → length x.portion.items ≤ 4096
few_inputs s base x items f is = let a = as_many_inputs s base x items f in let b = is.are.few in let c = is.are.count in omega (arith, a, b, c)

-- and takes records of that many fields
pub takes_arity : (s : Shown) (base : ℕ) (x : Intake) (items : List Item) (i : ℕ) → IsFed s base x items → HasInputs s → i < length x.portion.items → arity_at x i ≡ arity_in s.graph i
takes_arity s base x items i f is there =
    let within : i < length (shown_inputs s.graph) = omega (arith, there, as_many_inputs s base x items f) in
    let none : Input = record { name = []; arity = 0 } in
    let input = slice_index_or (shown_inputs s.graph) i none in
    let got = slice_get-get_or (shown_inputs s.graph) i none within in
    arity_declared s base x items i input f got ∙ sym (is.are.arities i input got)

-- a record that a line says fits its input
pub row_fits : (s : Shown) (x : Intake) (i : ℕ) (zs : Record) → CanTake s x (Item.row i zs) → (0 < x.begun) × (i < length x.portion.items) × (arity_at x i ≡ length zs)
row_fits s x i zs (base, items, line, f, said) =
    let some = said.3 in
    let is = said.4.there in
    let within = slice_get_within (shown_inputs s.graph) i _ is in (
      elim (eqb_tells x.begun 0) [
        | inl none ↦ absurd (let z = f.start none.1 in omega (arith, some, z, none.1))
        | inr more ↦ omega (arith, more.1)
      ],
      omega (arith, within, as_many_inputs s base x items f),
      arity_declared s base x items i _ f is,
    )

-- a line that begins an epoch isn't one too many
pub epoch_fits : (s : Shown) (x : Intake) → CanTake s x Item.epoch → x.begun < 4294967295
epoch_fits s x (base, items, line, f, said) = let l = said.1 in omega (arith, l)

-- no epoch that is open is the last that there may be
pub open_below : (s : Shown) (base : ℕ) (x : Intake) (items : List Item) (i : ℕ) → IsFed s base x items → i < length x.portion.items → x.begun < 4294967295 → open_at s i < 4294967295
open_below s base x items i f there few = let o = f.opened i there in omega (arith, o, few)
