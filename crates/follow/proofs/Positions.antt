-- What is known of the whole, from one piece of the input to the next.
use Rattle.std.proofs.Common.{◌≡◌, ◌<◌, ◌≤◌, ◌+◌, ◌-◌, ◌∙◌, ℕ, suc, List, [], ◌∷◌, ◌++◌, length, take, refl, sym, ap, subst, arith, append_assoc, inl, inr, Option, Some, None}
use Rattle.std.specs.Prelude.{Bool, true, false, Result, Ok, Err}
use Rattle.std.proofs.lemmas.Bool.{true≢false}
use Rattle.std.specs.Io.KnownBytes.{Appends, Consumes, IsAtEnd, Keeps}
use Rattle.std.proofs.lemmas.Bool.Decides.{eqb_tells}
use Rattle.std.proofs.lemmas.List.{append-nil, length-append}
use Rattle.semantics.proofs.MultisetSums.{≈-from}
use Rattle.semantics.specs.Query.{Input}
use Rattle.graph.specs.Shown.{GraphValue, shown_graph, shown_inputs}
use Rattle.machine.specs.World.{opening}
use Rattle.rows.specs.FlatRows.{joined}
use Rattle.board.specs.Shown.{Shown}
use Rattle.board.specs.Showing.{Shows}
use Rattle.collector.specs.Pieces.{split_on}
use Rattle.collector.specs.Lines.{Item}
use Rattle.collector.specs.InputText.{IsRefused, epochs_after}
use Rattle.collector.specs.Watching.{Hands, handed, has_ended, inner_of}
use Rattle.collector.specs.WrittenBytes.{AppendsFront}
use Rattle.collector.specs.declared.watched.Watched.{Watched}
use Rattle.collector.specs.declared.refusal.InputRefusal.TheVariants.{At}
use Rattle.collector.proofs.Writes.{Appends-then}
use Rattle.follow.specs.Entries.{Entry}
use Rattle.follow.specs.Follows.{Follows, HasRead, IsAnswer, IsPart, IsReport, Reaches, Writes, said_records}
use Rattle.alone.specs.Scenes.{Grows}
use Rattle.follow.specs.Scenes.{HasReported, HasRoom, IsFed, HasTaken, IsKnown, IsTakenSo, IsWritten, IsWrittenSo, batches_of, declared_arities, reported_count}
use Rattle.semantics.specs.Graph.{output_numbers}
use Rattle.board.specs.Promises.{IsOpening}
use Rattle.follow.proofs.Lines.{few_epochs}
use Rattle.alone.proofs.Moved.{opening_ready}
use Rattle.follow.specs.Steps.{MayAnswer, CanReport, Continues, IsLastAnswer, AnswersLast, AnswersOpen, IsFresh, IsNew, Stops, TakesLines, ending_of}
use Rattle.follow.specs.declared.outcome.Ending.{Ending}
use Rattle.follow.specs.declared.outcome.Ending.TheVariants as ending
use Rattle.follow.specs.declared.outcome.Halt.{Halt}
use Rattle.follow.specs.declared.outcome.Halt.TheVariants as halt
use Rattle.follow.specs.declared.intake.Intake.{Intake}
use Rattle.follow.specs.declared.line_stop.Taken.{Taken}
use Rattle.follow.specs.declared.line_stop.Taken.TheVariants as taken
use Rattle.follow.specs.declared.position.Position.{Position}
use Rattle.follow.specs.declared.reporting.Reporting.{Reporting}
use Rattle.follow.proofs.Cuts.{more_bytes}
use Rattle.follow.proofs.Fed.{nothing_waits}
use Rattle.follow.proofs.Reported.{part_nothing, report_later}

appends_none : (old : Option (List ℕ)) → Appends old old []
appends_none None = tt
appends_none (Some xs) = sym (append-nil xs)

take_past : (xs ys : List ℕ) (n : ℕ) → take (length xs + n) (xs ++ ys) ≡ xs ++ take n ys
take_past [] ys n = let e : 0 + n ≡ n = omega arith in ap (λ (k : ℕ). take k ys) e
take_past (x ∷ xs) ys n = let e : suc (length xs) + n ≡ suc (length xs + n) = omega arith in ap (λ (k : ℕ). take k (x ∷ xs ++ ys)) e ∙ ap (λ (zs : List ℕ). x ∷ zs) (take_past xs ys n)

-- a beginning of more text, after what was written
front_then : (a b c : Option (List ℕ)) (xs ys : List ℕ) → Appends a b xs → AppendsFront b c ys → AppendsFront a c (xs ++ ys)
front_then a b c xs ys p q = (length xs + q.0, omega (arith, q.1, length-append xs ys), subst (Appends a c) (sym (take_past xs ys q.0)) (Appends-then a b c xs (take q.0 ys) p q.2))

-- ---- at first

pub opened : (offset : ℕ) → (g : GraphValue) (workers : ℕ) (s : Shown) (base : ℕ) (x : Intake) (t : Reporting) (start : Option (List ℕ)) → IsOpening g workers s → Shows s opening → base ≡ 0 → IsNew (shown_inputs g) x → length t.reported.items ≡ length (output_numbers (shown_graph s.graph)) → IsFresh t
    → IsWritten offset g s base x t [] [] start start
opened offset g workers s base x t start is shows zero new room fresh = record {
  known = record {
    lines = [];
    items = [];
    entries = [];
    text = [];
    graph = is.graph;
    taken = record {
      fed = record {
        live = (opening, shows);
        ready = opening_ready g workers s is;
        fits = new.fits ∙ sym (ap declared_arities is.graph);
        start = λ none. zero;
        begun = omega (arith, zero, new.begun);
        order = λ i e. [];
        alike = λ i e. ≈-from (sym (shows.fed i e));
        fed = λ i e. nothing_waits x i e (new.none i) refl;
        opened = λ i lt. sym (shows.open_epoch i) ∙ (let z : 0 ≡ x.begun - 1 = omega (arith, new.begun) in z);
        none = λ zero. new.none;
      };
      parts = refl;
      said = tt;
      counted = new.line;
    };
    reported = record {
      reported = subst (λ (d : ℕ). IsReport offset s.graph (said_records []) d [] []) (let z : 0 ≡ base + t.done = omega (arith, zero, fresh.done) in z) IsReport.reports_nothing;
      within = λ k. omega (arith, fresh.none k);
      first = λ k. ap (λ (n : ℕ). joined (take n (batches_of s k t.done))) (sym (fresh.none k));
    };
    part = part_nothing g (said_records [] (base + t.done));
    room = room;
    sealed = omega (arith, fresh.done);
    none = λ e. refl;
  };
  written = appends_none start;
}

-- ---- an end

base_within : (base begun done : ℕ) → (begun ≡ 0 → base ≡ 0) → done ≤ begun - 1 → base + done ≤ base + begun - 1
base_within base begun done start le = elim (eqb_tells begun 0) [
  | inl none ↦ omega (arith, start none.1, none.1, le)
  | inr some ↦ omega (arith, some.1, le)
]

answers : (offset : ℕ) → (g : GraphValue) (s : Shown) (base : ℕ) (x : Intake) (t : Reporting) (bytes pending : List ℕ) (k : IsKnown offset g s base x t bytes pending) → IsAnswer offset g k.items (base + t.done) k.entries k.text
answers offset g s base x t bytes pending k = record { reported = subst (λ (h : GraphValue). IsReport offset h (said_records k.items) (base + t.done) k.entries k.text) k.graph k.reported.reported; part = k.part }

pub known_follows : (offset : ℕ) → (g : GraphValue) (s : Shown) (base : ℕ) (x : Intake) (t : Reporting) (bytes pending all : List ℕ) (ended : Bool) (start now : Option (List ℕ)) (result : Result (Unit {0}) Ending) (rest : List (List ℕ)) (k : IsKnown offset g s base x t bytes pending) → split_on 10 all ≡ k.lines ++ rest
    → Reaches (shown_inputs g) all ended k.lines k.items rest (base + t.done) k.entries result → Writes start now k.text result → Follows offset g all ended start now result
known_follows offset g s base x t bytes pending all ended start now result rest k parts reaches writes = record {
  lines = k.lines;
  items = k.items;
  rest = rest;
  done = base + t.done;
  entries = k.entries;
  text = k.text;
  read = record { parts = parts; said = k.taken.said };
  answer = answers offset g s base x t bytes pending k;
  sealed = inl (let b = k.taken.fed.begun in let a = base_within base x.begun t.done k.taken.fed.start k.sealed in omega (arith, b, a));
  reaches = reaches;
  writes = writes;
}

-- the work stopped: nothing more was written
pub halted : (offset : ℕ) → (g : GraphValue) (s : Shown) (base : ℕ) (x : Intake) (t : Reporting) (bytes pending : List ℕ) (ended : Bool) (start now : Option (List ℕ)) (h : Halt) → IsWritten offset g s base x t bytes pending start now → Follows offset g bytes ended start now (Err (ending_of h))
halted offset g s base x t bytes pending ended start now halt.NoMemory w = known_follows offset g s base x t bytes pending bytes ended start now (Err ending.NoMemory) (split_on 10 pending) w.known w.known.taken.parts tt w.written
halted offset g s base x t bytes pending ended start now halt.Count w = known_follows offset g s base x t bytes pending bytes ended start now (Err ending.Count) (split_on 10 pending) w.known w.known.taken.parts tt w.written

-- the reader failed
pub unread : (offset : ℕ) → (g : GraphValue) (s : Shown) (base : ℕ) (x : Intake) (t : Reporting) (bytes pending : List ℕ) (ended : Bool) (start now : Option (List ℕ)) → IsWritten offset g s base x t bytes pending start now → split_on 10 pending ≡ pending ∷ [] → length pending ≤ 368 → Follows offset g bytes ended start now (Err ending.Read)
unread offset g s base x t bytes pending ended start now w unended short =
    known_follows offset g s base x t bytes pending bytes ended start now (Err ending.Read) (pending ∷ []) w.known (w.known.taken.parts ∙ ap (λ (ps : List (List ℕ)). w.known.lines ++ ps) unended) (pending, refl, short) w.written

-- ---- one more piece

pub more_pending : (offset : ℕ) → (g : GraphValue) (s : Shown) (base : ℕ) (x : Intake) (t : Reporting) (bytes pending piece : List ℕ) (start now : Option (List ℕ)) → IsWritten offset g s base x t bytes pending start now → IsWritten offset g s base x t (bytes ++ piece) (pending ++ piece) start now
more_pending offset g s base x t bytes pending piece start now w =
    let k = w.known in
    record {
      known = record {
        lines = k.lines;
        items = k.items;
        entries = k.entries;
        text = k.text;
        graph = k.graph;
        taken = record { fed = k.taken.fed; parts = more_bytes bytes pending piece k.lines k.taken.parts; said = k.taken.said; counted = k.taken.counted };
        reported = k.reported;
        part = k.part;
        room = k.room;
        sealed = k.sealed;
        none = k.none;
      };
      written = w.written;
    }

-- a piece that is one too many
pub too_long : (offset : ℕ) → (g : GraphValue) (s : Shown) (base : ℕ) (x : Intake) (t : Reporting) (bytes pending piece : List ℕ) (ended : Bool) (start now : Option (List ℕ)) → IsWritten offset g s base x t bytes pending start now → 18446744073709551615 ≤ length (bytes ++ piece)
    → Follows offset g (bytes ++ piece) ended start now (Err ending.TooLong)
too_long offset g s base x t bytes pending piece ended start now w long =
    let more = more_pending offset g s base x t bytes pending piece start now w in
    known_follows offset g s base x t (bytes ++ piece) (pending ++ piece) (bytes ++ piece) ended start now (Err ending.TooLong) (split_on 10 (pending ++ piece)) more.known more.known.taken.parts long more.written

-- ---- lines that were taken and answered

pub record Answered (offset : ℕ) (g : GraphValue) (s : Shown) (base : ℕ) (x : Intake) (t : Reporting) (bytes pending before out : List ℕ) (how : Taken) : Type 0 where
  pub known : IsKnown offset g s base x t bytes pending
  pub text : known.text ≡ before ++ out
  pub stops : Stops (shown_inputs g) bytes pending (length known.lines) known.items how

can_report : (offset : ℕ) → (s t : Shown) (base : ℕ) (x y : Intake) (u : Reporting) (items later : List Item) (entries : List Entry) (text : List ℕ) → IsFed s base x items → IsFed t base y later → Continues items later → Grows s t → HasRoom s u → HasReported offset s base u.done (reported_count u) (said_records items) entries text → u.done ≤ x.begun - 1
    → (u.done ≡ x.begun → entries ≡ []) → CanReport offset t base u later y.begun (y.begun - 1) entries text
can_report offset s t base x y u items later entries text f g continues grows room reported order none =
    let a = f.begun in
    let b = g.begun in
    let c = continues.begun in
    let d = base_within base x.begun u.done f.start order in
    record {
      room = room ∙ sym (ap (λ (g : GraphValue). length (output_numbers (shown_graph g))) grows.graph);
      reported = report_later offset s t base u.done (reported_count u) (said_records items) (said_records later) entries text reported grows (λ e i lt. continues.ended e i (omega (arith, lt, d, a)));
      order = omega (arith, a, b, c, order);
      none = λ e. none (omega (arith, a, b, c, order, e));
    }

pub answered : (offset : ℕ) → (g : GraphValue) (s s2 s3 : Shown) (base : ℕ) (x x2 x3 : Intake) (t t3 : Reporting) (bytes pending rest out : List ℕ) (how : Taken) (start now : Option (List ℕ)) (w : IsWritten offset g s base x t bytes pending start now) → TakesLines base s s2 x x2 (shown_inputs g) pending rest how
    → AnswersOpen offset base s2 s3 x2 x3 t t3 out → Answered offset g s3 base x3 t3 bytes rest w.known.text out how
answered offset g s s2 s3 base x x2 x3 t t3 bytes pending rest out how start now w takes goes =
    let k = w.known in
    let took = takes bytes k.lines k.items k.taken in
    let gone = goes took.later k.entries k.text took.reached.fed (can_report offset s s2 base x x2 t k.items took.later k.entries k.text k.taken.fed took.reached.fed took.continues took.grows k.room k.reported k.sealed k.none) in
    let same : s3.graph ≡ g = gone.graph ∙ took.grows.graph ∙ k.graph in
    let lines : gone.reported.lines ≡ out = sym gone.reported.appended in
    record {
      known = record {
        lines = took.lines;
        items = took.later;
        entries = gone.reported.entries;
        text = k.text ++ gone.reported.lines;
        graph = same;
        taken = record { fed = gone.fed; parts = took.reached.parts; said = took.reached.said; counted = gone.holds.line ∙ took.reached.counted };
        reported = gone.reported.reported;
        part = subst (λ (h : GraphValue). IsPart h (said_records took.later (base + t3.done)) gone.reported.entries) same gone.reported.part;
        room = gone.reported.room;
        sealed = let b = gone.holds.begun in omega (arith, b, gone.reported.order);
        none = λ e. gone.reported.none (e ∙ gone.holds.begun);
      };
      text = ap (λ (xs : List ℕ). k.text ++ xs) lines;
      stops = took.stops;
    }

-- what was taken and answered lets more be answered
pub may_answer : (offset : ℕ) → (g : GraphValue) (s s2 : Shown) (base : ℕ) (x x2 : Intake) (t : Reporting) (bytes pending rest : List ℕ) (how : Taken) → IsKnown offset g s base x t bytes pending → TakesLines base s s2 x x2 (shown_inputs g) pending rest how → MayAnswer offset s2 base x2 t (x2.begun - 1) × (base + x2.begun ≤ 4294967295)
may_answer offset g s s2 base x x2 t bytes pending rest how k takes =
    let took = takes bytes k.lines k.items k.taken in (
      (took.later, k.entries, k.text, took.reached.fed, can_report offset s s2 base x x2 t k.items took.later k.entries k.text k.taken.fed took.reached.fed took.continues took.grows k.room k.reported k.sealed k.none),
      few_epochs s2 base x2 (shown_inputs g) bytes rest took.lines took.later took.reached,
    )

pub may_answer_last : (offset : ℕ) → (g : GraphValue) (s : Shown) (base : ℕ) (x : Intake) (t : Reporting) (bytes pending : List ℕ) → IsKnown offset g s base x t bytes pending → MayAnswer offset s base x t x.begun × (base + x.begun ≤ 4294967295)
may_answer_last offset g s base x t bytes pending k = (
  (k.items, k.entries, k.text, k.taken.fed, record { room = k.room; reported = k.reported; order = omega (arith, k.sealed); none = k.none }),
  few_epochs s base x (shown_inputs g) bytes pending k.lines k.items k.taken,
)

-- the same at a position
pub text_taken : (offset : ℕ) → (inputs : List Input) (g : GraphValue) (s : Shown) (p : Position) (now : Option (List ℕ)) → inputs ≡ shown_inputs g → IsWrittenSo offset g s p now → IsTakenSo s p.base p.intake inputs p.pending.items × (inputs ≡ shown_inputs s.graph)
text_taken offset inputs g s p now same (bytes, start, w) =
    let k = w.known in (
      (bytes, k.lines, k.items, subst (λ (is : List Input). HasTaken s p.base p.intake is bytes p.pending.items k.lines k.items) (sym same) k.taken),
      same ∙ sym (ap shown_inputs k.graph),
    )

pub lets_answer : (offset : ℕ) → (inputs : List Input) (g : GraphValue) (s s2 : Shown) (p : Position) (x2 : Intake) (rest : List ℕ) (how : Taken) (now : Option (List ℕ)) → inputs ≡ shown_inputs g → IsWrittenSo offset g s p now → TakesLines p.base s s2 p.intake x2 inputs p.pending.items rest how
    → MayAnswer offset s2 p.base x2 p.reporting (x2.begun - 1) × (p.base + x2.begun ≤ 4294967295)
lets_answer offset inputs g s s2 p x2 rest how now same (bytes, start, w) takes = may_answer offset g s s2 p.base p.intake x2 p.reporting bytes p.pending.items rest how w.known (subst (λ (is : List Input). TakesLines p.base s s2 p.intake x2 is p.pending.items rest how) same takes)

pub lets_answer_last : (offset : ℕ) → (g : GraphValue) (s : Shown) (p : Position) (now : Option (List ℕ)) → IsWrittenSo offset g s p now → MayAnswer offset s p.base p.intake p.reporting p.intake.begun × (p.base + p.intake.begun ≤ 4294967295)
lets_answer_last offset g s p now (bytes, start, w) = may_answer_last offset g s p.base p.intake p.reporting bytes p.pending.items w.known

pub few_written : (offset : ℕ) → (g : GraphValue) (s : Shown) (p : Position) (bytes : List ℕ) (start now : Option (List ℕ)) → IsWritten offset g s p.base p.intake p.reporting bytes p.pending.items start now → p.base + p.intake.begun ≤ 4294967295
few_written offset g s p bytes start now w = few_epochs s p.base p.intake (shown_inputs g) bytes p.pending.items w.known.lines w.known.items w.known.taken

-- all is written
pub answer_written : (offset : ℕ) → (g : GraphValue) (s : Shown) (base : ℕ) (x : Intake) (t : Reporting) (bytes pending before out : List ℕ) (how : Taken) (start now new : Option (List ℕ)) → Answered offset g s base x t bytes pending before out how → Appends start now before → Appends now new out
    → (w : IsWritten offset g s base x t bytes pending start new) × Stops (shown_inputs g) bytes pending (length w.known.lines) w.known.items how
answer_written offset g s base x t bytes pending before out how start now new a p q = (record { known = a.known; written = subst (Appends start new) (sym a.text) (Appends-then start now new before out p q) }, a.stops)

-- the writer failed
pub unwritten : (offset : ℕ) → (g : GraphValue) (s : Shown) (base : ℕ) (x : Intake) (t : Reporting) (bytes pending before out : List ℕ) (how : Taken) (ended : Bool) (start now new : Option (List ℕ)) → Answered offset g s base x t bytes pending before out how → Appends start now before → AppendsFront now new out
    → Follows offset g bytes ended start new (Err ending.Write)
unwritten offset g s base x t bytes pending before out how ended start now new a p q =
    known_follows offset g s base x t bytes pending bytes ended start new (Err ending.Write) (split_on 10 pending) a.known a.known.taken.parts tt (subst (AppendsFront start new) (sym a.text) (front_then start now new before out p q))

-- the next line has a fault
pub faults : (offset : ℕ) → (g : GraphValue) (s : Shown) (base : ℕ) (x : Intake) (t : Reporting) (bytes pending : List ℕ) (code : ℕ) (ended : Bool) (start now : Option (List ℕ)) (e : Ending) (w : IsWritten offset g s base x t bytes pending start now)
    → Stops (shown_inputs g) bytes pending (length w.known.lines) w.known.items (taken.Fault code) → e ≡ ending.Input code (x.line + 1) → Follows offset g bytes ended start now (Err e)
faults offset g s base x t bytes pending code ended start now e w stops is =
    let line : x.line + 1 ≡ length w.known.lines + 1 = ap (λ (n : ℕ). n + 1) w.known.taken.counted in
    subst (λ (y : Ending). Follows offset g bytes ended start now (Err y)) (sym is)
    (known_follows offset g s base x t bytes pending bytes ended start now (Err (ending.Input code (x.line + 1))) (split_on 10 pending) w.known w.known.taken.parts (record {
      refused = elim stops [
        | inl told ↦ inl (subst (λ (n : ℕ). IsRefused (shown_inputs g) bytes (At code n)) (sym line) told.0, λ c. absurd (told.1 c))
        | inr long ↦ inr long
      ];
      next = line;
    }) w.written)

-- ---- the end of the input

-- a last line without line feed
pub unended_last : (offset : ℕ) → (g : GraphValue) (s : Shown) (base : ℕ) (x : Intake) (t : Reporting) (bytes pending : List ℕ) (ended : Bool) (start now : Option (List ℕ)) (e : Ending) → IsWritten offset g s base x t bytes pending start now → split_on 10 pending ≡ pending ∷ [] → ended ≡ true → 0 < length pending
    → e ≡ ending.Input 43 (x.line + 1) → Follows offset g bytes ended start now (Err e)
unended_last offset g s base x t bytes pending ended start now e w unended end some is =
    let k = w.known in
    let line : x.line + 1 ≡ length k.lines + 1 = ap (λ (n : ℕ). n + 1) k.taken.counted in
    let parts : split_on 10 bytes ≡ k.lines ++ pending ∷ [] = k.taken.parts ∙ ap (λ (ps : List (List ℕ)). k.lines ++ ps) unended in
    subst (λ (y : Ending). Follows offset g bytes ended start now (Err y)) (sym is)
    (known_follows offset g s base x t bytes pending bytes ended start now (Err (ending.Input 43 (x.line + 1))) (pending ∷ []) k parts (record {
      refused = inl ((k.lines, k.items, k.taken.said, line, pending, [], parts, inl (refl, some, refl)), λ c. end);
      next = line;
    }) w.written)

-- what is written at the end
last_report : (offset : ℕ) → (g : GraphValue) (s s2 : Shown) (base : ℕ) (x : Intake) (t t2 : Reporting) (bytes pending out : List ℕ) (start now : Option (List ℕ)) (w : IsWritten offset g s base x t bytes pending start now) → AnswersLast offset base s s2 x t t2 out → IsLastAnswer offset base s2 x t2 w.known.items w.known.text out s
last_report offset g s s2 base x t t2 bytes pending out start now w ends =
    let k = w.known in
    ends k.items k.entries k.text k.taken.fed (record { room = k.room; reported = k.reported; order = omega (arith, k.sealed); none = k.none })

last_follows : (offset : ℕ) → (g : GraphValue) (s s2 : Shown) (base : ℕ) (x : Intake) (t t2 : Reporting) (bytes pending out : List ℕ) (ended : Bool) (start now new : Option (List ℕ)) (result : Result (Unit {0}) Ending) (w : IsWritten offset g s base x t bytes pending start now) (e : IsLastAnswer offset base s2 x t2 w.known.items w.known.text out s) → split_on 10 pending ≡ pending ∷ [] → ended ≡ true → pending ≡ []
    → Reaches (shown_inputs g) bytes ended w.known.lines w.known.items (pending ∷ []) (base + t2.done) e.reported.entries result → Writes start new (w.known.text ++ out) result → Follows offset g bytes ended start new result
last_follows offset g s s2 base x t t2 bytes pending out ended start now new result w e unended end none reaches writes =
    let k = w.known in
    let same : s2.graph ≡ g = e.graph ∙ k.graph in
    let lines : k.text ++ e.reported.lines ≡ k.text ++ out = ap (λ (xs : List ℕ). k.text ++ xs) (sym e.reported.appended) in
    record {
      lines = k.lines;
      items = k.items;
      rest = pending ∷ [];
      done = base + t2.done;
      entries = e.reported.entries;
      text = k.text ++ out;
      read = record { parts = k.taken.parts ∙ ap (λ (ps : List (List ℕ)). k.lines ++ ps) unended; said = k.taken.said };
      answer = record {
        reported = subst (λ (h : GraphValue). IsReport offset h (said_records k.items) (base + t2.done) e.reported.entries (k.text ++ out)) same (subst (λ (xs : List ℕ). IsReport offset s2.graph (said_records k.items) (base + t2.done) e.reported.entries xs) lines e.reported.reported.reported);
        part = subst (λ (h : GraphValue). IsPart h (said_records k.items (base + t2.done)) e.reported.entries) same e.reported.part;
      };
      sealed = inr ((let b = k.taken.fed.begun in omega (arith, b, e.complete)), end, ap (λ (bs : List ℕ). bs ∷ []) none);
      reaches = reaches;
      writes = writes;
    }

pub all_reported : (offset : ℕ) → (g : GraphValue) (s s2 : Shown) (base : ℕ) (x : Intake) (t t2 : Reporting) (bytes pending out : List ℕ) (ended : Bool) (start now new : Option (List ℕ)) → IsWritten offset g s base x t bytes pending start now → split_on 10 pending ≡ pending ∷ [] → AnswersLast offset base s s2 x t t2 out → ended ≡ true → pending ≡ [] → Appends now new out → Follows offset g bytes ended start new (Ok tt)
all_reported offset g s s2 base x t t2 bytes pending out ended start now new w unended ends end none written =
    let k = w.known in
    let e = last_report offset g s s2 base x t t2 bytes pending out start now w ends in
    let complete : base + t2.done ≡ epochs_after 0 k.items = ap (λ (n : ℕ). base + n) e.complete ∙ k.taken.fed.begun in
    last_follows offset g s s2 base x t t2 bytes pending out ended start now new (Ok tt) w e unended end none (record {
      whole = record {
        lines = k.lines;
        items = k.items;
        parts = k.taken.parts ∙ ap (λ (bs : List ℕ). k.lines ++ split_on 10 bs) none;
        said = k.taken.said;
        epochs = refl;
        holds = λ epoch input. refl;
      };
      all_read = end;
      complete = complete;
      none = e.reported.none e.complete;
    }) (Appends-then start now new k.text out w.written written)

pub last_unwritten : (offset : ℕ) → (g : GraphValue) (s s2 : Shown) (base : ℕ) (x : Intake) (t t2 : Reporting) (bytes pending out : List ℕ) (ended : Bool) (start now new : Option (List ℕ)) → IsWritten offset g s base x t bytes pending start now → split_on 10 pending ≡ pending ∷ [] → AnswersLast offset base s s2 x t t2 out → ended ≡ true → pending ≡ [] → AppendsFront now new out → Follows offset g bytes ended start new (Err ending.Write)
last_unwritten offset g s s2 base x t t2 bytes pending out ended start now new w unended ends end none written =
    let e = last_report offset g s s2 base x t t2 bytes pending out start now w ends in
    last_follows offset g s s2 base x t t2 bytes pending out ended start now new (Err ending.Write) w e unended end none tt (front_then start now new w.known.text out w.written written)

-- ---- what was read

pub consumes_none : (a : Option (List ℕ)) → Consumes a a []
consumes_none None = tt
consumes_none (Some xs) = refl

pub consumes_then : (a b c : Option (List ℕ)) (xs ys : List ℕ) → Consumes a b xs → Consumes b c ys → Consumes a c (xs ++ ys)
consumes_then None b c xs ys p q = tt
consumes_then (Some s) None c xs ys p q = absurd p
consumes_then (Some s) (Some t) None xs ys p q = absurd q
consumes_then (Some s) (Some t) (Some u) xs ys p q = p ∙ ap (λ (v : List ℕ). xs ++ v) q ∙ sym (append_assoc xs ys u)

pub consumes_keeps : (a b c : Option (List ℕ)) (xs : List ℕ) → Consumes a b xs → Keeps b c → Consumes a c xs
consumes_keeps None b c xs p q = tt
consumes_keeps (Some s) None c xs p q = absurd p
consumes_keeps (Some s) (Some t) None xs p q = absurd q
consumes_keeps (Some s) (Some t) (Some u) xs p q = p ∙ ap (λ (v : List ℕ). xs ++ v) (sym q)

-- nothing was done
abbrev FollowsNothing : (offset : ℕ) → GraphValue → Bool → Option (List ℕ) → Result (Unit {0}) Ending → Type 0
FollowsNothing offset g ended start result = Follows offset g [] ended start start result

nothing_by : (offset : ℕ) → (g : GraphValue) (ended : Bool) (start : Option (List ℕ)) (result : Result (Unit {0}) Ending) → Reaches (shown_inputs g) [] ended [] [] ([] ∷ []) 0 [] result → Writes start start [] result → FollowsNothing offset g ended start result
nothing_by offset g ended start result reaches writes = record {
  lines = [];
  items = [];
  rest = [] ∷ [];
  done = 0;
  entries = [];
  text = [];
  read = record { parts = refl; said = tt };
  answer = record { reported = IsReport.reports_nothing; part = part_nothing g (said_records [] 0) };
  sealed = inl (omega arith);
  reaches = reaches;
  writes = writes;
}

pub nothing_follows : (offset : ℕ) → (g : GraphValue) (ended : Bool) (start : Option (List ℕ)) (h : Halt) → Follows offset g [] ended start start (Err (ending_of h))
nothing_follows offset g ended start halt.NoMemory = nothing_by offset g ended start (Err ending.NoMemory) tt (appends_none start)
nothing_follows offset g ended start halt.Count = nothing_by offset g ended start (Err ending.Count) tt (appends_none start)

pub consumes_end : (a b c : Option (List ℕ)) (xs : List ℕ) → Consumes a b xs → Consumes b c [] → Consumes a c xs
consumes_end a b c xs p q = subst (Consumes a c) (append-nil xs) (consumes_then a b c xs [] p q)

-- nothing was read
pub read_none : {R : Type 0} (remaining : R → Option (List ℕ)) (r : Watched R) → HasRead remaining r r [] false
read_none remaining r = record {
  hands = sym (append-nil (handed r));
  said = λ e. absurd (true≢false (sym e));
  known = consumes_none (remaining (inner_of r));
  last = λ e. absurd (true≢false (sym e));
}

-- one more piece
pub read_more : {R : Type 0} (remaining : R → Option (List ℕ)) (a b c : Watched R) (bytes piece : List ℕ) → HasRead remaining a b bytes false → Hands b c piece → Consumes (remaining (inner_of b)) (remaining (inner_of c)) piece → HasRead remaining a c (bytes ++ piece) false
read_more remaining a b c bytes piece h hands known = record {
  hands = hands ∙ ap (λ (xs : List ℕ). xs ++ piece) h.hands ∙ append_assoc (handed a) bytes piece;
  said = λ e. absurd (true≢false (sym e));
  known = consumes_then (remaining (inner_of a)) (remaining (inner_of b)) (remaining (inner_of c)) bytes piece h.known known;
  last = λ e. absurd (true≢false (sym e));
}

-- a read failed
pub read_failed : {R : Type 0} (remaining : R → Option (List ℕ)) (a b c : Watched R) (bytes : List ℕ) → HasRead remaining a b bytes false → handed c ≡ handed b → Keeps (remaining (inner_of b)) (remaining (inner_of c)) → HasRead remaining a c bytes false
read_failed remaining a b c bytes h same kept = record {
  hands = same ∙ h.hands;
  said = λ e. absurd (true≢false (sym e));
  known = consumes_keeps (remaining (inner_of a)) (remaining (inner_of b)) (remaining (inner_of c)) bytes h.known kept;
  last = λ e. absurd (true≢false (sym e));
}

-- the reader said that there are no more bytes
pub read_all : {R : Type 0} (remaining : R → Option (List ℕ)) (a b c : Watched R) (bytes : List ℕ) → HasRead remaining a b bytes false → Hands b c [] → Consumes (remaining (inner_of b)) (remaining (inner_of c)) [] → has_ended c ≡ true → IsAtEnd (remaining (inner_of c)) → HasRead remaining a c bytes true
read_all remaining a b c bytes h hands known said end = record {
  hands = hands ∙ append-nil (handed b) ∙ h.hands;
  said = λ _. said;
  known = consumes_end (remaining (inner_of a)) (remaining (inner_of b)) (remaining (inner_of c)) bytes h.known known;
  last = λ _. end;
}
