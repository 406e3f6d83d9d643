-- A seal and a close are one step each, and keep what a board keeps.
use Rattle.std.proofs.Common.{◌≡◌, ◌<◌, ◌+◌, ℕ, Bool, true, false, cond, nat_lt, List, length, refl, sym, ap, ◌∙◌, subst, arith, slice_set, Option, Some, None, length-set, inl}
use Rattle.std.proofs.Common.{◌==◌}
use Rattle.semantics.specs.Multiset.{Record}
use Rattle.semantics.specs.Graph.{Graph, vertex}
use Rattle.semantics.specs.Could.{Pointstamp, Location, IsTimeAt, at_vertex}
use Rattle.semantics.specs.Time.{at_epoch}
use Rattle.semantics.specs.Kinds.{Kind, Role, role}
use Rattle.semantics.proofs.InputNumbers.{input_is_there}
use Rattle.graph.specs.Shown.{shown_graph}
use Rattle.machine.specs.Active.{one_if_same, IsActive}
use Rattle.machine.specs.Step.{Step}
use Rattle.machine.proofs.Tracking.{active_counts}
use Rattle.rows.specs.FlatRows.{arity_of}
use Rattle.board.specs.Answers.{first, feed_refusal, input_refusal}
use Rattle.board.specs.Fitting.{arity_in}
use Rattle.board.proofs.Emitting.{emits_same}
use Rattle.board.specs.Kept.{IsKept, Goes}
use Rattle.board.specs.Shown.{Shown, InputShown, input_at, net}
use Rattle.board.specs.Showing.{AreSidesOf}
use Rattle.board.specs.Steps.{after_seal, after_close}
use Rattle.board.specs.declared.refusal.StepRefusal.{StepRefusal}
use Rattle.board.specs.declared.refusal.StepRefusal.TheVariants as refusal
use Rattle.board.proofs.Keeping.{kept_more}
use Rattle.board.proofs.Later.{later}
use Rattle.board.proofs.Sealing.{may_seal, may_close, shows_seal, shows_close}

first_none : (a b : Option StepRefusal) → first a b ≡ None → (a ≡ None) × (b ≡ None)
first_none None b e = (refl, e)
first_none (Some r) b e = absurd cc

cond_none : (b : Bool) (r : StepRefusal) → cond b (Some r) None ≡ None → b ≡ false
cond_none true r e = absurd cc
cond_none false r e = refl

cond_some : (b : Bool) (r : StepRefusal) → cond b None (Some r) ≡ None → b ≡ true
cond_some true r e = refl
cond_some false r e = absurd cc

lt_true : (m n : ℕ) → nat_lt m n ≡ true → m < n
lt_true m n e = grind arith

-- if an input isn't refused, it exists and is open, and the board runs
pub open_tells : (s : Shown) (i : ℕ) → input_refusal s i ≡ None → (s.stopped ≡ false) × (i < length s.inputs) × ((input_at s i).closed ≡ false)
open_tells s i e =
    let a = first_none (cond s.stopped (Some refusal.Stopped) None) (first (cond (nat_lt i (length s.inputs)) None (Some refusal.UnknownInput)) (cond (input_at s i).closed (Some refusal.InputClosed) None)) e in
    let b = first_none (cond (nat_lt i (length s.inputs)) None (Some refusal.UnknownInput)) (cond (input_at s i).closed (Some refusal.InputClosed) None) a.1 in
    (cond_none s.stopped refusal.Stopped a.0, lt_true i (length s.inputs) (cond_some (nat_lt i (length s.inputs)) refusal.UnknownInput b.0), cond_none (input_at s i).closed refusal.InputClosed b.1)

-- if a feed isn't refused, its input is such, and the batch has the input's number of fields
pub feed_tells : (s : Shown) (i : ℕ) (batch : List Record) → feed_refusal s i batch ≡ None → (input_refusal s i ≡ None) × (arity_of batch ≡ arity_in s.graph i)
feed_tells s i batch e =
    let a = first_none (input_refusal s i) (cond (arity_of batch == arity_in s.graph i) None (Some refusal.WrongFieldCount)) e in
    (a.0, same_number (arity_of batch) (arity_in s.graph i) (cond_some (arity_of batch == arity_in s.graph i) refusal.WrongFieldCount a.1))
  where
    same_number : (m n : ℕ) → (m == n) ≡ true → m ≡ n
    same_number m n e = grind arith

module _ (graph : Graph) (content : Pointstamp → ℕ) (s : Shown) (kept : IsKept graph content s) (i : ℕ) (takes : (s.stopped ≡ false) × (i < length s.inputs) × ((input_at s i).closed ≡ false)) where
  pub there : (i < length (shown_graph s.graph)) × ((vertex (shown_graph s.graph) i).kind ≡ Kind.input)
  there = input_is_there (shown_graph s.graph) i (let n = kept.inputs in omega (arith, takes.1, n))

  pub role_is : (net s).role i ≡ Role.input
  role_is = ap role there.1

  input_located : (n : ℕ) → IsTimeAt (shown_graph s.graph) (Location.vertex i) (at_epoch n)
  input_located n = (there.0, sym (kept.flows.shaped.flat i there.0 (inl there.1)))

  pub located_there : (n : ℕ) → IsTimeAt graph (Location.vertex i) (at_epoch n)
  located_there n = let P : Graph → Type 0 = λ g. IsTimeAt g (Location.vertex i) (at_epoch n) in subst P (sym kept.same) (input_located n)

  at_open : at_vertex i (at_epoch (input_at s i).open_epoch) ≡ at_vertex i (at_epoch (kept.world.open_epoch i))
  at_open = ap (λ n. at_vertex i (at_epoch n)) (sym (kept.shows.open_epoch i))

  pub active_input : 0 < content (at_vertex i (at_epoch (input_at s i).open_epoch))
  active_input =
      let a = (active_counts (shown_graph s.graph) kept.flows (length s.sides) kept.some kept.world (at_vertex i (at_epoch (kept.world.open_epoch i)))).0 (IsActive.of_input i role_is (kept.shows.closed i ∙ takes.2)) in
      let P : Pointstamp → Type 0 = λ p. 0 < content p in
      subst P (sym at_open) (let t = kept.tracked (at_vertex i (at_epoch (kept.world.open_epoch i))) in omega (arith, a, t))

  pub seal_goes : Goes s (Step.seal i) (after_seal s i)
  seal_goes = record { step = λ w shows. let ok = may_seal s w shows i takes.1 role_is takes.2 takes.0 in (ok, shows_seal s w shows i takes.1 (later graph content s kept) ok); graph = refl; workers = refl; emitted = emits_same s.emitted }

  pub close_goes : Goes s (Step.close i) (after_close s i)
  close_goes = record { step = λ w shows. let ok = may_close s w shows i takes.1 role_is takes.2 takes.0 in (ok, shows_close s w shows i takes.1 (later graph content s kept) ok); graph = refl; workers = refl; emitted = emits_same s.emitted }

  with_inputs : (inputs : List InputShown) → AreSidesOf (record s { inputs = inputs }) (length s.sides)
  with_inputs inputs k l =
      let x = kept.sides k l in
      record { wired = x.wired; shards = x.shards; own = λ j e. let z = x.own j e in record { wired = z.wired; vertex = z.vertex; away = z.away; others = z.others } }

  pub seal_kept : (graph' : Graph) (content' middle : Pointstamp → ℕ) → graph' ≡ graph
      → ((q : Pointstamp) → content q ≡ one_if_same q (at_vertex i (at_epoch (input_at s i).open_epoch)) + middle q)
      → ((q : Pointstamp) → content' q ≡ one_if_same q (at_vertex i (at_epoch ((input_at s i).open_epoch + 1))) + middle q) → IsKept graph' content' (after_seal s i)
  seal_kept graph' content' middle same removed added =
      let x : InputShown = record (input_at s i) { open_epoch = (input_at s i).open_epoch + 1 } in
      let both = seal_goes.step kept.world kept.shows in
      kept_more graph content s kept (Step.seal i) (slice_set s.inputs i x) s.sides s.emitted s.stopped graph' content' (length-set s.inputs i x) refl refl same (with_inputs (slice_set s.inputs i x)) kept.fitting kept.fed both.0 both.1
      (λ q.
      let e = kept.shows.open_epoch i in
      let a : one_if_same q (at_vertex i (at_epoch (kept.world.open_epoch i))) ≡ one_if_same q (at_vertex i (at_epoch (input_at s i).open_epoch)) = ap (λ n. one_if_same q (at_vertex i (at_epoch n))) e in
      let b : one_if_same q (at_vertex i (at_epoch (kept.world.open_epoch i + 1))) ≡ one_if_same q (at_vertex i (at_epoch ((input_at s i).open_epoch + 1))) = ap (λ n. one_if_same q (at_vertex i (at_epoch (n + 1)))) e in
      order _ _ _ _ _ _ _ (removed q) (added q) a b)
    where
      order : (c' c m p1 p2 w1 w2 : ℕ) → c ≡ p1 + m → c' ≡ p2 + m → w1 ≡ p1 → w2 ≡ p2 → c' + w1 ≡ c + w2
      order c' c m p1 p2 w1 w2 r a x y = omega (arith, r, a, x, y)

  pub close_kept : (graph' : Graph) (content' : Pointstamp → ℕ) → graph' ≡ graph
      → ((q : Pointstamp) → content q ≡ one_if_same q (at_vertex i (at_epoch (input_at s i).open_epoch)) + content' q) → IsKept graph' content' (after_close s i)
  close_kept graph' content' same removed =
      let x : InputShown = record (input_at s i) { closed = true } in
      let both = close_goes.step kept.world kept.shows in
      kept_more graph content s kept (Step.close i) (slice_set s.inputs i x) s.sides s.emitted s.stopped graph' content' (length-set s.inputs i x) refl refl same (with_inputs (slice_set s.inputs i x)) kept.fitting kept.fed both.0 both.1
      (λ q.
      let a : one_if_same q (at_vertex i (at_epoch (kept.world.open_epoch i))) ≡ one_if_same q (at_vertex i (at_epoch (input_at s i).open_epoch)) = ap (λ n. one_if_same q (at_vertex i (at_epoch n))) (kept.shows.open_epoch i) in
      order _ _ _ _ (removed q) a)
    where
      order : (c' c p1 w1 : ℕ) → c ≡ p1 + c' → w1 ≡ p1 → c' + w1 ≡ c + 0
      order c' c p1 w1 r x = omega (arith, r, x)
