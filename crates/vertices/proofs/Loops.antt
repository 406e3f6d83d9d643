-- What came in a loop, turn by turn.
use Rattle.std.proofs.Common.{◌≡◌, ℕ, zero, suc, ◌-◌, ◌<◌, ◌==◌, nat_lt, nat_eq, Bool, true, false, not, cond, ◌&&◌, ◌||◌, List, [], ◌∷◌, ◌++◌, map, flat_map, Some, length, refl, sym, ap, ap₂, subst, ◌∙◌, arith, append-nil}
use mathlib.Core.Path.{fun_ext}
use Rattle.std.proofs.lemmas.Bool.Decides.{Decides-eqb}
use Rattle.rows.specs.Indexes.{AreDifferent}
use Rattle.rows.proofs.Keeping.{different_where_once, one_le}
use Rattle.semantics.specs.Meaning.{only_left}
use Rattle.semantics.specs.Multiset.{Record, ◌≈◌, count, is_present, one_if}
use Rattle.semantics.specs.Shard.{Absorbed, with_records}
use Rattle.semantics.specs.Time.{Time, below, deeper, earlier_turns, last, outer, same_time}
use Rattle.semantics.proofs.ExceptAndIntersect.{count-except}
use Rattle.semantics.proofs.FoundByClosures.{present-append}
use Rattle.semantics.proofs.QuietEnds.{turn_of}
use Rattle.semantics.proofs.VertexFlows.{last-deeper, length-deeper, outer-deeper}
use Rattle.vertices.specs.FirstTurns.{AreFirstTurns, is_first_below, rows_first_at}
use Rattle.vertices.proofs.FirstTurns.{no_turns}
use Rattle.vertices.specs.ByTime.{AreStatesOf}
use Rattle.vertices.specs.Kept.{more_at}
use Rattle.vertices.specs.States.{AreSetsThen}
use Rattle.vertices.specs.Unseen.{IsUnseenOf}
use Rattle.vertices.specs.declared.unseen.UnseenShard.{UnseenShard}
use Rattle.vertices.specs.LoopRows.{IsLoopOf, by_turn, listed, places_of}
use Rattle.vertices.specs.declared.loop_rows.Places.{Places}
use Rattle.indexmap.specs.IndexMap.{IndexMap, get}
use Rattle.vertices.specs.declared.loop_rows.LoopRows.{LoopRows}
use Rattle.vertices.proofs.Sending.{same_time_refl}
use Rattle.vertices.proofs.Times.{one_time}

-- ---- at the turns below n

below_next : (f : ℕ → List Record) (ks : List ℕ) (k : ℕ) (r : Record) → is_present r (flat_map f (ks ++ (k ∷ []))) ≡ is_present r (flat_map f ks) || is_present r (f k)
below_next f [] k r = present-append r (f k) [] ∙ turned (is_present r (f k))
  where
    turned : (b : Bool) → b || false ≡ false || b
    turned true = refl
    turned false = refl
below_next f (j ∷ ks) k r =
    present-append r (f j) (flat_map f (ks ++ (k ∷ []))) ∙ ap (λ b. is_present r (f j) || b) (below_next f ks k r)
    ∙ assoc (is_present r (f j)) (is_present r (flat_map f ks)) (is_present r (f k))
    ∙ sym (ap (λ b. b || is_present r (f k)) (present-append r (f j) (flat_map f ks)))
  where
    assoc : (a b c : Bool) → a || (b || c) ≡ (a || b) || c
    assoc true b c = refl
    assoc false b c = refl

-- with a batch more at a turn
pub came_more : (f : ℕ → List Record) (k : ℕ) (batch : List Record) (n : ℕ) (r : Record) → is_present r (flat_map (more_at f k batch) (below n)) ≡ is_present r (flat_map f (below n)) || (is_present r batch && nat_lt k n)
came_more f k batch zero r = sym (none (is_present r batch) (nat_lt k 0) (grind arith))
  where
    none : (b c : Bool) → c ≡ false → false || (b && c) ≡ false
    none true c e = e
    none false c e = refl
came_more f k batch (suc n) r =
    below_next (more_at f k batch) (below n) n r
    ∙ ap₂ (λ b c. b || c) (came_more f k batch n r) (present-append r (f n) (cond (k == n) batch []) ∙ ap (λ b. is_present r (f n) || b) (here (k == n)))
    ∙ put (is_present r (flat_map f (below n))) (is_present r (f n)) (is_present r batch) (nat_lt k n) (k == n)
    ∙ (λ j. sym (below_next f (below n) n r) j || (is_present r batch && next j))
  where
    here : (b : Bool) → is_present r (cond b batch []) ≡ is_present r batch && b
    here true = plain (is_present r batch)
      where
        plain : (b : Bool) → b ≡ b && true
        plain true = refl
        plain false = refl
    here false = plain (is_present r batch)
      where
        plain : (b : Bool) → false ≡ b && false
        plain true = refl
        plain false = refl

    next : nat_lt k n || (k == n) ≡ nat_lt k (suc n)
    next = grind arith

    put : (a b c d e : Bool) → (a || (c && d)) || (b || (c && e)) ≡ (a || b) || (c && (d || e))
    put true b c d e = refl
    put false true true true e = refl
    put false true true false e = refl
    put false true false d e = refl
    put false false true d e = refl
    put false false false d e = refl

-- what is new at a turn
pub new_there : (n : ℕ) (kept : LoopRows) (f : ℕ → List Record) (k : ℕ) (rows : List Record) → IsLoopOf n kept f → rows ≡ rows_first_at kept.rows.rows kept.turns.items k (places_of kept k) → rows ≈ only_left (f k) (flat_map f (below k))
new_there n kept f k rows h e = record {
  counts = λ r.
      ap (count r) e ∙ h.places.listed k r
      ∙ (λ j. one_if ((sym (h.first r (suc k)) ∙ below_next f (below k) k r) j && not (sym (h.first r k) j)))
      ∙ ap one_if (alone (is_present r (flat_map f (below k))) (is_present r (f k)))
      ∙ sym (count-except (f k) (flat_map f (below k)) r);
}
  where
    alone : (a b : Bool) → (a || b) && not a ≡ b && not a
    alone true true = refl
    alone true false = refl
    alone false b = refl

pub all_different : (n : ℕ) (kept : LoopRows) (f : ℕ → List Record) (k : ℕ) (rows : List Record) → IsLoopOf n kept f → rows ≡ rows_first_at kept.rows.rows kept.turns.items k (places_of kept k) → AreDifferent rows
all_different n kept f k rows h e = different_where_once rows (λ r. let is = (new_there n kept f k rows h e).counts r ∙ count-except (f k) (flat_map f (below k)) r in let one = one_le (is_present r (f k) && not (is_present r (flat_map f (below k)))) in omega (arith, is, one))

-- ---- by the turn and the time outside

pub inside : (t : Time) → 0 < length t.counters → deeper (outer t) (last t.counters) ≡ t
inside t h = turn_of (length t.counters - 1) t.epoch t.counters (omega (arith, h))

pub earlier_by_turn : (a : Absorbed) (t : Time) → flat_map (a 0) (earlier_turns t) ≡ flat_map (λ k. by_turn a k (outer t)) (below (last t.counters))
earlier_by_turn a t = go (below (last t.counters))
  where
    go : (ks : List ℕ) → flat_map (a 0) (map (deeper (outer t)) ks) ≡ flat_map (λ k. by_turn a k (outer t)) ks
    go [] = refl
    go (k ∷ ks) = ap (λ l. a 0 (deeper (outer t) k) ++ l) (go ks)

-- a batch of a time is one of its turn
pub turn_more : (a : Absorbed) (t : Time) (batch : List Record) → 0 < length t.counters → by_turn (with_records a 0 t batch) ≡ with_records (by_turn a) (last t.counters) (outer t) batch
turn_more a t batch h = fun_ext (λ k. fun_ext (λ u. ap (λ l. a 0 (deeper u k) ++ l) (ap (λ b. cond b batch []) (same_place k u) ∙ both (last t.counters == k) (same_time (outer t) u))))
  where
    both : (b c : Bool) → cond (b && c) batch [] ≡ cond b (cond c batch []) []
    both true c = refl
    both false c = refl

    here : (k : ℕ) (u : Time) (b c d : Bool) → (last t.counters == k) ≡ b → same_time (outer t) u ≡ c → same_time t (deeper u k) ≡ d → d ≡ b && c
    here k u true true d e f g = sym g ∙ ap (λ (v : Time). same_time t v) (ap₂ (λ (w : Time) (n : ℕ). deeper w n) (sym (one_time (outer t) u f)) (sym ((Decides-eqb (last t.counters) k).0 e)) ∙ inside t h) ∙ same_time_refl t
    here k u b c true e f g = told (one_time t (deeper u k) g) b c e f
      where
        told : t ≡ deeper u k → (b c : Bool) → (last t.counters == k) ≡ b → same_time (outer t) u ≡ c → true ≡ b && c
        told i b c e f =
            (λ j. sym (sym e ∙ (Decides-eqb (last t.counters) k).1 (ap (λ (v : Time). last v.counters) i ∙ last-deeper u k)) j
            && sym (sym f ∙ ap (λ (v : Time). same_time v u) (ap outer i ∙ outer-deeper u k) ∙ same_time_refl u) j)
    here k u true false false e f g = refl
    here k u false c false e f g = refl

    same_place : (k : ℕ) (u : Time) → same_time t (deeper u k) ≡ (last t.counters == k) && same_time (outer t) u
    same_place k u = here k u (last t.counters == k) (same_time (outer t) u) (same_time t (deeper u k)) refl refl refl

-- a batch of a time outside all loops is in none
pub outside_more : (a : Absorbed) (t : Time) (batch : List Record) → length t.counters ≡ 0 → by_turn (with_records a 0 t batch) ≡ by_turn a
outside_more a t batch h = fun_ext (λ k. fun_ext (λ u. ap (λ b. a 0 (deeper u k) ++ cond b batch []) (apart k u (same_time t (deeper u k)) refl) ∙ append-nil (a 0 (deeper u k))))
  where
    apart : (k : ℕ) (u : Time) (b : Bool) → same_time t (deeper u k) ≡ b → same_time t (deeper u k) ≡ false
    apart k u true e = absurd (let l = ap (λ (v : Time). length v.counters) (one_time t (deeper u k) e) in omega (arith, l, length-deeper u k, h))
    apart k u false e = e

-- ---- what is kept of a loop

pub fresh_loop : (n : ℕ) (kept : LoopRows) → kept.rows.arity ≡ n → kept.rows.rows ≡ [] → kept.turns.items ≡ [] → ((k : ℕ) → places_of kept k ≡ []) → IsLoopOf n kept (λ turn. [])
fresh_loop n kept a e f g = record {
  arity_is = a;
  first = λ r m. nothing r (below m) ∙ sym (ap (λ (rs : List Record). is_first_below rs kept.turns.items r m) e);
  places = no_turns kept.rows.rows kept.turns.items (places_of kept) e f g;
}
  where
    nothing : (r : Record) (ks : List ℕ) → is_present r (flat_map (λ (k : ℕ). []) ks) ≡ false
    nothing r [] = refl
    nothing r (k ∷ ks) = nothing r ks

pub loop_more : (n : ℕ) (kept kept' : LoopRows) (f : ℕ → List Record) (k : ℕ) (batch : List Record) → IsLoopOf n kept f → kept'.rows.arity ≡ kept.rows.arity
    → ((r : Record) (m : ℕ) → is_first_below kept'.rows.rows kept'.turns.items r m ≡ is_first_below kept.rows.rows kept.turns.items r m || (is_present r batch && nat_lt k m))
    → AreFirstTurns kept'.rows.rows kept'.turns.items (places_of kept') → IsLoopOf n kept' (more_at f k batch)
loop_more n kept kept' f k batch h a first places = record {
  arity_is = a ∙ h.arity_is;
  first = λ r m. came_more f k batch m r ∙ ap (λ b. b || (is_present r batch && nat_lt k m)) (h.first r m) ∙ sym (first r m);
  places = places;
}

-- ---- an unseen

pub unseen_more : (s s' : UnseenShard) (a : Absorbed) (t : Time) (batch : List Record) → IsUnseenOf s a → s'.came.arity ≡ s.came.arity
    → AreStatesOf (AreSetsThen s.came.arity) s'.came.times (with_records a 0 t batch) → AreStatesOf (IsLoopOf s.came.arity) s'.loops (by_turn (with_records a 0 t batch)) → IsUnseenOf s' (with_records a 0 t batch)
unseen_more s s' a t batch h e counted loops = record {
  counted = subst (λ n. AreStatesOf (AreSetsThen n) s'.came.times (with_records a 0 t batch)) (sym e) counted;
  one_port = λ u. append-nil (a 1 u) ∙ h.one_port u;
  loops = subst (λ n. AreStatesOf (IsLoopOf n) s'.loops (by_turn (with_records a 0 t batch))) (sym e) loops;
}

pub none_earlier : (a : Absorbed) (t : Time) → length t.counters ≡ 0 → flat_map (a 0) (earlier_turns t) ≡ []
none_earlier a t h = ap (λ n. flat_map (a 0) (map (deeper (outer t)) (below n))) (go t.counters h)
  where
    go : (cs : List ℕ) → length cs ≡ 0 → last cs ≡ 0
    go [] e = refl
    go (c ∷ cs) e = absurd (omega (arith, e))

-- what is new at a turn of the loop is new at the time
pub new_then : (a : Absorbed) (t : Time) (k : ℕ) (u : Time) (rows : List Record) → 0 < length t.counters → k ≡ last t.counters → u ≡ outer t
    → rows ≈ only_left (by_turn a k u) (flat_map (λ j. by_turn a j u) (below k)) → rows ≈ only_left (a 0 t) (flat_map (a 0) (earlier_turns t))
new_then a t k u rows h e f new =
    subst (λ (xs : List Record). rows ≈ only_left xs (flat_map (a 0) (earlier_turns t))) (ap (a 0) (ap₂ (λ (w : Time) (n : ℕ). deeper w n) f e ∙ inside t h))
    (subst (λ (ys : List Record). rows ≈ only_left (by_turn a k u) ys) ((λ j. flat_map (λ n. by_turn a n (f j)) (below (e j))) ∙ sym (earlier_by_turn a t)) new)

pub none_then : (a : Absorbed) (t : Time) (u : Time) → 0 < length t.counters → u ≡ outer t → ((k : ℕ) → by_turn a k u ≡ []) → a 0 t ≡ []
none_then a t u h f none = sym (ap (a 0) (ap (λ (w : Time). deeper w (last t.counters)) f ∙ inside t h)) ∙ none (last t.counters)

-- the lists, where that of one turn is another
pub lists_more : {H : Type 0} (m m' : IndexMap ℕ Places H) (turn : ℕ) (list : Places) (more : List ℕ) → ((k : ℕ) → get nat_eq m' k ≡ cond (nat_eq turn k) (Some list) (get nat_eq m k))
    → list.places.items ≡ listed (get nat_eq m turn) ++ more → (k : ℕ) → listed (get nat_eq m' k) ≡ listed (get nat_eq m k) ++ cond (turn == k) more []
lists_more m m' turn list more e f k = ap listed (e k) ∙ go (nat_eq turn k) refl
  where
    go : (b : Bool) → nat_eq turn k ≡ b → listed (cond b (Some list) (get nat_eq m k)) ≡ listed (get nat_eq m k) ++ cond b more []
    go true g = f ∙ ap (λ n. listed (get nat_eq m n) ++ more) ((Decides-eqb turn k).0 g)
    go false g = sym (append-nil (listed (get nat_eq m k)))
