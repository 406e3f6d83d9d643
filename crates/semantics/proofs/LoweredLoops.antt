-- A program's graph is wired, and the rank rises along its steps: the loops of each vertex.
use Rattle.std.proofs.Common.{◌≡◌, ℕ, zero, suc, ◌+◌, ◌≤◌, ◌<◌, Bool, true, false, cond, List, [], ◌∷◌, ◌++◌, map, filter, length, slice_index_or, refl, sym, ap, subst, ◌∙◌, arith, length-append, append_assoc, inl, inr, ◌⊎◌, le_refl}
use Rattle.std.proofs.lemmas.Bool.{true≢false}
use Rattle.std.specs.List.{AllByRecursion}
use Rattle.semantics.proofs.NamesAmong.{Decides-same_name, among_left, among_right, among_others, among_firsts, from_firsts}
use Rattle.semantics.specs.Multiset.{IsAmong}
use Rattle.semantics.specs.FreeNames.{other_than, free, carried, once_names}
use Rattle.semantics.specs.Limits.{max_loops}
use Rattle.semantics.specs.Dataflow.{IsWired, Goes, IsNested}
use Rattle.semantics.specs.Flow.{Inputs, HasOneFlow}
use Rattle.semantics.specs.Kinds.{Kind, action, in_ports, out_ports}
use Rattle.semantics.specs.Graph.{Port, Vertex, Graph, no_vertex, vertex, source}
use Rattle.semantics.specs.Lower.{is_lookup, join_kind, held_turns, Ports, stands_for, port, new_vertex, carry, carried_ports, Lowered, lower, looped, input_vertices, input_ports, lower_lets, lets_of, lower_outputs, outputs_of, lowered}
use Rattle.semantics.specs.Meaning.{same_name}
use Rattle.semantics.specs.Query.{Name, Loop, Rel, Input, Let, Output, Program}
use Rattle.semantics.specs.Time.{Action}
use Rattle.semantics.proofs.OneFlow.{one_flow}
use Rattle.semantics.proofs.LoweredRelations.{Stands, stands_left, stands_right}
use Rattle.semantics.proofs.LoweredPrograms.{all_at, stands_whole, length-input_vertices}
use Rattle.semantics.proofs.RankRises.{rises_from_nested}
use Rattle.semantics.proofs.FittingPrograms.{Nested, LetsFit, AllFit, names_after, input_list, IsFitting}
use Rattle.semantics.proofs.VertexFlows.{IsAt}
use Rattle.semantics.proofs.Gates.{gate_ins, gate_outs, gate_stays, join_ins, join_outs, join_stays}

-- ---- vertices that are wired, and are in the loops given for them

pub record SoundAs (g : Graph) (loops : ℕ → List ℕ) (w : ℕ) (v : Vertex) : Type 0 where
  pub full : length v.ins ≡ in_ports v.kind
  pub home : length (loops w) ≡ v.depth
  pub shallow : v.depth ≤ max_loops
  pub edges : AllByRecursion (λ (p : Port). (p.vertex < length g) × (p.out < out_ports (vertex g p.vertex).kind) × Goes loops p.vertex w (action (vertex g p.vertex).kind)) v.ins

abbrev pub AllSound : Graph → (ℕ → List ℕ) → ℕ → List Vertex → Type 0
AllSound g loops k [] = Unit {0}
AllSound g loops k (v ∷ vs) = SoundAs g loops k v × AllSound g loops (suc k) vs

module _ (g : Graph) (loops : ℕ → List ℕ) where
  all_sound-append : (k : ℕ) (vs ws : List Vertex) → AllSound g loops k vs → AllSound g loops (k + length vs) ws → AllSound g loops k (vs ++ ws)
  all_sound-append k [] ws s t = subst (λ n. AllSound g loops n ws) (omega arith) t
  all_sound-append k (v ∷ vs) ws s t = (s.0, all_sound-append (suc k) vs ws s.1 (subst (λ n. AllSound g loops n ws) (omega arith) t))

  all_sound_at : (k : ℕ) (vs : List Vertex) → AllSound g loops k vs → (i : ℕ) → i < length vs → SoundAs g loops (k + i) (slice_index_or vs i no_vertex)
  all_sound_at k [] s i l = absurd (omega arith)
  all_sound_at k (v ∷ vs) s zero l = subst (λ n. SoundAs g loops n v) (omega arith) s.0
  all_sound_at k (v ∷ vs) s (suc i) l = subst (λ n. SoundAs g loops n (slice_index_or vs i no_vertex)) (omega arith) (all_sound_at (suc k) vs s.1 i (omega arith))

  module _ (sound : AllSound g loops 0 g) where
    sound_at : (w : ℕ) → w < length g → SoundAs g loops w (vertex g w)
    unfolding vertex
    sound_at w l = subst (λ n. SoundAs g loops n (slice_index_or g w no_vertex)) (omega arith) (all_sound_at 0 g sound w l)

    edge_sound : (w i : ℕ) → w < length g → i < length (vertex g w).ins → ((source g w i).vertex < length g) × ((source g w i).out < out_ports (vertex g (source g w i).vertex).kind) × Goes loops (source g w i).vertex w (action (vertex g (source g w i).vertex).kind)
    unfolding source
    edge_sound w i l m = all_at _ (vertex g w).ins i (sound_at w l).edges m

    pub wired_from_sound : IsWired g
    wired_from_sound = record { full = λ v l. (sound_at v l).full; fed = λ w i l m. (edge_sound w i l m).0; from_port = λ w i l m. (edge_sound w i l m).1; shallow = λ v l. (sound_at v l).shallow }

    pub nested_from_sound : IsNested g loops
    nested_from_sound = record { homes = λ v l. (sound_at v l).home; goes = λ w i l m. (edge_sound w i l m).2 }

-- ---- the loops of the vertices that a relation makes

abbrev pub carry_homes : List ℕ → List ℕ → List Name → List (List ℕ)
carry_homes here in' [] = []
carry_homes here in' (y ∷ ys) = here ∷ in' ∷ in' ∷ in' ∷ carry_homes here in' ys

unfoldable pub homes : Rel → Ports → List Name → ℕ → ℕ → List ℕ → List (List ℕ)
homes (Rel.named x) ports once d k here = []
homes (Rel.select r ss) ports once d k here = homes r ports once d k here ++ (here ∷ [])
homes (Rel.filter r c) ports once d k here = homes r ports once d k here ++ (here ∷ [])
homes (Rel.concat p q) ports once d k here = homes p ports once d k here ++ (homes q ports once d (k + length (lower p ports once d k).made) here ++ (here ∷ []))
homes (Rel.join p q ps) ports once d k here = homes p ports once d k here ++ (homes q ports once d (k + length (lower p ports once d k).made) here ++ (here ∷ []))
homes (Rel.group r ks as') ports once d k here = homes r ports once d k here ++ (here ∷ [])
homes (Rel.distinct r) ports once d k here = homes r ports once d k here ++ (here ∷ [])
homes (Rel.except p q) ports once d k here = homes p ports once d k here ++ (homes q ports once d (k + length (lower p ports once d k).made) here ++ (here ∷ []))
homes (Rel.intersect p q) ports once d k here = homes p ports once d k here ++ (homes q ports once d (k + length (lower p ports once d k).made) here ++ (here ∷ []))
homes (Rel.loop l n x r b) ports once d k here =
    let start = lower r ports once d k in
    let loop = k + length start.made in
    let outside = suc (suc (suc loop)) in
    let ys = carried x b in
    let inner = once_names l x b in
    let inside = stands_for x (port (suc (suc loop)) 0) (carried_ports ports outside ys) in
    let first = outside + length (carry (held_turns n inner) ports d outside ys) in
    let body = lower b inside inner (suc d) first in
    let in' = here ++ (suc (first + length body.made) ∷ []) in
    homes r ports once d k here ++ (here ∷ in' ∷ in' ∷ (carry_homes here in' ys ++ (homes b inside inner (suc d) first in' ++ (in' ∷ in' ∷ []))))

length-carry_homes : (n : Name → ℕ) (ports : Ports) (d k : ℕ) (here in' : List ℕ) (ys : List Name) → length (carry_homes here in' ys) ≡ length (carry n ports d k ys)
length-carry_homes n ports d k here in' [] = refl
length-carry_homes n ports d k here in' (y ∷ ys) = ap (λ m. suc (suc (suc (suc m)))) (length-carry_homes n ports d (suc (suc (suc (suc k)))) here in' ys)

pub one_longer : {X Y : Type 0} (hs : List X) (h : X) (vs : List Y) (v : Y) → length hs ≡ length vs → length (hs ++ (h ∷ [])) ≡ length (vs ++ (v ∷ []))
one_longer hs h vs v e = omega (arith, length-append hs (h ∷ []), length-append vs (v ∷ []))

pub two_longer : {X Y : Type 0} (hs js : List X) (h : X) (vs ws : List Y) (v : Y) → length hs ≡ length vs → length js ≡ length ws → length (hs ++ (js ++ (h ∷ []))) ≡ length (vs ++ (ws ++ (v ∷ [])))
two_longer hs js h vs ws v e k = omega (arith, one_longer js h ws v k, length-append hs (js ++ (h ∷ [])), length-append vs (ws ++ (v ∷ [])))

pub loop_longer : {X Y : Type 0} (hs : List X) (vs : List Y) (js : List X) (ws : List Y) (is : List X) (us : List Y) (a b c d e : X) (p q r s t : Y) → length hs ≡ length vs → length js ≡ length ws → length is ≡ length us → length (hs ++ (a ∷ b ∷ c ∷ (js ++ (is ++ (d ∷ e ∷ []))))) ≡ length (vs ++ (p ∷ q ∷ r ∷ (ws ++ (us ++ (s ∷ t ∷ [])))))
loop_longer hs vs js ws is us a b c d e p q r s t k l m =
    omega (arith, length-append hs (a ∷ b ∷ c ∷ (js ++ (is ++ (d ∷ e ∷ [])))), length-append vs (p ∷ q ∷ r ∷ (ws ++ (us ++ (s ∷ t ∷ [])))), length-append js (is ++ (d ∷ e ∷ [])), length-append ws (us ++ (s ∷ t ∷ [])), length-append is (d ∷ e ∷ []), length-append us (s ∷ t ∷ []))

pub length-homes : (r : Rel) (ports : Ports) (once : List Name) (d k : ℕ) (here : List ℕ) → length (homes r ports once d k here) ≡ length (lower r ports once d k).made
unfolding homes lower
length-homes (Rel.named x) ports once d k here = refl
length-homes (Rel.select r ss) ports once d k here = one_longer (homes r ports once d k here) here (lower r ports once d k).made _ (length-homes r ports once d k here)
length-homes (Rel.filter r c) ports once d k here = one_longer (homes r ports once d k here) here (lower r ports once d k).made _ (length-homes r ports once d k here)
length-homes (Rel.concat p q) ports once d k here = two_longer (homes p ports once d k here) (homes q ports once d (k + length (lower p ports once d k).made) here) here (lower p ports once d k).made (lower q ports once d (k + length (lower p ports once d k).made)).made _ (length-homes p ports once d k here) (length-homes q ports once d (k + length (lower p ports once d k).made) here)
length-homes (Rel.join p q ps) ports once d k here = two_longer (homes p ports once d k here) (homes q ports once d (k + length (lower p ports once d k).made) here) here (lower p ports once d k).made (lower q ports once d (k + length (lower p ports once d k).made)).made _ (length-homes p ports once d k here) (length-homes q ports once d (k + length (lower p ports once d k).made) here)
length-homes (Rel.group r ks as') ports once d k here = one_longer (homes r ports once d k here) here (lower r ports once d k).made _ (length-homes r ports once d k here)
length-homes (Rel.distinct r) ports once d k here = one_longer (homes r ports once d k here) here (lower r ports once d k).made _ (length-homes r ports once d k here)
length-homes (Rel.except p q) ports once d k here = two_longer (homes p ports once d k here) (homes q ports once d (k + length (lower p ports once d k).made) here) here (lower p ports once d k).made (lower q ports once d (k + length (lower p ports once d k).made)).made _ (length-homes p ports once d k here) (length-homes q ports once d (k + length (lower p ports once d k).made) here)
length-homes (Rel.intersect p q) ports once d k here = two_longer (homes p ports once d k here) (homes q ports once d (k + length (lower p ports once d k).made) here) here (lower p ports once d k).made (lower q ports once d (k + length (lower p ports once d k).made)).made _ (length-homes p ports once d k here) (length-homes q ports once d (k + length (lower p ports once d k).made) here)
length-homes (Rel.loop l n x r b) ports once d k here =
    let start = lower r ports once d k in
    let loop = k + length start.made in
    let outside = suc (suc (suc loop)) in
    let ys = carried x b in
    let inner = once_names l x b in
    let inside = stands_for x (port (suc (suc loop)) 0) (carried_ports ports outside ys) in
    let cs = carry (held_turns n inner) ports d outside ys in
    let first = outside + length cs in
    let body = lower b inside inner (suc d) first in
    let in' = here ++ (suc (first + length body.made) ∷ []) in
    let e1 = length-homes r ports once d k here in
    let e2 = length-homes b inside inner (suc d) first in' in
    let e3 = length-carry_homes (held_turns n inner) ports d outside here in' ys in
    loop_longer (homes r ports once d k here) start.made (carry_homes here in' ys) cs (homes b inside inner (suc d) first in') body.made here in' in' in' in' _ _ _ _ _ e1 e3 e2

-- ---- each vertex of a relation is sound

abbrev pub Homed : (ℕ → List ℕ) → ℕ → List (List ℕ) → Type 0
Homed loops k [] = Unit {0}
Homed loops k (h ∷ hs) = (loops k ≡ h) × Homed loops (suc k) hs

homed_left : (loops : ℕ → List ℕ) (k : ℕ) (hs js : List (List ℕ)) → Homed loops k (hs ++ js) → Homed loops k hs
homed_left loops k [] js s = tt
homed_left loops k (h ∷ hs) js s = (s.0, homed_left loops (suc k) hs js s.1)

homed_right : (loops : ℕ → List ℕ) (k n : ℕ) (hs js : List (List ℕ)) → length hs ≡ n → Homed loops k (hs ++ js) → Homed loops (k + n) js
homed_right loops k n [] js e s = subst (λ m. Homed loops m js) (omega arith) s
homed_right loops k zero (h ∷ hs) js e s = absurd (omega arith)
homed_right loops k (suc n) (h ∷ hs) js e s = subst (λ m. Homed loops m js) (omega arith) (homed_right loops (suc k) n hs js (omega arith) s.1)

-- what leaves v is among the edges of `here`
pub data Exits (loops : ℕ → List ℕ) (v : ℕ) (here : List ℕ) : Action → Type 0 where
  plain : loops v ≡ here → Exits loops v here Action.stay
  outward : loops v ≡ here ++ (v ∷ []) → Exits loops v here Action.leave

exits_step : (loops : ℕ → List ℕ) (v w : ℕ) (here : List ℕ) (a : Action) → Exits loops v here a → loops w ≡ here → v < w → Goes loops v w a
exits_step loops v w here a (plain e) h l = Goes.same_loop (h ∙ sym e) l
exits_step loops v w here a (outward e) h l = Goes.out_of_loop (e ∙ ap (λ x. x ++ (v ∷ [])) (sym h)) l

module _ (g : Graph) (loops : ℕ → List ℕ) where
  -- a port below k whose edges are among those of `here`
  pub record Avail (p : Port) (here : List ℕ) (k : ℕ) : Type 0 where
    pub below : p.vertex < k
    pub is_out : p.out < out_ports (vertex g p.vertex).kind
    pub exits : Exits loops p.vertex here (action (vertex g p.vertex).kind)

  avail_later : (p : Port) (here : List ℕ) (k m : ℕ) → k ≤ m → Avail p here k → Avail p here m
  avail_later p here k m l a = record { below = let b = a.below in omega arith; is_out = a.is_out; exits = a.exits }

  avail_here : (w o : ℕ) (v : Vertex) (here : List ℕ) (k : ℕ) → IsAt g w v → o < out_ports v.kind → action v.kind ≡ Action.stay → loops w ≡ here → w < k → Avail (port w o) here k
  avail_here w o v here k at n e h l = record { below = l; is_out = subst (λ (x : Vertex). o < out_ports x.kind) (sym at.is) n; exits = subst (λ (x : Vertex). Exits loops w here (action x.kind)) (sym at.is) (subst (Exits loops w here) (sym e) (Exits.plain h)) }

  avail_outward : (w o : ℕ) (v : Vertex) (here : List ℕ) (k : ℕ) → IsAt g w v → o < out_ports v.kind → action v.kind ≡ Action.leave → loops w ≡ here ++ (w ∷ []) → w < k → Avail (port w o) here k
  avail_outward w o v here k at n e h l = record { below = l; is_out = subst (λ (x : Vertex). o < out_ports x.kind) (sym at.is) n; exits = subst (λ (x : Vertex). Exits loops w here (action x.kind)) (sym at.is) (subst (Exits loops w here) (sym e) (Exits.outward h)) }

  -- an edge from an available port
  edge_from : (p : Port) (here : List ℕ) (k w : ℕ) → Avail p here k → loops w ≡ here → k ≤ w → w < length g → (p.vertex < length g) × (p.out < out_ports (vertex g p.vertex).kind) × Goes loops p.vertex w (action (vertex g p.vertex).kind)
  edge_from p here k w a h l m = (let b = a.below in omega arith, a.is_out, exits_step loops p.vertex w here (action (vertex g p.vertex).kind) a.exits h (let b = a.below in omega arith))

  -- an edge from a vertex that was already made
  edge_of : (v o w : ℕ) (x : Vertex) (a : Action) → IsAt g v x → o < out_ports x.kind → action x.kind ≡ a → Goes loops v w a → (v < length g) × (o < out_ports (vertex g v).kind) × Goes loops v w (action (vertex g v).kind)
  edge_of v o w x a at n e s = (at.known, subst (λ (y : Vertex). o < out_ports y.kind) (sym at.is) n, subst (λ (y : Vertex). Goes loops v w (action y.kind)) (sym at.is) (subst (Goes loops v w) (sym e) s))

  abbrev SoundClaim : ℕ → Rel → Type 0
  SoundClaim d r = (ports : Ports) (once : List Name) (k : ℕ) (here : List ℕ) → Stands g k (lower r ports once d k).made → Homed loops k (homes r ports once d k here) → length here ≡ d → d ≤ max_loops → ((y : Name) → IsAmong y (free r) → Avail (ports y) here k) → AllSound g loops k (lower r ports once d k).made × Avail (lower r ports once d k).gives here (k + length (lower r ports once d k).made)

  one_sound : (ports : Ports) (d k : ℕ) (here : List ℕ) (kind : Kind) (r : Lowered) (hs : List (List ℕ)) → length hs ≡ length r.made → 1 ≡ in_ports kind → 1 ≡ out_ports kind → action kind ≡ Action.stay → length here ≡ d → d ≤ max_loops
      → Stands g k (r.made ++ (new_vertex kind d (r.gives ∷ []) ∷ [])) → Homed loops k (hs ++ (here ∷ []))
      → AllSound g loops k r.made × Avail r.gives here (k + length r.made)
      → AllSound g loops k (r.made ++ (new_vertex kind d (r.gives ∷ []) ∷ [])) × Avail (port (k + length r.made) 0) here (k + length (r.made ++ (new_vertex kind d (r.gives ∷ []) ∷ [])))
  one_sound ports d k here kind r hs n i o e l m s h ih =
      let w = k + length r.made in
      let v = new_vertex kind d (r.gives ∷ []) in
      let at : IsAt g w v = (stands_right g k r.made (v ∷ []) s).0 in
      let at_home : loops w ≡ here = (homed_right loops k (length r.made) hs (here ∷ []) n h).0 in
      let sound : SoundAs g loops w v = record { full = i; home = ap length at_home ∙ l; shallow = m; edges = (edge_from r.gives here w w ih.1 at_home (le_refl w) at.known, tt) } in
      (all_sound-append g loops k r.made (v ∷ []) ih.0 (sound, tt), avail_here w 0 v here (k + length (r.made ++ (v ∷ []))) at (omega arith) e at_home (omega (arith, length-append r.made (v ∷ []))))

  two_sound : (ports : Ports) (d k : ℕ) (here : List ℕ) (kind : Kind) (r q : Lowered) (hs js : List (List ℕ)) → length hs ≡ length r.made → length js ≡ length q.made → 2 ≡ in_ports kind → 1 ≡ out_ports kind → action kind ≡ Action.stay → length here ≡ d → d ≤ max_loops
      → Stands g k (r.made ++ (q.made ++ (new_vertex kind d (r.gives ∷ q.gives ∷ []) ∷ []))) → Homed loops k (hs ++ (js ++ (here ∷ [])))
      → AllSound g loops k r.made × Avail r.gives here (k + length r.made)
      → AllSound g loops (k + length r.made) q.made × Avail q.gives here (k + length r.made + length q.made)
      → AllSound g loops k (r.made ++ (q.made ++ (new_vertex kind d (r.gives ∷ q.gives ∷ []) ∷ []))) × Avail (port (k + length r.made + length q.made) 0) here (k + length (r.made ++ (q.made ++ (new_vertex kind d (r.gives ∷ q.gives ∷ []) ∷ []))))
  two_sound ports d k here kind r q hs js n n' i o e l m s h ih ih' =
      let w = k + length r.made + length q.made in
      let v = new_vertex kind d (r.gives ∷ q.gives ∷ []) in
      let at : IsAt g w v = (stands_right g (k + length r.made) q.made (v ∷ []) (stands_right g k r.made (q.made ++ (v ∷ [])) s)).0 in
      let at_home : loops w ≡ here = (homed_right loops (k + length r.made) (length q.made) js (here ∷ []) n' (homed_right loops k (length r.made) hs (js ++ (here ∷ [])) n h)).0 in
      let sound : SoundAs g loops w v = record { full = i; home = ap length at_home ∙ l; shallow = m; edges = (edge_from r.gives here (k + length r.made) w ih.1 at_home (omega arith) at.known, (edge_from q.gives here w w ih'.1 at_home (le_refl w) at.known, tt)) } in (
        all_sound-append g loops k r.made (q.made ++ (v ∷ [])) ih.0 (all_sound-append g loops (k + length r.made) q.made (v ∷ []) ih'.0 (sound, tt)),
        avail_here w 0 v here (k + length (r.made ++ (q.made ++ (v ∷ [])))) at (omega arith) e at_home (omega (arith, length-append r.made (q.made ++ (v ∷ [])), length-append q.made (v ∷ []))),
      )

  -- ---- what a loop carries

  -- a loop's number is above those of the vertices of its block
  carry_sound : (n : Name → ℕ) (ports : Ports) (d k eg : ℕ) (here : List ℕ) (ys : List Name) → Stands g k (carry n ports d k ys) → Homed loops k (carry_homes here (here ++ (eg ∷ [])) ys) → length here ≡ d → suc d ≤ max_loops → k + length (carry n ports d k ys) ≤ eg → ((y : Name) → IsAmong y ys → Avail (ports y) here k) → AllSound g loops k (carry n ports d k ys)
  carry_sound n ports d k eg here [] s h l m b avail = tt
  carry_sound n ports d k eg here (y ∷ ys) s h l m b avail =
      let in' = here ++ (eg ∷ []) in
      let deep : length in' ≡ suc d = omega (arith, length-append here (eg ∷ [])) in
      let h0 : loops k ≡ here = h.0 in
      let h1 : loops (suc k) ≡ in' = h.1.0 in
      let h2 : loops (suc (suc k)) ≡ in' = h.1.1.0 in
      let h3 : loops (suc (suc (suc k))) ≡ in' = h.1.1.1.0 in (
        record { full = refl; home = ap length h0 ∙ l; shallow = omega arith; edges = (edge_from (ports y) here k k (avail y (inl refl)) h0 (le_refl k) s.0.known, tt) },
        (
          record {
            full = refl;
            home = ap length h1 ∙ deep;
            shallow = m;
            edges = (
              edge_of k 0 (suc k) _ Action.enter s.0 (omega arith) refl (Goes.into_loop eg (h1 ∙ ap (λ x. x ++ (eg ∷ [])) (sym h0)) (omega arith)),
              (edge_of (suc (suc (suc k))) 0 (suc k) _ Action.next s.1.1.1.0 (omega arith) refl (Goes.round_loop (h1 ∙ sym h3) (omega (arith, ap length h3))), tt),
            );
          },
          (
            record { full = refl; home = ap length h2 ∙ deep; shallow = m; edges = (edge_of (suc k) 0 (suc (suc k)) _ Action.stay s.1.0 (omega arith) refl (Goes.same_loop (h2 ∙ sym h1) (omega arith)), tt) },
            (
              record { full = refl; home = ap length h3 ∙ deep; shallow = m; edges = (edge_of (suc (suc k)) 1 (suc (suc (suc k))) _ Action.stay s.1.1.0 (omega arith) refl (Goes.same_loop (h3 ∙ sym h2) (omega arith)), tt) },
              carry_sound n ports d (suc (suc (suc (suc k)))) eg here ys s.1.1.1.1 h.1.1.1.1 l m (omega arith) (λ z j. avail_later (ports z) here k (suc (suc (suc (suc k)))) (omega arith) (avail z (inr j))),
            ),
          ),
        ),
      )

  held_avail : (n : Name → ℕ) (ports : Ports) (d k m : ℕ) (here in' : List ℕ) (ys : List Name) → Stands g k (carry n ports d k ys) → Homed loops k (carry_homes here in' ys) → k + length (carry n ports d k ys) ≤ m → (y : Name) → IsAmong y ys → Avail (carried_ports ports k ys y) in' m
  held_avail n ports d k m here in' [] s h b y j = absurd j
  held_avail n ports d k m here in' (x ∷ xs) s h b y j = go (same_name x y) refl j (held_avail n ports d (suc (suc (suc (suc k)))) m here in' xs s.1.1.1.1 h.1.1.1.1 (omega arith) y)
    where
      go : (t : Bool) → same_name x y ≡ t → (x ≡ y) ⊎ IsAmong y xs → (IsAmong y xs → Avail (carried_ports ports (suc (suc (suc (suc k)))) xs y) in' m) → Avail (cond t (port (suc (suc k)) 0) (carried_ports ports (suc (suc (suc (suc k)))) xs y)) in' m
      go true q i f = avail_here (suc (suc k)) 0 _ in' m s.1.1.0 (omega arith) refl h.1.1.0 (omega arith)
      go false q (inl e) f = absurd (true≢false (sym ((Decides-same_name x y).1 e) ∙ q))
      go false q (inr i) f = f i

  loop_sound : (sort : Loop) (n : ℕ) (x : Name) (r b : Rel) → (d : ℕ) → SoundClaim d r → SoundClaim (suc d) b → (ports : Ports) (once : List Name) (k : ℕ) (here : List ℕ) → suc d ≤ max_loops → Stands g k (lower (Rel.loop sort n x r b) ports once d k).made → Homed loops k (homes (Rel.loop sort n x r b) ports once d k here) → length here ≡ d → ((y : Name) → IsAmong y (free (Rel.loop sort n x r b)) → Avail (ports y) here k) → AllSound g loops k (lower (Rel.loop sort n x r b) ports once d k).made × Avail (lower (Rel.loop sort n x r b) ports once d k).gives here (k + length (lower (Rel.loop sort n x r b) ports once d k).made)
  unfolding lower homes
  loop_sound sort n x r b d start_claim body_claim ports once k here m s h l avail = (all_sound, gives)
    where
      start : Lowered
      start = lower r ports once d k

      loop : ℕ
      loop = k + length start.made

      gate : ℕ
      gate = suc (suc loop)

      ys : List Name
      ys = carried x b

      inner : List Name
      inner = once_names sort x b

      inside : Ports
      inside = stands_for x (port gate 0) (carried_ports ports (suc gate) ys)

      cs : List Vertex
      cs = carry (held_turns n inner) ports d (suc gate) ys

      first : ℕ
      first = suc gate + length cs

      body : Lowered
      body = lower b inside inner (suc d) first

      back : ℕ
      back = first + length body.made

      in' : List ℕ
      in' = here ++ (suc back ∷ [])

      ends : List Vertex
      ends = new_vertex Kind.feedback (suc d) (body.gives ∷ []) ∷ new_vertex Kind.egress (suc d) (port gate 1 ∷ []) ∷ []

      made : List Vertex
      made = (looped sort n loop inner start ports d ys body).made

      deep : length in' ≡ suc d
      deep = omega (arith, length-append here (suc back ∷ []))

      -- where each part is
      in_loop : Stands g loop made
      in_loop = stands_right g k start.made made s

      at_first : Stands g first (body.made ++ ends)
      at_first = stands_right g (suc gate) cs (body.made ++ ends) in_loop.1.1.1

      at_back : Stands g back ends
      at_back = stands_right g first body.made ends at_first

      -- the loops of each part
      home_loop : Homed loops loop (here ∷ in' ∷ in' ∷ (carry_homes here in' ys ++ (homes b inside inner (suc d) first in' ++ (in' ∷ in' ∷ []))))
      home_loop = homed_right loops k (length start.made) (homes r ports once d k here) _ (length-homes r ports once d k here) h

      home_first : Homed loops first (homes b inside inner (suc d) first in' ++ (in' ∷ in' ∷ []))
      home_first = homed_right loops (suc gate) (length cs) (carry_homes here in' ys) _ (length-carry_homes (held_turns n inner) ports d (suc gate) here in' ys) home_loop.1.1.1

      home_back : Homed loops back (in' ∷ in' ∷ [])
      home_back = homed_right loops first (length body.made) (homes b inside inner (suc d) first in') _ (length-homes b inside inner (suc d) first in') home_first

      carried_avail : (y : Name) → IsAmong y ys → Avail (ports y) here (suc gate)
      carried_avail y j = avail_later (ports y) here k (suc gate) (omega arith) (avail y (among_right y (free r) (filter (other_than x) (free b)) (from_firsts y (filter (other_than x) (free b)) j)))

      inside_avail : (y : Name) → IsAmong y (free b) → Avail (inside y) in' first
      inside_avail y j = go (same_name x y) refl
        where
          go : (t : Bool) → same_name x y ≡ t → Avail (cond t (port gate 0) (carried_ports ports (suc gate) ys y)) in' first
          go true q = avail_here gate 0 _ in' first in_loop.1.1.0 (omega (arith, gate_outs sort n)) (gate_stays sort n) home_loop.1.1.0 (omega arith)
          go false q = held_avail (held_turns n inner) ports d (suc gate) first here in' ys (stands_left g (suc gate) cs (body.made ++ ends) in_loop.1.1.1) (homed_left loops (suc gate) (carry_homes here in' ys) _ home_loop.1.1.1) (le_refl first) y (among_firsts y (filter (other_than x) (free b)) (among_others x y (free b) q j))

      start_sound : AllSound g loops k start.made × Avail start.gives here loop
      start_sound = start_claim ports once k here (stands_left g k start.made made s) (homed_left loops k (homes r ports once d k here) _ h) l (omega arith) (λ y j. avail y (among_left y (free r) _ j))

      body_sound : AllSound g loops first body.made × Avail body.gives in' back
      body_sound = body_claim inside inner first in' (stands_left g first body.made ends at_first) (homed_left loops first (homes b inside inner (suc d) first in') _ home_first) deep m inside_avail

      ends_sound : AllSound g loops back ends
      ends_sound = (
        record { full = refl; home = ap length home_back.0 ∙ deep; shallow = m; edges = (edge_from body.gives in' back back body_sound.1 home_back.0 (le_refl back) at_back.0.known, tt) },
        (record { full = refl; home = ap length home_back.1.0 ∙ deep; shallow = m; edges = (edge_of gate 1 (suc back) _ Action.stay in_loop.1.1.0 (omega (arith, gate_outs sort n)) (gate_stays sort n) (Goes.same_loop (home_back.1.0 ∙ sym home_loop.1.1.0) (omega arith)), tt) }, tt),
      )

      loop_all : AllSound g loops loop made
      loop_all = (
        record { full = refl; home = ap length home_loop.0 ∙ l; shallow = omega arith; edges = (edge_from start.gives here loop loop start_sound.1 home_loop.0 (le_refl loop) in_loop.0.known, tt) },
        (
          record {
            full = refl;
            home = ap length home_loop.1.0 ∙ deep;
            shallow = m;
            edges = (
              edge_of loop 0 (suc loop) _ Action.enter in_loop.0 (omega arith) refl (Goes.into_loop (suc back) (home_loop.1.0 ∙ ap (λ z. z ++ (suc back ∷ [])) (sym home_loop.0)) (omega arith)),
              (edge_of back 0 (suc loop) _ Action.next at_back.0 (omega arith) refl (Goes.round_loop (home_loop.1.0 ∙ sym home_back.0) (omega (arith, ap length home_back.0, deep))), tt),
            );
          },
          (
            record { full = gate_ins sort n; home = ap length home_loop.1.1.0 ∙ deep; shallow = m; edges = (edge_of (suc loop) 0 gate _ Action.stay in_loop.1.0 (omega arith) refl (Goes.same_loop (home_loop.1.1.0 ∙ sym home_loop.1.0) (omega arith)), tt) },
            all_sound-append g loops (suc gate) cs (body.made ++ ends)
                (carry_sound (held_turns n inner) ports d (suc gate) (suc back) here ys (stands_left g (suc gate) cs (body.made ++ ends) in_loop.1.1.1) (homed_left loops (suc gate) (carry_homes here in' ys) _ home_loop.1.1.1) l m (omega arith) carried_avail)
                (all_sound-append g loops first body.made ends body_sound.0 ends_sound),
          ),
        ),
      )

      all_sound : AllSound g loops k (start.made ++ made)
      all_sound = all_sound-append g loops k start.made made start_sound.0 loop_all

      gives : Avail (port (suc back) 0) here (k + length (start.made ++ made))
      gives = avail_outward (suc back) 0 _ here (k + length (start.made ++ made)) at_back.1.0 (omega arith) refl home_back.1.0 (omega (arith, length-append start.made made, length-append cs (body.made ++ ends), length-append body.made ends))

  pub relation_sound : (r : Rel) (d : ℕ) → Nested d r → SoundClaim d r
  unfolding lower homes
  relation_sound (Rel.named x) d t ports once k here s h l m avail = (tt, avail_later (ports x) here k (k + 0) (omega arith) (avail x (inl refl)))
  relation_sound (Rel.select r ss) d t ports once k here s h l m avail =
      let a = lower r ports once d k in
      one_sound ports d k here (Kind.select ss) a (homes r ports once d k here) (length-homes r ports once d k here) refl refl refl l m s h (relation_sound r d t ports once k here (stands_left g k a.made _ s) (homed_left loops k (homes r ports once d k here) _ h) l m avail)
  relation_sound (Rel.filter r c) d t ports once k here s h l m avail =
      let a = lower r ports once d k in
      one_sound ports d k here (Kind.filter c) a (homes r ports once d k here) (length-homes r ports once d k here) refl refl refl l m s h (relation_sound r d t ports once k here (stands_left g k a.made _ s) (homed_left loops k (homes r ports once d k here) _ h) l m avail)
  relation_sound (Rel.group r ks as') d t ports once k here s h l m avail =
      let a = lower r ports once d k in
      one_sound ports d k here (Kind.group ks as') a (homes r ports once d k here) (length-homes r ports once d k here) refl refl refl l m s h (relation_sound r d t ports once k here (stands_left g k a.made _ s) (homed_left loops k (homes r ports once d k here) _ h) l m avail)
  relation_sound (Rel.distinct r) d t ports once k here s h l m avail =
      let a = lower r ports once d k in
      one_sound ports d k here Kind.distinct a (homes r ports once d k here) (length-homes r ports once d k here) refl refl refl l m s h (relation_sound r d t ports once k here (stands_left g k a.made _ s) (homed_left loops k (homes r ports once d k here) _ h) l m avail)
  relation_sound (Rel.concat p q) d t ports once k here s h l m avail =
      let a = lower p ports once d k in
      let e = k + length a.made in
      let b = lower q ports once d e in
      two_sound ports d k here Kind.concat a b (homes p ports once d k here) (homes q ports once d e here) (length-homes p ports once d k here) (length-homes q ports once d e here) refl refl refl l m s h
      (relation_sound p d t.0 ports once k here (stands_left g k a.made _ s) (homed_left loops k (homes p ports once d k here) _ h) l m (λ y j. avail y (among_left y (free p) (free q) j)))
      (relation_sound q d t.1 ports once e here (stands_left g e b.made _ (stands_right g k a.made _ s)) (homed_left loops e (homes q ports once d e here) _ (homed_right loops k (length a.made) (homes p ports once d k here) _ (length-homes p ports once d k here) h)) l m (λ y j. avail_later (ports y) here k e (omega arith) (avail y (among_right y (free p) (free q) j))))
  relation_sound (Rel.except p q) d t ports once k here s h l m avail =
      let a = lower p ports once d k in
      let e = k + length a.made in
      let b = lower q ports once d e in
      two_sound ports d k here Kind.except a b (homes p ports once d k here) (homes q ports once d e here) (length-homes p ports once d k here) (length-homes q ports once d e here) refl refl refl l m s h
      (relation_sound p d t.0 ports once k here (stands_left g k a.made _ s) (homed_left loops k (homes p ports once d k here) _ h) l m (λ y j. avail y (among_left y (free p) (free q) j)))
      (relation_sound q d t.1 ports once e here (stands_left g e b.made _ (stands_right g k a.made _ s)) (homed_left loops e (homes q ports once d e here) _ (homed_right loops k (length a.made) (homes p ports once d k here) _ (length-homes p ports once d k here) h)) l m (λ y j. avail_later (ports y) here k e (omega arith) (avail y (among_right y (free p) (free q) j))))
  relation_sound (Rel.intersect p q) d t ports once k here s h l m avail =
      let a = lower p ports once d k in
      let e = k + length a.made in
      let b = lower q ports once d e in
      two_sound ports d k here Kind.intersect a b (homes p ports once d k here) (homes q ports once d e here) (length-homes p ports once d k here) (length-homes q ports once d e here) refl refl refl l m s h
      (relation_sound p d t.0 ports once k here (stands_left g k a.made _ s) (homed_left loops k (homes p ports once d k here) _ h) l m (λ y j. avail y (among_left y (free p) (free q) j)))
      (relation_sound q d t.1 ports once e here (stands_left g e b.made _ (stands_right g k a.made _ s)) (homed_left loops e (homes q ports once d e here) _ (homed_right loops k (length a.made) (homes p ports once d k here) _ (length-homes p ports once d k here) h)) l m (λ y j. avail_later (ports y) here k e (omega arith) (avail y (among_right y (free p) (free q) j))))
  relation_sound (Rel.join p q ps) d t ports once k here s h l m avail =
      let a = lower p ports once d k in
      let e = k + length a.made in
      let b = lower q ports once d e in
      two_sound ports d k here (join_kind (is_lookup q once) ps) a b (homes p ports once d k here) (homes q ports once d e here) (length-homes p ports once d k here) (length-homes q ports once d e here) (join_ins (is_lookup q once) ps) (join_outs (is_lookup q once) ps) (join_stays (is_lookup q once) ps) l m s h
      (relation_sound p d t.0 ports once k here (stands_left g k a.made _ s) (homed_left loops k (homes p ports once d k here) _ h) l m (λ y j. avail y (among_left y (free p) (free q) j)))
      (relation_sound q d t.1 ports once e here (stands_left g e b.made _ (stands_right g k a.made _ s)) (homed_left loops e (homes q ports once d e here) _ (homed_right loops k (length a.made) (homes p ports once d k here) _ (length-homes p ports once d k here) h)) l m (λ y j. avail_later (ports y) here k e (omega arith) (avail y (among_right y (free p) (free q) j))))
  relation_sound (Rel.loop sort n x r b) d t ports once k here s h l m avail =
      loop_sound sort n x r b d (relation_sound r d t.0) (relation_sound b (suc d) t.2) ports once k here t.1 s h l avail

  -- ---- programs

  inputs_sound : (as' : List Input) (i : ℕ) → Homed loops i (map (λ a. []) as') → AllSound g loops i (input_vertices as')
  inputs_sound [] i h = tt
  inputs_sound (a ∷ as') i h = (record { full = refl; home = ap length h.0; shallow = omega arith; edges = tt }, inputs_sound as' (suc i) h.1)

  inputs_avail : (as' : List Input) (i m : ℕ) → Stands g i (input_vertices as') → Homed loops i (map (λ a. []) as') → i + length as' ≤ m → (y : Name) → IsAmong y (input_list as') → Avail (input_ports as' i y) [] m
  inputs_avail [] i m s h l y j = absurd j
  inputs_avail (a ∷ as') i m s h l y j = go (same_name a.name y) refl j (inputs_avail as' (suc i) m s.1 h.1 (omega arith) y)
    where
      go : (t : Bool) → same_name a.name y ≡ t → (a.name ≡ y) ⊎ IsAmong y (input_list as') → (IsAmong y (input_list as') → Avail (input_ports as' (suc i) y) [] m) → Avail (cond t (port i 0) (input_ports as' (suc i) y)) [] m
      go true q k f = avail_here i 0 _ [] m s.0 (omega arith) refl h.0 (omega arith)
      go false q (inl e) f = absurd (true≢false (sym ((Decides-same_name a.name y).1 e) ∙ q))
      go false q (inr k) f = f k

unfoldable pub lets_homes : List Let → Ports → ℕ → List (List ℕ)
lets_homes [] ports k = []
lets_homes (a ∷ as') ports k = homes a.value ports [] 0 k [] ++ lets_homes as' (stands_for a.name (lower a.value ports [] 0 k).gives ports) (k + length (lower a.value ports [] 0 k).made)

pub length-lets_homes : (as' : List Let) (ports : Ports) (k : ℕ) → length (lets_homes as' ports k) ≡ length (lower_lets as' ports k).made
unfolding lets_homes lower_lets
length-lets_homes [] ports k = refl
length-lets_homes (a ∷ as') ports k =
    let r = lower a.value ports [] 0 k in
    let rest = lower_lets as' (stands_for a.name r.gives ports) (k + length r.made) in
    omega (arith, length-homes a.value ports [] 0 k [], length-lets_homes as' (stands_for a.name r.gives ports) (k + length r.made), length-append (homes a.value ports [] 0 k []) (lets_homes as' (stands_for a.name r.gives ports) (k + length r.made)), length-append r.made rest.made)

module _ (g : Graph) (loops : ℕ → List ℕ) where
  lets_sound : (as' : List Let) (xs : List Name) (ports : Ports) (k : ℕ) → LetsFit xs as' → Stands g k (lower_lets as' ports k).made → Homed loops k (lets_homes as' ports k) → ((y : Name) → IsAmong y xs → Avail g loops (ports y) [] k) → AllSound g loops k (lower_lets as' ports k).made × ((y : Name) → IsAmong y (names_after xs as') → Avail g loops ((lower_lets as' ports k).ports y) [] (k + length (lower_lets as' ports k).made))
  unfolding lower_lets lets_homes
  lets_sound [] xs ports k m s h avail = (tt, λ y j. avail_later g loops (ports y) [] k (k + 0) (omega arith) (avail y j))
  lets_sound (a ∷ as') xs ports k m s h avail =
      let r = lower a.value ports [] 0 k in
      let ports' = stands_for a.name r.gives ports in
      let rest = lower_lets as' ports' (k + length r.made) in
      let here : AllSound g loops k r.made × Avail g loops r.gives [] (k + length r.made) = relation_sound g loops a.value 0 m.0.nested ports [] k [] (stands_left g k r.made rest.made s) (homed_left loops k (homes a.value ports [] 0 k []) (lets_homes as' ports' (k + length r.made)) h) refl (omega arith) (λ y j. avail y (m.0.known y j)) in
      let later = lets_sound as' (a.name ∷ xs) ports' (k + length r.made) m.1 (stands_right g k r.made rest.made s) (homed_right loops k (length r.made) (homes a.value ports [] 0 k []) (lets_homes as' ports' (k + length r.made)) (length-homes a.value ports [] 0 k []) h)
      (λ y j. go y r (same_name a.name y) refl j here.1) in (
        all_sound-append g loops k r.made rest.made here.0 later.0,
        λ y j. avail_later g loops (rest.ports y) [] (k + length r.made + length rest.made) (k + length (r.made ++ rest.made)) (omega (arith, length-append r.made rest.made)) (later.1 y j),
      )
    where
      go : (y : Name) (r : Lowered) (t : Bool) → same_name a.name y ≡ t → (a.name ≡ y) ⊎ IsAmong y xs → Avail g loops r.gives [] (k + length r.made) → Avail g loops (cond t r.gives (ports y)) [] (k + length r.made)
      go y r true q j f = f
      go y r false q (inl e) f = absurd (true≢false (sym ((Decides-same_name a.name y).1 e) ∙ q))
      go y r false q (inr j) f = avail_later g loops (ports y) [] k (k + length r.made) (omega arith) (avail y j)

unfoldable pub outputs_homes : List Output → Ports → ℕ → List (List ℕ)
outputs_homes [] ports k = []
outputs_homes (o ∷ os) ports k = homes o.value ports [] 0 k [] ++ ([] ∷ outputs_homes os ports (suc (k + length (lower o.value ports [] 0 k).made)))

module _ (g : Graph) (loops : ℕ → List ℕ) where
  outputs_sound : (os : List Output) (xs : List Name) (ports : Ports) (k : ℕ) → AllFit xs os → Stands g k (lower_outputs os ports k) → Homed loops k (outputs_homes os ports k) → ((y : Name) → IsAmong y xs → Avail g loops (ports y) [] k) → AllSound g loops k (lower_outputs os ports k)
  unfolding lower_outputs outputs_homes
  outputs_sound [] xs ports k m s h avail = tt
  outputs_sound (o ∷ os) xs ports k m s h avail =
      let r = lower o.value ports [] 0 k in
      let w = k + length r.made in
      let end = new_vertex Kind.output 0 (r.gives ∷ []) in
      let rest = lower_outputs os ports (suc w) in
      let at = stands_right g k r.made (end ∷ rest) s in
      let home = homed_right loops k (length r.made) (homes o.value ports [] 0 k []) ([] ∷ outputs_homes os ports (suc w)) (length-homes o.value ports [] 0 k []) h in
      let here : AllSound g loops k r.made × Avail g loops r.gives [] w = relation_sound g loops o.value 0 m.0.nested ports [] k [] (stands_left g k r.made (end ∷ rest) s) (homed_left loops k (homes o.value ports [] 0 k []) ([] ∷ outputs_homes os ports (suc w)) h) refl (omega arith) (λ y j. avail y (m.0.known y j)) in
      let sound : SoundAs g loops w end = record { full = refl; home = ap length home.0; shallow = omega arith; edges = (edge_from g loops r.gives [] w w here.1 home.0 (le_refl w) at.0.known, tt) } in
      all_sound-append g loops k r.made (end ∷ rest) here.0
      (sound, outputs_sound os xs ports (suc w) m.1 at.1 home.1 (λ y j. avail_later g loops (ports y) [] k (suc w) (omega arith) (avail y j)))

-- the loops of each vertex of a program's graph
abbrev pub program_homes : Program → List (List ℕ)
program_homes p = map (λ a. []) p.inputs ++ (lets_homes p.lets (input_ports p.inputs 0) (length p.inputs) ++ outputs_homes p.outputs (lets_of p).ports (length p.inputs + length (lets_of p).made))

abbrev pub program_loops : Program → ℕ → List ℕ
program_loops p v = slice_index_or (program_homes p) v []

home_at : (hs js : List (List ℕ)) (h : List ℕ) → slice_index_or (hs ++ (h ∷ js)) (length hs) [] ≡ h
home_at [] js h = refl
home_at (x ∷ xs) js h = home_at xs js h

homed_from : (hs js : List (List ℕ)) → Homed (λ v. slice_index_or (hs ++ js) v []) (length hs) js
homed_from hs [] = tt
homed_from hs (j ∷ js) = (
  home_at hs js j,
  subst (λ l. Homed (λ v. slice_index_or l v []) (suc (length hs)) js) (append_assoc hs (j ∷ []) js)
      (subst (λ n. Homed (λ v. slice_index_or ((hs ++ (j ∷ [])) ++ js) v []) n js) (let e : length (hs ++ (j ∷ [])) ≡ suc (length hs) = omega (arith, length-append hs (j ∷ [])) in e) (homed_from (hs ++ (j ∷ [])) js)),
)

abbrev no_homes : List Input → List (List ℕ)
no_homes as' = map (λ a. []) as'

length-map_homes : (as' : List Input) → length (no_homes as') ≡ length as'
length-map_homes [] = refl
length-map_homes (a ∷ as') = ap suc (length-map_homes as')

pub program_sound : (p : Program) → IsFitting p → AllSound (lowered p) (program_loops p) 0 (lowered p)
unfolding lowered
program_sound p fits =
    all_sound-append g loops 0 ins (lets ++ outs) (inputs_sound g loops p.inputs 0 home_inputs)
    (subst (λ k. AllSound g loops k (lets ++ outs)) (let z : n ≡ 0 + length (input_vertices p.inputs) = omega (arith, length-input_vertices p.inputs) in z)
    (all_sound-append g loops n lets outs sound_lets.0 (outputs_sound g loops p.outputs names (lets_of p).ports m fits.outputs st_out home_out sound_lets.1)))
  where
    g : Graph
    g = lowered p

    loops : ℕ → List ℕ
    loops = program_loops p

    n : ℕ
    n = length p.inputs

    names : List Name
    names = names_after (input_list p.inputs) p.lets

    ins : List Vertex
    ins = input_vertices p.inputs

    lets : List Vertex
    lets = (lets_of p).made

    outs : List Vertex
    outs = outputs_of p

    m : ℕ
    m = n + length lets

    st_lets : Stands g n (lets ++ outs)
    st_lets = subst (λ k. Stands g k (lets ++ outs)) (omega (arith, length-input_vertices p.inputs)) (stands_right g 0 ins (lets ++ outs) (stands_whole g))

    st_out : Stands g m outs
    st_out = stands_right g n lets outs st_lets

    hlets : List (List ℕ)
    hlets = lets_homes p.lets (input_ports p.inputs 0) n

    houts : List (List ℕ)
    houts = outputs_homes p.outputs (lets_of p).ports m

    home_all : Homed loops 0 (program_homes p)
    home_all = homed_from [] (program_homes p)

    home_inputs : Homed loops 0 (map (λ a. []) p.inputs)
    home_inputs = homed_left loops 0 (map (λ a. []) p.inputs) (hlets ++ houts) home_all

    home_lets : Homed loops n (hlets ++ houts)
    home_lets = subst (λ k. Homed loops k (hlets ++ houts)) (let z : 0 + n ≡ n = omega arith in z) (homed_right loops 0 n (map (λ a. []) p.inputs) (hlets ++ houts) (length-map_homes p.inputs) home_all)

    home_out : Homed loops m houts
    home_out = homed_right loops n (length lets) hlets houts (length-lets_homes p.lets (input_ports p.inputs 0) n) home_lets

    sound_lets : AllSound g loops n lets × ((y : Name) → IsAmong y names → Avail g loops ((lets_of p).ports y) [] m)
    sound_lets = lets_sound g loops p.lets (input_list p.inputs) (input_ports p.inputs 0) n fits.lets (stands_left g n lets outs st_lets) (homed_left loops n hlets houts home_lets)
        (inputs_avail g loops p.inputs 0 n (stands_left g 0 ins (lets ++ outs) (stands_whole g)) home_inputs (omega arith))

-- a program's graph has one flow
pub lowered_has_one_flow : (p : Program) → IsFitting p → (inputs : Inputs) → HasOneFlow (lowered p) inputs
lowered_has_one_flow p fits inputs =
    let s = program_sound p fits in
    one_flow (lowered p) (program_loops p) (wired_from_sound (lowered p) (program_loops p) s) (rises_from_nested (lowered p) (program_loops p) (nested_from_sound (lowered p) (program_loops p) s) (wired_from_sound (lowered p) (program_loops p) s)) inputs
