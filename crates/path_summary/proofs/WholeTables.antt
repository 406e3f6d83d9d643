-- The whole table: each row is good, so the table is exact.
use Rattle.std.proofs.Common.{◌≡◌, ◌⊎◌, inl, inr, ℕ, zero, suc, ◌<◌, Bool, true, List, [], ◌∷◌, ◌++◌, length, Some, slice_get, slice_index_or, refl, sym, ap, ap₂, subst, ◌∙◌, arith, length-append}
use Rattle.std.specs.Bool.{Decides}
use Rattle.std.specs.Prelude.{IsTrue, ◌↔◌}
use Rattle.std.proofs.Math.Bool.{Bool-set}
use Rattle.std.proofs.Math.Bridge.{le_prop}
use Rattle.std.proofs.Math.Logic.{∥∥₁_elim, ∥∥₁_map}
use Rattle.std.proofs.lemmas.Option.{slice_get_within, same_Some}
use Rattle.semantics.specs.Query.{Input, Program}
use Rattle.semantics.specs.Typing.{WellTyped}
use Rattle.semantics.specs.Lower.{lowered}
use Rattle.semantics.proofs.EdgeNumbers.{entered}
use Rattle.graph.specs.GraphLaws.{IsProgramGraph}
use Rattle.semantics.specs.Time.{Time, Action}
use Rattle.semantics.specs.Graph.{Graph, edge_count, edge_source, in_port, target}
use Rattle.semantics.specs.Could.{Location, Pointstamp, IsTimeAt, CouldResultIn}
use Rattle.semantics.specs.Dataflow.{IsDataflow, Goes}
use Rattle.semantics.specs.Summary.{Summary}
use Rattle.semantics.proofs.Cases.{below_or_last, is_true, true_is}
use Rattle.path_summary.specs.Linking.{Link, Links, Draws, no_link, link_in, link_of, home_in}
use Rattle.path_summary.specs.Tables.{IsTable, IsOfPath, home_of, Covers, Stays, Decided}
use Rattle.path_summary.specs.Rows.{entry}
use Rattle.path_summary.specs.Codes.{row_of, Grows}
use Rattle.path_summary.specs.Walks.{HaveLoops, IsGoodRow}
use Rattle.path_summary.specs.Made.{entry_at, IsPacked, ArePacked, IsMade, DecidedIn}
use Rattle.path_summary.proofs.DecidedCould.{decided_could, could_decided}
use Rattle.path_summary.proofs.RowsMade.{link_at, row_closed, row_reached, walk_path}
use Rattle.path_summary.proofs.CodesGrow.{row_grown, codes_grown, entry_row}

row_push : (rows : List (List ℕ)) (row : List ℕ) (v : ℕ) → v < length rows → slice_index_or (rows ++ (row ∷ [])) v [] ≡ slice_index_or rows v []
row_push [] row v h = absurd (omega arith)
row_push (r ∷ rows) row zero h = refl
row_push (r ∷ rows) row (suc v) h = row_push rows row v (omega arith)

row_last : (rows : List (List ℕ)) (row : List ℕ) → slice_index_or (rows ++ (row ∷ [])) (length rows) [] ≡ row
row_last [] row = refl
row_last (r ∷ rows) row = row_last rows row

packed_more : (w : Links) (old new : List Summary) (codes : List ℕ) (v : ℕ) → Grows old new → IsPacked w old codes v → IsPacked w new codes v
packed_more w old new codes v g p =
    record { good = subst (IsGoodRow w v) (sym (row_grown old new codes g p.known)) p.good; known = codes_grown old new codes g p.known }

pub packed_push : (w : Links) (old new : List Summary) (rows : List (List ℕ)) (row : List ℕ) (n : ℕ) → length rows ≡ n → Grows old new → ArePacked w old rows → IsPacked w new row n → ArePacked w new (rows ++ (row ∷ []))
packed_push w old new rows row n e g all p v l = go (below_or_last v (length rows) (omega (arith, length-append rows (row ∷ []))))
  where
    go : (v < length rows) ⊎ (v ≡ length rows) → IsPacked w new (slice_index_or (rows ++ (row ∷ [])) v []) v
    go (inl a) = subst (λ (cs : List ℕ). IsPacked w new cs v) (sym (row_push rows row v a)) (packed_more w old new (slice_index_or rows v []) v g (all v a))
    go (inr a) =
        subst (λ (k : ℕ). IsPacked w new (slice_index_or (rows ++ (row ∷ [])) k []) k) (sym a)
        (subst (λ (cs : List ℕ). IsPacked w new cs (length rows)) (sym (row_last rows row)) (subst (λ (k : ℕ). IsPacked w new row k) (sym e) p))

-- the edges respect the loops
pub links_nested : (g : Graph) (w : Links) → Draws w g → IsDataflow g → HaveLoops w
links_nested g w draws d = record {
  loops = d.loops;
  nested = record {
    homes = λ v l. let k : v < length g = omega (arith, draws.vertices) in d.nested.homes v k ∙ sym (draws.depth v k);
    shallow = λ v l. let k : v < length g = omega (arith, draws.vertices) in omega (arith, draws.depth v k, d.wired.shallow v k);
    goes = λ e k h.
        let n = known e k h in
        let i = entered g e n in
        subst (λ (z : Link). Goes d.loops z.source z.target z.acts) (sym (draws.edge e k h n)) (d.nested.goes (target g e) (in_port g e) i.known i.port);
    into = λ e k h.
        let n = known e k h in
        let i = entered g e n in
        let is : k.target ≡ target g e = ap (λ (z : Link). z.target) (draws.edge e k h n) in
        omega (arith, i.known, draws.vertices);
  };
}
  where
    known : (e : ℕ) (k : Link) → slice_get w.edges e ≡ Some k → e < edge_count g
    known e k h = omega (arith, slice_get_within w.edges e k h, draws.edges)

made_table : (g : Graph) (w : Links) (summaries : List Summary) (rows : List (List ℕ)) → IsMade g w summaries rows → IsTable g (entry_at summaries rows)
made_table g w summaries rows made =
    record {
      sound = λ v x f l h. path v l x f (sym (same v l x) ∙ h);
      self = λ v l.
          let r = row_reached w v (row_of summaries (slice_index_or rows v [])) g made.draws l (path v l) (packed v l).good.self in
          record { least = r.least; known = same v l v ∙ r.known; below = r.below };
      closed = λ v e f l n h.
          let r = row_closed w v (row_of summaries (slice_index_or rows v [])) g made.draws l (path v l) (packed v l).good.closed e f n (sym (same v l _) ∙ h) in
          record { least = r.least; known = same v l _ ∙ r.known; below = r.below };
    }
  where
    packed : (v : ℕ) → v < length g → IsPacked w summaries (slice_index_or rows v []) v
    packed v l = made.packed v (omega (arith, made.long, made.draws.vertices))

    path : (v : ℕ) (l : v < length g) (x : ℕ) (f : Summary) → entry (row_of summaries (slice_index_or rows v [])) x ≡ Some f → IsOfPath g v x f
    path v l x f q =
        let o = (packed v l).good.of_walks x f q in
        walk_path w (∥∥₁_map made.dataflow (links_nested g w made.draws)) v (omega (arith, made.draws.vertices)) g made.draws l o.steps x f o.walk

    same : (v : ℕ) (l : v < length g) (x : ℕ) → entry_at summaries rows v x ≡ entry (row_of summaries (slice_index_or rows v [])) x
    same v l x = sym (entry_row summaries (slice_index_or rows v []) x)

link_is : (w : Links) (g : Graph) → Draws w g → (e : ℕ) → e < edge_count g → link_of w e ≡ link_in g e
link_is w g draws e n = from w.edges e (link_in g e) (link_at w g draws e n)
  where
    from : (xs : List Link) (i : ℕ) (x : Link) → slice_get xs i ≡ Some x → slice_index_or xs i no_link ≡ x
    from [] i x h = absurd (let k = slice_get_within [] i x h in omega arith)
    from (y ∷ xs) zero x h = same_Some y x h
    from (y ∷ xs) (suc i) x h = from xs i x h

home_is : (w : Links) (g : Graph) → Draws w g → (l : Location) (t : Time) → IsTimeAt g l t → home_in w l ≡ home_of g l
home_is w g draws (Location.edge e) t f = ap (λ (k : Link). k.target) (link_is w g draws e f.0)
home_is w g draws (Location.vertex v) t f = refl

decided_same : (g : Graph) (w : Links) (summaries : List Summary) (rows : List (List ℕ)) → Draws w g → (p : Pointstamp) (m : Location) (u : Time) → IsTimeAt g p.location p.time → IsTimeAt g m u → DecidedIn w summaries rows p m u ≡ Decided g (entry_at summaries rows) p m u
decided_same g w summaries rows draws p (Location.vertex x) u f h = ap (λ (n : ℕ). Covers (entry_at summaries rows n x) Action.stay p.time u) (home_is w g draws p.location p.time f)
decided_same g w summaries rows draws p (Location.edge e) u f h =
    ap₂ (λ (n : ℕ) (k : Link). Stays p.location p.time (Location.edge e) u ⊎ Covers (entry_at summaries rows n k.source) k.acts p.time u) (home_is w g draws p.location p.time f) (link_is w g draws e h.0)

-- what the rows decide is what could result
pub decides_could : (g : Graph) (w : Links) (summaries : List Summary) (rows : List (List ℕ)) → IsMade g w summaries rows → (p q : Pointstamp) → IsTimeAt g p.location p.time → IsTimeAt g q.location q.time → (b : Bool) → Decides b (DecidedIn w summaries rows p q.location q.time) → IsTrue b ↔ CouldResultIn g p q
decides_could g w summaries rows made p q f h b d =
    let T = entry_at summaries rows in
    let table = made_table g w summaries rows made in
    let same = decided_same g w summaries rows made.draws p q.location q.time f h in (
      λ e. decided_could g T table p q f h (subst (λ (X : Type 0). X) same (d.0 (true_is b e))),
      λ c. is_true b (∥∥₁_elim made.dataflow (Bool-set b true) (λ flow. d.1 (subst (λ (X : Type 0). X) (sym same) (could_decided g T table flow p q c)))),
    )

-- pointstamps with equal parts are equal
pub same_pointstamp : (p q : Pointstamp) → p.time ≡ q.time → p.location ≡ q.location → p ≡ q
same_pointstamp p q a b = λ i. record { time = a i; location = b i }

-- ---- the graph of a program

pub program_dataflow : (g : Graph) (is : List Input) → IsProgramGraph g is → ((p : Program) (ns : List ℕ) → WellTyped p ns → IsDataflow (lowered p)) → IsDataflow g
program_dataflow g is h law = subst IsDataflow (sym h.3) (law h.0 h.1 h.2)

pub dataflow_known : (g : Graph) (is : List Input) → ∥ IsProgramGraph g is ∥₁ → ((p : Program) (ns : List ℕ) → WellTyped p ns → IsDataflow (lowered p)) → ∥ IsDataflow g ∥₁
dataflow_known g is h law = ∥∥₁_map h (λ w. program_dataflow g is w law)

-- an edge leaves a vertex of the graph
pub source_known : (g : Graph) (is : List Input) → ∥ IsProgramGraph g is ∥₁ → ((p : Program) (ns : List ℕ) → WellTyped p ns → IsDataflow (lowered p)) → (e : ℕ) → e < edge_count g → (edge_source g e).vertex < length g
source_known g is h law e l =
    let k = entered g e l in
    ∥∥₁_elim h (λ a b. le_prop a b) (λ w. (program_dataflow g is w law).wired.fed (target g e) (in_port g e) k.known k.port)
