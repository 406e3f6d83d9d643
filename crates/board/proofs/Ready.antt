-- What is handed out is ready to be computed.
use Rattle.std.proofs.Common.{◌≡◌, ◌<◌, ℕ, length, sym, ap, ◌∙◌, subst, slice_get, slice_index_or, Option, Some, None}
use Rattle.semantics.specs.Graph.{Graph, target, in_port}
use Rattle.semantics.specs.Could.{Pointstamp}
use Rattle.semantics.proofs.EdgeNumbers.{entered}
use Rattle.graph.specs.Shown.{shown_graph}
use Rattle.machine.specs.World.{Message, Request, Event}
use Rattle.machine.specs.InTransit.{IsGoodMessage, IsGoodRequest}
use Rattle.machine.proofs.InTransit as transit
use Rattle.machine.proofs.FieldsOfMessages.{mail_fields}
use Rattle.vertices.specs.Shards.{TakesArity}
use Rattle.vertices.specs.declared.shard.Shard.{Shard}
use Rattle.tokens.specs.declared.rule.Place.{Place}
use Rattle.tokens.specs.declared.rule.Place.TheVariants.{Home}
use Rattle.events.specs.Jobs.{Job, IsReady}
use Rattle.events.specs.Wired.{Wired}
use Rattle.events.proofs.Readiness.{arity_of_fields}
use Rattle.board.specs.Shown.{Shown, net, side_at}
use Rattle.board.specs.Showing.{OnShard, EachShard, ShowsIn, known}
use Rattle.board.specs.Fitting.{FitsVertex, FitsPlace, arity_in}
use Rattle.board.specs.Kept.{IsKept}
use Rattle.board.proofs.Facts.{run_on}
use Rattle.board.proofs.Shards.{at_home}

module _ (graph : Graph) (content : Pointstamp → ℕ) (s : Shown) (kept : IsKept graph content s) (k : ℕ) (there : k < length s.sides) (free : (side_at s k).place ≡ Home) where
  -- the shard of a vertex is at home
  pub shard_home : (v : ℕ) → v < length (shown_graph s.graph) → (x : Shard) × (slice_index_or (side_at s k).shards v None ≡ Some x)
  shard_home v l =
      let P : Place Job → Type 0 = λ p. OnShard (ShowsIn (net s) kept.world k v) (known (slice_index_or (side_at s k).shards v None) p) in
      at_home (ShowsIn (net s) kept.world k v) (slice_index_or (side_at s k).shards v None) (subst P free (kept.shows.absorbed k v there l))

  of_shard : (P : (worker vertex : ℕ) → Shard → Type 0) → EachShard s P → (v : ℕ) (x : Shard) → v < length (shown_graph s.graph) → slice_index_or (side_at s k).shards v None ≡ Some x → P k v x
  of_shard P each v x l e =
      let A : Place Job → Type 0 = λ p. OnShard (P k v) (known (slice_index_or (side_at s k).shards v None) p) in
      let B : Option Shard → Type 0 = λ o. OnShard (P k v) (known o Home) in
      subst B e (subst A free (each k v there l))

  W : Wired
  W = record { graph = s.graph; workers = length s.sides }

  module _ (at : ℕ) (m : Message) (got : slice_get (side_at s k).mail at ≡ Some m) where
    in_mail : slice_get (kept.world.mail k) at ≡ Some m
    in_mail = ap (λ ms. slice_get ms at) (kept.shows.mail k there) ∙ got

    pub good_message : IsGoodMessage (shown_graph s.graph) m
    good_message = transit.messages (shown_graph s.graph) (length s.sides) kept.steps kept.world (run_on graph content s kept) k at m there in_mail

    pub target_there : target (shown_graph s.graph) m.edge < length (shown_graph s.graph)
    target_there = (entered (shown_graph s.graph) m.edge good_message.fits.0).known

    ready_message : (x : Shard) → slice_index_or (side_at s k).shards (target (shown_graph s.graph) m.edge) None ≡ Some x → IsReady (record { wired = record { graph = s.graph; workers = length s.sides }; happening = Event.arrival m; before = x })
    ready_message x e =
        let fits : FitsVertex s.graph (target (shown_graph s.graph) m.edge) x = of_shard (FitsPlace s.graph) kept.fitting (target (shown_graph s.graph) m.edge) x target_there e in
        let shows : ShowsIn (net s) kept.world k (target (shown_graph s.graph) m.edge) x = of_shard (ShowsIn (net s) kept.world) kept.shows.absorbed (target (shown_graph s.graph) m.edge) x target_there e in
        let fields = mail_fields (shown_graph s.graph) (length s.sides) kept.steps kept.world (run_on graph content s kept) (arity_in s.graph) kept.typed kept.fed k at m there in_mail in
        let takes = fits.takes (in_port (shown_graph s.graph) m.edge) (entered (shown_graph s.graph) m.edge good_message.fits.0).port in
        let A : ℕ → Type 0 = λ n. TakesArity x (in_port (shown_graph s.graph) m.edge) n in
        record {
          good = good_message;
          kind = fits.kind;
          takes = subst A (sym (arity_of_fields _ m.records good_message.some fields)) takes;
          whole = (shows.kept, shows.shows);
        }

    pub message_is_ready : (j : Job) → j.wired ≡ (side_at s k).wired → j.happening ≡ Event.arrival m → slice_index_or (side_at s k).shards (target (shown_graph s.graph) m.edge) None ≡ Some j.before → IsReady j
    message_is_ready j wired happening e =
        let w = wired ∙ (kept.sides k there).wired in
        subst IsReady (λ i. record { wired = sym w i; happening = sym happening i; before = j.before }) (ready_message j.before e)

  module _ (at : ℕ) (r : Request) (got : slice_get (side_at s k).requests at ≡ Some r) where
    pub good_request : IsGoodRequest (shown_graph s.graph) r
    good_request = transit.requests (shown_graph s.graph) (length s.sides) kept.steps kept.world (run_on graph content s kept) k at r there (ap (λ ms. slice_get ms at) (kept.shows.requests k there) ∙ got)

    ready_request : (x : Shard) → slice_index_or (side_at s k).shards r.vertex None ≡ Some x → IsReady (record { wired = record { graph = s.graph; workers = length s.sides }; happening = Event.notification r; before = x })
    ready_request x e =
        let fits : FitsVertex s.graph r.vertex x = of_shard (FitsPlace s.graph) kept.fitting r.vertex x good_request.fits.0 e in
        let shows : ShowsIn (net s) kept.world k r.vertex x = of_shard (ShowsIn (net s) kept.world) kept.shows.absorbed r.vertex x good_request.fits.0 e in
        record { good = good_request; kind = fits.kind; takes = tt; whole = (shows.kept, shows.shows) }

    pub request_is_ready : (j : Job) → j.wired ≡ (side_at s k).wired → j.happening ≡ Event.notification r → slice_index_or (side_at s k).shards r.vertex None ≡ Some j.before → IsReady j
    request_is_ready j wired happening e =
        let w = wired ∙ (kept.sides k there).wired in
        subst IsReady (λ i. record { wired = sym w i; happening = sym happening i; before = j.before }) (ready_request j.before e)
