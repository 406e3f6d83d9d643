-- Where the counts of an event are too large; and records in another order have the same counts.
use Rattle.std.proofs.Common.{◌≡◌, ℕ, List, [], ◌++◌, ◌⊎◌, inl, inr, refl, sym, ap, subst, arith}
use Rattle.semantics.specs.Graph.{Graph, in_port}
use Rattle.semantics.specs.Kinds.{Kind, Role, out_ports, role}
use Rattle.semantics.specs.Multiset.{Record, ◌≈◌, count}
use Rattle.semantics.specs.Shard.{Absorbed, SendsBy}
use Rattle.semantics.specs.Time.{Time}
use Rattle.semantics.proofs.MultisetSums.{≈-from, ≈-sym, ≈-trans}
use Rattle.machine.specs.World.{Event, Message}
use Rattle.machine.proofs.Counting.{count-append}
use Rattle.rows.specs.Counts.{AllFit, IsOver}
use Rattle.vertices.specs.Kept.{kept_by}
use Rattle.vertices.specs.Outs.{SendsFor, SendsForNotification, WouldNotifyOver, WouldSendOver, sent}
use Rattle.vertices.specs.Shards.{shard_kind}
use Rattle.vertices.specs.declared.out.Out.{Out}
use Rattle.vertices.specs.declared.shard.Shard.{Shard}
use Rattle.vertices.proofs.SameAbsorbed.{Sends_same, kept_over_same, over_same, would_send_over_same}
use Rattle.events.specs.TooMany.{IsOverAt}
use Rattle.events.specs.Wired.{Wired, graph_in}

-- a message that was taken apart still has its own records
pub message_at : (m : Message) (edge : ℕ) (time : Time) → edge ≡ m.edge → time ≡ m.time → record { edge = edge; time = time; records = m.records } ≡ m
message_at m edge time e t = λ i. record { edge = e i; time = t i; records = m.records }

-- records that fit have no count over the limit
fits_not_over : (xs : List Record) → AllFit xs → IsOver xs → ⊥
fits_not_over xs fits (r, over) = let le = fits r in omega (arith, le, over)

nothing_over : (xs : List Record) → xs ≡ [] → IsOver xs → ⊥
nothing_over xs e (r, over) = let n = ap (count r) e in omega (arith, n, over)

-- ---- what is sent is one multiset

gained_once : (first second before now : List Record) → (first ++ before) ≈ now → (second ++ before) ≈ now → first ≈ second
gained_once first second before now f s = record {
  counts = λ r.
      let c = count-append r first before in
      let d = count-append r second before in
      let x = f.counts r in
      let y = s.counts r in
      omega (arith, c, d, x, y);
}

one_send : (role : Role) (op : (out : ℕ) → (ins : ℕ → List Record) → List Record) (before now : ℕ → List Record) (port : ℕ) (records : List Record) (first second : ℕ → List Record)
    → SendsBy role op before now port records first → SendsBy role op before now port records second → (q : ℕ) → first q ≈ second q
one_send Role.input op before now port records first second f s q = absurd f
one_send Role.stateless op before now port records first second f s q = ≈-trans (f q) (≈-sym (s q))
one_send Role.stateful op before now port records first second f s q = gained_once (first q) (second q) (op q before) (op q now) (f q) (s q)
one_send Role.notified op before now port records first second f s q = ≈-trans (≈-from (f q)) (≈-sym (≈-from (s q)))
one_send Role.output op before now port records first second f s q = ≈-trans (≈-from (f q)) (≈-sym (≈-from (s q)))

-- ---- a message that a shard takes

module _ (g : Graph) (m : Message) (shard : Shard) (batch : List Record) (e : batch ≈ m.records) (a : Absorbed) where
  -- if the shard takes it, no count is too large
  pub taken_fits : (o : Out) → AllFit (kept_by (role (shard_kind shard)) a (in_port g m.edge) m.time batch) → ((q : ℕ) → AllFit (sent (out_ports (shard_kind shard)) o q))
      → SendsFor (shard_kind shard) m.time a (in_port g m.edge) batch o → IsOverAt g shard (Event.arrival m) a → ⊥
  taken_fits o fits sent_fits sends (inl over) = fits_not_over _ fits (kept_over_same (role (shard_kind shard)) a (in_port g m.edge) m.time m.records batch (≈-sym e) over)
  taken_fits o fits sent_fits sends (inr (would, said, q, over)) =
      fits_not_over _ (sent_fits q)
      (over_same _ _ (one_send (role (shard_kind shard)) _ _ _ (in_port g m.edge) m.records would (sent (out_ports (shard_kind shard)) o) said
      (Sends_same (shard_kind shard) m.time a (in_port g m.edge) batch m.records (sent (out_ports (shard_kind shard)) o) e sends) q) over)

  -- if a count is too large for the shard, the event's count is
  pub taken_over : IsOver (kept_by (role (shard_kind shard)) a (in_port g m.edge) m.time batch) ⊎ WouldSendOver (shard_kind shard) m.time a (in_port g m.edge) batch → IsOverAt g shard (Event.arrival m) a
  taken_over (inl over) = inl (kept_over_same (role (shard_kind shard)) a (in_port g m.edge) m.time batch m.records e over)
  taken_over (inr over) = inr (would_send_over_same (shard_kind shard) m.time a (in_port g m.edge) batch m.records e over)

-- what a shard sends at a notification fits, if it sends it
pub notified_fits : (shard : Shard) (t : Time) (a : Absorbed) (o : Out) → ((q : ℕ) → AllFit (sent (out_ports (shard_kind shard)) o q)) → SendsForNotification (shard_kind shard) t a o → WouldNotifyOver (shard_kind shard) t a → ⊥
notified_fits shard t a o fits sends (would, said, q, over) = fits_not_over _ (fits q) (over_same (would q) (sent (out_ports (shard_kind shard)) o q) (≈-trans (said q) (≈-sym (sends q))) over)

-- an output absorbs nothing and sends nothing
pub output_fits : (g : Graph) (m : Message) (shard : Shard) (a : Absorbed) → shard_kind shard ≡ Kind.output → IsOverAt g shard (Event.arrival m) a → ⊥
output_fits g m shard a is h = none (subst (λ (x : Kind). IsOver (kept_by (role x) a (in_port g m.edge) m.time m.records) ⊎ WouldSendOver x m.time a (in_port g m.edge) m.records) is h)
  where
    none : IsOver [] ⊎ WouldSendOver Kind.output m.time a (in_port g m.edge) m.records → ⊥
    none (inl over) = nothing_over [] refl over
    none (inr (would, said, q, over)) = nothing_over (would q) (said q) over

-- ---- the same for equal values

module _ (w w' : Wired) (m m' : Message) (shard shard' : Shard) (e : w' ≡ w) (x : Event.arrival m' ≡ Event.arrival m) (same : shard' ≡ shard) (a : Absorbed) where
  pub over_as : IsOverAt (graph_in w) shard (Event.arrival m) a → IsOverAt (graph_in w') shard' (Event.arrival m') a
  over_as over =
      subst (λ (v : Wired). IsOverAt (graph_in v) shard' (Event.arrival m') a) (sym e)
      (subst (λ (s : Shard). IsOverAt (graph_in w) s (Event.arrival m') a) (sym same) (subst (λ (y : Event). IsOverAt (graph_in w) shard y a) (sym x) over))

  pub over_by : IsOverAt (graph_in w') shard' (Event.arrival m') a → IsOverAt (graph_in w) shard (Event.arrival m) a
  over_by over =
      subst (λ (y : Event). IsOverAt (graph_in w) shard y a) x
      (subst (λ (s : Shard). IsOverAt (graph_in w) s (Event.arrival m') a) same (subst (λ (v : Wired). IsOverAt (graph_in v) shard' (Event.arrival m') a) e over))
