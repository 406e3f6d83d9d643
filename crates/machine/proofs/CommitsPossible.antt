-- A held event can always be committed.
use Rattle.std.proofs.Common.{◌≡◌, ◌≢◌, ◌<◌, ℕ, List, [], false, refl, sym, ◌∙◌, arith, cond, ◌==◌}
use Rattle.semantics.specs.Multiset.{Record, less, IsPartOf, one_if, same}
use Rattle.semantics.specs.Time.{Time, same_time}
use Rattle.semantics.specs.Kinds.{Role}
use Rattle.semantics.specs.Shard.{Absorbed, absorbed_by, only_at}
use Rattle.machine.specs.Network.{Network}
use Rattle.machine.specs.World.{World, Message, Event, Held}
use Rattle.machine.specs.Processing.{absorbed_then, Makes, MakesBy}
use Rattle.machine.specs.Step.{Step, Allowed}
use Rattle.semantics.proofs.MultisetSums.{less-append, ≈-refl, total-append}
use Rattle.machine.proofs.Kept.{GoodEvent}
use Rattle.machine.proofs.Laws.{IsNetwork}

-- what is absorbed stays
grows : (r : Role) (a : Absorbed) (p : ℕ) (t : Time) (records : List Record) (p' : ℕ) (t' : Time) → IsPartOf (a p' t') (absorbed_by r a p t records p' t')
grows Role.input a p t records p' t' = record { within = λ r. omega arith }
grows Role.stateless a p t records p' t' = record { within = λ r. omega arith }
grows Role.output a p t records p' t' = record { within = λ r. omega arith }
grows Role.stateful a p t records p' t' = record { within = λ r. let a = total-append (λ x. one_if (same x r)) (a p' t') (cond (p == p') (cond (same_time t t') records []) []) in omega arith }
grows Role.notified a p t records p' t' = record { within = λ r. let a = total-append (λ x. one_if (same x r)) (a p' t') (cond (p == p') (cond (same_time t t') records []) []) in omega arith }

module _ (g : Network) (law : IsNetwork g) (w : World) (k : ℕ) where
  makes_message : (m : Message) → m.edge < g.edges → (out : ℕ → List Record) × Makes g w k (Event.arrival m) out
  makes_message m l = go (g.role (g.target m.edge)) refl
    where
      before : ℕ → List Record
      before p = w.absorbed k (g.target m.edge) p m.time

      now : ℕ → List Record
      now p = absorbed_then g w k m p m.time

      before_op : ℕ → List Record
      before_op q = g.op (g.target m.edge) q m.time before

      after_op : ℕ → List Record
      after_op q = g.op (g.target m.edge) q m.time now

      part : (p : ℕ) → p < g.ports (g.target m.edge) → IsPartOf (before p) (now p)
      part p l = grows (g.role (g.target m.edge)) (w.absorbed k (g.target m.edge)) (g.in_port m.edge) m.time m.records p m.time

      go : (r : Role) → g.role (g.target m.edge) ≡ r → (out : ℕ → List Record) × MakesBy r g w k m out
      go Role.input e = absurd (law.no_input_target m.edge l e)
      go Role.stateless e = ((λ q. g.op (g.target m.edge) q m.time (only_at (g.in_port m.edge) m.records)), λ q. ≈-refl (g.op (g.target m.edge) q m.time (only_at (g.in_port m.edge) m.records)))
      go Role.stateful e = ((λ q. less (after_op q) (before_op q)), λ q. less-append (after_op q) (before_op q) (law.op_more (g.target m.edge) q m.time before now not_notified part))
        where
          not_notified : g.role (g.target m.edge) ≢ Role.notified
          not_notified x = let z : Role.stateful ≡ Role.notified = sym e ∙ x in cc
      go Role.notified e = ((λ q. []), λ q. refl)
      go Role.output e = ((λ q. []), λ q. refl)

  makes : (event : Event) → GoodEvent g k event → (out : ℕ → List Record) × Makes g w k event out
  makes (Event.arrival m) good = makes_message m good.0
  makes (Event.notification n) good = ((λ q. g.op n.vertex q n.time (g.reads n.vertex (w.absorbed k n.vertex) n.time)), λ q. ≈-refl (g.op n.vertex q n.time (g.reads n.vertex (w.absorbed k n.vertex) n.time)))

  pub can_commit : (event : Event) → GoodEvent g k event → k < g.workers → w.held k ≡ Held.holding false event → (out : ℕ → List Record) × Allowed g w (Step.commit k event out)
  can_commit event good l there = let m = makes event good in (m.0, (l, there, m.1))
