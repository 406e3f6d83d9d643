-- Among the active times of a location in no later epoch, only one with the least counters need be checked.
use Rattle.std.proofs.Common.{◌≡◌, ℕ, ◌≤◌, ◌<◌, Bool, true, List, [], ◌∷◌, refl, ap, subst, ◌∙◌, arith}
use Rattle.std.proofs.Math.Logic.{∥∥₁_elim}
use Rattle.semantics.specs.Time.{Time, Action, after_action}
use Rattle.semantics.specs.Kinds.{action}
use Rattle.semantics.specs.Graph.{Graph, vertex, edge_source}
use Rattle.semantics.specs.Could.{Location, Pointstamp, IsTimeAt, PathStep, path_time, CouldResultIn}
use Rattle.semantics.specs.Dataflow.{IsDataflow}
use Rattle.semantics.proofs.CouldRises.{at_most_trans, path_keeps, path_epoch}
use Rattle.progress.specs.Times.{NoLater}
use Rattle.progress.specs.TimeCounts.{TimeCounts, count, IsAsked, IsLeast, IsNoneAsked}
use Rattle.progress.specs.Kept.{stamp, IsClearAt, IsBlockedAt}

-- the same counters in another epoch
abbrev moved : ℕ → Time → Time
moved n t = record { epoch = n; counters = t.counters }

after_moved : (a : Action) (n : ℕ) (t : Time) → after_action a (moved n t) ≡ moved n (after_action a t)
after_moved Action.stay n t = refl
after_moved Action.enter n t = refl
after_moved Action.leave n t = refl
after_moved Action.next n t = refl

path_moved : (g : Graph) (path : List PathStep) (n : ℕ) (t : Time) → path_time g path (moved n t) ≡ moved n (path_time g path t)
path_moved g [] n t = refl
path_moved g (PathStep.enters e ∷ path) n t = path_moved g path n t
path_moved g (PathStep.leaves e ∷ path) n t =
    let a = action (vertex g (edge_source g e).vertex).kind in
    ap (path_time g path) (after_moved a n t) ∙ path_moved g path n (after_action a t)

fits_moved : (g : Graph) (l : Location) (n : ℕ) (t : Time) → IsTimeAt g l t → IsTimeAt g l (moved n t)
fits_moved g (Location.edge e) n t f = f
fits_moved g (Location.vertex v) n t f = f

-- t could result in what u could, if its counters are no later and its epoch is in time
earlier_could : (g : Graph) → IsDataflow g → (l : Location) (t u : Time) (q : Pointstamp) → IsTimeAt g l t → NoLater t u → t.epoch ≤ q.time.epoch → CouldResultIn g (stamp l u) q → CouldResultIn g (stamp l t) q
earlier_could g flow l t u q f h n c =
    let k = path_keeps g flow.loops flow.wired flow.nested c.path l q.location (moved u.epoch t) u c.leads (fits_moved g l u.epoch t f) c.starts (record { epochs = omega arith; counters = h }) in
    let a : NoLater (path_time g c.path t) (path_time g c.path u) = subst (λ (x : Time). NoLater x (path_time g c.path u)) (path_moved g c.path u.epoch t) k.counters in
    let b = at_most_trans (moved q.time.epoch (path_time g c.path t)) (moved q.time.epoch (path_time g c.path u)) q.time (record { epochs = omega arith; counters = a }) (record { epochs = omega arith; counters = c.in_time.counters }) in
    record {
      starts = f;
      ends = c.ends;
      path = c.path;
      leads = c.leads;
      in_time = record { epochs = omega (arith, n, path_epoch g c.path t); counters = b.counters };
    }

-- a time in a later epoch could not result
in_time : (g : Graph) (l : Location) (t : Time) (q : Pointstamp) → CouldResultIn g (stamp l t) q → t.epoch ≤ q.time.epoch
in_time g l t q c = let e = path_epoch g c.path t in let k = c.in_time.epochs in omega arith

same_stamp : (l : Location) (t : Time) (p : Pointstamp) → t ≡ p.time → l ≡ p.location → stamp l t ≡ p
same_stamp l t p a b = λ i. record { time = a i; location = b i }

module _ (g : Graph) (bag : TimeCounts) (l : Location) (p : Pointstamp) (other excepting : Bool) (excepts : (excepting ≡ true → (other ≡ true) × (l ≡ p.location)) × ((other ≡ true) × (l ≡ p.location) → excepting ≡ true)) where
  asked : (t : Time) → (other ≡ true → stamp l t ≡ p → ⊥) → CouldResultIn g (stamp l t) p → IsAsked p.time excepting t
  asked t d c = record { epochs = in_time g l t p c; differs = λ e q. let k = excepts.0 e in d k.0 (same_stamp l t p q k.1) }

  pub clear_none : IsNoneAsked bag p.time excepting → IsClearAt g bag l p other
  clear_none none t h d c = none t h (asked t d c)

  pub clear_least : ∥ IsDataflow g ∥₁ → ((t : Time) → 0 < count bag t → IsTimeAt g l t) → (t : Time) → IsLeast bag p.time excepting t → (CouldResultIn g (stamp l t) p → ⊥) → IsClearAt g bag l p other
  clear_least flow fits t least never u h d c =
      ∥∥₁_elim flow (λ a b. absurd a) (λ f. never (earlier_could g f l t u p (fits t least.there) (least.least u h (asked u d c)) least.asked.epochs c))

  pub blocked_least : (t : Time) → IsLeast bag p.time excepting t → CouldResultIn g (stamp l t) p → IsBlockedAt g bag l p other
  blocked_least t least c = record {
    by = t;
    active = least.there;
    could = c;
    differs = λ e q. least.asked.differs (excepts.1 (e, ap (λ (x : Pointstamp). x.location) q)) (ap (λ (x : Pointstamp). x.time) q);
  }
