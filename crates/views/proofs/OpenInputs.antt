-- Each input may be active at epoch 0.
use Rattle.std.proofs.Common.{◌≡◌, inl, ◌<◌, ◌≤◌, ◌+◌, ℕ, zero, suc, List, [], ◌∷◌, ◌++◌, refl, sym, subst, arith, add-one}
use Rattle.semantics.specs.Graph.{Graph, input_count}
use Rattle.semantics.specs.Could.{Location, Pointstamp, IsTimeAt, at_vertex}
use Rattle.semantics.specs.Time.{at_epoch}
use Rattle.semantics.specs.Dataflow.{IsDataflow}
use Rattle.semantics.proofs.InputNumbers.{input_is_there}
use Rattle.machine.specs.Active.{one_if_same, sum_below}
use Rattle.machine.proofs.Active.{one_is}
use Rattle.progress.specs.Content.{times_in}
use Rattle.progress.proofs.Contents.{times-push}

pub input_opens : (g : Graph) → IsDataflow g → (i : ℕ) → i < input_count g → IsTimeAt g (Location.vertex i) (at_epoch 0)
input_opens g flows i l =
    let there = input_is_there g i l in
    (there.0, sym (flows.shaped.flat i there.0 (inl there.1)))

-- the first n inputs
abbrev pub AreOpened : List Pointstamp → ℕ → Type 0
AreOpened ps n = (q : Pointstamp) → times_in ps q ≡ sum_below n (λ i. one_if_same q (at_vertex i (at_epoch 0)))

pub opened_more : (ps : List Pointstamp) (n : ℕ) → AreOpened ps n → AreOpened (ps ++ (at_vertex n (at_epoch 0) ∷ [])) (n + 1)
opened_more ps n h q = rw (add-one n) (let t = times-push q ps (at_vertex n (at_epoch 0)) in let e = h q in omega arith)

some_below : (n : ℕ) (q : Pointstamp) → 0 < sum_below n (λ i. one_if_same q (at_vertex i (at_epoch 0))) → (i : ℕ) × (i < n) × (q ≡ at_vertex i (at_epoch 0))
some_below zero q l = absurd (omega arith)
some_below (suc n) q l = go (one_if_same q (at_vertex n (at_epoch 0))) refl (some_below n q)
  where
    go : (k : ℕ) → one_if_same q (at_vertex n (at_epoch 0)) ≡ k → (0 < sum_below n (λ i. one_if_same q (at_vertex i (at_epoch 0))) → (i : ℕ) × (i < n) × (q ≡ at_vertex i (at_epoch 0))) → (i : ℕ) × (i < suc n) × (q ≡ at_vertex i (at_epoch 0))
    go zero e before = let r = before (omega arith) in (r.0, (let b = r.1 in omega arith), r.2)
    go (suc k) e before = (n, omega arith, one_is q (at_vertex n (at_epoch 0)) (omega arith))

pub opened_known : (g : Graph) → IsDataflow g → (ps : List Pointstamp) (n : ℕ) → n ≤ input_count g → AreOpened ps n → (q : Pointstamp) → 0 < times_in ps q → IsTimeAt g q.location q.time
opened_known g flows ps n l h q t =
    let r = some_below n q (subst (λ (k : ℕ). 0 < k) (h q) t) in
    subst (λ (p : Pointstamp). IsTimeAt g p.location p.time) (sym r.2) (input_opens g flows r.0 (let b = r.1 in omega arith))
