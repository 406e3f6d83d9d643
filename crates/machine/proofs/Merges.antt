-- Two messages of a mailbox, merged.
use Rattle.std.proofs.Common.{◌≡◌, ◌<◌, ℕ, zero, suc, ◌+◌, Bool, true, false, cond, ◌==◌, List, [], ◌∷◌, ◌++◌, drop, ◌⊎◌, inl, inr, sym, ap, ◌∙◌, subst, ap₂, arith, slice_get, remove, Some}
use Rattle.semantics.specs.Multiset.{total, Record, count}
use Rattle.semantics.specs.Time.{Time, same_time}
use Rattle.semantics.specs.Kinds.{Role}
use Rattle.machine.specs.Network.{Network}
use Rattle.machine.specs.World.{Message}
use Rattle.machine.specs.Step.{merged}
use Rattle.machine.proofs.Counting.{count-append, count_either, total-remove}
use Rattle.machine.proofs.Kept.{each, carried, GoodMessage}
use Rattle.machine.proofs.Ports.{some_append}
use Rattle.machine.proofs.Sending.{each-remove, slice_get-remove}

-- the mailbox after a merge
abbrev pub mail_merged : List Message → ℕ → (first second : Message) → List Message
mail_merged ms at m n = merged m n ∷ remove (drop 1 ms) at

pub total_merged : (f : Message → ℕ) (ms : List Message) (at : ℕ) (m n : Message) → slice_get ms 0 ≡ Some m → slice_get ms (suc at) ≡ Some n → total f (mail_merged ms at m n) + f m + f n ≡ total f ms + f (merged m n)
total_merged f [] at m n a b = absurd cc
total_merged f (x ∷ ms) at m n a b = let s : f x ≡ f m = cc in let r = total-remove f ms at n b in omega arith

pub each_merged : (P : Message → Type 0) (ms : List Message) (at : ℕ) (m n : Message) → each P ms → P (merged m n) → each P (mail_merged ms at m n)
each_merged P [] at m n a p = (p, each-remove P [] at tt)
each_merged P (x ∷ ms) at m n a p = (p, each-remove P ms at a.1)

-- a message of the mailbox after a merge was there before, or is the merged one
pub merged_from : (ms : List Message) (at : ℕ) (m n : Message) (i : ℕ) (x : Message) → slice_get (mail_merged ms at m n) i ≡ Some x → (merged m n ≡ x) ⊎ ((to : ℕ) × (slice_get ms to ≡ Some x))
merged_from ms at m n zero x e = inl cc
merged_from [] at m n (suc i) x e = let r = slice_get-remove [] at i x e in absurd (nothing r.0 r.1)
  where
    nothing : (to : ℕ) → (let none : List Message = [] in slice_get none to) ≡ Some x → ⊥
    nothing to e = cc
merged_from (y ∷ ms) at m n (suc i) x e = let r = slice_get-remove ms at i x e in inr (suc r.0, r.1)

-- the merged message carries what both carry
pub carried_merged : (e : ℕ) (t : Time) (r : Record) (m n : Message) → n.edge ≡ m.edge → n.time ≡ m.time → carried e t r (merged m n) ≡ carried e t r m + carried e t r n
carried_merged e t r m n a b = go (m.edge == e) (same_time m.time t) ∙ ap₂ (λ x u. carried e t r m + cond (x == e) (cond (same_time u t) (count r n.records) 0) 0) (sym a) (sym b)
  where
    go : (x y : Bool) → cond x (cond y (count r (m.records ++ n.records)) 0) 0 ≡ cond x (cond y (count r m.records) 0) 0 + cond x (cond y (count r n.records) 0) 0
    go true true = count-append r m.records n.records
    go true false = omega arith
    go false y = omega arith

pub good_merged : (g : Network) (k : ℕ) (m n : Message) → n.edge ≡ m.edge → GoodMessage g k m → GoodMessage g k n → GoodMessage g k (merged m n)
good_merged g k m n a x y = (x.0, (let s = some_append m.records n.records y.1 in omega arith), λ s r l. home s r (count_either r m.records n.records l), x.3)
  where
    home : (g.role (g.target m.edge) ≡ Role.stateful) ⊎ (g.role (g.target m.edge) ≡ Role.notified) → (r : Record) → (0 < count r m.records) ⊎ (0 < count r n.records) → (sender : ℕ) → g.home sender m.edge r ≡ k
    home s r (inl l) sender = x.2 s r l sender
    home s r (inr l) sender =
        ap (λ e. g.home sender e r) (sym a) ∙ y.2 (subst (λ (e : ℕ). (g.role (g.target e) ≡ Role.stateful) ⊎ (g.role (g.target e) ≡ Role.notified)) (sym a) s) r l sender
