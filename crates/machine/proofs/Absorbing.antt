-- An event changes what one shard has absorbed, at most.
use Rattle.std.proofs.Common.{◌≡◌, ◌≢◌, ◌⊎◌, ◌∙◌, ℕ, inl, inr, refl, sym, ap}
use Rattle.semantics.specs.Shard.{Absorbed}
use Rattle.machine.specs.Network.{Network}
use Rattle.machine.specs.World.{Message, Event, World}
use Rattle.machine.specs.Processing.{event_vertex, absorbed_then}
use Rattle.machine.specs.Step.{absorbed_after, put}
use Rattle.machine.proofs.Progress.{put_here, put_tells}

-- what was absorbed, with another value at one shard
abbrev pub with_shard : World → (worker vertex : ℕ) → Absorbed → (worker vertex : ℕ) → Absorbed
with_shard w k v a = put w.absorbed k (put (w.absorbed k) v a)

pub shard_there : (w : World) (k v : ℕ) (a : Absorbed) → with_shard w k v a k v ≡ a
shard_there w k v a = ap (λ (f : ℕ → Absorbed). f v) (put_here w.absorbed k (put (w.absorbed k) v a)) ∙ put_here (w.absorbed k) v a

pub shard_elsewhere : (w : World) (k v : ℕ) (a : Absorbed) (k' v' : ℕ) → (k' ≢ k) ⊎ (v' ≢ v) → with_shard w k v a k' v' ≡ w.absorbed k' v'
shard_elsewhere w k v a k' v' ne = go (put_tells w.absorbed k (put (w.absorbed k) v a) k') ne
  where
    within : k' ≡ k → ((v' ≡ v) × (put (w.absorbed k) v a v' ≡ a)) ⊎ ((v' ≢ v) × (put (w.absorbed k) v a v' ≡ w.absorbed k v')) → v' ≢ v → put (w.absorbed k) v a v' ≡ w.absorbed k' v'
    within e (inl x) ne = absurd (ne x.0)
    within e (inr x) ne = x.1 ∙ ap (λ n. w.absorbed n v') (sym e)

    go : ((k' ≡ k) × (put w.absorbed k (put (w.absorbed k) v a) k' ≡ put (w.absorbed k) v a)) ⊎ ((k' ≢ k) × (put w.absorbed k (put (w.absorbed k) v a) k' ≡ w.absorbed k')) → (k' ≢ k) ⊎ (v' ≢ v) → with_shard w k v a k' v' ≡ w.absorbed k' v'
    go (inr x) ne = ap (λ (f : ℕ → Absorbed). f v') x.1
    go (inl x) (inl ne) = absurd (ne x.0)
    go (inl x) (inr ne) = ap (λ (f : ℕ → Absorbed). f v') x.1 ∙ within x.0 (put_tells (w.absorbed k) v a v') ne

put_same : {X : Type 0} (f : ℕ → X) (k j : ℕ) → put f k (f k) j ≡ f j
put_same f k j = go (put_tells f k (f k) j)
  where
    go : ((j ≡ k) × (put f k (f k) j ≡ f k)) ⊎ ((j ≢ k) × (put f k (f k) j ≡ f j)) → put f k (f k) j ≡ f j
    go (inl x) = x.1 ∙ ap f (sym x.0)
    go (inr x) = x.1

-- with the value that the shard has, nothing changes
pub shard_same : (w : World) (k v k' v' : ℕ) → with_shard w k v (w.absorbed k v) k' v' ≡ w.absorbed k' v'
shard_same w k v k' v' =
    ap (λ (f : ℕ → Absorbed). put w.absorbed k f k' v') (λ i u. put_same (w.absorbed k) v u i)
    ∙ ap (λ (f : ℕ → Absorbed). f v') (put_same w.absorbed k k')

-- ---- by an event

-- the shard that takes a message has then absorbed it
pub absorbed_there : (g : Network) (w : World) (k : ℕ) (m : Message) → absorbed_after g w k (Event.arrival m) k (g.target m.edge) ≡ absorbed_then g w k m
absorbed_there g w k m = shard_there w k (g.target m.edge) (absorbed_then g w k m)

-- another worker's shards, and those of other vertices, absorb nothing
pub absorbed_elsewhere : (g : Network) (w : World) (k : ℕ) (event : Event) (k' v' : ℕ) → (k' ≢ k) ⊎ (v' ≢ event_vertex g event)
    → absorbed_after g w k event k' v' ≡ w.absorbed k' v'
absorbed_elsewhere g w k (Event.arrival m) k' v' ne = shard_elsewhere w k (g.target m.edge) (absorbed_then g w k m) k' v' ne
absorbed_elsewhere g w k (Event.notification n) k' v' ne = refl
