-- What a worker sees as unable to come stays so when a batch is posted.
use Rattle.std.proofs.Common.{◌≡◌, ◌⊎◌, inl, inr, ℕ, suc, ◌+◌, ◌<◌, Bool, arith}
use Rattle.semantics.specs.Graph.{Graph, input_count}
use Rattle.semantics.specs.Could.{Pointstamp, CouldResultIn, NoneOf}
use Rattle.semantics.specs.Dataflow.{IsDataflow}
use Rattle.semantics.proofs.CouldRises.{could_onward}
use Rattle.machine.specs.Posting.{AtInput, MayPost}
use Rattle.machine.specs.Views.{Changes}
use Rattle.views.specs.Waiting.{Waiting, IsSeenBy, after_post}
use Rattle.views.proofs.WaitingCounts.{stays_posted}

-- what is added could come only of what was there
module _ (g : Graph) (flows : IsDataflow g) (workers worker : ℕ) (old new : Pointstamp → ℕ) (waiting waiting' : Waiting) (b : Changes) (sends : b.sender < suc workers)
    (may : MayPost (CouldResultIn g) (input_count g) workers old b) (counts : (q : Pointstamp) → new q + b.removes q ≡ old q + b.adds q)
    (late : Bool) (after : (s : ℕ) → waiting' worker s ≡ after_post late waiting b worker s) (p : Pointstamp) (none : NoneOf (CouldResultIn g) (λ q. 0 < old q) p) where
  was_there : (r : Pointstamp) → (0 < b.removes r) ⊎ ((b.sender ≡ workers) × AtInput (input_count g) r × (0 < old r)) → 0 < old r
  was_there r (inl l) = let t = may.there r in omega (arith, l, t)
  was_there r (inr x) = x.2

  clear : (q : Pointstamp) → 0 < b.adds q → CouldResultIn g q p → ⊥
  clear q added could = let j = may.justified q added in none j.0 (was_there j.0 j.3) (could_onward g flows j.0 q p j.2 could)

  pub posted_stays : NoneOf (CouldResultIn g) (IsSeenBy old waiting workers worker) p → NoneOf (CouldResultIn g) (IsSeenBy new waiting' workers worker) p
  posted_stays = stays_posted (CouldResultIn g) old new waiting waiting' workers worker b sends counts p clear late after
