-- Messages of a mailbox that are merged.
use Rattle.std.specs.Prelude.{◌≡◌, ℕ, suc, List, ◌∷◌, drop, remove, slice_get, Some}
use Rattle.semantics.specs.Could.{Pointstamp}
use Rattle.machine.specs.Active.{message_pointstamp}
use Rattle.machine.specs.Step.{merged}
use Rattle.machine.specs.World.{Message}
use Rattle.events.specs.Merging.{MayMerge}

-- the number of places behind the first message that are searched
abbrev pub window : ℕ
window = 16

-- the message at this place behind the first may be merged into it
pub record AreAlike (mail : List Message) (at : ℕ) : Type 0 where
  pub first : Message
  pub second : Message
  pub got : slice_get mail 0 ≡ Some first
  pub other : slice_get mail (suc at) ≡ Some second
  pub may : MayMerge first second

-- they are merged; `place` is the pointstamp of the second
pub record AreMerged (old new : List Message) (at : ℕ) (place : Pointstamp) : Type 0 where
  pub alike : AreAlike old at
  pub place_is : place ≡ message_pointstamp alike.second
  pub mail : new ≡ merged alike.first alike.second ∷ remove (drop 1 old) at
