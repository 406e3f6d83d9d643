use Rattle.std.proofs.Common.{◌≡◌, take}
use Rattle.exchange.proofs.cuts.Cut.share.Given as goal

abbrev pub invariant-loop-parcel : goal.invariant-loop-parcel
invariant-loop-parcel l = l.parcels.items ≡ take l.parcel-index l.self.parcels.items
