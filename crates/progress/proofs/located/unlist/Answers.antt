use Rattle.progress.proofs.Places.{among_removed}
use Rattle.graph.specs.Locations.{location_of}
use Rattle.progress.proofs.located.unlist.Goals as goal

pub returns-in-Some-clause-still : goal.returns-in-Some-clause-still
returns-in-Some-clause-still c = λ l d a.
    rw c.remove.ensures.items (among_removed c.args.listed.now.items c.in-Some.place (location_of c.args.location) l (rw c.deref.ensures.value at c.in-Some.ensures) (d c.if-not-empty.false) a)
