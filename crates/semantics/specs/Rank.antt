-- The rank of a pointstamp, which rises along each step of a path and at a seal. So no two pointstamps could result in each other, and equations that
-- depend only on lower ranks have one solution.
use Rattle.std.specs.Prelude.{ℕ, ◌+◌, ◌*◌, List, [], ◌∷◌}
use Rattle.semantics.specs.Graph.{Graph, target}
use Rattle.semantics.specs.Could.{Location, Pointstamp}

-- An edge that enters v has the position 2v, v has 2v + 1, and a loop seen from outside has the position of its egress, since all vertices of a loop
-- come before it.
abbrev pub position : Graph → Location → ℕ
position g (Location.edge e) = 2 * target g e
position g (Location.vertex v) = 2 * v + 1

-- the loops around a position and their counters, in alternation, outermost first, then the position; a loop is given by its egress
abbrev pub woven : (egresses counters : List ℕ) → (position : ℕ) → List ℕ
woven (e ∷ es) (c ∷ cs) p = (2 * e + 1) ∷ c ∷ woven es cs p
woven [] cs p = p ∷ []
woven (e ∷ es) [] p = p ∷ []

-- the vertex whose loops are around a location: for an edge, the vertex that it enters
abbrev pub standing_at : Graph → Location → ℕ
standing_at g (Location.edge e) = target g e
standing_at g (Location.vertex v) = v

-- the epoch, then the loops with their counters, then the position; `loops v` are the egresses of the loops around v, outermost first; ranks are
-- compared lexicographically
abbrev pub rank : Graph → (loops : ℕ → List ℕ) → Pointstamp → List ℕ
rank g loops p = p.time.epoch ∷ woven (loops (standing_at g p.location)) p.time.counters (position g p.location)
