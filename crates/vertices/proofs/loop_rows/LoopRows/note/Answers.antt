use Rattle.std.proofs.Common.{◌∙◌, ℕ, List, [], ◌∷◌, ◌++◌, ap, sym, subst, length, slice_set, arith}
use Rattle.semantics.specs.Multiset.{Record}
use Rattle.vertices.specs.FirstTurns.{AreFirstTurns, is_first_below, with_places}
use Rattle.vertices.proofs.FirstTurns.{note_kept, note_less, note_new, places_more, read_at, was_there}
use Rattle.vertices.proofs.loop_rows.LoopRows.note.Goals as goal

-- ---- a new row

pub returns-in_ok-push-2-clause-first : goal.returns-in_ok-push-2-clause-first
returns-in_ok-push-2-clause-first c =
    let is = c.in_ok-place.ensures in
    let noted = note_new c.args.row.now c.args.turn c.in_ok-place.place c.args.self.now.rows.rows c.place.new.self.rows c.args.self.now.turns.items c.requires.as_many is.rows is.place.0 is.place.1 (omega arith) in
    λ r n. ap (λ (ts : List ℕ). is_first_below c.place.new.self.rows ts r n) c.in_ok-push.ensures.items ∙ noted.first r n

pub returns-in_ok-push-2-clause-places : goal.returns-in_ok-push-2-clause-places
returns-in_ok-push-2-clause-places c =
    let is = c.in_ok-place.ensures in
    let noted = note_new c.args.row.now c.args.turn c.in_ok-place.place c.args.self.now.rows.rows c.place.new.self.rows c.args.self.now.turns.items c.requires.as_many is.rows is.place.0 is.place.1 (omega arith) in
    λ lists h.
    subst (λ (ts : List ℕ). AreFirstTurns c.place.new.self.rows ts (with_places lists c.args.turn c.push-then-place-len.new.self.items)) (sym c.in_ok-push.ensures.items)
    (subst (λ (f : ℕ → List ℕ). AreFirstTurns c.place.new.self.rows (c.args.self.now.turns.items ++ (c.args.turn ∷ [])) f)
    (places_more lists c.args.turn c.in_ok-place.place c.args.places.now.items ∙ ap (with_places lists c.args.turn) (sym c.in_ok-push-2.ensures.items))
    (noted.lists (with_places lists c.args.turn c.args.places.now.items) h))

-- ---- a lesser turn

pub returns-in_ok-push-3-clause-as_many : goal.returns-in_ok-push-3-clause-as_many
returns-in_ok-push-3-clause-as_many c =
    let is = c.in_ok-place.ensures in
    let there = was_there c.args.row.now c.args.turn c.in_ok-place.place c.args.self.now.rows.rows c.place.new.self.rows c.args.self.now.turns.items c.requires.as_many is.rows is.place.0 is.place.1 (λ e. omega (arith, e)) in
    let read = read_at c.args.self.now.turns.items c.in_ok-place.place c.index.result.now (omega (arith, there.0, c.requires.as_many)) c.index.ensures in
    (note_less c.args.row.now c.args.turn c.in_ok-place.place c.args.self.now.rows.rows c.place.new.self.rows c.args.self.now.turns.items c.requires.as_many is.rows is.place.0 is.place.1 c.len-rows.ensures.different (λ e. omega (arith, e)) (omega (arith, read))).as_many

pub returns-in_ok-push-3-clause-first : goal.returns-in_ok-push-3-clause-first
returns-in_ok-push-3-clause-first c =
    let is = c.in_ok-place.ensures in
    let there = was_there c.args.row.now c.args.turn c.in_ok-place.place c.args.self.now.rows.rows c.place.new.self.rows c.args.self.now.turns.items c.requires.as_many is.rows is.place.0 is.place.1 (λ e. omega (arith, e)) in
    let read = read_at c.args.self.now.turns.items c.in_ok-place.place c.index.result.now (omega (arith, there.0, c.requires.as_many)) c.index.ensures in
    (note_less c.args.row.now c.args.turn c.in_ok-place.place c.args.self.now.rows.rows c.place.new.self.rows c.args.self.now.turns.items c.requires.as_many is.rows is.place.0 is.place.1 c.len-rows.ensures.different (λ e. omega (arith, e)) (omega (arith, read))).first

pub returns-in_ok-push-3-clause-places : goal.returns-in_ok-push-3-clause-places
returns-in_ok-push-3-clause-places c =
    let is = c.in_ok-place.ensures in
    let there = was_there c.args.row.now c.args.turn c.in_ok-place.place c.args.self.now.rows.rows c.place.new.self.rows c.args.self.now.turns.items c.requires.as_many is.rows is.place.0 is.place.1 (λ e. omega (arith, e)) in
    let read = read_at c.args.self.now.turns.items c.in_ok-place.place c.index.result.now (omega (arith, there.0, c.requires.as_many)) c.index.ensures in
    let noted = note_less c.args.row.now c.args.turn c.in_ok-place.place c.args.self.now.rows.rows c.place.new.self.rows c.args.self.now.turns.items c.requires.as_many is.rows is.place.0 is.place.1 c.len-rows.ensures.different (λ e. omega (arith, e)) (omega (arith, read)) in
    λ lists h.
    subst (λ (f : ℕ → List ℕ). AreFirstTurns c.place.new.self.rows (slice_set c.args.self.now.turns.items c.in_ok-place.place c.args.turn) f)
    (places_more lists c.args.turn c.in_ok-place.place c.args.places.now.items ∙ ap (with_places lists c.args.turn) (sym c.in_ok-push-3.ensures.items))
    (noted.lists (with_places lists c.args.turn c.args.places.now.items) h)

-- ---- a turn that isn't less

pub returns-else-turn-index-clause-as_many : goal.returns-else-turn-index-clause-as_many
returns-else-turn-index-clause-as_many c =
    let is = c.in_ok-place.ensures in
    let there = was_there c.args.row.now c.args.turn c.in_ok-place.place c.args.self.now.rows.rows c.place.new.self.rows c.args.self.now.turns.items c.requires.as_many is.rows is.place.0 is.place.1 (λ e. omega (arith, e)) in
    c.requires.as_many ∙ ap length (sym there.1)

pub returns-else-turn-index-clause-first : goal.returns-else-turn-index-clause-first
returns-else-turn-index-clause-first c =
    let is = c.in_ok-place.ensures in
    let there = was_there c.args.row.now c.args.turn c.in_ok-place.place c.args.self.now.rows.rows c.place.new.self.rows c.args.self.now.turns.items c.requires.as_many is.rows is.place.0 is.place.1 (λ e. omega (arith, e)) in
    let read = read_at c.args.self.now.turns.items c.in_ok-place.place c.index.result.now (omega (arith, there.0, c.requires.as_many)) c.index.ensures in
    note_kept c.args.row.now c.args.turn c.in_ok-place.place c.args.self.now.rows.rows c.place.new.self.rows c.args.self.now.turns.items c.requires.as_many is.rows is.place.0 is.place.1 (λ e. omega (arith, e)) (omega (arith, read))

pub returns-else-turn-index-clause-places : goal.returns-else-turn-index-clause-places
returns-else-turn-index-clause-places c =
    let is = c.in_ok-place.ensures in
    let there = was_there c.args.row.now c.args.turn c.in_ok-place.place c.args.self.now.rows.rows c.place.new.self.rows c.args.self.now.turns.items c.requires.as_many is.rows is.place.0 is.place.1 (λ e. omega (arith, e)) in
    λ lists h. subst (λ (rs : List Record). AreFirstTurns rs c.args.self.now.turns.items (with_places lists c.args.turn c.args.places.now.items)) (sym there.1) h
