-- The names that a relation takes from outside, in the order of the text.
use Rattle.std.specs.Prelude.{Bool, true, false, not, cond, List, [], ◌∷◌, ◌++◌, filter}
use Rattle.std.specs.List.{list_any}
use Rattle.semantics.specs.Meaning.{same_name}
use Rattle.semantics.specs.Query.{Name, Loop, Rel, Output}

-- y is a different name from x
abbrev pub other_than : Name → Name → Bool
other_than x y = not (same_name x y)

-- the names that occur free, in order, with repeats; a loop's variable is bound only in its body
abbrev pub free : Rel → List Name
free (Rel.named x) = x ∷ []
free (Rel.select r ss) = free r
free (Rel.filter r c) = free r
free (Rel.concat p q) = free p ++ free q
free (Rel.join p q ps) = free p ++ free q
free (Rel.group r ks as') = free r
free (Rel.distinct r) = free r
free (Rel.except p q) = free p ++ free q
free (Rel.intersect p q) = free p ++ free q
free (Rel.loop l n x r b) = free r ++ filter (other_than x) (free b)

-- the same for all outputs, in order
abbrev pub free_in_outputs : List Output → List Name
free_in_outputs [] = []
free_in_outputs (o ∷ os) = free o.value ++ free_in_outputs os

-- each name once, at its first occurrence
abbrev pub firsts : List Name → List Name
firsts [] = []
firsts (x ∷ xs) = x ∷ filter (other_than x) (firsts xs)

-- the names that a loop's body takes from outside; x is the loop's variable
abbrev pub carried : (x : Name) → (body : Rel) → List Name
carried x b = firsts (filter (other_than x) (free b))

-- ---- names that are only looked up

-- the right side of a join: a name there, and nothing else, can be looked up
abbrev pub looked_up : Rel → Bool
looked_up (Rel.named x) = true
looked_up (Rel.select r ss) = false
looked_up (Rel.filter r c) = false
looked_up (Rel.concat p q) = false
looked_up (Rel.join p q ps) = false
looked_up (Rel.group r ks as') = false
looked_up (Rel.distinct r) = false
looked_up (Rel.except p q) = false
looked_up (Rel.intersect p q) = false
looked_up (Rel.loop l n x r b) = false

-- the free names whose records are needed at each time: all but those that are only looked up
abbrev pub needed : Rel → List Name
needed (Rel.named x) = x ∷ []
needed (Rel.select r ss) = needed r
needed (Rel.filter r c) = needed r
needed (Rel.concat p q) = needed p ++ needed q
needed (Rel.join p q ps) = needed p ++ cond (looked_up q) [] (needed q)
needed (Rel.group r ks as') = needed r
needed (Rel.distinct r) = needed r
needed (Rel.except p q) = needed p ++ needed q
needed (Rel.intersect p q) = needed p ++ needed q
needed (Rel.loop l n x r b) = needed r ++ filter (other_than x) (free b)

-- the name is among them
abbrev pub has : Name → List Name → Bool
has y xs = list_any (λ x. same_name x y) xs

-- the names that a loop's body takes from outside and that come in once, since the body only looks them up; an iterate has all come at each turn
abbrev pub once_names : Loop → (x : Name) → (body : Rel) → List Name
once_names Loop.iterate x b = []
once_names Loop.closure x b = filter (λ y. not (has y (needed b))) (carried x b)
