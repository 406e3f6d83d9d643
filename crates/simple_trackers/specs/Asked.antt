-- What a list of changes and questions does and answers, in terms of what is active.
use Rattle.std.specs.Prelude.{ℕ, ◌+◌, ◌-◌, ◌<◌, Bool, IsTrue, ◌↔◌, List, [], ◌∷◌}
use Rattle.semantics.specs.Graph.{Graph}
use Rattle.semantics.specs.Could.{Pointstamp, IsTimeAt, NoOtherOf}
use Rattle.machine.specs.Active.{one_if_same}
use Rattle.simple_trackers.specs.declared.change.Change.{Change}
use Rattle.simple_trackers.specs.declared.change.Change.TheVariants.{Add, Remove, Ask}

-- one occurrence of p more, or one fewer
abbrev pub one_more : (Pointstamp → ℕ) → Pointstamp → Pointstamp → ℕ
one_more content p q = one_if_same q p + content q

abbrev pub one_less : (Pointstamp → ℕ) → Pointstamp → Pointstamp → ℕ
one_less content p q = content q - one_if_same q p

-- what is active after the changes
abbrev pub content_after : (Pointstamp → ℕ) → List Change → Pointstamp → ℕ
content_after content [] = content
content_after content (Add p ∷ changes) = content_after (one_more content p) changes
content_after content (Remove p ∷ changes) = content_after (one_less content p) changes
content_after content (Ask p ∷ changes) = content_after content changes

-- what is added or asked about is in the graph; what is removed is active at that point
abbrev pub ArePossible : Graph → (Pointstamp → ℕ) → List Change → Type 0
ArePossible g content [] = Unit {0}
ArePossible g content (Add p ∷ changes) = IsTimeAt g p.location p.time × ArePossible g (one_more content p) changes
ArePossible g content (Remove p ∷ changes) = (0 < content p) × ArePossible g (one_less content p) changes
ArePossible g content (Ask p ∷ changes) = IsTimeAt g p.location p.time × ArePossible g content changes

-- an answer for each question: whether no other pointstamp that is active at that point could result in it
abbrev pub AreAnswers : (could : Pointstamp → Pointstamp → Type 0) → (Pointstamp → ℕ) → List Change → List Bool → Type 0
AreAnswers could content [] [] = Unit {0}
AreAnswers could content [] (b ∷ answers) = ⊥
AreAnswers could content (Add p ∷ changes) answers = AreAnswers could (one_more content p) changes answers
AreAnswers could content (Remove p ∷ changes) answers = AreAnswers could (one_less content p) changes answers
AreAnswers could content (Ask p ∷ changes) [] = ⊥
AreAnswers could content (Ask p ∷ changes) (b ∷ answers) = (IsTrue b ↔ NoOtherOf could (λ q. 0 < content q) p) × AreAnswers could content changes answers
