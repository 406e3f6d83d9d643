-- What a summary does to counters, one counter at a time.
use Rattle.std.specs.Prelude.{◌≡◌, ℕ, zero, suc, ◌+◌, ◌≤◌, List, [], ◌∷◌, ◌++◌, length}
use Rattle.semantics.specs.Time.{Action, after_action}
use Rattle.semantics.specs.Summary.{Summary}
use Rattle.path_summary.specs.Order.{Later}

-- the last of k kept counters is raised, and the others are not
abbrev pub raised_at : (k add counter : ℕ) → ℕ
raised_at zero j c = c + j
raised_at (suc k) j c = c

-- the first k counters, with the last of them raised
abbrev pub kept : (k add : ℕ) → List ℕ → List ℕ
kept zero j cs = []
kept (suc k) j [] = []
kept (suc k) j (c ∷ cs) = raised_at k j c ∷ kept k j cs

-- the counters after a summary, which is the definition's `applied` if it keeps at most as many as there are
abbrev pub carried : Summary → List ℕ → List ℕ
carried f cs = kept f.keep f.add cs ++ f.tail

-- the counters after an action
abbrev pub counters_after : Action → List ℕ → List ℕ
counters_after a cs = (after_action a (record { epoch = 0; counters = cs })).counters

-- the summary of a path without steps
abbrev pub identity : (depth : ℕ) → Summary
identity d = record { keep = d; add = 0; tail = [] }

-- the summary keeps at most as many counters as there are, and raises nothing if it keeps nothing
pub record Sits (depth : ℕ) (f : Summary) : Type 0 where
  pub short : f.keep ≤ depth
  pub still : f.keep ≡ 0 → f.add ≡ 0

-- f takes all counters of that depth to ones at or before those of h
pub record Below (depth : ℕ) (f h : Summary) : Type 0 where
  pub at : (cs : List ℕ) → length cs ≡ depth → Later (carried f cs) (carried h cs)
