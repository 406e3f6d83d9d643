-- A batch that is cut into messages before it is fed.
use Rattle.std.specs.Prelude.{◌≡◌, ◌<◌, ℕ, List, [], length}
use Rattle.semantics.specs.Graph.{vertex}
use Rattle.semantics.specs.Kinds.{Kind}
use Rattle.semantics.specs.Multiset.{Record}
use Rattle.semantics.specs.Time.{Time, at_epoch}
use Rattle.events.specs.Letters.{letters_from}
use Rattle.events.specs.Wired.{Wired, graph_in}
use Rattle.events.specs.declared.letter.Letter.{Letter}

-- a batch for an input, to be fed at an epoch
pub record Cut : Type 0 where
  pub wired : Wired
  pub input : ℕ
  pub epoch : ℕ
  pub batch : List Record

-- its messages
abbrev pub cut_letters : Cut → List Letter
cut_letters c = letters_from c.wired 0 c.input (at_epoch c.epoch) c.batch []

-- the letter at another time
abbrev pub at_time : Time → Letter → Letter
at_time t l = record l { message = record l.message { time = t } }

-- the letters are those of the batch, and the graph has that input
pub record IsCut (c : Cut) (ls : List Letter) : Type 0 where
  pub there : c.input < length (graph_in c.wired)
  pub kind : (vertex (graph_in c.wired) c.input).kind ≡ Kind.input
  pub letters : ls ≡ cut_letters c
