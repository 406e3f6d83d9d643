-- What following an input does.
use Rattle.std.specs.Prelude.{◌≡◌, ◌<◌, ◌⊎◌, true, ℕ, List, length, Option, Result, Ok, Err}
use Rattle.std.specs.Io.KnownBytes.{Consumes, IsAtEnd}
use Rattle.semantics.specs.Multiset.{Record, IsPartOf, ◌≈◌}
use Rattle.semantics.specs.Query.{Program}
use Rattle.semantics.specs.Meaning.{program_meaning}
use Rattle.graph.specs.Shown.{GraphValue, shown_graph, shown_inputs, shown_names}
use Rattle.follow.specs.Entries.{Entry, records_of}
use Rattle.follow.specs.Follows.{FollowsInput, IsPart, IsWhole, Reading}
use Rattle.follow.specs.declared.outcome.Ending.{Ending}
use Rattle.follow.specs.declared.outcome.Ending.TheVariants as ending
use Rattle.compile.specs.Compiled.{IsCompiled, IsQueryFault}
use Rattle.diagnostics.specs.declared.fault.Fault.{Fault}
use Rattle.diagnostics.specs.declared.fault.Fault.TheVariants.{Query, TooManyVertices, Input, NoMemory, Count}
use Rattle.diagnostics.specs.declared.fault.Fault.TheVariants.{Incomplete, ReadQuery, ReadInput, Write}

-- the graph is that of the query's text
abbrev pub IsGraphOfText : List ℕ → GraphValue → Type 0
IsGraphOfText query g = IsCompiled query (shown_graph g) (shown_inputs g) (shown_names g)

-- at each output the entries are all of what the program means there on the records, by input
abbrev pub AreWhole : Program → (records : ℕ → List Record) → List Entry → Type 0
AreWhole p records entries = (k : ℕ) → k < length p.outputs → records_of k entries ≈ program_meaning p k records

-- they are part of it
abbrev pub ArePart : Program → (records : ℕ → List Record) → List Entry → Type 0
ArePart p records entries = (k : ℕ) → k < length p.outputs → IsPartOf (records_of k entries) (program_meaning p k records)

-- what is whole by the graph of the query's text is whole by the text's program
abbrev pub IsWholeByText : List ℕ → GraphValue → (records : ℕ → List Record) → List Entry → Type 0
IsWholeByText query g records entries = (c : IsGraphOfText query g) → IsWhole g records entries → AreWhole c.program records entries

-- what is a part by the graph is a part by the program
abbrev pub IsPartByText : List ℕ → GraphValue → (records : ℕ → List Record) → List Entry → Type 0
IsPartByText query g records entries = (c : IsGraphOfText query g) → IsPart g records entries → ArePart c.program records entries

-- where the bytes of the input are known: those that were read are the next of them, and all where the reader ended
abbrev pub IsReadOf : (input : Option (List ℕ)) → Reading
IsReadOf input bytes ended = (left : Option (List ℕ)) × Consumes input left bytes × (ended ≡ true → IsAtEnd left)

-- Over the graph of the query, some bytes of the input were read, and what was written is an answer to the lines among them. The offset is added to
-- the number of each epoch.
pub record IsFollowed (offset : ℕ) (query : List ℕ) (read : Reading) (old new : Option (List ℕ)) (result : Result (Unit {0}) Ending) : Type 0 where
  pub graph : GraphValue
  pub compiled : IsGraphOfText query graph
  pub follows : FollowsInput offset graph read old new result

-- The input is answered to its end at Ok. At a faulty line, or where the reader or the writer failed, what was written is an answer to
-- what was read before; so it is where a count is too large. Nothing is written where the query can't be read or is refused. Lack of
-- memory may come at any place.
abbrev pub FollowEnds : (offset : ℕ) → List ℕ → (read : Reading) → Option (List ℕ) → Option (List ℕ) → Result (Unit {0}) Fault → Type 0
FollowEnds offset query read old new (Ok u) = IsFollowed offset query read old new (Ok u)
FollowEnds offset query read old new (Err (Input code line)) = IsFollowed offset query read old new (Err (ending.Input code line))
FollowEnds offset query read old new (Err ReadInput) = IsFollowed offset query read old new (Err ending.Read)
FollowEnds offset query read old new (Err Write) = IsFollowed offset query read old new (Err ending.Write)
FollowEnds offset query read old new (Err NoMemory) = (new ≡ old) ⊎ IsFollowed offset query read old new (Err ending.NoMemory)
FollowEnds offset query read old new (Err Count) = IsFollowed offset query read old new (Err ending.Count)
FollowEnds offset query read old new (Err Incomplete) = IsFollowed offset query read old new (Err ending.TooLong)
FollowEnds offset query read old new (Err (Query code start end)) = (new ≡ old) × IsQueryFault query (Query code start end)
FollowEnds offset query read old new (Err TooManyVertices) = (new ≡ old) × IsQueryFault query TooManyVertices
FollowEnds offset query read old new (Err ReadQuery) = new ≡ old
FollowEnds offset query read old new (Err _) = ⊥
