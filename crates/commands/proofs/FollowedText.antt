-- A followed input is answered as its graph is.
use Rattle.std.proofs.Common.{◌≡◌, ◌<◌, inl, inr, ℕ, List, Bool, Option, Result, Ok, Err, length, refl, subst, arith}
use Rattle.semantics.specs.Multiset.{Record, IsPartOf, ◌≈◌}
use Rattle.semantics.specs.Meaning.{program_meaning}
use Rattle.semantics.proofs.StepsKeep.{rewrites_meaning, rewrites_names, rewrites_typed}
use Rattle.graph.specs.Shown.{GraphValue, shown_graph, shown_inputs, shown_names}
use Rattle.collector.specs.Watching.{HandsSome, inner_of}
use Rattle.collector.specs.declared.watched.Watched.{Watched}
use Rattle.follow.specs.Entries.{Entry, records_of}
use Rattle.follow.specs.Follows.{FollowsInput, HasRead, IsGraphOf, IsPart, IsWhole, Reading}
use Rattle.follow.specs.declared.outcome.Ending.{Ending}
use Rattle.follow.specs.declared.outcome.Ending.TheVariants as ending
use Rattle.compile.specs.Compiled.{IsCompiled, IsQueryFault}
use Rattle.commands.specs.Faults.{follow_fault_of}
use Rattle.commands.specs.Followed.{FollowEnds, IsFollowed, IsReadOf}
use Rattle.commands.specs.Readings.{FollowsOnHanded, HandsQuery}
use Rattle.commands.specs.Runs.{IsUnreadQuery}
use Rattle.compile.proofs.Rewritten.{same_many}
use Rattle.diagnostics.specs.declared.fault.Fault.{Fault}
use Rattle.diagnostics.specs.declared.fault.Fault.TheVariants.{Query, TooManyVertices, Input as InputFault, Schedule, NoMemory, Count, NoWorker, Incomplete, ReadQuery, ReadInput, Write}

module _ (offset : ℕ) (query : List ℕ) (g : GraphValue) (read : Reading) (old new : Option (List ℕ)) (c : IsCompiled query (shown_graph g) (shown_inputs g) (shown_names g)) where
  followed : (result : Result (Unit {0}) Ending) → FollowsInput offset g read old new result → IsFollowed offset query read old new result
  followed result f = record { graph = g; compiled = c; follows = f }

  pub ends_well : (u : Unit {0}) → FollowsInput offset g read old new (Ok u) → FollowEnds offset query read old new (Ok u)
  ends_well u f = followed (Ok u) f

  pub ends_ill : (e : Ending) → FollowsInput offset g read old new (Err e) → FollowEnds offset query read old new (Err (follow_fault_of e))
  ends_ill (ending.Input code line) f = followed (Err (ending.Input code line)) f
  ends_ill ending.Read f = followed (Err ending.Read) f
  ends_ill ending.Write f = followed (Err ending.Write) f
  ends_ill ending.NoMemory f = inr (followed (Err ending.NoMemory) f)
  ends_ill ending.Count f = followed (Err ending.Count) f
  ends_ill ending.TooLong f = followed (Err ending.TooLong) f

-- what holds of what was read holds of what it is a case of
module _ (offset : ℕ) (query : List ℕ) (r s : Reading) (old new : Option (List ℕ)) (h : (bytes : List ℕ) (ended : Bool) → r bytes ended → s bytes ended) where
  wider : (result : Result (Unit {0}) Ending) → IsFollowed offset query r old new result → IsFollowed offset query s old new result
  wider result f = record { graph = f.graph; compiled = f.compiled; follows = (f.follows.0, f.follows.1, h f.follows.0 f.follows.1 f.follows.2, f.follows.3) }

  pub ends_wider : (result : Result (Unit {0}) Fault) → FollowEnds offset query r old new result → FollowEnds offset query s old new result
  ends_wider (Ok u) f = wider (Ok u) f
  ends_wider (Err (InputFault code line)) f = wider (Err (ending.Input code line)) f
  ends_wider (Err ReadInput) f = wider (Err ending.Read) f
  ends_wider (Err Write) f = wider (Err ending.Write) f
  ends_wider (Err NoMemory) (inl same) = inl same
  ends_wider (Err NoMemory) (inr f) = inr (wider (Err ending.NoMemory) f)
  ends_wider (Err Count) f = wider (Err ending.Count) f
  ends_wider (Err Incomplete) f = wider (Err ending.TooLong) f
  ends_wider (Err (Query code start end)) f = f
  ends_wider (Err TooManyVertices) f = f
  ends_wider (Err ReadQuery) f = f
  ends_wider (Err (Schedule code line)) f = absurd f
  ends_wider (Err NoWorker) f = absurd f

-- of a reader whose bytes are known
pub ends_known : (offset : ℕ) → {I : Type 0} (remaining : I → Option (List ℕ)) (a b : Watched I) (query : List ℕ) (old new : Option (List ℕ)) (result : Result (Unit {0}) Fault) → FollowEnds offset query (HasRead remaining a b) old new result → FollowEnds offset query (IsReadOf (remaining (inner_of a))) old new result
ends_known offset remaining a b query old new result f = ends_wider offset query (HasRead remaining a b) (IsReadOf (remaining (inner_of a))) old new (λ bytes ended h. (remaining (inner_of b), h.known, h.last)) result f

unread_query_ends : (offset : ℕ) → (query : List ℕ) (read : Reading) (old : Option (List ℕ)) (e : Fault) → IsUnreadQuery e → FollowEnds offset query read old old (Err e)
unread_query_ends offset query read old NoMemory u = inl refl
unread_query_ends offset query read old ReadQuery u = refl
unread_query_ends offset query read old ReadInput u = absurd u
unread_query_ends offset query read old (Query code start end) u = absurd u
unread_query_ends offset query read old TooManyVertices u = absurd u
unread_query_ends offset query read old (InputFault code line) u = absurd u
unread_query_ends offset query read old (Schedule code line) u = absurd u
unread_query_ends offset query read old Count u = absurd u
unread_query_ends offset query read old NoWorker u = absurd u
unread_query_ends offset query read old Incomplete u = absurd u
unread_query_ends offset query read old Write u = absurd u

-- the query could not be read
pub follows_unread : (offset : ℕ) → {Q I : Type 0} (left : Q → Option (List ℕ)) (remaining : I → Option (List ℕ)) (q₀ q₁ : Watched Q) (i₀ i₁ : Watched I) (old : Option (List ℕ)) (e : Fault) → HandsSome q₀ q₁ → IsUnreadQuery e → FollowsOnHanded offset left remaining q₀ q₁ i₀ i₁ old old (Err e)
follows_unread offset left remaining q₀ q₁ i₀ i₁ old e h u = record { query = h.0; read = inr (h.1, u); ends = unread_query_ends offset h.0 (HasRead remaining i₀ i₁) old e u }

-- it was read
pub follows_read : (offset : ℕ) → {Q I : Type 0} (left : Q → Option (List ℕ)) (remaining : I → Option (List ℕ)) (q₀ q₁ : Watched Q) (i₀ i₁ : Watched I) (query : List ℕ) (old new : Option (List ℕ)) (result : Result (Unit {0}) Fault) → HandsQuery left q₀ q₁ query → FollowEnds offset query (HasRead remaining i₀ i₁) old new result → FollowsOnHanded offset left remaining q₀ q₁ i₀ i₁ old new result
follows_read offset left remaining q₀ q₁ i₀ i₁ query old new result h e = record { query = query; read = inl h; ends = e }

-- a refused query: nothing is written
pub refused_ends : (offset : ℕ) → (query : List ℕ) (read : Reading) (old new : Option (List ℕ)) (fault : Fault) → new ≡ old → IsQueryFault query fault → FollowEnds offset query read old new (Err fault)
refused_ends offset query read old new (Query code start end) same h = (same, h)
refused_ends offset query read old new TooManyVertices same h = (same, h)
refused_ends offset query read old new NoMemory same h = inl same
refused_ends offset query read old new (InputFault code line) same h = absurd h
refused_ends offset query read old new (Schedule code line) same h = absurd h
refused_ends offset query read old new Count same h = absurd h
refused_ends offset query read old new NoWorker same h = absurd h
refused_ends offset query read old new Incomplete same h = absurd h
refused_ends offset query read old new ReadQuery same h = absurd h
refused_ends offset query read old new ReadInput same h = absurd h
refused_ends offset query read old new Write same h = absurd h

-- the fault of a query is neither a reader's nor a writer's
pub not_read : (query : List ℕ) (fault : Fault) → IsQueryFault query fault → fault ≡ ReadInput → ⊥
not_read query fault h e = subst (IsQueryFault query) e h

pub not_written : (query : List ℕ) (fault : Fault) → IsQueryFault query fault → fault ≡ Write → ⊥
not_written query fault h e = subst (IsQueryFault query) e h

pub not_query : (query : List ℕ) (fault : Fault) → IsQueryFault query fault → fault ≡ ReadQuery → ⊥
not_query query fault h e = subst (IsQueryFault query) e h

-- only where following ends at the reader, its fault is the reader's
pub read_of : (e : Ending) → follow_fault_of e ≡ ReadInput → e ≡ ending.Read
read_of (ending.Input code line) h = absurd cc
read_of ending.Read h = refl
read_of ending.Write h = absurd cc
read_of ending.NoMemory h = absurd cc
read_of ending.Count h = absurd cc
read_of ending.TooLong h = absurd cc

pub query_of : (e : Ending) → follow_fault_of e ≡ ReadQuery → ⊥
query_of (ending.Input code line) h = absurd cc
query_of ending.Read h = absurd cc
query_of ending.Write h = absurd cc
query_of ending.NoMemory h = absurd cc
query_of ending.Count h = absurd cc
query_of ending.TooLong h = absurd cc

pub written_of : (e : Ending) → follow_fault_of e ≡ Write → e ≡ ending.Write
written_of (ending.Input code line) h = absurd cc
written_of ending.Read h = absurd cc
written_of ending.Write h = refl
written_of ending.NoMemory h = absurd cc
written_of ending.Count h = absurd cc
written_of ending.TooLong h = absurd cc

-- how following a text ends
pub ruleset text_ends = (ends_well, ends_ill, refused_ends, not_query, not_read, not_written, query_of, read_of, written_of)

-- the program that the graph was made of is the normal form of the text's
module _ (query : List ℕ) (g : GraphValue) (records : ℕ → List Record) (entries : List Entry) (c : IsCompiled query (shown_graph g) (shown_inputs g) (shown_names g)) where
  graph_of : IsGraphOf g c.rewritten
  graph_of = record { arities = c.reads.arities; typed = rewrites_typed c.normal.reached c.reads.arities c.reads.typed; graph = c.graph }

  within : (k : ℕ) → k < length c.program.outputs → k < length c.rewritten.outputs
  within k lt = (let same = same_many c.rewritten c.program (rewrites_names c.normal.reached) in omega (arith, lt, same))

  pub whole_of_text : IsWhole g records entries → (k : ℕ) → k < length c.program.outputs → records_of k entries ≈ program_meaning c.program k records
  whole_of_text h k lt = subst (λ rs. records_of k entries ≈ rs) (rewrites_meaning c.normal.reached k records) (h c.rewritten k graph_of (within k lt))

  pub part_of_text : IsPart g records entries → (k : ℕ) → k < length c.program.outputs → IsPartOf (records_of k entries) (program_meaning c.program k records)
  part_of_text h k lt = subst (λ rs. IsPartOf (records_of k entries) rs) (rewrites_meaning c.normal.reached k records) (h c.rewritten k graph_of (within k lt))
