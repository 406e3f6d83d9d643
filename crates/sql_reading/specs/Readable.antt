-- When the text of a script can be read back: each number in it has 64 bits, and each table that it reads is there.
use Rattle.std.specs.Prelude.{◌≡◌, ◌^◌, ◌<◌, ℕ, List, [], length, map, FitsSigned, slice_index_or}
use mir.Syntax.{w64}
use Rattle.std.specs.List.{AllByRecursion}
use Rattle.record_core.specs.Names.{IsName}
use Rattle.semantics.specs.Query.{Pair, Input, Output, Program}
use Rattle.sql_meaning.specs.Script.{Table, Expression, Search, Aggregate, Term, Query}
use Rattle.sql.specs.Epochs.{places}
use Rattle.sql_reading.specs.Said.{Made, Result, Said}

-- each number of an expression has 64 bits
abbrev pub IsShort : Expression → Type 0
IsShort (Expression.column c) = c < 2 ^ 64
IsShort (Expression.number z) = FitsSigned w64 z
IsShort (Expression.sum d e) = IsShort d × IsShort e
IsShort (Expression.difference d e) = IsShort d × IsShort e
IsShort (Expression.product d e) = IsShort d × IsShort e
IsShort (Expression.opposite e) = IsShort e
IsShort (Expression.wrapped e) = IsShort e

-- of a condition
abbrev pub IsShortSearch : Search → Type 0
IsShortSearch (Search.compare o d e) = IsShort d × IsShort e
IsShortSearch (Search.both c d) = IsShortSearch c × IsShortSearch d
IsShortSearch (Search.either c d) = IsShortSearch c × IsShortSearch d
IsShortSearch (Search.no c) = IsShortSearch c

-- of an aggregate
abbrev pub IsShortAggregate : Aggregate → Type 0
IsShortAggregate Aggregate.wrapped_count = Unit {0}
IsShortAggregate (Aggregate.wrapped_sum c) = c < 2 ^ 64
IsShortAggregate (Aggregate.least c) = c < 2 ^ 64
IsShortAggregate (Aggregate.greatest c) = c < 2 ^ 64

-- of a pair of columns
abbrev pub IsShortPair : Pair → Type 0
IsShortPair p = (p.left < 2 ^ 64) × (p.right < 2 ^ 64)

-- one of so many given tables, or one that is made
abbrev pub IsThere : (given : ℕ) → Table → Type 0
IsThere given (Table.given i) = i < given
IsThere given (Table.made n) = n < 2 ^ 64

-- of a recursive term, over so many given tables
abbrev pub IsShortTerm : (given : ℕ) → Term → Type 0
IsShortTerm given Term.latest = Unit {0}
IsShortTerm given (Term.select es m) = AllByRecursion IsShort es × IsShortTerm given m
IsShortTerm given (Term.select_where m c) = IsShortTerm given m × IsShortSearch c
IsShortTerm given (Term.join_left m t ps) = IsShortTerm given m × IsThere given t × AllByRecursion IsShortPair ps
IsShortTerm given (Term.join_right t m ps) = IsThere given t × IsShortTerm given m × AllByRecursion IsShortPair ps

-- of a query, over so many given tables
abbrev pub IsShortQuery : (given : ℕ) → Query → Type 0
IsShortQuery given (Query.select es t) = AllByRecursion IsShort es × IsThere given t
IsShortQuery given (Query.select_where t c) = IsThere given t × IsShortSearch c
IsShortQuery given (Query.select_join t u ps) = IsThere given t × IsThere given u × AllByRecursion IsShortPair ps
IsShortQuery given (Query.select_group ks as' t) = AllByRecursion (λ k. k < 2 ^ 64) ks × AllByRecursion IsShortAggregate as' × IsThere given t
IsShortQuery given (Query.select_distinct t) = IsThere given t
IsShortQuery given (Query.union_all t u) = IsThere given t × IsThere given u
IsShortQuery given (Query.except t u) = IsThere given t × IsThere given u
IsShortQuery given (Query.intersect t u) = IsThere given t × IsThere given u
IsShortQuery given (Query.recursive n t m) = (n < 2 ^ 64) × IsThere given t × IsShortTerm given m

-- the name of the given table with that number
abbrev pub name_of : List Input → ℕ → List ℕ
name_of inputs i = slice_index_or (map (λ (a : Input). a.name) inputs) i []

-- given tables have names, no two the same
pub record AreNamed (inputs : List Input) : Type 0 where
  pub names : AllByRecursion (λ (a : Input). IsName a.name × (a.arity < 2 ^ 64)) inputs
  pub differ : (i j : ℕ) → i < length inputs → j < length inputs → name_of inputs i ≡ name_of inputs j → i ≡ j

-- a script of which this is said can be read back
pub record IsReadable (s : Said) : Type 0 where
  pub inputs : AreNamed s.inputs
  pub made : AllByRecursion (λ (m : Made). (m.number < 2 ^ 64) × (m.width < 2 ^ 64) × IsShortQuery (length s.inputs) m.query) s.made
  pub results : AllByRecursion (λ (r : Result). IsName r.name × (places s.epochs r.width < 2 ^ 64) × IsThere (length s.inputs) r.table) s.results

-- inputs and outputs have names
pub record HasNames (p : Program) : Type 0 where
  pub inputs : AllByRecursion (λ (a : Input). IsName a.name) p.inputs
  pub outputs : AllByRecursion (λ (o : Output). IsName o.name) p.outputs
