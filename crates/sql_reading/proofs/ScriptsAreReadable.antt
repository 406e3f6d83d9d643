-- The script of a well-typed program can be read back.
use Rattle.std.proofs.Common.{◌≡◌, ℕ, zero, suc, ◌<◌, ◌≤◌, ◌^◌, Bool, true, false, cond, nat_eq, List, [], ◌∷◌, ◌++◌, map, length, slice_index_or, Some, None, Option, refl, sym, ap, subst, arith}
use Rattle.std.specs.List.{AllByRecursion}
use Rattle.record_core.specs.Names.{IsName}
use Rattle.semantics.proofs.NamesAmong.{Decides-same_name}
use Rattle.semantics.specs.Limits.{max_fields}
use Rattle.semantics.specs.Meaning.{same_name}
use Rattle.semantics.specs.Query.{Name, Pair, Input, Output, Program}
use Rattle.semantics.specs.Typing.{lookup, entry, InputsFit, WellTyped}
use Rattle.semantics.specs.Typing.{Scope as Arities}
use Rattle.sql_meaning.specs.Script.{Table, Expression, Search, Aggregate, Term, Query}
use Rattle.sql_meaning.specs.Wanted.{is_in, reads}
use Rattle.sql_meaning.specs.WellFormed.{Widths, query_width, widths, IsReadable, ExpressionFits, SearchFits, AggregateFits, TermFits, TablesFit, ResultsFit, QueryFits}
use Rattle.sql_meaning.proofs.Formed.{script_formed}
use Rattle.sql.specs.Asked.{Asked, is_asked, asked_tables}
use Rattle.sql.specs.Dialects.{dialect_of, arithmetic_of, has_recursion}
use Rattle.sql.specs.Epochs.{places}
use Rattle.sql.specs.Text.{widths_of, asked_script}
use Rattle.sql.specs.declared.form.Arithmetic.{Arithmetic}
use Rattle.sql.specs.declared.form.Arithmetic.TheVariants.{Plain, Wrapped}
use Rattle.sql.specs.declared.form.Epochs.{Epochs}
use Rattle.sql.specs.declared.form.Epochs.TheVariants as epochs
use Rattle.sql_reading.specs.Said.{said_expression, said_search, said_term, said_query, Made, Result, made_tables, asked_results, said}
use Rattle.sql_reading.specs.Readable.{IsShort, IsShortSearch, IsShortAggregate, IsShortPair, IsThere, IsShortTerm, IsShortQuery, name_of, AreNamed, HasNames}
use Rattle.sql_reading.specs.Readable as readable
use Rattle.sql_reading.proofs.NeatScripts.{Numbers, NumbersOfSearch, ShortParts, NumbersOf, Neat, arities_of, length-arities, neat_script}

-- ---- names of inputs

cut : (x : Name) (n : ℕ) (scope : Arities) (y : Name) → lookup (entry x n ∷ scope) y ≡ None → lookup scope y ≡ None
cut x n scope y h = by (same_name x y) h
  where
    by : (b : Bool) → cond b (Some n) (lookup scope y) ≡ None → lookup scope y ≡ None
    by true e = absurd (let q : Some n ≡ None = e in cc)
    by false e = e

met : (x : Name) (n : ℕ) (scope : Arities) (y : Name) → x ≡ y → lookup (entry x n ∷ scope) y ≡ None → ⊥
met x n scope y e h = by (same_name x y) ((Decides-same_name x y).1 e) h
  where
    by : (b : Bool) → b ≡ true → cond b (Some n) (lookup scope y) ≡ None → ⊥
    by true t q = cc
    by false t q = cc

absent : (as' : List Input) (scope : Arities) (j : ℕ) → InputsFit scope as' → j < length as' → lookup scope (name_of as' j) ≡ None
absent [] scope j f l = absurd (omega arith)
absent (a ∷ as') scope zero f l = f.0
absent (a ∷ as') scope (suc j) f l = cut a.name a.arity scope (name_of as' j) (absent as' (entry a.name a.arity ∷ scope) j f.2 (omega arith))

apart : (as' : List Input) (scope : Arities) (i j : ℕ) → InputsFit scope as' → i < length as' → j < length as' → name_of as' i ≡ name_of as' j → i ≡ j
apart [] scope i j f l m e = absurd (omega arith)
apart (a ∷ as') scope zero zero f l m e = refl
apart (a ∷ as') scope zero (suc j) f l m e = absurd (met a.name a.arity scope (name_of as' j) e (absent as' (entry a.name a.arity ∷ scope) j f.2 (omega arith)))
apart (a ∷ as') scope (suc i) zero f l m e = absurd (met a.name a.arity scope (name_of as' i) (sym e) (absent as' (entry a.name a.arity ∷ scope) i f.2 (omega arith)))
apart (a ∷ as') scope (suc i) (suc j) f l m e = ap suc (apart as' (entry a.name a.arity ∷ scope) i j f.2 (omega arith) (omega arith) e)

named_inputs : (as' : List Input) (scope : Arities) → InputsFit scope as' → AllByRecursion (λ (a : Input). IsName a.name) as' → AllByRecursion (λ (a : Input). IsName a.name × (a.arity < 2 ^ 64)) as'
named_inputs [] scope f h = tt
named_inputs (a ∷ as') scope f h = ((h.0, omega (arith, f.1.1)), named_inputs as' (entry a.name a.arity ∷ scope) f.2 h.1)

-- ---- columns and numbers of 64 bits

short_expression : (w : ℕ) (e : Expression) → w < 2 ^ 64 → ExpressionFits w e → Numbers e → IsShort e
short_expression w (Expression.column c) l f h = omega (arith, f)
short_expression w (Expression.number z) l f h = h
short_expression w (Expression.sum d e) l f h = (short_expression w d l f.0 h.0, short_expression w e l f.1 h.1)
short_expression w (Expression.difference d e) l f h = (short_expression w d l f.0 h.0, short_expression w e l f.1 h.1)
short_expression w (Expression.product d e) l f h = (short_expression w d l f.0 h.0, short_expression w e l f.1 h.1)
short_expression w (Expression.opposite e) l f h = short_expression w e l f h
short_expression w (Expression.wrapped e) l f h = short_expression w e l f h

short_expressions : (w : ℕ) (es : List Expression) → w < 2 ^ 64 → AllByRecursion (ExpressionFits w) es → AllByRecursion Numbers es → AllByRecursion IsShort es
short_expressions w [] l f h = tt
short_expressions w (e ∷ es) l f h = (short_expression w e l f.0 h.0, short_expressions w es l f.1 h.1)

short_search : (w : ℕ) (c : Search) → w < 2 ^ 64 → SearchFits w c → NumbersOfSearch c → IsShortSearch c
short_search w (Search.compare o d e) l f h = (short_expression w d l f.0 h.0, short_expression w e l f.1 h.1)
short_search w (Search.both c d) l f h = (short_search w c l f.0 h.0, short_search w d l f.1 h.1)
short_search w (Search.either c d) l f h = (short_search w c l f.0 h.0, short_search w d l f.1 h.1)
short_search w (Search.no c) l f h = short_search w c l f h

short_aggregate : (w : ℕ) (g : Aggregate) → w < 2 ^ 64 → AggregateFits w g → IsShortAggregate g
short_aggregate w Aggregate.wrapped_count l f = tt
short_aggregate w (Aggregate.wrapped_sum c) l f = omega (arith, f)
short_aggregate w (Aggregate.least c) l f = omega (arith, f)
short_aggregate w (Aggregate.greatest c) l f = omega (arith, f)

short_aggregates : (w : ℕ) (gs : List Aggregate) → w < 2 ^ 64 → AllByRecursion (AggregateFits w) gs → AllByRecursion IsShortAggregate gs
short_aggregates w [] l f = tt
short_aggregates w (g ∷ gs) l f = (short_aggregate w g l f.0, short_aggregates w gs l f.1)

short_keys : (w : ℕ) (ks : List ℕ) → w < 2 ^ 64 → AllByRecursion (λ k. k < w) ks → AllByRecursion (λ k. k < 2 ^ 64) ks
short_keys w [] l f = tt
short_keys w (k ∷ ks) l f = ((let h : k < w = f.0 in omega (arith, h)), short_keys w ks l f.1)

short_pair : (v w : ℕ) (p : Pair) → v < 2 ^ 64 → w < 2 ^ 64 → p.left < v → p.right < w → IsShortPair p
short_pair v w p l m h k = (omega arith, omega arith)

short_pairs : (v w : ℕ) (ps : List Pair) → v < 2 ^ 64 → w < 2 ^ 64 → AllByRecursion (λ (x : Pair). (x.left < v) × (x.right < w)) ps → AllByRecursion IsShortPair ps
short_pairs v w [] l m f = tt
short_pairs v w (p ∷ ps) l m f = (short_pair v w p l m f.0.0 f.0.1, short_pairs v w ps l m f.1)

there : (given n : ℕ) (t : Table) → n ≤ 2 ^ 64 → IsReadable given n t → IsThere given t
there given n (Table.given i) l h = h
there given n (Table.made m) l h = omega (arith, h)

-- ---- tables

either : (b : Bool) (v w : ℕ) → v ≤ max_fields → w ≤ max_fields → cond b v w ≤ max_fields
either true v w h k = h
either false v w h k = k

module _ (given : List ℕ) (few : (i : ℕ) → slice_index_or given i 0 ≤ max_fields) where
  narrow : (qs : List Query) → Neat given qs → (t : Table) → widths qs given t ≤ max_fields
  narrow [] h (Table.given i) = few i
  narrow [] h (Table.made m) = omega arith
  narrow (q ∷ qs) h (Table.given i) = narrow qs h.2 (Table.given i)
  narrow (q ∷ qs) h (Table.made m) = either (nat_eq m (length qs)) (query_width q (widths qs given)) (widths qs given (Table.made m)) h.0 (narrow qs h.2 (Table.made m))

  pub below : (qs : List Query) → Neat given qs → (t : Table) → widths qs given t < 2 ^ 64
  below qs h t = omega (arith, narrow qs h t)

  pub placed : (z : Epochs) (qs : List Query) → Neat given qs → (t : Table) → places z (widths qs given t) < 2 ^ 64
  placed epochs.One qs h t = below qs h t
  placed epochs.Every qs h t = omega (arith, narrow qs h t)

  short_term : (qs : List Query) (j : ℕ) (m : Term) → length qs ≤ 2 ^ 64 → TermFits (length given) (length qs) j (widths qs given) m → ShortParts m → IsShortTerm (length given) m
  short_term qs j Term.latest l f h = tt
  short_term qs j (Term.select es m) l f h = (h.0, short_term qs j m l f.0 h.1)
  short_term qs j (Term.select_where m c) l f h = (short_term qs j m l f.0 h.0, h.1)
  short_term qs j (Term.join_left m t ps) l f h = (short_term qs j m l f.0 h.0, there (length given) (length qs) t l f.1, h.1)
  short_term qs j (Term.join_right t m ps) l f h = (there (length given) (length qs) t l f.0, short_term qs j m l f.1 h.0, h.1)

  short_query : (qs : List Query) (q : Query) → Neat given qs → length qs ≤ 2 ^ 64 → QueryFits (length given) (length qs) (widths qs given) q → NumbersOf q → IsShortQuery (length given) q
  short_query qs (Query.select es t) h l f w = (short_expressions (widths qs given t) es (below qs h t) f.1 w, there (length given) (length qs) t l f.0)
  short_query qs (Query.select_where t c) h l f w = (there (length given) (length qs) t l f.0, short_search (widths qs given t) c (below qs h t) f.1 w)
  short_query qs (Query.select_join t u ps) h l f w =
      (there (length given) (length qs) t l f.0, there (length given) (length qs) u l f.1, short_pairs (widths qs given t) (widths qs given u) ps (below qs h t) (below qs h u) f.2)
  short_query qs (Query.select_group ks as' t) h l f w =
      (short_keys (widths qs given t) ks (below qs h t) f.1, short_aggregates (widths qs given t) as' (below qs h t) f.2, there (length given) (length qs) t l f.0)
  short_query qs (Query.select_distinct t) h l f w = there (length given) (length qs) t l f
  short_query qs (Query.union_all t u) h l f w = (there (length given) (length qs) t l f.0, there (length given) (length qs) u l f.1)
  short_query qs (Query.except t u) h l f w = (there (length given) (length qs) t l f.0, there (length given) (length qs) u l f.1)
  short_query qs (Query.intersect t u) h l f w = (there (length given) (length qs) t l f.0, there (length given) (length qs) u l f.1)
  short_query qs (Query.recursive n t m) h l f w = (w.0, there (length given) (length qs) t l f.0, short_term qs (widths qs given t) m l f.1 w.1)

-- ---- what is said of them

said_short : (m : Arithmetic) (e : Expression) → IsShort e → IsShort (said_expression m e)
said_short Wrapped e h = h
said_short Plain (Expression.column c) h = h
said_short Plain (Expression.number z) h = h
said_short Plain (Expression.sum d e) h = (said_short Plain d h.0, said_short Plain e h.1)
said_short Plain (Expression.difference d e) h = (said_short Plain d h.0, said_short Plain e h.1)
said_short Plain (Expression.product d e) h = (said_short Plain d h.0, said_short Plain e h.1)
said_short Plain (Expression.opposite e) h = said_short Plain e h
said_short Plain (Expression.wrapped e) h = said_short Plain e h

said_shorts : (m : Arithmetic) (es : List Expression) → AllByRecursion IsShort es → AllByRecursion IsShort (map (said_expression m) es)
said_shorts m [] h = tt
said_shorts m (e ∷ es) h = (said_short m e h.0, said_shorts m es h.1)

said_short_search : (m : Arithmetic) (c : Search) → IsShortSearch c → IsShortSearch (said_search m c)
said_short_search Wrapped c h = h
said_short_search Plain (Search.compare o d e) h = (said_short Plain d h.0, said_short Plain e h.1)
said_short_search Plain (Search.both c d) h = (said_short_search Plain c h.0, said_short_search Plain d h.1)
said_short_search Plain (Search.either c d) h = (said_short_search Plain c h.0, said_short_search Plain d h.1)
said_short_search Plain (Search.no c) h = said_short_search Plain c h

said_short_term : (m : Arithmetic) (given : ℕ) (t : Term) → IsShortTerm given t → IsShortTerm given (said_term m t)
said_short_term m given Term.latest h = tt
said_short_term m given (Term.select es t) h = (said_shorts m es h.0, said_short_term m given t h.1)
said_short_term m given (Term.select_where t c) h = (said_short_term m given t h.0, said_short_search m c h.1)
said_short_term m given (Term.join_left t u ps) h = (said_short_term m given t h.0, h.1, h.2)
said_short_term m given (Term.join_right u t ps) h = (h.0, said_short_term m given t h.1, h.2)

said_short_query : (m : Arithmetic) (given : ℕ) (q : Query) → IsShortQuery given q → IsShortQuery given (said_query m q)
said_short_query m given (Query.select es t) h = (said_shorts m es h.0, h.1)
said_short_query m given (Query.select_where t c) h = (h.0, said_short_search m c h.1)
said_short_query m given (Query.select_join t u ps) h = h
said_short_query m given (Query.select_group ks as' t) h = h
said_short_query m given (Query.select_distinct t) h = h
said_short_query m given (Query.union_all t u) h = h
said_short_query m given (Query.except t u) h = h
said_short_query m given (Query.intersect t u) h = h
said_short_query m given (Query.recursive n t u) h = (h.0, h.1, said_short_term m given u h.2)

abbrev Fine : ℕ → Made → Type 0
Fine given m = (m.number < 2 ^ 64) × (m.width < 2 ^ 64) × IsShortQuery given m.query

more : (given : ℕ) (xs : List Made) (x : Made) → AllByRecursion (Fine given) xs → Fine given x → AllByRecursion (Fine given) (xs ++ x ∷ [])
more given [] x h k = (k, tt)
more given (y ∷ ys) x h k = (h.0, more given ys x h.1 k)

chosen : (given : ℕ) (b : Bool) (us vs : List Made) (x : Made) → AllByRecursion (Fine given) us → AllByRecursion (Fine given) vs → Fine given x → AllByRecursion (Fine given) (cond b (us ++ x ∷ []) vs)
chosen given true us vs x h k f = more given us x h f
chosen given false us vs x h k f = k

module _ (given : List ℕ) (few : (i : ℕ) → slice_index_or given i 0 ≤ max_fields) (m : Arithmetic) (width : Widths) (narrow' : (t : Table) → width t < 2 ^ 64) where
  all_made : (wanted : List ℕ) (qs : List Query) → TablesFit given qs → Neat given qs → length qs < 2 ^ 64 → AllByRecursion (Fine (length given)) (made_tables m width wanted qs)
  all_made wanted [] f h l = tt
  all_made wanted (q ∷ qs) f h l =
      chosen (length given) (is_in (length qs) wanted) (made_tables m width (wanted ++ reads q) qs) (made_tables m width wanted qs)
      (record { number = length qs; width = width (Table.made (length qs)); query = said_query m q })
      (all_made (wanted ++ reads q) qs f.1 h.2 (omega arith)) (all_made wanted qs f.1 h.2 (omega arith))
      (omega arith, narrow' (Table.made (length qs)), said_short_query m (length given) q (short_query given few qs q h.2 (omega arith) f.0 h.1))

abbrev FineResult : Epochs → ℕ → Result → Type 0
FineResult z given r = IsName r.name × (places z r.width < 2 ^ 64) × IsThere given r.table

all_results : (z : Epochs) (given n : ℕ) (width : Widths) (y : Option Name) (ts : List Table) (os : List Output) (ns : List ℕ) → ((t : Table) → places z (width t) < 2 ^ 64) → n ≤ 2 ^ 64 → ResultsFit given n width ts ns
    → AllByRecursion (λ (o : Output). IsName o.name) os → AllByRecursion (FineResult z given) (asked_results width y ts os)
all_results z given n width y [] os ns w l f h = tt
all_results z given n width y (t ∷ ts) [] ns w l f h = tt
all_results z given n width y (t ∷ ts) (o ∷ os) [] w l f h = absurd f
all_results z given n width y (t ∷ ts) (o ∷ os) (k ∷ ks) w l f h =
    by (is_asked y o.name) (all_results z given n width y ts os ks w l f.2 h.1)
  where
    by : (b : Bool) → AllByRecursion (FineResult z given) (asked_results width y ts os)
        → AllByRecursion (FineResult z given) (cond b (record { name = o.name; width = width t; table = t } ∷ []) [] ++ asked_results width y ts os)
    by true u = ((h.0, w t, there given n t l f.0), u)
    by false u = u

-- ---- programs

few_fields : (as' : List Input) (scope : Arities) (i : ℕ) → InputsFit scope as' → slice_index_or (arities_of as') i 0 ≤ max_fields
few_fields [] scope i f = omega arith
few_fields (a ∷ as') scope zero f = f.1.1
few_fields (a ∷ as') scope (suc i) f = few_fields as' (entry a.name a.arity ∷ scope) i f.2

pub are_readable : (a : Asked) (p : Program) (ns : List ℕ) → WellTyped p ns → HasNames p → length (asked_script a p).tables < 2 ^ 64 → readable.IsReadable (said a p)
are_readable a p ns t h l =
    let given = arities_of p.inputs in
    let formed = script_formed (has_recursion (dialect_of a.form)) p ns t in
    let neat = neat_script (has_recursion (dialect_of a.form)) p ns t in
    let few = λ (i : ℕ). few_fields p.inputs [] i t.inputs in
    let narrow' = below given few (asked_script a p).tables neat in
    let width = widths_of p.inputs (asked_script a p).tables in
    record {
      inputs = record { names = named_inputs p.inputs [] t.inputs h.inputs; differ = λ i j. apart p.inputs [] i j t.inputs };
      made = subst (λ n. AllByRecursion (Fine n) (said a p).made) (length-arities p.inputs)
          (all_made given few (arithmetic_of a.form) width narrow' (asked_tables a.output (asked_script a p).results p.outputs) (asked_script a p).tables formed.tables neat l);
      results = subst (λ n. AllByRecursion (FineResult a.epochs n) (said a p).results) (length-arities p.inputs)
          (all_results a.epochs (length given) (length (asked_script a p).tables) width a.output (asked_script a p).results p.outputs ns
          (placed given few a.epochs (asked_script a p).tables neat) (omega (arith, l)) formed.results h.outputs);
    }
