-- A program that is read is a source.
use Rattle.std.proofs.Common.{◌≡◌, ◌≤◌, ℕ, List, [], ◌∷◌, true, false, refl, arith}
use Rattle.std.specs.Prelude.{bytes_eq}
use Rattle.std.proofs.lemmas.Slice.Eq.{bytes_eq-Decides}
use Rattle.record_core.specs.Names.{IsName, keyword_text}
use Rattle.record_core.specs.declared.keyword.Keyword.{Keyword}
use Rattle.record_core.specs.declared.keyword.Keyword.TheVariants as keyword
use Rattle.expr_tree.specs.declared.program.Input.{Input}
use Rattle.expr_tree.specs.declared.relation.Agg.TheVariants.{Count, Sum, Min, Max}
use Rattle.expr_tree.specs.Trees.{RelTree, LetTree, OutputTree, ProgramTree}
use Rattle.lexer.specs.declared.token.Token.{Token}
use Rattle.lexer.specs.declared.token.TokenKind.{TokenKind}
use Rattle.lexer.specs.declared.token.TokenKind.TheVariants as kind
use Rattle.lexer.specs.Tokens.{Spells, LexesTo}
use Rattle.grammar.specs.Phrases.{Listed, one, more}
use Rattle.grammar.specs.Scalars.{ScalarAt}
use Rattle.grammar.specs.Relations.{Reads, named, select, filter, set_operation, join, group, distinct, iterate, closure, ColumnAt, PairAt, AggAt}
use Rattle.grammar.specs.Programs.{Inputs, no_input, input, Lets, no_let, binding, default_name, OutputAt, Outputs}
use Rattle.grammar.specs.Programs as program
use Rattle.grammar.specs.Texts as text
use Rattle.writer.specs.Scalars.{scalar_height}
use Rattle.writer.specs.Relations.{heights, rel_height}
use Rattle.writer.specs.Programs.{lets_height, output_height}
use Rattle.writer.specs.Sources.{Each, Filled, IsScalarSource, IsColumnSource, IsPairSource, IsAggSource, IsRelSource, IsInputSource, IsLetSource, IsOutputSource, IsSource}
use Rattle.writer.proofs.Checks.{filled_each}
use Rattle.writer.proofs.Parsed.{IsSmall, Small, from_scalar, scalar_low, from_cond, cond_low}

-- a phrase of which that holds, as low as it was read
pub record Found {X : Type 0} (S : X → Type 0) (height : X → ℕ) (x : X) (h : ℕ) (us : List Token) : Type 0 where
  pub source : S x
  pub low : height x ≤ h
  pub rest : Small us

abbrev Finds : {X : Type 0} → (List Token → X → ℕ → List Token → Type 0) → (X → Type 0) → (X → ℕ) → Type 0
Finds {X} P S height = (ts us : List Token) (x : X) (h : ℕ) → P ts x h us → Small ts → Found S height x h us

from_list : {X : Type 0} (P : List Token → X → ℕ → List Token → Type 0) (S : X → Type 0) (height : X → ℕ) → Finds P S height → (ts us : List Token) (xs : List X) (h : ℕ) → Listed P ts xs h us → Small ts → Found (Filled S) (heights height) xs h us
from_list P S height each ts us xs h (one d n) s = let a = each _ _ _ _ d s in let l = a.low in record { source = (a.source, tt); low = omega arith; rest = a.rest }
from_list P S height each ts us xs h (more {xs = ys} d r) s =
    let a = each _ _ _ _ d s in
    let b = from_list P S height each _ _ _ _ r a.rest.1 in
    let l = a.low in
    let m = b.low in
    record { source = (a.source, filled_each S ys b.source); low = omega arith; rest = b.rest }

find_scalar : Finds ScalarAt IsScalarSource scalar_height
find_scalar ts us x h d s = let a = from_scalar d.1 s tt in record { source = a.source; low = scalar_low x h a.low; rest = a.rest }

small_at : (ts us : List Token) → ts ≡ us → Small ts → Small us
small_at ts us e s = rw (← e) s

find_column : Finds ColumnAt IsColumnSource (λ c. 1)
find_column ts us x h d s = let a = small_at _ _ d.0 s in let l = d.1 in record { source = a.0; low = omega arith; rest = a.1 }

find_pair : Finds PairAt IsPairSource (λ p. 1)
find_pair ts us x h d s = let a = small_at _ _ d.1 s in let l = d.2 in record { source = (a.0, a.1.1.0); low = omega arith; rest = a.1.1.1 }

find_agg : Finds AggAt IsAggSource (λ g. 1)
find_agg ts us (Count r) h d s = let a = small_at _ _ d.0 s in let l = d.1 in record { source = tt; low = omega arith; rest = a.1 }
find_agg ts us (Sum r c) h d s = let a = small_at _ _ d.0.2 s in let l = d.1 in record { source = a.1.0; low = omega arith; rest = a.1.1 }
find_agg ts us (Min r c) h d s = let a = small_at _ _ d.0.2 s in let l = d.1 in record { source = a.1.0; low = omega arith; rest = a.1.1 }
find_agg ts us (Max r c) h d s = let a = small_at _ _ d.0.2 s in let l = d.1 in record { source = a.1.0; low = omega arith; rest = a.1.1 }

some_one : {X : Type 0} (S : X → Type 0) (xs : List X) → Filled S xs → 1 ≤ heights (λ x. 1) xs
some_one S [] f = absurd f
some_one S (x ∷ xs) f = omega arith

from_rel : {body : List ℕ} {t : RelTree} {h : ℕ} {ts us : List Token} → Reads body ts t h us → Small ts → Found IsRelSource rel_height t h us
from_rel (named n w) s = record { source = n.1; low = omega arith; rest = s.1 }
from_rel (select {xs = xs} {k = k} d r) s =
    let a = from_rel d s.1.1 in
    let b = from_list ScalarAt IsScalarSource scalar_height find_scalar _ _ xs k r a.rest.1 in
    let l = a.low in
    let m = b.low in
    record { source = (a.source, b.source); low = omega arith; rest = b.rest.1 }
from_rel (filter {c = c} {k = k} d r) s =
    let a = from_rel d s.1.1 in
    let b = from_cond r.1 a.rest.1 tt in
    let l = a.low in
    let m = cond_low c k b.low in
    record { source = (a.source, b.source); low = omega arith; rest = b.rest.1 }
from_rel (set_operation e d r) s =
    let a = from_rel d s.1.1 in
    let b = from_rel r a.rest.1 in
    let l = a.low in
    let m = b.low in
    record { source = (a.source, b.source); low = omega arith; rest = b.rest.1 }
from_rel (join {xs = xs} {n = n} d r f) s =
    let a = from_rel d s.1.1 in
    let b = from_rel r a.rest.1 in
    let c = from_list PairAt IsPairSource (λ p. 1) find_pair _ _ xs n f b.rest.1 in
    let o = some_one IsPairSource xs c.source in
    let l = a.low in
    let m = b.low in
    let q = c.low in
    record { source = (a.source, b.source, c.source); low = omega arith; rest = c.rest.1 }
from_rel (group {ks = ks} {xs = xs} {k = k} {n = n} d r f) s =
    let a = from_rel d s.1.1 in
    let b = from_list ColumnAt IsColumnSource (λ c. 1) find_column _ _ ks k r a.rest.1 in
    let c = from_list AggAt IsAggSource (λ g. 1) find_agg _ _ xs n f b.rest.1 in
    let o = some_one IsColumnSource ks b.source in
    let p = some_one IsAggSource xs c.source in
    let l = a.low in
    let m = b.low in
    let q = c.low in
    record { source = (a.source, b.source, c.source); low = omega arith; rest = c.rest.1 }
from_rel (distinct d) s = let a = from_rel d s.1.1 in let l = a.low in record { source = a.source; low = omega arith; rest = a.rest.1 }
from_rel (iterate n i d r) s =
    let a = from_rel d s.1.1.1.1.1.1 in
    let b = from_rel r a.rest.1 in
    let l = a.low in
    let m = b.low in
    record { source = (n, i.1, a.source, b.source); low = omega arith; rest = b.rest.1 }
from_rel (closure z w n i d r) s =
    let a = from_rel d s.1.1.1.1.1.1 in
    let b = from_rel r a.rest.1 in
    let l = a.low in
    let m = b.low in
    record { source = (n, i.1, a.source, b.source); low = omega arith; rest = b.rest.1 }

from_inputs : {body : List ℕ} {is : List Input} {ts us : List Token} → Inputs body ts is us → Small ts → Each IsInputSource is × Small us
from_inputs (no_input n) s = (tt, s)
from_inputs (input n i r) s = let a = from_inputs r s.1.1.1.1.1 in (((i.1, n), a.0), a.1)

from_lets : {body : List ℕ} {ls : List LetTree} {h : ℕ} {ts us : List Token} → Lets body ts ls h us → Small ts → Found (Each IsLetSource) lets_height ls h us
from_lets (no_let n) s = record { source = tt; low = omega arith; rest = s }
from_lets (binding i d r) s =
    let a = from_rel d s.1.1.1 in
    let b = from_lets r a.rest.1 in
    let l = a.low in
    let m = b.low in
    record { source = ((i.1, a.source), b.source); low = omega arith; rest = b.rest }

-- `out` is a name
not_spelled : (k : Keyword) → bytes_eq default_name (keyword_text k) ≡ false
not_spelled keyword.Output = refl
not_spelled k = refl

no_keyword : (k : Keyword) → default_name ≡ keyword_text k → ⊥
no_keyword k e = let same : bytes_eq default_name (keyword_text k) ≡ true = (bytes_eq-Decides default_name (keyword_text k)).1 e in let other = not_spelled k in absurd cc

name_out : IsName default_name
name_out = record { begins = refl; goes_on = refl; short = omega arith; free = no_keyword }

find_output : (body : List ℕ) → Finds (OutputAt body) IsOutputSource output_height
find_output body ts us o h (program.unnamed d) s = let a = from_rel d s.1 in record { source = (name_out, a.source); low = a.low; rest = a.rest.1 }
find_output body ts us o h (program.named i d) s = let a = from_rel d s.1.1.1 in record { source = (i.1, a.source); low = a.low; rest = a.rest.1 }

from_outputs : {body : List ℕ} {os : List OutputTree} {h : ℕ} {ts : List Token} → Outputs body ts os h → Small ts → Filled IsOutputSource os × (heights output_height os ≤ h)
from_outputs {body = body} (program.last d) s = let a = find_output body _ _ _ _ d s in let l = a.low in ((a.source, tt), omega arith)
from_outputs {body = body} (program.more {os = os} d r) s =
    let a = find_output body _ _ _ _ d s in
    let b = from_outputs r a.rest in
    let l = a.low in
    let m = b.1 in
    ((a.source, filled_each IsOutputSource os b.0), omega arith)

-- the tokens of a text are so small
small_kind : (w : List ℕ) (k : TokenKind) → Spells w k → IsSmall k
small_kind w (kind.Column n) s = s.1
small_kind w kind.Name s = tt
small_kind w (kind.Number n) s = tt
small_kind w (kind.Mark m) s = tt
small_kind w (kind.Keyword k) s = tt

small_tokens : (body : List ℕ) (at : ℕ) (ts : List Token) (stop : ℕ) → LexesTo body at ts stop → Small ts
small_tokens body at [] stop l = tt
small_tokens body at (t ∷ ts) stop l = (small_kind _ t.kind l.0.spelled, small_tokens body t.span.end ts stop l.1)

pub is_source : (body : List ℕ) (p : ProgramTree) → text.Reads body p → IsSource p
is_source body p d =
    let s = small_tokens body 0 d.tokens d.lexed.stop d.lexed.tokens in
    let a = from_inputs d.program.inputs s in
    let b = from_lets d.program.lets a.1 in
    let c = from_outputs d.program.outputs b.rest in
    let l = b.low in
    let m = c.1 in
    let e = d.program.is in
    let h = d.low in
    record { inputs = a.0; lets = b.source; outputs = c.0; low = omega arith }
