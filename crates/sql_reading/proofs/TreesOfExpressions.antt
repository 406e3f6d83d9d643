-- The trees of signs of expressions and conditions, and what they say.
use Rattle.std.proofs.Common.{◌≡◌, ℕ, ◌<◌, ◌^◌, Bool, true, false, cond, ◌&&◌, ◌++◌, ℤ, pos, negsuc, refl, sym, ap, ap₂, ◌∙◌, append-nil, arith, codes, FitsSigned, w64}
use Rattle.std.specs.Int.Signed.{mag}
use Rattle.std.proofs.lemmas.Int.{ints}
use Rattle.semantics.specs.Query.{Comparison}
use Rattle.sql_meaning.specs.Script.{Expression, Search}
use Rattle.sql.specs.Dialects.{dialect_of, arithmetic_of, wrap_open, wrap_close}
use Rattle.sql_reading.specs.Readable as readable
use Rattle.sql_reading.specs.Said.{said_expression, said_search}
use Rattle.sql.specs.Text.{operand_text, expression_text, search_text, comparison_text, compare_text, needs_guard, is_simple, bracketed, guarded_text}
use Rattle.sql.specs.declared.form.Arithmetic.{Arithmetic}
use Rattle.sql.specs.declared.form.Arithmetic.TheVariants.{Plain, Wrapped}
use Rattle.sql.specs.declared.form.Form.{Form}
use Rattle.sql.specs.declared.form.Form.TheVariants as form
use Rattle.sql_reading.proofs.PrefixWords.{Text}
use Rattle.sql_reading.proofs.TreesReadBack.{Sign, Tree, tree_text, IsShort}

-- ---- the tree of an expression

abbrev pub operand : Form → Tree → Tree
operand (form.Postgres Plain) t = t
operand (form.Postgres Wrapped) t = Tree.cast t
operand form.Sqlite t = t
operand (form.Spark Plain) t = t
operand (form.Spark Wrapped) t = Tree.cast t

abbrev pub wrapping : Arithmetic → Tree → Tree
wrapping Plain t = t
wrapping Wrapped t = Tree.wrap t

abbrev pub tree : Form → Expression → Tree
tree a (Expression.column c) = Tree.column c
tree a (Expression.number z) = Tree.number z
tree a (Expression.sum d e) = Tree.binary Sign.plus (operand a (tree a d)) (operand a (tree a e))
tree a (Expression.difference d e) = Tree.binary Sign.minus (operand a (tree a d)) (operand a (tree a e))
tree a (Expression.product d e) = Tree.binary Sign.times (operand a (tree a d)) (operand a (tree a e))
tree a (Expression.opposite e) = Tree.negated (operand a (tree a e))
tree a (Expression.wrapped e) = wrapping (arithmetic_of a) (tree a e)

-- ---- its text is that of the expression

operand_is : (a : Form) (t : Tree) → tree_text a (operand a t) ≡ operand_text a (tree_text a t)
operand_is (form.Postgres Plain) t = sym (append-nil (tree_text (form.Postgres Plain) t))
operand_is (form.Postgres Wrapped) t = refl
operand_is form.Sqlite t = sym (append-nil (tree_text form.Sqlite t))
operand_is (form.Spark Plain) t = sym (append-nil (tree_text (form.Spark Plain) t))
operand_is (form.Spark Wrapped) t = refl

wrapping_is : (a : Form) (t : Tree) → tree_text a (wrapping (arithmetic_of a) t) ≡ wrap_open (arithmetic_of a) ++ (tree_text a t ++ wrap_close (arithmetic_of a))
wrapping_is (form.Postgres Plain) t = sym (append-nil (tree_text (form.Postgres Plain) t))
wrapping_is (form.Postgres Wrapped) t = refl
wrapping_is form.Sqlite t = sym (append-nil (tree_text form.Sqlite t))
wrapping_is (form.Spark Plain) t = sym (append-nil (tree_text (form.Spark Plain) t))
wrapping_is (form.Spark Wrapped) t = refl

operand_of : (a : Form) (t : Tree) (u : Text) → tree_text a t ≡ u → tree_text a (operand a t) ≡ operand_text a u
operand_of a t u e = operand_is a t ∙ ap (operand_text a) e

pub tree_is : (a : Form) (e : Expression) → tree_text a (tree a e) ≡ expression_text a e
tree_is a (Expression.column c) = refl
tree_is a (Expression.number z) = refl
tree_is a (Expression.sum d e) = ap₂ (bracketed (codes " + ")) (operand_of a (tree a d) (expression_text a d) (tree_is a d)) (operand_of a (tree a e) (expression_text a e) (tree_is a e))
tree_is a (Expression.difference d e) = ap₂ (bracketed (codes " - ")) (operand_of a (tree a d) (expression_text a d) (tree_is a d)) (operand_of a (tree a e) (expression_text a e) (tree_is a e))
tree_is a (Expression.product d e) = ap₂ (bracketed (codes " * ")) (operand_of a (tree a d) (expression_text a d) (tree_is a d)) (operand_of a (tree a e) (expression_text a e) (tree_is a e))
tree_is a (Expression.opposite e) = ap (λ (t : Text). codes "(- " ++ (t ++ codes ")")) (operand_of a (tree a e) (expression_text a e) (tree_is a e))
tree_is a (Expression.wrapped e) = wrapping_is a (tree a e) ∙ ap (λ (t : Text). wrap_open (arithmetic_of a) ++ (t ++ wrap_close (arithmetic_of a))) (tree_is a e)

-- ---- and it says the expression

abbrev operation : Sign → Expression → Expression → Expression
operation Sign.plus d e = Expression.sum d e
operation Sign.minus d e = Expression.difference d e
operation Sign.times d e = Expression.product d e
operation Sign.conjunction d e = d
operation Sign.disjunction d e = d
operation (Sign.comparison o) d e = d

abbrev pub back : Tree → Expression
back (Tree.column c) = Expression.column c
back (Tree.number z) = Expression.number z
back (Tree.cast t) = back t
back (Tree.wrap t) = Expression.wrapped (back t)
back (Tree.negated t) = Expression.opposite (back t)
back (Tree.no t) = back t
back (Tree.binary o l r) = operation o (back l) (back r)
back (Tree.guarded o l r) = back l

back_operand : (a : Form) (t : Tree) → back (operand a t) ≡ back t
back_operand (form.Postgres Plain) t = refl
back_operand (form.Postgres Wrapped) t = refl
back_operand form.Sqlite t = refl
back_operand (form.Spark Plain) t = refl
back_operand (form.Spark Wrapped) t = refl

-- how what is said of an expression goes over its parts
said_binary : (m : Arithmetic) (d e : Expression) → (said_expression m (Expression.sum d e) ≡ Expression.sum (said_expression m d) (said_expression m e))
    × (said_expression m (Expression.difference d e) ≡ Expression.difference (said_expression m d) (said_expression m e))
    × (said_expression m (Expression.product d e) ≡ Expression.product (said_expression m d) (said_expression m e))
said_binary Plain d e = (refl, refl, refl)
said_binary Wrapped d e = (refl, refl, refl)

said_leaf : (m : Arithmetic) (c : ℕ) (z : ℤ) → (said_expression m (Expression.column c) ≡ Expression.column c) × (said_expression m (Expression.number z) ≡ Expression.number z)
said_leaf Plain c z = (refl, refl)
said_leaf Wrapped c z = (refl, refl)

said_opposite : (m : Arithmetic) (e : Expression) → said_expression m (Expression.opposite e) ≡ Expression.opposite (said_expression m e)
said_opposite Plain e = refl
said_opposite Wrapped e = refl

back_wrapping : (m : Arithmetic) (t : Tree) (e : Expression) → back t ≡ said_expression m e → back (wrapping m t) ≡ said_expression m (Expression.wrapped e)
back_wrapping Plain t e h = h
back_wrapping Wrapped t e h = ap Expression.wrapped h

pub back_tree : (a : Form) (e : Expression) → back (tree a e) ≡ said_expression (arithmetic_of a) e
back_tree a (Expression.column c) = sym (said_leaf (arithmetic_of a) c (pos 0)).0
back_tree a (Expression.number z) = sym (said_leaf (arithmetic_of a) 0 z).1
back_tree a (Expression.sum d e) = ap₂ Expression.sum (back_operand a (tree a d) ∙ back_tree a d) (back_operand a (tree a e) ∙ back_tree a e) ∙ sym (said_binary (arithmetic_of a) d e).0
back_tree a (Expression.difference d e) = ap₂ Expression.difference (back_operand a (tree a d) ∙ back_tree a d) (back_operand a (tree a e) ∙ back_tree a e) ∙ sym (said_binary (arithmetic_of a) d e).1
back_tree a (Expression.product d e) = ap₂ Expression.product (back_operand a (tree a d) ∙ back_tree a d) (back_operand a (tree a e) ∙ back_tree a e) ∙ sym (said_binary (arithmetic_of a) d e).2
back_tree a (Expression.opposite e) = ap Expression.opposite (back_operand a (tree a e) ∙ back_tree a e) ∙ sym (said_opposite (arithmetic_of a) e)
back_tree a (Expression.wrapped e) = back_wrapping (arithmetic_of a) (tree a e) e (back_tree a e)

-- ---- conditions

abbrev compared : Bool → Comparison → Tree → Tree → Tree
compared b o l r = cond b (Tree.guarded (Sign.comparison o) l r) (Tree.binary (Sign.comparison o) l r)

abbrev pub search_tree : Form → Search → Tree
search_tree a (Search.compare o d e) = compared (needs_guard (dialect_of a) (is_simple d && is_simple e)) o (tree a d) (tree a e)
search_tree a (Search.both c d) = Tree.binary Sign.conjunction (search_tree a c) (search_tree a d)
search_tree a (Search.either c d) = Tree.binary Sign.disjunction (search_tree a c) (search_tree a d)
search_tree a (Search.no c) = Tree.no (search_tree a c)

compared_is : (a : Form) (b : Bool) (o : Comparison) (l r : Tree) (t u : Text) → tree_text a l ≡ t → tree_text a r ≡ u → tree_text a (compared b o l r) ≡ compare_text b (comparison_text o) t u
compared_is a true o l r t u e f = ap₂ (guarded_text (comparison_text o)) e f
compared_is a false o l r t u e f = ap₂ (bracketed (comparison_text o)) e f

pub search_tree_is : (a : Form) (c : Search) → tree_text a (search_tree a c) ≡ search_text a c
search_tree_is a (Search.compare o d e) =
    compared_is a (needs_guard (dialect_of a) (is_simple d && is_simple e)) o (tree a d) (tree a e) (expression_text a d) (expression_text a e) (tree_is a d) (tree_is a e)
search_tree_is a (Search.both c d) = ap₂ (bracketed (codes " AND ")) (search_tree_is a c) (search_tree_is a d)
search_tree_is a (Search.either c d) = ap₂ (bracketed (codes " OR ")) (search_tree_is a c) (search_tree_is a d)
search_tree_is a (Search.no c) = ap (λ (t : Text). codes "(NOT " ++ (t ++ codes ")")) (search_tree_is a c)

-- a condition that no tree stands for
abbrev nothing : Search
nothing = Search.compare Comparison.equal (Expression.column 0) (Expression.column 0)

abbrev condition : Sign → Expression → Expression → Search → Search → Search
condition Sign.plus d e f g = nothing
condition Sign.minus d e f g = nothing
condition Sign.times d e f g = nothing
condition Sign.conjunction d e f g = Search.both f g
condition Sign.disjunction d e f g = Search.either f g
condition (Sign.comparison o) d e f g = Search.compare o d e

abbrev pub back_search : Tree → Search
back_search (Tree.column c) = nothing
back_search (Tree.number z) = nothing
back_search (Tree.cast t) = nothing
back_search (Tree.wrap t) = nothing
back_search (Tree.negated t) = nothing
back_search (Tree.no t) = Search.no (back_search t)
back_search (Tree.binary o l r) = condition o (back l) (back r) (back_search l) (back_search r)
back_search (Tree.guarded o l r) = condition o (back l) (back r) nothing nothing

back_compared : (b : Bool) (o : Comparison) (l r : Tree) → back_search (compared b o l r) ≡ Search.compare o (back l) (back r)
back_compared true o l r = refl
back_compared false o l r = refl

said_parts : (m : Arithmetic) (c d : Search) → (said_search m (Search.both c d) ≡ Search.both (said_search m c) (said_search m d))
    × (said_search m (Search.either c d) ≡ Search.either (said_search m c) (said_search m d)) × (said_search m (Search.no c) ≡ Search.no (said_search m c))
said_parts Plain c d = (refl, refl, refl)
said_parts Wrapped c d = (refl, refl, refl)

said_compare : (m : Arithmetic) (o : Comparison) (d e : Expression) → said_search m (Search.compare o d e) ≡ Search.compare o (said_expression m d) (said_expression m e)
said_compare Plain o d e = refl
said_compare Wrapped o d e = refl

pub back_search_tree : (a : Form) (c : Search) → back_search (search_tree a c) ≡ said_search (arithmetic_of a) c
back_search_tree a (Search.compare o d e) =
    back_compared (needs_guard (dialect_of a) (is_simple d && is_simple e)) o (tree a d) (tree a e)
    ∙ ap₂ (Search.compare o) (back_tree a d) (back_tree a e) ∙ sym (said_compare (arithmetic_of a) o d e)
back_search_tree a (Search.both c d) = ap₂ Search.both (back_search_tree a c) (back_search_tree a d) ∙ sym (said_parts (arithmetic_of a) c d).0
back_search_tree a (Search.either c d) = ap₂ Search.either (back_search_tree a c) (back_search_tree a d) ∙ sym (said_parts (arithmetic_of a) c d).1
back_search_tree a (Search.no c) = ap Search.no (back_search_tree a c) ∙ sym (said_parts (arithmetic_of a) c c).2

-- ---- with numbers of 64 bits

fits_mag : (z : ℤ) → FitsSigned w64 z → mag z < 2 ^ 63
fits_mag (pos n) fits = omega (arith, ints)
fits_mag (negsuc n) fits = omega (arith, ints)

short_operand : (a : Form) (t : Tree) → IsShort t → IsShort (operand a t)
short_operand (form.Postgres Plain) t h = h
short_operand (form.Postgres Wrapped) t h = h
short_operand form.Sqlite t h = h
short_operand (form.Spark Plain) t h = h
short_operand (form.Spark Wrapped) t h = h

short_wrapping : (m : Arithmetic) (t : Tree) → IsShort t → IsShort (wrapping m t)
short_wrapping Plain t h = h
short_wrapping Wrapped t h = h

pub short_tree : (a : Form) (e : Expression) → readable.IsShort e → IsShort (tree a e)
short_tree a (Expression.column c) h = h
short_tree a (Expression.number z) h = fits_mag z h
short_tree a (Expression.sum d e) h = (short_operand a (tree a d) (short_tree a d h.0), short_operand a (tree a e) (short_tree a e h.1))
short_tree a (Expression.difference d e) h = (short_operand a (tree a d) (short_tree a d h.0), short_operand a (tree a e) (short_tree a e h.1))
short_tree a (Expression.product d e) h = (short_operand a (tree a d) (short_tree a d h.0), short_operand a (tree a e) (short_tree a e h.1))
short_tree a (Expression.opposite e) h = short_operand a (tree a e) (short_tree a e h)
short_tree a (Expression.wrapped e) h = short_wrapping (arithmetic_of a) (tree a e) (short_tree a e h)

short_compared : (b : Bool) (o : Comparison) (l r : Tree) → IsShort l → IsShort r → IsShort (compared b o l r)
short_compared true o l r h k = (h, k)
short_compared false o l r h k = (h, k)

pub short_search_tree : (a : Form) (c : Search) → readable.IsShortSearch c → IsShort (search_tree a c)
short_search_tree a (Search.compare o d e) h =
    short_compared (needs_guard (dialect_of a) (is_simple d && is_simple e)) o (tree a d) (tree a e) (short_tree a d h.0) (short_tree a e h.1)
short_search_tree a (Search.both c d) h = (short_search_tree a c h.0, short_search_tree a d h.1)
short_search_tree a (Search.either c d) h = (short_search_tree a c h.0, short_search_tree a d h.1)
short_search_tree a (Search.no c) h = short_search_tree a c h
