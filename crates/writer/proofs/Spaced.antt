-- The words of a canonical text are apart.
use Rattle.std.proofs.Common.{◌≡◌, ℕ, ℤ, pos, negsuc, List, [], ◌∷◌, ◌++◌, Bool, true, false, cond, refl, append_assoc}
use Rattle.std.specs.Prelude.{bytes_eq}
use Rattle.std.specs.List.{flat_map}
use Rattle.record_core.specs.Names.{IsName}
use Rattle.record_core.specs.declared.keyword.Keyword.{Keyword}
use Rattle.record_core.specs.declared.keyword.Keyword.TheVariants as keyword
use Rattle.lexer.specs.declared.mark.Mark.{Mark}
use Rattle.lexer.specs.declared.mark.Mark.TheVariants as sign
use Rattle.expr_tree.specs.declared.relation.Column.{Column}
use Rattle.expr_tree.specs.declared.relation.Agg.TheVariants.{Count, Sum, Min, Max}
use Rattle.expr_tree.specs.declared.relation.LoopForm.{LoopForm}
use Rattle.expr_tree.specs.declared.relation.LoopForm.TheVariants.{Iterate, Closure}
use Rattle.expr_tree.specs.declared.program.Input.{Input}
use Rattle.expr_tree.specs.Trees.{ScalarTree, CondTree, RelTree, LetTree, OutputTree, ProgramTree}
use Rattle.grammar.specs.Relations.{operator_keyword}
use Rattle.grammar.specs.Programs.{default_name}
use Rattle.writer.specs.declared.rank.ScalarRank.TheVariants.{Single}
use Rattle.writer.specs.Pieces.{Piece, word, Word, of_mark, of_keyword, space, spaced, in_round, in_square, comma, semicolon, listed, form, headed}
use Rattle.writer.specs.Scalars as scalar
use Rattle.writer.specs.Scalars.{scalar_pieces, scalar_rank}
use Rattle.writer.specs.Conditions as condition
use Rattle.writer.specs.Conditions.{cond_pieces, cond_rank}
use Rattle.writer.specs.Relations.{column_pieces, pair_pieces, agg_of, agg_pieces, loop_word, rel_pieces}
use Rattle.writer.specs.Programs.{line_end, input_pieces, let_pieces, naming, output_pieces, program_pieces}
use Rattle.writer.specs.Sources.{Each, Filled, IsLiteral, IsScalarSource, IsCondSource, IsColumnSource, IsPairSource, IsAggSource, IsRelSource, IsInputSource, IsLetSource, IsOutputSource, IsSource}
use Rattle.writer.proofs.Checks.{filled_each}
use Rattle.writer.proofs.PieceTokens.{closure_name}
use Rattle.writer.proofs.PiecesApart.{Apart, Soft, apart_append, opens, opens_append, no_equal_first}

-- a phrase: words apart, and no `=` first
pub record Fine (ps : List Piece) : Type 0 where
  pub apart : Apart ps
  pub opens : opens ps ≡ true

fine_append : (a b : List Piece) → Fine a → Apart b → Soft b → Fine (a ++ b)
fine_append a b f h s = record { apart = apart_append a b f.apart h s; opens = opens_append a b f.opens }

fine_round : (b : Bool) (ps : List Piece) → Fine ps → Fine (in_round b ps)
fine_round true ps f = record { apart = (refl, no_equal_first (ps ++ of_mark sign.CloseRound ∷ []) (opens_append ps (of_mark sign.CloseRound ∷ []) f.opens), apart_append ps (of_mark sign.CloseRound ∷ []) f.apart (refl, refl, tt) (refl, refl)); opens = refl }
fine_round false ps f = f

fine_square : (b : Bool) (ps : List Piece) → Fine ps → Fine (in_square b ps)
fine_square true ps f = record { apart = (refl, no_equal_first (ps ++ of_mark sign.CloseSquare ∷ []) (opens_append ps (of_mark sign.CloseSquare ∷ []) f.opens), apart_append ps (of_mark sign.CloseSquare ∷ []) f.apart (refl, refl, tt) (refl, refl)); opens = refl }
fine_square false ps f = f

fine_form : (k : Keyword) (ps : List Piece) → Fine ps → Fine (form k ps)
fine_form k ps f = let r = fine_round true ps f in record { apart = (refl, refl, r.apart); opens = refl }

-- two phrases with a mark between them
fine_spaced : (m : Mark) (a b : List Piece) → Fine a → Apart b → Fine (a ++ (spaced m ++ b))
fine_spaced m a b f h = fine_append a (spaced m ++ b) f (refl, (refl, refl, (refl, h))) (refl, refl)

fine_comma : (a b : List Piece) → Fine a → Apart b → Fine (a ++ (comma ++ b))
fine_comma a b f h = fine_append a (comma ++ b) f (refl, refl, (refl, h)) (refl, refl)

fine_semicolon : (a b : List Piece) → Fine a → Apart b → Fine (a ++ (semicolon ++ b))
fine_semicolon a b f h = fine_append a (semicolon ++ b) f (refl, refl, (refl, h)) (refl, refl)

fine_literal : (z : ℤ) → IsLiteral z → Fine (scalar.literal z)
fine_literal (pos n) w = record { apart = ((refl, w), refl, tt); opens = refl }
fine_literal (negsuc n) w = absurd w

pub fine_scalar : (t : ScalarTree) → IsScalarSource t → Fine (scalar_pieces t)
fine_scalar (ScalarTree.literal s z) w = fine_literal z w
fine_scalar (ScalarTree.column s n) w = record { apart = ((refl, w), refl, tt); opens = refl }
fine_scalar (ScalarTree.binary s o a b) w =
    let x = fine_round (scalar.is_below (scalar_rank a) (scalar.rank_of o)) (scalar_pieces a) (fine_scalar a w.0) in
    let y = fine_round (scalar.is_below (scalar_rank b) (scalar.right_of o)) (scalar_pieces b) (fine_scalar b w.1) in
    fine_spaced (scalar.sign_of o) (in_round (scalar.is_below (scalar_rank a) (scalar.rank_of o)) (scalar_pieces a)) (in_round (scalar.is_below (scalar_rank b) (scalar.right_of o)) (scalar_pieces b)) x y.apart
fine_scalar (ScalarTree.negate s a) w =
    let x = fine_round (scalar.is_below (scalar_rank a) Single) (scalar_pieces a) (fine_scalar a w) in
    record { apart = (refl, no_equal_first (in_round (scalar.is_below (scalar_rank a) Single) (scalar_pieces a)) x.opens, x.apart); opens = refl }

pub fine_cond : (t : CondTree) → IsCondSource t → Fine (cond_pieces t)
fine_cond (CondTree.compare s o a b) w = fine_spaced (condition.sign_of o) (scalar_pieces a) (scalar_pieces b) (fine_scalar a w.0) (fine_scalar b w.1).apart
fine_cond (CondTree.logical s o a b) w =
    let x = fine_square (condition.is_below (cond_rank a) (condition.rank_of o)) (cond_pieces a) (fine_cond a w.0) in
    let y = fine_square (condition.is_below (cond_rank b) (condition.right_of o)) (cond_pieces b) (fine_cond b w.1) in
    fine_append (in_square (condition.is_below (cond_rank a) (condition.rank_of o)) (cond_pieces a)) (space ∷ of_keyword (condition.word_of o) ∷ space ∷ in_square (condition.is_below (cond_rank b) (condition.right_of o)) (cond_pieces b)) x (refl, (refl, refl, (refl, y.apart))) (refl, refl)
fine_cond (CondTree.negate s a) w = let x = fine_square true (cond_pieces a) (fine_cond a w) in record { apart = (refl, refl, (refl, x.apart)); opens = refl }

-- each element is a phrase
abbrev AllFine : {X : Type 0} → (X → List Piece) → (X → Type 0) → Type 0
AllFine {X} f S = (x : X) → S x → Fine (f x)

soft_tail : {X : Type 0} (f : X → List Piece) (xs : List X) → Soft (flat_map (λ y. comma ++ f y) xs)
soft_tail f [] = (refl, refl)
soft_tail f (x ∷ xs) = (refl, refl)

apart_tail : {X : Type 0} (f : X → List Piece) (S : X → Type 0) → AllFine f S → (xs : List X) → Each S xs → Apart (flat_map (λ y. comma ++ f y) xs)
apart_tail f S each [] w = tt
apart_tail f S each (x ∷ xs) w = (refl, refl, (refl, apart_append (f x) (flat_map (λ y. comma ++ f y) xs) (each x w.0).apart (apart_tail f S each xs w.1) (soft_tail f xs)))

fine_listed : {X : Type 0} (f : X → List Piece) (S : X → Type 0) → AllFine f S → (xs : List X) → Filled S xs → Fine (listed f xs)
fine_listed f S each [] w = absurd w
fine_listed f S each (x ∷ xs) w = fine_append (f x) (flat_map (λ y. comma ++ f y) xs) (each x w.0) (apart_tail f S each xs w.1) (soft_tail f xs)

fine_column : AllFine column_pieces IsColumnSource
fine_column c w = record { apart = ((refl, w), refl, tt); opens = refl }

fine_pair : AllFine pair_pieces IsPairSource
fine_pair p w = fine_spaced sign.Equal (column_pieces p.left) (column_pieces p.right) (fine_column p.left w.0) (fine_column p.right w.1).apart

fine_of : (k : Keyword) (c : Column) → IsColumnSource c → Fine (agg_of k c)
fine_of k c w = record { apart = (refl, refl, (refl, (fine_column c w).apart)); opens = refl }

fine_agg : AllFine agg_pieces IsAggSource
fine_agg (Count s) w = record { apart = (refl, refl, tt); opens = refl }
fine_agg (Sum s c) w = fine_of keyword.Sum c w
fine_agg (Min s c) w = fine_of keyword.Min c w
fine_agg (Max s c) w = fine_of keyword.Max c w

fine_headed : (f : LoopForm) (ps : List Piece) → Fine ps → Fine (headed (loop_word f) ps)
fine_headed Iterate ps f = let r = fine_round true ps f in record { apart = (refl, refl, r.apart); opens = refl }
fine_headed Closure ps f = let r = fine_round true ps f in record { apart = (closure_name, refl, r.apart); opens = refl }

pub fine_rel : (t : RelTree) → IsRelSource t → Fine (rel_pieces t)
fine_rel (RelTree.named s x) w = record { apart = (w, refl, tt); opens = refl }
fine_rel (RelTree.select s r xs) w = fine_form keyword.Select (rel_pieces r ++ (semicolon ++ listed scalar_pieces xs)) (fine_semicolon (rel_pieces r) (listed scalar_pieces xs) (fine_rel r w.0) (fine_listed scalar_pieces IsScalarSource fine_scalar xs w.1).apart)
fine_rel (RelTree.filter s r c) w = fine_form keyword.Where (rel_pieces r ++ (semicolon ++ cond_pieces c)) (fine_semicolon (rel_pieces r) (cond_pieces c) (fine_rel r w.0) (fine_cond c w.1).apart)
fine_rel (RelTree.set_operation s o a b) w = fine_form (operator_keyword o) (rel_pieces a ++ (comma ++ rel_pieces b)) (fine_comma (rel_pieces a) (rel_pieces b) (fine_rel a w.0) (fine_rel b w.1).apart)
fine_rel (RelTree.join s a b ps) w =
    let second = fine_semicolon (rel_pieces b) (listed pair_pieces ps) (fine_rel b w.1) (fine_listed pair_pieces IsPairSource fine_pair ps w.2).apart in
    fine_form keyword.Join (rel_pieces a ++ (comma ++ (rel_pieces b ++ (semicolon ++ listed pair_pieces ps)))) (fine_comma (rel_pieces a) (rel_pieces b ++ (semicolon ++ listed pair_pieces ps)) (fine_rel a w.0) second.apart)
fine_rel (RelTree.group s r ks gs) w =
    let second = fine_semicolon (listed column_pieces ks) (listed agg_pieces gs) (fine_listed column_pieces IsColumnSource fine_column ks w.1) (fine_listed agg_pieces IsAggSource fine_agg gs w.2).apart in
    fine_form keyword.Group (rel_pieces r ++ (semicolon ++ (listed column_pieces ks ++ (semicolon ++ listed agg_pieces gs)))) (fine_semicolon (rel_pieces r) (listed column_pieces ks ++ (semicolon ++ listed agg_pieces gs)) (fine_rel r w.0) second.apart)
fine_rel (RelTree.distinct s r) w = fine_form keyword.Distinct (rel_pieces r) (fine_rel r w)
fine_rel (RelTree.loop s f t n u x r b) w =
    let second = fine_semicolon (rel_pieces r) (rel_pieces b) (fine_rel r w.2) (fine_rel b w.3).apart in
    fine_headed f (word (Word.number n) ∷ semicolon ++ (word (Word.name x) ∷ spaced sign.Equal ++ (rel_pieces r ++ (semicolon ++ rel_pieces b)))) (record { apart = ((refl, w.0), refl, (refl, refl, (refl, (w.1, refl, (refl, (refl, refl, (refl, second.apart))))))); opens = refl })

-- a semicolon and a line feed end a phrase
apart_line : (ps rest : List Piece) → Apart ps → Apart rest → Apart ((ps ++ line_end) ++ rest)
apart_line ps rest a b = rw (append_assoc ps line_end rest) (apart_append ps (line_end ++ rest) a (refl, refl, (refl, b)) (refl, refl))

apart_inputs : (is : List Input) (rest : List Piece) → Each IsInputSource is → Apart rest → Apart (flat_map input_pieces is ++ rest)
apart_inputs [] rest w a = a
apart_inputs (i ∷ is) rest w a = (refl, refl, (refl, (w.0.0, refl, (refl, refl, ((refl, w.0.1), refl, (refl, refl, (refl, apart_inputs is rest w.1 a)))))))

apart_lets : (ls : List LetTree) (rest : List Piece) → Each IsLetSource ls → Apart rest → Apart (flat_map let_pieces ls ++ rest)
apart_lets [] rest w a = a
apart_lets (l ∷ ls) rest w a =
    let b : Apart ((rel_pieces l.relation ++ line_end) ++ (flat_map let_pieces ls ++ rest)) = apart_line (rel_pieces l.relation) (flat_map let_pieces ls ++ rest) (fine_rel l.relation w.0.1).apart (apart_lets ls rest w.1 a) in
    let c : Apart (((rel_pieces l.relation ++ line_end) ++ flat_map let_pieces ls) ++ rest) = rw (append_assoc (rel_pieces l.relation ++ line_end) (flat_map let_pieces ls) rest) b in
    (refl, refl, (refl, (w.0.0, refl, (refl, (refl, refl, (refl, c))))))

apart_naming : (b : Bool) (x : List ℕ) (ps : List Piece) → IsName x → Apart ps → Apart (cond b [] (word (Word.name x) ∷ spaced sign.Equal) ++ ps)
apart_naming true x ps n a = a
apart_naming false x ps n a = (n, refl, (refl, (refl, refl, (refl, a))))

apart_outputs : (os : List OutputTree) → Each IsOutputSource os → Apart (flat_map output_pieces os)
apart_outputs [] w = tt
apart_outputs (o ∷ os) w =
    let b : Apart ((rel_pieces o.relation ++ line_end) ++ flat_map output_pieces os) = apart_line (rel_pieces o.relation) (flat_map output_pieces os) (fine_rel o.relation w.0.1).apart (apart_outputs os w.1) in
    let c : Apart (naming o.name ++ ((rel_pieces o.relation ++ line_end) ++ flat_map output_pieces os)) = apart_naming (bytes_eq o.name default_name) o.name ((rel_pieces o.relation ++ line_end) ++ flat_map output_pieces os) w.0.0 b in
    let d : Apart ((naming o.name ++ (rel_pieces o.relation ++ line_end)) ++ flat_map output_pieces os) = rw (append_assoc (naming o.name) (rel_pieces o.relation ++ line_end) (flat_map output_pieces os)) c in
    (refl, refl, (refl, d))

pub apart_program : (p : ProgramTree) → IsSource p → Apart (program_pieces p)
apart_program p w =
    let o = apart_outputs p.outputs (filled_each IsOutputSource p.outputs w.outputs) in
    apart_inputs p.inputs (flat_map let_pieces p.lets ++ flat_map output_pieces p.outputs) w.inputs (apart_lets p.lets (flat_map output_pieces p.outputs) w.lets o)
