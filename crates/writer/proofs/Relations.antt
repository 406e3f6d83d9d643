-- The canonical text of a relation reads as that relation.
use Rattle.std.proofs.Common.{◌≡◌, ℕ, suc, max, ◌<◌, ◌^◌, subst, sym, List, [], ◌∷◌, ◌++◌, refl, ap, ap₂, ◌∙◌}
use Rattle.record_core.specs.declared.span.Span.{Span}
use Rattle.record_core.specs.declared.keyword.Keyword.{Keyword}
use Rattle.record_core.specs.declared.keyword.Keyword.TheVariants as keyword
use Rattle.record_core.specs.Names.{IsName}
use Rattle.expr_tree.specs.Trees.{RelTree}
use Rattle.expr_tree.specs.declared.relation.LoopForm.{LoopForm}
use Rattle.expr_tree.specs.declared.relation.LoopForm.TheVariants.{Iterate, Closure}
use Rattle.expr_tree.specs.Plain.{plain_rel, plain_set_operation, plain_scalar, plain_pair, plain_agg}
use Rattle.lexer.specs.declared.token.Token.{Token}
use Rattle.lexer.specs.declared.token.TokenKind.TheVariants as kind
use Rattle.lexer.specs.declared.mark.Mark.{Mark}
use Rattle.lexer.specs.declared.mark.Mark.TheVariants as sign
use Rattle.grammar.specs.Tokens.{reaching, token, mark_at, keyword_at, NoMark}
use Rattle.grammar.specs.Scalars.{ScalarAt}
use Rattle.grammar.specs.Relations.{Reads, named, select, filter, set_operation, join, group, distinct, iterate, closure, closure_word, piece, IsNameAt, ColumnAt, PairAt, AggAt}
use Rattle.writer.specs.Pieces.{Piece, word, Word, of_mark, space, spaced, comma, semicolon, listed, form, headed, spelling}
use Rattle.writer.specs.Scalars.{scalar_pieces, scalar_height}
use Rattle.writer.specs.Conditions.{cond_pieces}
use Rattle.writer.specs.Relations.{column_pieces, pair_pieces, agg_pieces, loop_word, rel_pieces, rel_height}
use Rattle.writer.specs.Sources.{IsScalarSource, IsColumnSource, IsPairSource, IsAggSource, IsRelSource}
use Rattle.writer.proofs.PieceTokens.{Says, IsWordAt, closure_name, cut, kind_of}
use Rattle.writer.proofs.Lists.{list_back, low_list, scalar_back, column_back, pair_back, agg_back}
use Rattle.writer.proofs.Conditions as conditions

pub record RelBack (text : List ℕ) (t : RelTree) (n : ℕ) (ts us : List Token) : Type 0 where
  pub tree : RelTree
  pub same : plain_rel tree ≡ plain_rel t
  pub reads : Reads text ts tree n us

-- a keyword, and what it takes
pub record Formed (text : List ℕ) (k : Keyword) (ps : List Piece) (ts us : List Token) : Type 0 where
  pub start : Span
  pub bracket : Span
  pub end : Span
  pub inside : List Token
  pub is : ts ≡ keyword_at k start ∷ mark_at sign.OpenRound bracket ∷ inside
  pub said : Says text ps inside (mark_at sign.CloseRound end ∷ us)

formed : {text : List ℕ} {k : Keyword} (ps : List Piece) {ts us : List Token} → Says text (form k ps) ts us → Formed text k ps ts us
formed {k = k} ps s =
    let o = s.4 in
    let c = cut ps (of_mark sign.CloseRound ∷ []) o.4 in
    let z = c.second in
    record {
      start = s.0;
      bracket = o.0;
      end = z.0;
      inside = o.1;
      is = s.2 ∙ ap (λ v. keyword_at k s.0 ∷ v) o.2;
      said = rw (z.2, z.4) at c.first;
    }

-- the same of a word
pub record Worded (text : List ℕ) (x : Word) (ps : List Piece) (ts us : List Token) : Type 0 where
  pub start : Span
  pub bracket : Span
  pub end : Span
  pub inside : List Token
  pub at : IsWordAt text start (spelling x)
  pub is : ts ≡ token (kind_of x) start ∷ mark_at sign.OpenRound bracket ∷ inside
  pub said : Says text ps inside (mark_at sign.CloseRound end ∷ us)

worded : {text : List ℕ} (x : Word) (ps : List Piece) {ts us : List Token} → Says text (headed x ps) ts us → Worded text x ps ts us
worded x ps s =
    let o = s.4 in
    let c = cut ps (of_mark sign.CloseRound ∷ []) o.4 in
    let z = c.second in
    record {
      start = s.0;
      bracket = o.0;
      end = z.0;
      inside = o.1;
      at = s.3;
      is = s.2 ∙ ap (λ v. token (kind_of x) s.0 ∷ v) o.2;
      said = rw (z.2, z.4) at c.first;
    }

-- what comes before a mark and after it
pub record Halves (text : List ℕ) (m : Mark) (a b : List Piece) (ts us : List Token) : Type 0 where
  pub place : Span
  pub vs : List Token
  pub first : Says text a ts (mark_at m place ∷ vs)
  pub second : Says text b vs us

pub halves : {text : List ℕ} {m : Mark} (a b : List Piece) {ts us : List Token} → Says text (a ++ (of_mark m ∷ space ∷ b)) ts us → Halves text m a b ts us
halves {m = m} a b s =
    let c = cut a (of_mark m ∷ space ∷ b) s in
    let z = c.second in
    record { place = z.0; vs = z.1; first = rw z.2 at c.first; second = z.4 }

pub is_name_at : (text : List ℕ) (s : Span) (x : List ℕ) → IsName x → IsWordAt text s x → IsNameAt text s
is_name_at text s x n w = (w.0, rw w.1 n)

-- the same, at tokens that are known by an equation
reads_at : {text : List ℕ} {t : RelTree} {h : ℕ} {ts us vs zs : List Token} → ts ≡ zs → vs ≡ us → Reads text zs t h vs → Reads text ts t h us
reads_at e f d = rw (e, ← f) d

loop_reads : {text : List ℕ} {s o d p x i j q : Span} {n h k : ℕ} {r b : RelTree} {ts us vs : List Token} (f : LoopForm) → IsWordAt text s (spelling (loop_word f)) → n < 2 ^ 63
    → IsNameAt text x → Reads text ts r h (mark_at sign.Semicolon j ∷ us) → Reads text us b k (mark_at sign.CloseRound q ∷ vs)
    → Reads text
    (token (kind_of (loop_word f)) s ∷ mark_at sign.OpenRound o ∷ token (kind.Number n) d ∷ mark_at sign.Semicolon p
    ∷ token kind.Name x ∷ mark_at sign.Equal i ∷ ts)
    (RelTree.loop (reaching s q) f d n x (piece text x) r b) (suc (max h k)) vs
loop_reads Iterate w a b c d = iterate a b c d
loop_reads {text = text} {s = s} Closure w a b c d = closure (is_name_at text s closure_word closure_name w) w.1 a b c d

pub rel_back : (text : List ℕ) (t : RelTree) → IsRelSource t → (ts us : List Token) → Says text (rel_pieces t) ts us → NoMark sign.OpenRound us → RelBack text t (rel_height t) ts us
rel_back text (RelTree.named r x) w ts us s z = record {
  tree = RelTree.named s.0 (piece text s.0);
  same = cc s.3.1;
  reads = reads_at s.2 s.4 (named (is_name_at text s.0 x w s.3) (λ e. subst (NoMark sign.OpenRound) (sym s.4) z));
}
rel_back text (RelTree.select r a xs) w ts us s z =
    let f = formed (rel_pieces a ++ (semicolon ++ listed scalar_pieces xs)) s in
    let h = halves (rel_pieces a) (listed scalar_pieces xs) f.said in
    let p = rel_back text a w.0 f.inside (mark_at sign.Semicolon h.place ∷ h.vs) h.first (λ e. cc) in
    let q = list_back text ScalarAt scalar_pieces plain_scalar scalar_height IsScalarSource (scalar_back text) xs w.1 h.vs (mark_at sign.CloseRound f.end ∷ us) h.second (refl, refl) (λ e. cc) in
    record { tree = RelTree.select (reaching f.start f.end) p.tree q.values; same = cc (p.same, q.same); reads = reads_at f.is refl (select p.reads q.reads) }
rel_back text (RelTree.filter r a c) w ts us s z =
    let f = formed (rel_pieces a ++ (semicolon ++ cond_pieces c)) s in
    let h = halves (rel_pieces a) (cond_pieces c) f.said in
    let p = rel_back text a w.0 f.inside (mark_at sign.Semicolon h.place ∷ h.vs) h.first (λ e. cc) in
    let q = conditions.reads_back text c w.1 h.vs (mark_at sign.CloseRound f.end ∷ us) h.second (refl, refl) refl refl in
    record { tree = RelTree.filter (reaching f.start f.end) p.tree q.tree; same = cc (p.same, q.same); reads = reads_at f.is refl (filter p.reads (q.extent, q.reads)) }
rel_back text (RelTree.set_operation r o a b) w ts us s z =
    let f = formed (rel_pieces a ++ (comma ++ rel_pieces b)) s in
    let h = halves (rel_pieces a) (rel_pieces b) f.said in
    let p = rel_back text a w.0 f.inside (mark_at sign.Comma h.place ∷ h.vs) h.first (λ e. cc) in
    let q = rel_back text b w.1 h.vs (mark_at sign.CloseRound f.end ∷ us) h.second (λ e. cc) in
    record { tree = RelTree.set_operation (reaching f.start f.end) o p.tree q.tree; same = ap₂ (plain_set_operation o) p.same q.same; reads = reads_at f.is refl (set_operation refl p.reads q.reads) }
rel_back text (RelTree.join r a b xs) w ts us s z =
    let f = formed (rel_pieces a ++ (comma ++ (rel_pieces b ++ (semicolon ++ listed pair_pieces xs)))) s in
    let h = halves (rel_pieces a) (rel_pieces b ++ (semicolon ++ listed pair_pieces xs)) f.said in
    let i = halves (rel_pieces b) (listed pair_pieces xs) h.second in
    let p = rel_back text a w.0 f.inside (mark_at sign.Comma h.place ∷ h.vs) h.first (λ e. cc) in
    let q = rel_back text b w.1 h.vs (mark_at sign.Semicolon i.place ∷ i.vs) i.first (λ e. cc) in
    let o = low_list text PairAt pair_pieces plain_pair IsPairSource (pair_back text) xs w.2 i.vs (mark_at sign.CloseRound f.end ∷ us) i.second (refl, refl) (λ e. cc) in
    record { tree = RelTree.join (reaching f.start f.end) p.tree q.tree o.values; same = cc (p.same, q.same, o.same); reads = reads_at f.is refl (join p.reads q.reads o.reads) }
rel_back text (RelTree.group r a ks xs) w ts us s z =
    let f = formed (rel_pieces a ++ (semicolon ++ (listed column_pieces ks ++ (semicolon ++ listed agg_pieces xs)))) s in
    let h = halves (rel_pieces a) (listed column_pieces ks ++ (semicolon ++ listed agg_pieces xs)) f.said in
    let i = halves (listed column_pieces ks) (listed agg_pieces xs) h.second in
    let p = rel_back text a w.0 f.inside (mark_at sign.Semicolon h.place ∷ h.vs) h.first (λ e. cc) in
    let q = low_list text ColumnAt column_pieces (λ c. c.index) IsColumnSource (column_back text) ks w.1 h.vs (mark_at sign.Semicolon i.place ∷ i.vs) i.first (refl, refl) (λ e. cc) in
    let o = low_list text AggAt agg_pieces plain_agg IsAggSource (agg_back text) xs w.2 i.vs (mark_at sign.CloseRound f.end ∷ us) i.second (refl, refl) (λ e. cc) in
    record { tree = RelTree.group (reaching f.start f.end) p.tree q.values o.values; same = cc (p.same, q.same, o.same); reads = reads_at f.is refl (group p.reads q.reads o.reads) }
rel_back text (RelTree.distinct r a) w ts us s z =
    let f = formed (rel_pieces a) s in
    let p = rel_back text a w f.inside (mark_at sign.CloseRound f.end ∷ us) f.said (λ e. cc) in
    record { tree = RelTree.distinct (reaching f.start f.end) p.tree; same = cc p.same; reads = reads_at f.is refl (distinct p.reads) }
rel_back text (RelTree.loop r f d n u x a b) w ts us s z =
    let g = worded (loop_word f) (word (Word.number n) ∷ semicolon ++ (word (Word.name x) ∷ spaced sign.Equal ++ (rel_pieces a ++ (semicolon ++ rel_pieces b)))) s in
    let i = g.said in
    let j = i.4 in
    let k = j.4 in
    let l = k.4 in
    let h = halves (rel_pieces a) (rel_pieces b) l.4 in
    let p = rel_back text a w.2 l.1 (mark_at sign.Semicolon h.place ∷ h.vs) h.first (λ e. cc) in
    let q = rel_back text b w.3 h.vs (mark_at sign.CloseRound g.end ∷ us) h.second (λ e. cc) in
    record {
      tree = RelTree.loop (reaching g.start g.end) f i.0 n k.0 (piece text k.0) p.tree q.tree;
      same = cc (p.same, q.same, k.3.1);
      reads = reads_at (g.is ∙ ap (λ v. token (kind_of (loop_word f)) g.start ∷ mark_at sign.OpenRound g.bracket ∷ v) (i.2 ∙ ap (λ v. token (kind.Number n) i.0 ∷ v) (j.2 ∙ ap (λ v. mark_at sign.Semicolon j.0 ∷ v) (k.2 ∙ ap (λ v. token kind.Name k.0 ∷ v) l.2)))) refl (loop_reads f g.at w.0 (is_name_at text k.0 x w.1 k.3) p.reads q.reads);
    }
