-- The bytes of pieces that are apart have the tokens of their words.
use Rattle.std.proofs.Common.{◌≡◌, ℕ, suc, ◌<◌, ◌≤◌, ◌+◌, ◌-◌, List, [], ◌∷◌, ◌++◌, length, take, drop, true, refl, sym, ap, subst, ◌∙◌, arith}
use Rattle.std.specs.List.{list_all}
use Rattle.std.proofs.lemmas.Bool.{and_from}
use Rattle.std.proofs.lemmas.List.{drop-drop, drop_at, take_at, length-drop, length-append}
use Rattle.record_core.specs.declared.span.Span.{Span}
use Rattle.lexer.specs.declared.token.Token.{Token}
use Rattle.lexer.specs.declared.token.TokenKind.{TokenKind}
use Rattle.lexer.specs.declared.token.TokenKind.TheVariants as kind
use Rattle.lexer.specs.Lexemes.{is_space, IsLongest}
use Rattle.lexer.specs.Tokens.{Spells, IsNext, LexesTo}
use Rattle.lexer.proofs.Marks.{place}
use Rattle.lexer.proofs.Spelled.{spelled_shape}
use Rattle.grammar.specs.Tokens.{token}
use Rattle.writer.specs.Pieces.{Piece, word, gap, spelling, text_of}
use Rattle.writer.proofs.PieceTokens.{kind_of, IsWordAt, Says}
use Rattle.writer.proofs.Lexemes.{Ends, is_longest}
use Rattle.writer.proofs.PiecesApart.{Apart, ends}

some_bytes : (w : List ℕ) (k : TokenKind) → Spells w k → 0 < length w
some_bytes (b ∷ bs) k s = omega arith
some_bytes [] kind.Name s = let e = spelled_shape [] kind.Name s in absurd cc
some_bytes [] (kind.Number n) s = let e = spelled_shape [] (kind.Number n) s in absurd cc
some_bytes [] (kind.Column n) s = let e = spelled_shape [] (kind.Column n) s in absurd cc
some_bytes [] (kind.Keyword k) s = let e = spelled_shape [] (kind.Keyword k) s in absurd cc
some_bytes [] (kind.Mark m) s = let e = ap length s in let p = (place m).size.0 in omega arith

abbrev span_from : ℕ → ℕ → Span
span_from at n = record { start = at; end = at + n }

within : (text : List ℕ) (at : ℕ) (w r : List ℕ) → drop at text ≡ w ++ r → 0 < length w → at + length w ≤ length text
within text at w r e some = omega (arith, ap length e, length-drop at text, length-append w r)

here : (text : List ℕ) (at : ℕ) (w r : List ℕ) → drop at text ≡ w ++ r → take (at + length w - at) (drop at text) ≡ w
here text at w r e = let n : at + length w - at ≡ length w = omega arith in rw (n, e) (take_at w r (length w) refl)

word_at : (text : List ℕ) (at : ℕ) (w r : List ℕ) → drop at text ≡ w ++ r → 0 < length w → IsWordAt text (span_from at (length w)) w
word_at text at w r e some = (within text at w r e some, here text at w r e)

is_next : (text : List ℕ) (at : ℕ) (w r : List ℕ) (k : TokenKind) → drop at text ≡ w ++ r → Spells w k → Ends k r → IsNext text at (token k (span_from at (length w)))
is_next text at w r k e s stop =
    let some = some_bytes w k s in
    let none : at - at ≡ 0 = omega arith in
    let n : at + length w - at ≡ length w = omega arith in
    let f : IsLongest (w ++ r) (length w) = is_longest w r k s stop in
    let g : IsLongest (drop at text) (length w) = rw e f in
    record {
      after = omega arith;
      spaces = rw none refl;
      order = omega arith;
      longest = rw n g;
      spelled = rw (here text at w r e) s;
    }

shifted : (text : List ℕ) (at b : ℕ) (t : Token) → drop at text ≡ b ∷ drop (at + 1) text → is_space b ≡ true → IsNext text (at + 1) t → IsNext text at t
shifted text at b t e space next =
    let after = next.after in
    let n : t.span.start - at ≡ suc (t.span.start - (at + 1)) = omega arith in
    record {
      after = omega arith;
      spaces = rw (n, e) (and_from (is_space b) (list_all is_space (take (t.span.start - (at + 1)) (drop (at + 1) text))) space next.spaces);
      order = next.order;
      longest = next.longest;
      spelled = next.spelled;
    }

pub record Lexed (text : List ℕ) (at : ℕ) (ps : List Piece) : Type 0 where
  pub ts : List Token
  pub stop : ℕ
  pub tokens : LexesTo text at ts stop
  pub rest : list_all is_space (drop stop text) ≡ true
  pub said : Says text ps ts []

over_gap : (text : List ℕ) (at b : ℕ) (ps : List Piece) (ts : List Token) (stop : ℕ) → drop at text ≡ b ∷ drop (at + 1) text → is_space b ≡ true → LexesTo text (at + 1) ts stop → list_all is_space (drop stop text) ≡ true → Says text ps ts [] → Lexed text at (gap b ∷ ps)
over_gap text at b ps [] stop e space tokens rest said =
    let f : list_all is_space (drop (at + 1) text) ≡ true = subst (λ (i : ℕ). list_all is_space (drop i text) ≡ true) (sym tokens) rest in
    record { ts = []; stop = at; tokens = refl; rest = rw e (and_from (is_space b) (list_all is_space (drop (at + 1) text)) space f); said = said }
over_gap text at b ps (t ∷ ts) stop e space tokens rest said = record { ts = t ∷ ts; stop = stop; tokens = (shifted text at b t e space tokens.0, tokens.1); rest = rest; said = said }

pub lexed : (text : List ℕ) (ps : List Piece) (at : ℕ) → drop at text ≡ text_of ps → Apart ps → Lexed text at ps
lexed text [] at e a = record { ts = []; stop = at; tokens = refl; rest = rw e refl; said = refl }
lexed text (gap b ∷ ps) at e a =
    let f : drop (at + 1) text ≡ text_of ps = sym (drop-drop 1 at text) ∙ ap (drop 1) e in
    let g : drop at text ≡ b ∷ drop (at + 1) text = e ∙ ap (λ xs. b ∷ xs) (sym f) in
    let c = lexed text ps (at + 1) f a.1 in
    over_gap text at b ps c.ts c.stop g a.0 c.tokens c.rest c.said
lexed text (word x ∷ ps) at e a =
    let w : List ℕ = spelling x in
    let f : drop (at + length (spelling x)) text ≡ text_of ps = sym (drop-drop (length (spelling x)) at text) ∙ (ap (drop (length (spelling x))) e ∙ drop_at (spelling x) (text_of ps) (length (spelling x)) refl) in
    let c = lexed text ps (at + length (spelling x)) f a.2 in
    record {
      ts = token (kind_of x) (span_from at (length (spelling x))) ∷ c.ts;
      stop = c.stop;
      tokens = (is_next text at (spelling x) (text_of ps) (kind_of x) e a.0 (ends x ps a.1 a.2), c.tokens);
      rest = c.rest;
      said = (span_from at (length (spelling x)), c.ts, refl, word_at text at (spelling x) (text_of ps) e (some_bytes (spelling x) (kind_of x) a.0), c.said);
    }
