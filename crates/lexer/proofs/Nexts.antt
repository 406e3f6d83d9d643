-- What comes next in the text.
use Rattle.std.proofs.Common.{◌≡◌, ◌<◌, ◌≤◌, ◌+◌, ◌-◌, ℕ, zero, suc, List, [], ◌∷◌, ◌++◌, length, take, drop, refl, sym, subst, arith, get_or, inr}
use Rattle.std.specs.Bool.{IsTrue}
use Rattle.std.specs.List.{All, list_all}
use Rattle.std.proofs.lemmas.List.{length-drop, take_all}
use Rattle.lexer.specs.declared.token.Token.{Token}
use Rattle.lexer.specs.declared.token.TokenKind.{TokenKind}
use Rattle.lexer.specs.Lexemes.{is_space, shape_of, IsLexeme, IsLongest}
use Rattle.lexer.specs.Tokens.{Spells, IsNext, IsPlaced, LexesTo}
use Rattle.lexer.specs.Faults.{IsMisspelled, IsFault, fault_code}

-- `&text[at..]`
abbrev pub tail_of : List ℕ → ℕ → List ℕ
tail_of text at = take (length text - at) (drop at text)

tail_is : (text : List ℕ) (at : ℕ) → tail_of text at ≡ drop at text
tail_is text at = take_all (length text - at) (drop at text) (omega (arith, length-drop at text))

-- the white space before it
pub spaced : (text : List ℕ) (at n : ℕ) → IsTrue (list_all is_space (take n (tail_of text at))) → IsTrue (list_all is_space (take (at + n - at) (drop at text)))
spaced text at n each =
    let e : at + n - at ≡ n = omega arith in
    rw e (subst (λ (x : List ℕ). IsTrue (list_all is_space (take n x))) (tail_is text at) each)

some_bytes : (bytes : List ℕ) (n : ℕ) → IsLexeme (take n bytes) → 0 < n
some_bytes bytes zero is = absurd is
some_bytes bytes (suc n) is = omega arith

pub is_next : (text : List ℕ) (at n len : ℕ) (t : Token) → IsTrue (list_all is_space (take n (tail_of text at)))
    → IsLongest (tail_of text (at + n)) len → t.span.start ≡ at + n → t.span.end ≡ at + n + len → Spells (take len (tail_of text (at + n))) t.kind → IsNext text at t
is_next text at n len t each long start end spelled =
    let size : at + n + len - (at + n) ≡ len = omega arith in
    let some = some_bytes (tail_of text (at + n)) len long.lexeme in
    record {
      after = omega arith;
      spaces = rw start (spaced text at n each);
      order = omega arith;
      longest = rw (start, end, size) (subst (λ (x : List ℕ). IsLongest x len) (tail_is text (at + n)) long);
      spelled = rw (start, end, size) (subst (λ (x : List ℕ). Spells (take len x) t.kind) (tail_is text (at + n)) spelled);
    }

pub is_bad : (text : List ℕ) (at n len code start end : ℕ) → IsTrue (list_all is_space (take n (tail_of text at)))
    → IsLongest (tail_of text (at + n)) len → start ≡ at + n → end ≡ at + n + len → ((t : TokenKind) → Spells (take len (tail_of text (at + n))) t → ⊥)
    → code ≡ fault_code (shape_of (get_or text (at + n) 0)) → IsFault text at code start end
is_bad text at n len code start end each long s e none c =
    let size : at + n + len - (at + n) ≡ len = omega arith in
    let some = some_bytes (tail_of text (at + n)) len long.lexeme in
    rw (s, e) (record {
      after = omega arith;
      spaces = spaced text at n each;
      order = omega arith;
      what = inr (c, rw size (subst (λ (x : List ℕ). IsMisspelled x len) (tail_is text (at + n)) (record { longest = long; none = none })));
    })

-- where a token ends
pub next_ends : (text : List ℕ) (at : ℕ) (t : Token) → at ≤ length text → IsNext text at t → (at < t.span.end) × (t.span.end ≤ length text)
next_ends text at t le next =
    let before = next.after in
    let order = next.order in
    let within = next.longest.within in
    (omega arith, omega (arith, length-drop t.span.start text))

-- one more token
pub goes_on : (text : List ℕ) (at : ℕ) (ts : List Token) (mid : ℕ) (t : Token) → LexesTo text at ts mid → IsNext text mid t → LexesTo text at (ts ++ t ∷ []) t.span.end
goes_on text at [] mid t so_far next = (subst (λ (i : ℕ). IsNext text i t) (sym so_far) next, refl)
goes_on text at (u ∷ us) mid t so_far next = (so_far.0, goes_on text u.span.end us mid t so_far.1 next)

-- each token is at its place
pub placed : (text : List ℕ) (at : ℕ) (ts : List Token) (stop : ℕ) → at ≤ length text → LexesTo text at ts stop → All (IsPlaced text) ts
placed text at [] stop le tokens k d lt = absurd (omega arith)
placed text at (t ∷ ts) stop le tokens zero d lt = record { order = tokens.0.order; within = (next_ends text at t le tokens.0).1; spelled = tokens.0.spelled }
placed text at (t ∷ ts) stop le tokens (suc k) d lt = placed text t.span.end ts stop (next_ends text at t le tokens.0).1 tokens.1 k d (omega arith)
