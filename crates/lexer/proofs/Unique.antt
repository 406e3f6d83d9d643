-- A text has one list of tokens, or one first fault.
use Rattle.std.proofs.Common.{◌≡◌, ◌<◌, ◌≤◌, ◌+◌, ◌-◌, ◌∙◌, ℕ, List, [], ◌∷◌, length, take, drop, true, false, refl, sym, ap, subst, arith, get_or, inl, inr, decimal, cond}
use Rattle.std.specs.Bool.{IsTrue}
use Rattle.std.specs.List.{list_all}
use Rattle.std.proofs.lemmas.List.{get_or-take, get_or-drop, length-take-le, length-drop}
use Rattle.std.proofs.lemmas.Bool.{cases_lt, cases_Bool}
use Rattle.std.proofs.lemmas.Bool.Decides.{nat_tests}
use Rattle.std.proofs.lemmas.Fmt.{decimal_injective}
use Rattle.lexer.specs.declared.token.Token.{Token}
use Rattle.lexer.specs.declared.token.TokenKind.{TokenKind}
use Rattle.lexer.specs.declared.token.TokenKind.TheVariants as kind
use Rattle.lexer.specs.declared.mark.Mark.{Mark}
use Rattle.lexer.specs.declared.mark.Mark.TheVariants as mark
use Rattle.record_core.specs.declared.keyword.Keyword.{Keyword}
use Rattle.lexer.specs.Marks.{mark_text}
use Rattle.record_core.specs.declared.span.Refusal.{Refusal}
use Rattle.record_core.specs.declared.span.Refusal.TheVariants.{At, NoMemory}
use Rattle.lexer.specs.declared.lexeme.Shape.TheVariants.{Sign}
use Rattle.lexer.specs.Lexemes.{is_space, shape_of, HasShape, IsLexeme, IsLongest}
use Rattle.lexer.specs.Tokens.{Spells, IsNext, LexesTo, Lexes}
use Rattle.lexer.specs.Faults.{IsStray, IsMisspelled, IsFault, Refuses, fault_code}
use Rattle.lexer.specs.declared.mark.TheConstants.{MARKS}
use Rattle.record_core.proofs.Keywords.{keyword_text-injective}
use Rattle.lexer.proofs.Lexemes.{each_at}
use Rattle.std.specs.Str.{bytes_eq}
use Rattle.lexer.proofs.Spelled.{spelled_shape}

-- white space, then a byte that isn't white space
record Begun (text : List ℕ) (at s : ℕ) : Type 0 where
  after : at ≤ s
  spaces : IsTrue (list_all is_space (take (s - at) (drop at text)))
  inside : s < length text
  solid : is_space (get_or text s 0) ≡ false

begun_before : (text : List ℕ) (at s u : ℕ) → Begun text at s → Begun text at u → s < u → ⊥
begun_before text at s u p q lt =
    let after = p.after in
    let inside = q.inside in
    let size : length (take (u - at) (drop at text)) ≡ u - at = length-take-le (u - at) (drop at text) (omega (arith, length-drop at text)) in
    let t : is_space (get_or (take (u - at) (drop at text)) (s - at) 0) ≡ true = each_at is_space (take (u - at) (drop at text)) q.spaces (s - at) (omega arith) in
    let place : at + (s - at) ≡ s = omega arith in
    let here : get_or (take (u - at) (drop at text)) (s - at) 0 ≡ get_or text s 0 = get_or-take (u - at) (drop at text) (s - at) 0 (omega arith) ∙ get_or-drop at text (s - at) 0 ∙ ap (λ (i : ℕ). get_or text i 0) place in
    let f : is_space (get_or text s 0) ≡ false = p.solid in
    let g : is_space (get_or text s 0) ≡ true = ap is_space (sym here) ∙ t in
    cc

begun_one : (text : List ℕ) (at s u : ℕ) → Begun text at s → Begun text at u → s ≡ u
begun_one text at s u p q = elim (cases_lt s u) [
  | inl lt ↦ absurd (begun_before text at s u p q lt)
  | inr ge ↦ elim (cases_lt u s) [
    | inl lt ↦ absurd (begun_before text at u s q p lt)
    | inr le ↦ omega arith
  ]
]

begun_end : (text : List ℕ) (at s : ℕ) → Begun text at s → IsTrue (list_all is_space (drop at text)) → ⊥
begun_end text at s p each =
    let after = p.after in
    let inside = p.inside in
    let place : at + (s - at) ≡ s = omega arith in
    let t : is_space (get_or (drop at text) (s - at) 0) ≡ true = each_at is_space (drop at text) each (s - at) (omega (arith, length-drop at text)) in
    let here : get_or (drop at text) (s - at) 0 ≡ get_or text s 0 = get_or-drop at text (s - at) 0 ∙ ap (λ (i : ℕ). get_or text i 0) place in
    let f : is_space (get_or text s 0) ≡ false = p.solid in
    let g : is_space (get_or text s 0) ≡ true = ap is_space (sym here) ∙ t in
    cc

mark_solid : (m : Mark) → is_space (get_or (mark_text m) 0 0) ≡ false
mark_solid mark.NotEqual = refl
mark_solid mark.AtMost = refl
mark_solid mark.AtLeast = refl
mark_solid mark.Slash = refl
mark_solid mark.Semicolon = refl
mark_solid mark.Comma = refl
mark_solid mark.OpenRound = refl
mark_solid mark.CloseRound = refl
mark_solid mark.OpenSquare = refl
mark_solid mark.CloseSquare = refl
mark_solid mark.Equal = refl
mark_solid mark.Below = refl
mark_solid mark.Above = refl
mark_solid mark.Plus = refl
mark_solid mark.Minus = refl
mark_solid mark.Star = refl

space_sign : (b : ℕ) → is_space b ≡ true → shape_of b ≡ Sign
space_sign b t = grind (arith, nat_tests)

lexeme_solid : (bytes : List ℕ) → IsLexeme bytes → is_space (get_or bytes 0 0) ≡ false
lexeme_solid [] is = absurd is
lexeme_solid (b ∷ bs) is = elim (cases_Bool (is_space b)) [
  | inr f ↦ f
  | inl t ↦
      let s : shape_of b ≡ Sign = space_sign b t in
      let h : HasShape Sign b bs = rw s at is in
      ap (λ (xs : List ℕ). is_space (get_or xs 0 0)) h.1 ∙ mark_solid h.0
]

longest_solid : (text : List ℕ) (s n : ℕ) → IsLongest (drop s text) n → 0 < n → (s < length text) × (is_space (get_or text s 0) ≡ false)
longest_solid text s n long some =
    let within = long.within in
    let at : s + 0 ≡ s = omega arith in
    let first : get_or (take n (drop s text)) 0 0 ≡ get_or text s 0 = get_or-take n (drop s text) 0 0 some ∙ get_or-drop s text 0 0 ∙ ap (λ (i : ℕ). get_or text i 0) at in
    (omega (arith, length-drop s text), ap is_space (sym first) ∙ lexeme_solid (take n (drop s text)) long.lexeme)

begun_next : (text : List ℕ) (at : ℕ) (t : Token) → IsNext text at t → Begun text at t.span.start
begun_next text at t next =
    let order = next.order in
    let solid = longest_solid text t.span.start (t.span.end - t.span.start) next.longest (omega arith) in
    record { after = next.after; spaces = next.spaces; inside = solid.0; solid = solid.1 }

begun_fault : (text : List ℕ) (at code start end : ℕ) → IsFault text at code start end → Begun text at start
begun_fault text at code start end fault =
    let order = fault.order in
    elim fault.what [
      | inl stray ↦
          let some = stray.2.some in
          let place : start + 0 ≡ start = omega arith in
          let first : get_or (drop start text) 0 0 ≡ get_or text start 0 = get_or-drop start text 0 0 ∙ ap (λ (i : ℕ). get_or text i 0) place in
          record { after = fault.after; spaces = fault.spaces; inside = omega (arith, length-drop start text); solid = ap is_space (sym first) ∙ stray.2.solid }
      | inr bad ↦
          let solid = longest_solid text start (end - start) bad.1.longest (omega arith) in
          record { after = fault.after; spaces = fault.spaces; inside = solid.0; solid = solid.1 }
    ]

longest_one : (bytes : List ℕ) (m n : ℕ) → IsLongest bytes m → IsLongest bytes n → m ≡ n
longest_one bytes m n p q = elim (cases_lt m n) [
  | inl lt ↦ absurd (p.longest n lt q.within q.lexeme)
  | inr ge ↦ elim (cases_lt n m) [
    | inl lt ↦ absurd (q.longest m lt p.within p.lexeme)
    | inr le ↦ omega arith
  ]
]

abbrev make : TokenKind → ℕ → ℕ → Token
make k s e = record { kind = k; span = record { start = s; end = e } }

token_is : (t u : Token) → t.kind ≡ u.kind → t.span.start ≡ u.span.start → t.span.end ≡ u.span.end → t ≡ u
token_is t u e f g = ap (λ (k : TokenKind). make k t.span.start t.span.end) e ∙ ap (λ (s : ℕ). make u.kind s t.span.end) f ∙ ap (λ (x : ℕ). make u.kind u.span.start x) g

-- the first mark with that text
abbrev mark_at : List ℕ → List Mark → Mark
mark_at word [] = mark.Star
mark_at word (m ∷ ms) = cond (bytes_eq word (mark_text m)) m (mark_at word ms)

mark_back : (m : Mark) → mark_at (mark_text m) MARKS ≡ m
mark_back mark.NotEqual = refl
mark_back mark.AtMost = refl
mark_back mark.AtLeast = refl
mark_back mark.Slash = refl
mark_back mark.Semicolon = refl
mark_back mark.Comma = refl
mark_back mark.OpenRound = refl
mark_back mark.CloseRound = refl
mark_back mark.OpenSquare = refl
mark_back mark.CloseSquare = refl
mark_back mark.Equal = refl
mark_back mark.Below = refl
mark_back mark.Above = refl
mark_back mark.Plus = refl
mark_back mark.Minus = refl
mark_back mark.Star = refl

-- a word spells at most one token
spells_one : (word : List ℕ) (t u : TokenKind) → Spells word t → Spells word u → t ≡ u
spells_one word kind.Name kind.Name p q = refl
spells_one word (kind.Number m) (kind.Number n) p q = ap (λ (i : ℕ). kind.Number i) (decimal_injective m n (omega (arith, p.1)) (omega (arith, q.1)) (sym p.0 ∙ q.0))
spells_one word (kind.Column m) (kind.Column n) p q =
    let e : 35 ∷ decimal m ≡ 35 ∷ decimal n = sym p.0 ∙ q.0 in
    let f : decimal m ≡ decimal n = cc in
    ap (λ (i : ℕ). kind.Column i) (decimal_injective m n (omega (arith, p.1)) (omega (arith, q.1)) f)
spells_one word (kind.Mark m) (kind.Mark n) p q = ap (λ (x : Mark). kind.Mark x) (sym (mark_back m) ∙ ap (λ (x : List ℕ). mark_at x MARKS) (sym p ∙ q) ∙ mark_back n)
spells_one word (kind.Keyword j) (kind.Keyword k) p q = ap (λ (x : Keyword). kind.Keyword x) (keyword_text-injective j k (sym p ∙ q))
spells_one word kind.Name (kind.Keyword k) p q = absurd (p.free k q)
spells_one word (kind.Keyword k) kind.Name p q = absurd (q.free k p)
spells_one word t u p q = let e = sym (spelled_shape word t p) ∙ spelled_shape word u q in absurd cc

next_one : (text : List ℕ) (at : ℕ) (t u : Token) → IsNext text at t → IsNext text at u → t ≡ u
next_one text at t u p q =
    let start : t.span.start ≡ u.span.start = begun_one text at t.span.start u.span.start (begun_next text at t p) (begun_next text at u q) in
    let longest : IsLongest (drop t.span.start text) (u.span.end - t.span.start) = subst (λ (s : ℕ). IsLongest (drop s text) (u.span.end - s)) (sym start) q.longest in
    let size : t.span.end - t.span.start ≡ u.span.end - t.span.start = longest_one (drop t.span.start text) _ _ p.longest longest in
    let order = p.order in
    let order-2 = q.order in
    let end : t.span.end ≡ u.span.end = omega arith in
    let spelled : Spells (take (t.span.end - t.span.start) (drop t.span.start text)) u.kind = rw (start, end) q.spelled in
    token_is t u (spells_one _ t.kind u.kind p.spelled spelled) start end

next_end : (text : List ℕ) (at : ℕ) (t : Token) → IsNext text at t → IsTrue (list_all is_space (drop at text)) → ⊥
next_end text at t next each = begun_end text at t.span.start (begun_next text at t next) each

next_fault : (text : List ℕ) (at : ℕ) (t : Token) (code start end : ℕ) → IsNext text at t → IsFault text at code start end → ⊥
next_fault text at t code start end next fault =
    let same : t.span.start ≡ start = begun_one text at t.span.start start (begun_next text at t next) (begun_fault text at code start end fault) in
    let n : ℕ = t.span.end - t.span.start in
    elim fault.what [
      | inl stray ↦
          let s : IsStray (drop t.span.start text) = rw same stray.2 in
          s.none n next.longest.within next.longest.lexeme
      | inr bad ↦
          let b : IsMisspelled (drop t.span.start text) (end - start) = rw same bad.1 in
          let size : n ≡ end - start = longest_one (drop t.span.start text) _ _ next.longest b.longest in
          b.none t.kind (subst (λ (k : ℕ). Spells (take k (drop t.span.start text)) t.kind) size next.spelled)
    ]

-- a text has at most one list of tokens
tokens_one : (text : List ℕ) (at : ℕ) (ts us : List Token) (p q : ℕ) → LexesTo text at ts p → IsTrue (list_all is_space (drop p text)) → LexesTo text at us q → IsTrue (list_all is_space (drop q text)) → us ≡ ts
tokens_one text at [] [] p q a b c d = refl
tokens_one text at [] (u ∷ us) p q a b c d = absurd (next_end text at u c.0 (subst (λ (i : ℕ). IsTrue (list_all is_space (drop i text))) (sym a) b))
tokens_one text at (t ∷ ts) [] p q a b c d = absurd (next_end text at t a.0 (subst (λ (i : ℕ). IsTrue (list_all is_space (drop i text))) (sym c) d))
tokens_one text at (t ∷ ts) (u ∷ us) p q a b c d =
    let e : u ≡ t = next_one text at u t c.0 a.0 in
    let rest : LexesTo text t.span.end us q = subst (λ (x : Token). LexesTo text x.span.end us q) e c.1 in
    ap (λ (x : Token). x ∷ us) e ∙ ap (λ (xs : List Token). t ∷ xs) (tokens_one text t.span.end ts us p q a.1 b rest d)

pub lexes_one : (text : List ℕ) (ts us : List Token) → Lexes text ts → Lexes text us → us ≡ ts
lexes_one text ts us p q = tokens_one text 0 ts us p.stop q.stop p.tokens p.rest q.tokens q.rest

-- a text with a fault has no list of tokens
fault_none : (text : List ℕ) (at : ℕ) (ts us : List Token) (p q code start end : ℕ) → LexesTo text at ts p → IsFault text p code start end → LexesTo text at us q → IsTrue (list_all is_space (drop q text)) → ⊥
fault_none text at [] [] p q code start end a f c d = begun_end text at start (begun_fault text at code start end (subst (λ (i : ℕ). IsFault text i code start end) (sym a) f)) (subst (λ (i : ℕ). IsTrue (list_all is_space (drop i text))) (sym c) d)
fault_none text at [] (u ∷ us) p q code start end a f c d = next_fault text at u code start end c.0 (subst (λ (i : ℕ). IsFault text i code start end) (sym a) f)
fault_none text at (t ∷ ts) [] p q code start end a f c d = next_end text at t a.0 (subst (λ (i : ℕ). IsTrue (list_all is_space (drop i text))) (sym c) d)
fault_none text at (t ∷ ts) (u ∷ us) p q code start end a f c d =
    let e : u ≡ t = next_one text at u t c.0 a.0 in
    let rest : LexesTo text t.span.end us q = subst (λ (x : Token). LexesTo text x.span.end us q) e c.1 in
    fault_none text t.span.end ts us p q code start end a.1 f rest d

pub refused_none : (text : List ℕ) (e : Refusal) (us : List Token) → Refuses text e → (e ≡ NoMemory → ⊥) → Lexes text us → ⊥
refused_none text NoMemory us r memory q = memory refl
refused_none text (At code span) us r memory q = elim r [
  | inl long ↦ let short = q.short in let l = long.0 in absurd (omega arith)
  | inr fault ↦ fault_none text 0 fault.1 us fault.2 q.stop code span.start span.end fault.3 fault.4 q.tokens q.rest
]

-- a text has at most one first fault
fault_one : (text : List ℕ) (at c s e d u f : ℕ) → IsFault text at c s e → IsFault text at d u f → (d ≡ c) × (u ≡ s) × (f ≡ e)
fault_one text at c s e d u f p q =
    let start : u ≡ s = begun_one text at u s (begun_fault text at d u f q) (begun_fault text at c s e p) in
    let order = p.order in
    let order-2 = q.order in
    elim p.what [
      | inl a ↦ elim q.what [
        | inl b ↦ (b.0 ∙ sym a.0, start, b.1 ∙ ap (λ (i : ℕ). i + 1) start ∙ sym a.1)
        | inr b ↦
            let longest : IsLongest (drop s text) (f - u) = subst (λ (i : ℕ). IsLongest (drop i text) (f - u)) start b.1.longest in
            absurd (a.2.none (f - u) longest.within longest.lexeme)
      ]
      | inr a ↦ elim q.what [
        | inl b ↦
            let stray : IsStray (drop s text) = subst (λ (i : ℕ). IsStray (drop i text)) start b.2 in
            absurd (stray.none (e - s) a.1.longest.within a.1.longest.lexeme)
        | inr b ↦
            let longest : IsLongest (drop s text) (f - u) = subst (λ (i : ℕ). IsLongest (drop i text) (f - u)) start b.1.longest in
            let size : f - u ≡ e - s = longest_one (drop s text) (f - u) (e - s) longest a.1.longest in
            (b.0 ∙ ap (λ (i : ℕ). fault_code (shape_of (get_or text i 0))) start ∙ sym a.0, start, omega arith)
      ]
    ]

faults_one : (text : List ℕ) (at : ℕ) (ts us : List Token) (p q c s e d u f : ℕ) → LexesTo text at ts p → IsFault text p c s e → LexesTo text at us q → IsFault text q d u f → (d ≡ c) × (u ≡ s) × (f ≡ e)
faults_one text at [] [] p q c s e d u f a x b y = fault_one text at c s e d u f (subst (λ (i : ℕ). IsFault text i c s e) (sym a) x) (subst (λ (i : ℕ). IsFault text i d u f) (sym b) y)
faults_one text at [] (v ∷ us) p q c s e d u f a x b y = absurd (next_fault text at v c s e b.0 (subst (λ (i : ℕ). IsFault text i c s e) (sym a) x))
faults_one text at (t ∷ ts) [] p q c s e d u f a x b y = absurd (next_fault text at t d u f a.0 (subst (λ (i : ℕ). IsFault text i d u f) (sym b) y))
faults_one text at (t ∷ ts) (v ∷ us) p q c s e d u f a x b y =
    let same : v ≡ t = next_one text at v t b.0 a.0 in
    let rest : LexesTo text t.span.end us q = subst (λ (z : Token). LexesTo text z.span.end us q) same b.1 in
    faults_one text t.span.end ts us p q c s e d u f a.1 x rest y

abbrev refusal_at : ℕ → ℕ → ℕ → Refusal
refusal_at code start end = At code (record { start = start; end = end })

same_refusal : (c s e d u f : ℕ) → d ≡ c → u ≡ s → f ≡ e → refusal_at d u f ≡ refusal_at c s e
same_refusal c s e d u f code start end = ap (λ (i : ℕ). refusal_at i u f) code ∙ ap (λ (i : ℕ). refusal_at c i f) start ∙ ap (λ (i : ℕ). refusal_at c s i) end

pub refused_one : (text : List ℕ) (e f : Refusal) → (e ≡ NoMemory → ⊥) → (f ≡ NoMemory → ⊥) → Refuses text e → Refuses text f → f ≡ e
refused_one text NoMemory f memory memory-2 p q = absurd (memory refl)
refused_one text (At c s) NoMemory memory memory-2 p q = absurd (memory-2 refl)
refused_one text (At c s) (At d u) memory memory-2 p q = elim p [
  | inl long ↦ elim q [
    | inl also ↦ same_refusal c s.start s.end d u.start u.end (also.1 ∙ sym long.1) (also.2 ∙ sym long.2) (also.3 ∙ sym long.3)
    | inr fault ↦ let l = long.0 in let short = fault.0 in absurd (omega arith)
  ]
  | inr fault ↦ elim q [
    | inl long ↦ let l = long.0 in let short = fault.0 in absurd (omega arith)
    | inr other ↦
        let same = faults_one text 0 fault.1 other.1 fault.2 other.2 c s.start s.end d u.start u.end fault.3 fault.4 other.3 other.4 in
        same_refusal c s.start s.end d u.start u.end same.0 same.1 same.2
  ]
]
