-- Outputs, read one after the other.
use Rattle.std.proofs.Common.{◌≡◌, ℕ, ◌<◌, max, arith, ap, List, [], ◌∷◌, ◌++◌, append_assoc, length, map, refl, sym, ◌∙◌, inl, inr}
use Rattle.record_core.specs.declared.span.Span.{Span}
use Rattle.record_core.specs.declared.keyword.Keyword.TheVariants as keyword
use Rattle.lexer.specs.declared.token.Token.{Token}
use Rattle.lexer.specs.declared.mark.Mark.TheVariants as mark
use Rattle.expr_tree.specs.Trees.{RelTree, OutputTree}
use Rattle.grammar.specs.Tokens.{mark_at, keyword_at, NoMark, NoKeyword}
use Rattle.grammar.specs.Phrases.{Unread, Ended}
use Rattle.grammar.specs.Relations.{piece}
use Rattle.grammar.specs.Relations as relation
use Rattle.grammar.specs.Programs.{default_name, OutputAt, unnamed, named, Outputs, last, more}
use Rattle.grammar.proofs.Tokens.{rest_one}
use Rattle.grammar.proofs.Programs.{one_output, not_named}
use Rattle.parser.specs.Scanning.{NoName}
use Rattle.parser.specs.Items.{BeginsNamed, NamesOutput, NoOutputs}
use Rattle.parser.proofs.Lists.{max_turned, max_zero}

-- what names an output
pub no_output_name : (text : List ℕ) (s : Span) (ts : List Token) (n : List ℕ) → NoName text ts → n ≡ default_name → NamesOutput text s ts s n ts
no_output_name text s ts n h e = inr ((λ y vs b. absurd ((rw b.2 at h) b.1)), refl, e, refl)

pub no_output_equal : (text : List ℕ) (s : Span) (ts us : List Token) (t : Token) (n : List ℕ) → ts ≡ t ∷ us → NoMark mark.Equal us → n ≡ default_name → NamesOutput text s ts s n ts
no_output_equal text s ts us t n e h i = inr ((λ y vs b. absurd ((rw (rest_one (sym e ∙ b.2)) at h) refl)), refl, i, refl)

-- what the named and the unnamed are
output_with : Span → Span → List ℕ → RelTree → OutputTree
output_with s x n r = record { keyword_span = s; name_span = x; name = n; relation = r }

unnamed_at : (text : List ℕ) (s q : Span) (r : RelTree) (h : ℕ) (ts us : List Token) → relation.Reads text ts r h (mark_at mark.Semicolon q ∷ us) → OutputAt text (keyword_at keyword.Output s ∷ ts) (output_with s s default_name r) h us
unfolding output_with
unnamed_at text s q r h ts us d = unnamed d

named_at : (text : List ℕ) (s x q : Span) (r : RelTree) (h : ℕ) (ts vs us : List Token) → BeginsNamed text ts x vs → relation.Reads text vs r h (mark_at mark.Semicolon q ∷ us) → OutputAt text (keyword_at keyword.Output s ∷ ts) (output_with s x (piece text x) r) h us
unfolding output_with
named_at text s x q r h ts vs us b d = rw b.2 (named b.1 d)

with_name : (text : List ℕ) (s x q : Span) (n : List ℕ) (r : RelTree) (h : ℕ) (ts vs us : List Token) → NamesOutput text s ts x n vs → relation.Reads text vs r h (mark_at mark.Semicolon q ∷ us) → OutputAt text (keyword_at keyword.Output s ∷ ts) (output_with s x n r) h us
with_name text s x q n r h ts vs us (inl b) d = rw b.1 (named_at text s x q r h ts vs us b.0 d)
with_name text s x q n r h ts vs us (inr b) d = rw (b.1, b.2) (unnamed_at text s q r h ts us (rw b.3 at d))

pub output_at : (text : List ℕ) (ts vs ws us : List Token) (s x q : Span) (n : List ℕ) (r : RelTree) (o : OutputTree) (h : ℕ) → ts ≡ keyword_at keyword.Output s ∷ vs → NamesOutput text s vs x n ws → relation.Reads text ws r h (mark_at mark.Semicolon q ∷ us) → o ≡ record { keyword_span = s; name_span = x; name = n; relation = r } → OutputAt text ts o h us
unfolding output_with
output_at text ts vs ws us s x q n r o h e b d j = rw (e, j) (with_name text s x q n r h vs ws us b d)

pub no_output_keyword : (text : List ℕ) (ts : List Token) (m : ℕ) → NoKeyword keyword.Output ts → Unread (OutputAt text) ts m
no_output_keyword text ts m n o h us (unnamed d) = absurd (n refl)
no_output_keyword text ts m n o h us (named i d) = absurd (n refl)

unread_after : {text : List ℕ} {s x : Span} {n : List ℕ} {o : OutputTree} {h m : ℕ} {vs ws us : List Token} → NamesOutput text s vs x n ws → Unread (Ended (relation.Reads text) mark.Semicolon) ws m → OutputAt text (keyword_at keyword.Output s ∷ vs) o h us → m < h
unread_after (inl b) u (unnamed d) = absurd (not_named (rw b.0.2 at d))
unread_after (inl b) u (named {q = q} {r = r} {h = h} {us = us} i d) = u r h us (q, rw (← rest_one (rest_one b.0.2)) d)
unread_after (inr b) u (unnamed {q = q} {r = r} {h = h} {us = us} d) = u r h us (q, rw b.3 d)
unread_after (inr b) u (named i d) = absurd (b.0 _ _ (_, i, refl))

pub unread_output : (text : List ℕ) (ts vs ws : List Token) (s x : Span) (n : List ℕ) (m : ℕ) → ts ≡ keyword_at keyword.Output s ∷ vs → NamesOutput text s vs x n ws → Unread (Ended (relation.Reads text) mark.Semicolon) ws m → Unread (OutputAt text) ts m
unread_output text ts vs ws s x n m e b u o h us d = unread_after b u (rw e at d)

pub record GoesOutputs (text : List ℕ) (xs : List OutputTree) (h : ℕ) (us : List Token) (zs : List OutputTree) (n : ℕ) : Type 0 where
  pub ys : List OutputTree
  pub k : ℕ
  pub reads : Outputs text us ys k
  pub value : zs ≡ xs ++ ys
  pub height : n ≡ max h k

-- what completes the outputs so far completes the whole, and each reading of the whole goes on from here
pub record OutputsOn (text : List ℕ) (ts : List Token) (xs : List OutputTree) (h : ℕ) (us : List Token) : Type 0 where
  pub completes : (ys : List OutputTree) (k : ℕ) → Outputs text us ys k → Outputs text ts (xs ++ ys) (max h k)
  pub only : (zs : List OutputTree) (n : ℕ) → Outputs text ts zs n → GoesOutputs text xs h us zs n

none_yet : (text : List ℕ) (ts : List Token) → OutputsOn text ts [] 0 ts
none_yet text ts = record {
  completes = λ ys k d. rw (← max_zero k) d;
  only = λ zs n d. record { ys = zs; k = n; reads = d; value = refl; height = omega arith };
}

pub outputs_begin : {X : Type 0} (text : List ℕ) (ts : List Token) (f : X → OutputTree) (xs : List X) → xs ≡ [] → OutputsOn text ts (map f xs) 0 ts
outputs_begin text ts f xs e = rw e (none_yet text ts)

next_output : {text : List ℕ} {us vs : List Token} {o : OutputTree} {k : ℕ} {ys : List OutputTree} {n : ℕ} → OutputAt text us o k vs → 0 < length vs → Outputs text us ys n → GoesOutputs text (o ∷ []) k vs ys n
next_output {text = text} d some (last e) = let a = one_output text _ _ _ _ _ _ _ d e in let l = ap length a.left in absurd (omega arith)
next_output {text = text} d some (more {os = os} {k = k} e r) = let a = one_output text _ _ _ _ _ _ _ d e in record { ys = os; k = k; reads = rw (← a.left) at r; value = cc a.value; height = cc a.height }

pub outputs_go_on : (text : List ℕ) (ts us vs : List Token) (xs zs : List OutputTree) (o : OutputTree) (h k n : ℕ) → OutputsOn text ts xs h us → OutputAt text us o k vs → 0 < length vs → zs ≡ xs ++ o ∷ [] → n ≡ max k h → OutputsOn text ts zs n vs
outputs_go_on text ts us vs xs zs o h k n g d some i j = record {
  completes = λ ys l r. rw (i, j, append_assoc, max_turned h k l) (g.completes (o ∷ ys) (max k l) (more d r));
  only = λ ys l r. let a = g.only ys l r in let b = next_output d some a.reads in record { ys = b.ys; k = b.k; reads = b.reads; value = rw (i, append_assoc) (a.value ∙ ap (λ v. xs ++ v) b.value); height = let c = a.height in let f = b.height in omega arith };
}

none_left : (vs : List Token) → length vs ≡ 0 → vs ≡ []
none_left [] e = refl
none_left (v ∷ vs) e = absurd (omega arith)

pub outputs_end : (text : List ℕ) (ts us vs : List Token) (xs zs : List OutputTree) (o : OutputTree) (h k n : ℕ) → OutputsOn text ts xs h us → OutputAt text us o k vs → length vs ≡ 0 → zs ≡ xs ++ o ∷ [] → n ≡ max h k → Outputs text ts zs n
outputs_end text ts us vs xs zs o h k n g d e i j = rw (i, j) (g.completes (o ∷ []) k (last (rw (none_left vs e) at d)))

unread_first : {text : List ℕ} {ts : List Token} {os : List OutputTree} {h m : ℕ} → Unread (OutputAt text) ts m → Outputs text ts os h → m < h
unread_first u (last d) = u _ _ _ d
unread_first u (more d r) = let a = u _ _ _ d in omega arith

pub outputs_unread : (text : List ℕ) (ts us : List Token) (xs : List OutputTree) (h m : ℕ) → OutputsOn text ts xs h us → Unread (OutputAt text) us m → NoOutputs text ts m
outputs_unread text ts us xs h m g u zs n d = let a = g.only zs n d in let b = unread_first u a.reads in let c = a.height in omega arith
