-- What is noted of summaries after actions stays true, and is enough for the steps and tests of rows.
use Rattle.std.proofs.Common.{◌≡◌, ◌⊎◌, inl, inr, ℕ, zero, suc, ◌-◌, ◌≤◌, ◌<◌, true, false, List, [], ◌∷◌, ◌++◌, length, Option, Some, None, slice_set, slice_index_or, refl, sym, ap, subst, ◌∙◌, arith}
use Rattle.std.proofs.Math.ListN.{replicate}
use Rattle.std.proofs.lemmas.List.{length-replicate}
use Rattle.std.proofs.lemmas.Option.{same_Some}
use Rattle.semantics.specs.Time.{Action}
use Rattle.semantics.specs.Summary.{Summary, then_action}
use Rattle.path_summary.specs.Carried.{identity}
use Rattle.path_summary.specs.Linking.{Link, Links}
use Rattle.path_summary.specs.Rows.{entry, is_below, HasBelow, Follows, Stepped}
use Rattle.path_summary.specs.Codes.{decoded, row_of, AreCodes, Grows}
use Rattle.path_summary.specs.Noted.{LeadsTo, IsNoted, AreNoted, IsCodeBelow}
use Rattle.path_summary.specs.Walks.{HaveLoops, HasGot, IsOfWalk}
use Rattle.path_summary.proofs.Carrying.{below_self}
use Rattle.path_summary.proofs.CodesGrow.{decoded_still, decoded_some, entry_row, row_set, row_grown, code_in, nothing_at, code_set, codes_put, codes_none, none_there, grows_length}
use Rattle.path_summary.proofs.Steps.{entry_at, length-put, got_none}
use Rattle.path_summary.proofs.RowsMade.{entry_set}

-- ---- notes

pub leads_grown : (old new : List Summary) (a : Action) (code next : ℕ) → Grows old new → LeadsTo old a code next → LeadsTo new a code next
leads_grown old new a code next g l =
    record {
      before = l.before;
      known = decoded_still old new code l.before g l.known;
      after = l.after;
      there = decoded_still old new next l.after g l.there;
      follows = l.follows;
      within = let h = l.within in let k = grows_length old new g in omega arith;
    }

pub leads_from : (old new : List Summary) (a : Action) (code next : ℕ) (f h : Summary) → decoded old code ≡ Some f → Follows a f h → Grows old new → decoded new next ≡ Some h → next ≤ length new → LeadsTo new a code next
leads_from old new a code next f h k q g d m = record { before = f; known = decoded_still old new code f g k; after = h; there = d; follows = q; within = m }

-- a vertex that changes nothing
pub leads_stay : (summaries : List Summary) (code : ℕ) → 0 < code → code ≤ length summaries → LeadsTo summaries Action.stay code code
leads_stay summaries code p h =
    let s = decoded_some summaries code p h in
    record { before = s.0; known = s.1; after = s.0; there = s.1; follows = record { is = refl; may = tt }; within = h }

noted_grown : (old new : List Summary) (a : Action) (notes : List ℕ) → Grows old new → IsNoted old a notes → IsNoted new a notes
noted_grown old new a notes g n = record { each = λ x. go x (n.each x) }
  where
    go : (x : ℕ) → (slice_index_or notes x 0 ≡ 0) ⊎ LeadsTo old a (suc x) (slice_index_or notes x 0) → (slice_index_or notes x 0 ≡ 0) ⊎ LeadsTo new a (suc x) (slice_index_or notes x 0)
    go x (inl e) = inl e
    go x (inr l) = inr (leads_grown old new a (suc x) (slice_index_or notes x 0) g l)

push_zero : (notes : List ℕ) (x : ℕ) → code_in (notes ++ (0 ∷ [])) x ≡ code_in notes x
push_zero [] zero = refl
push_zero [] (suc x) = nothing_at x
push_zero (n ∷ notes) zero = refl
push_zero (n ∷ notes) (suc x) = push_zero notes x

-- one more place, with nothing noted
noted_push : (summaries : List Summary) (a : Action) (notes : List ℕ) → IsNoted summaries a notes → IsNoted summaries a (notes ++ (0 ∷ []))
noted_push summaries a notes n =
    record { each = λ x. subst (λ (c : ℕ). (c ≡ 0) ⊎ LeadsTo summaries a (suc x) c) (sym (push_zero notes x)) (n.each x) }

noted_set : (summaries : List Summary) (a : Action) (notes : List ℕ) (i next : ℕ) → IsNoted summaries a notes → LeadsTo summaries a (suc i) next → IsNoted summaries a (slice_set notes i next)
noted_set summaries a notes i next n l = record { each = λ x. go x (code_set notes i next x) }
  where
    go : (x : ℕ) → (slice_index_or (slice_set notes i next) x 0 ≡ slice_index_or notes x 0) ⊎ ((x ≡ i) × (slice_index_or (slice_set notes i next) x 0 ≡ next)) → (slice_index_or (slice_set notes i next) x 0 ≡ 0) ⊎ LeadsTo summaries a (suc x) (slice_index_or (slice_set notes i next) x 0)
    go x (inl e) = subst (λ (c : ℕ). (c ≡ 0) ⊎ LeadsTo summaries a (suc x) c) (sym e) (n.each x)
    go x (inr e) = inr (subst (λ (c : ℕ). LeadsTo summaries a (suc x) c) (sym e.1) (subst (λ (y : ℕ). LeadsTo summaries a (suc y) next) (sym e.0) l))

-- a note on a code above 0
noted_at : (summaries : List Summary) (a : Action) (notes : List ℕ) (code next : ℕ) → IsNoted summaries a notes → LeadsTo summaries a code next → IsNoted summaries a (slice_set notes (code - 1) next)
noted_at summaries a notes zero next n l = absurd (let e = l.known in cc)
noted_at summaries a notes (suc code) next n l =
    let e : suc code - 1 ≡ code = omega arith in
    subst (λ (i : ℕ). IsNoted summaries a (slice_set notes i next)) (sym e) (noted_set summaries a notes code next n l)

-- what a note says
pub noted_tells : (summaries : List Summary) (a : Action) (notes : List ℕ) (code next : ℕ) → IsNoted summaries a notes → 0 < code → next ≡ slice_index_or notes (code - 1) 0 → 0 < next → LeadsTo summaries a code next
noted_tells summaries a notes zero next n p e h = absurd (omega arith)
noted_tells summaries a notes (suc code) next n p e h =
    let q : suc code - 1 ≡ code = omega arith in
    let is : next ≡ slice_index_or notes code 0 = e ∙ ap (λ (i : ℕ). slice_index_or notes i 0) q in
    subst (λ (c : ℕ). LeadsTo summaries a (suc code) c) (sym is) (go is (n.each code))
  where
    go : next ≡ slice_index_or notes code 0 → (slice_index_or notes code 0 ≡ 0) ⊎ LeadsTo summaries a (suc code) (slice_index_or notes code 0) → LeadsTo summaries a (suc code) (slice_index_or notes code 0)
    go is (inl z) = absurd (omega arith)
    go is (inr l) = l

no_notes : (summaries : List Summary) (a : Action) → IsNoted summaries a []
no_notes summaries a = record { each = λ x. inl (nothing_at x) }

pub none_noted : AreNoted [] [] [] []
none_noted = record { enter = no_notes [] Action.enter; leave = no_notes [] Action.leave; next = no_notes [] Action.next }

-- one more summary, and a place for notes on it
pub noted_more : (old new : List Summary) (e l t : List ℕ) → Grows old new → AreNoted old e l t → AreNoted new (e ++ (0 ∷ [])) (l ++ (0 ∷ [])) (t ++ (0 ∷ []))
noted_more old new e l t g n =
    record {
      enter = noted_push new Action.enter e (noted_grown old new Action.enter e g n.enter);
      leave = noted_push new Action.leave l (noted_grown old new Action.leave l g n.leave);
      next = noted_push new Action.next t (noted_grown old new Action.next t g n.next);
    }

-- more places for notes, and the same summaries
pub noted_places : (s : List Summary) (e l t : List ℕ) → AreNoted s e l t → AreNoted s (e ++ (0 ∷ [])) l t × (AreNoted s (e ++ (0 ∷ [])) (l ++ (0 ∷ [])) t × AreNoted s (e ++ (0 ∷ [])) (l ++ (0 ∷ [])) (t ++ (0 ∷ [])))
noted_places s e l t n =
    let e' = noted_push s Action.enter e n.enter in
    let l' = noted_push s Action.leave l n.leave in (
      record { enter = e'; leave = n.leave; next = n.next },
      (
        record { enter = e'; leave = l'; next = n.next },
        record { enter = e'; leave = l'; next = noted_push s Action.next t n.next },
      ),
    )

pub noted_enter : (s : List Summary) (e l t : List ℕ) (code next : ℕ) → AreNoted s e l t → LeadsTo s Action.enter code next → AreNoted s (slice_set e (code - 1) next) l t
noted_enter s e l t code next n k = record { enter = noted_at s Action.enter e code next n.enter k; leave = n.leave; next = n.next }

pub noted_leave : (s : List Summary) (e l t : List ℕ) (code next : ℕ) → AreNoted s e l t → LeadsTo s Action.leave code next → AreNoted s e (slice_set l (code - 1) next) t
noted_leave s e l t code next n k = record { enter = n.enter; leave = noted_at s Action.leave l code next n.leave k; next = n.next }

pub noted_next : (s : List Summary) (e l t : List ℕ) (code next : ℕ) → AreNoted s e l t → LeadsTo s Action.next code next → AreNoted s e l (slice_set t (code - 1) next)
noted_next s e l t code next n k = record { enter = n.enter; leave = n.leave; next = noted_at s Action.next t code next n.next k }

-- ---- rows

-- a step that sets a code
pub stepped_to : (k : Link) (old new : List Summary) (codes : List ℕ) (from code to next : ℕ) (a : Action) → Grows old new → AreCodes old codes → from ≡ k.source → to ≡ k.target → a ≡ k.acts → code ≡ slice_index_or codes from 0 → LeadsTo new a code next
    → ((f h : Summary) → decoded new (slice_index_or codes to 0) ≡ Some f → decoded new next ≡ Some h → is_below f h ≡ false) → Stepped k (row_of old codes) (row_of new (slice_set codes to next))
stepped_to k old new codes from code to next a g w ef et ea ec l fresh =
    let f = l.before in
    let h = l.after in
    let stands : slice_index_or codes k.source 0 ≡ code = ap (λ (x : ℕ). slice_index_or codes x 0) (sym ef) ∙ sym ec in
    let same = row_grown old new codes g w in
    let here : entry (row_of old codes) k.source ≡ Some f = ap (λ (row : List (Option Summary)). entry row k.source) (sym same) ∙ entry_row new codes k.source ∙ ap (decoded new) stands ∙ l.known in
    Stepped.set f h here (subst (λ (x : Action). Follows x f h) ea l.follows)
    (λ z q. fresh z h (ap (λ (x : ℕ). decoded new (slice_index_or codes x 0)) et ∙ sym (entry_row new codes k.target) ∙ ap (λ (row : List (Option Summary)). entry row k.target) same ∙ q) l.there)
    (row_set new codes to next ∙ ap (λ (row : List (Option Summary)). slice_set row to (decoded new next)) same
    ∙ ap (λ (x : ℕ). slice_set (row_of old codes) x (decoded new next)) et
    ∙ ap (λ (o : Option Summary). slice_set (row_of old codes) k.target o) l.there)

-- a step where there is no entry
pub stepped_none : (k : Link) (s : List Summary) (codes : List ℕ) (from : ℕ) → from ≡ k.source → slice_index_or codes from 0 ≡ 0 → Stepped k (row_of s codes) (row_of s codes)
stepped_none k s codes from ef z = Stepped.same refl (λ f e. absurd (never f e))
  where
    nothing : entry (row_of s codes) k.source ≡ None
    nothing = entry_row s codes k.source ∙ ap (decoded s) (ap (λ (x : ℕ). slice_index_or codes x 0) (sym ef) ∙ z)

    never : (f : Summary) → entry (row_of s codes) k.source ≡ Some f → ⊥
    never f e = let n = nothing in cc

-- a step where the code's entry is at or below
pub stepped_not : (k : Link) (old new : List Summary) (codes : List ℕ) (from code to next : ℕ) (a : Action) → Grows old new → AreCodes old codes → from ≡ k.source → to ≡ k.target → a ≡ k.acts → code ≡ slice_index_or codes from 0 → LeadsTo new a code next
    → ((h : Summary) → decoded new next ≡ Some h → IsCodeBelow new (slice_index_or codes to 0) h) → Stepped k (row_of old codes) (row_of new codes)
stepped_not k old new codes from code to next a g w ef et ea ec l below =
    subst (λ (row : List (Option Summary)). Stepped k row (row_of new codes)) (row_grown old new codes g w)
    (Stepped.same refl (λ f e. go f (sym (sym (entry_row new codes k.source) ∙ e) ∙ ap (decoded new) (ap (λ (x : ℕ). slice_index_or codes x 0) (sym ef) ∙ sym ec) ∙ l.known)))
  where
    go : (f : Summary) → Some f ≡ Some l.before → HasBelow (row_of new codes) k.target (then_action k.acts f)
    go f e =
        let q : l.before ≡ f = sym (same_Some f l.before e) in
        let follows : Follows k.acts f l.after = subst (λ (x : Action). Follows x f l.after) ea (subst (λ (z : Summary). Follows a z l.after) q l.follows) in
        let b = below l.after l.there in
        record {
          least = b.least;
          known = entry_row new codes k.target ∙ ap (λ (x : ℕ). decoded new (slice_index_or codes x 0)) (sym et) ∙ b.known;
          below = ap (is_below b.least) (sym follows.is) ∙ b.below;
        }

-- an entry that is at or below, by its code
pub has_below : (s : List Summary) (codes : List ℕ) (x code : ℕ) (least f : Summary) → code ≡ slice_index_or codes x 0 → decoded s code ≡ Some least → is_below least f ≡ true → HasBelow (row_of s codes) x f
has_below s codes x code least f e k b = record { least = least; known = entry_row s codes x ∙ ap (decoded s) (sym e) ∙ k; below = b }

-- ---- the opening row

pub codes_opened : (s : List Summary) (n v c : ℕ) → c ≤ length s → AreCodes s (slice_set (replicate n 0) v c)
codes_opened s n v c h = codes_put s (replicate n 0) v c (codes_none s n) h

length-row : (s : List Summary) (codes : List ℕ) → length (row_of s codes) ≡ length codes
length-row s [] = refl
length-row s (c ∷ codes) = ap suc (length-row s codes)

pub got_opened : (w : Links) → ∥ HaveLoops w ∥₁ → (v : ℕ) → v < length w.depths → (s : List Summary) (n c : ℕ) → n ≡ length w.depths → decoded s c ≡ Some (identity (slice_index_or w.depths v 0)) → HasGot w v 0 0 (row_of s (slice_set (replicate n 0) v c))
got_opened w some v known s n c l e = subst (HasGot w v 0 0) (sym (row_set s (replicate n 0) v c)) (got_none w some v known row long (λ x f h. of_walks x f (entry_set (row_of s (replicate n 0)) v (decoded s c) x f h)) self)
  where
    row : List (Option Summary)
    row = slice_set (row_of s (replicate n 0)) v (decoded s c)

    few : length (row_of s (replicate n 0)) ≡ length w.depths
    few = length-row s (replicate n 0) ∙ length-replicate n 0 ∙ l

    long : length (slice_set (row_of s (replicate n 0)) v (decoded s c)) ≡ length w.depths
    long = length-put (row_of s (replicate n 0)) v (decoded s c) ∙ few

    of_walks : (x : ℕ) (f : Summary) → (entry (row_of s (replicate n 0)) x ≡ Some f) ⊎ ((x ≡ v) × (decoded s c ≡ Some f)) → IsOfWalk w v 0 x f
    of_walks x f (inl a) = absurd (let b = none_there s n x in cc)
    of_walks x f (inr a) = record { steps = 0; few = omega arith; walk = (a.0, same_Some f (identity (slice_index_or w.depths v 0)) (sym a.1 ∙ e), refl) }

    self : HasBelow (slice_set (row_of s (replicate n 0)) v (decoded s c)) v (identity (slice_index_or w.depths v 0))
    self = record {
      least = identity (slice_index_or w.depths v 0);
      known = entry_at (row_of s (replicate n 0)) v (decoded s c) (omega (arith, few)) ∙ e;
      below = below_self (identity (slice_index_or w.depths v 0));
    }
