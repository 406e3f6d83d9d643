-- The table of the names in scope, after one entry more and after one fewer.
use Rattle.std.proofs.Common.{◌≡◌, ℕ, zero, suc, ◌≤◌, Bool, true, false, cond, is_some, ◌⊎◌, inl, inr, List, [], ◌∷◌, ◌++◌, length, take, Option, Some, None, refl, sym, ap, ap₂, subst, ◌∙◌, arith, true≢false}
use Rattle.std.specs.Prelude.{slice_get}
use Rattle.std.specs.Map.{lookup}
use Rattle.std.proofs.Math.Seq.{take-length}
use Rattle.std.proofs.lemmas.List.{map-append, take-append-le, take-map}
use Rattle.std.proofs.lemmas.Option.{slice_get_within}
use Rattle.semantics.specs.Query.{Name}
use Rattle.semantics.specs.Graph.{no_port}
use Rattle.semantics.specs.Lower.{stands_for}
use Rattle.semantics.specs.Meaning.{same_name}
use Rattle.semantics.proofs.NamesAmong.{Decides-same_name}
use Rattle.graph.specs.Views.{port_of}
use Rattle.lowering.specs.Scopes.{IsTable, entries_of, found_port, ports_of}
use Rattle.lowering.specs.declared.scope.Bound.{Bound}
use Rattle.graph.specs.declared.vertex.Port.{Port}
use Rattle.lowering.proofs.Scopes.{ports_from_append}

-- ---- lists with one element more

push_got : {A : Type 0} (xs : List A) (y : A) (i : ℕ) (x : A) → slice_get xs i ≡ Some x → slice_get (xs ++ (y ∷ [])) i ≡ Some x
push_got [] y i x e = absurd (cc)
push_got (z ∷ zs) y zero x e = e
push_got (z ∷ zs) y (suc i) x e = push_got zs y i x e

got_push : {A : Type 0} (xs : List A) (y : A) (i : ℕ) (x : A) → slice_get (xs ++ (y ∷ [])) i ≡ Some x → (slice_get xs i ≡ Some x) ⊎ ((i ≡ length xs) × (y ≡ x))
got_push [] y zero x e = inr (refl, cc)
got_push [] y (suc i) x e = absurd (cc)
got_push (z ∷ zs) y zero x e = inl e
got_push (z ∷ zs) y (suc i) x e = elim (got_push zs y i x e) [ inl h ↦ inl h | inr h ↦ inr (ap suc h.0, h.1) ]

got_last : {A : Type 0} (xs : List A) (y : A) → slice_get (xs ++ (y ∷ [])) (length xs) ≡ Some y
got_last [] y = refl
got_last (x ∷ xs) y = got_last xs y

-- the first entries are the same
front : (bs : List Bound) (b : Bound) (i : ℕ) → i ≤ length bs → take i (entries_of (bs ++ (b ∷ []))) ≡ take i (entries_of bs)
front bs b i h = take-map (λ c. c.entry) i (bs ++ (b ∷ [])) ∙ ap entries_of (take-append-le i bs (b ∷ []) h) ∙ sym (take-map (λ c. c.entry) i bs)

whole : (bs : List Bound) (b : Bound) → take (length bs) (entries_of (bs ++ (b ∷ []))) ≡ entries_of bs
whole bs b = front bs b (length bs) (omega arith) ∙ take-map (λ c. c.entry) (length bs) bs ∙ ap entries_of (take-length bs)

ports_push : (bs : List Bound) (b : Bound) → ports_of (entries_of (bs ++ (b ∷ []))) ≡ stands_for b.entry.name (port_of b.entry.port) (ports_of (entries_of bs))
ports_push bs b = ap ports_of (map-append (λ c. c.entry) bs (b ∷ [])) ∙ ports_from_append (λ x. no_port) (entries_of bs) (b.entry ∷ [])

-- ---- a table in which one name's port is changed

-- u is t but for the port of x
abbrev pub Changed : List (Name × Port) → List (Name × Port) → Name → Port → Type 0
Changed t u x p = (q : Name) → lookup (same_name q) u ≡ cond (same_name x q) (Some p) (lookup (same_name q) t)

found_cond : (b : Bool) (p : Port) (r : Option Port) → found_port (cond b (Some p) r) ≡ cond b (port_of p) (found_port r)
found_cond true p r = refl
found_cond false p r = refl

some_cond : (b : Bool) (p : Port) (r : Option Port) → is_some r ≡ true → is_some (cond b (Some p) r) ≡ true
some_cond true p r h = refl
some_cond false p r h = h

pub nothing_bound : IsTable [] []
nothing_bound = record { found = λ x. refl; known = λ i b e. absurd (cc); hidden = λ i b e. absurd (cc) }

-- one entry more
pub one_bound : (t u : List (Name × Port)) (bs cs : List Bound) (x : Name) (p h : Port) → IsTable t bs → port_of h ≡ ports_of (entries_of bs) x → Changed t u x p → cs ≡ bs ++ (record { entry = record { name = x; port = p }; hidden = h } ∷ []) → IsTable u cs
one_bound t u bs cs x p h tab before up e = subst (λ zs. IsTable u zs) (sym e) (record { found = found; known = known; hidden = hidden })
  where
    b : Bound
    b = record { entry = record { name = x; port = p }; hidden = h }

    found : (q : Name) → found_port (lookup (same_name q) u) ≡ ports_of (entries_of (bs ++ (b ∷ []))) q
    found q = ap found_port (up q) ∙ found_cond (same_name x q) p (lookup (same_name q) t) ∙ ap (λ r. cond (same_name x q) (port_of p) r) (tab.found q) ∙ sym (ap (λ f. f q) (ports_push bs b))

    own : is_some (lookup (same_name x) u) ≡ true
    own = ap is_some (up x ∙ ap (λ c. cond c (Some p) (lookup (same_name x) t)) ((Decides-same_name x x).1 refl))

    known : (i : ℕ) (c : Bound) → slice_get (bs ++ (b ∷ [])) i ≡ Some c → is_some (lookup (same_name c.entry.name) u) ≡ true
    known i c g = elim (got_push bs b i c g) [
      | inl k ↦ ap is_some (up c.entry.name) ∙ some_cond (same_name x c.entry.name) p (lookup (same_name c.entry.name) t) (tab.known i c k)
      | inr k ↦ subst (λ z. is_some (lookup (same_name z.entry.name) u) ≡ true) k.1 own
    ]

    hidden : (i : ℕ) (c : Bound) → slice_get (bs ++ (b ∷ [])) i ≡ Some c → port_of c.hidden ≡ ports_of (take i (entries_of (bs ++ (b ∷ [])))) c.entry.name
    hidden i c g = elim (got_push bs b i c g) [
      | inl k ↦ (let lt = slice_get_within bs i c k in tab.hidden i c k ∙ ap (λ es. ports_of es c.entry.name) (sym (front bs b i (omega (arith, lt)))))
      | inr k ↦ subst (λ j. port_of c.hidden ≡ ports_of (take j (entries_of (bs ++ (b ∷ [])))) c.entry.name) (sym k.0)
          (subst (λ z. port_of z.hidden ≡ ports_of (take (length bs) (entries_of (bs ++ (b ∷ [])))) z.entry.name) k.1 (before ∙ ap (λ es. ports_of es x) (sym (whole bs b))))
    ]

-- one entry fewer: its name has the port that it hid
pub one_forgotten : (t u : List (Name × Port)) (bs cs : List Bound) (b : Bound) → IsTable t bs → bs ≡ cs ++ (b ∷ []) → Changed t u b.entry.name b.hidden → IsTable u cs
one_forgotten t u bs cs b was e up = record { found = found; known = known; hidden = hidden }
  where
    tab : IsTable t (cs ++ (b ∷ []))
    tab = subst (λ zs. IsTable t zs) e was

    under : (q : Name) → (c : Bool) → same_name b.entry.name q ≡ c → cond c (port_of b.hidden) (found_port (lookup (same_name q) t)) ≡ ports_of (entries_of cs) q
    under q true s = tab.hidden (length cs) b (got_last cs b) ∙ ap₂ (λ es z. ports_of es z) (whole cs b) ((Decides-same_name b.entry.name q).0 s)
    under q false s = tab.found q ∙ ap (λ f. f q) (ports_push cs b) ∙ ap (λ c. cond c (port_of b.entry.port) (ports_of (entries_of cs) q)) s

    found : (q : Name) → found_port (lookup (same_name q) u) ≡ ports_of (entries_of cs) q
    found q = ap found_port (up q) ∙ found_cond (same_name b.entry.name q) b.hidden (lookup (same_name q) t) ∙ under q (same_name b.entry.name q) refl

    known : (i : ℕ) (c : Bound) → slice_get cs i ≡ Some c → is_some (lookup (same_name c.entry.name) u) ≡ true
    known i c g = ap is_some (up c.entry.name) ∙ some_cond (same_name b.entry.name c.entry.name) b.hidden (lookup (same_name c.entry.name) t) (tab.known i c (push_got cs b i c g))

    hidden : (i : ℕ) (c : Bound) → slice_get cs i ≡ Some c → port_of c.hidden ≡ ports_of (take i (entries_of cs)) c.entry.name
    hidden i c g =
        let lt = slice_get_within cs i c g in
        tab.hidden i c (push_got cs b i c g) ∙ ap (λ es. ports_of es c.entry.name) (front cs b i (omega (arith, lt)))

-- the last entry's name is in the table
pub last_known : (t : List (Name × Port)) (bs cs : List Bound) (b : Bound) → IsTable t bs → bs ≡ cs ++ (b ∷ []) → lookup (same_name b.entry.name) t ≡ None → ⊥
last_known t bs cs b tab e none =
    true≢false (sym ((subst (λ zs. IsTable t zs) e tab).known (length cs) b (got_last cs b)) ∙ ap is_some none)
