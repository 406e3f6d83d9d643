-- Names that are used.
use Rattle.std.proofs.Common.{◌≡◌, ◌⊎◌, ◌||◌, IsTrue, Bool, true, false, List, [], ◌∷◌, refl, sym, inl, inr, ◌∙◌}
use Rattle.std.specs.List.{list_any}
use Rattle.semantics.specs.Meaning.{same_name}
use Rattle.semantics.proofs.NamesAmong.{Decides-same_name}
use Rattle.semantics.specs.Multiset.{IsAmong}
use Rattle.semantics.specs.Query.{Name, Rel, Let, Output}
use Rattle.semantics.specs.FreeNames.{free, free_in_outputs}
use Rattle.semantics.specs.Normal.{Reaches}
use Rattle.normalise.specs.Reached.{Adds, Finds}

-- a let that isn't reached adds nothing
pub finds_same : (set : Name → Bool) (a : Let) (after : List Let) (outs : List Output) → (Reaches a.name after outs → ⊥) → Finds set after outs → Finds set (a ∷ after) outs
finds_same set a after outs n f = record { has = λ y. (λ t. inl ((f.has y).0 t), λ t. back y t) }
  where
    back : (y : Name) → Reaches y after outs ⊎ (IsAmong y (free a.value) × Reaches a.name after outs) → IsTrue (set y)
    back y (inl t) = (f.has y).1 t
    back y (inr t) = absurd (n t.1)

-- whether a name is among others
among_found : (x : Name) (zs : List Name) → IsAmong x zs → list_any (same_name x) zs ≡ true
among_found x [] h = absurd h
among_found x (z ∷ zs) h = go (same_name x z) refl h (among_found x zs)
  where
    go : (a : Bool) → same_name x z ≡ a → (z ≡ x) ⊎ IsAmong x zs → (IsAmong x zs → list_any (same_name x) zs ≡ true) → (a || list_any (same_name x) zs) ≡ true
    go true e h ih = refl
    go false e (inl p) ih = absurd (clash (sym ((Decides-same_name x z).1 (sym p)) ∙ e))
      where
        clash : true ≡ false → ⊥
        clash c = cc
    go false e (inr k) ih = ih k

found_among : (x : Name) (zs : List Name) → list_any (same_name x) zs ≡ true → IsAmong x zs
found_among x [] h = cc
found_among x (z ∷ zs) h = go (same_name x z) refl h (found_among x zs)
  where
    go : (a : Bool) → same_name x z ≡ a → (a || list_any (same_name x) zs) ≡ true → (list_any (same_name x) zs ≡ true → IsAmong x zs) → (z ≡ x) ⊎ IsAmong x zs
    go true e t ih = inl (sym ((Decides-same_name x z).0 e))
    go false e t ih = inr (ih t)

pub known : (set none : Name → Bool) (x : Name) (ys : List Name) → ((y : Name) → none y ≡ false) → Adds ys set none → set x ≡ list_any (same_name x) ys
known set none x ys n f = go (set x) (list_any (same_name x) ys) refl refl
  where
    go : (a b : Bool) → set x ≡ a → list_any (same_name x) ys ≡ b → a ≡ b
    go true true e g = refl
    go false false e g = refl
    go true false e g = absurd (cut (sym (among_found x ys (some ((f.has x).0 e))) ∙ g))
      where
        cut : true ≡ false → ⊥
        cut c = cc

        some : IsTrue (none x) ⊎ IsAmong x ys → IsAmong x ys
        some (inl t) = absurd (bad (sym t ∙ n x))
          where
            bad : true ≡ false → ⊥
            bad c = cc
        some (inr t) = t
    go false true e g = absurd (cut (sym ((f.has x).1 (inr (found_among x ys g))) ∙ e))
      where
        cut : true ≡ false → ⊥
        cut c = cc
