-- Names gathered are those that a loop carries.
use Rattle.std.proofs.lemmas.List.{take_more}
use Rattle.std.proofs.Common.{◌≡◌, ℕ, ◌+◌, ◌<◌, length, get_or, take, subst, Bool, true, false, cond, not, ◌||◌, List, [], ◌∷◌, ◌++◌, filter, refl, sym, ap, ap₂, ◌∙◌, append_assoc, append-nil}
use Rattle.std.specs.List.{list_any}
use Rattle.indexmap.specs.IndexSet.{insert_key}
use Rattle.semantics.specs.Query.{Name, Rel}
use Rattle.semantics.specs.Meaning.{same_name}
use Rattle.semantics.specs.FreeNames.{free, firsts, other_than, carried, has}
use Rattle.lowering.specs.Gathering.{gathered}
use Rattle.semantics.proofs.NamesAmong.{Decides-same_name}
use Rattle.typing.proofs.Named.{same_name-sym}

pub gathered_append : (bound acc xs ys : List Name) → gathered bound acc (xs ++ ys) ≡ gathered bound (gathered bound acc xs) ys
gathered_append bound acc [] ys = refl
gathered_append bound acc (x ∷ xs) ys = gathered_append bound (cond (has x bound || has x acc) acc (acc ++ (x ∷ []))) xs ys

has_any : (y : Name) (xs : List Name) → list_any (same_name y) xs ≡ has y xs
has_any y [] = refl
has_any y (x ∷ xs) = ap₂ (λ a b. a || b) (same_name-sym y x) (has_any y xs)

-- one name put into a set of names
pub gathered_one : (bound acc : List Name) (y : Name) → has y bound ≡ false → insert_key same_name acc y ≡ gathered bound acc (y ∷ [])
gathered_one bound acc y e = ap (λ b. cond b acc (acc ++ (y ∷ []))) (has_any y acc ∙ ap (λ b. b || has y acc) (sym e))

or_false : (b : Bool) → (b || false) ≡ b
or_false true = refl
or_false false = refl

or_true : (b : Bool) → (b || true) ≡ true
or_true true = refl
or_true false = refl

or_assoc : (a b c : Bool) → (a || (b || c)) ≡ ((a || b) || c)
or_assoc true b c = refl
or_assoc false b c = refl

has_push : (y x : Name) (xs : List Name) → has y (xs ++ (x ∷ [])) ≡ (has y xs || same_name x y)
has_push y x [] = or_false (same_name x y)
has_push y x (z ∷ zs) = ap (λ b. same_name z y || b) (has_push y x zs) ∙ or_assoc (same_name z y) (has y zs) (same_name x y)

-- one more name is bound
pub gathered_bound : (bound acc : List Name) (x : Name) (ys : List Name) → gathered (bound ++ (x ∷ [])) acc ys ≡ gathered bound acc (filter (other_than x) ys)
gathered_bound bound acc x [] = refl
gathered_bound bound acc x (y ∷ ys) =
    ap (λ b. gathered (bound ++ (x ∷ [])) (cond (b || has y acc) acc (acc ++ (y ∷ []))) ys) (has_push y x bound) ∙ go (same_name x y) (λ a. gathered_bound bound a x ys)
  where
    go : (s : Bool) → ((a : List Name) → gathered (bound ++ (x ∷ [])) a ys ≡ gathered bound a (filter (other_than x) ys)) → gathered (bound ++ (x ∷ [])) (cond ((has y bound || s) || has y acc) acc (acc ++ (y ∷ []))) ys ≡ gathered bound acc (cond (not s) (y ∷ filter (other_than x) ys) (filter (other_than x) ys))
    go true ih = ap (λ b. gathered (bound ++ (x ∷ [])) (cond (b || has y acc) acc (acc ++ (y ∷ []))) ys) (or_true (has y bound)) ∙ ih acc
    go false ih = ap (λ b. gathered (bound ++ (x ∷ [])) (cond (b || has y acc) acc (acc ++ (y ∷ []))) ys) (or_false (has y bound)) ∙ ih (cond (has y bound || has y acc) acc (acc ++ (y ∷ [])))

abbrev is_new : List Name → Name → Bool
is_new acc z = not (has z acc)

drop_known : (acc : List Name) (y : Name) (zs : List Name) → has y acc ≡ true → filter (is_new acc) (filter (other_than y) zs) ≡ filter (is_new acc) zs
drop_known acc y [] e = refl
drop_known acc y (z ∷ zs) e = go (same_name y z) refl (drop_known acc y zs e)
  where
    go : (s : Bool) → same_name y z ≡ s → filter (is_new acc) (filter (other_than y) zs) ≡ filter (is_new acc) zs → filter (is_new acc) (cond (not s) (z ∷ filter (other_than y) zs) (filter (other_than y) zs)) ≡ cond (is_new acc z) (z ∷ filter (is_new acc) zs) (filter (is_new acc) zs)
    go true q ih = ih ∙ ap (λ b. cond (not b) (z ∷ filter (is_new acc) zs) (filter (is_new acc) zs)) (sym (ap (λ w. has w acc) (sym ((Decides-same_name y z).0 q)) ∙ e))
    go false q ih = ap (λ l. cond (is_new acc z) (z ∷ l) l) ih

one_more : (acc : List Name) (y : Name) (zs : List Name) → filter (is_new (acc ++ (y ∷ []))) zs ≡ filter (is_new acc) (filter (other_than y) zs)
one_more acc y [] = refl
one_more acc y (z ∷ zs) =
    ap (λ b. cond (not b) (z ∷ filter (is_new (acc ++ (y ∷ []))) zs) (filter (is_new (acc ++ (y ∷ []))) zs)) (has_push z y acc) ∙ go (same_name y z) (one_more acc y zs)
  where
    go : (s : Bool) → filter (is_new (acc ++ (y ∷ []))) zs ≡ filter (is_new acc) (filter (other_than y) zs) → cond (not (has z acc || s)) (z ∷ filter (is_new (acc ++ (y ∷ []))) zs) (filter (is_new (acc ++ (y ∷ []))) zs) ≡ filter (is_new acc) (cond (not s) (z ∷ filter (other_than y) zs) (filter (other_than y) zs))
    go true ih = ap (λ b. cond (not b) (z ∷ filter (is_new (acc ++ (y ∷ []))) zs) (filter (is_new (acc ++ (y ∷ []))) zs)) (or_true (has z acc)) ∙ ih
    go false ih = ap (λ b. cond (not b) (z ∷ filter (is_new (acc ++ (y ∷ []))) zs) (filter (is_new (acc ++ (y ∷ []))) zs)) (or_false (has z acc)) ∙ ap (λ l. cond (is_new acc z) (z ∷ l) l) ih

gathered_new : (acc ys : List Name) → gathered [] acc ys ≡ acc ++ filter (is_new acc) (firsts ys)
gathered_new acc [] = sym (append-nil acc)
gathered_new acc (y ∷ ys) = go (λ a. gathered_new a ys) (has y acc) refl
  where
    go : ((a : List Name) → gathered [] a ys ≡ a ++ filter (is_new a) (firsts ys)) → (b : Bool) → has y acc ≡ b → gathered [] (cond b acc (acc ++ (y ∷ []))) ys ≡ acc ++ cond (not b) (y ∷ filter (is_new acc) (filter (other_than y) (firsts ys))) (filter (is_new acc) (filter (other_than y) (firsts ys)))
    go ih true e = ih acc ∙ ap (λ l. acc ++ l) (sym (drop_known acc y (firsts ys) e))
    go ih false e = ih (acc ++ (y ∷ [])) ∙ append_assoc acc (y ∷ []) (filter (is_new (acc ++ (y ∷ []))) (firsts ys)) ∙ ap (λ l. acc ++ (y ∷ l)) (one_more acc y (firsts ys))

all_new : (zs : List Name) → filter (is_new []) zs ≡ zs
all_new [] = refl
all_new (z ∷ zs) = ap (λ l. z ∷ l) (all_new zs)

pub gathered_carried : (x : Name) (b : Rel) → gathered (x ∷ []) [] (free b) ≡ carried x b
gathered_carried x b = gathered_bound [] [] x (free b) ∙ gathered_new [] (filter (other_than x) (free b)) ∙ all_new (carried x b)

-- a name gathered where none was is one of them
pub has_gathered : (y : Name) (acc xs : List Name) → has y (gathered [] acc xs) ≡ (has y acc || has y xs)
has_gathered y acc [] = sym (or_false (has y acc))
has_gathered y acc (x ∷ xs) = has_gathered y (cond (has x acc) acc (acc ++ (x ∷ []))) xs ∙ ap (λ b. b || has y xs) (one (has x acc) refl) ∙ sym (or_assoc (has y acc) (same_name x y) (has y xs))
  where
    there : has x acc ≡ true → (b : Bool) → same_name x y ≡ b → has y acc ≡ (has y acc || b)
    there e true q = subst (λ z. has z acc ≡ (has z acc || true)) ((Decides-same_name x y).0 q) (e ∙ sym (or_true (has x acc)))
    there e false q = sym (or_false (has y acc))

    one : (b : Bool) → has x acc ≡ b → has y (cond b acc (acc ++ (x ∷ []))) ≡ (has y acc || same_name x y)
    one true e = there e (same_name x y) refl
    one false e = has_push y x acc

-- one name more of those that aren't needed
pub once_more : (ys : List Name) (i : ℕ) (y : Name) (kept needed_names : List Name) (b : Bool) → i < length ys → y ≡ get_or ys i y → has y needed_names ≡ b → kept ≡ filter (λ y. not (has y needed_names)) (take i ys)
    → cond b kept (kept ++ (y ∷ [])) ≡ filter (λ y. not (has y needed_names)) (take (i + 1) ys)
once_more ys i y kept needed_names b within is e k =
    by b e
    ∙ sym (ap (filter (λ y. not (has y needed_names))) (take_more ys i y within ∙ ap (λ z. take i ys ++ z ∷ []) (sym is)) ∙ filter_push (take i ys))
  where
    filter_push : (xs : List Name) → filter (λ y. not (has y needed_names)) (xs ++ (y ∷ [])) ≡ filter (λ y. not (has y needed_names)) xs ++ cond (not (has y needed_names)) (y ∷ []) []
    filter_push [] = refl
    filter_push (x ∷ xs) = go (not (has x needed_names)) (filter_push xs)
      where
        go : (t : Bool) → filter (λ y. not (has y needed_names)) (xs ++ (y ∷ [])) ≡ filter (λ y. not (has y needed_names)) xs ++ cond (not (has y needed_names)) (y ∷ []) []
            → cond t (x ∷ filter (λ y. not (has y needed_names)) (xs ++ (y ∷ []))) (filter (λ y. not (has y needed_names)) (xs ++ (y ∷ []))) ≡ cond t (x ∷ filter (λ y. not (has y needed_names)) xs) (filter (λ y. not (has y needed_names)) xs) ++ cond (not (has y needed_names)) (y ∷ []) []
        go true q = ap (λ l. x ∷ l) q
        go false q = q

    by : (b : Bool) → has y needed_names ≡ b → cond b kept (kept ++ (y ∷ [])) ≡ filter (λ y. not (has y needed_names)) (take i ys) ++ cond (not (has y needed_names)) (y ∷ []) []
    by true q = k ∙ sym (append-nil (filter (λ y. not (has y needed_names)) (take i ys))) ∙ ap (λ t. filter (λ y. not (has y needed_names)) (take i ys) ++ cond (not t) (y ∷ []) []) (sym q)
    by false q = ap (λ l. l ++ (y ∷ [])) k ∙ ap (λ t. filter (λ y. not (has y needed_names)) (take i ys) ++ cond (not t) (y ∷ []) []) (sym q)
