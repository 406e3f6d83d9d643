-- One more record in the last epoch of an input.
use Rattle.std.proofs.Common.{◌≡◌, ◌≢◌, ◌<◌, ◌≤◌, ◌+◌, ◌∙◌, ℕ, zero, suc, ℤ, List, [], ◌∷◌, ◌++◌, length, map, refl, sym, ap, arith, get_or, set, inl, inr}
use Rattle.std.specs.Prelude.{◌==◌, ◌&&◌, if◌then◌else◌}
use Rattle.std.proofs.lemmas.Bool.Decides.{eqb_tells}
use Rattle.std.proofs.lemmas.List.{length-map, get_or-map, map-set, get_or-set_other, get_or_past, length-append}
use Rattle.std.proofs.lemmas.Bool.{cases_lt}
use Rattle.std.proofs.lemmas.Grind.{get_or-set_at}

-- the records of the epochs of an input
abbrev pub Records : Type 0
Records = List (List ℤ)

pub last_gains : {V : Type 0} (f : V → Records) (vs : List V) (n : ℕ) (new old : V) (row : List ℤ) → n + 1 ≡ length vs → old ≡ get_or vs n old → f new ≡ f old ++ row ∷ []
    → (k : ℕ) → get_or (map f (set vs n new)) k [] ≡ (if k + 1 == length (map f vs) then get_or (map f vs) k [] ++ row ∷ [] else get_or (map f vs) k [])
last_gains f vs n new old row last was gains k =
    let size : length (map f vs) ≡ length vs = length-map vs f in
    let moved : get_or (map f (set vs n new)) k [] ≡ get_or (set (map f vs) n (f new)) k [] = ap (λ ws. get_or ws k []) (map-set f vs n new) in
    elim (eqb_tells (k + 1) (length (map f vs))) [
      | inl same ↦
          let here : k ≡ n = omega (arith, same.1) in
          let there : f old ≡ get_or (map f vs) k [] = ap f was ∙ sym (get_or-map f vs n old [] (omega arith)) ∙ ap (λ j. get_or (map f vs) j []) (sym here) in
          rw same.0 (moved ∙ get_or-set_at (map f vs) n k (f new) [] here (omega arith) ∙ gains ∙ ap (λ (rs : Records). rs ++ row ∷ []) there)
      | inr other ↦ rw other.0 (moved ∙ get_or-set_other (map f vs) n k (f new) [] (λ e. other.1 (omega (arith, e))))
    ]

pub input_gains : (ws : List (List Records)) (input count : ℕ) (new : List Records) (row : List ℤ) → input < length ws → length (get_or ws input []) ≡ count
    → ((k : ℕ) → get_or new k [] ≡ (if k + 1 == length (get_or ws input []) then get_or (get_or ws input []) k [] ++ row ∷ [] else get_or (get_or ws input []) k []))
    → (epoch i : ℕ) → get_or (get_or (set ws input new) i []) epoch [] ≡ (if (i == input) && (epoch + 1 == count) then get_or (get_or ws i []) epoch [] ++ row ∷ [] else get_or (get_or ws i []) epoch [])
input_gains ws input count new row lt even at epoch i = elim (eqb_tells i input) [
  | inl same ↦
      let here : get_or (set ws input new) i [] ≡ new = get_or-set_at ws input i new [] same.1 lt in
      rw (here, same.0, same.1, ← even) (at epoch)
  | inr other ↦ rw (other.0, get_or-set_other ws input i new [] other.1) refl
]

pub stays_even : (ws : List (List Records)) (input count : ℕ) (new : List Records) → length new ≡ count → ((i : ℕ) → i < length ws → length (get_or ws i []) ≡ count) → (i : ℕ) → i < length ws → length (get_or (set ws input new) i []) ≡ count
stays_even ws input count new size even i lt = elim (eqb_tells i input) [
  | inl same ↦ ap length (get_or-set_at ws input i new [] same.1 (omega (arith, same.1))) ∙ size
  | inr other ↦ ap length (get_or-set_other ws input i new [] other.1) ∙ even i lt
]

-- an empty list at the end makes no difference
pub blank_end : {X : Type 0} (ws : List (List X)) (k : ℕ) → get_or (ws ++ [] ∷ []) k [] ≡ get_or ws k []
blank_end [] zero = refl
blank_end [] (suc k) = refl
blank_end (w ∷ ws) zero = refl
blank_end (w ∷ ws) (suc k) = blank_end ws k

-- no epoch, and one more input
pub still_none : (ws new : List (List Records)) → new ≡ ws ++ [] ∷ [] → ((k : ℕ) → get_or ws k [] ≡ []) → (k : ℕ) → get_or new k [] ≡ []
still_none ws new e none k = ap (λ (vs : List (List Records)). get_or vs k []) e ∙ blank_end ws k ∙ none k

-- the epoch has begun for one more input
pub begun_here : (old ws : List (List Records)) (input : ℕ) (new : List Records) → input < length ws → ((i : ℕ) → i < input → get_or ws i [] ≡ get_or old i [] ++ [] ∷ []) → ((i : ℕ) → input ≤ i → get_or ws i [] ≡ get_or old i [])
    → new ≡ get_or ws input [] ++ [] ∷ [] → (i : ℕ) → i < input + 1 → get_or (set ws input new) i [] ≡ get_or old i [] ++ [] ∷ []
begun_here old ws input new lt done rest e i below = elim (eqb_tells i input) [
  | inl same ↦
      let here : get_or ws input [] ≡ get_or old i [] = rest input (omega arith) ∙ ap (λ j. get_or old j []) (sym same.1) in
      get_or-set_at ws input i new [] same.1 lt ∙ e ∙ ap (λ (rs : List Records). rs ++ [] ∷ []) here
  | inr other ↦ get_or-set_other ws input i new [] other.1 ∙ done i (omega (arith, below_other i input below other.1))
]
  where
    below_other : (i n : ℕ) → i < n + 1 → i ≢ n → i < n
    below_other i n lt other = omega (arith, other)

pub not_yet : (old ws : List (List Records)) (input : ℕ) (new : List Records) → ((i : ℕ) → input ≤ i → get_or ws i [] ≡ get_or old i []) → (i : ℕ) → input + 1 ≤ i → get_or (set ws input new) i [] ≡ get_or old i []
not_yet old ws input new rest i le = get_or-set_other ws input i new [] (λ e. absurd (omega (arith, e, le))) ∙ rest i (omega arith)

-- the epoch has begun for all inputs
pub all_begun : (old ws : List (List Records)) → length ws ≡ length old → ((i : ℕ) → i < length ws → get_or ws i [] ≡ get_or old i [] ++ [] ∷ []) → (epoch i : ℕ) → get_or (get_or ws i []) epoch [] ≡ get_or (get_or old i []) epoch []
all_begun old ws size done epoch i = elim (cases_lt i (length ws)) [
  | inl lt ↦ ap (λ (rs : List Records). get_or rs epoch []) (done i lt) ∙ blank_end (get_or old i []) epoch
  | inr ge ↦ ap (λ (rs : List Records). get_or rs epoch []) (get_or_past ws i [] ge ∙ sym (get_or_past old i [] (omega arith)))
]

pub even_begun : (old ws : List (List Records)) (count : ℕ) → length ws ≡ length old → ((i : ℕ) → i < length old → length (get_or old i []) ≡ count) → ((i : ℕ) → i < length ws → get_or ws i [] ≡ get_or old i [] ++ [] ∷ []) → (i : ℕ) → i < length ws → length (get_or ws i []) ≡ count + 1
even_begun old ws count size even done i lt = ap length (done i lt) ∙ length-append (get_or old i []) ([] ∷ []) ∙ ap (λ n. n + 1) (even i (omega arith))
