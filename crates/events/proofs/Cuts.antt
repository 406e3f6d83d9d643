-- The messages of a batch that is cut, for any epoch at which it is fed.
use Rattle.std.proofs.Common.{◌≡◌, ◌<◌, ◌≤◌, ◌+◌, ℕ, suc, zero, List, [], ◌∷◌, ◌++◌, map, length, take, drop, get_or, refl, sym, subst, ap, ap₂, ◌∙◌, arith, add-one}
use Rattle.std.proofs.Math.ListN.{set}
use Rattle.std.proofs.lemmas.List.{map-append}
use Rattle.semantics.specs.Graph.{vertex}
use Rattle.semantics.specs.Kinds.{Kind, action, out_ports}
use Rattle.semantics.specs.Multiset.{Record}
use Rattle.semantics.specs.Time.{Time, after_action, at_epoch}
use Rattle.machine.specs.Network.{Network}
use Rattle.exchange.specs.Parts as exchange
use Rattle.exchange.specs.declared.splitting.Parcel.{Parcel}
use Rattle.events.specs.declared.letter.Letter.{Letter}
use Rattle.events.specs.Cuts.{Cut, IsCut, at_time, cut_letters}
use Rattle.events.specs.Graphs.{IsKnown}
use Rattle.events.specs.Letters.{AreParcels, by_two, letter_of, letters, letters_over}
use Rattle.events.specs.Wired.{graph_in, network_of}
use Rattle.events.proofs.CommitOutputs.{parcels_are}

-- ---- a loop that writes each element in turn

-- the first i elements are written
abbrev pub written : {A : Type 0} (f : A → A) (i : ℕ) → List A → List A
written f zero xs = xs
written f (suc i) [] = []
written f (suc i) (x ∷ xs) = f x ∷ written f i xs

write_next : {A : Type 0} (f : A → A) (i : ℕ) (xs : List A) (y x : A) → i < length xs → y ≡ get_or (written f i xs) i y → x ≡ f y → set (written f i xs) i x ≡ written f (suc i) xs
write_next f zero [] y x l e h = absurd (omega arith)
write_next f zero (z ∷ zs) y x l e h = ap (λ v. v ∷ zs) (h ∙ ap f e)
write_next f (suc i) [] y x l e h = absurd (omega arith)
write_next f (suc i) (z ∷ zs) y x l e h = ap (λ vs. f z ∷ vs) (write_next f i zs y x (omega arith) e h)

pub write-next : {A : Type 0} (f : A → A) (i : ℕ) (xs : List A) (y x : A) → i < length xs → y ≡ get_or (written f i xs) i y → x ≡ f y → set (written f i xs) i x ≡ written f (i + 1) xs
write-next f i xs y x l e h = rw add-one (write_next f i xs y x l e h)

pub written_all : {A : Type 0} (f : A → A) (i : ℕ) (xs : List A) → length xs ≤ i → written f i xs ≡ map f xs
written_all f zero [] l = refl
written_all f zero (z ∷ zs) l = absurd (omega arith)
written_all f (suc i) [] l = refl
written_all f (suc i) (z ∷ zs) l = ap (λ vs. f z ∷ vs) (written_all f i zs (omega arith))

-- a list that was lent as a whole and came back as xs holds xs
pub lent_whole : {A : Type 0} (n : ℕ) (xs ys : List A) → n ≡ length ys → length xs ≡ length ys → take n (xs ++ drop (length xs) ys) ≡ xs
lent_whole {A} n xs ys e l = subst (λ (k : ℕ). take k (xs ++ drop (length xs) ys) ≡ xs) (l ∙ sym e) (taken_all xs (drop (length xs) ys) (dropped_all ys (length xs) (omega (arith, l))))
  where
    dropped_all : {A : Type 0} (zs : List A) (k : ℕ) → length zs ≤ k → drop k zs ≡ []
    dropped_all [] zero m = refl
    dropped_all [] (suc k) m = refl
    dropped_all (z ∷ zs) zero m = absurd (omega arith)
    dropped_all (z ∷ zs) (suc k) m = dropped_all zs k (omega arith)

    taken_all : {A : Type 0} (zs ws : List A) → ws ≡ [] → take (length zs) (zs ++ ws) ≡ zs
    taken_all [] ws m = refl
    taken_all (z ∷ zs) ws m = ap (λ vs. z ∷ vs) (taken_all zs ws m)

-- ---- letters at another time

over_at : (e : ℕ) (t u : Time) (ps : List Parcel) → map (at_time u) (map (letter_of e t) ps) ≡ map (letter_of e u) ps
over_at e t u [] = refl
over_at e t u (p ∷ ps) = ap (λ ls. letter_of e u p ∷ ls) (over_at e t u ps)

pub letters_at : (g : Network) (sender : ℕ) (t u : Time) (out : ℕ → List Record) (es : List ℕ) → map (at_time u) (letters g sender t out es) ≡ letters g sender u out es
letters_at g sender t u out [] = refl
letters_at g sender t u out (e ∷ es) =
    map-append (at_time u) (letters_over g sender e t (out (g.out_port e))) (letters g sender t out es)
    ∙ ap₂ (λ xs ys. xs ++ ys) (over_at e t u (exchange.parcels (g.home sender e) (out (g.out_port e)) g.workers)) (letters_at g sender t u out es)

pub cut_at : (c : Cut) (e : ℕ) (ls : List Letter) → IsCut c ls → IsCut (record c { epoch = e }) (map (at_time (at_epoch e)) ls)
cut_at c e ls is = record {
  there = is.there;
  kind = is.kind;
  letters = ap (map (at_time (at_epoch e))) is.letters ∙ letters_at (network_of c.wired) 0 (at_epoch c.epoch) (at_epoch e) (by_two c.batch []) _;
}

-- ---- what is fed

first_alone : (records : List Record) (n : ℕ) → n ≡ 1 → (q : ℕ) → q < n → by_two records [] q ≡ records
first_alone records n e zero l = refl
first_alone records n e (suc q) l = absurd (omega (arith, e, l))

pub cut_parcels : (c : Cut) (ls : List Letter) → IsKnown (graph_in c.wired) → IsCut c ls → AreParcels (network_of c.wired) 0 c.input (at_epoch c.epoch) (λ q. c.batch) (cut_letters c)
cut_parcels c ls k is =
    let g = graph_in c.wired in
    parcels_are g k c.wired.workers 0 c.input (at_epoch c.epoch) (at_epoch c.epoch) c.batch [] (λ q. c.batch) (cut_letters c)
    (is.there, sym (k.flat c.input is.there is.kind))
    (ap (λ (x : Kind). after_action (action x) (at_epoch c.epoch)) (sym is.kind))
    (first_alone c.batch (out_ports (vertex g c.input).kind) (ap out_ports is.kind))
    refl
