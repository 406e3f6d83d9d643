-- The worker of a key, as a fold.
use Rattle.std.proofs.Common.{◌≡◌, ℕ, ◌%◌, List, [], ◌∷◌, fold, refl, ap}
use Rattle.semantics.specs.Multiset.{Record}
use Rattle.semantics.specs.Meaning.{field, project}
use Rattle.semantics.specs.Route.{route, hash_from}
use Rattle.exchange.specs.Hashes.{step}

hash_folds : (h : ℕ) (key : Record) → hash_from h key ≡ fold step h key
hash_folds h [] = refl
hash_folds h (v ∷ vs) = hash_folds (step h v) vs

pub route_folds : (key : Record) (workers : ℕ) → route key workers ≡ fold step 7 key % workers
unfolding route
route_folds key workers = ap (λ h. h % workers) (hash_folds 7 key)

hash_projects : (h : ℕ) (cs : List ℕ) (r : Record) → hash_from h (project cs r) ≡ fold (λ h c. step h (field c r)) h cs
hash_projects h [] r = refl
hash_projects h (c ∷ cs) r = hash_projects (step h (field c r)) cs r

pub route_projects : (cs : List ℕ) (r : Record) (workers : ℕ) → route (project cs r) workers ≡ fold (λ h c. step h (field c r)) 7 cs % workers
unfolding route
route_projects cs r workers = ap (λ h. h % workers) (hash_projects 7 cs r)
