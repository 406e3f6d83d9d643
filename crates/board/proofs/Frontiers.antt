-- A scan through requests.
use Rattle.std.proofs.Common.{◌≡◌, ◌⊎◌, inl, inr, ◌<◌, ◌+◌, ◌++◌, ℕ, zero, suc, List, [], ◌∷◌, length, sym, ◌∙◌, ap, subst, arith, slice_get, slice_index_or, Some, Result, Ok, Err, OnOk, OnErr}
use Rattle.machine.specs.World.{Request}
use Rattle.machine.specs.Active.{request_pointstamp}
use Rattle.semantics.specs.Dataflow.{IsDataflow}
use Rattle.semantics.proofs.CouldRises.{could_once, could_onward}
use Rattle.semantics.specs.Graph.{Graph}
use Rattle.semantics.specs.Could.{CouldResultIn, IsTimeAt, Location, Pointstamp}
use Rattle.semantics.specs.Time.{IsAtMost}
use Rattle.semantics.proofs.Cases.{below_or_last}
use Rattle.board.specs.Deliverable.{IsBlocked, IsDeliverable, StandsBefore}
use Rattle.board.proofs.Places.{get_index}

-- one more place is scanned
pub blocked_next : (P : Request → Type 0) (rs : List Request) (place : ℕ) (r : Request) → slice_get rs place ≡ Some r → (P r → ⊥)
    → ((at : ℕ) (x : Request) → at < place → slice_get rs at ≡ Some x → P x → ⊥) → (at : ℕ) (x : Request) → at < place + 1 → slice_get rs at ≡ Some x → P x → ⊥
blocked_next P rs place r got apart before at x l e h = go (below_or_last at place l)
  where
    go : (at < place) ⊎ (at ≡ place) → ⊥
    go (inl b) = before at x b e h
    go (inr q) =
        let f : Some x ≡ Some r = sym e ∙ ap (λ n. slice_get rs n) q ∙ got in
        let same : x ≡ r = cc in
        apart (subst P same h)

-- A request that may not be delivered blocks each request of its vertex at or after it, so the views needn't be asked about those.
pub blocked_behind : (g : Graph) → IsDataflow g → (these : Pointstamp → Type 0) (r r' : Request) → r.vertex ≡ r'.vertex → IsAtMost r.time r'.time
    → IsTimeAt g (Location.vertex r.vertex) r.time → IsTimeAt g (Location.vertex r'.vertex) r'.time
    → (IsDeliverable g these r → ⊥) → IsDeliverable g these r' → ⊥
blocked_behind g flows these r r' e order fits fits' blocked none =
    let p : Pointstamp = request_pointstamp r in
    let p' : Pointstamp = request_pointstamp r' in
    let c : CouldResultIn g p p' = record { starts = fits; ends = fits'; path = []; leads = ap Location.vertex e; in_time = order } in
    blocked (λ q there a.
    let here : q ≡ p' = none q there (could_onward g flows q p p' a c) in
    let back : CouldResultIn g p' p = subst (λ (x : Pointstamp). CouldResultIn g x p) here a in
    here ∙ sym (could_once g flows p p' c back))

-- a request behind a blocked one is blocked
module _ (g : Graph) (flows : IsDataflow g) (these : Pointstamp → Type 0) (rs : List Request) (known : (at : ℕ) (r : Request) → slice_get rs at ≡ Some r → IsTimeAt g (Location.vertex r.vertex) r.time) where
  pub stands_blocked : (place : ℕ) (b : IsBlocked g these rs place) (at : ℕ) (r : Request) → slice_get rs at ≡ Some r → StandsBefore rs r place → IsDeliverable g these r → ⊥
  stands_blocked place b at r got before =
      let one : before.request ≡ b.request = (let e : Some before.request ≡ Some b.request = sym before.there ∙ b.there in cc) in
      let P : Request → Type 0 = λ x. IsDeliverable g these x → ⊥ in
      blocked_behind g flows these before.request r before.vertex before.time (known place before.request before.there) (known at r got) (subst P (sym one) b.blocked)

  pub blocked_place : (place : ℕ) → IsBlocked g these rs place → place < length rs
  blocked_place place b = (get_index rs place b.request b.request b.there).0

-- one more number of which the same holds
pub each_push : (P : ℕ → Type 0) (xs : List ℕ) (x : ℕ) → ((i : ℕ) → i < length xs → P (slice_index_or xs i 0)) → P x → (i : ℕ) → i < length (xs ++ x ∷ []) → P (slice_index_or (xs ++ x ∷ []) i 0)
each_push P [] x all here zero l = here
each_push P [] x all here (suc i) l = absurd (omega (arith, l))
each_push P (y ∷ ys) x all here zero l = all 0 (omega arith)
each_push P (y ∷ ys) x all here (suc i) l = each_push P ys x (λ j lj. all (suc j) (omega (arith, lj))) here i (omega (arith, l))

-- the same whether the number was appended or there was no room
pub each_pushed : {T E : Type 0} (P : ℕ → Type 0) (xs ys : List ℕ) (x : ℕ) (r : Result T E) → OnOk r (ys ≡ xs ++ x ∷ []) → OnErr r (ys ≡ xs)
    → ((i : ℕ) → i < length xs → P (slice_index_or xs i 0)) → P x → (i : ℕ) → i < length ys → P (slice_index_or ys i 0)
each_pushed P xs ys x (Ok _) ok err all here =
    let A : List ℕ → Type 0 = λ zs. (i : ℕ) → i < length zs → P (slice_index_or zs i 0) in
    subst A (sym ok) (each_push P xs x all here)
each_pushed P xs ys x (Err _) ok err all here =
    let A : List ℕ → Type 0 = λ zs. (i : ℕ) → i < length zs → P (slice_index_or zs i 0) in
    subst A (sym err) all
