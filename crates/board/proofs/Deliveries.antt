-- Mailboxes after messages were delivered.
use Rattle.std.proofs.Common.{◌≡◌, ◌≢◌, ℕ, ◌<◌, ◌==◌, true, false, cond, List, [], ◌∷◌, ◌++◌, length, refl, sym, ap, ◌∙◌, arith, slice_set, ◌⊎◌, inl, inr, append_assoc, append-nil, length-set}
use Rattle.std.proofs.lemmas.Bool.Decides.{eqb_tells}
use Rattle.machine.specs.World.{Message}
use Rattle.events.specs.declared.letter.Letter.{Letter}
use Rattle.events.specs.Letters.{sent_to}
use Rattle.board.specs.Shown.{Side, side_in, no_side}
use Rattle.board.specs.Steps.{with_mail, delivered}
use Rattle.board.proofs.Mails.{sent_to_other}
use Rattle.board.proofs.Places.{index_set_here, index_set_other}

-- a side with these messages appended to its mail
abbrev pub with_all : Side → List Message → Side
with_all x ms = record x { mail = x.mail ++ ms }

pub delivered_length : (os : List Letter) (xs : List Side) → length (delivered xs os) ≡ length xs
delivered_length [] xs = refl
delivered_length (o ∷ os) xs =
    delivered_length os (slice_set xs o.to (with_mail (side_in xs o.to) o.message))
    ∙ length-set xs o.to (with_mail (side_in xs o.to) o.message)

pub delivered_at : (os : List Letter) (xs : List Side) (k : ℕ) → k < length xs → side_in (delivered xs os) k ≡ with_all (side_in xs k) (sent_to k os)
delivered_at [] xs k l = λ i. record (side_in xs k) { mail = sym (append-nil (side_in xs k).mail) i }
delivered_at (o ∷ os) xs k l =
    let y = with_mail (side_in xs o.to) o.message in
    go (eqb_tells o.to k) (delivered_at os (slice_set xs o.to y) k (let n = length-set xs o.to y in omega arith))
  where
    go : ((o.to == k) ≡ true) × (o.to ≡ k) ⊎ ((o.to == k) ≡ false) × (o.to ≢ k)
        → side_in (delivered (slice_set xs o.to (with_mail (side_in xs o.to) o.message)) os) k ≡ with_all (side_in (slice_set xs o.to (with_mail (side_in xs o.to) o.message)) k) (sent_to k os)
        → side_in (delivered (slice_set xs o.to (with_mail (side_in xs o.to) o.message)) os) k ≡ with_all (side_in xs k) (sent_to k (o ∷ os))
    go (inl (t, q)) ih =
        let y = with_mail (side_in xs o.to) o.message in
        let here : side_in (slice_set xs o.to y) k ≡ with_mail (side_in xs k) o.message =
        ap (λ j. side_in (slice_set xs o.to y) j) (sym q) ∙ index_set_here xs o.to y no_side (omega (arith, q, l)) ∙ ap (λ j. with_mail (side_in xs j) o.message) q in
        let mail : sent_to k (o ∷ os) ≡ o.message ∷ sent_to k os = ap (λ b. cond b (o.message ∷ sent_to k os) (sent_to k os)) t in
        ih
        ∙ ap (λ z. with_all z (sent_to k os)) here
        ∙ (λ i. record (side_in xs k) { mail = append_assoc (side_in xs k).mail (o.message ∷ []) (sent_to k os) i })
        ∙ ap (λ ms. with_all (side_in xs k) ms) (sym mail)
    go (inr (t, q)) ih =
        ih
        ∙ ap (λ z. with_all z (sent_to k os)) (index_set_other xs o.to k (with_mail (side_in xs o.to) o.message) no_side (λ e. q (sym e)))
        ∙ ap (λ ms. with_all (side_in xs k) ms) (sym (sent_to_other k o os q))
