-- What was read is what was handed over, and then what is held back.
use Rattle.std.proofs.Common.{◌≡◌, ◌+◌, ◌≤◌, ◌∙◌, ℕ, List, ◌++◌, length, take, drop, sym, ap, append_assoc}
use Rattle.std.proofs.lemmas.List.{take-append-le, take_at}
use Rattle.std.proofs.Math.Seq.{take-append-add}
use borrow.Rule.Slice.PartMut.{put_mid}

-- of the text that was read, its front is handed over and its back is held
pub given_more : (given held piece text front back old new later : List ℕ) → old ≡ given ++ held → new ≡ old ++ piece → text ≡ held ++ piece → front ++ back ≡ text → later ≡ given ++ front → new ≡ later ++ back
given_more given held piece text front back old new later o n t f l =
    n ∙ ap (λ xs. xs ++ piece) o ∙ append_assoc given held piece ∙ ap (λ xs. given ++ xs) (sym (f ∙ t)) ∙ sym (append_assoc given front back) ∙ ap (λ xs. xs ++ back) (sym l)

-- what was read behind the bytes that were held
pub read_behind : (at rest count : ℕ) (held others piece : List ℕ) → length held ≡ at → count ≤ length piece → take (at + count) (put_mid at rest (held ++ others) piece) ≡ held ++ take count piece
read_behind at rest count held others piece len few =
    let tail = piece ++ drop rest (drop at (held ++ others)) in
    ap (λ xs. take (at + count) (xs ++ tail)) (take_at held others at len) ∙ ap (λ n. take (n + count) (held ++ tail)) (sym len) ∙ take-append-add held tail count ∙ ap (λ xs. held ++ xs) (take-append-le count piece _ few)
