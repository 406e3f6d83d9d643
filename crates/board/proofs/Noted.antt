-- A list of pointstamps, noted one after another.
use Rattle.std.proofs.Common.{◌≡◌, ◌∙◌, ℕ, ◌+◌, ◌<◌, List, [], ◌∷◌, ◌++◌, length, take, slice_index_or, sym, ap, arith}
use Rattle.std.proofs.lemmas.List.{take_more}
use Rattle.semantics.specs.Could.{Pointstamp}
use Rattle.semantics.proofs.MultisetSums.{total-append}
use Rattle.machine.specs.Active.{message_pointstamp, one_if_same}
use Rattle.views.specs.Content.{times_in}
use Rattle.events.specs.declared.letter.Letter.{Letter}
use Rattle.board.specs.WorkerShown.{letters_count}

-- one more pointstamp at the end
pub times_more : (ps qs : List Pointstamp) (p q : Pointstamp) → qs ≡ ps ++ (p ∷ []) → times_in qs q ≡ one_if_same q p + times_in ps q
times_more ps qs p q e =
    let both = total-append (one_if_same q) ps (p ∷ []) in
    let same = ap (λ (l : List Pointstamp). times_in l q) e in
    omega arith

-- one more letter than the first i
pub letters_more : (ls : List Letter) (i : ℕ) (o : Letter) (q : Pointstamp) → i < length ls → o ≡ slice_index_or ls i o
    → letters_count q (take (i + 1) ls) ≡ one_if_same q (message_pointstamp o.message) + letters_count q (take i ls)
letters_more ls i o q l e =
    let more : take (i + 1) ls ≡ take i ls ++ (o ∷ []) = take_more ls i o l ∙ ap (λ (x : Letter). take i ls ++ (x ∷ [])) (sym e) in
    let both = total-append (λ (x : Letter). one_if_same q (message_pointstamp x.message)) (take i ls) (o ∷ []) in
    let same = ap (λ (xs : List Letter). letters_count q xs) more in
    omega arith
