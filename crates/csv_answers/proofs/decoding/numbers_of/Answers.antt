use Rattle.std.proofs.Common.{◌≡◌, ◌++◌, ◌∷◌, ◌∙◌, ◌<◌, ◌-◌, ◌+◌, ◌==◌, [], ℕ, ℤ, List, get_or, length, take, take_all, drop, false, refl, sym, ap, arith, rules, FitsSigned, w64}
use Rattle.std.proofs.lemmas.List.{take-append-drop}
use Rattle.std.specs.Fmt.{signed_decimal}
use Rattle.std.specs.List.{list_any}
use Rattle.std.proofs.lemmas.Bool.{ne_eqb}
use Rattle.csv.proofs.WriteFacts.{drop-own, run-more, slice-end}
use Rattle.csv_answers.specs.Answers.{words_text}
use Rattle.csv_answers.proofs.Cut.{fit-push, no-bytes, no-last, no-numbers, no-word}
use Rattle.csv_answers.proofs.Decoded.{begun-push, begun_text, none-begun, up-to, words-end}
use Rattle.csv_answers.proofs.decoding.numbers_of.Goals as goal
use Rattle.csv_answers.proofs.decoding.numbers_of.Goals.{then-line-end-eq32+in-Some+in_ok-push, else-line-end-eq32}

pub loop-end-init : goal.loop-end-init
loop-end-init c = record {
  within = omega arith;
  read = rw c.new-numbers.ensures.items none-begun;
  free = refl;
  fit = rw c.new-numbers.ensures.items (λ i below. absurd (omega (arith, below)));
}

pub loop-end-preserved : goal.loop-end-preserved
loop-end-preserved c =
    let line : List ℕ = c.args.line.now in
    let begin : ℕ = c.loop-end.begin in
    let end : ℕ = c.loop-end.end in
    let zs : List ℤ = c.loop-end.numbers.items in
    let lt : end < length line = c.loop-end-test.true in
    elim c.if-line-end-eq32.branch [
      | then-line-end-eq32+in-Some+in_ok-push w ↦
          let z : ℤ = w.in-Some.number in
          let small : FitsSigned w64 z = search rules in
          let item : w.push.new.self.items ≡ zs ++ z ∷ [] = search rules in
          let word : take (end - begin) (drop begin line) ≡ signed_decimal z = w.in-Some.ensures.found in
          let at : get_or line end 0 ≡ 32 = w.if-line-end-eq32.true in
          let cut = rw (c.loop-end.invariant.read, word, at) at (up-to line begin end 0 c.loop-end.invariant.within lt) in
          rw (w.begin-is, w.numbers-is) (record {
            within = omega arith;
            read = cut ∙ sym (begun-push zs z) ∙ ap begun_text (sym item);
            free = ap (list_any (λ b. b == 32)) (drop-own (end + 1) line);
            fit = rw item (fit-push zs z c.loop-end.invariant.fit small);
          })
      | else-line-end-eq32 w ↦
          let le = c.loop-end.invariant.within in
          let other : (get_or line end 0 == 32) ≡ false = ne_eqb (get_or line end 0) 32 w.if-line-end-eq32.false in
          rw (w.begin-is, w.numbers-is) (record {
            within = omega arith;
            read = c.loop-end.invariant.read;
            free = run-more (λ b. b == 32) line begin end le lt c.loop-end.invariant.free other;
            fit = c.loop-end.invariant.fit;
          })
    ]

pub returns-clause-found : goal.returns-clause-found
returns-clause-found c =
    let line : List ℕ = c.args.line.now in
    let begin : ℕ = c.loop-end.begin in
    let zs : List ℤ = c.loop-end.numbers.items in
    let z : ℤ = c.in-Some-signed_number.number in
    let item : c.push-2.new.self.items ≡ zs ++ z ∷ [] = search rules in
    let word : drop begin line ≡ signed_decimal z = sym (slice-end line begin) ∙ c.in-Some-signed_number.ensures.found in
    sym (take-append-drop begin line) ∙ ap (λ (t : List ℕ). t ++ drop begin line) c.loop-end.invariant.read ∙ ap (λ (t : List ℕ). begun_text zs ++ t) word ∙ words-end zs z ∙ ap words_text (sym item)

pub returns-then-is_empty-clause-found : goal.returns-then-is_empty-clause-found
returns-then-is_empty-clause-found c =
    let none : length c.args.line.now ≡ 0 = search rules in
    no-bytes c.args.line.now none ∙ no-numbers ∙ ap words_text (sym c.new-numbers.ensures.items)

pub returns-then-is_empty-clause-fit : goal.returns-then-is_empty-clause-fit
returns-then-is_empty-clause-fit c = rw c.new-numbers.ensures.items (λ i below. absurd (omega (arith, below)))

pub returns-clause-fit : goal.returns-clause-fit
returns-clause-fit c =
    let zs : List ℤ = c.loop-end.numbers.items in
    let z : ℤ = c.in-Some-signed_number.number in
    let small : FitsSigned w64 z = search rules in
    let item : c.push-2.new.self.items ≡ zs ++ z ∷ [] = search rules in
    rw item (fit-push zs z c.loop-end.invariant.fit small)

pub returns-in_default-clause-none : goal.returns-in_default-clause-none
returns-in_default-clause-none c = λ zs fit same.
    let inv = c.loop-end.invariant in
    let at : get_or c.args.line.now c.loop-end.end 0 ≡ 32 = c.if-line-end-eq32.true in
    no-word c.args.line.now c.loop-end.begin c.loop-end.end c.loop-end.numbers.items zs inv.within c.loop-end-test.true inv.read at inv.free inv.fit c.in_default.ensures.none fit same

pub returns-in_default-signed_number-clause-none : goal.returns-in_default-signed_number-clause-none
returns-in_default-signed_number-clause-none c = λ zs fit same.
    let line : List ℕ = c.args.line.now in
    let inv = c.loop-end.invariant in
    let all : take c.loop-end.end line ≡ line = take_all c.loop-end.end line (omega (arith, c.loop-end-test.false)) in
    let some : 0 < length line = search (rules, c.if-is_empty.false) in
    no-last line c.loop-end.begin c.loop-end.numbers.items zs some inv.read (rw all at inv.free) inv.fit (λ z small e. c.in_default-signed_number.ensures.none z small (slice-end line c.loop-end.begin ∙ e)) fit same
