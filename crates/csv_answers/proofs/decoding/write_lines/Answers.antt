use Rattle.std.proofs.Common.{◌≡◌, ◌++◌, ◌∷◌, ◌∙◌, ◌<◌, ◌+◌, ◌-◌, [], ℕ, List, get_or, length, take, take_all, drop, true, refl, sym, ap, subst, arith}
use Rattle.std.proofs.lemmas.Bool.{ne_eqb}
use Rattle.std.proofs.lemmas.List.{append-nil, append_assoc, length-append}
use Rattle.std.specs.List.{list_any}
use Rattle.std.specs.Prelude.{◌==◌, false}
use Rattle.csv.proofs.WriteFacts.{drop-own, run-more, slice-run}
use Rattle.csv_cells.specs.Texts.{texts_of}
use Rattle.csv_answers.specs.Answers.{outside, where_of}
use Rattle.csv_answers.specs.Files.{IsFile}
use Rattle.csv_answers.proofs.Decoded.{lines-push, no-lines, no-rows, rows-push, up-to}
use Rattle.csv_answers.proofs.Refused.{end-fault, first-fault, last-fault}
use Rattle.csv_answers.proofs.decoding.write_lines.Goals as goal
use Rattle.csv_answers.proofs.decoding.write_lines.Goals.{then-answer-end-eq10+in_ok-write_line+else-not-branch, else-answer-end-eq10}

pub loop-end-init : goal.loop-end-init
loop-end-init c = record {
  within = omega arith;
  free = refl;
  counted = omega arith;
  told = λ before f. ([], [], no-lines, no-rows c.args.table.now c.args.with_epochs (texts_of c.args.dictionary.now) outside, rw (append-nil before) f, refl);
}

pub loop-end-preserved : goal.loop-end-preserved
loop-end-preserved c =
    let answer : List ℕ = c.args.answer.now in
    let begin : ℕ = c.loop-end.begin in
    let end : ℕ = c.loop-end.end in
    let le = c.loop-end.invariant.within in
    let lt : end < length answer = c.loop-end-test.true in
    elim c.if-answer-end-eq10.branch [
      | then-answer-end-eq10+in_ok-write_line+else-not-branch w ↦
          let text : List ℕ = take (end - begin) (drop begin answer) in
          let at : get_or answer end 0 ≡ 10 = w.if-answer-end-eq10.true in
          let free : list_any (λ b. b == 10) text ≡ false = rw (slice-run answer begin end le) c.loop-end.invariant.free in
          let cut : take (end + 1) answer ≡ take begin answer ++ (text ++ 10 ∷ []) = rw at at (up-to answer begin end 0 le lt) in
          let wrote = w.in_ok-write_line.ensures.found in
          rw (w.begin-is, w.line-is, w.place-is, w.writer-is) (record {
            within = omega arith;
            free = ap (list_any (λ b. b == 10)) (drop-own (end + 1) answer);
            counted = omega (arith, c.loop-end.invariant.counted, le);
            told = λ before f.
                let (lines, rows, lined, read, file, count) = c.loop-end.invariant.told before f in
                let (more, adds, now) = wrote w.if-not-branch.false (before ++ rows) file in (
                  lines ++ text ∷ [],
                  rows ++ more,
                  rw cut (lines-push lines (take begin answer) text lined free),
                  rows-push c.args.table.now c.args.with_epochs (texts_of c.args.dictionary.now) lines outside (where_of c.loop-end.place) (where_of w.write_line.new.place) rows more text read adds,
                  subst (λ (t : List (List (List ℕ))). IsFile w.write_line.new.writer t) (append_assoc before rows more) now,
                  (let more : length (lines ++ text ∷ []) ≡ length lines + 1 = length-append lines (text ∷ []) in omega (arith, more, count)),
                );
          })
      | else-answer-end-eq10 w ↦
          let other : (get_or answer end 0 == 10) ≡ false = ne_eqb (get_or answer end 0) 10 w.if-answer-end-eq10.false in
          rw (w.begin-is, w.line-is, w.place-is, w.writer-is) (record {
            within = omega arith;
            free = run-more (λ b. b == 10) answer begin end le lt c.loop-end.invariant.free other;
            counted = c.loop-end.invariant.counted;
            told = c.loop-end.invariant.told;
          })
    ]

pub returns-then-not-branch-clause-refused : goal.returns-then-not-branch-clause-refused
returns-then-not-branch-clause-refused c = rw c.refused.ensures (λ before f.
    let (lines, rows, lined, read, file, count) = c.loop-end.invariant.told before f in
    let at : get_or c.args.answer.now c.loop-end.end 0 ≡ 10 = c.if-answer-end-eq10.true in (
      refl,
      first-fault c.args.table.now c.args.with_epochs (texts_of c.args.dictionary.now) c.args.answer.now c.loop-end.begin c.loop-end.end c.loop-end.line lines rows (where_of c.loop-end.place)
          c.loop-end.invariant.within c.loop-end-test.true at c.loop-end.invariant.free lined read count (c.in_ok-write_line.ensures.none c.if-not-branch.true),
    ))

pub returns-then-begin-answer-clause-refused : goal.returns-then-begin-answer-clause-refused
returns-then-begin-answer-clause-refused c = rw c.refused-then-begin-answer.ensures (λ before f.
    let answer : List ℕ = c.args.answer.now in
    let (lines, rows, lined, read, file, count) = c.loop-end.invariant.told before f in
    let all : take c.loop-end.end answer ≡ answer = take_all c.loop-end.end answer (omega (arith, c.loop-end-test.false)) in (
      refl,
      last-fault c.args.table.now c.args.with_epochs (texts_of c.args.dictionary.now) answer c.loop-end.begin c.loop-end.line lines rows (where_of c.loop-end.place)
          c.if-begin-answer.true (rw all at c.loop-end.invariant.free) lined read count,
    ))

pub returns-then-not-is_whole-clause-refused : goal.returns-then-not-is_whole-clause-refused
returns-then-not-is_whole-clause-refused c = rw c.refused-then-not-is_whole.ensures (λ before f.
    let answer : List ℕ = c.args.answer.now in
    let (lines, rows, lined, read, file, count) = c.loop-end.invariant.told before f in
    let all : take c.loop-end.begin answer ≡ answer = take_all c.loop-end.begin answer (omega (arith, c.if-begin-answer.false)) in (
      refl,
      end-fault c.args.table.now c.args.with_epochs (texts_of c.args.dictionary.now) answer c.loop-end.line lines rows (where_of c.loop-end.place)
          (rw all at lined) read count (λ whole. let same : true ≡ false = sym (c.is_whole.ensures.1 whole) ∙ c.if-not-is_whole.true in cc same),
    ))
