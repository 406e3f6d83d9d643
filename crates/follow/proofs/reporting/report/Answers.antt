use Rattle.std.proofs.Common.{◌≡◌, ◌<◌, ◌+◌, ◌++◌, ◌∙◌, ℕ, arith, refl, ap, sym, subst, true, false}
use Rattle.board.specs.Promises.{HasPassed, IsOutputPlace}
use Rattle.follow.specs.Entries.{complete_line}
use Rattle.follow.proofs.Reported.{nothing_till, reported_all, reported_complete, reports_open}
use Rattle.follow.proofs.reporting.report.Goals as goal

pub loop-epoch-init : goal.loop-epoch-init
loop-epoch-init g c = record { done = refl; within = λ le. le; till = λ items entries text fed order can. nothing_till c.args.numbering.first.number c.args.board.now.shown c.args.numbering.base c.args.reporting.now items c.args.begun c.args.sealed entries text c.args.out.now.items can }

pub report_open-requires-clause-room : goal.report_open-requires-clause-room
report_open-requires-clause-room g c = let (items, entries, text, fed, order, can) = c.requires.may in (c.loop-epoch.invariant.till items entries text fed order can).can.room

pub report_open-requires-clause-within : goal.report_open-requires-clause-within
report_open-requires-clause-within g c = let (items, entries, text, fed, order, can) = c.requires.may in (c.loop-epoch.invariant.till items entries text fed order can).can.reported.within

pub report_open-requires-clause-few : goal.report_open-requires-clause-few
report_open-requires-clause-few g c = omega (arith, c.loop-epoch.invariant.done, c.loop-epoch-test.true, c.requires.few)

pub returns-then-epoch-sealed-clause-reports : goal.returns-then-epoch-sealed-clause-reports
returns-then-epoch-sealed-clause-reports g c = λ items entries text fed order can.
    let lt : c.loop-epoch.reporting.done < c.args.begun = omega (arith, c.loop-epoch.invariant.done, c.loop-epoch-test.true) in
    reports_open c.args.numbering.first.number c.args.board.now.shown c.args.numbering.base c.loop-epoch.reporting c.report_open.new.reporting items c.args.begun c.args.sealed text c.args.out.now.items c.loop-epoch.out.items c.report_open.new.out.items (c.loop-epoch.invariant.till items entries text fed order can) c.in_ok-report_open.ensures fed c.law_headline.ensures lt

pub returns-then-not-has_passed-clause-reports : goal.returns-then-not-has_passed-clause-reports
returns-then-not-has_passed-clause-reports g c = λ items entries text fed order can.
    let lt : c.loop-epoch.reporting.done < c.args.begun = omega (arith, c.loop-epoch.invariant.done, c.loop-epoch-test.true) in
    reports_open c.args.numbering.first.number c.args.board.now.shown c.args.numbering.base c.loop-epoch.reporting c.report_open.new.reporting items c.args.begun c.args.sealed text c.args.out.now.items c.loop-epoch.out.items c.report_open.new.out.items (c.loop-epoch.invariant.till items entries text fed order can) c.in_ok-report_open.ensures fed c.law_headline.ensures lt

pub loop-epoch-preserved : goal.loop-epoch-preserved
loop-epoch-preserved g c =
    let t = c.loop-epoch.reporting in
    let done = c.loop-epoch.invariant.done in
    let opened = c.in_ok-report_open.ensures in
    let nexts = c.complete.ensures in
    let line : c.push_complete.new.out.items ≡ c.report_open.new.out.items ++ complete_line (c.args.numbering.first.number + (c.args.numbering.base + t.done)) = c.in_ok-push_complete.ensures ∙ ap (λ (n : ℕ). c.report_open.new.out.items ++ complete_line n) (c.number.ensures ∙ ap (λ (n : ℕ). c.args.numbering.first.number + (c.args.numbering.base + n)) (sym done)) in
    let lt : t.done < c.args.sealed = omega (arith, done, c.if-epoch-sealed.false) in
    let passed : (k : ℕ) → IsOutputPlace c.args.board.now.shown k → HasPassed c.args.board.now.shown k t.done = λ k place. subst (λ (e : ℕ). HasPassed c.args.board.now.shown k e) (sym done) (c.has_passed.ensures.passed c.if-not-has_passed.false k place) in
    record {
      done = omega (arith, nexts.done, opened.2.done, done);
      within = λ le. omega (arith, c.loop-epoch-test.true);
      till = λ items entries text fed order can.
          reported_complete c.args.numbering.first.number c.args.board.now.shown c.args.numbering.base t c.report_open.new.reporting c.complete.new.self items c.args.begun c.args.sealed text c.args.out.now.items c.loop-epoch.out.items c.report_open.new.out.items c.push_complete.new.out.items (c.loop-epoch.invariant.till items entries text fed order can) opened fed c.law_headline.ensures
          passed lt line nexts;
    }

pub returns-clause-reports : goal.returns-clause-reports
returns-clause-reports g c = λ items entries text fed order can.
    reported_all c.args.numbering.first.number c.args.board.now.shown c.args.numbering.base c.loop-epoch.reporting items c.args.begun c.args.sealed text c.args.out.now.items c.loop-epoch.out.items (c.loop-epoch.invariant.till items entries text fed order can) (omega (arith, c.loop-epoch.invariant.done, c.loop-epoch-test.false)) order

pub returns-then-epoch-sealed-clause-all : goal.returns-then-epoch-sealed-clause-all
returns-then-epoch-sealed-clause-all g c = λ seen passed same order. absurd (omega (arith, same, c.if-epoch-sealed.true, c.loop-epoch-test.true))

pub returns-then-not-has_passed-clause-all : goal.returns-then-not-has_passed-clause-all
returns-then-not-has_passed-clause-all g c = λ seen passed same order. absurd (let p : true ≡ false = sym (c.has_passed.ensures.seen seen (passed c.loop-epoch.epoch)) ∙ c.if-not-has_passed.true in cc)

pub returns-clause-all : goal.returns-clause-all
returns-clause-all g c = λ seen passed same order. let le = c.loop-epoch.invariant.within order in omega (arith, le, c.loop-epoch.invariant.done, c.loop-epoch-test.false)
