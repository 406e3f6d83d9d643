use Rattle.std.proofs.Common.{◌≡◌, ◌+◌, ◌*◌, ◌<◌, ◌∙◌, suc, subst, sym, ap, arith, refl, List, Some, length, slice_get}
use Rattle.std.proofs.lemmas.Bool.{true≢false}
use Rattle.std.proofs.lemmas.Option.{slice_get_read}
use Rattle.path_summary.specs.Linking.{Link}
use Rattle.path_summary.specs.Codes.{row_of}
use Rattle.path_summary.specs.Walks.{HasPassed}
use Rattle.path_summary.proofs.CodesGrow.{grows_none, grows_on, row_grown}
use Rattle.path_summary.proofs.Steps.{pass_begins, stepped_on, pass_ends, pass_closed, got_more}
use Rattle.path_summary.proofs.Numbers.{room_by}
use Rattle.path_summary.proofs.row.Row.pass.Goals.{then-branch, else-branch}
use Rattle.path_summary.proofs.row.Row.pass.Goals as goal

pub loop-link-init : goal.loop-link-init
loop-link-init c =
    let w = c.args.links.now in
    record {
      grows = grows_none c.args.summaries.now;
      codes = c.requires.codes;
      passed = λ v b l long of. let e : b ≡ b + 0 = omega arith in subst (λ n. HasPassed w v n 0 (row_of c.args.summaries.now c.args.self.now) (row_of c.args.summaries.now c.args.self.now)) e (pass_begins w c.requires.loops v l b (row_of c.args.summaries.now c.args.self.now) long of);
      still = λ e. refl;
    }

pub step-requires-clause-room : goal.step-requires-clause-room
step-requires-clause-room c = λ f q.
    let w = c.args.links.now in
    let way = c.requires.way in
    let i = c.loop-link.link-index in
    let here : slice_get w.edges i ≡ Some c.link-item.result = subst (λ (xs : List Link). slice_get xs i ≡ Some c.link-item.result) c.edges-link-items.ensures (slice_get_read c.edges-link-items.result.now (length c.edges-link-items.result.now) i c.link-item.result refl (let l = c.loop-link-test.true in omega arith) c.link-item.is) in
    let p = c.loop-link.invariant.passed way.vertex (8192 * way.passes) way.known way.got.long way.got.of_walks in
    let few : 8192 * way.passes + i < 1000000000 = let l = c.loop-link-test.true in omega (arith, way.few, c.requires.edges, ap length c.edges-link-items.ensures) in
    room_by w c.requires.loops way.vertex way.known (8192 * way.passes + i) i c.link-item.result f few here (p.of_walks c.link-item.result.source f q)

pub loop-link-preserved : goal.loop-link-preserved
loop-link-preserved c =
    let w = c.args.links.now in
    let i = c.loop-link.link-index in
    let old = row_of c.args.summaries.now c.args.self.now in
    let here : slice_get w.edges i ≡ Some c.link-item.result = subst (λ (xs : List Link). slice_get xs i ≡ Some c.link-item.result) c.edges-link-items.ensures (slice_get_read c.edges-link-items.result.now (length c.edges-link-items.result.now) i c.link-item.result refl (let l = c.loop-link-test.true in omega arith) c.link-item.is) in
    record {
      grows = grows_on c.args.summaries.now c.loop-link.summaries c.step.new.summaries c.loop-link.invariant.grows c.step.ensures.grows;
      codes = c.in_ok-step.ensures.codes;
      passed = λ v b l long of.
          let e : suc (b + i) ≡ b + (i + 1) = omega arith in
          subst (λ n. HasPassed w v n (i + 1) old (row_of c.step.new.summaries c.step.new.self)) e
          (stepped_on w c.requires.loops v l b (b + i) i c.link-item.result old (row_of c.loop-link.summaries c.loop-link.self) of (c.loop-link.invariant.passed v b l long of) here (row_of c.step.new.summaries c.step.new.self) c.in_ok-step.ensures.stepped);
      still = elim c.if-branch.branch [
        | then-branch w ↦ λ e. absurd (true≢false (sym w.changed-is ∙ e))
        | else-branch w ↦ λ e.
            ap (row_of c.step.new.summaries) (c.in_ok-step.ensures.still w.if-branch.false)
            ∙ row_grown c.loop-link.summaries c.step.new.summaries c.loop-link.self c.step.ensures.grows c.loop-link.invariant.codes
            ∙ c.loop-link.invariant.still (sym w.changed-is ∙ e)
      ];
    }

pub returns-clause-got : goal.returns-clause-got
returns-clause-got c = λ v m l got.
    let w = c.args.links.now in
    let old = row_of c.args.summaries.now c.args.self.now in
    let new = row_of c.loop-link.summaries c.loop-link.self in
    let n : c.loop-link.link-index ≡ length w.edges = let a = c.loop-link-test.false in let b = c.loop-link.auto.link-index-end in omega (arith, ap length c.edges-link-items.ensures) in
    let p = c.loop-link.invariant.passed v (8192 * m) l got.long got.of_walks in
    let q = pass_ends w c.requires.loops v l (8192 * m) (8192 * m + c.loop-link.link-index) m old new got (subst (λ k. HasPassed w v (8192 * m + c.loop-link.link-index) k old new) n p) in
    got_more w v (8192 * m + c.loop-link.link-index) (8192 * suc m) (suc m) new (omega (arith, c.requires.edges, n)) q

pub returns-clause-closed : goal.returns-clause-closed
returns-clause-closed c = λ e.
    let w = c.args.links.now in
    let way = c.requires.way in
    let old = row_of c.args.summaries.now c.args.self.now in
    let new = row_of c.loop-link.summaries c.loop-link.self in
    let n : c.loop-link.link-index ≡ length w.edges = let a = c.loop-link-test.false in let b = c.loop-link.auto.link-index-end in omega (arith, ap length c.edges-link-items.ensures) in
    let p = c.loop-link.invariant.passed way.vertex (8192 * way.passes) way.known way.got.long way.got.of_walks in
    pass_closed w c.requires.loops way.vertex way.known (8192 * way.passes) (8192 * way.passes + c.loop-link.link-index) old new (c.loop-link.invariant.still e)
    (subst (λ k. HasPassed w way.vertex (8192 * way.passes + c.loop-link.link-index) k old new) n p)
