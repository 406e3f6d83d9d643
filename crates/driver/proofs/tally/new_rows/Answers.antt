use Rattle.std.proofs.Common.{◌+◌, ◌∙◌, [], ◌∷◌, length, length-append, map, sym, subst, ap, arith}
use Rattle.std.proofs.lemmas.List.{length-map, map-append}
use Rattle.driver.specs.Tallies.{AreZero, CoversAll, Rows}
use Rattle.driver.proofs.Rows.{covers_all_push, none_zero, rows_push}
use Rattle.driver.proofs.tally.new_rows.Goals as goal

pub rows-init : goal.rows-init
rows-init c =
    let none = c.in_ok-rows.ensures.items in
    record {
      zero = subst AreZero (sym (ap (map (λ row. row.items)) none)) none_zero;
      full = λ v l. absurd (omega (arith, l));
      many = sym (ap length none);
    }

pub rows-preserved : goal.rows-preserved
rows-preserved c =
    let old = c.rows.rows.items in
    let row = c.in_ok-row.row in
    let items = c.in_ok-push.ensures.items in
    let shown = ap (map (λ x. x.items)) items ∙ map-append (λ x. x.items) old (row ∷ []) in
    let many = c.rows.invariant.many ∙ sym (length-map old (λ x. x.items)) in
    record {
      zero = subst AreZero (sym shown) (rows_push (map (λ x. x.items) old) row.items c.rows.invariant.zero c.in_ok-row.ensures.zero);
      full = subst (λ (rows : Rows). CoversAll rows (c.rows._vertex + 1) c.args.workers) (sym shown) (covers_all_push (map (λ x. x.items) old) row.items c.rows._vertex c.args.workers many c.rows.invariant.full c.in_ok-row.ensures.full);
      many = (let e = ap length items in let l = length-append old (row ∷ []) in let m = c.rows.invariant.many in omega (arith, e, l, m));
    }
