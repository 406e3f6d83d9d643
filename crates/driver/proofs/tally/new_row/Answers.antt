use Rattle.std.proofs.Common.{◌+◌, ◌∙◌, ◌++◌, List, [], ◌∷◌, length, length-append, sym, subst, ap, arith}
use Rattle.driver.specs.Tallies.{Covers, IsZero}
use Rattle.driver.specs.declared.tally.Counts.{Counts}
use Rattle.driver.proofs.Rows.{covers_push, zero_push}
use Rattle.driver.proofs.tally.new_row.Goals as goal

pub row-init : goal.row-init
row-init c =
    let none = c.in_ok-row.ensures.items in
    record {
      zero = subst IsZero (sym none) (λ k d e. absurd cc);
      full = λ k l. absurd (omega (arith, l));
      many = sym (ap length none);
    }

pub row-preserved : goal.row-preserved
row-preserved c =
    let items = c.in_ok-push.ensures.items in
    record {
      zero = subst IsZero (sym (items ∙ ap (λ (d : Counts). c.row.row.items ++ d ∷ []) c.none.ensures)) (zero_push c.row.row.items c.row.invariant.zero);
      full = subst (λ (row : List Counts). Covers row (c.row._worker + 1)) (sym items) (covers_push c.row.row.items c.none.result c.row._worker c.row.invariant.many c.row.invariant.full);
      many = (let e = ap length items in let l = length-append c.row.row.items (c.none.result ∷ []) in let m = c.row.invariant.many in omega (arith, e, l, m));
    }
