use Rattle.std.proofs.Common.{◌≡◌, ◌==◌, ℕ, [], ◌++◌, cond, sym, ap, subst, arith, append-nil}
use Rattle.rows.specs.Counts.{AllFit, expanded, rows_of}
use Rattle.rows.specs.FlatRows.{RowList}
use Rattle.rows.proofs.Merging.{fit_alike}
use Rattle.rows.proofs.Runs.{all_fit}
use Rattle.semantics.specs.Meaning.{in_both}
use Rattle.semantics.specs.Multiset.{◌≈◌}
use Rattle.semantics.proofs.MultisetSums.{≈-trans, ≈-from}
use Rattle.vertices.proofs.PortSets.{common_gained, common_gained_right, rows_once_of}
use Rattle.vertices.proofs.port_sets.PortSets.absorb_common.Goals as goal

pub returns-in_ok-meet_all-clause-gained : goal.returns-in_ok-meet_all-clause-gained
returns-in_ok-meet_all-clause-gained c =
    λ n f h.
    let batch = c.args.batch.now in
    let left = c.args.self.now.left.runs in
    let right = c.args.self.now.right.runs in
    let now = c.meet_all.new.tally.runs in
    let is = c.in_ok-meet_all.ensures in
    subst (λ (p : ℕ). (c.meet_all.new.sends.rows ++ in_both (f 0) (f 1)) ≈ in_both (f 0 ++ cond (p == 0) batch []) (f 1 ++ cond (p == 1) batch [])) (sym c.if-port-eq0.true)
    (common_gained (rows_of left) (rows_of right) (rows_of now) (rows_of right) (f 0) (f 1) (f 0 ++ batch) (f 1 ++ []) c.args.sends.now.rows c.meet_all.new.sends.rows
    (rows_once_of left (f 0) is.before h.lefts) (rows_once_of right (f 1) is.beside h.rights) (rows_once_of now (f 0 ++ batch) is.runs (is.records (f 0) h.lefts)) (rows_once_of right (f 1 ++ []) is.beside (≈-trans h.rights (≈-from (sym (append-nil (f 1))))))
    (ap (λ (r : RowList). r.rows) c.requires.sends) is.sent)

pub returns-in_ok-meet_all-clause-fits : goal.returns-in_ok-meet_all-clause-fits
returns-in_ok-meet_all-clause-fits c =
    λ n f h.
    let now = c.meet_all.new.tally.runs in
    let is = c.in_ok-meet_all.ensures in
    subst (λ (p : ℕ). AllFit (f p ++ c.args.batch.now)) (sym c.if-port-eq0.true) (fit_alike (expanded now) (f 0 ++ c.args.batch.now) (is.records (f 0) h.lefts) (all_fit now is.runs))

pub returns-in_ok-meet_all-2-clause-gained : goal.returns-in_ok-meet_all-2-clause-gained
returns-in_ok-meet_all-2-clause-gained c =
    λ n f h.
    let batch = c.args.batch.now in
    let left = c.args.self.now.left.runs in
    let right = c.args.self.now.right.runs in
    let now = c.meet_all-else-port-eq0.new.tally.runs in
    let sends = c.meet_all-else-port-eq0.new.sends.rows in
    let is = c.in_ok-meet_all-2.ensures in
    let first : 1 ≡ c.args.port = omega arith in
    subst (λ (p : ℕ). (sends ++ in_both (f 0) (f 1)) ≈ in_both (f 0 ++ cond (p == 0) batch []) (f 1 ++ cond (p == 1) batch [])) first
    (common_gained_right (rows_of left) (rows_of right) (rows_of left) (rows_of now) (f 0) (f 1) (f 0 ++ []) (f 1 ++ batch) c.args.sends.now.rows sends
    (rows_once_of left (f 0) is.beside h.lefts) (rows_once_of right (f 1) is.before h.rights) (rows_once_of left (f 0 ++ []) is.beside (≈-trans h.lefts (≈-from (sym (append-nil (f 0)))))) (rows_once_of now (f 1 ++ batch) is.runs (is.records (f 1) h.rights))
    (ap (λ (r : RowList). r.rows) c.requires.sends) is.sent)

pub returns-in_ok-meet_all-2-clause-fits : goal.returns-in_ok-meet_all-2-clause-fits
returns-in_ok-meet_all-2-clause-fits c =
    λ n f h.
    let now = c.meet_all-else-port-eq0.new.tally.runs in
    let is = c.in_ok-meet_all-2.ensures in
    let first : 1 ≡ c.args.port = omega arith in
    subst (λ (p : ℕ). AllFit (f p ++ c.args.batch.now)) first (fit_alike (expanded now) (f 1 ++ c.args.batch.now) (is.records (f 1) h.rights) (all_fit now is.runs))
