use Rattle.std.proofs.Common.{ℕ, ap, arith}
use Rattle.semantics.specs.Could.{Pointstamp as Active}
use Rattle.engine_conformance.proofs.differences.toggle.Goals as goal

pub returns-clause-same : goal.returns-clause-same
returns-clause-same c = λ q.
    let in_plain = c.add.ensures.content q in
    let in_located = c.add-2.ensures.content q in
    let plain_kept = ap (λ (f : Active → ℕ). f q) c.in_ok-reserve.ensures.content in
    let located_kept = ap (λ (f : Active → ℕ). f q) c.in_ok-reserve-2.ensures.content in
    let before = c.requires.same q in
    omega arith
