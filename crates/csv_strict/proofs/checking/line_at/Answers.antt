use Rattle.std.proofs.Common.{◌≡◌, arith, rules, ℕ, ◌≤◌, ◌<◌, ◌==◌, length, take}
use Rattle.std.proofs.lemmas.List.{length-take-le}
use Rattle.std.proofs.lemmas.List.Sums.{count_by-le-length}
use Rattle.std.specs.Prelude.{count_by}
use Rattle.csv_strict.proofs.checking.line_at.Goals as goal

pub overflow_add-line : goal.overflow_add-line
overflow_add-line c =
    let text = c.args.text.now in
    let some : count_by (λ b. b == 10) (take c.loop-i.i text) ≤ length (take c.loop-i.i text) = count_by-le-length (λ b. b == 10) (take c.loop-i.i text) in
    let long : length (take c.loop-i.i text) ≡ c.loop-i.i = length-take-le c.loop-i.i text (omega (arith, c.requires, c.loop-i-test.true)) in
    search (rules, c.loop-i.invariant, some, long, c.loop-i-test.true, c.ranges.place)
