use Rattle.std.proofs.Common.{refl, arith, ◌<◌, ◌≤◌, length}
use Rattle.std.proofs.lemmas.Result.{IfErr-weaker, on_ok_weaker}
use Rattle.csv_blocks.proofs.Holding.{at-begins, at-few, at-moves, size-begins, size-moves, stuck-begins, stuck-moves}
use Rattle.csv_blocks.proofs.blocks.Blocks.take.Goals as goal

pub returns-then-self-clause-taken : goal.returns-then-self-clause-taken
returns-then-self-clause-taken c =
    let old = c.args.self.now in
    let new = c.read_on.new.self in
    on_ok_weaker c.read_on.result (λ m done text at. at-moves done text c.args.piece.now old new at c.if-self.true m) c.read_on.ensures.moves

pub returns-then-self-clause-grows : goal.returns-then-self-clause-grows
returns-then-self-clause-grows c =
    let old = c.args.self.now in
    let new = c.read_on.new.self in
    on_ok_weaker c.read_on.result (λ m. size-moves old new c.args.piece.now c.if-self.true m) c.read_on.ensures.moves

pub returns-then-self-clause-stuck : goal.returns-then-self-clause-stuck
returns-then-self-clause-stuck c =
    let old = c.args.self.now in
    IfErr-weaker c.read_on.result _ _
    (λ fault f done text at. stuck-moves done text c.args.piece.now old fault at c.if-self.true (λ tail. f done _ tail at.holds)) c.read_on.ensures.stuck

pub returns-then-len-lt3-clause-taken : goal.returns-then-len-lt3-clause-taken
returns-then-len-lt3-clause-taken c =
    let fresh = c.if-self.false in
    let rest = c.extend_from_slice.new.self in
    let few : length rest.items < 3 = omega (arith, rest.ok.0, c.len.ensures, c.if-len-lt3.true) in
    λ done text at. at-few done text c.args.piece.now c.args.self.now _ at fresh fresh c.in_ok-extend_from_slice.ensures.items refl refl few

pub returns-clause-taken : goal.returns-clause-taken
returns-clause-taken c =
    let old = c.args.self.now in
    let items = c.in_ok-extend_from_slice.ensures.items in
    let rest = c.extend_from_slice.new.self in
    let many : 3 ≤ length rest.items = omega (arith, rest.ok.0, c.len.ensures, c.if-len-lt3.false) in
    on_ok_weaker c.begin.result
    (λ m done text at. at-begins done text c.args.piece.now old _ c.begin.new.self at c.if-self.false items refl refl many m) c.begin.ensures.moves

pub returns-clause-grows : goal.returns-clause-grows
returns-clause-grows c =
    let items = c.in_ok-extend_from_slice.ensures.items in
    on_ok_weaker c.begin.result (λ m. size-begins c.args.self.now _ c.begin.new.self c.args.piece.now c.if-self.false items refl m) c.begin.ensures.moves

pub returns-clause-stuck : goal.returns-clause-stuck
returns-clause-stuck c =
    let old = c.args.self.now in
    let items = c.in_ok-extend_from_slice.ensures.items in
    let rest = c.extend_from_slice.new.self in
    let many : 3 ≤ length rest.items = omega (arith, rest.ok.0, c.len.ensures, c.if-len-lt3.false) in
    IfErr-weaker c.begin.result _ _
    (λ fault f done text at. stuck-begins done text c.args.piece.now old _ fault at c.if-self.false items refl refl many f) c.begin.ensures.stuck
