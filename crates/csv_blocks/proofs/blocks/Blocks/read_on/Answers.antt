use Rattle.std.proofs.Common.{◌≡◌, ◌++◌, ◌∙◌, ap, List, ℕ, None, Some, drop, arith}
use Rattle.std.proofs.lemmas.List.{take_rest}
use Rattle.csv_strict.specs.Strict.{run}
use Rattle.csv_strict.specs.declared.state.State.TheVariants.{Record}
use Rattle.csv_blocks.specs.Blocks.{rest_of}
use Rattle.csv_blocks.proofs.Holding.{faulty-before, holds-run, moves-whole, moves-within}
use Rattle.csv_blocks.proofs.Scans.{run-on, run-rest, stuck-text}
use Rattle.csv_blocks.proofs.blocks.Blocks.read_on.Goals.{then-count-gt0+in_ok-keep, else-count-gt0}
use Rattle.csv_blocks.proofs.blocks.Blocks.read_on.Goals as goal

pub fault_of-requires : goal.fault_of-requires
fault_of-requires c =
    stuck-text (rest_of c.args.self.now ++ c.args.piece.now)
    (run-on (Some Record) (rest_of c.args.self.now) c.args.piece.now c.args.self.now.state None (c.args.self.now.reached c.requires) c.in_default.ensures.refused)

pub returns-in_default-clause-stuck : goal.returns-in_default-clause-stuck
returns-in_default-clause-stuck c =
    let stuck : run (Some Record) (rest_of c.args.self.now ++ c.args.piece.now) ≡ None =
    run-on (Some Record) (rest_of c.args.self.now) c.args.piece.now c.args.self.now.state None (c.args.self.now.reached c.requires) c.in_default.ensures.refused in
    λ done text tail h.
    faulty-before (text ++ c.args.piece.now) tail c.fault_of.result (c.fault_of.ensures.told done text h) (holds-run done text c.args.piece.now c.args.self.now h ∙ stuck)

pub invariant_of-self-2 : goal.invariant_of-self-2
invariant_of-self-2 c =
    let count = c.in-Some.count in
    let piece : List ℕ = c.args.piece.now in
    let old = c.args.self.now in
    let scanned = c.in-Some.ensures.scanned in
    let items : c.extend_from_slice.new.self.items ≡ c.if-count-gt0.self.rest.items ++ drop count piece =
    c.in_ok-extend_from_slice.ensures.items ∙ ap (λ (t : List ℕ). c.if-count-gt0.self.rest.items ++ t) (take_rest piece count) in
    record {
      feed = c.if-count-gt0.self.feed;
      reached = λ _. elim c.if-count-gt0.branch [
        | then-count-gt0+in_ok-keep w ↦
            let is : c.extend_from_slice.new.self.items ≡ drop count piece =
            items ∙ ap (λ (t : List ℕ). t ++ drop count piece) (ap (λ b. b.rest.items) w.self-is ∙ w.in_ok-keep.ensures.rest) in
            ap (λ (t : List ℕ). run (Some Record) t) is
            ∙ run-rest (Some old.state) piece count Record (Some c.in-Some.state) (scanned.ends w.if-count-gt0.true) scanned.reached
        | else-count-gt0 w ↦
            let none : count ≡ 0 = omega (arith, w.if-count-gt0.false) in
            let is : c.extend_from_slice.new.self.items ≡ old.rest.items ++ piece =
            items ∙ (ap (λ b. b.rest.items ++ drop count piece) w.self-is ∙ ap (λ (n : ℕ). old.rest.items ++ drop n piece) none) in
            ap (λ (t : List ℕ). run (Some Record) t) is ∙ run-on (Some Record) old.rest.items piece old.state (Some c.in-Some.state) (old.reached c.requires) scanned.reached
      ];
    }

pub returns-clause-moves : goal.returns-clause-moves
returns-clause-moves c =
    let count = c.in-Some.count in
    let piece : List ℕ = c.args.piece.now in
    let old = c.args.self.now in
    let items : c.extend_from_slice.new.self.items ≡ c.if-count-gt0.self.rest.items ++ drop count piece =
    c.in_ok-extend_from_slice.ensures.items ∙ ap (λ (t : List ℕ). c.if-count-gt0.self.rest.items ++ t) (take_rest piece count) in
    elim c.if-count-gt0.branch [
      | then-count-gt0+in_ok-keep w ↦
          moves-whole old w.keep.new.self _ piece count c.in-Some.state c.requires (old.reached c.requires) c.in-Some.ensures.scanned w.if-count-gt0.true w.in_ok-keep.ensures
          (ap (λ b. drop 1 b.block.items) w.self-is) (items ∙ ap (λ b. b.rest.items ++ drop count piece) w.self-is) (ap (λ b. b.begun) w.self-is) (ap (λ b. b.lines) w.self-is)
      | else-count-gt0 w ↦
          moves-within old _ piece count c.requires (omega (arith, w.if-count-gt0.false)) (ap (λ b. drop 1 b.block.items) w.self-is)
          (items ∙ ap (λ b. b.rest.items ++ drop count piece) w.self-is) (ap (λ b. b.begun) w.self-is) (ap (λ b. b.lines) w.self-is)
    ]
