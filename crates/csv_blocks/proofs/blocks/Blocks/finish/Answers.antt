use Rattle.std.proofs.Common.{◌≡◌, ◌∙◌, true, ℕ, List, ap, subst, sym}
use Rattle.std.proofs.lemmas.Result.{IfErr-weaker, err_from_is_err_and, on_ok_weaker}
use Rattle.csv.specs.Reading.{strip_bom}
use Rattle.csv_blocks.specs.Blocks.{Holds, IsAt}
use Rattle.csv_blocks.specs.declared.blocks.Blocks.{Blocks}
use Rattle.csv_blocks.proofs.Holding.{begins-holds, faulty-begins, last-ends}
use Rattle.csv_blocks.proofs.blocks.Blocks.finish.Goals.{then-not-self+in_ok-begin, else-not-self}
use Rattle.csv_blocks.proofs.blocks.Blocks.finish.Goals as goal

pub returns-in_err-begin-clause-faulty : goal.returns-in_err-begin-clause-faulty
returns-in_err-begin-clause-faulty c =
    let p = err_from_is_err_and c.from_residual.result c.from_residual.ensures.1 in
    rw (p.1, p.2) (λ done text at. faulty-begins done text c.args.self.now c.in_err-begin.field-0.0 at c.if-not-self.true c.in_err-begin.ensures.stuck)

pub returns-clause-last : goal.returns-clause-last
returns-clause-last c =
    let mid = c.if-not-self.self in
    let begun : mid.begun ≡ true = elim c.if-not-self.branch [
      | then-not-self+in_ok-begin w ↦ ap (λ b. b.begun) w.self-is ∙ w.in_ok-begin.ensures.moves.begun
      | else-not-self w ↦ ap (λ b. b.begun) w.self-is ∙ w.if-not-self.false
    ] in
    let holds : (done text : List ℕ) → IsAt done c.args.self.now text → Holds done mid (strip_bom text) = elim c.if-not-self.branch [
      | then-not-self+in_ok-begin w ↦
          λ done text at.
          subst (λ (b : Blocks). Holds done b (strip_bom text)) (sym w.self-is)
          (begins-holds done text c.args.self.now w.begin.new.self at w.if-not-self.true w.in_ok-begin.ensures.moves)
      | else-not-self w ↦ λ done text at. subst (λ (b : Blocks). Holds done b (strip_bom text)) (sym w.self-is) at.holds
    ] in
    on_ok_weaker c.end.result (λ e done text at. last-ends done text mid c.end.new.self (holds done text at) (mid.reached begun) e) c.end.ensures.ends

pub returns-clause-faulty : goal.returns-clause-faulty
returns-clause-faulty c =
    let mid = c.if-not-self.self in
    let holds : (done text : List ℕ) → IsAt done c.args.self.now text → Holds done mid (strip_bom text) = elim c.if-not-self.branch [
      | then-not-self+in_ok-begin w ↦
          λ done text at.
          subst (λ (b : Blocks). Holds done b (strip_bom text)) (sym w.self-is)
          (begins-holds done text c.args.self.now w.begin.new.self at w.if-not-self.true w.in_ok-begin.ensures.moves)
      | else-not-self w ↦ λ done text at. subst (λ (b : Blocks). Holds done b (strip_bom text)) (sym w.self-is) at.holds
    ] in
    IfErr-weaker c.end.result _ _ (λ fault f done text at. f done (strip_bom text) (holds done text at)) c.end.ensures.faulty
