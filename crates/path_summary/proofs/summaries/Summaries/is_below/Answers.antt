use Rattle.std.proofs.Common.{◌∙◌, ap}
use Rattle.std.proofs.lemmas.Bool.{true≢false}
use Rattle.path_summary.specs.Codes.{decoded}
use Rattle.path_summary.proofs.Carrying.{below_self}
use Rattle.path_summary.proofs.summaries.Summaries.is_below.Goals as goal

pub returns-then-code-other-clause-below : goal.returns-then-code-other-clause-below
returns-then-code-other-clause-below c = λ e h k. record { least = h; known = ap (decoded c.args.self.now) c.if-code-other.true ∙ k; below = below_self h }

pub returns-then-code-other-clause-not : goal.returns-then-code-other-clause-not
returns-then-code-other-clause-not c = λ e f h k l. absurd (true≢false e)
