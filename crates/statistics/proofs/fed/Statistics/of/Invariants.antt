use Rattle.std.proofs.Common.{◌≡◌, vec_len}
use Rattle.statistics.proofs.fed.Statistics.of.Given as goal

abbrev pub invariant-loop-input : goal.invariant-loop-input
invariant-loop-input l = vec_len l.inputs ≡ l.input
