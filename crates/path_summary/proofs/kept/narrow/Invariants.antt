use Rattle.std.proofs.Common.{◌≡◌, take}
use Rattle.path_summary.proofs.kept.narrow.Given as goal

abbrev pub invariant-loop-code : goal.invariant-loop-code
invariant-loop-code l = l.out.items ≡ take l.code-index l.codes
