use Rattle.std.proofs.Common.{◌≡◌, ◌≢◌, ℕ, ◌<◌, Some}
use Rattle.std.specs.Prelude.{slice_get}
use Rattle.record_core.specs.declared.keyword.Keyword.{Keyword}
use Rattle.record_core.specs.Names.{keyword_text}
use Rattle.record_core.proofs.keyword.Keyword.of.Given as goal

abbrev pub invariant-loop-keyword : goal.invariant-loop-keyword
invariant-loop-keyword l = (k : Keyword) (i : ℕ) → i < l.keyword-index → slice_get l.keyword-items i ≡ Some k → l.word ≢ keyword_text k
