use Rattle.std.proofs.Common.{map, take}
use Rattle.table_follows.specs.Followed.{AreOthers}
use Rattle.table_follows.proofs.stream.other_texts.Given as goal

abbrev pub invariant-loop-i : goal.invariant-loop-i
invariant-loop-i g l = record {
  read : AreOthers (g.S.Sources.content l.sources) l.place (take l.i (map (λ s. s.now) l.paths))
      (map (λ v. v.items) l.texts.items);
}
