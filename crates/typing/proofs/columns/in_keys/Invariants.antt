use Rattle.std.proofs.Common.{◌≡◌, flat_map, drop}
use Rattle.typing.specs.Columns.{key_columns, first_beyond}
use Rattle.typing.proofs.columns.in_keys.Given as goal

-- what is left decides
abbrev pub invariant-loop-key : goal.invariant-loop-key
invariant-loop-key l = first_beyond (flat_map (key_columns l.arity) l.keys) ≡ first_beyond (flat_map (key_columns l.arity) (drop l.key-index l.keys))
