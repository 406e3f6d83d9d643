-- The limits of the language and of a run, each named once.
use Rattle.std.specs.Prelude.{ℕ}

-- the most fields of a record; it has at least one
abbrev pub max_fields : ℕ
max_fields = 16

-- the most inputs of a program
abbrev pub max_inputs : ℕ
max_inputs = 16

-- the most outputs of a program
abbrev pub max_outputs : ℕ
max_outputs = 16

-- the most turns of a loop
abbrev pub max_turns : ℕ
max_turns = 65535

-- the most loops inside one another
abbrev pub max_loops : ℕ
max_loops = 16

-- the most workers of a run
abbrev pub max_workers : ℕ
max_workers = 64
