-- What a recorded writer took.
use Rattle.std.specs.Prelude.{ℕ, List}
use Rattle.collector.specs.declared.recorded.Recorded.{Recorded}

-- all bytes that the writer took
abbrev pub taken : {W : Type 0} → Recorded W → List ℕ
taken w = w.trace.items

-- the writer itself
abbrev pub writer_of : {W : Type 0} → Recorded W → W
writer_of w = w.inner
