-- What the transcript of a text shows.
use Rattle.std.specs.Prelude.{Bool, ℕ, List}
use Rattle.collector.specs.declared.transcript.Opened.{Opened}
use Rattle.collector.specs.declared.transcript.Transcript.{Transcript}

-- the name under which the text was opened
abbrev pub opened_as : {R : Type 0} → Opened R → List ℕ
opened_as o = o.name.now

-- it was opened as one that has to end with the mark
abbrev pub is_marked_text : {R : Type 0} → Opened R → Bool
is_marked_text o = o.is_marked

-- the name of the text that was read
abbrev pub name_of : Transcript → List ℕ
name_of t = t.name.now

-- it had to end with the mark, a line `end`, which is none of its bytes
abbrev pub is_marked : Transcript → Bool
is_marked t = t.is_marked

-- all bytes that its reader has handed over
abbrev pub bytes_of : Transcript → List ℕ
bytes_of t = t.trace.items

-- its reader has said that there are no more; where it had to end with the mark, that came last
abbrev pub is_complete : Transcript → Bool
is_complete t = t.ended
