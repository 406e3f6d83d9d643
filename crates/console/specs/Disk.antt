-- What the texts of the system have handed over.
use Rattle.std.specs.Prelude.{◌≡◌, ℕ, Bool, false, List, [], Option, Some, None, codes}
use Rattle.collector.specs.Watching.{handed, has_ended}
use Rattle.collector.specs.declared.watched.Watched.{Watched}
use Rattle.console.specs.declared.disk.DiskText.{DiskText}
use Rattle.console.specs.declared.disk.DiskText.TheVariants.{Input, File}
use Rattle.console.specs.declared.disk.LateFile.{LateFile}

-- of a reader that may not be there yet: all bytes that it has handed over
abbrev pub bytes_so_far : {R : Type 0} → Option (Watched R) → List ℕ
bytes_so_far None = []
bytes_so_far (Some r) = handed r

-- it has said that there are no more
abbrev pub is_at_end : {R : Type 0} → Option (Watched R) → Bool
is_at_end None = false
is_at_end (Some r) = has_ended r

-- the path of a file, what it has handed over, and whether that is all
abbrev pub path_of : LateFile → List ℕ
path_of f = f.path.now

abbrev pub file_bytes : LateFile → List ℕ
file_bytes f = bytes_so_far f.file

abbrev pub file_has_ended : LateFile → Bool
file_has_ended f = is_at_end f.file

-- the same of any text
abbrev pub text_bytes : DiskText → List ℕ
text_bytes (Input r) = handed r
text_bytes (File f) = file_bytes f

abbrev pub text_has_ended : DiskText → Bool
text_has_ended (Input r) = has_ended r
text_has_ended (File f) = file_has_ended f

-- it is the text of that name: of `-` standard input, and else the file with that path
abbrev pub IsText : DiskText → (name : List ℕ) → Type 0
IsText (Input r) name = name ≡ codes "-"
IsText (File f) name = path_of f ≡ name
