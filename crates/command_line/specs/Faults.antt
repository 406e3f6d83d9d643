-- The status of a line that is refused.
use Rattle.std.specs.Prelude.{◌≡◌, ℕ}
use Rattle.command_line.specs.declared.line_fault.LineFault.{LineFault}
use Rattle.command_line.specs.declared.line_fault.LineFault.TheVariants as line

-- 2 of a command line, 5 where there was no memory to read it
abbrev pub line_status_of : LineFault → ℕ
line_status_of line.NoMemory = 5
line_status_of (line.Workers word) = 2
line_status_of (line.Heap word) = 2
line_status_of (line.FirstEpoch word) = 2
line_status_of (line.Dialect word) = 2
line_status_of line.Unwrapped = 2
line_status_of (line.Statement word) = 2
line_status_of (line.Misplaced option commands) = 2
line_status_of (line.Unknown option command options) = 2
line_status_of (line.Unrecognized word commands) = 2
line_status_of line.InputTwice = 2
line_status_of line.NoText = 2
line_status_of line.NoCommand = 2
line_status_of (line.Line error) = 2

-- a fault of the words alone, and not of what they name
abbrev pub IsOfWords : LineFault → Type 0
IsOfWords fault = fault ≡ line.InputTwice → ⊥
