mod ChangesMade
mod CountsKept
