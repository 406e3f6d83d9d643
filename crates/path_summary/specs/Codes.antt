-- Entries by code, in the list of different summaries; 0 is no entry.
use Rattle.std.specs.Prelude.{◌≡◌, ℕ, zero, suc, ◌≤◌, ◌++◌, List, map, Option, None, slice_get, slice_index_or, length}
use Rattle.semantics.specs.Summary.{Summary}

-- the entry of a code
abbrev pub decoded : List Summary → ℕ → Option Summary
decoded summaries zero = None
decoded summaries (suc c) = slice_get summaries c

-- the entries of a row of codes
abbrev pub row_of : List Summary → List ℕ → List (Option Summary)
row_of summaries codes = map (decoded summaries) codes

-- each code is 0 or that of a summary
pub record AreCodes (summaries : List Summary) (codes : List ℕ) : Type 0 where
  pub within : (x : ℕ) → slice_index_or codes x 0 ≤ length summaries

-- new begins with all of old
pub record Grows (old new : List Summary) : Type 0 where
  pub more : List Summary
  pub is : new ≡ old ++ more
