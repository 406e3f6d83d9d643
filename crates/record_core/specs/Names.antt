-- What a name is, and how the keywords are spelled.
use Rattle.std.specs.Prelude.{◌≢◌, ◌≤◌, ℕ, Bool, false, ◌==◌, nat_le, ◌&&◌, ◌||◌, List, [], ◌∷◌, length, IsTrue, codes}
use Rattle.std.specs.List.{list_all}
use Rattle.record_core.specs.declared.keyword.Keyword.{Keyword}
use Rattle.record_core.specs.declared.keyword.Keyword.TheVariants as keyword

-- a to z
abbrev pub is_letter : ℕ → Bool
is_letter b = nat_le 97 b && nat_le b 122

-- 0 to 9
abbrev pub is_digit : ℕ → Bool
is_digit b = nat_le 48 b && nat_le b 57

-- a letter, a digit or an underscore
abbrev pub is_name_byte : ℕ → Bool
is_name_byte b = is_letter b || is_digit b || (b == 95)

-- it begins with a letter
abbrev pub begins_name : List ℕ → Bool
begins_name [] = false
begins_name (b ∷ bs) = is_letter b

-- the spelling of a keyword
abbrev pub keyword_text : Keyword → List ℕ
keyword_text keyword.Input = codes "input"
keyword_text keyword.Let = codes "let"
keyword_text keyword.Output = codes "output"
keyword_text keyword.Select = codes "select"
keyword_text keyword.Where = codes "where"
keyword_text keyword.Concat = codes "concat"
keyword_text keyword.Join = codes "join"
keyword_text keyword.Group = codes "group"
keyword_text keyword.Distinct = codes "distinct"
keyword_text keyword.Except = codes "except"
keyword_text keyword.Intersect = codes "intersect"
keyword_text keyword.Iterate = codes "iterate"
keyword_text keyword.Count = codes "count"
keyword_text keyword.Sum = codes "sum"
keyword_text keyword.Min = codes "min"
keyword_text keyword.Max = codes "max"
keyword_text keyword.And = codes "and"
keyword_text keyword.Or = codes "or"
keyword_text keyword.Not = codes "not"
keyword_text keyword.Epoch = codes "epoch"

-- a letter, then letters, digits and underscores; at most 32 bytes, and not a keyword
pub record IsName (bytes : List ℕ) : Type 0 where
  pub begins : IsTrue (begins_name bytes)
  pub goes_on : IsTrue (list_all is_name_byte bytes)
  pub short : length bytes ≤ 32
  pub free : (k : Keyword) → bytes ≢ keyword_text k
