-- What each seat has read is at most the word, which is what the one publisher has published.
use Rattle.std.specs.Prelude.{◌≡◌, ℕ, ◌≤◌, Some, None, List, [], ◌∷◌, max}
use mathlib.Core.Option.{some}
use lib.ListN.{get_elem?}
use Rattle.workers.specs.declared.rule.View.{View}
use Rattle.atomic_table.specs.Table.{Me}

abbrev pub reader : ℕ → View
reader n = record { published = None; read = n }

abbrev pub publisher : ℕ → View
publisher n = record { published = Some n; read = n }

-- the first, with what the second has read
abbrev pub with_read : View → View → View
with_read v w = record { published = v.published; read = w.read }

-- a view fits the word, where p is the publisher's number
pub record Fits (p word i : ℕ) (v : View) : Type 0 where
  pub alone : (n : ℕ) → v.published ≡ Some n → i ≡ p
  pub above : (n : ℕ) → v.published ≡ Some n → n ≡ word
  pub below : v.read ≤ word

-- there is one word
abbrev pub Keeps : List ℕ → List View → Type 0
Keeps [] views = ⊥
Keeps (n ∷ ns) views = (p : ℕ) × ((i : ℕ) (v : View) → get_elem? views i ≡ some v → Fits p n i v)

-- a load gives the word, which is at least what was read before
abbrev pub Reads : Me (Unit {0}) View → ℕ → Me (Unit {0}) View → Type 0
Reads before n after = (before.0.read ≤ n) × (after ≡ (reader n, []))

abbrev pub Publishes : ℕ → Me (Unit {0}) View → ℕ → Me (Unit {0}) View → Type 0
Publishes k before n after = (before.0.published ≡ Some n) × (after ≡ (publisher (max n k), []))

-- the word is what was published, and at least what was read
abbrev pub Compares : Me (Unit {0}) View → ℕ → Me (Unit {0}) View → Type 0
Compares before n after = (before.0.published ≡ Some n) × (before.0.read ≤ n) × (after ≡ (publisher n, []))
