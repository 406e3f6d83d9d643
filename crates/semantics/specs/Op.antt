-- The equation of a vertex at one time: from a multiset for each in port to one for each out port. The vertices of a query's forms compute what the
-- forms mean; those of a loop depend on the last counter, and an unseen and a lookup also on what came in earlier turns.
use Rattle.std.specs.Prelude.{◌≡◌, ℕ, zero, suc, ◌+◌, ◌-◌, ◌<◌, nat_lt, nat_eq, Bool, true, false, cond, List, [], ◌++◌, map, flat_map, Some}
use Rattle.semantics.specs.Multiset.{Record, count, ◌≈◌, each_once, end_to_end}
use Rattle.semantics.specs.Meaning.{selected, kept, paired, grouped, only_left, in_both}
use Rattle.semantics.specs.Time.{Time, last, earlier_turns}
use Rattle.semantics.specs.Kinds.{Kind, in_ports, route_key, looks_back}

-- how many lists the equation of a kind reads: one for each in port and, if it looks back, one more
abbrev pub places : Kind → ℕ
places kind = cond (looks_back kind) (suc (in_ports kind)) (in_ports kind)

-- the port that comes to a place
abbrev pub port_at : Kind → (place : ℕ) → ℕ
port_at kind p = cond (nat_lt p (in_ports kind)) p (in_ports kind - 1)

-- the other times of which it reads what came
abbrev pub reads_back : Kind → Time → List Time
reads_back kind t = cond (looks_back kind) (earlier_turns t) []

-- what is read at a time, if `at` is what comes to that many ports: what comes then and, if looking back, behind them what came to the last port in the
-- earlier turns
abbrev pub reads_if : (back : Bool) → (ports : ℕ) → (at : (port : ℕ) → Time → List Record) → Time → (place : ℕ) → List Record
reads_if false ports at t p = at p t
reads_if true ports at t p = cond (nat_lt p ports) (at p t) (flat_map (at (ports - 1)) (earlier_turns t))

-- what the equation of a kind reads
abbrev pub reads : Kind → (at : (port : ℕ) → Time → List Record) → Time → (place : ℕ) → List Record
reads kind at t p = reads_if (looks_back kind) (in_ports kind) at t p

-- what a vertex of that kind makes of what it reads
abbrev pub op : Kind → Time → (ins : ℕ → List Record) → (out : ℕ) → List Record
op Kind.input t ins out = []
op Kind.output t ins out = []
op (Kind.select ss) t ins out = selected ss (ins 0)
op (Kind.filter c) t ins out = kept c (ins 0)
op Kind.concat t ins out = ins 0 ++ ins 1
op (Kind.join ps) t ins out = paired ps (ins 0) (ins 1)
op (Kind.lookup ps) t ins out = paired ps (ins 0) (ins 1 ++ ins 2)
op (Kind.group ks as') t ins out = grouped ks as' (ins 0)
op Kind.distinct t ins out = each_once (ins 0)
op Kind.except t ins out = only_left (ins 0) (ins 1)
op Kind.intersect t ins out = in_both (ins 0) (ins 1)
op Kind.ingress t ins out = ins 0
op Kind.egress t ins out = ins 0
op Kind.feedback t ins out = ins 0
op (Kind.gate n) t ins zero = cond (nat_lt (last t.counters) n) (ins 0) []
op (Kind.gate n) t ins (suc out) = cond (nat_eq (last t.counters) n) (ins 0) []
op (Kind.unseen n) t ins zero = cond (nat_lt (last t.counters) n) (only_left (ins 0) (ins 1)) []
op (Kind.unseen n) t ins (suc out) = only_left (ins 0) (ins 1)
op (Kind.hold n) t ins zero = cond (nat_lt (last t.counters) n) (ins 0) []
op (Kind.hold n) t ins (suc out) = cond (nat_lt (last t.counters + 1) n) (ins 0) []

-- ---- inputs that are cut by route keys

-- no key of xs under f is a key of ys under g
pub record HasNoCommonKey (f g : Record → Record) (xs ys : List Record) : Type 0 where
  pub never : (k : Record) → 0 < count k (map f xs) → 0 < count k (map g ys) → ⊥

-- no route key is in two of the first n parts; `parts w` are the records of part w at each place
pub record IsCut (kind : Kind) (parts : ℕ → ℕ → List Record) (n : ℕ) : Type 0 where
  pub apart : (v w : ℕ) → v < n → w < n → (v ≡ w → ⊥) → (i j : ℕ) → i < places kind → j < places kind →
      (f g : Record → Record) → route_key kind i ≡ Some f → route_key kind j ≡ Some g →
      HasNoCommonKey f g (parts v i) (parts w j)

-- the parts sum to what is read
pub record IsSum (kind : Kind) (ins : ℕ → List Record) (parts : ℕ → ℕ → List Record) (n : ℕ) : Type 0 where
  pub sums : (i : ℕ) → i < places kind → ins i ≈ end_to_end (λ w. parts w i) n
