-- What one worker's shard of a vertex absorbs, sends and asks for. (Naiad, SOSP 2013, section 2.2: messages and notifications.)
use Rattle.std.specs.Prelude.{◌≡◌, ℕ, Bool, true, false, cond, ◌==◌, List, [], ◌∷◌, ◌++◌}
use Rattle.semantics.specs.Multiset.{Record, ◌≈◌}
use Rattle.semantics.specs.Time.{Time, same_time}
use Rattle.semantics.specs.Kinds.{Role}

-- ---- what is absorbed

-- what a shard has absorbed, by in port and time
abbrev pub Absorbed : Type 0
Absorbed = (port : ℕ) → Time → List Record

-- with these records at a port and time
abbrev pub with_records : Absorbed → (port : ℕ) → Time → List Record → Absorbed
with_records a p t records p' t' = a p' t' ++ cond (p == p') (cond (same_time t t') records []) []

-- only stateful and notified vertices absorb
abbrev pub absorbed_by : Role → Absorbed → (port : ℕ) → Time → List Record → Absorbed
absorbed_by Role.input a p t records = a
absorbed_by Role.stateless a p t records = a
absorbed_by Role.stateful a p t records = with_records a p t records
absorbed_by Role.notified a p t records = with_records a p t records
absorbed_by Role.output a p t records = a

-- ---- what is sent and asked for

-- these records at one port, and none at the others
abbrev pub only_at : ℕ → List Record → ℕ → List Record
only_at p records p' = cond (p' == p) records []

-- What a shard sends for records that come to a port: `op` is its vertex's equation at the time, `before` what it had absorbed there by port, `now`
-- what it has absorbed after, and `out` what it sends by out port. An input gets no messages.
abbrev pub SendsBy : Role → (op : (out : ℕ) → (ins : ℕ → List Record) → List Record) → (before now : (port : ℕ) → List Record)
    → (port : ℕ) → List Record → (out : ℕ → List Record) → Type 0
SendsBy Role.input op before now port records out = ⊥
SendsBy Role.stateless op before now port records out = (q : ℕ) → out q ≈ op q (only_at port records)
-- what is gained
SendsBy Role.stateful op before now port records out = (q : ℕ) → (out q ++ op q before) ≈ op q now
SendsBy Role.notified op before now port records out = (q : ℕ) → out q ≡ []
SendsBy Role.output op before now port records out = (q : ℕ) → out q ≡ []

-- what a shard sends at its notification, from all that it absorbed at that time
abbrev pub SendsAtNotification : (op : (out : ℕ) → (ins : ℕ → List Record) → List Record) → (absorbed : (port : ℕ) → List Record)
    → (out : ℕ → List Record) → Type 0
SendsAtNotification op absorbed out = (q : ℕ) → out q ≈ op q absorbed

-- a shard asks for a notification when it absorbs its first records at a time; `before` is what it had absorbed there at all its ports
abbrev pub asks : Role → (before : List Record) → Bool
asks Role.input before = false
asks Role.stateless before = false
asks Role.stateful before = false
asks Role.notified [] = true
asks Role.notified (r ∷ records) = false
asks Role.output before = false
