-- One entry more.
use Rattle.std.proofs.Common.{◌≡◌, ℕ, suc, ◌≤◌, ◌-◌, List, [], ◌∷◌, ◌++◌, length, get_or, take, drop, refl, sym, ap, ap₂, ◌∙◌, arith}
use Rattle.std.proofs.Math.Seq.{take-length}
use Rattle.semantics.specs.Query.{Name}
use Rattle.semantics.specs.Graph.{no_port}
use Rattle.semantics.specs.Lower.{Ports, stands_for, carried_ports, port}
use Rattle.graph.specs.Views.{port_of}
use Rattle.lowering.specs.Scopes.{ports_from, ports_of}
use Rattle.lowering.specs.declared.scope.Entry.{Entry}
use Rattle.graph.specs.declared.vertex.Port.{Port}

pub ports_from_append : (ports : Ports) (es fs : List Entry) → ports_from ports (es ++ fs) ≡ ports_from (ports_from ports es) fs
ports_from_append ports [] fs = refl
ports_from_append ports (e ∷ es) fs = ports_from_append (stands_for e.name (port_of e.port) ports) es fs

pub split_first : {A : Type 0} → (xs : List A) (y : A) → 1 ≤ length xs → y ≡ get_or xs 0 y → xs ≡ y ∷ take (length xs - 1) (drop 1 xs)
split_first [] y h q = absurd (omega arith)
split_first (x ∷ xs) y h q =
    let n : suc (length xs) - 1 ≡ length xs = omega arith in
    ap₂ (λ a l. a ∷ l) (sym q) (sym (ap (λ k. take k xs) n ∙ take-length xs))

-- one carried name more stands for its hold
pub held_one : (ports : Ports) (k m : ℕ) (names rest : List Name) (y : Name) (p : Port) (old new : List Entry) → names ≡ y ∷ rest → m ≡ suc (suc (suc (suc k))) → ports_of old ≡ carried_ports ports m rest → port_of p ≡ port (suc (suc k)) 0 → new ≡ old ++ (record { name = y; port = p } ∷ []) → ports_of new ≡ carried_ports ports k names
held_one ports k m names rest y p old new n e h g b =
    ap ports_of b ∙ ports_from_append (λ x. no_port) old (record { name = y; port = p } ∷ [])
    ∙ ap₂ (λ q f. stands_for y q f) g (h ∙ ap (λ j. carried_ports ports j rest) e) ∙ sym (ap (λ l. carried_ports ports k l) n)

pub gate_bound : (ports : Ports) (names ys : List Name) (m k : ℕ) (x : Name) (p : Port) (old new : List Entry) → names ≡ ys → m ≡ suc (suc (suc k)) → ports_of old ≡ carried_ports ports m names → port_of p ≡ port (suc (suc k)) 0 → new ≡ old ++ (record { name = x; port = p } ∷ []) → ports_of new ≡ stands_for x (port (suc (suc k)) 0) (carried_ports ports (suc (suc (suc k))) ys)
gate_bound ports names ys m k x p old new n e h g b =
    ap ports_of b ∙ ports_from_append (λ y. no_port) old (record { name = x; port = p } ∷ [])
    ∙ ap₂ (λ q f. stands_for x q f) g (h ∙ ap₂ (λ j l. carried_ports ports j l) e n)
