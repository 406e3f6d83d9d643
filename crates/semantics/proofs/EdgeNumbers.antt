-- Edges by number, and by the port that they enter.
use Rattle.std.proofs.Common.{◌≡◌, ℕ, zero, suc, ◌+◌, ◌-◌, ◌≤◌, ◌<◌, nat_lt, Bool, true, false, [], ◌∷◌, length, refl, ap, arith, ltb-true, ltb-false, lt-ltb, le-ltb}
use Rattle.semantics.specs.Graph.{edge_count, target, in_port, edge_into, Graph, vertex}

pub record Entered (g : Graph) (e : ℕ) : Type 0 where
  pub known : target g e < length g
  pub port : in_port g e < length (vertex g (target g e)).ins
  pub back : edge_into g (target g e) (in_port g e) ≡ e

pub entered : (g : Graph) (e : ℕ) → e < edge_count g → Entered g e
unfolding vertex
entered [] e l = absurd (omega arith)
entered (x ∷ g) e l = go (nat_lt e (length x.ins)) refl (entered g (e - length x.ins))
  where
    go : (b : Bool) → nat_lt e (length x.ins) ≡ b → (e - length x.ins < edge_count g → Entered g (e - length x.ins)) → Entered (x ∷ g) e
    go true s ih =
        let n : e < length x.ins = ltb-true e (length x.ins) s in
        record { known = rw s (omega arith); port = rw s n; back = rw s refl }
    go false s ih =
        let n : length x.ins ≤ e = ltb-false e (length x.ins) s in
        let a = ih (omega arith) in
        let k = a.known in
        let b = a.back in
        record { known = rw s (omega arith); port = rw s a.port; back = rw s (omega arith) }

pub record Into (g : Graph) (v p : ℕ) : Type 0 where
  pub known : v < length g
  pub edge : edge_into g v p < edge_count g
  pub vertex : target g (edge_into g v p) ≡ v
  pub port : in_port g (edge_into g v p) ≡ p

pub into : (g : Graph) (v p : ℕ) → p < length (vertex g v).ins → Into g v p
unfolding vertex
into [] v p l = absurd (omega arith)
into (x ∷ g) zero p l =
    let s = lt-ltb p (length x.ins) l in
    record { known = omega arith; edge = omega arith; vertex = rw s refl; port = rw s refl }
into (x ∷ g) (suc v) p l =
    let a = into g v p l in
    let s : nat_lt (length x.ins + edge_into g v p) (length x.ins) ≡ false = le-ltb (length x.ins + edge_into g v p) (length x.ins) (omega arith) in
    let m : (length x.ins + edge_into g v p) - length x.ins ≡ edge_into g v p = omega arith in
    let k = a.known in
    let i = a.edge in
    record {
      known = omega arith;
      edge = omega arith;
      vertex = rw (s, m) (ap suc a.vertex);
      port = rw (s, m) a.port;
    }
