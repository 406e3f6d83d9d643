-- The gate of a loop, of either sort; and a join, with or without a lookup.
use Rattle.std.proofs.Common.{◌≡◌, ℕ, Bool, true, false, List, refl}
use Rattle.semantics.specs.Kinds.{Kind, action, ends_turn, in_ports, out_ports, is_input, is_output}
use Rattle.semantics.specs.Lower.{gate_of, join_kind}
use Rattle.semantics.specs.Query.{Pair, Loop}
use Rattle.semantics.specs.Time.{Action}

pub gate_ins : (l : Loop) (n : ℕ) → 1 ≡ in_ports (gate_of l n)
gate_ins Loop.iterate n = refl
gate_ins Loop.closure n = refl

pub gate_outs : (l : Loop) (n : ℕ) → 2 ≡ out_ports (gate_of l n)
gate_outs Loop.iterate n = refl
gate_outs Loop.closure n = refl

pub gate_stays : (l : Loop) (n : ℕ) → action (gate_of l n) ≡ Action.stay
gate_stays Loop.iterate n = refl
gate_stays Loop.closure n = refl

pub gate_no_input : (l : Loop) (n : ℕ) → is_input (gate_of l n) ≡ false
gate_no_input Loop.iterate n = refl
gate_no_input Loop.closure n = refl

pub gate_no_output : (l : Loop) (n : ℕ) → is_output (gate_of l n) ≡ false
gate_no_output Loop.iterate n = refl
gate_no_output Loop.closure n = refl

pub gate_no_end : (l : Loop) (n : ℕ) → ends_turn (gate_of l n) ≡ false
gate_no_end Loop.iterate n = refl
gate_no_end Loop.closure n = refl

pub join_ins : (b : Bool) (ps : List Pair) → 2 ≡ in_ports (join_kind b ps)
join_ins true ps = refl
join_ins false ps = refl

pub join_outs : (b : Bool) (ps : List Pair) → 1 ≡ out_ports (join_kind b ps)
join_outs true ps = refl
join_outs false ps = refl

pub join_stays : (b : Bool) (ps : List Pair) → action (join_kind b ps) ≡ Action.stay
join_stays true ps = refl
join_stays false ps = refl

pub join_no_input : (b : Bool) (ps : List Pair) → is_input (join_kind b ps) ≡ false
join_no_input true ps = refl
join_no_input false ps = refl

pub join_no_output : (b : Bool) (ps : List Pair) → is_output (join_kind b ps) ≡ false
join_no_output true ps = refl
join_no_output false ps = refl

pub join_no_end : (b : Bool) (ps : List Pair) → ends_turn (join_kind b ps) ≡ false
join_no_end true ps = refl
join_no_end false ps = refl
