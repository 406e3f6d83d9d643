-- A relation has an arity exactly where the checks say so, and a first fault exactly where they say that.
use Rattle.std.proofs.Common.{◌≡◌, ◌↔◌, ℕ, suc, ◌+◌, cond, nat_lt, nat_le, nat_eq, ◌∷◌, length, flat_map, None, Ok, Err, refl, sym, ◌∙◌, ap, subst, eq-eqb}
use Rattle.std.proofs.lemmas.Bool.{ltb-true, lt-ltb, leb-true, le-leb, eqb-true}
use Rattle.std.proofs.lemmas.List.{length-map}
use Rattle.expr_tree.specs.Trees.{RelTree}
use Rattle.expr_tree.specs.declared.relation.SetOperator.{SetOperator}
use Rattle.expr_tree.specs.declared.relation.SetOperator.TheVariants as operation
use Rattle.expr_tree.specs.Plain.{plain_scalar, plain_agg, plain_rel, plain_set_operation}
use Rattle.semantics.specs.Query.{Rel}
use Rattle.semantics.specs.Limits.{max_turns, max_loops}
use Rattle.semantics.specs.Typing.{Scope, lookup, entry, IsArity, HasArity}
use Rattle.typing.specs.declared.refusals.TheConstants.{NAME_TAKEN, ARITIES_DIFFER, BODY_DIFFERS, TOO_MANY_TURNS, TOO_DEEP}
use Rattle.typing.specs.Columns.{scalar_columns, cond_columns, pair_columns, key_columns, agg_columns, first_beyond}
use Rattle.typing.specs.Fault.{fault, span_of}
use Rattle.typing.specs.Verdict.{chain, within, unless_taken, known, sized, verdict}
use Rattle.typing.proofs.Fits.{scalars_fit, scalars_none, cond_fits, cond_none, pairs_fit, pairs_none, keys_fit, keys_none, aggs_fit, aggs_none}
use Rattle.typing.proofs.Chains.{chain_is_ok, within_is_ok, unless_is_ok, test_is_ok, known_is_ok, sized_is_ok, arity_true}

-- under a set operator both relations have the arity
pub set_arity : (o : SetOperator) (p q : Rel) (scope : Scope) (d n : ℕ) → HasArity (plain_set_operation o p q) scope d n ↔ (HasArity p scope d n × HasArity q scope d n)
unfolding HasArity
set_arity operation.Concat p q scope d n = (λ h. h, λ h. h)
set_arity operation.Except p q scope d n = (λ h. h, λ h. h)
set_arity operation.Intersect p q scope d n = (λ h. h, λ h. h)

-- what has an arity passes
pub typed_checked : (r : RelTree) (scope : Scope) (d n : ℕ) → HasArity (plain_rel r) scope d n → verdict r scope d ≡ Ok n
unfolding HasArity
typed_checked (RelTree.named s x) scope d n h = ap (λ o. known o s) h
typed_checked (RelTree.select s r ts) scope d n h =
    rw (typed_checked r scope d h.0 h.1, scalars_fit h.0 ts h.2, arity_true (length ts) (subst IsArity (h.3 ∙ length-map ts plain_scalar) h.4)) (ap Ok (sym (h.3 ∙ length-map ts plain_scalar)))
typed_checked (RelTree.filter s r c) scope d n h = rw (typed_checked r scope d n h.0, cond_fits n c h.1)
typed_checked (RelTree.set_operation s o p q) scope d n h =
    let both = (set_arity o (plain_rel p) (plain_rel q) scope d n).0 h in
    rw (typed_checked p scope d n both.0, typed_checked q scope d n both.1, eq-eqb n n refl)
typed_checked (RelTree.join s p q ps) scope d n h =
    rw (typed_checked p scope d h.0 h.2, typed_checked q scope d h.1 h.3, pairs_fit h.0 h.1 ps h.4, arity_true (h.0 + h.1) (subst IsArity h.5 h.6)) (ap Ok (sym h.5))
typed_checked (RelTree.group s r ks gs) scope d n h =
    let e : n ≡ length ks + length gs = h.4 ∙ (λ i. length-map ks (λ k. k.index) i + length-map gs plain_agg i) in
    rw (typed_checked r scope d h.0 h.1, keys_fit h.0 ks h.2, aggs_fit h.0 gs h.3, arity_true (length ks + length gs) (subst IsArity e h.5)) (ap Ok (sym e))
typed_checked (RelTree.distinct s r) scope d n h = typed_checked r scope d n h
typed_checked (RelTree.loop s w t k u x r b) scope d n h =
    rw (le-leb k max_turns h.0, lt-ltb d max_loops h.1, typed_checked r scope d n h.2, h.3, typed_checked b (entry x n ∷ scope) (suc d) n h.4, eq-eqb n n refl)

-- what passes has the arity
pub checked_typed : (r : RelTree) (scope : Scope) (d n : ℕ) → verdict r scope d ≡ Ok n → HasArity (plain_rel r) scope d n
unfolding HasArity
checked_typed (RelTree.named s x) scope d n h = known_is_ok (lookup scope x) s n h
checked_typed (RelTree.select s r ts) scope d n h =
    let a = chain_is_ok (verdict r scope d) (λ m. within (first_beyond (flat_map (scalar_columns m) ts)) (sized s (length ts))) n h in
    let b = within_is_ok (first_beyond (flat_map (scalar_columns a.0) ts)) (sized s (length ts)) n a.2 in
    let c = sized_is_ok s (length ts) n b.1 in
    (a.0, checked_typed r scope d a.0 a.1, scalars_none a.0 ts b.0, c.1 ∙ sym (length-map ts plain_scalar), subst IsArity (sym c.1) c.0)
checked_typed (RelTree.filter s r c) scope d n h =
    let a = chain_is_ok (verdict r scope d) (λ m. within (first_beyond (cond_columns m c)) (Ok m)) n h in
    let b = within_is_ok (first_beyond (cond_columns a.0 c)) (Ok a.0) n a.2 in
    let e : a.0 ≡ n = cc in
    (checked_typed r scope d n (a.1 ∙ ap Ok e), cond_none n c (subst (λ m. first_beyond (cond_columns m c) ≡ None) e b.0))
checked_typed (RelTree.set_operation s o p q) scope d n h =
    let a = chain_is_ok (verdict p scope d) (λ l. chain (verdict q scope d) (λ m. cond (nat_eq l m) (Ok l) (Err (fault ARITIES_DIFFER s)))) n h in
    let b = chain_is_ok (verdict q scope d) (λ m. cond (nat_eq a.0 m) (Ok a.0) (Err (fault ARITIES_DIFFER s))) n a.2 in
    let c = test_is_ok (nat_eq a.0 b.0) (Ok a.0) (fault ARITIES_DIFFER s) n b.2 in
    let e : a.0 ≡ n = cc in
    let k = eqb-true a.0 b.0 c.0 in
    (set_arity o (plain_rel p) (plain_rel q) scope d n).1 (checked_typed p scope d n (a.1 ∙ ap Ok e), checked_typed q scope d n (b.1 ∙ ap Ok (sym k ∙ e)))
checked_typed (RelTree.join s p q ps) scope d n h =
    let a = chain_is_ok (verdict p scope d) (λ l. chain (verdict q scope d) (λ m. within (first_beyond (flat_map (pair_columns l m) ps)) (sized s (l + m)))) n h in
    let b = chain_is_ok (verdict q scope d) (λ m. within (first_beyond (flat_map (pair_columns a.0 m) ps)) (sized s (a.0 + m))) n a.2 in
    let c = within_is_ok (first_beyond (flat_map (pair_columns a.0 b.0) ps)) (sized s (a.0 + b.0)) n b.2 in
    let f = sized_is_ok s (a.0 + b.0) n c.1 in
    (a.0, b.0, checked_typed p scope d a.0 a.1, checked_typed q scope d b.0 b.1, pairs_none a.0 b.0 ps c.0, f.1, subst IsArity (sym f.1) f.0)
checked_typed (RelTree.group s r ks gs) scope d n h =
    let a = chain_is_ok (verdict r scope d) (λ m. within (first_beyond (flat_map (key_columns m) ks)) (within (first_beyond (flat_map (agg_columns m) gs)) (sized s (length ks + length gs)))) n h in
    let b = within_is_ok (first_beyond (flat_map (key_columns a.0) ks)) (within (first_beyond (flat_map (agg_columns a.0) gs)) (sized s (length ks + length gs))) n a.2 in
    let c = within_is_ok (first_beyond (flat_map (agg_columns a.0) gs)) (sized s (length ks + length gs)) n b.1 in
    let f = sized_is_ok s (length ks + length gs) n c.1 in
    (a.0, checked_typed r scope d a.0 a.1, keys_none a.0 ks b.0, aggs_none a.0 gs c.0, f.1 ∙ (λ i. sym (length-map ks (λ k. k.index)) i + sym (length-map gs plain_agg) i), subst IsArity (sym f.1) f.0)
checked_typed (RelTree.distinct s r) scope d n h = checked_typed r scope d n h
checked_typed (RelTree.loop s w t k u x r b) scope d n h =
    let turned = λ (m : ℕ) (j : ℕ). cond (nat_eq j m) (Ok m) (Err (fault BODY_DIFFERS (span_of b))) in
    let bound = λ (m : ℕ). unless_taken (lookup scope x) (fault NAME_TAKEN u) (chain (verdict b (entry x m ∷ scope) (suc d)) (turned m)) in
    let a = test_is_ok (nat_le k max_turns) (cond (nat_lt d max_loops) (chain (verdict r scope d) bound) (Err (fault TOO_DEEP s))) (fault TOO_MANY_TURNS t) n h in
    let c = test_is_ok (nat_lt d max_loops) (chain (verdict r scope d) bound) (fault TOO_DEEP s) n a.1 in
    let e = chain_is_ok (verdict r scope d) bound n c.1 in
    let f = unless_is_ok (lookup scope x) (fault NAME_TAKEN u) (chain (verdict b (entry x e.0 ∷ scope) (suc d)) (turned e.0)) n e.2 in
    let g = chain_is_ok (verdict b (entry x e.0 ∷ scope) (suc d)) (turned e.0) n f.1 in
    let i = test_is_ok (nat_eq g.0 e.0) (Ok e.0) (fault BODY_DIFFERS (span_of b)) n g.2 in
    let j : e.0 ≡ n = cc in
    let l = eqb-true g.0 e.0 i.0 in (
      leb-true k max_turns a.0,
      ltb-true d max_loops c.0,
      checked_typed r scope d n (e.1 ∙ ap Ok j),
      f.0,
      checked_typed b (entry x n ∷ scope) (suc d) n (subst (λ m. verdict b (entry x m ∷ scope) (suc d) ≡ Ok m) j (g.1 ∙ ap Ok l)),
    )
