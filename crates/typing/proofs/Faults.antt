-- A relation has a first fault exactly where the checks report it.
use Rattle.std.proofs.Common.{◌≡◌, ℕ, suc, ◌+◌, cond, nat_lt, nat_le, nat_eq, ◌∷◌, length, flat_map, Ok, Err, ap, subst}
use Rattle.std.proofs.lemmas.Bool.{ltb-true, lt-ltb, leb-true, le-leb, leb-false, ltb-false}
use Rattle.expr_tree.specs.Trees.{RelTree}
use Rattle.semantics.specs.Limits.{max_turns, max_loops}
use Rattle.semantics.specs.Typing.{Scope, lookup, entry}
use Rattle.typing.specs.declared.refusals.TheConstants.{UNKNOWN_NAME, NAME_TAKEN, ARITIES_DIFFER, BODY_DIFFERS, TOO_MANY_TURNS, TOO_DEEP}
use Rattle.typing.specs.Columns.{scalar_columns, cond_columns, pair_columns, key_columns, agg_columns, first_beyond}
use Rattle.typing.specs.Fault.{Fault, fault, span_of}
use Rattle.typing.specs.FirstFault.{FaultIn}
use Rattle.typing.specs.Verdict.{chain, within, unless_taken, known, sized, verdict}
use Rattle.typing.proofs.Chains.{chain_is_err, within_is_err, unless_is_err, test_is_err, known_is_err, sized_is_err, arity_false, differ_false, above_false, least_false, false_differ}
use Rattle.typing.proofs.DecidedArities.{typed_checked, checked_typed}

-- a first fault is reported
pub fault_checked : {r : RelTree} {scope : Scope} {d : ℕ} {f : Fault} → FaultIn r scope d f → verdict r scope d ≡ Err f
fault_checked (FaultIn.unknown {s = s} h) = ap (λ o. known o s) h
fault_checked (FaultIn.select_part p) = rw (fault_checked p)
fault_checked (FaultIn.select_column {r = r} {scope = scope} {d = d} m h e) = rw (typed_checked r scope d m h, e)
fault_checked (FaultIn.select_arity {r = r} {ts = ts} {scope = scope} {d = d} m h e k) = rw (typed_checked r scope d m h, e, arity_false (length ts) k)
fault_checked (FaultIn.filter_part p) = rw (fault_checked p)
fault_checked (FaultIn.filter_column {r = r} {scope = scope} {d = d} m h e) = rw (typed_checked r scope d m h, e)
fault_checked (FaultIn.set_left p) = rw (fault_checked p)
fault_checked (FaultIn.set_right {p = q} {scope = scope} {d = d} l h p) = rw (typed_checked q scope d l h, fault_checked p)
fault_checked (FaultIn.set_arity {p = p} {q = q} {scope = scope} {d = d} l m h k e) = rw (typed_checked p scope d l h, typed_checked q scope d m k, differ_false l m e)
fault_checked (FaultIn.join_left p) = rw (fault_checked p)
fault_checked (FaultIn.join_right {p = q} {scope = scope} {d = d} l h p) = rw (typed_checked q scope d l h, fault_checked p)
fault_checked (FaultIn.join_column {p = p} {q = q} {scope = scope} {d = d} l m h k e) = rw (typed_checked p scope d l h, typed_checked q scope d m k, e)
fault_checked (FaultIn.join_arity {p = p} {q = q} {scope = scope} {d = d} l m h k e i) = rw (typed_checked p scope d l h, typed_checked q scope d m k, e, arity_false (l + m) i)
fault_checked (FaultIn.group_part p) = rw (fault_checked p)
fault_checked (FaultIn.group_key {r = r} {scope = scope} {d = d} m h e) = rw (typed_checked r scope d m h, e)
fault_checked (FaultIn.group_column {r = r} {scope = scope} {d = d} m h e k) = rw (typed_checked r scope d m h, e, k)
fault_checked (FaultIn.group_arity {r = r} {ks = ks} {gs = gs} {scope = scope} {d = d} m h e k i) = rw (typed_checked r scope d m h, e, k, arity_false (length ks + length gs) i)
fault_checked (FaultIn.distinct_part p) = fault_checked p
fault_checked (FaultIn.loop_turns {n = n} h) = rw (above_false n max_turns h)
fault_checked (FaultIn.loop_depth {n = n} {d = d} h k) = rw (le-leb n max_turns h, least_false d max_loops k)
fault_checked (FaultIn.loop_start {n = n} {d = d} h k p) = rw (le-leb n max_turns h, lt-ltb d max_loops k, fault_checked p)
fault_checked (FaultIn.loop_variable {n = n} {r = r} {scope = scope} {d = d} m j h k i e) = rw (le-leb n max_turns h, lt-ltb d max_loops k, typed_checked r scope d m i, e)
fault_checked (FaultIn.loop_body {n = n} {r = r} {scope = scope} {d = d} m h k i e p) = rw (le-leb n max_turns h, lt-ltb d max_loops k, typed_checked r scope d m i, e, fault_checked p)
fault_checked (FaultIn.loop_arity {n = n} {x = x} {r = r} {b = b} {scope = scope} {d = d} m j h k i e a q) = rw (le-leb n max_turns h, lt-ltb d max_loops k, typed_checked r scope d m i, e, typed_checked b (entry x m ∷ scope) (suc d) j a, differ_false j m q)

at_fault : (r : RelTree) (scope : Scope) (d : ℕ) (f g : Fault) → g ≡ f → FaultIn r scope d g → FaultIn r scope d f
at_fault r scope d f g e h = subst (FaultIn r scope d) e h

-- a fault that is reported is the first
pub checked_fault : (r : RelTree) (scope : Scope) (d : ℕ) (f : Fault) → verdict r scope d ≡ Err f → FaultIn r scope d f
checked_fault (RelTree.named s x) scope d f h = let k = known_is_err (lookup scope x) s f h in at_fault (RelTree.named s x) scope d f (fault UNKNOWN_NAME s) k.1 (FaultIn.unknown k.0)
checked_fault (RelTree.select s r ts) scope d f h =
    let G = FaultIn (RelTree.select s r ts) scope d in
    let next = λ (m : ℕ). within (first_beyond (flat_map (scalar_columns m) ts)) (sized s (length ts)) in
    chain_is_err (verdict r scope d) next f (G f) h
    (λ e. FaultIn.select_part (checked_fault r scope d f e))
    (λ m e k. within_is_err (first_beyond (flat_map (scalar_columns m) ts)) (sized s (length ts)) f (G f) k
    (λ at b i. subst G i (FaultIn.select_column m (checked_typed r scope d m e) b))
    (λ b i. let j = sized_is_err s (length ts) f i in subst G j.1 (FaultIn.select_arity m (checked_typed r scope d m e) b j.0)))
checked_fault (RelTree.filter s r c) scope d f h =
    let G = FaultIn (RelTree.filter s r c) scope d in
    let next = λ (m : ℕ). within (first_beyond (cond_columns m c)) (Ok m) in
    chain_is_err (verdict r scope d) next f (G f) h
    (λ e. FaultIn.filter_part (checked_fault r scope d f e))
    (λ m e k. within_is_err (first_beyond (cond_columns m c)) (Ok m) f (G f) k
    (λ at b i. subst G i (FaultIn.filter_column m (checked_typed r scope d m e) b))
    (λ b i. absurd (cc)))
checked_fault (RelTree.set_operation s o p q) scope d f h =
    let G = FaultIn (RelTree.set_operation s o p q) scope d in
    let last = λ (l m : ℕ). cond (nat_eq l m) (Ok l) (Err (fault ARITIES_DIFFER s)) in
    chain_is_err (verdict p scope d) (λ l. chain (verdict q scope d) (last l)) f (G f) h
    (λ e. FaultIn.set_left (checked_fault p scope d f e))
    (λ l e k. chain_is_err (verdict q scope d) (last l) f (G f) k
    (λ i. FaultIn.set_right l (checked_typed p scope d l e) (checked_fault q scope d f i))
    (λ m i j. test_is_err (nat_eq l m) (Ok l) (fault ARITIES_DIFFER s) f (G f) j
    (λ a b. subst G b (FaultIn.set_arity l m (checked_typed p scope d l e) (checked_typed q scope d m i) (false_differ l m a)))
    (λ a b. absurd (cc))))
checked_fault (RelTree.join s p q ps) scope d f h =
    let G = FaultIn (RelTree.join s p q ps) scope d in
    let last = λ (l m : ℕ). within (first_beyond (flat_map (pair_columns l m) ps)) (sized s (l + m)) in
    chain_is_err (verdict p scope d) (λ l. chain (verdict q scope d) (last l)) f (G f) h
    (λ e. FaultIn.join_left (checked_fault p scope d f e))
    (λ l e k. chain_is_err (verdict q scope d) (last l) f (G f) k
    (λ i. FaultIn.join_right l (checked_typed p scope d l e) (checked_fault q scope d f i))
    (λ m i j. within_is_err (first_beyond (flat_map (pair_columns l m) ps)) (sized s (l + m)) f (G f) j
    (λ at a b. subst G b (FaultIn.join_column l m (checked_typed p scope d l e) (checked_typed q scope d m i) a))
    (λ a b. let c = sized_is_err s (l + m) f b in subst G c.1 (FaultIn.join_arity l m (checked_typed p scope d l e) (checked_typed q scope d m i) a c.0))))
checked_fault (RelTree.group s r ks gs) scope d f h =
    let G = FaultIn (RelTree.group s r ks gs) scope d in
    let last = λ (m : ℕ). within (first_beyond (flat_map (agg_columns m) gs)) (sized s (length ks + length gs)) in
    chain_is_err (verdict r scope d) (λ m. within (first_beyond (flat_map (key_columns m) ks)) (last m)) f (G f) h
    (λ e. FaultIn.group_part (checked_fault r scope d f e))
    (λ m e k. within_is_err (first_beyond (flat_map (key_columns m) ks)) (last m) f (G f) k
    (λ at a b. subst G b (FaultIn.group_key m (checked_typed r scope d m e) a))
    (λ a b. within_is_err (first_beyond (flat_map (agg_columns m) gs)) (sized s (length ks + length gs)) f (G f) b
    (λ at i j. subst G j (FaultIn.group_column m (checked_typed r scope d m e) a i))
    (λ i j. let c = sized_is_err s (length ks + length gs) f j in subst G c.1 (FaultIn.group_arity m (checked_typed r scope d m e) a i c.0))))
checked_fault (RelTree.distinct s r) scope d f h = FaultIn.distinct_part (checked_fault r scope d f h)
checked_fault (RelTree.loop s w t n u x r b) scope d f h =
    let G = FaultIn (RelTree.loop s w t n u x r b) scope d in
    let last = λ (m k : ℕ). cond (nat_eq k m) (Ok m) (Err (fault BODY_DIFFERS (span_of b))) in
    let inner = λ (m : ℕ). chain (verdict b (entry x m ∷ scope) (suc d)) (last m) in
    let next = λ (m : ℕ). unless_taken (lookup scope x) (fault NAME_TAKEN u) (inner m) in
    test_is_err (nat_le n max_turns) (cond (nat_lt d max_loops) (chain (verdict r scope d) next) (Err (fault TOO_DEEP s))) (fault TOO_MANY_TURNS t) f (G f) h
    (λ e k. subst G k (FaultIn.loop_turns (leb-false n max_turns e)))
    (λ few k. test_is_err (nat_lt d max_loops) (chain (verdict r scope d) next) (fault TOO_DEEP s) f (G f) k
    (λ e i. subst G i (FaultIn.loop_depth (leb-true n max_turns few) (ltb-false d max_loops e)))
    (λ shallow i. chain_is_err (verdict r scope d) next f (G f) i
    (λ e. FaultIn.loop_start (leb-true n max_turns few) (ltb-true d max_loops shallow) (checked_fault r scope d f e))
    (λ m e j. unless_is_err (lookup scope x) (fault NAME_TAKEN u) (inner m) f (G f) j
    (λ k a c. subst G c (FaultIn.loop_variable m k (leb-true n max_turns few) (ltb-true d max_loops shallow) (checked_typed r scope d m e) a))
    (λ free c. chain_is_err (verdict b (entry x m ∷ scope) (suc d)) (last m) f (G f) c
    (λ a. FaultIn.loop_body m (leb-true n max_turns few) (ltb-true d max_loops shallow) (checked_typed r scope d m e) free (checked_fault b (entry x m ∷ scope) (suc d) f a))
    (λ k a c. test_is_err (nat_eq k m) (Ok m) (fault BODY_DIFFERS (span_of b)) f (G f) c
    (λ no i. subst G i (FaultIn.loop_arity m k (leb-true n max_turns few) (ltb-true d max_loops shallow) (checked_typed r scope d m e) free (checked_typed b (entry x m ∷ scope) (suc d) k a) (false_differ k m no)))
    (λ yes i. absurd (cc)))))))
