-- What is sent is what the kind's equation makes.
use Rattle.std.proofs.Common.{◌≡◌, ℕ, zero, suc, ◌+◌, ◌<◌, ◌==◌, nat_lt, nat_eq, Bool, true, cond, ◌&&◌, List, [], ◌++◌, map, flat_map, Some, refl, sym, ap, ◌∙◌, arith, append-nil}
use Rattle.std.proofs.lemmas.Bool.Decides.{Decides-eqb}
use Rattle.std.specs.Cmp.Lexicographic.{pointwise_decides}
use Rattle.expr_tree.specs.Plain.{plain_pair}
use Rattle.semantics.specs.Kinds.{Kind}
use Rattle.semantics.specs.Meaning.{selected, kept, paired, grouped, only_left, in_both}
use Rattle.semantics.specs.Multiset.{Record, ◌≈◌, each_once}
use Rattle.semantics.specs.Query.{Scalar, Cond, Pair, Agg}
use Rattle.semantics.specs.Shard.{Absorbed, SendsAtNotification, only_at}
use Rattle.semantics.specs.Time.{Time, earlier_turns, last, same_time, same_counters}
use Rattle.semantics.specs.Op.{op, reads}
use Rattle.semantics.proofs.OneFlow.{cond_same}
use Rattle.semantics.proofs.MultisetSums.{≈-trans, ≈-from}
use Rattle.vertices.specs.Joins.{join_records, other_port}
use Rattle.vertices.specs.Outs.{records_of, sent, SendsFor}
use Rattle.vertices.specs.declared.join_plan.JoinPlan.{JoinPlan}
use Rattle.vertices.specs.declared.out.Out.{Out}

-- ---- without a state

pub at_zero : (p : ℕ) (records : List Record) → p < 1 → only_at p records 0 ≡ records
at_zero zero records h = refl
at_zero (suc p) records h = absurd (omega (arith, h))

at_either : (p : ℕ) (records : List Record) → p < 2 → only_at p records 0 ++ only_at p records 1 ≡ records
at_either zero records h = append-nil records
at_either (suc zero) records h = refl
at_either (suc (suc p)) records h = absurd (omega (arith, h))

pub select_sends : (ss : List Scalar) (t : Time) (a : Absorbed) (batch : List Record) (out : Out) → records_of out.first ≈ selected ss batch → SendsFor (Kind.select ss) t a 0 batch out
select_sends ss t a batch out e q = e

pub filter_sends : (c : Cond) (t : Time) (a : Absorbed) (batch : List Record) (out : Out) → records_of out.first ≡ kept c batch → SendsFor (Kind.filter c) t a 0 batch out
filter_sends c t a batch out e q = ≈-from (e)

pub concat_sends : (t : Time) (a : Absorbed) (p : ℕ) (batch : List Record) (out : Out) → p < 2 → out.first ≡ Some batch → SendsFor Kind.concat t a p batch out
concat_sends t a p batch out h e q = ≈-from (ap records_of e ∙ sym (at_either p batch h))

pub ingress_sends : (t : Time) (a : Absorbed) (p : ℕ) (batch : List Record) (out : Out) → p < 1 → out.first ≡ Some batch → SendsFor Kind.ingress t a p batch out
ingress_sends t a p batch out h e q = ≈-from (ap records_of e ∙ sym (at_zero p batch h))

pub egress_sends : (t : Time) (a : Absorbed) (p : ℕ) (batch : List Record) (out : Out) → p < 1 → out.first ≡ Some batch → SendsFor Kind.egress t a p batch out
egress_sends t a p batch out h e q = ≈-from (ap records_of e ∙ sym (at_zero p batch h))

pub feedback_sends : (t : Time) (a : Absorbed) (p : ℕ) (batch : List Record) (out : Out) → p < 1 → out.first ≡ Some batch → SendsFor Kind.feedback t a p batch out
feedback_sends t a p batch out h e q = ≈-from (ap records_of e ∙ sym (at_zero p batch h))

-- a batch that is sent on, by kind
pub ruleset same_sends = (concat_sends, ingress_sends, egress_sends, feedback_sends)

pub gate_sends : (n : ℕ) (t : Time) (a : Absorbed) (batch : List Record) (out : Out) → records_of out.first ≡ cond (nat_lt (last t.counters) n) batch [] → records_of out.second ≡ cond (nat_eq (last t.counters) n) batch [] → SendsFor (Kind.gate n) t a 0 batch out
gate_sends n t a batch out e f zero = ≈-from e
gate_sends n t a batch out e f (suc q) = ≈-from f

pub hold_sends : (n : ℕ) (t : Time) (a : Absorbed) (batch : List Record) (out : Out) → records_of out.first ≡ cond (nat_lt (last t.counters) n) batch [] → records_of out.second ≡ cond (nat_lt (last t.counters + 1) n) batch [] → SendsFor (Kind.hold n) t a 0 batch out
hold_sends n t a batch out e f zero = ≈-from e
hold_sends n t a batch out e f (suc q) = ≈-from f

-- ---- with a state

pub same_time_refl : (t : Time) → same_time t t ≡ true
same_time_refl t = both (nat_eq t.epoch t.epoch) (same_counters t.counters t.counters) ((Decides-eqb t.epoch t.epoch).1 refl) ((pointwise_decides (λ x y. Decides-eqb x y) t.counters t.counters).1 refl)
  where
    both : (x y : Bool) → x ≡ true → y ≡ true → x && y ≡ true
    both x y e f = ap (λ z. z && y) e ∙ f

-- at the port and time at which records came
there : (a : Absorbed) (p : ℕ) (t : Time) (batch : List Record) → a p t ++ cond (same_time t t) batch [] ≡ a p t ++ batch
there a p t batch = ap (λ b. a p t ++ cond b batch []) (same_time_refl t)

pub distinct_sends : (t : Time) (a : Absorbed) (batch : List Record) (out : Out) → (records_of out.first ++ each_once (a 0 t)) ≈ each_once (a 0 t ++ batch) → SendsFor Kind.distinct t a 0 batch out
distinct_sends t a batch out h q = ≈-trans h (≈-from (ap each_once (sym (there a 0 t batch))))

left_sends : (ps : List Pair) (t : Time) (a : Absorbed) (batch : List Record) (out : Out) → (records_of out.first ++ paired ps (a 0 t) (a 1 t)) ≈ paired ps (a 0 t ++ batch) (a 1 t) → SendsFor (Kind.join ps) t a 0 batch out
left_sends ps t a batch out h q = ≈-trans h (≈-from (λ j. paired ps (sym (there a 0 t batch) j) (sym (append-nil (a 1 t)) j)))

right_sends : (ps : List Pair) (t : Time) (a : Absorbed) (batch : List Record) (out : Out) → (records_of out.first ++ paired ps (a 0 t) (a 1 t)) ≈ paired ps (a 0 t) (a 1 t ++ batch) → SendsFor (Kind.join ps) t a 1 batch out
right_sends ps t a batch out h q = ≈-trans h (≈-from (λ j. paired ps (sym (append-nil (a 0 t)) j) (sym (there a 1 t batch) j)))

pub join_sends : (plan : JoinPlan) (t : Time) (a : Absorbed) (p : ℕ) (batch : List Record) (out : Out) → p < 2 → (records_of out.first ++ join_records plan p (a p t) (a (other_port p) t)) ≈ join_records plan p (a p t ++ batch) (a (other_port p) t) → SendsFor (Kind.join (map plain_pair plan.pairs.items)) t a p batch out
join_sends plan t a zero batch out h e = left_sends (map plain_pair plan.pairs.items) t a batch out e
join_sends plan t a (suc zero) batch out h e = right_sends (map plain_pair plan.pairs.items) t a batch out e
join_sends plan t a (suc (suc p)) batch out h e = absurd (omega (arith, h))

pub group_notified : (ks : List ℕ) (as' : List Agg) (t : Time) (a : Absorbed) (out : Out) → records_of out.first ≈ grouped ks as' (a 0 t) → SendsAtNotification (λ q ins. op (Kind.group ks as') t ins q) (λ p. a p t) (sent 1 out)
group_notified ks as' t a out h q = h

pub intersect_sends : (t : Time) (a : Absorbed) (p : ℕ) (batch : List Record) (out : Out) → (records_of out.first ++ in_both (a 0 t) (a 1 t)) ≈ in_both (a 0 t ++ cond (p == 0) batch []) (a 1 t ++ cond (p == 1) batch []) → SendsFor Kind.intersect t a p batch out
intersect_sends t a p batch out h q = ≈-trans h (≈-from (λ j. in_both (a 0 t ++ cond (p == 0) (then j) []) (a 1 t ++ cond (p == 1) (then j) [])))
  where
    then : batch ≡ cond (same_time t t) batch []
    then = sym (ap (λ b. cond b batch []) (same_time_refl t))

pub except_notified : (t : Time) (a : Absorbed) (out : Out) → records_of out.first ≈ only_left (a 0 t) (a 1 t) → SendsAtNotification (λ q ins. op Kind.except t ins q) (λ p. a p t) (sent 1 out)
except_notified t a out h q = h

pub unseen_notified : (n : ℕ) (t : Time) (a : Absorbed) (out : Out) (rows : List Record) → rows ≈ only_left (a 0 t) (flat_map (a 0) (earlier_turns t)) → records_of out.first ≡ cond (nat_lt (last t.counters) n) rows [] → records_of out.second ≡ rows
    → SendsAtNotification (λ q ins. op (Kind.unseen n) t ins q) (reads (Kind.unseen n) a t) (sent 2 out)
unseen_notified n t a out rows h e f zero = ≈-trans (≈-from e) (cond_same (nat_lt (last t.counters) n) rows (only_left (a 0 t) (flat_map (a 0) (earlier_turns t))) h)
unseen_notified n t a out rows h e f (suc q) = ≈-trans (≈-from f) h
