-- What is kept and sent fits, or some of it is too often.
use Rattle.std.proofs.Common.{◌≡◌, ℕ, zero, suc, ◌<◌, ◌≤◌, Bool, true, false, cond, List, [], Some, None, subst, sym, ap, arith, ◌∙◌, Result, ◌↔◌}
use Rattle.std.specs.Prelude.{Option, IfErr}
use Rattle.std.proofs.lemmas.Result.{IfErr-weaker}
use Rattle.rows.specs.Counts.{AllFit, AreRunCounts, AreRuns, IsOver, Run, expanded, rows_of, runs}
use Rattle.rows.specs.Indexes.{AreDifferent}
use Rattle.rows.specs.declared.fault.WorkFault.{WorkFault}
use Rattle.rows.proofs.Runs.{all_fit, are_runs}
use Rattle.semantics.specs.Kinds.{Kind, in_ports}
use Rattle.semantics.specs.Meaning.{selected}
use Rattle.semantics.specs.Multiset.{Record}
use Rattle.semantics.specs.Query.{Scalar}
use Rattle.semantics.specs.Time.{Time}
use Rattle.semantics.specs.Shard.{Absorbed}
use Rattle.semantics.proofs.MultisetSums.{≈-refl}
use Rattle.vertices.specs.Outs.{WouldSendOver, records_of, sent}
use Rattle.rows.specs.declared.fault.WorkFault.TheVariants.{Count, NoMemory}

-- ---- what fits

pub nothing_fits : AllFit []
nothing_fits r = omega arith

pub batch_fits : (batch : List Record) → AreRuns (runs batch) → expanded (runs batch) ≡ batch → AllFit batch
batch_fits batch h e = subst AllFit e (all_fit (runs batch) h)

-- what is sent by a port
pub none_sent : (o : Option (List Record)) → o ≡ None → AllFit (records_of o)
none_sent o e = subst (λ p. AllFit (records_of p)) (sym e) nothing_fits

pub batch_sent : (o : Option (List Record)) (batch : List Record) → AreRuns (runs batch) → expanded (runs batch) ≡ batch → o ≡ Some batch → AllFit (records_of o)
batch_sent o batch h f e = subst (λ p. AllFit (records_of p)) (sym e) (batch_fits batch h f)

pub counted_sent : (o : Option (List Record)) (cs : List Run) → AreDifferent (rows_of cs) → AreRunCounts cs → records_of o ≡ expanded cs → AllFit (records_of o)
counted_sent o cs d h e = subst AllFit (sym e) (all_fit cs (are_runs cs d h))

-- all of what fits, or none of it
pub all_or_none : (b : Bool) (o : Option (List Record)) (xs : List Record) → AllFit xs → records_of o ≡ cond b xs [] → AllFit (records_of o)
all_or_none true o xs h e = subst AllFit (sym e) h
all_or_none false o xs h e = subst AllFit (sym e) nothing_fits

-- by two ports
pub both_sent : (first second : Option (List Record)) (asked : Bool) → AllFit (records_of first) → AllFit (records_of second) → (q : ℕ) → AllFit (sent 2 (record { first = first; second = second; asked = asked }) q)
both_sent first second asked h k zero = h
both_sent first second asked h k (suc q) = k

-- ---- what is too often

pub select_over : (ss : List Scalar) (t : Time) (a : Absorbed) (batch : List Record) → IsOver (selected ss batch) → WouldSendOver (Kind.select ss) t a 0 batch
select_over ss t a batch h = ((λ q. selected ss batch), (λ q. ≈-refl (selected ss batch)), 0, h)

-- ---- faults that are passed on

abbrev IsMemory : WorkFault → Type 0
IsMemory NoMemory = Unit {0}
IsMemory Count = ⊥

-- want of memory says nothing of counts
pub never_over : {T : Type 0} (r : Result T WorkFault) (Q : Type 0) → IfErr r (λ e. e ≡ NoMemory) → IfErr r (λ e. e ≡ Count → Q)
never_over r Q h = IfErr-weaker r _ _ (λ e n c. absurd (subst IsMemory (sym n ∙ c) tt)) h

pub passed_on : {T E : Type 0} (r : Result T E) (f : E) (P : E → Type 0) → IfErr r (λ e. e ≡ f) → P f → IfErr r P
passed_on r f P h p = IfErr-weaker r _ _ (λ e i. subst P (sym i) p) h

pub passed_never : {T : Type 0} (r : Result T WorkFault) (f : WorkFault) (Q : Type 0) → IfErr r (λ e. e ≡ f) → f ≡ NoMemory → IfErr r (λ e. e ≡ Count → Q)
passed_never r f Q h n = never_over r Q (IfErr-weaker r _ _ (λ e i. i ∙ n) h)

-- a count that is too large
pub count_passed : {T : Type 0} (r : Result T WorkFault) (f : WorkFault) (Q : Type 0) → IfErr r (λ e. e ≡ f) → (f ≡ Count → Q) → IfErr r (λ e. e ≡ Count → Q)
count_passed r f Q h q = passed_on r f (λ e. e ≡ Count → Q) h q

-- ---- ports

pub few_ports : (k : Kind) → in_ports k ≤ 2
few_ports Kind.input = omega arith
few_ports Kind.output = omega arith
few_ports (Kind.select ss) = omega arith
few_ports (Kind.filter c) = omega arith
few_ports Kind.concat = omega arith
few_ports (Kind.join ps) = omega arith
few_ports (Kind.lookup ps) = omega arith
few_ports (Kind.group ks as') = omega arith
few_ports Kind.distinct = omega arith
few_ports Kind.except = omega arith
few_ports Kind.intersect = omega arith
few_ports Kind.ingress = omega arith
few_ports Kind.egress = omega arith
few_ports Kind.feedback = omega arith
few_ports (Kind.gate n) = omega arith
few_ports (Kind.unseen n) = omega arith
few_ports (Kind.hold n) = omega arith

module _ {S : Type 0} (kind_of : S → Kind) where
  pub port_known : (s : S) (p : ℕ) → p < in_ports (kind_of s) → p < 2
  port_known s p h = let two = few_ports (kind_of s) in omega (arith, two, h)

  -- the port of what has one
  pub at_first : (P : S → ℕ → Type 0) (s t : S) (p : ℕ) → s ≡ t → p < in_ports (kind_of s) → in_ports (kind_of t) ≡ 1 → P t 0 → P s p
  at_first P s t p e h one there =
      let first : 0 ≡ p = (let same = ap (λ (u : S). in_ports (kind_of u)) e in omega (arith, same, h, one)) in
      subst (λ (u : S). P u p) (sym e) (subst (P t) first there)
