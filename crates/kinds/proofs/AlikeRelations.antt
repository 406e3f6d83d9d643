-- Relations and programs on alike records.
use Rattle.std.proofs.Common.{◌≡◌, ℕ, zero, suc, Bool, true, false, cond, List, [], ◌∷◌, ◌++◌, map, length, ℤ, Option, Some, None, slice_get, slice_index_or, refl, ap₂, subst, arith}
use Rattle.std.specs.Prelude.{option_and_then}
use Rattle.std.specs.List.{AllByRecursion}
use Rattle.std.proofs.lemmas.Option.{same_Some}
use Rattle.semantics.specs.Multiset.{Record}
use Rattle.semantics.specs.Meaning.{Names, bind, same_name, meaning, input_names, let_names, program_meaning, after_turns}
use Rattle.semantics.specs.Query.{Name, Rel, Loop, Input, Let, Output, Program}
use Rattle.kinds.specs.declared.kind.Kind.{Kind}
use Rattle.kinds.specs.declared.kind.Kind.TheVariants as kind
use Rattle.kinds.specs.Kinds.{scalar_kind, may_ask, agg_kind}
use Rattle.kinds.specs.Relations.{Scope, lookup, entry, all_of, merged, may_join, same_kinds, settled, rel_kinds, inputs_scope, rest_kinds, program_kinds}
use Rattle.kinds.specs.Renaming.{IsRenaming, renamed, renamed_field, renamed_inputs, HaveKinds}
use Rattle.kinds.proofs.Found.{then_found, test_found, all_cons}
use Rattle.kinds.proofs.Alike.{FieldAlike, Alike, left_alike, right_alike, equal_alike}
use Rattle.kinds.proofs.AlikeForms.{Both, kinds_both, append_both, once_both, left_both, both_sides, select_both, kept_both, paired_both, grouped_both, turns_both}

-- the list without its first items
abbrev from : {X : Type 0} → ℕ → List X → List X
from zero xs = xs
from (suc i) [] = []
from (suc i) (x ∷ xs) = from i xs

from_next : (i : ℕ) (kinds : List (List Kind)) (ks : List Kind) (ls : List (List Kind)) → from i kinds ≡ ks ∷ ls → (slice_index_or kinds i [] ≡ ks) × (from (suc i) kinds ≡ ls)
from_next zero [] ks ls e = absurd (cc)
from_next zero (x ∷ xs) ks ls e = (cc, cc)
from_next (suc i) [] ks ls e = absurd (cc)
from_next (suc i) (x ∷ xs) ks ls e = from_next i xs ks ls e

field_is : (new : ℤ → ℤ) (k : Kind) (z w : ℤ) → FieldAlike new k z w → w ≡ renamed_field new k z
field_is new kind.Text z w p = p
field_is new (kind.Number a) z w p = p

renamed_kind : (new : ℤ → ℤ) (k : Kind) (z : ℤ) → FieldAlike new k z (renamed_field new k z)
renamed_kind new kind.Text z = refl
renamed_kind new (kind.Number a) z = refl

module _ (named : List ℤ) (new : ℤ → ℤ) (renaming : IsRenaming named new) where
  -- each name in scope means alike records
  abbrev pub NamesAlike : Scope → Names → Names → Type 0
  NamesAlike scope names names' = (x : Name) (ks : List Kind) → lookup scope x ≡ Some ks → Both new ks (names x) (names' x)

  pub bind_alike : (scope : Scope) (names names' : Names) → NamesAlike scope names names' → (x : Name) (ks : List Kind) (xs xs' : List Record) → Both new ks xs xs' → NamesAlike (entry x ks ∷ scope) (bind x xs names) (bind x xs' names')
  bind_alike scope names names' h x ks xs xs' p y ls e = go (same_name x y) e
    where
      go : (b : Bool) → cond b (Some ks) (lookup scope y) ≡ Some ls → Both new ls (cond b xs (names y)) (cond b xs' (names' y))
      go true k = subst (λ l. Both new l xs xs') (same_Some ks ls k) p
      go false k = h y ls k

  merged_both : (ks ls ms : List Kind) → merged ks ls ≡ Some ms → (xs xs' ys ys' : List Record) → Both new ks xs xs' → Both new ls ys ys' → Both new ms xs xs' × Both new ms ys ys'
  merged_both ks ls ms e xs xs' ys ys' p q =
      (kinds_both named new renaming ks ms (left_alike named new renaming ks ls ms e) xs xs' p, kinds_both named new renaming ls ms (right_alike named new renaming ks ls ms e) ys ys' q)

  loop_both : (l : Loop) (n : ℕ) (ks ms : List Kind) (turn : List Kind → Option (List Kind)) (f f' : List Record → List Record) → ((ls os : List Kind) → turn ls ≡ Some os → (xs xs' : List Record) → Both new ls xs xs' → Both new os (f xs) (f' xs')) → settled ks turn ≡ Some ms → (xs xs' : List Record) → Both new ks xs xs' → Both new ms (after_turns l f n xs) (after_turns l f' n xs')
  loop_both l n ks ms turn f f' body e xs xs' p =
      let first = then_found (λ ls. option_and_then (λ ms'. option_and_then (λ ns. option_and_then (λ os. cond (same_kinds os ms') (Some ms') None) (merged ms' ns)) (turn ms')) (merged ks ls)) (turn ks) ms e in
      let wide = then_found (λ ms'. option_and_then (λ ns. option_and_then (λ os. cond (same_kinds os ms') (Some ms') None) (merged ms' ns)) (turn ms')) (merged ks first.0) ms first.2 in
      let next = then_found (λ ns. option_and_then (λ os. cond (same_kinds os wide.0) (Some wide.0) None) (merged wide.0 ns)) (turn wide.0) ms wide.2 in
      let last = then_found (λ os. cond (same_kinds os wide.0) (Some wide.0) None) (merged wide.0 next.0) ms next.2 in
      let same = test_found (same_kinds last.0 wide.0) wide.0 ms last.2 in
      let at_start : Both new wide.0 xs xs' = kinds_both named new renaming ks wide.0 (left_alike named new renaming ks first.0 wide.0 wide.1) xs xs' p in
      subst (λ o. Both new o (after_turns l f n xs) (after_turns l f' n xs')) same.1
      (turns_both named new renaming wide.0 l f f'
      (λ ys ys' q. kinds_both named new renaming last.0 wide.0 (equal_alike named new renaming last.0 wide.0 same.0) (f ys) (f' ys')
      (kinds_both named new renaming next.0 last.0 (right_alike named new renaming wide.0 next.0 last.0 last.1) (f ys) (f' ys') (body wide.0 next.0 next.1 ys ys' q))) n xs xs' at_start)

  pub rel_both : (r : Rel) (scope : Scope) (ks : List Kind) → rel_kinds named r scope ≡ Some ks → (names names' : Names) → NamesAlike scope names names' → Both new ks (meaning r names) (meaning r names')
  unfolding meaning
  rel_both (Rel.named x) scope ks e names names' h = h x ks e
  rel_both (Rel.select r ss) scope ks e names names' h =
      let x = then_found (λ ls. all_of (map (scalar_kind ls) ss)) (rel_kinds named r scope) ks e in
      select_both named new renaming x.0 ss ks x.2 (meaning r names) (meaning r names') (rel_both r scope x.0 x.1 names names' h)
  rel_both (Rel.filter r c) scope ks e names names' h =
      let x = then_found (λ ls. cond (may_ask named ls c) (Some ls) None) (rel_kinds named r scope) ks e in
      let t = test_found (may_ask named x.0 c) x.0 ks x.2 in
      subst (λ l. Both new l (meaning (Rel.filter r c) names) (meaning (Rel.filter r c) names')) t.1 (kept_both named new renaming x.0 c t.0 (meaning r names) (meaning r names') (rel_both r scope x.0 x.1 names names' h))
  rel_both (Rel.concat p q) scope ks e names names' h =
      let x = then_found (λ ls. option_and_then (merged ls) (rel_kinds named q scope)) (rel_kinds named p scope) ks e in
      let y = then_found (merged x.0) (rel_kinds named q scope) ks x.2 in
      let b = merged_both x.0 y.0 ks y.2 (meaning p names) (meaning p names') (meaning q names) (meaning q names') (rel_both p scope x.0 x.1 names names' h) (rel_both q scope y.0 y.1 names names' h) in
      append_both named new renaming ks (meaning p names) (meaning p names') (meaning q names) (meaning q names') b.0 b.1
  rel_both (Rel.join p q ps) scope ks e names names' h =
      let x = then_found (λ as'. option_and_then (λ bs. cond (may_join as' bs ps) (Some (as' ++ bs)) None) (rel_kinds named q scope)) (rel_kinds named p scope) ks e in
      let y = then_found (λ bs. cond (may_join x.0 bs ps) (Some (x.0 ++ bs)) None) (rel_kinds named q scope) ks x.2 in
      let t = test_found (may_join x.0 y.0 ps) (x.0 ++ y.0) ks y.2 in
      subst (λ l. Both new l (meaning (Rel.join p q ps) names) (meaning (Rel.join p q ps) names')) t.1
      (paired_both named new renaming x.0 y.0 ps t.0 (meaning p names) (meaning p names') (meaning q names) (meaning q names') (rel_both p scope x.0 x.1 names names' h) (rel_both q scope y.0 y.1 names names' h))
  rel_both (Rel.group r cs as') scope ks e names names' h =
      let x = then_found (λ ls. all_of (map (slice_get ls) cs ++ map (agg_kind ls) as')) (rel_kinds named r scope) ks e in
      grouped_both named new renaming x.0 cs as' ks x.2 (meaning r names) (meaning r names') (rel_both r scope x.0 x.1 names names' h)
  rel_both (Rel.distinct r) scope ks e names names' h = once_both named new renaming ks (meaning r names) (meaning r names') (rel_both r scope ks e names names' h)
  rel_both (Rel.except p q) scope ks e names names' h =
      let x = then_found (λ ls. option_and_then (merged ls) (rel_kinds named q scope)) (rel_kinds named p scope) ks e in
      let y = then_found (merged x.0) (rel_kinds named q scope) ks x.2 in
      let b = merged_both x.0 y.0 ks y.2 (meaning p names) (meaning p names') (meaning q names) (meaning q names') (rel_both p scope x.0 x.1 names names' h) (rel_both q scope y.0 y.1 names names' h) in
      left_both named new renaming ks (meaning p names) (meaning p names') (meaning q names) (meaning q names') b.0 b.1
  rel_both (Rel.intersect p q) scope ks e names names' h =
      let x = then_found (λ ls. option_and_then (merged ls) (rel_kinds named q scope)) (rel_kinds named p scope) ks e in
      let y = then_found (merged x.0) (rel_kinds named q scope) ks x.2 in
      let b = merged_both x.0 y.0 ks y.2 (meaning p names) (meaning p names') (meaning q names) (meaning q names') (rel_both p scope x.0 x.1 names names' h) (rel_both q scope y.0 y.1 names names' h) in
      both_sides named new renaming ks (meaning p names) (meaning p names') (meaning q names) (meaning q names') b.0 b.1
  rel_both (Rel.loop l n x r b) scope ks e names names' h =
      let s = then_found (λ ls. settled ls (λ ms. rel_kinds named b (entry x ms ∷ scope))) (rel_kinds named r scope) ks e in
      loop_both l n s.0 ks (λ ms. rel_kinds named b (entry x ms ∷ scope)) (λ xs. meaning b (bind x xs names)) (λ xs. meaning b (bind x xs names'))
      (λ ls os f xs xs' p. rel_both b (entry x ls ∷ scope) os f (bind x xs names) (bind x xs' names') (bind_alike scope names names' h x ls xs xs' p)) s.2
      (meaning r names) (meaning r names') (rel_both r scope s.0 s.1 names names' h)

  -- ---- programs

  -- the records of each input are alike, from the number i on
  abbrev InputsAlike : List (List Kind) → ℕ → (ℕ → List Record) → (ℕ → List Record) → Type 0
  InputsAlike [] i records records' = Unit {0}
  InputsAlike (ks ∷ kinds) i records records' = Both new ks (records i) (records' i) × InputsAlike kinds (suc i) records records'

  inputs_alike : (is : List Input) (kinds : List (List Kind)) (i : ℕ) (records records' : ℕ → List Record) → InputsAlike kinds i records records' → NamesAlike (inputs_scope is kinds) (input_names is i records) (input_names is i records')
  inputs_alike [] kinds i records records' h x ks e = absurd (cc)
  inputs_alike (a ∷ is) [] i records records' h x ks e = absurd (cc)
  inputs_alike (a ∷ is) (ls ∷ kinds) i records records' h x ks e =
      bind_alike (inputs_scope is kinds) (λ y. input_names is (suc i) records y) (λ y. input_names is (suc i) records' y) (inputs_alike is kinds (suc i) records records' h.1) a.name ls (records i) (records' i) h.0 x ks e

  outputs_both : (os : List Output) (scope : Scope) (outs : List (List Kind)) → all_of (map (λ (o : Output). rel_kinds named o.value scope) os) ≡ Some outs → (names names' : Names) → NamesAlike scope names names' → (k : ℕ) → Both new (slice_index_or outs k []) (slice_index_or (map (λ (o : Output). meaning o.value names) os) k []) (slice_index_or (map (λ (o : Output). meaning o.value names') os) k [])
  outputs_both [] scope outs e names names' h k = subst (λ (os : List (List Kind)). Both new (slice_index_or os k []) [] []) (same_Some [] outs e) tt
  outputs_both (o ∷ os) scope outs e names names' h zero =
      let c = all_cons (rel_kinds named o.value scope) (map (λ (p : Output). rel_kinds named p.value scope) os) outs e in
      subst (λ (ns : List (List Kind)). Both new (slice_index_or ns zero []) (meaning o.value names) (meaning o.value names')) c.4 (rel_both o.value scope c.0 c.2 names names' h)
  outputs_both (o ∷ os) scope outs e names names' h (suc k) =
      let c = all_cons (rel_kinds named o.value scope) (map (λ (p : Output). rel_kinds named p.value scope) os) outs e in
      subst (λ (ns : List (List Kind)). Both new (slice_index_or ns (suc k) []) (slice_index_or (map (λ (p : Output). meaning p.value names) os) k []) (slice_index_or (map (λ (p : Output). meaning p.value names') os) k [])) c.4 (outputs_both os scope c.1 c.3 names names' h k)

  rest_both : (ls : List Let) (os : List Output) (scope : Scope) (outs : List (List Kind)) → rest_kinds named scope ls os ≡ Some outs → (names names' : Names) → NamesAlike scope names names' → (k : ℕ) → Both new (slice_index_or outs k []) (slice_index_or (map (λ (o : Output). meaning o.value (let_names ls names)) os) k []) (slice_index_or (map (λ (o : Output). meaning o.value (let_names ls names')) os) k [])
  unfolding let_names
  rest_both [] os scope outs e names names' h k = outputs_both os scope outs e names names' h k
  rest_both (l ∷ ls) os scope outs e names names' h k =
      let x = then_found (λ ks. rest_kinds named (entry l.name ks ∷ scope) ls os) (rel_kinds named l.value scope) outs e in
      rest_both ls os (entry l.name x.0 ∷ scope) outs x.2 (bind l.name (meaning l.value names) names) (bind l.name (meaning l.value names') names')
      (bind_alike scope names names' h l.name x.0 (meaning l.value names) (meaning l.value names') (rel_both l.value scope x.0 x.1 names names' h)) k

  program_both : (p : Program) (kinds outs : List (List Kind)) → program_kinds named p kinds ≡ Some outs → (records records' : ℕ → List Record) → InputsAlike kinds 0 records records' → (k : ℕ) → Both new (slice_index_or outs k []) (program_meaning p k records) (program_meaning p k records')
  unfolding program_meaning
  program_both p kinds outs e records records' h k =
      rest_both p.lets p.outputs (inputs_scope p.inputs kinds) outs e (input_names p.inputs 0 records) (input_names p.inputs 0 records') (inputs_alike p.inputs kinds 0 records records' h) k

  -- ---- renamed records are alike, and only they

  record_is : (ks : List Kind) (r r' : Record) → Alike new ks r r' → r' ≡ renamed new ks r
  record_is [] [] [] p = refl
  record_is (k ∷ ks) (z ∷ r) (w ∷ s) p = ap₂ (λ x y. x ∷ y) (field_is new k z w p.0) (record_is ks r s p.1)
  record_is [] [] (w ∷ s) p = absurd p
  record_is [] (z ∷ r) s p = absurd p
  record_is (k ∷ ks) [] s p = absurd p
  record_is (k ∷ ks) (z ∷ r) [] p = absurd p

  records_are : (ks : List Kind) (xs xs' : List Record) → Both new ks xs xs' → xs' ≡ map (renamed new ks) xs
  records_are ks [] [] p = refl
  records_are ks (x ∷ xs) (x' ∷ xs') p = ap₂ (λ y ys. y ∷ ys) (record_is ks x x' p.0) (records_are ks xs xs' p.1)
  records_are ks [] (x' ∷ xs') p = absurd p
  records_are ks (x ∷ xs) [] p = absurd p

  renamed_record : (ks : List Kind) (r : Record) → length r ≡ length ks → Alike new ks r (renamed new ks r)
  renamed_record [] [] e = tt
  renamed_record (k ∷ ks) (z ∷ r) e = (renamed_kind new k z, renamed_record ks r (omega (arith, e)))
  renamed_record [] (z ∷ r) e = absurd (omega (arith, e))
  renamed_record (k ∷ ks) [] e = absurd (omega (arith, e))

  renamed_records : (ks : List Kind) (xs : List Record) → AllByRecursion (λ (r : Record). length r ≡ length ks) xs → Both new ks xs (map (renamed new ks) xs)
  renamed_records ks [] p = tt
  renamed_records ks (x ∷ xs) p = (renamed_record ks x p.0, renamed_records ks xs p.1)

  renamed_from : (kinds : List (List Kind)) (records : ℕ → List Record) → HaveKinds kinds records → (i : ℕ) (ls : List (List Kind)) → from i kinds ≡ ls → InputsAlike ls i records (renamed_inputs new kinds records)
  renamed_from kinds records h i [] e = tt
  renamed_from kinds records h i (ks ∷ ls) e =
      let f = from_next i kinds ks ls e in
      (subst (λ l. Both new l (records i) (map (renamed new (slice_index_or kinds i [])) (records i))) f.0 (renamed_records (slice_index_or kinds i []) (records i) (h i)), renamed_from kinds records h (suc i) ls f.1)

-- other numbers for texts come out where they went in, and nothing else changes
pub renaming_keeps : (named : List ℤ) (p : Program) (kinds outs : List (List Kind)) (new : ℤ → ℤ) (records : ℕ → List Record) (output : ℕ) → program_kinds named p kinds ≡ Some outs → IsRenaming named new → HaveKinds kinds records → program_meaning p output (renamed_inputs new kinds records) ≡ map (renamed new (slice_index_or outs output [])) (program_meaning p output records)
renaming_keeps named p kinds outs new records output e renaming have =
    records_are named new renaming (slice_index_or outs output []) (program_meaning p output records) (program_meaning p output (renamed_inputs new kinds records))
    (program_both named new renaming p kinds outs e records (renamed_inputs new kinds records) (renamed_from named new renaming kinds records have 0 kinds refl) output)
