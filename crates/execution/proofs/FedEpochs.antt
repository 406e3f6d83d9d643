-- One thread feeds epoch after epoch.
use Rattle.std.proofs.Common.{◌≡◌, ◌<◌, ◌≤◌, ◌+◌, ◌⊎◌, ◌∙◌, ◌++◌, ℕ, List, [], length, false, refl, sym, ap, subst, arith, inl, inr}
use Rattle.std.specs.Prelude.{Result, Ok, Err, OnOk}
use Rattle.std.proofs.lemmas.Bool.Decides.{eqb_tells}
use Rattle.semantics.specs.Multiset.{Record}
use Rattle.graph.specs.Shown.{GraphValue}
use Rattle.tokens.specs.declared.rule.Place.TheVariants.{Home}
use Rattle.board.specs.Promises.{IsOpening}
use Rattle.board.specs.Shown.{InputShown, Shown, records_at as shown_records, side_at}
use Rattle.collector.specs.ReadEpochs.{records_at}
use Rattle.collector.specs.declared.epochs.Epochs.{Epochs}
use Rattle.alone.specs.Rests.{IsFree}
use Rattle.alone.specs.Scenes.{AreFree, FeedsAll, Seals, Works, open_at}
use Rattle.alone.proofs.Moved.{opening_ready}
use Rattle.execution.specs.Fed.{fed_at}
use Rattle.execution.specs.Single.{IsFeeding}

pub on_ok : {T E P Q : Type 0} → (r : Result T E) → (P → Q) → OnOk r P → OnOk r Q
on_ok (Ok x) f p = f p
on_ok (Err e) f p = tt

-- the only worker is free
pub all_free : (s : Shown) → length s.sides ≡ 1 → s.stopped ≡ false → IsFree s 0 → AreFree s
all_free s one runs free = record { runs = runs; home = λ k l others. let same : 0 ≡ k = omega (arith, one, l) in subst (λ (j : ℕ). (side_at s j).place ≡ Home) same free.1 }

pub first_free : (s : Shown) → length s.sides ≡ 1 → AreFree s → IsFree s 0
first_free s one f = let l : 0 < length s.sides = omega (arith, one) in (l, f.home 0 l tt)

-- a new board was fed nothing
pub feeding_begins : (g : GraphValue) (n : ℕ) (s : Shown) (inputs : ℕ) (epochs : Epochs) → IsOpening g n s → IsFeeding s inputs epochs 0 0
feeding_begins g n s inputs epochs is = record {
  ready = opening_ready g n s is;
  fed = λ e i lt less. absurd (omega (arith, lt));
  here = λ i lt. absurd (omega (arith, lt));
  unfed = λ i e lt when. ap (λ (x : InputShown). shown_records x.fed e) (is.unfed i);
  opened = λ i lt. ap (λ (x : InputShown). x.open_epoch) (is.unfed i);
}

module _ (s t : Shown) (inputs : ℕ) (epochs : Epochs) (n : ℕ) where
  -- one more input was fed
  pub feeding_fed : (i : ℕ) (records : List Record) → records ≡ records_at epochs n i → i < inputs → IsFeeding s inputs epochs n i → FeedsAll s t i records → IsFeeding t inputs epochs n (i + 1)
  feeding_fed i records is there p f = record {
    ready = f.ready;
    fed = λ e j lt less. f.others j e (λ same at. let o = p.opened i there in omega (arith, lt, at, o)) ∙ p.fed e j lt less;
    here = λ j lt. elim (eqb_tells j i) [
      | inl same ↦ subst (λ (k : ℕ). fed_at t k n ≡ records_at epochs n k) (sym same.1) now
      | inr other ↦ f.others j n (λ same at. other.1 same) ∙ p.here j (let apart = other.1 in omega (arith, lt, apart))
    ];
    unfed = λ j e lt when. f.others j e (later j e when) ∙ p.unfed j e lt (before j e when);
    opened = λ j lt. f.opened j ∙ p.opened j lt;
  }
    where
      o : open_at s i ≡ n
      o = p.opened i there

      now : fed_at t i n ≡ records_at epochs n i
      now = subst (λ (k : ℕ). fed_at t i k ≡ fed_at s i k ++ records) o f.here ∙ ap (λ (xs : List Record). xs ++ records) (p.unfed i n there (inr (refl, omega arith))) ∙ is

      later : (j e : ℕ) → (n < e) ⊎ ((e ≡ n) × (i + 1 ≤ j)) → j ≡ i → e ≡ open_at s i → ⊥
      later j e (inl l) same at = omega (arith, l, at, o)
      later j e (inr (a, b)) same at = omega (arith, b, same)

      before : (j e : ℕ) → (n < e) ⊎ ((e ≡ n) × (i + 1 ≤ j)) → (n < e) ⊎ ((e ≡ n) × (i ≤ j))
      before j e (inl l) = inl l
      before j e (inr (a, b)) = inr (a, omega (arith, b))

  -- all inputs were sealed
  pub feeding_sealed : IsFeeding s inputs epochs n inputs → Seals s t inputs → IsFeeding t inputs epochs (n + 1) 0
  feeding_sealed p q = record {
    ready = q.ready;
    fed = λ e j lt less. q.fed j e ∙ elim (eqb_tells e n) [
      | inl same ↦ subst (λ (k : ℕ). fed_at s j k ≡ records_at epochs k j) (sym same.1) (p.here j less)
      | inr other ↦ p.fed e j (let apart = other.1 in omega (arith, lt, apart)) less
    ];
    here = λ j lt. absurd (omega (arith, lt));
    unfed = λ j e lt when. q.fed j e ∙ p.unfed j e lt (inl (past e j when));
    opened = λ j lt. let o = p.opened j lt in q.sealed j lt ∙ ap (λ (k : ℕ). k + 1) o;
  }
    where
      past : (e j : ℕ) → (n + 1 < e) ⊎ ((e ≡ n + 1) × (0 ≤ j)) → n < e
      past e j (inl l) = omega (arith, l)
      past e j (inr (a, b)) = omega (arith, a)

  -- work was done
  pub feeding_worked : IsFeeding s inputs epochs n 0 → Works s t → AreFree t → IsFeeding t inputs epochs n 0
  feeding_worked p w free = record {
    ready = record { free = free; unclosed = λ i. w.closed i ∙ p.ready.unclosed i };
    fed = λ e j lt less. w.fed j e ∙ p.fed e j lt less;
    here = λ j lt. absurd (omega (arith, lt));
    unfed = λ j e lt when. w.fed j e ∙ p.unfed j e lt when;
    opened = λ j lt. w.opened j ∙ p.opened j lt;
  }
