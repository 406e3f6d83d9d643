use Rattle.std.proofs.Common.{◌≡◌, ◌++◌, ◌∷◌, ◌∙◌, [], ℕ, List, None, Some, ap, append_assoc, codes, decimal, inl, inr}
use Rattle.std.proofs.lemmas.Bool.Decides.{Decides-eqb}
use Rattle.std.proofs.lemmas.Slice.Eq.{strip_prefix_is}
use Rattle.collector.specs.OutputText.{epoch_line}
use Rattle.table_epochs.proofs.Results.{if-ok}
use Rattle.table_epochs.proofs.numbering.numbered.Goals as goal

pub returns-in_default : goal.returns-in_default
returns-in_default c = if-ok c.from_slice.result (λ v is. inr
    (λ rest cut. absurd (strip_prefix_is Decides-eqb c.args.answer.now (codes "epoch 0\n") None c.in_default.ensures.cases rest cut), is))
    c.from_slice.ensures.items

pub returns : goal.returns
returns c =
    let number : List ℕ = decimal c.args.number in
    let rest : List ℕ = c.in-Some.rest.now in
    let word : c.extend_from_slice.new.self.items ≡ codes "epoch " =
    c.in_ok-extend_from_slice.ensures.items ∙ ap (λ (t : List ℕ). t ++ codes "epoch ") c.new-text.ensures.items in
    let digits : c.as_bytes.result.now ≡ number = c.as_bytes.ensures.value ∙ c.format.ensures.text in
    let both : c.extend_from_slice-2.new.self.items ≡ codes "epoch " ++ number =
    c.in_ok-extend_from_slice-2.ensures.items ∙ (ap (λ (t : List ℕ). t ++ c.as_bytes.result.now) word ∙ ap
    (λ (t : List ℕ). codes "epoch " ++ t) digits) in
    let line : c.extend_from_slice-3.new.self.items ≡ epoch_line c.args.number =
    c.in_ok-extend_from_slice-3.ensures.items ∙ (ap (λ (t : List ℕ). t ++ 10 ∷ []) both ∙ append_assoc (codes "epoch ") number (10 ∷ [])) in
    inl (
      rest,
      strip_prefix_is Decides-eqb c.args.answer.now (codes "epoch 0\n") (Some c.in-Some.rest) c.in-Some.ensures.cases,
      c.in_ok-extend_from_slice-4.ensures.items ∙ ap (λ (t : List ℕ). t ++ rest) line,
    )
