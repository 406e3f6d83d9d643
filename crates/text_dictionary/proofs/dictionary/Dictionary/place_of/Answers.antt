use Rattle.std.proofs.Common.{◌≡◌, Some, option_map, sym, ◌∙◌, ap}
use Rattle.std.proofs.lemmas.Option.{slice_get-map}
use Rattle.std.proofs.lemmas.Slice.Eq.{bytes_eq-Decides}
use Rattle.text_dictionary.proofs.Places.{distinct-place}
use Rattle.text_dictionary.proofs.dictionary.Dictionary.place_of.Goals as goal

pub returns-then-eq-clause-found : goal.returns-then-eq-clause-found
returns-then-eq-clause-found c =
    let same : c.as_slice.result.now ≡ c.args.text.now = (bytes_eq-Decides c.as_slice.result.now c.args.text.now).0 (sym c.eq.ensures ∙ c.if-eq.true) in
    slice_get-map (λ v. v.items) c.args.self.now.texts.keys c.in_ok-place.place ∙ ap (option_map (λ v. v.items)) c.in_ok-place.ensures.stored ∙ ap Some (sym c.as_slice.ensures.value ∙ same)

pub returns-then-eq-clause-only : goal.returns-then-eq-clause-only
returns-then-eq-clause-only c =
    let same : c.as_slice.result.now ≡ c.args.text.now = (bytes_eq-Decides c.as_slice.result.now c.args.text.now).0 (sym c.eq.ensures ∙ c.if-eq.true) in
    let there = slice_get-map (λ v. v.items) c.args.self.now.texts.keys c.in_ok-place.place ∙ ap (option_map (λ v. v.items)) c.in_ok-place.ensures.stored ∙ ap Some (sym c.as_slice.ensures.value ∙ same) in
    λ j h. distinct-place _ (λ v. v.items) (λ a b k. (bytes_eq-Decides a.items b.items).1 k) c.args.self.now.texts.keys c.in_ok-place.place j c.args.text.now c.len.ensures.unique there h
