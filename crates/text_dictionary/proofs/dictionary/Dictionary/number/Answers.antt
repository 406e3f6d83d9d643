use Rattle.std.proofs.Common.{◌≡◌, ℤ, Some, pos, refl, inl, option_map, map, sym, ◌∙◌, ap}
use Rattle.std.proofs.lemmas.Option.{slice_get-map}
use Rattle.std.proofs.lemmas.Result.{IfOk-weaker}
use Rattle.std.proofs.lemmas.Slice.Eq.{bytes_eq-Decides}
use Rattle.text_dictionary.specs.Texts.{text_at}
use Rattle.text_dictionary.proofs.Places.{added, distinct-number, on-any}
use Rattle.text_dictionary.proofs.dictionary.Dictionary.number.Goals as goal

pub returns-in-Some-clause-added : goal.returns-in-Some-clause-added
returns-in-Some-clause-added c = on-any c.numbered.result _ (inl ((pos c.in-Some.place, c.in-Some.ensures.found), refl))

pub returns-clause-found : goal.returns-clause-found
returns-clause-found c =
    let s = c.in_ok-place.ensures.stored in
    let same : c.in_ok-kept.kept.items ≡ s.0.items = (bytes_eq-Decides c.in_ok-kept.kept.items s.0.items).0 s.2 in
    let there = slice_get-map (λ v. v.items) c.insert_full.new.self.keys c.in_ok-place.place ∙ ap (option_map (λ v. v.items)) s.1 ∙ ap Some (sym same ∙ c.in_ok-kept.ensures.items) in
    IfOk-weaker c.numbered-2.result _ _ (λ z e. rw e there) c.numbered-2.ensures

pub returns-clause-only : goal.returns-clause-only
returns-clause-only c =
    let s = c.in_ok-place.ensures.stored in
    let same : c.in_ok-kept.kept.items ≡ s.0.items = (bytes_eq-Decides c.in_ok-kept.kept.items s.0.items).0 s.2 in
    let there = slice_get-map (λ v. v.items) c.insert_full.new.self.keys c.in_ok-place.place ∙ ap (option_map (λ v. v.items)) s.1 ∙ ap Some (sym same ∙ c.in_ok-kept.ensures.items) in
    IfOk-weaker c.numbered-2.result _ _ (λ z e y h. distinct-number _ (λ v. v.items) (λ a b k. (bytes_eq-Decides a.items b.items).1 k) c.insert_full.new.self.keys c.in_ok-place.place y c.args.text.now c.in_ok-place.ensures.unique there h ∙ sym e) c.numbered-2.ensures

pub returns-clause-added : goal.returns-clause-added
returns-clause-added c =
    let s = c.in_ok-place.ensures.stored in
    let same : c.in_ok-kept.kept.items ≡ s.0.items = (bytes_eq-Decides c.in_ok-kept.kept.items s.0.items).0 s.2 in
    let there = slice_get-map (λ v. v.items) c.insert_full.new.self.keys c.in_ok-place.place ∙ ap (option_map (λ v. v.items)) s.1 ∙ ap Some (sym same ∙ c.in_ok-kept.ensures.items) in
    let only : (y : ℤ) → text_at (map (λ v. v.items) c.insert_full.new.self.keys) y ≡ Some c.args.text.now → y ≡ pos c.in_ok-place.place = λ y h. distinct-number _ (λ v. v.items) (λ a b k. (bytes_eq-Decides a.items b.items).1 k) c.insert_full.new.self.keys c.in_ok-place.place y c.args.text.now c.in_ok-place.ensures.unique there h in
    on-any c.numbered-2.result _ (added _ (λ v. v.items) c.args.self.now.texts.keys c.insert_full.new.self.keys c.in_ok-kept.kept c.args.text.now c.in_ok-place.place c.in_ok-kept.ensures.items c.in_ok-place.ensures.keys there only)
