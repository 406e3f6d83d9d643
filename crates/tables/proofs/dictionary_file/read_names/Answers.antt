use Rattle.std.proofs.Common.{◌≡◌, ◌∙◌, [], ◌∷◌, ℕ, List, map, sym, ap, subst, inl, inr}
use Rattle.std.specs.Prelude.{codes}
use Rattle.tables.specs.Tables.{HasHeader, HasRead}
use Rattle.tables.proofs.Faulty.{at-ok}
use Rattle.tables.proofs.dictionary_file.read_names.Goals as goal

pub returns-clause-read : goal.returns-clause-read
returns-clause-read c =
    let names : map (λ v. v.items) c.as_slice.result.now ≡ codes "text" ∷ [] = ap (λ vs. map (λ v. v.items) vs) c.as_slice.ensures.value ∙ c.in_ok-names.ensures.named in
    subst (λ (cells : List (List ℕ)). HasRead c.args.text.now (cells ∷ []) c.read_header.new.reader) names (at-ok c.read_header.result c.in-Ok.is c.read_header.ensures.found c.args.text.now c.requires.none)

pub returns-in-Err-Fault-clause-refused : goal.returns-in-Err-Fault-clause-refused
returns-in-Err-Fault-clause-refused c =
    let names : map (λ v. v.items) c.as_slice.result.now ≡ codes "text" ∷ [] = ap (λ vs. map (λ v. v.items) vs) c.as_slice.ensures.value ∙ c.in_ok-names.ensures.named in
    let refused = rw c.in-Err-Fault.field-0-is at (c.in-Err-Fault.ensures.refused c.args.text.now c.requires.none) in
    (c.requires.some, inr (c.requires.strict, inl (refused.0, λ h. refused.1 (subst (λ (cells : List (List ℕ)). HasHeader cells c.args.text.now) (sym names) h))))
