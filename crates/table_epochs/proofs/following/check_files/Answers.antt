use Rattle.std.proofs.Common.{◌≡◌, ◌∙◌, [], ℕ, List, ap, map, refl, set}
use Rattle.table_epochs.specs.Followed.{Followed}
use Rattle.table_epochs.specs.Going.{followed_by}
use Rattle.table_epochs.proofs.Kept.{set-set, with-files}
use Rattle.table_epochs.proofs.following.check_files.Goals as goal

pub returns-clause-keeps : goal.returns-clause-keeps
returns-clause-keeps c =
    let f : Followed = followed_by c.args.following.now in
    let own : List (List ℕ) = map (λ v. v.items) c.args.following.now.files.items in
    let files : set (map (λ v. v.items) c.put_text.new.files.items) f.place [] ≡ f.files =
    ap (λ (fs : List (List ℕ)). set fs f.place []) c.put_text.ensures ∙ set-set own f.place c.args.header.items [] in
    record { followed = ap (with-files f) files; header = refl }
