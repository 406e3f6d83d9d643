use Rattle.std.proofs.Common.{◌≡◌, ◌∙◌, ◌∷◌, [], true, ap, refl, subst}
use Rattle.std.specs.Io.KnownBytes.{Appends}
use Rattle.collector.specs.Watching.{inner_of}
use Rattle.collector.specs.WrittenBytes.{AppendsFront}
use Rattle.table_faults.specs.declared.fault.Fault.TheVariants.{Write}
use Rattle.table_queries.specs.declared.fault.RunFault.TheVariants.{Tables}
use Rattle.tables.specs.Answers.{header_of}
use Rattle.tables.specs.Files.{csv_text}
use Rattle.table_epochs.specs.Followed.{Followed, FollowsPart}
use Rattle.table_epochs.specs.Going.{followed_by, reached_by}
use Rattle.table_epochs.proofs.Going.{taken-broken, taken-front, taken-whole}
use Rattle.table_epochs.proofs.Results.{from-err}
use Rattle.table_epochs.proofs.following.follow_end.Goals as goal

pub returns-then-following-ne0-clause-written : goal.returns-then-following-ne0-clause-written
returns-then-following-ne0-clause-written g c = λ start text before header s taken.
    let out = g.W.Write.contents (inner_of c.args.out.now) in
    taken-whole (followed_by c.args.following.now) start (reached_by c.args.following.now) text c.args.header.items before out out s taken
    (λ none. absurd (c.if-following-ne0.true none)) (λ some. refl)

pub returns-in_err-check_files-clause-fault : goal.returns-in_err-check_files-clause-fault
returns-in_err-check_files-clause-fault g c = λ start text before header s taken.
    let f : Followed = followed_by c.args.following.now in
    let out = g.W.Write.contents (inner_of c.args.out.now) in
    from-err (λ fault. FollowsPart f text fault before out) c.from_residual.result c.in_err-check_files.field-0.0 c.from_residual.ensures.1
    (taken-broken f start (reached_by c.args.following.now) text c.args.header.items before out c.in_err-check_files.field-0.0 s taken)

pub returns-in-Ok-clause-written : goal.returns-in-Ok-clause-written
returns-in-Ok-clause-written g c = λ start text before header s taken.
    let f : Followed = followed_by c.args.following.now in
    let out = g.W.Write.contents (inner_of c.args.out.now) in
    let next = g.W.Write.contents (inner_of c.put.new.writer) in
    let row : c.as_slice.result.now ≡ csv_text (header_of f.table true ∷ []) = c.as_slice.ensures.value ∙
    (ap (λ v. v.items) c.in_ok-check_files.ensures.keeps.header ∙ header) in
    taken-whole f start (reached_by c.args.following.now) text c.args.header.items before out next s taken
    (λ none. subst (Appends out next) row c.in-Ok.ensures.ok) (λ some. absurd (some c.if-following-ne0.false))

pub returns-in-Err-clause-fault : goal.returns-in-Err-clause-fault
returns-in-Err-clause-fault g c = λ start text before header s taken.
    let f : Followed = followed_by c.args.following.now in
    let out = g.W.Write.contents (inner_of c.args.out.now) in
    let next = g.W.Write.contents (inner_of c.put.new.writer) in
    let row : c.as_slice.result.now ≡ csv_text (header_of f.table true ∷ []) = c.as_slice.ensures.value ∙
    (ap (λ v. v.items) c.in_ok-check_files.ensures.keeps.header ∙ header) in
    taken-front f start (reached_by c.args.following.now) text c.args.header.items before out next
    (Tables Write) s taken c.if-following-ne0.false refl
    (subst (AppendsFront out next) row c.in-Err.ensures.err)
