use Rattle.std.proofs.Common.{◌≡◌, ◌∙◌, [], ℕ, List, Option, ap, get_or, map, subst, sym}
use Rattle.collector.specs.Watching.{inner_of}
use Rattle.csv_cells.specs.Texts.{texts_of}
use Rattle.table_commands.specs.Read.{IsKnownAs}
use Rattle.table_epochs.specs.Followed.{FailsText, Followed, FollowsAll, FollowsPart, IsStart}
use Rattle.table_epochs.specs.Going.{HasTaken, followed_by, reached_by}
use Rattle.table_epochs.proofs.Going.{begins-none, known-begins, none-part}
use Rattle.table_epochs.proofs.Kept.{header-kept}
use Rattle.table_epochs.proofs.Results.{from-err, if-err, on-ok}
use Rattle.table_follows.specs.Followed.{FollowsFrom}
use Rattle.table_follows.proofs.files.follow_file.Goals as goal

pub returns-in_err-header-clause-fault : goal.returns-in_err-header-clause-fault
returns-in_err-header-clause-fault g c = λ header start.
    let old = c.args.following.now in
    let known = g.S.Sources.content c.args.sources.now (get_or (map (λ s. s.now) old.job.paths.now) old.stream.place []) in
    let out = g.W.Write.contents (inner_of c.args.out.now) in
    let fault = c.in_err-header.field-0.0 in
    from-err (FailsText known (followed_by old) out out) c.from_residual.result fault c.from_residual.ensures.1
    ([], begins-none known, none-part (followed_by old) (reached_by old) out fault start)

pub returns-in_err-check_files-clause-fault : goal.returns-in_err-check_files-clause-fault
returns-in_err-check_files-clause-fault g c = λ header start.
    let old = c.args.following.now in
    let known = g.S.Sources.content c.args.sources.now (get_or (map (λ s. s.now) old.job.paths.now) old.stream.place []) in
    let out = g.W.Write.contents (inner_of c.args.out.now) in
    let fault = c.in_err-check_files.field-0.0 in
    from-err (FailsText known (followed_by old) out out) c.from_residual-in_err-check_files.result fault c.from_residual-in_err-check_files.ensures.1
    ([], begins-none known, none-part (followed_by old) (reached_by old) out fault start)

pub returns-clause-written : goal.returns-clause-written
returns-clause-written g c = λ header start.
    let old = c.args.following.now in
    let checked = c.check_files.new.following in
    let done = c.follow_text.new.following in
    let content = g.S.Sources.content c.args.sources.now in
    let before = g.W.Write.contents (inner_of c.args.out.now) in
    let out = g.W.Write.contents (inner_of c.follow_text.new.out) in
    let next = g.W.Write.contents (inner_of c.follow_end.new.out) in
    let one = c.in_ok-check_files.ensures in
    let two = c.in_ok-header-2.ensures in
    let here : IsStart (reached_by checked) = record { count = one.count ∙ start.count; last = one.last ∙ start.last } in
    let kept = header-kept old checked one.keeps header in
    let (bytes, read, taken) = two.taken kept here in
    let path : c.path_at-path.result.now ≡ get_or (map (λ s. s.now) old.job.paths.now) old.stream.place [] =
    c.path_at-path.ensures ∙ ap (λ j. get_or (map (λ s. s.now) j.paths.now) old.stream.place []) one.paths in
    let known = subst (λ (k : Option (List ℕ)). IsKnownAs k bytes) (c.open_named-opened.ensures.content ∙ ap content path) read in
    let h : List ℕ = c.in_ok-header-2.header.items in
    on-ok {Q = FollowsFrom (content (get_or (map (λ s. s.now) old.job.paths.now) old.stream.place [])) (followed_by old) (texts_of old.dictionary) before next}
    c.follow_end.result (λ w. (
      reached_by checked,
      one.numbered,
      (bytes, known, subst (λ (f : Followed). FollowsAll f (reached_by checked) bytes before next) (two.keeps.followed ∙ one.keeps.followed) w),
    ))
    (c.follow_end.ensures.written (reached_by checked) bytes before (header-kept checked done two.keeps kept) here
    (subst (λ (f : Followed). HasTaken f (reached_by checked) (reached_by done) bytes h before out) (sym two.keeps.followed) taken))

pub returns-clause-fault : goal.returns-clause-fault
returns-clause-fault g c = λ header start.
    let old = c.args.following.now in
    let checked = c.check_files.new.following in
    let done = c.follow_text.new.following in
    let content = g.S.Sources.content c.args.sources.now in
    let before = g.W.Write.contents (inner_of c.args.out.now) in
    let out = g.W.Write.contents (inner_of c.follow_text.new.out) in
    let next = g.W.Write.contents (inner_of c.follow_end.new.out) in
    let one = c.in_ok-check_files.ensures in
    let two = c.in_ok-header-2.ensures in
    let here : IsStart (reached_by checked) = record { count = one.count ∙ start.count; last = one.last ∙ start.last } in
    let kept = header-kept old checked one.keeps header in
    let (bytes, read, taken) = two.taken kept here in
    let path : c.path_at-path.result.now ≡ get_or (map (λ s. s.now) old.job.paths.now) old.stream.place [] =
    c.path_at-path.ensures ∙ ap (λ j. get_or (map (λ s. s.now) j.paths.now) old.stream.place []) one.paths in
    let known = subst (λ (k : Option (List ℕ)). IsKnownAs k bytes) (c.open_named-opened.ensures.content ∙ ap content path) read in
    let h : List ℕ = c.in_ok-header-2.header.items in
    let name : List ℕ = get_or (map (λ s. s.now) old.job.paths.now) old.stream.place [] in
    if-err {Q = FailsText (content name) (followed_by old) before next} c.follow_end.result (λ fault w. (
      bytes,
      known-begins (content name) bytes known,
      subst (λ (f : Followed). FollowsPart f bytes fault before next) (two.keeps.followed ∙ one.keeps.followed) w,
    ))
    (c.follow_end.ensures.fault (reached_by checked) bytes before (header-kept checked done two.keeps kept) here
    (subst (λ (f : Followed). HasTaken f (reached_by checked) (reached_by done) bytes h before out) (sym two.keeps.followed) taken))
