use Rattle.std.proofs.Common.{◌≡◌, ◌≢◌, ◌++◌, ◌∷◌, ◌<◌, ◌∙◌, [], ℕ, List, Option, get_or, length, map, take, sym, subst, arith, Bor, Vec}
use Rattle.std.specs.Global.{Global}
use Rattle.std.proofs.lemmas.List.{get_or-map, length-map, length-take-le, map-append, take_more}
use Rattle.table_commands.specs.Read.{IsKnownAs}
use Rattle.table_follows.proofs.Others.{others-none, others-push}
use Rattle.table_follows.proofs.stream.other_texts.Goals as goal
use Rattle.table_follows.proofs.stream.other_texts.Goals.{then-i-place, else-i-place+in_ok-text}

pub loop-i-init : goal.loop-i-init
loop-i-init g c = record { read = rw c.new-texts.ensures.items (others-none (g.S.Sources.content c.args.sources.now) c.args.place) }

pub loop-i-preserved : goal.loop-i-preserved
loop-i-preserved g c =
    let known : List ℕ → Option (List ℕ) = g.S.Sources.content c.args.sources.now in
    let names : List (List ℕ) = map (λ s. s.now) c.args.paths.now in
    let i : ℕ = c.loop-i.i in
    let lt : i < length c.args.paths.now = c.loop-i-test.true in
    let within : i < length names = omega (arith, length-map c.args.paths.now (λ s. s.now), lt) in
    let file : List ℕ = c.if-i-place.text.items in
    let items : c.push.new.self.items ≡ c.loop-i.texts.items ++ c.if-i-place.text ∷ [] = c.in_ok-push.ensures.items in
    let none : Bor (List ℕ) = record { ref_ptr = (0, 0); now = [] } in
    let same : (get_or c.args.paths.now i none).now ≡ get_or names i [] = sym (get_or-map (λ s. s.now) c.args.paths.now i none [] lt) in
    let here : length (take i names) ≡ i = length-take-le i names (omega (arith, within)) in
    let is : length (take i names) ≢ c.args.place → IsKnownAs (known (get_or names i [])) file = elim c.if-i-place.branch [
      | then-i-place w ↦ λ other. absurd (other (here ∙ w.if-i-place.true))
      | else-i-place+in_ok-text w ↦ λ other. subst (λ (v : Vec ℕ Global). IsKnownAs (known (get_or names i [])) v.items) (sym w.text-is)
          (subst (λ n. IsKnownAs (known n) w.in_ok-text.text.items) same w.in_ok-text.ensures)
    ] in
    let pushed = others-push known c.args.place (take i names) (map (λ v. v.items) c.loop-i.texts.items)
    (get_or names i []) file c.loop-i.invariant.read is in
    record { read = rw (take_more names i [] within, items, map-append) pushed }
