use Rattle.std.proofs.Common.{◌≡◌, ◌<◌, ◌∙◌, [], true, false, get_or, length, map, sym, ap, arith}
use Rattle.std.specs.Str.{bytes_eq}
use Rattle.std.proofs.lemmas.List.{get_or-map, length-map}
use Rattle.schema_lines.proofs.Places.{place-here, place-next}
use Rattle.schema_lines.proofs.names.place_of.Goals as goal

pub returns-then-eq-clause-found : goal.returns-then-eq-clause-found
returns-then-eq-clause-found c =
    let headers = c.args.headers.now in
    let names = map (λ v. v.items) headers in
    let at = get_or-map (λ v. v.items) headers c.loop-i.i c.index-headers-i.result [] c.loop-i-test.true
    ∙ ap (λ v. v.items) (sym c.index-headers-i.is) in
    let same : bytes_eq (get_or names c.loop-i.i []) c.args.name.now ≡ true =
    ap (λ n. bytes_eq n c.args.name.now) (at ∙ sym c.as_slice.ensures.value) ∙ sym c.eq.ensures ∙ c.if-eq.true in
    let below : c.loop-i.i < length names = omega (arith, c.loop-i-test.true, length-map headers (λ v. v.items)) in
    omega (arith, c.loop-i.invariant, place-here c.args.name.now names c.loop-i.i below same)

pub loop-i-preserved : goal.loop-i-preserved
loop-i-preserved c =
    let headers = c.args.headers.now in
    let names = map (λ v. v.items) headers in
    let at = get_or-map (λ v. v.items) headers c.loop-i.i c.index-headers-i.result [] c.loop-i-test.true
    ∙ ap (λ v. v.items) (sym c.index-headers-i.is) in
    let other : bytes_eq (get_or names c.loop-i.i []) c.args.name.now
    ≡ false = ap (λ n. bytes_eq n c.args.name.now) (at ∙ sym c.as_slice.ensures.value) ∙ sym c.eq.ensures ∙ c.if-eq.false in
    let below : c.loop-i.i < length names = omega (arith, c.loop-i-test.true, length-map headers (λ v. v.items)) in
    omega (arith, c.loop-i.invariant, place-next c.args.name.now names c.loop-i.i below other)
