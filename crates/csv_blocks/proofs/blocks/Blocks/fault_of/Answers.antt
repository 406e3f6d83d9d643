use Rattle.std.proofs.Common.{◌≡◌, ◌≤◌, ◌+◌, ◌^◌, ◌++◌, ◌∙◌, ap, arith, refl, List, ℕ}
use Rattle.csv_strict.specs.Strict.{IsRefused}
use Rattle.csv_strict.specs.declared.checking.Refusal.{Refusal}
use Rattle.csv_blocks.specs.Blocks.{block_of, rest_of}
use Rattle.csv_blocks.specs.Texts.{lines}
use Rattle.csv_blocks.specs.declared.blocks.Blocks.{Blocks}
use Rattle.csv_blocks.proofs.Holding.{many-behind, many-told, told-behind}
use Rattle.csv_blocks.proofs.blocks.Blocks.fault_of.Goals as goal

-- the fault that was found is one of the rest and the bytes
found-in : (b : Blocks) (bytes first all text : List ℕ) (found : Refusal) → all ≡ text → text ≡ first ++ bytes → first ≡ rest_of b → IsRefused all found
    → IsRefused (rest_of b ++ bytes) found
found-in b bytes first all text found same joined is refused =
    let e : all ≡ rest_of b ++ bytes = same ∙ (joined ∙ ap (λ (t : List ℕ). t ++ bytes) is) in
    rw e at refused

pub returns-in_default-lines_behind-clause-told : goal.returns-in_default-lines_behind-clause-told
returns-in_default-lines_behind-clause-told c = λ done text h. many-behind done text c.args.bytes.now c.args.self.now h c.in_default-lines_behind.ensures.none

pub returns-in_default-checked_add-clause-told : goal.returns-in_default-checked_add-clause-told
returns-in_default-checked_add-clause-told c =
    let b = c.args.self.now in
    let bytes : List ℕ = c.args.bytes.now in
    let refused = found-in b bytes c.as_slice.result.now c.as_slice-2.result.now c.in-Ok.text.items c.in-Err.found c.as_slice-2.ensures.value c.in-Ok.ensures
    c.as_slice.ensures.value c.in-Err.ensures.refused in
    let many : 2 ^ 64 ≤ (b.lines + lines (block_of b)) + c.in-Err.found.line = omega (arith, c.in_default-checked_add.ensures, c.in-Some.ensures.some) in
    λ done text h. many-told done text bytes b c.in-Err.found h refused many

pub returns-clause-told : goal.returns-clause-told
returns-clause-told c =
    let b = c.args.self.now in
    let bytes : List ℕ = c.args.bytes.now in
    let refused = found-in b bytes c.as_slice.result.now c.as_slice-2.result.now c.in-Ok.text.items c.in-Err.found c.as_slice-2.ensures.value c.in-Ok.ensures
    c.as_slice.ensures.value c.in-Err.ensures.refused in
    λ done text h.
    told-behind done text bytes b c.in-Err.found _ h refused refl
    (c.in-Some-checked_add.ensures.1 ∙ ap (λ (n : ℕ). n + c.in-Err.found.line) c.in-Some.ensures.some)
