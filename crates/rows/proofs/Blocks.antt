-- Numbers cut into blocks, and how two blocks differ.
use Rattle.std.proofs.Common.{◌≡◌, ℕ, zero, suc, ◌+◌, ◌*◌, ◌/◌, ◌^◌, ◌<◌, ◌≤◌, List, [], ◌++◌, length, take, drop, ℤ, pos, refl, sym, ap, ap₂, ◌∙◌, arith}
use Rattle.std.specs.Prelude.{slice_index_or, ◌↔◌}
use Rattle.std.specs.Simd.{first_chunks}
use Rattle.std.specs.Int.Bits.{bit_or, bit_xor, xor_self, xor_assoc, xor_zero_l, xor_zero_r, or_zero_l}
use Rattle.std.proofs.lemmas.Int.{to_z-of_z}
use Rattle.std.proofs.lemmas.List.{take-append-drop, drop-drop}
use Rattle.std.proofs.lemmas.Nat.{or_lt, xor_lt, le_or_l, le_or_r}
use Rattle.std.proofs.Math.Facts.{Fits-of_z, of_z-to_z}
use borrow.Author.Count.{below_more}
use mir.Syntax.{w64}
use mir.Val.{Fits, SFits, of_z, to_z}

same_by_chunks : (n k : ℕ) (xs ys : List ℤ) → ((i : ℕ) → i < k → slice_index_or (first_chunks n k xs) i [] ≡ slice_index_or (first_chunks n k ys) i []) → drop (k * n) xs ≡ drop (k * n) ys → xs ≡ ys
same_by_chunks n zero xs ys h e = ap (λ m. drop m xs) none ∙ e ∙ ap (λ m. drop m ys) (sym none)
  where
    none : 0 ≡ 0 * n
    none = omega arith
same_by_chunks n (suc k) xs ys h e =
    sym (take-append-drop n xs)
    ∙ ap₂ (λ a b. a ++ b) (h 0 (omega arith)) (same_by_chunks n k (drop n xs) (drop n ys) (λ i l. h (suc i) (omega (arith, l))) (beyond xs ∙ e ∙ sym (beyond ys)))
    ∙ take-append-drop n ys
  where
    more : n + k * n ≡ suc k * n
    more = omega arith

    beyond : (zs : List ℤ) → drop (k * n) (drop n zs) ≡ drop (suc k * n) zs
    beyond zs = drop-drop (k * n) n zs ∙ ap (λ m. drop m zs) more

-- lists of one length are the same where their blocks and what is behind them are
pub whole_same : (xs ys : List ℤ) (bs cs : List (List ℤ)) (r s : List ℤ) (p : ℕ) → length xs ≡ length ys →
    bs ≡ first_chunks 64 (length xs / 64) xs → cs ≡ first_chunks 64 (length ys / 64) ys →
    r ≡ drop (length xs / 64 * 64) xs → s ≡ drop (length ys / 64 * 64) ys →
    length xs / 64 ≤ p → ((i : ℕ) → i < p → slice_index_or bs i [] ≡ slice_index_or cs i []) → r ≡ s → xs ≡ ys
whole_same xs ys bs cs r s p long b c d e all same rest =
    let many : length ys / 64 ≡ length xs / 64 = ap (λ m. m / 64) (sym long) in
    same_by_chunks 64 (length xs / 64) xs ys
    (λ i h. ap (λ l. slice_index_or l i []) (sym b) ∙ same i (omega (arith, h, all)) ∙ ap (λ l. slice_index_or l i []) (c ∙ ap (λ m. first_chunks 64 m ys) many))
    (sym d ∙ rest ∙ e ∙ ap (λ m. drop (m * 64) ys) many)

xor_same : (a b : ℕ) → bit_xor a b ≡ 0 → a ≡ b
xor_same a b h = sym (xor_zero_r a) ∙ ap (bit_xor a) (sym (xor_self b)) ∙ sym (xor_assoc a b b) ∙ ap (λ n. bit_xor n b) h ∙ xor_zero_l b

-- bits that are read as 0
pub zero_bits : (n : ℕ) → Fits w64 n → to_z w64 n ≡ pos 0 → n ≡ 0
zero_bits n f e = sym (of_z-to_z {w = w64} {n = n} f) ∙ ap (of_z w64) e

pub zero_read : (n : ℕ) → n ≡ 0 → to_z w64 n ≡ pos 0
zero_read n e = ap (to_z w64) e

put_none : (d : ℕ) (a b : ℤ) → Fits w64 d → SFits w64 a → SFits w64 b → to_z w64 (bit_or d (bit_xor (of_z w64 a) (of_z w64 b))) ≡ pos 0 → (d ≡ 0) × (a ≡ b)
put_none d a b f g h e =
    let x = bit_xor (of_z w64 a) (of_z w64 b) in
    let short : x < 2 ^ 64 = xor_lt 64 (of_z w64 a) (of_z w64 b) (Fits-of_z {w = w64} {z = a} g).fits (Fits-of_z {w = w64} {z = b} h).fits in
    let none = zero_bits (bit_or d x) (record { fits = or_lt 64 d x f.fits short }) e in
    let differ : x ≡ 0 = omega (arith, none, le_or_r d x) in
    (omega (arith, none, le_or_l d x), sym (to_z-of_z w64 a g) ∙ ap (to_z w64) (xor_same (of_z w64 a) (of_z w64 b) differ) ∙ to_z-of_z w64 b h)

none_put : (d : ℕ) (a b : ℤ) → d ≡ 0 → a ≡ b → to_z w64 (bit_or d (bit_xor (of_z w64 a) (of_z w64 b))) ≡ pos 0
none_put d a b e f =
    let x = bit_xor (of_z w64 a) (of_z w64 b) in
    zero_read (bit_or d x) (ap (λ n. bit_or n x) e ∙ or_zero_l x ∙ ap (λ z. bit_xor (of_z w64 z) (of_z w64 b)) f ∙ xor_self (of_z w64 b))

-- two lists are the same below a place, before and after one more number of each
abbrev pub AreSameBelow : List ℤ → List ℤ → ℕ → Type 0
AreSameBelow xs ys i = (k : ℕ) → k < i → slice_index_or xs k (pos 0) ≡ slice_index_or ys k (pos 0)

pub one_more : (xs ys : List ℤ) (i d : ℕ) → Fits w64 d → SFits w64 (slice_index_or xs i (pos 0)) → SFits w64 (slice_index_or ys i (pos 0)) →
    ((to_z w64 d ≡ pos 0) ↔ AreSameBelow xs ys i) →
    (to_z w64 (bit_or d (bit_xor (of_z w64 (slice_index_or xs i (pos 0))) (of_z w64 (slice_index_or ys i (pos 0))))) ≡ pos 0) ↔ AreSameBelow xs ys (i + 1)
one_more xs ys i d f g h was =
    let a = slice_index_or xs i (pos 0) in
    let b = slice_index_or ys i (pos 0) in (
      (λ n. let p = put_none d a b f g h n in below_more (λ k. slice_index_or xs k (pos 0) ≡ slice_index_or ys k (pos 0)) i (was.0 (zero_read d p.0)) p.1),
      (λ s. none_put d a b (zero_bits d f (was.1 (λ k l. s k (omega (arith, l))))) (s i (omega arith))),
    )
