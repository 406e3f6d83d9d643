-- Texts one after another.
use Rattle.std.proofs.Common.{◌≡◌, ℕ, suc, ◌+◌, List, ◌++◌, Result, Ok, Err, OnOk, ap, ◌∙◌, append_assoc, arith}
use Rattle.sql.specs.Text.{comma_text, numbered}

-- what follows from what a call gives
pub on_ok : {T E P Q : Type 0} (r : Result T E) → (P → Q) → OnOk r P → OnOk r Q
on_ok (Ok x) f h = f h
on_ok (Err e) f h = h

abbrev Text : Type 0
Text = List ℕ

pub two_texts : (t0 t1 t2 a b : Text) → t1 ≡ t0 ++ a → t2 ≡ t1 ++ b → t2 ≡ t0 ++ (a ++ b)
two_texts t0 t1 t2 a b e f = f ∙ ap (λ t. t ++ b) e ∙ append_assoc t0 a b

pub three_texts : (t0 t1 t2 t3 a b c : Text) → t1 ≡ t0 ++ a → t2 ≡ t1 ++ b → t3 ≡ t2 ++ c → t3 ≡ t0 ++ (a ++ (b ++ c))
three_texts t0 t1 t2 t3 a b c e f g = two_texts t0 t1 t3 a (b ++ c) e (two_texts t1 t2 t3 b c f g)

pub four_texts : (t0 t1 t2 t3 t4 a b c d : Text) → t1 ≡ t0 ++ a → t2 ≡ t1 ++ b → t3 ≡ t2 ++ c → t4 ≡ t3 ++ d → t4 ≡ t0 ++ (a ++ (b ++ (c ++ d)))
four_texts t0 t1 t2 t3 t4 a b c d e f g h = two_texts t0 t1 t4 a (b ++ (c ++ d)) e (three_texts t1 t2 t3 t4 b c d f g h)

pub five_texts : (t0 t1 t2 t3 t4 t5 a b c d e : Text) → t1 ≡ t0 ++ a → t2 ≡ t1 ++ b → t3 ≡ t2 ++ c → t4 ≡ t3 ++ d → t5 ≡ t4 ++ e → t5 ≡ t0 ++ (a ++ (b ++ (c ++ (d ++ e))))
five_texts t0 t1 t2 t3 t4 t5 a b c d e f g h i j = two_texts t0 t1 t5 a (b ++ (c ++ (d ++ e))) f (four_texts t1 t2 t3 t4 t5 b c d e g h i j)

pub six_texts : (t0 t1 t2 t3 t4 t5 t6 a b c d e f : Text) → t1 ≡ t0 ++ a → t2 ≡ t1 ++ b → t3 ≡ t2 ++ c → t4 ≡ t3 ++ d → t5 ≡ t4 ++ e → t6 ≡ t5 ++ f → t6 ≡ t0 ++ (a ++ (b ++ (c ++ (d ++ (e ++ f)))))
six_texts t0 t1 t2 t3 t4 t5 t6 a b c d e f g h i j k l = two_texts t0 t1 t6 a (b ++ (c ++ (d ++ (e ++ f)))) g (five_texts t1 t2 t3 t4 t5 t6 b c d e f h i j k l)

pub seven_texts : (t0 t1 t2 t3 t4 t5 t6 t7 a b c d e f g : Text) → t1 ≡ t0 ++ a → t2 ≡ t1 ++ b → t3 ≡ t2 ++ c → t4 ≡ t3 ++ d → t5 ≡ t4 ++ e → t6 ≡ t5 ++ f → t7 ≡ t6 ++ g → t7 ≡ t0 ++ (a ++ (b ++ (c ++ (d ++ (e ++ (f ++ g))))))
seven_texts t0 t1 t2 t3 t4 t5 t6 t7 a b c d e f g h i j k l m n = two_texts t0 t1 t7 a (b ++ (c ++ (d ++ (e ++ (f ++ g))))) h (six_texts t1 t2 t3 t4 t5 t6 t7 b c d e f g i j k l m n)

-- an operation on two operands, as it is appended
pub binary_regrouped : (w b o l c s r d v : Text) → (w ++ (b ++ o)) ++ (l ++ ((c ++ (s ++ o)) ++ (r ++ (c ++ (d ++ v))))) ≡ w ++ ((b ++ ((o ++ (l ++ c)) ++ (s ++ ((o ++ (r ++ c)) ++ d)))) ++ v)
binary_regrouped w b o l c s r d v = simp append_assoc

-- an operation on one operand
pub unary_regrouped : (w b o l c d v : Text) → (w ++ (b ++ o)) ++ (l ++ (c ++ (d ++ v))) ≡ w ++ ((b ++ ((o ++ (l ++ c)) ++ d)) ++ v)
unary_regrouped w b o l c d v = simp append_assoc

module _ {E : Type 0} (r : Result (Unit {0}) E) where
  pub ends_three : (t0 t1 t2 t3 a b c : Text) → t1 ≡ t0 ++ a → t2 ≡ t1 ++ b → OnOk r (t3 ≡ t2 ++ c) → OnOk r (t3 ≡ t0 ++ (a ++ (b ++ c)))
  ends_three t0 t1 t2 t3 a b c e f h = on_ok r (three_texts t0 t1 t2 t3 a b c e f) h

  pub ends_four : (t0 t1 t2 t3 t4 a b c d : Text) → t1 ≡ t0 ++ a → t2 ≡ t1 ++ b → t3 ≡ t2 ++ c → OnOk r (t4 ≡ t3 ++ d) → OnOk r (t4 ≡ t0 ++ (a ++ (b ++ (c ++ d))))
  ends_four t0 t1 t2 t3 t4 a b c d e f g h = on_ok r (four_texts t0 t1 t2 t3 t4 a b c d e f g) h

  pub ends_five : (t0 t1 t2 t3 t4 t5 a b c d e : Text) → t1 ≡ t0 ++ a → t2 ≡ t1 ++ b → t3 ≡ t2 ++ c → t4 ≡ t3 ++ d → OnOk r (t5 ≡ t4 ++ e) → OnOk r (t5 ≡ t0 ++ (a ++ (b ++ (c ++ (d ++ e)))))
  ends_five t0 t1 t2 t3 t4 t5 a b c d e f g h i j = on_ok r (five_texts t0 t1 t2 t3 t4 t5 a b c d e f g h i) j

  pub ends_six : (t0 t1 t2 t3 t4 t5 t6 a b c d e f : Text) → t1 ≡ t0 ++ a → t2 ≡ t1 ++ b → t3 ≡ t2 ++ c → t4 ≡ t3 ++ d → t5 ≡ t4 ++ e → OnOk r (t6 ≡ t5 ++ f) → OnOk r (t6 ≡ t0 ++ (a ++ (b ++ (c ++ (d ++ (e ++ f))))))
  ends_six t0 t1 t2 t3 t4 t5 t6 a b c d e f g h i j k l = on_ok r (six_texts t0 t1 t2 t3 t4 t5 t6 a b c d e f g h i j k) l

  pub ends_seven : (t0 t1 t2 t3 t4 t5 t6 t7 a b c d e f g : Text) → t1 ≡ t0 ++ a → t2 ≡ t1 ++ b → t3 ≡ t2 ++ c → t4 ≡ t3 ++ d → t5 ≡ t4 ++ e → t6 ≡ t5 ++ f → OnOk r (t7 ≡ t6 ++ g) → OnOk r (t7 ≡ t0 ++ (a ++ (b ++ (c ++ (d ++ (e ++ (f ++ g)))))))
  ends_seven t0 t1 t2 t3 t4 t5 t6 t7 a b c d e f g h i j k l m n = on_ok r (seven_texts t0 t1 t2 t3 t4 t5 t6 t7 a b c d e f g h i j k l m) n

-- one number more of a numbered list
pub numbered_more : (f : ℕ → Text) (n : ℕ) (t0 t1 t2 t3 : Text) → t1 ≡ t0 ++ numbered f n → t2 ≡ t1 ++ comma_text n → t3 ≡ t2 ++ f n → t3 ≡ t0 ++ numbered f (n + 1)
numbered_more f n t0 t1 t2 t3 e g h =
    let m : suc n ≡ n + 1 = omega arith in
    three_texts t0 t1 t2 t3 (numbered f n) (comma_text n) (f n) e g h ∙ ap (λ k. t0 ++ numbered f k) m
