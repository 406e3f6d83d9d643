-- The text of an operation, as it is appended.
use Rattle.std.proofs.Common.{◌≡◌, ℕ, List, ◌++◌, Result, OnOk, codes, refl, ap, ◌∙◌}
use Rattle.expr_tree.specs.Plain.{plain_operator}
use Rattle.expr_tree.specs.declared.scalar.Operator.{Operator}
use Rattle.expr_tree.specs.declared.scalar.Operator.TheVariants.{Add, Subtract, Multiply}
use Rattle.semantics.specs.Query.{Scalar}
use Rattle.sql_meaning.specs.Translation.{expression}
use Rattle.sql.specs.Signs.{operator_text}
use Rattle.sql.specs.Dialects.{arithmetic_of, operand_close, operand_open, wrap_close, wrap_open}
use Rattle.sql.specs.Text.{binary_text, expression_text}
use Rattle.sql.specs.declared.form.Form.{Form}
use Rattle.sql.proofs.Texts.{five_texts, on_ok, binary_regrouped}

operated : (a : Form) (o : Operator) (s t : Scalar) →
    wrap_open (arithmetic_of a) ++ (binary_text a (operator_text o) (expression_text a (expression s)) (expression_text a (expression t)) ++ wrap_close (arithmetic_of a)) ≡ expression_text a (expression (plain_operator o s t))
operated a Add s t = refl
operated a Subtract s t = refl
operated a Multiply s t = refl

pub binary_appended : {E : Type 0} (r : Result (Unit {0}) E) (a : Form) (o : Operator) (s t : Scalar) (t0 t1 t2 t3 t4 t5 : List ℕ) →
    t1 ≡ t0 ++ (wrap_open (arithmetic_of a) ++ (codes "(" ++ operand_open a)) → t2 ≡ t1 ++ expression_text a (expression s) → t3 ≡ t2 ++ (operand_close a ++ (operator_text o ++ operand_open a)) →
    t4 ≡ t3 ++ expression_text a (expression t) → OnOk r (t5 ≡ t4 ++ (operand_close a ++ (codes ")" ++ wrap_close (arithmetic_of a)))) → OnOk r (t5 ≡ t0 ++ expression_text a (expression (plain_operator o s t)))
binary_appended r a o s t t0 t1 t2 t3 t4 t5 e f g h k =
    on_ok r (λ (z : t5 ≡ t4 ++ (operand_close a ++ (codes ")" ++ wrap_close (arithmetic_of a)))). five_texts t0 t1 t2 t3 t4 t5 _ _ _ _ _ e f g h z
    ∙ ap (λ x. t0 ++ x) (binary_regrouped (wrap_open (arithmetic_of a)) (codes "(") (operand_open a) (expression_text a (expression s)) (operand_close a) (operator_text o) (expression_text a (expression t)) (codes ")") (wrap_close (arithmetic_of a)) ∙ operated a o s t)) k
