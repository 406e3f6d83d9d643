-- Small programs whose meanings and graphs are computed, to check the definitions.
use Rattle.std.specs.Prelude.{ℕ, zero, suc, ℤ, List, [], ◌∷◌, pos}
use Rattle.semantics.specs.Multiset.{Record}
use Rattle.semantics.specs.Time.{Time}
use Rattle.semantics.specs.Query.{Name, Scalar, Comparison, Cond, Agg, Loop, Rel, Input, Output, Program}

-- the names `a`, `b`, `e`, `x` and `y`
abbrev pub name_a : Name
name_a = 97 ∷ []

abbrev pub name_b : Name
name_b = 98 ∷ []

abbrev pub name_e : Name
name_e = 101 ∷ []

abbrev pub name_x : Name
name_x = 120 ∷ []

abbrev pub name_y : Name
name_y = 121 ∷ []

-- an input of that name and arity
abbrev pub input_of : Name → ℕ → Input
input_of x n = record { name = x; arity = n }

-- a record of one, of two and of three fields
abbrev pub one_field : ℤ → Record
one_field m = m ∷ []

abbrev pub two_fields : ℕ → ℕ → Record
two_fields m n = pos m ∷ pos n ∷ []

abbrev pub three_fields : ℤ → ℤ → ℤ → Record
three_fields l m n = l ∷ m ∷ n ∷ []

-- the name of an output without a name: `out`
abbrev pub name_out : Name
name_out = 111 ∷ 117 ∷ 116 ∷ []

-- an output of that name
abbrev pub output_as : Name → Rel → Output
output_as x r = record { name = x; value = r }

-- a query of one input
abbrev pub query_on : Input → Rel → Program
query_on i r = record { inputs = i ∷ []; lets = []; outputs = output_as name_out r ∷ [] }

-- a query of the inputs `a` and `b`, of one field each
abbrev pub query_on_a_and_b : Rel → Program
query_on_a_and_b r = record { inputs = input_of name_a 1 ∷ input_of name_b 1 ∷ []; lets = []; outputs = output_as name_out r ∷ [] }

-- #0 + 1
abbrev pub first_plus_1 : List Scalar
first_plus_1 = Scalar.plus (Scalar.column 0) (Scalar.literal (pos 1)) ∷ []

-- input a/1; output concat(a, a);
abbrev pub twice : Program
twice = query_on (input_of name_a 1) (Rel.concat (Rel.named name_a) (Rel.named name_a))

-- input a/2; output group(a; #0; sum #1, count);
abbrev pub sums_by_key : Program
sums_by_key = query_on (input_of name_a 2) (Rel.group (Rel.named name_a) (0 ∷ []) (Agg.sum 1 ∷ Agg.count ∷ []))

-- input e/2; output iterate(3; x = e; distinct(concat(x, select(join(x, e; #1 = #0); #0, #3))));
abbrev pub reachability : Program
reachability =
    query_on (input_of name_e 2)
    (Rel.loop Loop.iterate 3 name_x (Rel.named name_e)
    (Rel.distinct
    (Rel.concat (Rel.named name_x)
    (Rel.select (Rel.join (Rel.named name_x) (Rel.named name_e) (record { left = 1; right = 0 } ∷ []))
    (Scalar.column 0 ∷ Scalar.column 3 ∷ [])))))

-- input e/2; output closure(3; x = e; select(join(x, e; #1 = #0); #0, #3));
abbrev pub connected : Program
connected =
    query_on (input_of name_e 2)
    (Rel.loop Loop.closure 3 name_x (Rel.named name_e)
    (Rel.select (Rel.join (Rel.named name_x) (Rel.named name_e) (record { left = 1; right = 0 } ∷ []))
    (Scalar.column 0 ∷ Scalar.column 3 ∷ [])))

-- input a/1; output iterate(0; x = a; where(x; #0 < 0));
abbrev pub no_turns : Program
no_turns =
    query_on (input_of name_a 1)
    (Rel.loop Loop.iterate 0 name_x (Rel.named name_a)
    (Rel.filter (Rel.named name_x) (Cond.compare Comparison.less (Scalar.column 0) (Scalar.literal (pos 0)))))

-- input a/1; input b/1; output iterate(2; x = a; b);
abbrev pub outer_name : Program
outer_name = query_on_a_and_b (Rel.loop Loop.iterate 2 name_x (Rel.named name_a) (Rel.named name_b))

-- input a/1; output iterate(2; x = a; iterate(3; y = x; select(y; #0 + 1)));
abbrev pub loop_in_loop : Program
loop_in_loop =
    query_on (input_of name_a 1)
    (Rel.loop Loop.iterate 2 name_x (Rel.named name_a)
    (Rel.loop Loop.iterate 3 name_y (Rel.named name_x) (Rel.select (Rel.named name_y) first_plus_1)))

-- input a/1; output iterate(2; x = a; select(x; #0 + 1));
abbrev pub two_turns : Program
two_turns = query_on (input_of name_a 1) (Rel.loop Loop.iterate 2 name_x (Rel.named name_a) (Rel.select (Rel.named name_x) first_plus_1))

-- input a/1; input b/1; output iterate(2; x = a; iterate(1; y = x; concat(y, b)));
abbrev pub outer_name_in_loops : Program
outer_name_in_loops =
    query_on_a_and_b
    (Rel.loop Loop.iterate 2 name_x (Rel.named name_a)
    (Rel.loop Loop.iterate 1 name_y (Rel.named name_x) (Rel.concat (Rel.named name_y) (Rel.named name_b))))

-- input a/1; input b/1; output except(a, b);
abbrev pub in_a_alone : Program
in_a_alone = query_on_a_and_b (Rel.except (Rel.named name_a) (Rel.named name_b))

-- input a/1; input b/1; output intersect(a, b);
abbrev pub in_a_and_b : Program
in_a_and_b = query_on_a_and_b (Rel.intersect (Rel.named name_a) (Rel.named name_b))

-- input a/1; input b/1; output iterate(2; x = a; except(b, x));
abbrev pub except_in_loop : Program
except_in_loop = query_on_a_and_b (Rel.loop Loop.iterate 2 name_x (Rel.named name_a) (Rel.except (Rel.named name_b) (Rel.named name_x)))

-- input a/1; output x = where(a; #0 < 5); output y = a;
abbrev pub small_and_all : Program
small_and_all =
    record {
      inputs = input_of name_a 1 ∷ [];
      lets = [];
      outputs = output_as name_x (Rel.filter (Rel.named name_a) (Cond.compare Comparison.less (Scalar.column 0) (Scalar.literal (pos 5))))
          ∷ output_as name_y (Rel.named name_a) ∷ [];
    }

-- input a/1; let x = select(a; #0 + 1); output y = a; output e = group(x; #0; min #0);
abbrev pub least_of_let : Program
least_of_let =
    record {
      inputs = input_of name_a 1 ∷ [];
      lets = record { name = name_x; value = Rel.select (Rel.named name_a) first_plus_1 } ∷ [];
      outputs = output_as name_y (Rel.named name_a) ∷ output_as name_e (Rel.group (Rel.named name_x) (0 ∷ []) (Agg.min 0 ∷ [])) ∷ [];
    }

-- input a/1; output a; output out = a;
abbrev pub twice_out : Program
twice_out =
    record {
      inputs = input_of name_a 1 ∷ [];
      lets = [];
      outputs = output_as name_out (Rel.named name_a) ∷ output_as name_out (Rel.named name_a) ∷ [];
    }

-- the records 1, 1 and 2 of the first input, and 2 and 3 of the second
abbrev pub a_and_b : (input : ℕ) → List Record
a_and_b zero = one_field (pos 1) ∷ one_field (pos 1) ∷ one_field (pos 2) ∷ []
a_and_b (suc i) = one_field (pos 2) ∷ one_field (pos 3) ∷ []

-- the record 1 of the first input, and 1 and 2 of the second
abbrev pub one_and_two : (input : ℕ) → List Record
one_and_two zero = one_field (pos 1) ∷ []
one_and_two (suc i) = one_field (pos 1) ∷ one_field (pos 2) ∷ []

-- a time in one loop, in epoch 0
abbrev pub turn : ℕ → Time
turn c = record { epoch = 0; counters = c ∷ [] }
