-- A schedule is read in one way, or refused for one fault.
use Rattle.std.proofs.Common.{◌≡◌, ◌<◌, ◌+◌, ◌^◌, ◌∙◌, ◌⊎◌, inl, inr, ℕ, suc, ℤ, pos, negsuc, List, [], ◌∷◌, ◌++◌, length, map, refl, sym, ap, subst, arith, decimal}
use Rattle.std.specs.List.{AllByRecursion}
use Rattle.std.specs.Fmt.{signed_decimal}
use Rattle.std.specs.Int.{w64}
use Rattle.std.specs.Int.RustNames.{FitsSigned}
use Rattle.std.proofs.lemmas.Fmt.{decimal_injective, decimal_nonempty, signed_decimal_injective}
use Rattle.std.proofs.lemmas.Int.{ints}
use Rattle.decimal.proofs.Numbers.{fits_mag}
use Rattle.collector.specs.Lines.{AreNumbers, IsFilled}
use Rattle.collector.proofs.OneReading.{front_same, head_same, none_after, none_in, not_empty, some_append, tail_same}
use Rattle.schedule.specs.Commands.{Command, IsProper, arguments, letter, verb_of}
use Rattle.schedule.specs.ScheduleText.{HasBadNumber, HasWords, IsFault, IsFormed, IsRefused, IsScheduleText, SayAll, Says, code_of}
use Rattle.schedule.specs.declared.verb.Verb.{Verb}
use Rattle.schedule.specs.declared.verb.Verb.TheVariants as verb
use Rattle.schedule.specs.declared.verb.ViewKind.{ViewKind}
use Rattle.schedule.specs.declared.refusal.Fault.{Fault}
use Rattle.schedule.specs.declared.refusal.Fault.TheVariants.{Malformed, BadNumber}
use Rattle.schedule.specs.declared.refusal.ScheduleRefusal.TheVariants.{At}

-- ---- words

-- a letter has at most one verb
one_verb : (v w : Verb) → letter v ≡ letter w → v ≡ w
one_verb verb.Feed verb.Feed e = refl
one_verb verb.Feed verb.Seal e = absurd (omega (arith, e))
one_verb verb.Feed verb.Close e = absurd (omega (arith, e))
one_verb verb.Feed verb.Take e = absurd (omega (arith, e))
one_verb verb.Feed verb.Commit e = absurd (omega (arith, e))
one_verb verb.Feed verb.Deliver e = absurd (omega (arith, e))
one_verb verb.Feed verb.Print e = absurd (omega (arith, e))
one_verb verb.Feed verb.Apply e = absurd (omega (arith, e))
one_verb verb.Seal verb.Feed e = absurd (omega (arith, e))
one_verb verb.Seal verb.Seal e = refl
one_verb verb.Seal verb.Close e = absurd (omega (arith, e))
one_verb verb.Seal verb.Take e = absurd (omega (arith, e))
one_verb verb.Seal verb.Commit e = absurd (omega (arith, e))
one_verb verb.Seal verb.Deliver e = absurd (omega (arith, e))
one_verb verb.Seal verb.Print e = absurd (omega (arith, e))
one_verb verb.Seal verb.Apply e = absurd (omega (arith, e))
one_verb verb.Close verb.Feed e = absurd (omega (arith, e))
one_verb verb.Close verb.Seal e = absurd (omega (arith, e))
one_verb verb.Close verb.Close e = refl
one_verb verb.Close verb.Take e = absurd (omega (arith, e))
one_verb verb.Close verb.Commit e = absurd (omega (arith, e))
one_verb verb.Close verb.Deliver e = absurd (omega (arith, e))
one_verb verb.Close verb.Print e = absurd (omega (arith, e))
one_verb verb.Close verb.Apply e = absurd (omega (arith, e))
one_verb verb.Take verb.Feed e = absurd (omega (arith, e))
one_verb verb.Take verb.Seal e = absurd (omega (arith, e))
one_verb verb.Take verb.Close e = absurd (omega (arith, e))
one_verb verb.Take verb.Take e = refl
one_verb verb.Take verb.Commit e = absurd (omega (arith, e))
one_verb verb.Take verb.Deliver e = absurd (omega (arith, e))
one_verb verb.Take verb.Print e = absurd (omega (arith, e))
one_verb verb.Take verb.Apply e = absurd (omega (arith, e))
one_verb verb.Commit verb.Feed e = absurd (omega (arith, e))
one_verb verb.Commit verb.Seal e = absurd (omega (arith, e))
one_verb verb.Commit verb.Close e = absurd (omega (arith, e))
one_verb verb.Commit verb.Take e = absurd (omega (arith, e))
one_verb verb.Commit verb.Commit e = refl
one_verb verb.Commit verb.Deliver e = absurd (omega (arith, e))
one_verb verb.Commit verb.Print e = absurd (omega (arith, e))
one_verb verb.Commit verb.Apply e = absurd (omega (arith, e))
one_verb verb.Deliver verb.Feed e = absurd (omega (arith, e))
one_verb verb.Deliver verb.Seal e = absurd (omega (arith, e))
one_verb verb.Deliver verb.Close e = absurd (omega (arith, e))
one_verb verb.Deliver verb.Take e = absurd (omega (arith, e))
one_verb verb.Deliver verb.Commit e = absurd (omega (arith, e))
one_verb verb.Deliver verb.Deliver e = refl
one_verb verb.Deliver verb.Print e = absurd (omega (arith, e))
one_verb verb.Deliver verb.Apply e = absurd (omega (arith, e))
one_verb verb.Print verb.Feed e = absurd (omega (arith, e))
one_verb verb.Print verb.Seal e = absurd (omega (arith, e))
one_verb verb.Print verb.Close e = absurd (omega (arith, e))
one_verb verb.Print verb.Take e = absurd (omega (arith, e))
one_verb verb.Print verb.Commit e = absurd (omega (arith, e))
one_verb verb.Print verb.Deliver e = absurd (omega (arith, e))
one_verb verb.Print verb.Print e = refl
one_verb verb.Print verb.Apply e = absurd (omega (arith, e))
one_verb verb.Apply verb.Feed e = absurd (omega (arith, e))
one_verb verb.Apply verb.Seal e = absurd (omega (arith, e))
one_verb verb.Apply verb.Close e = absurd (omega (arith, e))
one_verb verb.Apply verb.Take e = absurd (omega (arith, e))
one_verb verb.Apply verb.Commit e = absurd (omega (arith, e))
one_verb verb.Apply verb.Deliver e = absurd (omega (arith, e))
one_verb verb.Apply verb.Print e = absurd (omega (arith, e))
one_verb verb.Apply verb.Apply e = refl

verb_same : (kind : ViewKind) (line : List ℕ) (v w : Verb) (r s : List (List ℕ)) → HasWords kind line v r → HasWords kind line w s → v ≡ w
verb_same kind line v w r s a b = one_verb v w (head_same (letter v) (letter w) [] [] (head_same (letter v ∷ []) (letter w ∷ []) r s (sym a.split ∙ b.split)))

words_same : (kind : ViewKind) (line : List ℕ) (v w : Verb) (r s : List (List ℕ)) → HasWords kind line v r → HasWords kind line w s → r ≡ s
words_same kind line v w r s a b = tail_same (letter v ∷ []) (letter w ∷ []) r s (sym a.split ∙ b.split)

one_fields : (xs ys : List ℤ) → AllByRecursion (FitsSigned w64) xs → AllByRecursion (FitsSigned w64) ys → map signed_decimal xs ≡ map signed_decimal ys → xs ≡ ys
one_fields [] [] f g e = refl
one_fields [] (y ∷ ys) f g e = absurd cc
one_fields (x ∷ xs) [] f g e = absurd cc
one_fields (x ∷ xs) (y ∷ ys) f g e =
    let first : x ≡ y = signed_decimal_injective x y (fits_mag x f.0) (fits_mag y g.0) (head_same (signed_decimal x) (signed_decimal y) (map signed_decimal xs) (map signed_decimal ys) e) in
    let rest : xs ≡ ys = one_fields xs ys f.1 g.1 (tail_same (signed_decimal x) (signed_decimal y) (map signed_decimal xs) (map signed_decimal ys) e) in
    cc

one_count : (m n : ℕ) (r s : List (List ℕ)) → m < 2 ^ 32 → n < 2 ^ 32 → decimal m ∷ r ≡ decimal n ∷ s → m ≡ n
one_count m n r s l k e = decimal_injective m n (omega (arith, l)) (omega (arith, k)) (head_same (decimal m) (decimal n) r s e)

-- the arguments of a verb's commands determine the command
command_same : (x y : Command) → verb_of x ≡ verb_of y → arguments x ≡ arguments y → IsProper x → IsProper y → x ≡ y
command_same (Command.feed ix fx) (Command.feed iy fy) v e p q = let first : ix ≡ iy = head_same ix iy (map signed_decimal fx) (map signed_decimal fy) e in let rest : fx ≡ fy = one_fields fx fy p.1 q.1 (tail_same ix iy (map signed_decimal fx) (map signed_decimal fy) e) in cc
command_same (Command.feed ix fx) (Command.seal iy) v e p q = absurd cc
command_same (Command.feed ix fx) (Command.close iy) v e p q = absurd cc
command_same (Command.feed ix fx) (Command.take wy cy) v e p q = absurd cc
command_same (Command.feed ix fx) (Command.commit wy) v e p q = absurd cc
command_same (Command.feed ix fx) (Command.deliver wy cy) v e p q = absurd cc
command_same (Command.feed ix fx) (Command.print ey) v e p q = absurd cc
command_same (Command.feed ix fx) (Command.apply wy cy) v e p q = absurd cc
command_same (Command.seal ix) (Command.feed iy fy) v e p q = absurd cc
command_same (Command.seal ix) (Command.seal iy) v e p q = let first : ix ≡ iy = head_same ix iy [] [] e in cc
command_same (Command.seal ix) (Command.close iy) v e p q = absurd cc
command_same (Command.seal ix) (Command.take wy cy) v e p q = absurd cc
command_same (Command.seal ix) (Command.commit wy) v e p q = absurd cc
command_same (Command.seal ix) (Command.deliver wy cy) v e p q = absurd cc
command_same (Command.seal ix) (Command.print ey) v e p q = absurd cc
command_same (Command.seal ix) (Command.apply wy cy) v e p q = absurd cc
command_same (Command.close ix) (Command.feed iy fy) v e p q = absurd cc
command_same (Command.close ix) (Command.seal iy) v e p q = absurd cc
command_same (Command.close ix) (Command.close iy) v e p q = let first : ix ≡ iy = head_same ix iy [] [] e in cc
command_same (Command.close ix) (Command.take wy cy) v e p q = absurd cc
command_same (Command.close ix) (Command.commit wy) v e p q = absurd cc
command_same (Command.close ix) (Command.deliver wy cy) v e p q = absurd cc
command_same (Command.close ix) (Command.print ey) v e p q = absurd cc
command_same (Command.close ix) (Command.apply wy cy) v e p q = absurd cc
command_same (Command.take wx cx) (Command.feed iy fy) v e p q = absurd cc
command_same (Command.take wx cx) (Command.seal iy) v e p q = absurd cc
command_same (Command.take wx cx) (Command.close iy) v e p q = absurd cc
command_same (Command.take wx cx) (Command.take wy cy) v e p q = let first : wx ≡ wy = one_count wx wy (decimal cx ∷ []) (decimal cy ∷ []) p.0 q.0 e in let rest : cx ≡ cy = one_count cx cy [] [] p.1 q.1 (tail_same (decimal wx) (decimal wy) (decimal cx ∷ []) (decimal cy ∷ []) e) in cc
command_same (Command.take wx cx) (Command.commit wy) v e p q = absurd cc
command_same (Command.take wx cx) (Command.deliver wy cy) v e p q = absurd cc
command_same (Command.take wx cx) (Command.print ey) v e p q = absurd cc
command_same (Command.take wx cx) (Command.apply wy cy) v e p q = absurd cc
command_same (Command.commit wx) (Command.feed iy fy) v e p q = absurd cc
command_same (Command.commit wx) (Command.seal iy) v e p q = absurd cc
command_same (Command.commit wx) (Command.close iy) v e p q = absurd cc
command_same (Command.commit wx) (Command.take wy cy) v e p q = absurd cc
command_same (Command.commit wx) (Command.commit wy) v e p q = let first : wx ≡ wy = one_count wx wy [] [] p q e in cc
command_same (Command.commit wx) (Command.deliver wy cy) v e p q = absurd cc
command_same (Command.commit wx) (Command.print ey) v e p q = absurd cc
command_same (Command.commit wx) (Command.apply wy cy) v e p q = absurd cc
command_same (Command.deliver wx cx) (Command.feed iy fy) v e p q = absurd cc
command_same (Command.deliver wx cx) (Command.seal iy) v e p q = absurd cc
command_same (Command.deliver wx cx) (Command.close iy) v e p q = absurd cc
command_same (Command.deliver wx cx) (Command.take wy cy) v e p q = absurd cc
command_same (Command.deliver wx cx) (Command.commit wy) v e p q = absurd cc
command_same (Command.deliver wx cx) (Command.deliver wy cy) v e p q = let first : wx ≡ wy = one_count wx wy (decimal cx ∷ []) (decimal cy ∷ []) p.0 q.0 e in let rest : cx ≡ cy = one_count cx cy [] [] p.1 q.1 (tail_same (decimal wx) (decimal wy) (decimal cx ∷ []) (decimal cy ∷ []) e) in cc
command_same (Command.deliver wx cx) (Command.print ey) v e p q = absurd cc
command_same (Command.deliver wx cx) (Command.apply wy cy) v e p q = absurd cc
command_same (Command.print ex) (Command.feed iy fy) v e p q = absurd cc
command_same (Command.print ex) (Command.seal iy) v e p q = absurd cc
command_same (Command.print ex) (Command.close iy) v e p q = absurd cc
command_same (Command.print ex) (Command.take wy cy) v e p q = absurd cc
command_same (Command.print ex) (Command.commit wy) v e p q = absurd cc
command_same (Command.print ex) (Command.deliver wy cy) v e p q = absurd cc
command_same (Command.print ex) (Command.print ey) v e p q = let first : ex ≡ ey = one_count ex ey [] [] p q e in cc
command_same (Command.print ex) (Command.apply wy cy) v e p q = absurd cc
command_same (Command.apply wx cx) (Command.feed iy fy) v e p q = absurd cc
command_same (Command.apply wx cx) (Command.seal iy) v e p q = absurd cc
command_same (Command.apply wx cx) (Command.close iy) v e p q = absurd cc
command_same (Command.apply wx cx) (Command.take wy cy) v e p q = absurd cc
command_same (Command.apply wx cx) (Command.commit wy) v e p q = absurd cc
command_same (Command.apply wx cx) (Command.deliver wy cy) v e p q = absurd cc
command_same (Command.apply wx cx) (Command.print ey) v e p q = absurd cc
command_same (Command.apply wx cx) (Command.apply wy cy) v e p q = let first : wx ≡ wy = one_count wx wy (decimal cx ∷ []) (decimal cy ∷ []) p.0 q.0 e in let rest : cx ≡ cy = one_count cx cy [] [] p.1 q.1 (tail_same (decimal wx) (decimal wy) (decimal cx ∷ []) (decimal cy ∷ []) e) in cc

-- a line says at most one command
one_command : (kind : ViewKind) (line : List ℕ) (x y : Command) → Says kind line x → Says kind line y → x ≡ y
one_command kind line x y g h = command_same x y (verb_same kind line (verb_of x) (verb_of y) (arguments x) (arguments y) g.words h.words) (words_same kind line (verb_of x) (verb_of y) (arguments x) (arguments y) g.words h.words) g.proper h.proper

-- ---- faults

filled : (n : ℕ) → n < 2 ^ 32 → IsFilled (decimal n)
filled n l = decimal_nonempty n (omega (arith, l))

filled_signed : (z : ℤ) → FitsSigned w64 z → IsFilled (signed_decimal z)
filled_signed (pos n) f = decimal_nonempty n (omega (arith, ints))
filled_signed (negsuc n) f = omega arith

filled_fields : (zs : List ℤ) → AllByRecursion (FitsSigned w64) zs → AllByRecursion IsFilled (map signed_decimal zs)
filled_fields [] f = tt
filled_fields (z ∷ zs) f = (filled_signed z f.0, filled_fields zs f.1)

-- a command's words have its verb's form
formed : (x : Command) → IsProper x → IsFormed (verb_of x) (arguments x)
formed (Command.feed input fields) p = (p.0, filled_fields fields p.1)
formed (Command.seal input) p = ((p, tt), refl)
formed (Command.close input) p = ((p, tt), refl)
formed (Command.take worker choice) p = record { counted = refl; filled = (filled worker p.0, (filled choice p.1, tt)) }
formed (Command.commit worker) p = record { counted = refl; filled = (filled worker p, tt) }
formed (Command.deliver worker choice) p = record { counted = refl; filled = (filled worker p.0, (filled choice p.1, tt)) }
formed (Command.print epoch) p = record { counted = refl; filled = (filled epoch p, tt) }
formed (Command.apply worker sender) p = record { counted = refl; filled = (filled worker p.0, (filled sender p.1, tt)) }

numbers : (zs : List ℤ) → AllByRecursion (FitsSigned w64) zs → AreNumbers (map signed_decimal zs) zs
numbers [] f = tt
numbers (z ∷ zs) f = ((f.0, refl), numbers zs f.1)

-- a command's words have no bad number
sound : (x : Command) → IsProper x → HasBadNumber (verb_of x) (arguments x) → ⊥
sound (Command.feed input fields) p h = h fields (numbers fields p.1)
sound (Command.seal input) p h = h
sound (Command.close input) p h = h
sound (Command.take worker choice) p h = h (worker ∷ choice ∷ []) ((p.0, refl), ((p.1, refl), tt))
sound (Command.commit worker) p h = h (worker ∷ []) ((p, refl), tt)
sound (Command.deliver worker choice) p h = h (worker ∷ choice ∷ []) ((p.0, refl), ((p.1, refl), tt))
sound (Command.print epoch) p h = h (epoch ∷ []) ((p, refl), tt)
sound (Command.apply worker sender) p h = h (worker ∷ sender ∷ []) ((p.0, refl), ((p.1, refl), tt))

-- a line that says a command has no fault
said_sound : (kind : ViewKind) (line : List ℕ) (x : Command) (f : Fault) → Says kind line x → IsFault kind line f → ⊥
said_sound kind line x Malformed g h = h (verb_of x) (arguments x) g.words (formed x g.proper)
said_sound kind line x BadNumber g h =
    let verbs : h.0 ≡ verb_of x = verb_same kind line h.0 (verb_of x) h.1 (arguments x) h.2 g.words in
    let words : h.1 ≡ arguments x = words_same kind line h.0 (verb_of x) h.1 (arguments x) h.2 g.words in
    sound x g.proper (subst (λ v. HasBadNumber v (arguments x)) verbs (subst (λ ws. HasBadNumber h.0 ws) words h.4))

one_fault : (kind : ViewKind) (line : List ℕ) (f k : Fault) → IsFault kind line f → IsFault kind line k → f ≡ k
one_fault kind line Malformed Malformed g h = refl
one_fault kind line Malformed BadNumber g h = absurd (g h.0 h.1 h.2 h.3)
one_fault kind line BadNumber Malformed g h = absurd (h g.0 g.1 g.2 g.3)
one_fault kind line BadNumber BadNumber g h = refl

-- ---- lines

one_reading : (kind : ViewKind) (lines : List (List ℕ)) (xs ys : List Command) → SayAll kind lines xs → SayAll kind lines ys → xs ≡ ys
one_reading kind [] [] [] g h = refl
one_reading kind [] [] (y ∷ ys) g h = absurd h
one_reading kind [] (x ∷ xs) ys g h = absurd g
one_reading kind (l ∷ ls) [] ys g h = absurd g
one_reading kind (l ∷ ls) (x ∷ xs) [] g h = absurd h
one_reading kind (l ∷ ls) (x ∷ xs) (y ∷ ys) g h =
    let same : x ≡ y = one_command kind l x y g.0 h.0 in
    let rest : xs ≡ ys = one_reading kind ls xs ys g.1 h.1 in
    cc

-- a refusal is right about its line
abbrev Faulty : ViewKind → List ℕ → List (List ℕ) → ℕ → Type 0
Faulty kind line rest code = ((code ≡ 43) × (0 < length line) × (rest ≡ [])) ⊎ ((fault : Fault) × (code ≡ code_of fault) × (0 < length rest) × IsFault kind line fault)

one_code : (kind : ViewKind) (line : List ℕ) (rest : List (List ℕ)) (c d : ℕ) → Faulty kind line rest c → Faulty kind line rest d → c ≡ d
one_code kind line rest c d (inl g) (inl h) = g.0 ∙ sym h.0
one_code kind line rest c d (inl g) (inr h) = absurd (none_after rest g.2 h.2)
one_code kind line rest c d (inr g) (inl h) = absurd (none_after rest h.2 g.2)
one_code kind line rest c d (inr g) (inr h) = g.1 ∙ ap code_of (one_fault kind line g.0 h.0 g.3 h.3) ∙ sym h.1

-- a line that says a command and isn't the last isn't faulty
said_faulty : (kind : ViewKind) (line : List ℕ) (rest : List (List ℕ)) (c : ℕ) (x : Command) → Says kind line x → 0 < length rest → Faulty kind line rest c → ⊥
said_faulty kind line rest c x g l (inl h) = none_after rest h.2 l
said_faulty kind line rest c x g l (inr h) = said_sound kind line x h.0 g h.3

-- if some lines say commands and the next is faulty, that can be seen in one way only
one_stop : (kind : ViewKind) (bs : List (List ℕ)) (xs : List Command) (k : List ℕ) (r : List (List ℕ)) (c : ℕ) (ds : List (List ℕ)) (ys : List Command) (l : List ℕ) (s : List (List ℕ)) (d : ℕ)
    → SayAll kind bs xs → SayAll kind ds ys → bs ++ k ∷ r ≡ ds ++ l ∷ s → Faulty kind k r c → Faulty kind l s d → (length bs ≡ length ds) × (c ≡ d)
one_stop kind [] [] k r c [] [] l s d g h is f t =
    let line : k ≡ l = head_same k l r s is in
    let rest : r ≡ s = tail_same k l r s is in
    (refl, one_code kind l s c d (subst (λ z. Faulty kind l z c) rest (subst (λ z. Faulty kind z r c) line f)) t)
one_stop kind [] [] k r c (b ∷ ds) (y ∷ ys) l s d g h is f t =
    let line : k ≡ b = head_same k b r (ds ++ l ∷ s) is in
    let rest : r ≡ ds ++ l ∷ s = tail_same k b r (ds ++ l ∷ s) is in
    absurd (said_faulty kind b r c y h.0 (subst (λ z. 0 < length z) (sym rest) (some_append ds s l)) (subst (λ z. Faulty kind z r c) line f))
one_stop kind (b ∷ bs) (x ∷ xs) k r c [] [] l s d g h is f t =
    let line : b ≡ l = head_same b l (bs ++ k ∷ r) s is in
    let rest : bs ++ k ∷ r ≡ s = tail_same b l (bs ++ k ∷ r) s is in
    absurd (said_faulty kind b s d x g.0 (subst (λ z. 0 < length z) rest (some_append bs r k)) (subst (λ z. Faulty kind z s d) (sym line) t))
one_stop kind (a ∷ bs) (x ∷ xs) k r c (b ∷ ds) (y ∷ ys) l s d g h is f t =
    let more = one_stop kind bs xs k r c ds ys l s d g.1 h.1 (tail_same a b (bs ++ k ∷ r) (ds ++ l ∷ s) is) f t in
    (ap suc more.0, more.1)
one_stop kind [] (x ∷ xs) k r c ds ys l s d g h is f t = absurd g
one_stop kind (b ∷ bs) [] k r c ds ys l s d g h is f t = absurd g
one_stop kind bs xs k r c [] (y ∷ ys) l s d g h is f t = absurd h
one_stop kind bs xs k r c (b ∷ ds) [] l s d g h is f t = absurd h

-- lines that say commands, up to the empty one after the last line feed, have no faulty one
none_faulty : (kind : ViewKind) (ls : List (List ℕ)) (xs : List Command) (bs : List (List ℕ)) (ys : List Command) (k : List ℕ) (r : List (List ℕ)) (c : ℕ) → SayAll kind ls xs → SayAll kind bs ys → ls ++ [] ∷ [] ≡ bs ++ k ∷ r → Faulty kind k r c → ⊥
none_faulty kind [] [] [] [] k r c g h is (inl f) = none_in k r is f.1
none_faulty kind [] [] [] [] k r c g h is (inr f) = none_after r (sym (tail_same [] k [] r is)) f.2
none_faulty kind [] [] (b ∷ bs) (y ∷ ys) k r c g h is f = not_empty bs r k (tail_same [] b [] (bs ++ k ∷ r) is)
none_faulty kind (l ∷ ls) (x ∷ xs) [] [] k r c g h is f =
    let line : l ≡ k = head_same l k (ls ++ [] ∷ []) r is in
    let rest : ls ++ [] ∷ [] ≡ r = tail_same l k (ls ++ [] ∷ []) r is in
    said_faulty kind l r c x g.0 (subst (λ z. 0 < length z) rest (some_append ls [] [])) (subst (λ z. Faulty kind z r c) (sym line) f)
none_faulty kind (l ∷ ls) (x ∷ xs) (b ∷ bs) (y ∷ ys) k r c g h is f = none_faulty kind ls xs bs ys k r c g.1 h.1 (tail_same l b (ls ++ [] ∷ []) (bs ++ k ∷ r) is) f
none_faulty kind [] (x ∷ xs) bs ys k r c g h is f = absurd g
none_faulty kind (l ∷ ls) [] bs ys k r c g h is f = absurd g
none_faulty kind ls xs [] (y ∷ ys) k r c g h is f = absurd h
none_faulty kind ls xs (b ∷ bs) [] k r c g h is f = absurd h

-- ---- texts

pub one_text : (kind : ViewKind) (text : List ℕ) (cs ds : List Command) → IsScheduleText kind text cs → IsScheduleText kind text ds → cs ≡ ds
one_text kind text cs ds g h =
    let lines : g.lines ≡ h.lines = front_same g.lines h.lines (sym g.parts ∙ h.parts) in
    one_reading kind h.lines cs ds (subst (λ ls. SayAll kind ls cs) lines g.said) h.said

pub apart : (kind : ViewKind) (text : List ℕ) (cs : List Command) (code line : ℕ) → IsScheduleText kind text cs → IsRefused kind text (At code line) → ⊥
apart kind text cs code line g h = none_faulty kind g.lines cs h.0 h.1 h.4 h.5 code g.said h.2 (sym g.parts ∙ h.6) h.7

pub one_refusal : (kind : ViewKind) (text : List ℕ) (code line other place : ℕ) → IsRefused kind text (At code line) → IsRefused kind text (At other place) → (code ≡ other) × (line ≡ place)
one_refusal kind text code line other place g h =
    let same = one_stop kind g.0 g.1 g.4 g.5 code h.0 h.1 h.4 h.5 other g.2 h.2 (sym g.6 ∙ h.6) g.7 h.7 in
    (same.1, g.3 ∙ ap (λ k. k + 1) same.0 ∙ sym h.3)
