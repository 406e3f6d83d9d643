-- Changes and questions, one after another.
use Rattle.std.proofs.Common.{◌≡◌, ℕ, zero, suc, ◌+◌, ◌-◌, ◌≤◌, ◌<◌, Bool, List, [], ◌∷◌, ◌++◌, length, drop, refl, sym, ap, subst, arith, append_assoc}
use Rattle.std.specs.Prelude.{IsTrue, ◌↔◌}
use Rattle.semantics.specs.Graph.{Graph}
use Rattle.semantics.specs.Could.{Pointstamp, NoOtherOf, CouldResultIn}
use Rattle.machine.specs.Active.{one_if_same}
use Rattle.simple_trackers.specs.declared.change.Change.{Change}
use Rattle.simple_trackers.specs.declared.change.Change.TheVariants.{Add, Remove, Ask}
use Rattle.simple_trackers.specs.Asked.{content_after, ArePossible, AreAnswers}

-- these answers were given for the list's first changes, and what is active goes on with the others
pub record IsMade (g : Graph) (old : Pointstamp → ℕ) (all : List Change) (now : Pointstamp → ℕ) (others : List Change) (given : List Bool) : Type 0 where
  pub possible : ArePossible g now others
  pub content : (q : Pointstamp) → content_after now others q ≡ content_after old all q
  pub answers : (more : List Bool) → AreAnswers (CouldResultIn g) now others more → AreAnswers (CouldResultIn g) old all (given ++ more)

pub none_made : (g : Graph) (old : Pointstamp → ℕ) (all : List Change) → ArePossible g old all → IsMade g old all old all []
none_made g old all p = record { possible = p; content = λ q. refl; answers = λ more a. a }

pub added : (g : Graph) (old now now' : Pointstamp → ℕ) (all others : List Change) (given : List Bool) (p : Pointstamp) → IsMade g old all now (Add p ∷ others) given → ((q : Pointstamp) → now' q ≡ one_if_same q p + now q) → IsMade g old all now' others given
added g old now now' all others given p m e =
    subst (λ (f : Pointstamp → ℕ). IsMade g old all f others given) (λ i q. sym (e q) i) (record { possible = m.possible.1; content = m.content; answers = m.answers })

pub removed : (g : Graph) (old now now' : Pointstamp → ℕ) (all others : List Change) (given : List Bool) (p : Pointstamp) → IsMade g old all now (Remove p ∷ others) given → ((q : Pointstamp) → now q ≡ one_if_same q p + now' q) → IsMade g old all now' others given
removed g old now now' all others given p m e =
    subst (λ (f : Pointstamp → ℕ). IsMade g old all f others given) (λ i q. less q i) (record { possible = m.possible.1; content = m.content; answers = m.answers })
  where
    less : (q : Pointstamp) → now q - one_if_same q p ≡ now' q
    less q = let a = e q in omega arith

pub answered : (g : Graph) (old now : Pointstamp → ℕ) (all others : List Change) (given : List Bool) (p : Pointstamp) (b : Bool) → IsMade g old all now (Ask p ∷ others) given → (IsTrue b ↔ NoOtherOf (CouldResultIn g) (λ q. 0 < now q) p) → IsMade g old all now others (given ++ (b ∷ []))
answered g old now all others given p b m is =
    record {
      possible = m.possible.1;
      content = m.content;
      answers = λ more a. subst (AreAnswers (CouldResultIn g) old all) (sym (append_assoc given (b ∷ []) more)) (m.answers (b ∷ more) (is, a));
    }

drop_all : (xs : List Change) (n : ℕ) → length xs ≤ n → drop n xs ≡ []
drop_all [] zero l = refl
drop_all [] (suc n) l = refl
drop_all (x ∷ xs) zero l = absurd (omega arith)
drop_all (x ∷ xs) (suc n) l = drop_all xs n (omega arith)

nothing_more : (given : List Bool) → given ++ [] ≡ given
nothing_more [] = refl
nothing_more (b ∷ given) = ap (λ (l : List Bool). b ∷ l) (nothing_more given)

pub all_answers : (g : Graph) (old now : Pointstamp → ℕ) (all : List Change) (n : ℕ) (given : List Bool) → length all ≤ n → IsMade g old all now (drop n all) given → AreAnswers (CouldResultIn g) old all given
all_answers g old now all n given l m =
    let k : IsMade g old all now [] given = subst (λ (xs : List Change). IsMade g old all now xs given) (drop_all all n l) m in
    subst (AreAnswers (CouldResultIn g) old all) (nothing_more given) (k.answers [] tt)

pub all_content : (g : Graph) (old now : Pointstamp → ℕ) (all : List Change) (n : ℕ) (given : List Bool) → length all ≤ n → IsMade g old all now (drop n all) given → (q : Pointstamp) → now q ≡ content_after old all q
all_content g old now all n given l m q =
    let k : IsMade g old all now [] given = subst (λ (xs : List Change). IsMade g old all now xs given) (drop_all all n l) m in
    k.content q
