-- The lines of a schedule, read one after another.
use Rattle.std.proofs.Common.{◌≡◌, ◌<◌, ◌≤◌, ◌+◌, ◌∙◌, ℕ, List, [], ◌∷◌, ◌++◌, length, refl, sym, ap, arith, append_assoc, inl, inr}
use Rattle.std.proofs.lemmas.List.{length-append}
use Rattle.collector.specs.Pieces.{split_on}
use Rattle.collector.proofs.LinesRead.{filled}
use Rattle.schedule.specs.Commands.{Command}
use Rattle.schedule.specs.ScheduleText.{Says, IsFault, IsRefused, IsScheduleText, SayAll, code_of}
use Rattle.schedule.specs.declared.refusal.Fault.{Fault}
use Rattle.schedule.specs.declared.verb.ViewKind.{ViewKind}
use Rattle.schedule.specs.declared.refusal.ScheduleRefusal.TheVariants.{At}

say_push : (kind : ViewKind) (lines : List (List ℕ)) (commands : List Command) (line : List ℕ) (command : Command) → SayAll kind lines commands → Says kind line command → SayAll kind (lines ++ line ∷ []) (commands ++ command ∷ [])
say_push kind [] [] line command h g = (g, tt)
say_push kind [] (c ∷ cs) line command h g = absurd h
say_push kind (l ∷ ls) [] line command h g = absurd h
say_push kind (l ∷ ls) (c ∷ cs) line command h g = (h.0, say_push kind ls cs line command h.1 g)

-- some lines were read as commands; the rest of the text has the others
pub record ReadSoFar (kind : ViewKind) (text rest : List ℕ) (number : ℕ) (commands : List Command) : Type 0 where
  pub lines : List (List ℕ)
  pub said : SayAll kind lines commands
  pub parts : split_on 10 text ≡ lines ++ split_on 10 rest
  pub counted : number ≡ length lines
  pub short : number + length rest ≤ length text

pub nothing_read : (kind : ViewKind) (text : List ℕ) → ReadSoFar kind text text 0 []
nothing_read kind text = record { lines = []; said = tt; parts = refl; counted = refl; short = omega arith }

pub next_read : (kind : ViewKind) (text rest line after : List ℕ) (n : ℕ) (commands : List Command) (command : Command) → ReadSoFar kind text rest n commands → split_on 10 rest ≡ line ∷ split_on 10 after → length after < length rest
    → Says kind line command → ReadSoFar kind text after (n + 1) (commands ++ command ∷ [])
next_read kind text rest line after n commands command r cut less says = record {
  lines = r.lines ++ line ∷ [];
  said = say_push kind r.lines commands line command r.said says;
  parts = r.parts ∙ ap (λ (ls : List (List ℕ)). r.lines ++ ls) cut ∙ sym (append_assoc r.lines (line ∷ []) (split_on 10 after));
  counted = ap (λ k. k + 1) r.counted ∙ sym (length-append r.lines (line ∷ []));
  short = omega (arith, r.short, less);
}

-- a line that has its line feed has a fault
pub faulty : (kind : ViewKind) (text rest line after : List ℕ) (n : ℕ) (commands : List Command) (fault : Fault) (code number : ℕ) → ReadSoFar kind text rest n commands → split_on 10 rest ≡ line ∷ split_on 10 after
    → IsFault kind line fault → code ≡ code_of fault → number ≡ n + 1 → IsRefused kind text (At code number)
faulty kind text rest line after n commands fault code number r cut bad is at = (
  r.lines,
  commands,
  r.said,
  at ∙ ap (λ k. k + 1) r.counted,
  line,
  split_on 10 after,
  r.parts ∙ ap (λ (ls : List (List ℕ)). r.lines ++ ls) cut,
  inr (fault, is, filled after, bad),
)

-- the last line has no line feed
pub unended : (kind : ViewKind) (text rest : List ℕ) (n : ℕ) (commands : List Command) (code number : ℕ) → ReadSoFar kind text rest n commands → split_on 10 rest ≡ rest ∷ [] → 0 < length rest → code ≡ 43 → number ≡ n + 1 → IsRefused kind text (At code number)
unended kind text rest n commands code number r cut some is at =
    (r.lines, commands, r.said, at ∙ ap (λ k. k + 1) r.counted, rest, [], r.parts ∙ ap (λ (ls : List (List ℕ)). r.lines ++ ls) cut, inl (is, some, refl))

-- no line is left
pub all_read : (kind : ViewKind) (text rest : List ℕ) (n : ℕ) (commands : List Command) → ReadSoFar kind text rest n commands → rest ≡ [] → IsScheduleText kind text commands
all_read kind text rest n commands r none = record { lines = r.lines; parts = r.parts ∙ ap (λ (bs : List ℕ). r.lines ++ split_on 10 bs) none; said = r.said }
