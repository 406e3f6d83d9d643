-- A board that has just been opened.
use Rattle.std.proofs.Common.{◌≡◌, ◌∙◌, ℕ, Bool, List, length, ap, subst}
use Rattle.graph.specs.Shown.{GraphValue}
use Rattle.board.specs.Shown.{Shown}
use Rattle.board.specs.Promises.{IsOpening}
use Rattle.schedule.specs.Commands.{Command}
use Rattle.schedule.specs.ScheduleText.{IsScheduleText}
use Rattle.replay.specs.Replays.{Replays, Setting}
use Rattle.replay.specs.Steps.{AnswersText, setting_of, setting_on}
use Rattle.replay.specs.Waits.{State, at_first, kind_of}

set : (late : Bool) (s : Shown) (g : GraphValue) (n : ℕ) → s.graph ≡ g → length s.sides ≡ n → setting_of late s ≡ setting_on (kind_of late) g n
set late s g n same count = ap (λ x. setting_on (kind_of late) x (length s.sides)) same ∙ ap (λ (k : ℕ). setting_on (kind_of late) g k) count

pub opened_replays : (late : Bool) (g h : GraphValue) (workers : ℕ) (s : Shown) (text answer : List ℕ) (commands : List Command) → IsOpening h workers s → h ≡ g → IsScheduleText (kind_of late) text commands
    → (last : State) × Replays (setting_of late s) at_first commands last answer → AnswersText (kind_of late) g workers text answer
opened_replays late g h workers s text answer commands o same read replays = record {
  commands = commands;
  read = read;
  last = replays.0;
  replays = subst (λ (x : Setting). Replays x at_first commands replays.0 answer) (set late s g workers (o.graph ∙ same) o.workers) replays.1;
}
