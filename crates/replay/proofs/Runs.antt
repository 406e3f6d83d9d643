-- Lines done one after another.
use Rattle.std.proofs.Common.{◌≡◌, ◌∙◌, ℕ, List, [], ◌∷◌, ◌++◌, length, Option, Bool, refl, sym, ap, subst}
use Rattle.std.specs.Prelude.{Result, Ok, Err}
use Rattle.events.specs.Jobs.{Pass}
use Rattle.board.specs.Shown.{Shown}
use Rattle.board.specs.Lateness.{BoardShown}
use Rattle.schedule.specs.Commands.{Command}
use Rattle.replay.specs.Hands.{HoldsAll, IsHand}
use Rattle.replay.specs.Replays.{Does, Replays, Setting, after_saying}
use Rattle.replay.specs.declared.refusal.Refusal.{Refusal}
use Rattle.replay.specs.declared.refusal.Refusal.TheVariants as refusal
use Rattle.replay.proofs.Holding.{hand_stays}
use Rattle.replay.specs.Steps.{Answers, LeadsFrom, Leads, Says, ShowsState, Stays, setting_of, setting_on}
use Rattle.replay.specs.Waits.{State, kind_of}

pub setting_same : (late : Bool) (s t : Shown) → Stays s t → setting_of late t ≡ setting_of late s
setting_same late s t h =
    ap (λ x. setting_on (kind_of late) x (length t.sides)) h.graph ∙ ap (λ (k : ℕ). setting_on (kind_of late) s.graph k) h.workers

-- from any state that the board showed at first, the lines lead to one that it shows now
pub record Replayed (late : Bool) (b c : BoardShown) (old new : List (Option Pass)) (commands : List Command) (text : List ℕ) : Type 0 where
  pub stays : Stays b.shown c.shown
  pub led : (x : State) → ShowsState b x → HoldsAll x.world (length b.shown.sides) old → (y : State) × ShowsState c y × HoldsAll y.world (length b.shown.sides) new × Replays (setting_of late b.shown) x commands y text

pub none_replayed : (late : Bool) (b : BoardShown) (hand : List (Option Pass)) → Replayed late b b hand hand [] []
none_replayed late b hand = record {
  stays = record { graph = refl; workers = refl; tables = refl };
  led = λ x shows holds. (x, shows, holds, Replays.replays_nothing);
}

pub more_replayed : (late : Bool) (b c d : BoardShown) (old hand new : List (Option Pass)) (commands : List Command) (command : Command) (before text : List ℕ) → Replayed late b c old hand commands before → Leads late c d hand new command text
    → Replayed late b d old new (commands ++ command ∷ []) (before ++ text)
more_replayed late b c d old hand new commands command before text r more = record {
  stays = record { graph = more.stays.graph ∙ r.stays.graph; workers = more.stays.workers ∙ r.stays.workers; tables = more.stays.tables ∙ r.stays.tables };
  led = λ x shows holds.
      let so_far = r.led x shows holds in
      let led : LeadsFrom late c d new command text so_far.0 = more.led so_far.0 so_far.1 (subst (λ (n : ℕ). HoldsAll so_far.0.world n hand) (sym r.stays.workers) so_far.2) in
      let does : Does (setting_of late b.shown) so_far.0 command led.after text = subst (λ (s : Setting). Does s so_far.0 command led.after text) (setting_same late b.shown c.shown r.stays) led.does in
      (led.after, led.shows, subst (λ (n : ℕ). HoldsAll led.after.world n new) r.stays.workers led.hand_after, Replays.replays_more commands command so_far.0 led.after before text so_far.3 does);
}

-- a question changes nothing but what was said
pub print_leads : (late : Bool) (b : BoardShown) (hand : List (Option Pass)) (epoch : ℕ) (text : List ℕ) → ((x : State) → ShowsState b x → Says late b epoch text x) → Leads late b b hand hand (Command.print epoch) text
print_leads late b hand epoch text says = record {
  stays = record { graph = refl; workers = refl; tables = refl };
  led = λ x shows holds. let s = says x shows in record { after = after_saying x s.told; shows = s.shows; hand_after = holds; does = Does.does_print epoch s.told text s.more s.prints };
}

-- a call that involves no worker leaves what is in hand the board's
pub answered_hand : (late : Bool) (b c : BoardShown) (hand : List (Option Pass)) (command : Command) (r : Result (Unit {0}) Refusal) → IsHand b.shown hand → Answers late b c hand hand command r → IsHand c.shown hand
answered_hand late b c hand command (Ok u) h a = hand_stays b.shown c.shown hand h a.stays
answered_hand late b c hand command (Err (refusal.Step code)) h a = hand_stays b.shown c.shown hand h a.stays
answered_hand late b c hand command (Err refusal.NoMemory) h a = hand_stays b.shown c.shown hand h a
