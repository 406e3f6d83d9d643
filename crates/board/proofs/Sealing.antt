-- What a board shows after a seal or a close.
use Rattle.std.proofs.Common.{◌≡◌, ◌<◌, ◌+◌, ℕ, suc, true, false, length, refl, sym, ap, ◌∙◌, arith}
use Rattle.semantics.specs.Kinds.{Role}
use Rattle.machine.specs.World.{World}
use Rattle.machine.specs.Step.{Step, Allowed, after_step}
use Rattle.board.specs.Shown.{Shown, InputShown, input_at, side_at, no_input, net, records_at}
use Rattle.board.specs.Showing.{Shows, known_shard}
use Rattle.board.specs.Steps.{after_seal, after_close}
use Rattle.board.proofs.Places.{put_set, same_set}
use Rattle.board.proofs.Still.{IsLater, after_still}

module _ (s : Shown) (w : World) (is : Shows s w) (i : ℕ) (there : i < length s.inputs) where
  module _ (role : (net s).role i ≡ Role.input) (open_still : (input_at s i).closed ≡ false) (runs : s.stopped ≡ false) where
    pub may_seal : Allowed (net s) w (Step.seal i)
    may_seal = (role, is.closed i ∙ open_still, is.stopped ∙ runs)

    pub may_close : Allowed (net s) w (Step.close i)
    may_close = (role, is.closed i ∙ open_still, is.stopped ∙ runs)

  pub shows_seal : IsLater s → Allowed (net s) w (Step.seal i) → Shows (after_seal s i) (after_step (net s) w (Step.seal i))
  shows_seal later ok =
      let x : InputShown = record (input_at s i) { open_epoch = (input_at s i).open_epoch + 1 } in
      record {
        stopped = is.stopped;
        open_epoch = put_set w.open_epoch (λ (z : InputShown). z.open_epoch) s.inputs no_input i x (w.open_epoch i + 1) there (ap (λ n. n + 1) (sym (is.open_epoch i))) is.open_epoch;
        closed = λ j. same_set (suc j) w.closed (λ (z : InputShown). z.closed) s.inputs no_input i x there (λ _. (input_at s i).closed) (λ n l. is.closed n) j (omega arith);
        fed = λ j e. same_set (suc j) (λ n. w.fed n e) (λ (z : InputShown). records_at z.fed e) s.inputs no_input i x there (λ _. records_at (input_at s i).fed e) (λ n l. is.fed n e) j (omega arith);
        mail = is.mail;
        requests = is.requests;
        held = is.held;
        absorbed = λ k v l lv. after_still s later w is (Step.seal i) ok (length s.sides) refl k v refl (known_shard (side_at s k) v) (is.absorbed k v l lv);
        emitted = is.emitted;
      }

  pub shows_close : IsLater s → Allowed (net s) w (Step.close i) → Shows (after_close s i) (after_step (net s) w (Step.close i))
  shows_close later ok =
      let x : InputShown = record (input_at s i) { closed = true } in
      record {
        stopped = is.stopped;
        open_epoch = λ j. same_set (suc j) w.open_epoch (λ (z : InputShown). z.open_epoch) s.inputs no_input i x there (λ _. (input_at s i).open_epoch) (λ n l. is.open_epoch n) j (omega arith);
        closed = put_set w.closed (λ (z : InputShown). z.closed) s.inputs no_input i x true there (λ _. true) is.closed;
        fed = λ j e. same_set (suc j) (λ n. w.fed n e) (λ (z : InputShown). records_at z.fed e) s.inputs no_input i x there (λ _. records_at (input_at s i).fed e) (λ n l. is.fed n e) j (omega arith);
        mail = is.mail;
        requests = is.requests;
        held = is.held;
        absorbed = λ k v l lv. after_still s later w is (Step.close i) ok (length s.sides) refl k v refl (known_shard (side_at s k) v) (is.absorbed k v l lv);
        emitted = is.emitted;
      }
