use Rattle.std.proofs.Common.{◌≡◌, ◌∙◌, ◌++◌, ◌∷◌, [], ◌<◌, List, length, ap, arith, length-append}
use Rattle.semantics.specs.Could.{Pointstamp, on_edge}
use Rattle.semantics.specs.Time.{Time}
use Rattle.machine.specs.Active.{message_pointstamp}
use Rattle.events.specs.declared.letter.Letter.{Letter}
use Rattle.board.proofs.Noted.{letters_more, times_more}
use Rattle.board.proofs.delivery.note_letters.Goals as goal

pub loop-letter-preserved : goal.loop-letter-preserved
loop-letter-preserved c =
    let ps : List Pointstamp = c.loop-letter.added.items in
    let o : Letter = c.letter-item.result in
    let is : c.new.result ≡ message_pointstamp o.message = c.new.ensures ∙ ap (λ (t : Time). on_edge c.edge.result.0 t) (c.copied.ensures ∙ c.time.ensures) ∙ ap (λ e. on_edge e o.message.time) c.edge.ensures in
    let items : c.push_reserved.new.self.items ≡ ps ++ (message_pointstamp o.message ∷ []) = c.push_reserved.ensures.items ∙ ap (λ (p : Pointstamp). ps ++ (p ∷ [])) is in
    let there : c.loop-letter.letter-index < length c.args.letters.now = c.loop-letter-test.true in
    record {
      added = λ q.
          let a = letters_more c.args.letters.now c.loop-letter.letter-index o q there c.letter-item.is in
          let b = times_more ps c.push_reserved.new.self.items (message_pointstamp o.message) q items in
          let d = c.loop-letter.invariant.added q in
          omega arith;
      long = let n = length-append ps (message_pointstamp o.message ∷ []) in let m = ap (λ (l : List Pointstamp). length l) items in let d = c.loop-letter.invariant.long in omega arith;
      capacity = c.push_reserved.ensures.capacity ∙ c.loop-letter.invariant.capacity;
    }
