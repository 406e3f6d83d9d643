use Rattle.std.proofs.Common.{◌≡◌, length, arith, refl, ◌∙◌}
use Rattle.collector.proofs.TracksJoined.{all_stitched, none_stitched, one_stitched}
use Rattle.collector.proofs.epochs.Epochs.append.Goals as goal

pub loop-track-init : goal.loop-track-init
loop-track-init c =
    let within : length c.args.part.tracks.items ≡ length c.args.self.now.tracks.items = omega (arith, c.len.ensures, c.if-len.false, c.len-else-count-eq0.ensures, c.args.part.tracks.ok.0, c.args.self.now.tracks.ok.0) in
    record { count = refl; tracks = none_stitched c.args.self.now.tracks.items c.args.part.tracks.items c.args.self.now.count within }

pub loop-track-preserved : goal.loop-track-preserved
loop-track-preserved c =
    let within : length c.args.part.tracks.items ≡ length c.args.self.now.tracks.items = omega (arith, c.len.ensures, c.if-len.false, c.len-else-count-eq0.ensures, c.args.part.tracks.ok.0, c.args.self.now.tracks.ok.0) in
    record {
      count = c.loop-track.invariant.count;
      tracks = one_stitched c.args.self.now.tracks.items c.args.part.tracks.items c.loop-track.self.tracks.items c.loop-track.tracks.items c.pop.new.self.items c.args.self.now.count c.in-Some-pop.track c.append.new.self
          c.index_mut-mine.result.now c.len-in-Some-pop.result c.loop-track.invariant.tracks c.in-Some-pop.ensures.items (omega (arith, c.len-in-Some-pop.ensures, c.pop.new.self.ok.0)) within c.index_mut-mine.ensures.value (omega (arith, c.len-in-Some-pop-2.ensures, c.if-len-begun.false)) c.in_ok-append.ensures;
    }

pub returns : goal.returns
returns c = λ yes_way.
    let within : length c.args.part.tracks.items ≡ length c.args.self.now.tracks.items = omega (arith, c.len.ensures, c.if-len.false, c.len-else-count-eq0.ensures, c.args.part.tracks.ok.0, c.args.self.now.tracks.ok.0) in
    all_stitched c.args.self.now c.args.part c.loop-track.self c.loop-track.tracks.items c.loop-track.invariant.tracks (omega (arith, c.in_default-pop.ensures.cases.0, c.loop-track.tracks.ok.0)) (omega (arith, c.if-self-eq0.false)) (omega (arith, c.if-count-eq0.false)) (omega (arith, c.in-Some.ensures, c.loop-track.invariant.count))
    (c.loop-track.invariant.count ∙ c.in-Some.ensures.1) within
