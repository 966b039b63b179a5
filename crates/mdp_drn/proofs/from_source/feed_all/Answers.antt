use Rattle.std.proofs.Common.{◌≡◌, ◌+◌, ◌++◌, length, take, ◌∙◌, arith, length-append, length-take}
use Rattle.mdp_edge.proofs.Pieces.{gave_both}
use Rattle.mdp_drn.proofs.PiecesFed.SourceBytes.{had_all, had_more}
use Rattle.mdp_drn.proofs.from_source.feed_all.Goals as goal

pub returns-then-count-eq0-clause-rest : goal.returns-then-count-eq0-clause-rest
returns-then-count-eq0-clause-rest g c =
    let w = c.reading.invariant.read in
    let n = c.in_ok-count.count in
    let bytes = take n c.read.new.buf in (
      w.0 ++ bytes,
      omega
          (arith, length-append w.0 bytes, length-take n c.read.new.buf, w.2, c.in_ok-count.ensures.room, c.if-count-eq0.true, c.reading.invariant.most),
      gave_both _ _ _ _ _ w.1 c.in_ok-count.ensures.bytes,
    )

pub reading-preserved : goal.reading-preserved
reading-preserved g c =
    let w = c.reading.invariant.read in
    let n = c.in_ok-count.count in
    let bytes = take n c.read.new.buf in
    let size : length (w.0 ++ bytes) ≡ c.reading.total + n = omega (arith, length-append w.0 bytes, length-take n c.read.new.buf, w.2, c.in_ok-count.ensures.room) in
    record {
      read = (w.0 ++ bytes, gave_both _ _ _ _ _ w.1 c.in_ok-count.ensures.bytes, size, c.push.ensures.fed w.0 w.3);
      rule = c.push.ensures.rule ∙ c.reading.invariant.rule;
      most = omega (arith, c.reading-test.true, c.in_ok-count.ensures.room);
      still = c.in_ok-count.ensures.still ∙ c.reading.invariant.still;
    }

pub returns-then-count-eq0-clause-all : goal.returns-then-count-eq0-clause-all
returns-then-count-eq0-clause-all g c is =
    let w = c.reading.invariant.read in
    (w.0, had_all _ _ w.0 c.in_ok-count.count w.1 c.in_ok-count.ensures.end c.if-count-eq0.true, omega (arith, w.2, c.reading-test.true), w.3)

pub returns-clause-long : goal.returns-clause-long
returns-clause-long g c is =
    let w = c.reading.invariant.read in had_more _ _ w.0 c.args.limit w.1 (omega (arith, w.2, c.reading-test.false))
