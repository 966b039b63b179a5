use Rattle.std.proofs.Common.{arith}
use Rattle.mdp_quot.proofs.LiftedFound.{node-in, in-list, at-exit, on-way}
use Rattle.mdp_quot.proofs.quotient.Quotient.lifted_at.Goals as goal

pub exits-exits-requires : goal.exits-exits-requires
exits-exits-requires c = let l = node-in c.args.model.now c.args.ends.now.parts c.requires.ends.ends.count c.args.self.now c.requires.quotient c.args.s c.requires.state in omega (arith, l, c.node_of-q.ensures)

pub bounds-exits-taken : goal.bounds-exits-taken
bounds-exits-taken c =
    in-list c.args.model.now c.args.ends.now.parts c.requires.ends.ends.count c.args.self.now c.requires.quotient c.args.outer.now c.args.ways.now c.requires.ways c.args.s c.requires.state
    (node-in c.args.model.now c.args.ends.now.parts c.requires.ends.ends.count c.args.self.now c.requires.quotient c.args.s c.requires.state) c.requires.outer
    c.args.inner c.node_of-q.result c.exits-exits.result.now (record { state = 0; choice = 0 }) c.node_of-q.ensures c.exits-exits.ensures c.if-taken-eq0.false

pub returns-then-exit-s : goal.returns-then-exit-s
returns-then-exit-s c =
    at-exit c.args.model.now c.args.ends.now.parts c.requires.ends.ends.count c.args.self.now c.requires.quotient c.args.outer.now c.args.ways.now c.requires.ways c.args.s c.requires.state
    (node-in c.args.model.now c.args.ends.now.parts c.requires.ends.ends.count c.args.self.now c.requires.quotient c.args.s c.requires.state) c.requires.outer
    c.args.inner c.node_of-q.result c.exits-exits.result.now (record { state = 0; choice = 0 }) c.node_of-q.ensures c.exits-exits.ensures c.if-taken-eq0.false
    c.if-exit-s.true

pub returns-else-exit-s : goal.returns-else-exit-s
returns-else-exit-s c =
    on-way c.args.model.now c.args.ends.now.parts c.requires.ends.ends.count c.args.self.now c.requires.quotient c.args.outer.now c.args.ways.now c.requires.ways c.args.s c.requires.state
    (node-in c.args.model.now c.args.ends.now.parts c.requires.ends.ends.count c.args.self.now c.requires.quotient c.args.s c.requires.state) c.requires.outer
    c.args.inner c.node_of-q.result c.exits-exits.result.now (record { state = 0; choice = 0 }) c.node_of-q.ensures c.exits-exits.ensures c.if-taken-eq0.false
    c.if-exit-s.false
