use Rattle.std.proofs.Common.{arith}
use Rattle.mdp_cert.proofs.Places.{floor-inside, floor-at}
use Rattle.mdp_cert.proofs.floor_lines.FloorCertLines.line.Goals as goal

pub index-requires : goal.index-requires
index-requires c =
    omega (arith, (floor-inside c.args.self.now.kept.items c.args.self.now.wide.items c.args.self.now.values.items c.args.self.now.ranks.items c.args.place c.requires).in_kept)

pub index-requires-2 : goal.index-requires-2
index-requires-2 c =
    omega (arith, (floor-inside c.args.self.now.kept.items c.args.self.now.wide.items c.args.self.now.values.items c.args.self.now.ranks.items c.args.place c.requires).in_values)

pub index-requires-3 : goal.index-requires-3
index-requires-3 c =
    omega (arith, (floor-inside c.args.self.now.kept.items c.args.self.now.wide.items c.args.self.now.values.items c.args.self.now.ranks.items c.args.place c.requires).in_ranks)

pub index-requires-4 : goal.index-requires-4
index-requires-4 c =
    omega (arith, (floor-inside c.args.self.now.kept.items c.args.self.now.wide.items c.args.self.now.values.items c.args.self.now.ranks.items c.args.place c.requires).in_wide)

pub returns : goal.returns
returns c =
    floor-at c.args.self.now.kept.items c.args.self.now.wide.items c.args.self.now.values.items c.args.self.now.ranks.items c.args.place _ _ _ _ _ c.requires
    c.index.ensures c.index-4.ensures c.index-2.ensures c.index-3.ensures
