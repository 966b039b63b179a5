use Rattle.std.proofs.Common.{arith}
use Rattle.mdp_discount_text.proofs.Entries.{inside-all, entry-at}
use Rattle.mdp_discount_text.proofs.bounds_state_lines.LentBoundsLists.entry.Goals as goal

pub index-requires : goal.index-requires
index-requires c = let x = c.args.self.now.bounds.now in omega (arith, (inside-all x.lower.items x.upper.items x.choices.items c.args.state c.requires).lower)

pub index-requires-2 : goal.index-requires-2
index-requires-2 c = let x = c.args.self.now.bounds.now in omega (arith, (inside-all x.lower.items x.upper.items x.choices.items c.args.state c.requires).upper)

pub index-requires-3 : goal.index-requires-3
index-requires-3 c = let x = c.args.self.now.bounds.now in omega (arith, (inside-all x.lower.items x.upper.items x.choices.items c.args.state c.requires).choices)

pub returns : goal.returns
returns c =
    let x = c.args.self.now.bounds.now in
    entry-at x.lower.items x.upper.items x.choices.items c.args.state _ _ _ _ c.requires c.index.ensures c.index-2.ensures c.index-3.ensures
