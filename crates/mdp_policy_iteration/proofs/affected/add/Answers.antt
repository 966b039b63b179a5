use Rattle.std.proofs.Common.{◌≡◌, ◌∙◌, sym, false, get_or}
use Rattle.mdp_policy_iteration.proofs.Marking.{one_added}
use Rattle.mdp_policy_iteration.proofs.affected.add.Goals as goal

pub returns-in_ok-push : goal.returns-in_ok-push
returns-in_ok-push c =
    let fresh : get_or c.args.marks.now c.args.s false ≡ false = sym c.at.ensures ∙ c.if-not-at.true in
    one_added c.args.marks.now c.set.new.self c.args.found.now.items c.push.new.self.items c.args.s c.requires.marked c.requires.node fresh c.set.ensures c.in_ok-push.ensures.items
