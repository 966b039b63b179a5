use Rattle.std.proofs.{Common.{◌≡◌, ℕ, ◌+◌, ◌*◌, length, get_or, pos, arith, ap, ◌∙◌}, lemmas.List.{get_or_default}}
use Rattle.mdp_math.specs.Rational.{of_int}
use Rattle.mdp_rows.proofs.Flat.Choices.{reward_there, reward_is}
use Rattle.mdp_rows.proofs.choices.Choices.reward.Goals as goal

pub index-requires : goal.index-requires
index-requires c =
    let t = reward_there _ _ c.args.i c.args.m c.self.invariant c.self.view_is c.requires.choice c.requires.name in
    let n : c.len.result ≡ length c.self.inside.names.items = omega (arith, c.len.ensures) in
    let e = ap (λ (k : ℕ). c.args.i * k + c.args.m) n in
    omega (arith, t, e)

pub returns : goal.returns
returns c =
    let t = reward_there _ _ c.args.i c.args.m c.self.invariant c.self.view_is c.requires.choice c.requires.name in
    let n : c.len.result ≡ length c.self.inside.names.items = omega (arith, c.len.ensures) in
    c.index.ensures ∙ ap (λ (k : ℕ). get_or c.self.inside.rewards.items (c.args.i * k + c.args.m) c.index.result.now) n
    ∙ get_or_default c.self.inside.rewards.items (c.args.i * length c.self.inside.names.items + c.args.m) c.index.result.now (of_int (pos 0)) t
    ∙ reward_is _ _ c.args.i c.args.m c.self.view_is c.requires.choice c.requires.name
