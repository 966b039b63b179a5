use Rattle.std.proofs.Common.{◌≡◌, length, rules, ◌∙◌}
use Rattle.mdp_discount_text.proofs.Entries.{back}
use Rattle.mdp_discount_text.proofs.bounds_write.push_states.Goals as goal

pub push_to_end-requires : goal.push_to_end-requires
push_to_end-requires c =
    let x = c.args.cert.now in
    let states : length c.args.cert.now.bounds.lower.items ≡ c.len-states.result = search rules in
    (back x.bounds.lower.items x.bounds.upper.items x.bounds.choices.items x.one_above x.one_each).count ∙ states
