use Rattle.std.proofs.Common.{◌≡◌, length, rules, sym, ◌∙◌}
use Rattle.mdp_cert.proofs.WordByWord.{count}
use Rattle.mdp_discount_text.proofs.write.push_states.Goals as goal

pub push_to_end-requires : goal.push_to_end-requires
push_to_end-requires c =
    let x = c.args.cert.now in
    let states : length x.values.items ≡ c.len.result = search rules in
    rw (c.deref.ensures.value, c.deref-2.ensures.value) (count x.values.items x.choices.items (sym x.one_each) ∙ states)
