use Rattle.std.proofs.Common.{◌∙◌, ℕ, ◌<◌, ◌≤◌, ◌^◌, [], length, sym, ap, subst, arith}
use Rattle.std.specs.Prelude.{IsTrue, slice_index_or}
use Rattle.mdp_spec.specs.Labels.{initial_of}
use Rattle.mdp_rows.specs.Name.{IsName}
use Rattle.mdp_text.specs.declared.init.Init.{Init}
use Rattle.mdp_discount_rules.specs.{Cert.{is_init}, Checks.{written_greatest}}
use Rattle.mdp_discount_rules.proofs.{Greatest.{written_greatest-some}, DiscountRules.{discount_never_no}, Names.{init-inside}}
use Rattle.mdp_text.proofs.InitialState.{initial_below}
use Rattle.mdp_rows.proofs.FoundNames.{name_of_reward}
use Rattle.mdp_discount.proofs.solve.certified.Goals as goal

pub invariant_of-cert : goal.invariant_of-cert
invariant_of-cert c =
    let m = c.args.model.now in
    let n = c.requires.best.one_each in
    let k = c.requires.best.choices.one_each in
    let some = c.known.ensures.mdp.some in
    let few = c.known.ensures.mdp.few in
    record {
      some = omega (arith, n, some);
      limit = subst (λ (j : ℕ). j ≤ 2 ^ 20) (sym n) few;
      one_each = k ∙ sym n;
      named = subst IsName (sym (c.in_ok-from_slice.ensures {u = tt}).items) (subst IsName c.requires.name (name_of_reward (slice_index_or m.names c.args.m [])
          (c.known.ensures.model.names.each c.args.m [] c.requires.place)));
      discount = c.requires.factor;
      inside =
          subst (λ (i : Init). IsTrue (is_init (length c.args.found.values.items) i)) (sym c.init_with.ensures)
          (init-inside (length c.args.found.values.items) (initial_of m) c.deref-2.result.now (λ s e. subst (λ (j : ℕ). s < j) (sym n) (initial_below m s e)));
    }

pub unreachable-requires : goal.unreachable-requires
unreachable-requires c =
    let m = c.args.model.now in
    let best = c.requires.best in
    discount_never_no c.args.dir m c.args.m c.args.factor c.args.found.values.items c.in-Ok.remainder c.args.found.policy.items
    (record {
      named = c.requires.place;
      one_each = best.one_each;
      choices = best.choices;
      covers = best.covers;
      reached = best.reached;
      greatest_magnitude = written_greatest-some c.args.found.values.items c.in-Ok.remainder (c.in-Ok.ensures {u = tt} ∙ ap written_greatest c.deref.ensures.value);
    })
    c.in-No.field-0 (sym c.holds_discount.ensures.verdict ∙ c.in-No.is)
