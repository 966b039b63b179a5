use Rattle.std.proofs.Common.{◌≡◌, ℕ, ◌<◌, ◌≤◌, ◌^◌, List, Some, refl, sym, ap, subst, ◌∙◌, arith}
use Rattle.std.specs.List.{All}
use Rattle.mdp_spec.specs.{Labels.{place_of}, Mdp.{Mdp}}
use Rattle.mdp_discount_rules.specs.BoundsCert.{IsValueNarrow}
use Rattle.mdp_rows.specs.Name.{IsName, IsRewardName}
use Rattle.mdp_rows.proofs.FoundNames.{found_among, name_of_reward}
use Rattle.mdp_command_bounds_search.proofs.discount_certificate.certificate_of.Goals as goal

-- the name that was found is a name
named : (name own : List ℕ) (m : Mdp) (r : ℕ) → own ≡ name → place_of name m.names ≡ Some r → All IsRewardName m.names → IsName own
named name own m r same found names = subst IsName (sym same) (name_of_reward name (found_among IsRewardName name m.names r found names))

pub invariant_of-result : goal.invariant_of-result
invariant_of-result c =
    let m = c.args.model.now in
    let n = c.requires.lower in
    let some = c.known.ensures.mdp.some in
    record {
      some = omega (arith, n, some);
      limit = subst (λ (j : ℕ). j ≤ 2 ^ 20) (sym n) c.known.ensures.mdp.few;
      one_above = c.requires.upper ∙ sym n;
      one_each = c.requires.choices ∙ sym n;
      named =
          named c.args.name.now c.in_ok-own.own.items m c.args.m ((c.in_ok-own.ensures {u = tt}).items_if_clones_equal (λ x y e. e)) c.requires.place
          c.known.ensures.model.names.each;
      discount = c.requires.factor;
      inside = c.init_of-init.ensures.inside;
    }

pub returns-clause-claim : goal.returns-clause-claim
returns-clause-claim c = record { direction = refl; named = (c.in_ok-own.ensures {u = tt}).items_if_clones_equal (λ x y e. e); discounted = refl }

pub returns-clause-accepted : goal.returns-clause-accepted
returns-clause-accepted c =
    let m = c.args.model.now in
    record {
      states = c.requires.lower;
      reward = c.args.m;
      named = ap (λ (n : List ℕ). place_of n m.names) ((c.in_ok-own.ensures {u = tt}).items_if_clones_equal (λ x y e. e)) ∙ c.requires.place;
      init = c.init_of-init.ensures.checked;
      rules = c.requires.rules;
    }

pub returns-clause-fits : goal.returns-clause-fits
returns-clause-fits c =
    let m = c.args.model.now in
    let n = c.requires.lower in
    let some = c.known.ensures.mdp.some in
    record {
      some = omega (arith, n, some);
      limit = subst (λ (j : ℕ). j ≤ 2 ^ 20) (sym n) c.known.ensures.mdp.few;
      one_above = c.requires.upper ∙ sym n;
      one_each = c.requires.choices ∙ sym n;
      named =
          named c.args.name.now c.in_ok-own.own.items m c.args.m ((c.in_ok-own.ensures {u = tt}).items_if_clones_equal (λ x y e. e)) c.requires.place
          c.known.ensures.model.names.each;
      discount = c.requires.factor;
      inside = c.init_of-init.ensures.inside;
      factor_width = c.num.ensures.narrow;
      init_width = c.init_of-init.ensures.width;
      remainder_width = c.num-2.ensures.narrow;
      lower_width = subst (All IsValueNarrow) c.deref.ensures.value c.all_values_narrow.ensures;
      upper_width = subst (All IsValueNarrow) c.deref-2.ensures.value c.all_values_narrow-2.ensures;
      choices_width = subst (All (λ x. x < 2 ^ 32)) c.deref-3.ensures.value c.all_short.ensures;
    }
