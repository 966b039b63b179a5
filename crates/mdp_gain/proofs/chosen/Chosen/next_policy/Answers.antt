use Rattle.std.proofs.Common.{List, ℕ, Option, None, Bool, inl, refl, sym, subst}
use Rattle.std.specs.Prelude.{IfOk}
use Rattle.mdp_unichain.specs.{Classes.{Picks}, Component.{IsPolicy}, Next.{IsExactNext}}
use Rattle.mdp_gain.specs.Code.{component_in}
use Rattle.mdp_gain.proofs.chosen.Chosen.next_policy.Goals as goal

pub invariant_of-better : goal.invariant_of-better
invariant_of-better c = record { is = subst (λ (xs : List ℕ). IsPolicy (component_in c.args.self.now.component) xs) (sym c.deref.ensures.value) c.requires.improved }

pub returns-in-Some : goal.returns-in-Some
returns-in-Some c =
    subst (λ (xs : List ℕ). IfOk c.toward_class.result (λ next. IsExactNext (component_in c.args.self.now.component) c.args.self.now.policy.now xs next.items)) c.deref.ensures.value
    c.toward_class.ensures

pub returns-in-None : goal.returns-in-None
returns-in-None c =
    inl (
      refl,
      subst (λ (xs : List ℕ). Picks (component_in c.args.self.now.component) c.args.self.now.policy.now xs None) c.deref.ensures.value
          (subst (λ (o : Option (List Bool)). Picks (component_in c.args.self.now.component) c.args.self.now.policy.now c.deref.result.now o) c.in-None.is (c.in_ok-class.ensures {u = tt})),
    )

pub toward_class-requires-clause-picked : goal.toward_class-requires-clause-picked
toward_class-requires-clause-picked c = (rw c.in-Some.is at (c.in_ok-class.ensures {u = tt})).1

pub toward_class-requires-clause-count : goal.toward_class-requires-clause-count
toward_class-requires-clause-count c = (rw c.in-Some.is at (c.in_ok-class.ensures {u = tt})).0
