use Rattle.std.proofs.Common.{◌≡◌, ℕ, ◌+◌, List, Ok, Err, refl, sym, subst, arith, rules}
use Rattle.mdp_policy_iteration.specs.{Path.{Round}, Errors.{PathError}}
use Rattle.mdp_unichain.specs.{Chain.{IsReference}, Component.{is_state, row_by, IsPolicy}, Path.{Found, IsStart}}
use Rattle.mdp_gain.specs.Code.{component_in, values_in, Ends, HasBiases, HasEntries}
use Rattle.mdp_gain.specs.declared.round.RoundEnd.TheVariants as end
use Rattle.mdp_gain.proofs.Rounds.{made_at, turned, goes_on, ends_done, ends_by, error_entries}
use Rattle.mdp_gain.proofs.component.EndComponent.improve.Goals as goal

pub invariant_of-chosen : goal.invariant_of-chosen
invariant_of-chosen c = record { is = subst (λ (xs : List ℕ). IsPolicy (component_in c.args.self.now) xs) (sym c.deref-in-rounds.ensures.value) (IsStart.is c.rounds.invariant.start) }

pub round-requires-clause-reference : goal.round-requires-clause-reference
round-requires-clause-reference c =
    let p = component_in c.args.self.now in
    subst (λ (xs : List ℕ). IsReference (is_state p) (row_by p xs) c.rounds.t) (sym c.deref-in-rounds.ensures.value) c.rounds.invariant.reference

pub returns-in-Ok-Done-clause-path : goal.returns-in-Ok-Done-clause-path
returns-in-Ok-Done-clause-path c =
    let p = component_in c.args.self.now in
    let n = c.rounds.invariant.path.0 in
    let a : Round = record { number = n; policy = c.rounds.policy.items } in
    let found : Found = record { policy = c.rounds.policy.items; reference = c.in-Ok-Done.field-0-1; values = values_in c.in-Ok-Done.values } in
    let step =
    made_at p n c.deref-in-rounds.result.now c.rounds.policy.items c.round.result c.deref-in-rounds.ensures.value c.round.ensures.made
    (Ok (end.Done c.in-Ok-Done.values c.in-Ok-Done.field-0-1)) (search rules) in
    (c.in-Ok-Done.field-0-1, c.rounds.invariant.path.2 (Ok found) (ends_done p a found step))

pub reference-requires-in-Ok-Next-clause-start : goal.reference-requires-in-Ok-Next-clause-start
reference-requires-in-Ok-Next-clause-start c =
    let turn =
    turned c.args.self.now c.requires.given c.solution_law.ensures.solves c.rounds.invariant.path.0 c.rounds.policy.items c.rounds.invariant.start c.deref-in-rounds.result.now c.deref-in-rounds.ensures.value
    c.round.result c.round.ensures.made c.in-Ok-Next.next (search rules) in
    subst (λ (xs : List ℕ). IsStart (component_in c.args.self.now) xs) (sym c.deref-in-Ok-Next.ensures.value) turn.start

pub rounds-smaller : goal.rounds-smaller
rounds-smaller c =
    let p = component_in c.args.self.now in
    let turn =
    turned c.args.self.now c.requires.given c.solution_law.ensures.solves c.rounds.invariant.path.0 c.rounds.policy.items c.rounds.invariant.start c.deref-in-rounds.result.now c.deref-in-rounds.ensures.value
    c.round.result c.round.ensures.made c.in-Ok-Next.next (search rules) in
    turn.fewer c.rounds.t c.in-Ok-reference.after c.rounds.invariant.reference
    (subst (λ (xs : List ℕ). IsReference (is_state p) (row_by p xs) c.in-Ok-reference.after) c.deref-in-Ok-Next.ensures.value (c.in-Ok-reference.ensures {u = tt}))

pub rounds-preserved : goal.rounds-preserved
rounds-preserved c =
    let p = component_in c.args.self.now in
    let n = c.rounds.invariant.path.0 in
    let turn =
    turned c.args.self.now c.requires.given c.solution_law.ensures.solves c.rounds.invariant.path.0 c.rounds.policy.items c.rounds.invariant.start c.deref-in-rounds.result.now c.deref-in-rounds.ensures.value
    c.round.result c.round.ensures.made c.in-Ok-Next.next (search rules) in
    record {
      start = turn.start;
      reference = subst (λ (xs : List ℕ). IsReference (is_state p) (row_by p xs) c.in-Ok-reference.after) c.deref-in-Ok-Next.ensures.value (c.in-Ok-reference.ensures {u = tt});
      path = (n + 1, omega (arith, c.rounds.invariant.path.1, c.saturating_add-round.ensures), λ r e. c.rounds.invariant.path.2 r (goes_on p _ _ r turn.step e));
    }

pub returns-in-Err-round-clause-path : goal.returns-in-Err-round-clause-path
returns-in-Err-round-clause-path c =
    let p = component_in c.args.self.now in
    let n = c.rounds.invariant.path.0 in
    subst (λ (e : PathError). Ends p c.args.start.items (Err e)) (sym c.path_error.ensures)
    (ends_by p n c.rounds.policy.items c.args.start.items c.rounds.round c.rounds.policy c.in-Err-round.error refl c.rounds.invariant.path.1 c.rounds.invariant.path.2
    (made_at p n c.deref-in-rounds.result.now c.rounds.policy.items c.round.result c.deref-in-rounds.ensures.value c.round.ensures.made (Err c.in-Err-round.error) (search rules)))

pub returns-in-Ok-Done-clause-entries : goal.returns-in-Ok-Done-clause-entries
returns-in-Ok-Done-clause-entries c =
    let was : c.round.result ≡ Ok (end.Done c.in-Ok-Done.values c.in-Ok-Done.field-0-1) = search rules in
    (IsPolicy.len (IsStart.is c.rounds.invariant.start), subst (HasBiases (component_in c.args.self.now)) was c.round.ensures.biases)

pub returns-in-Err-round-clause-entries : goal.returns-in-Err-round-clause-entries
returns-in-Err-round-clause-entries c =
    subst (λ (e : PathError). HasEntries (component_in c.args.self.now) (Err e)) (sym c.path_error.ensures)
    (error_entries (component_in c.args.self.now) c.in-Err-round.error c.rounds.round c.rounds.policy (IsPolicy.len (IsStart.is c.rounds.invariant.start)))

pub reference-requires-clause-start : goal.reference-requires-clause-start
reference-requires-clause-start c = rw c.deref.ensures.value c.requires.start
