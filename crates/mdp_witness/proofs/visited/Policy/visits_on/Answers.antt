use Rattle.std.proofs.{Common.{ℕ, ◌<◌, ◌∙◌, sym, subst}, lemmas.List.FromFn.{length-map-range_with_len}}
use Rattle.mdp_witness.proofs.Arrivals.{visits-count}
use Rattle.mdp_witness.proofs.visited.Policy.visits_on.Goals as goal

pub visits-requires-clause-active : goal.visits-requires-clause-active
visits-requires-clause-active c = c.requires.set ∙ sym (length-map-range_with_len _ 0 _)

pub visits-requires-clause-ranks : goal.visits-requires-clause-ranks
visits-requires-clause-ranks c = c.args.self.now.ranks_each ∙ sym (length-map-range_with_len _ 0 _)

pub returns-clause-count : goal.returns-clause-count
returns-clause-count c = visits-count _ c.args.set.now c.args.self.now.start _ c.visits.result (length-map-range_with_len _ 0 _) c.visits.ensures.solves

pub returns-clause-place : goal.returns-clause-place
returns-clause-place c = λ s e. subst (λ (n : ℕ). s < n) (length-map-range_with_len _ 0 _) (c.visits.ensures.place s e).0
