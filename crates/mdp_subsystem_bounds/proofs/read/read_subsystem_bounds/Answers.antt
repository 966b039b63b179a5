use Rattle.std.proofs.Common.{ℕ, ◌<◌, ◌≤◌, ◌^◌, sym, subst, ◌∙◌}
use Rattle.mdp_text.specs.Lines.{place}
use Rattle.mdp_subsystem_bounds.specs.{Code.{plain_head}, Plain.{plain_lists}}
use Rattle.mdp_subsystem_bounds.proofs.{Heads.{head-found, start-inside}, Bodies.{lists-found, named-of}}
use Rattle.mdp_subsystem_bounds.proofs.read.read_subsystem_bounds.Goals as goal

pub invariant_of-result : goal.invariant_of-result
invariant_of-result c =
    let head = plain_head c.in_ok-head.head in
    let h = head-found (place 2 c.in_ok-text.rest.now) head (place 5 c.in_ok-head.rest.now) c.in_ok-head.ensures in
    let l = lists-found head.claim.dir head.states (place 5 c.in_ok-head.rest.now) (plain_lists c.in_ok-lists.lists) (place c.in_ok-lists.line c.in_ok-lists.rest.now)
    h.is.limit c.in_ok-lists.ensures.lists in
    let k = l.are.lower in
    record {
      some = subst (λ (n : ℕ). 0 < n) (sym k) h.is.some;
      limit = subst (λ (n : ℕ). n ≤ 2 ^ 20) (sym k) h.is.limit;
      ones = c.in_ok-lists.ensures.ones;
      choice_each = l.are.choices ∙ sym k;
      rank_each = l.are.ranks ∙ sym k;
      mark_each = l.are.marks ∙ sym k;
      names = h.is.claim.names;
      at_least_zero = h.is.claim.threshold;
      inside = subst (λ (n : ℕ). c.start_of.result < n) (sym k)
          (subst (λ (s : ℕ). s < head.states) (sym c.start_of.ensures) (start-inside head.claim head.states head.init h.is.init));
      named = named-of head.claim.dir _ l.are.named;
    }
