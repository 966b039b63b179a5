use Rattle.std.proofs.{Common.{ℕ, ◌<◌, ◌≤◌, ◌^◌, true, ◌≡◌, List, Option, length, map, sym, ap, subst, ◌∙◌}, lemmas.List.{length-map}}
use Rattle.mdp_math.specs.Rational.{ℚ}
use Rattle.mdp_text.specs.Lines.{place}
use Rattle.mdp_cert.specs.declared.version.Version.TheVariants.{Two}
use Rattle.mdp_cert.proofs.Bodies.{closed-found}
use Rattle.mdp_discount_rules.specs.BoundsCert.{is_init}
use Rattle.mdp_discount_text.specs.{BoundsCode.{plain_head}, Entries.{between_columns, IsEntryInWidth}}
use Rattle.mdp_discount_text.proofs.{Columns.{between-is_columns}, Entries.{Between}, Heads.{head-found}}
use Rattle.mdp_discount_text.proofs.bounds_read.read_discount_bounds.Goals as goal

pub invariant_of-result : goal.invariant_of-result
invariant_of-result c =
    let head = c.in_ok-head.head in
    let h = head-found (place 2 c.in_ok-text.rest.now) (plain_head c.in_ok-head.head) (place 6 c.in_ok-head.rest.now) c.in_ok-head.ensures in
    let b = closed-found between_columns IsEntryInWidth between-is_columns head.states h.is.front.limit Two (place 6 c.in_ok-head.rest.now) c.in_ok-entries.entries.items
    (place c.in_ok-entries.line c.in_ok-entries.rest.now) c.in_ok-entries.ensures in
    let made = c.in_ok-bounds.ensures {u = tt} in
    let each : (X : Type 0) (g : Between → X) (xs : List X) → xs ≡ map g _ → length xs ≡ head.states =
    λ X g xs e. ap (λ (l : List X). length l) e ∙ length-map _ g ∙ ap (λ (ys : List Between). length ys) c.deref.ensures.value ∙ b.count in
    let low = each (Option ℚ) (λ x. x.first.value) _ made.lower in
    record {
      some = subst (λ (n : ℕ). 0 < n) (sym low) h.is.front.some;
      limit = subst (λ (n : ℕ). n ≤ 2 ^ 20) (sym low) h.is.front.limit;
      one_above = each (Option ℚ) (λ x. x.others.first) _ made.upper ∙ sym low;
      one_each = each ℕ (λ x. x.others.others) _ made.choices ∙ sym low;
      named = h.is.front.claim.named;
      discount = h.is.front.claim.factor;
      inside = subst (λ (n : ℕ). is_init n head.init ≡ true) (sym low) h.is.front.init.inside;
    }
