-- There is one list of values at most that meets the rules.
use Rattle.std.proofs.{Common.{ℕ, ◌<◌, sym, ◌∙◌, subst}, lemmas.List.{ext_get_or}}
use Rattle.mdp_math.proofs.Order.{0ℚ}
use Rattle.mdp_discount_rules.specs.Laws.{HasOneValue}
use Rattle.mdp_discount_rules.proofs.Discount.{discount_unique}

pub one_value : HasOneValue
one_value dir m r f v w k l policy other known factor a b =
    ext_get_or 0ℚ w v (b.one_each ∙ sym a.one_each)
    (λ s h. discount_unique m r f known factor dir w v l k other policy s b.takes a.takes b a (subst (λ (n : ℕ). s < n) b.one_each h))
