-- A row that is added entry by entry, to the sums of a flow or to a number.
use Rattle.std.proofs.{Common.{◌≡◌, ℕ, ◌+◌, ◌<◌, Bool, List, ◌∷◌, length, drop, get_or, Option, Some, ap, ◌∙◌}, lemmas.List.{drop_more}}
use Rattle.std.specs.Option.{option_and_then}
use Rattle.mdp_math.specs.{Rational.{ℚ}}
use Rattle.mdp_spec.specs.{Row.{entries}}
use Rattle.mdp_subsystem_rules.specs.Sums.{FlowSums, with_entry, with_row}

pub row_next : (goals : List Bool) (amount : ℚ) (sums t : FlowSums) (ts : List ℕ) (ps : List ℚ) (i : ℕ) (d : ℚ) → i < length ts → i < length ps
    → with_entry goals amount sums (record { target = get_or ts i 0; prob = get_or ps i d }) ≡ Some t
    → with_row goals amount sums (entries (drop i ts) (drop i ps)) ≡ with_row goals amount t (entries (drop (i + 1) ts) (drop (i + 1) ps))
row_next goals amount sums t ts ps i d h k e =
    ap (λ (xs : List ℕ). with_row goals amount sums (entries xs (drop i ps))) (drop_more ts i 0 h)
    ∙ ap (λ (qs : List ℚ). with_row goals amount sums (entries (get_or ts i 0 ∷ drop (i + 1) ts) qs)) (drop_more ps i d k)
    ∙ ap (λ (o : Option FlowSums). option_and_then (λ s. with_row goals amount s (entries (drop (i + 1) ts) (drop (i + 1) ps))) o) e
