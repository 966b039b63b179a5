use Rattle.std.proofs.{lemmas.List.{length-map}, Common.{ℕ, ◌≡◌, ◌<◌, List, length, map, sym, ap₂, ◌∙◌, subst, refl, ap}}
use Rattle.std.proofs.lemmas.List.Sorted.{IsNonDecreasingBy-from_sort}
use Rattle.std.specs.List.{All}
use Rattle.mdp_math.specs.Rational.{ℚ}
use Rattle.mdp_spec.specs.{Mdp.{Entry, value_at}, Row.{entries, IsRow, IsDistribution}}
use Rattle.mdp_quot.specs.Sums.{IsClear}
use Rattle.mdp_quot.proofs.Summing.{sorted-below, sorted-row, sums_cleared, merged_is, nodes_below, probs_nonneg}
use Rattle.mdp_quot.proofs.sums.Sums.merge.Goals as goal

pub sums_at-requires : goal.sums_at-requires
sums_at-requires c =
    rw (c.deref.ensures.value, c.deref-2.ensures.value)
    (subst (λ n. All (λ q. q < n) c.sort.new.self.items) (sym c.in_ok-add_row.ensures.count)
    (sorted-below _ _ _ _ _ _ c.in_ok-add_row.ensures c.in_ok-sort.ensures.permutation (IsNonDecreasingBy-from_sort (λ x. x) _ c.in_ok-sort.ensures.sorted)))

pub clear-requires : goal.clear-requires
clear-requires c =
    subst (λ n. All (λ q. q < n) c.sort.new.self.items) (sym c.in_ok-add_row.ensures.count)
    (sorted-below _ _ _ _ _ _ c.in_ok-add_row.ensures c.in_ok-sort.ensures.permutation (IsNonDecreasingBy-from_sort (λ x. x) _ c.in_ok-sort.ensures.sorted))

laid : (ts sorted found : List ℕ) (ps probs : List ℚ) (sums gone : List ℚ) (xs : List Entry) → ts ≡ sorted → ps ≡ probs
    → probs ≡ map (value_at gone) found → gone ≡ sums → found ≡ sorted → entries sorted (map (value_at sums) sorted) ≡ xs → entries ts ps ≡ xs
laid ts sorted found ps probs sums gone xs a b c d e f = ap₂ entries a (b ∙ c ∙ ap₂ (λ (zs : List ℚ) (qs : List ℕ). map (value_at zs) qs) d e) ∙ f

pub returns-clause-row : goal.returns-clause-row
returns-clause-row c =
    laid _ c.sort.new.self.items _ _ _ c.add_row.new.self.sums.items _ _ (c.in_ok-targets.ensures ∙ c.deref-3.ensures.value)
    (c.in_ok-probs-2.ensures ∙ c.deref-4.ensures.value) c.in_ok-probs.ensures c.deref.ensures.value c.deref-2.ensures.value
    (merged_is _ _ _ _ _ _ c.in_ok-add_row.ensures c.in_ok-sort.ensures.permutation (IsNonDecreasingBy-from_sort (λ x. x) _ c.in_ok-sort.ensures.sorted))

pub invariant_of-result-clause-distribution : goal.invariant_of-result-clause-distribution
invariant_of-result-clause-distribution c =
    let e = laid _ c.sort.new.self.items _ _ _ c.add_row.new.self.sums.items _ _ (c.in_ok-targets.ensures ∙ c.deref-3.ensures.value)
    (c.in_ok-probs-2.ensures ∙ c.deref-4.ensures.value) c.in_ok-probs.ensures c.deref.ensures.value c.deref-2.ensures.value refl in
    subst IsDistribution (sym e)
    (IsRow.distribution (sorted-row _ _ _ _ _ _ c.in_ok-add_row.ensures c.in_ok-sort.ensures.permutation (IsNonDecreasingBy-from_sort (λ x. x) _ c.in_ok-sort.ensures.sorted) c.args.row.distribution
    (nodes_below _ c.args.nodes.now c.args.row.targets.now c.args.row.probs.now c.args.row.same_length c.requires.targets c.requires.nodes)))

pub returns-clause-clear : goal.returns-clause-clear
returns-clause-clear c =
    subst (λ (qs : List ℕ). IsClear (length c.args.self.now.sums.items) c.clear.new.self.sums.items qs) (sym c.clear.ensures.none)
    (sums_cleared _ _ _ _ _ _ c.in_ok-add_row.ensures c.in_ok-sort.ensures.permutation (IsNonDecreasingBy-from_sort (λ x. x) _ c.in_ok-sort.ensures.sorted) _
    c.clear.ensures.count (probs_nonneg _ c.args.row.distribution) c.clear.ensures.cleared c.clear.ensures.same)

pub returns-clause-in_range : goal.returns-clause-in_range
returns-clause-in_range c =
    subst (λ (qs : List ℕ). All (λ q. q < length c.args.self.now.sums.items) qs) (sym (c.in_ok-targets.ensures ∙ c.deref-3.ensures.value))
    (sorted-below _ _ _ _ _ _ c.in_ok-add_row.ensures c.in_ok-sort.ensures.permutation (IsNonDecreasingBy-from_sort (λ x. x) _ c.in_ok-sort.ensures.sorted))

pub invariant_of-result-clause-same_length : goal.invariant_of-result-clause-same_length
invariant_of-result-clause-same_length c =
    ap length (c.in_ok-targets.ensures ∙ c.deref-3.ensures.value)
    ∙ sym (ap length (c.in_ok-probs-2.ensures ∙ c.deref-4.ensures.value ∙ c.in_ok-probs.ensures) ∙ length-map c.deref-2.result.now _ ∙ ap length c.deref-2.ensures.value)
