-- What a binary search finds in a row whose targets ascend.
use Rattle.std.specs.{Result.{result_ok}, List.Sorted.{IsSearchInRange, IsBinarySearchResult, IsNonDecreasingBy}, Ordering.{nat_cmp, ordering_index}}
use Rattle.std.proofs.Common.{◌≡◌, ℕ, zero, suc, ◌<◌, ◌≤◌, inl, inr, Bool, true, false, List, [], ◌∷◌}
use Rattle.std.proofs.{Common.{length, get_or, refl, sym, arith, eqb, nat_le, Some, None, if◌then◌else◌, Result, Ok, Err, IfSome}, lemmas.Cmp.{ranked}}
use Rattle.std.proofs.{lemmas.List.Sorted.{IsNonDecreasingBy-from_default}, lemmas.Bool.Decides.{nat_tests}}
use Rattle.mdp_math.proofs.Numbers.{le_or}
use Rattle.mdp_spec.specs.Mdp.{Entry}
use Rattle.mdp_elim.specs.Entries.{Between, LeadsAt, entry_to}
use Rattle.mdp_elim.proofs.{Merge.{no_entry}, InPlace.{at_least}}

targets_rise : (low high i j : ℕ) (row : List Entry) (d : Entry) → Between low high row → i ≤ j → j < length row → Entry.target (get_or row i d) ≤ Entry.target (get_or row j d)
targets_rise low high i j [] d h l m = absurd (omega arith)
targets_rise low high zero zero (y ∷ row) d h l m = omega arith
targets_rise low high zero (suc j) (y ∷ row) d h l m = let k = at_least (suc y.target) high j row d h.2 (omega arith) in omega (arith, k)
targets_rise low high (suc i) zero (y ∷ row) d h l m = absurd (omega arith)
targets_rise low high (suc i) (suc j) (y ∷ row) d h l m = targets_rise (suc y.target) high i j row d h.2 (omega arith) (omega arith)

none_here : (v : ℕ) (y : Entry) (row : List Entry) (b c : Bool) → c ≡ false → entry_to v row ≡ None → (if b then (if c then Some y.prob else None) else entry_to v row) ≡ None
none_here v y row true true e h = cc
none_here v y row true false e h = refl
none_here v y row false c e h = h

not_there : (v : ℕ) (row : List Entry) → ((k : ℕ) → k < length row → eqb (Entry.target (get_or row k no_entry)) v ≡ false) → entry_to v row ≡ None
not_there v [] h = refl
not_there v (y ∷ row) h = none_here v y row (nat_le v y.target) (eqb y.target v) (h 0 (omega arith)) (not_there v row (λ k l. h (suc k) (omega arith)))

module _ (v : ℕ) (row : List Entry) where
  pub search-found : (r : Result ℕ ℕ) → IsSearchInRange r (length row) → IsBinarySearchResult (λ y. nat_cmp (Entry.target y) v) row r → IfSome (result_ok r) (LeadsAt v row)
  search-found (Ok i) l h = (l, λ d. ranked _ v _ (sym (h d)))
  search-found (Err i) l h = tt

  rises : (high : ℕ) → Between 0 high row → IsNonDecreasingBy (λ y. ordering_index (nat_cmp (Entry.target y) v)) row
  rises high b = IsNonDecreasingBy-from_default (λ y. ordering_index (nat_cmp (Entry.target y) v)) row no_entry (λ i j l m.
      let k = targets_rise 0 high i j row no_entry b l m in
      grind (arith, nat_tests))

  pub search-none : (r : Result ℕ ℕ) → IsBinarySearchResult (λ y. nat_cmp (Entry.target y) v) row r → result_ok r ≡ None → (high : ℕ) → Between 0 high row → entry_to v row ≡ None
  search-none (Ok i) h e high b = cc
  search-none (Err i) h e high b =
      let parts = h (rises high b) in
      not_there v row (λ k l. elim (le_or i k) as (λ _. eqb (Entry.target (get_or row k no_entry)) v ≡ false) [
        | inl m ↦ let g = ranked _ v _ (sym (parts.1 k no_entry m l)) in grind (arith, nat_tests)
        | inr m ↦ let g = ranked _ v _ (sym (parts.0 k no_entry (omega arith) m)) in grind (arith, nat_tests)
      ])
