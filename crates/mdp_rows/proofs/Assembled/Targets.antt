-- Rows with the same targets.
use Rattle.std.proofs.Common.{◌≡◌, ℕ, ◌+◌, ◌<◌, Bool, true, ◌&&◌, ◌||◌, ◌==◌, IsTrue, leb, List, [], ◌∷◌, length, map, refl, sym, ap, subst, ◌∙◌}
use Rattle.std.proofs.{lemmas.List.{length-map}, lemmas.List.Elements.{All-from_recursion, recursion_from_All}}
use Rattle.std.specs.List.{All, AllByRecursion, list_any}
use Rattle.mdp_spec.specs.{Mdp.{Entry}, Row.{ascends_from}}
use Rattle.mdp_rows.specs.{Draft.{has_target}, Given.{row_of}, declared.given.Given.{Given}}

abbrev pub targets : List Given → List ℕ
targets row = map (λ g. g.target) row

ascending : ℕ → List ℕ → Bool
ascending low [] = true
ascending low (t ∷ ts) = leb low t && ascending (t + 1) ts

ascends_by : (low : ℕ) (row : List Given) → ascends_from low (row_of row) ≡ ascending low (targets row)
unfolding ascending
ascends_by low [] = refl
ascends_by low (g ∷ row) = ap (λ (b : Bool). leb low g.target && b) (ascends_by (g.target + 1) row)

all_from : (n : ℕ) (row : List Given) → AllByRecursion (λ t. t < n) (targets row) → AllByRecursion (λ (x : Entry). x.target < n) (row_of row)
all_from n [] h = tt
all_from n (g ∷ row) h = (h.0, all_from n row h.1)

all_to : (n : ℕ) (row : List Given) → AllByRecursion (λ (x : Entry). x.target < n) (row_of row) → AllByRecursion (λ t. t < n) (targets row)
all_to n [] h = tt
all_to n (g ∷ row) h = (h.0, all_to n row h.1)

has_by : (row : List Given) (t : ℕ) → has_target (row_of row) t ≡ list_any (λ k. k == t) (targets row)
has_by [] t = refl
has_by (g ∷ row) t = ap (λ (b : Bool). (g.target == t) || b) (has_by row t)

module _ (xs ys : List Given) (e : targets xs ≡ targets ys) where
  pub same_length : length xs ≡ length ys
  same_length = sym (length-map xs (λ g. g.target)) ∙ ap length e ∙ length-map ys (λ g. g.target)

  pub same_ascending : (low : ℕ) → IsTrue (ascends_from low (row_of ys)) → IsTrue (ascends_from low (row_of xs))
  same_ascending low h = ascends_by low xs ∙ ap (ascending low) e ∙ sym (ascends_by low ys) ∙ h

  pub same_range : (n : ℕ) → All (λ (x : Entry). x.target < n) (row_of ys) → All (λ (x : Entry). x.target < n) (row_of xs)
  same_range n h =
      All-from_recursion (λ (x : Entry). x.target < n) (row_of xs)
      (all_from n xs (subst (AllByRecursion (λ t. t < n)) (sym e) (all_to n ys (recursion_from_All (λ (x : Entry). x.target < n) (row_of ys) h))))

  pub same_has : (t : ℕ) → has_target (row_of xs) t ≡ has_target (row_of ys) t
  same_has t = has_by xs t ∙ ap (list_any (λ k. k == t)) e ∙ sym (has_by ys t)
