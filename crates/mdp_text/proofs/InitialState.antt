-- The one initial state is a state.
use Rattle.std.proofs.{Common.{◌≡◌, ℕ, ◌<◌, List, [], ◌∷◌, Some, sym, subst, arith, codes}, lemmas.List.Elements.{All-from_get_or, All-filter}}
use Rattle.std.proofs.lemmas.List.FromFn.{get_or-range_with_len, length-range_with_len}
use Rattle.std.specs.List.{All, range_with_len}
use Rattle.mdp_math.proofs.Kernel.{All-head}
use Rattle.mdp_spec.specs.{Mdp.{Mdp, states_of}, Labels.{place_of, initial_of, labelled, has_at, only}}

only_passes : (P : ℕ → Type 0) (xs : List ℕ) (s : ℕ) → only xs ≡ Some s → All P xs → P s
only_passes P [] s e h = cc e
only_passes P (x ∷ []) s e h = subst P (let i : x ≡ s = cc e in i) (All-head P x [] h)
only_passes P (x ∷ y ∷ xs) s e h = cc e

range_below : (n : ℕ) → All (λ s. s < n) (range_with_len 0 n)
range_below n =
    All-from_get_or (λ s. s < n) (range_with_len 0 n) 0
    (λ i l.
    let lt : i < n = subst (λ (k : ℕ). i < k) (length-range_with_len 0 n) l in
    subst (λ (s : ℕ). s < n) (sym (get_or-range_with_len 0 n i 0 lt)) (omega (arith, lt)))

pub initial_below : (m : Mdp) (s : ℕ) → initial_of m ≡ Some s → s < states_of m
initial_below m s e =
    only_passes (λ s. s < states_of m) (labelled m (codes "init")) s e
    (All-filter (has_at m (place_of (codes "init") m.labels)) (λ s. s < states_of m) (range_with_len 0 (states_of m)) (range_below (states_of m)))
