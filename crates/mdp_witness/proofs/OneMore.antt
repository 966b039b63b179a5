-- The lists of a certificate, as the states are gone through: one more state.
use Rattle.std.proofs.Common.{◌≡◌, ℕ, ◌+◌, ◌<◌, Bool, true, false, List, [], ◌∷◌, ◌++◌, map, get_or, sym, ◌∙◌, ap, subst, if◌then◌else◌}
use Rattle.std.proofs.{lemmas.List.{append-nil}, lemmas.List.Elements.{filter-append}}
use Rattle.std.specs.List.{All, filter, range_with_len}
use Rattle.mdp_math.specs.Rational.{ℚ, lt_ℚ}
use Rattle.mdp_math.proofs.{Lists.{range_more, map_more}, Order.{0ℚ}}
use Rattle.mdp_spec.specs.{Mdp.{value_at}, Tree.{is_marked}}
use Rattle.mdp_claims.specs.declared.subsystem.Flow.{Flow}
use Rattle.mdp_subsystem_rules.specs.{Listed.{listed}, Visits.{visit_flow, visit_flows}}
use Rattle.mdp_subsystem_rules.proofs.Listed.{listed-in_range}

one_passes : {A : Type 0} (p : A → Bool) (x : A) (b : Bool) → p x ≡ b → filter p (x ∷ []) ≡ (if b then x ∷ [] else [])
one_passes p x b e = ap (λ (c : Bool). if c then x ∷ [] else []) e

module _ {A : Type 0} (p : A → Bool) (xs : List A) (x : A) where
  pub filter-more : p x ≡ true → filter p (xs ++ x ∷ []) ≡ filter p xs ++ x ∷ []
  filter-more e = filter-append p xs (x ∷ []) ∙ ap (λ ys. filter p xs ++ ys) (one_passes p x true e)

  pub filter-skip : p x ≡ false → filter p (xs ++ x ∷ []) ≡ filter p xs
  filter-skip e = filter-append p xs (x ∷ []) ∙ ap (λ ys. filter p xs ++ ys) (one_passes p x false e) ∙ append-nil (filter p xs)

pub listed-more : (n : ℕ) (marks : List Bool) → is_marked marks n ≡ true → listed (n + 1) marks ≡ listed n marks ++ n ∷ []
listed-more n marks e = ap (filter (is_marked marks)) (range_more n) ∙ filter-more (is_marked marks) (range_with_len 0 n) n e

pub listed-skip : (n : ℕ) (marks : List Bool) → is_marked marks n ≡ false → listed (n + 1) marks ≡ listed n marks
listed-skip n marks e = ap (filter (is_marked marks)) (range_more n) ∙ filter-skip (is_marked marks) (range_with_len 0 n) n e

module _ (n : ℕ) (policy : List ℕ) (y : List ℚ) where
  abbrev flows : Flow → Bool
  flows f = lt_ℚ 0ℚ f.amount

  pub flows-more : lt_ℚ 0ℚ (value_at y n) ≡ true → visit_flows (n + 1) policy y ≡ visit_flows n policy y ++ visit_flow policy y n ∷ []
  flows-more e = ap (filter flows) (map_more (visit_flow policy y) n) ∙ filter-more flows (map (visit_flow policy y) (range_with_len 0 n)) (visit_flow policy y n) e

  pub flows-skip : lt_ℚ 0ℚ (value_at y n) ≡ false → visit_flows (n + 1) policy y ≡ visit_flows n policy y
  flows-skip e = ap (filter flows) (map_more (visit_flow policy y) n) ∙ filter-skip flows (map (visit_flow policy y) (range_with_len 0 n)) (visit_flow policy y n) e

-- the flow of a state, by its amount
pub flow-is : (policy : List ℕ) (y : List ℚ) (s : ℕ) (amount : ℚ) → amount ≡ value_at y s
    → (let f : Flow = record { state = s; choice = get_or policy s 0; amount = amount } in f) ≡ visit_flow policy y s
flow-is policy y s amount e = ap (λ (x : ℚ). let f : Flow = record { state = s; choice = get_or policy s 0; amount = x } in f) e

-- the listed states are places of a list with one element per state
pub within : (states n : ℕ) (marks : List Bool) (list : List ℕ) (size : ℕ) → n ≡ states → size ≡ states → list ≡ listed n marks → All (λ s. s < size) list
within states n marks list size e f g = subst (All (λ s. s < size)) (sym g) (subst (λ (k : ℕ). All (λ s. s < k) (listed n marks)) (e ∙ sym f) (listed-in_range n marks))
