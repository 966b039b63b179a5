-- What a gain says of trees: where no choice of the component is better, no tree of its choices earns more than the gain in each step.
use Rattle.std.proofs.Common.{◌≡◌, ℕ, ◌<◌, Bool, true, false, List, [], length, sym, ◌∙◌, ap, subst, zero-add, map}
use Rattle.std.proofs.lemmas.List.FromFn.{get_or-map-range_with_len}
use Rattle.std.specs.{Prelude.{slice_index_or}, List.{range_with_len}}
use Rattle.mdp_math.specs.{Rational.{ℚ, ◌+ℚ◌, ◌-ℚ◌, ◌≤ℚ◌}, Sum.{EachAt}}
use Rattle.mdp_math.proofs.{Order.{≤ℚ_refl, ≤ℚ_of_eq}, SumsAt.{EachAt_mono, EachAt_both}}
use Rattle.mdp_spec.specs.{Mdp.{Mdp, states_of, choices_at, row_at}, Row.{IsMdp, IsRow}, Tree.{Tree}}
use Rattle.mdp_spec.proofs.{Above.{row_weigh}, Rows.{rows_known, targets_at, row_weigh-const}, Steps.{Uses}, Mean.{total-le_by, total-ge_by}}
use Rattle.mdp_rows.specs.{declared.dir.Dir.{Dir}, declared.dir.Dir.TheVariants.{Max, Min}}
use Rattle.mdp_unichain.specs.Component as component
use Rattle.mdp_unichain.specs.Model.{choice_of, component_of, Takes, NoTreeEarnsMore, NoTreeEarnsLess}

-- trees that take choices by a test, at states of the model
abbrev Taking : Mdp → ℕ → (ℕ → ℕ → Bool) → ℕ → Tree → ℕ → Type 0
Taking m u inner n t s = (s < states_of m) × Takes m inner u n t s

taking_uses : (m : Mdp) (u : ℕ) (inner : ℕ → ℕ → Bool) → IsMdp m → Uses m u (λ s. false) (λ s c. inner s c ≡ true) (λ s. s < states_of m) (Taking m u inner)
taking_uses m u inner known_ = record {
  inside = λ n t s ok. ok.0;
  no_leaf = λ n s ok. ok.1;
  adds = λ n weights kids s ok. ok.1.0;
  behind = λ n weights kids s e ok.
      EachAt_mono (choices_at m s)
      (λ c x. IsRow (states_of m) x.row × (0 < weights c → (inner s c ≡ true) × EachAt x.row (λ e y. Takes m inner u n (kids c e) y.target)))
      (λ c x. 0 < weights c → (inner s c ≡ true) × EachAt x.row (λ e y. (y.target < states_of m) × Takes m inner u n (kids c e) y.target))
      (λ c x q above. (
        (q.1 above).0,
        EachAt_both x.row (λ e y. y.target < states_of m) (λ e y. Takes m inner u n (kids c e) y.target) (targets_at (states_of m) x.row q.0) (q.1 above).1,
      ))
      (EachAt_both (choices_at m s) (λ c x. IsRow (states_of m) x.row) (λ c x. 0 < weights c → (inner s c ≡ true) × EachAt x.row (λ e y. Takes m inner u n (kids c e) y.target))
      (rows_known m s known_) ok.1.1);
}

-- ---- the component of a model

module _ (dir : Dir) (m : Mdp) (r : ℕ) (inner : ℕ → ℕ → Bool) where
  -- its choices are the model's
  pub choice_of-at : (s c : ℕ) → s < states_of m → c < length (choices_at m s) → component.choice_at (component_of dir m r inner) s c ≡ choice_of m r inner s c
  choice_of-at s c l k =
      ap (λ (cs : List component.Choice). slice_index_or cs c component.no_choice)
      (get_or-map-range_with_len (λ s. map (choice_of m r inner s) (range_with_len 0 (length (choices_at m s)))) 0 (states_of m) s s [] l (zero-add s))
      ∙ get_or-map-range_with_len (choice_of m r inner s) 0 (length (choices_at m s)) c c component.no_choice k (zero-add c)

constant_row : (m : Mdp) (s c : ℕ) (g : ℚ) → IsMdp m → s < states_of m → c < length (choices_at m s) → row_weigh (λ v. g) (row_at m s c) ≡ g
constant_row m s c g known_ h i = row_weigh-const (states_of m) (row_at m s c) g (IsMdp.row known_ s c h i)

pub no_tree_earns_more : NoTreeEarnsMore
no_tree_earns_more m r inner gain low high bias known_ none between n u t s hu h keeps =
    total-le_by m r u known_ hu (λ s c. inner s c ≡ true) (Taking m u inner) (taking_uses m u inner known_) (λ v. gain) bias low high (high -ℚ low) between.least between.greatest (≤ℚ_refl _)
    (λ s d h ok i. ≤ℚ_of_eq _ _ (constant_row m s d gain known_ h i))
    (λ s d h ok i.
    let e = choice_of-at Max m r inner s d h i in
    subst (λ (c : component.Choice). c.reward +ℚ row_weigh bias c.row ≤ℚ gain +ℚ bias s) e (none s d (ap component.Choice.inner e ∙ ok)))
    n t s (h, keeps)

pub no_tree_earns_less : NoTreeEarnsLess
no_tree_earns_less m r inner gain low high bias known_ none between n u t s hu h keeps =
    total-ge_by m r u known_ hu (λ s c. inner s c ≡ true) (Taking m u inner) (taking_uses m u inner known_) (λ v. gain) bias low high (high -ℚ low) between.least between.greatest (≤ℚ_refl _)
    (λ s d h ok i. ≤ℚ_of_eq _ _ (sym (constant_row m s d gain known_ h i)))
    (λ s d h ok i.
    let e = choice_of-at Min m r inner s d h i in
    subst (λ (c : component.Choice). gain +ℚ bias s ≤ℚ c.reward +ℚ row_weigh bias c.row) e (none s d (ap component.Choice.inner e ∙ ok)))
    n t s (h, keeps)
