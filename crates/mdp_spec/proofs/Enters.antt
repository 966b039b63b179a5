-- A tree enters the marked states before a goal, or it doesn't, and then it uses choices that lead to other states alone.
use Rattle.std.proofs.Common.{◌≡◌, ℕ, zero, suc, ◌<◌, ◌⊎◌, ⊎_elim, inl, inr, Bool, true, false, true≢false, List, [], ◌∷◌, length, refl, sym, ◌∙◌, subst, arith}
use Rattle.std.proofs.lemmas.Bool.{cases_Bool}
use Rattle.std.specs.List.{All}
use Rattle.mdp_math.specs.Sum.{EachAt, AnyAt}
use Rattle.mdp_math.proofs.SumsAt.{EachAt_mono, EachAt_both, places_from_EachAt}
use Rattle.mdp_spec.specs.{Mdp.{Entry, Mdp, states_of, choices_at, row_at}, Row.{IsRow, IsMdp}, Tree.{Tree, Fits, is_marked}, Tree.Tree.{leaf, node}}
use Rattle.mdp_spec.specs.Pay.{Enters}
use Rattle.mdp_spec.proofs.{Rows.{rows_known, placed, targets_at}, Steps.{Uses}}

marked_or_not : (b : Bool) → (b ≡ true) ⊎ (b ≡ true → ⊥)
marked_or_not true = inl refl
marked_or_not false = inr (λ e. true≢false (sym e))

any_or_none : {A : Type 0} (xs : List A) (Q : ℕ → A → Type 0) → ((k : ℕ) (x : A) → Q k x ⊎ (Q k x → ⊥)) → AnyAt xs Q ⊎ (AnyAt xs Q → ⊥)
any_or_none [] Q h = inr (λ e. e)
any_or_none (x ∷ xs) Q h =
    ⊎_elim (λ q. inl (inl q))
    (λ never. ⊎_elim (λ any. inl (inr any)) (λ none. inr (λ e. ⊎_elim never none e)) (any_or_none xs (λ k y. Q (suc k) y) (λ k y. h (suc k) y))) (h 0 x)

none_each : {A : Type 0} (xs : List A) (Q : ℕ → A → Type 0) → (AnyAt xs Q → ⊥) → EachAt xs (λ k x. Q k x → ⊥)
none_each [] Q never = tt
none_each (x ∷ xs) Q never = (λ q. never (inl q), none_each xs (λ k y. Q (suc k) y) (λ any. never (inr any)))

both_or_not : (k : ℕ) (B : Type 0) → B ⊎ (B → ⊥) → ((0 < k) × B) ⊎ ((0 < k) × B → ⊥)
both_or_not zero B h = inr (λ q. omega (arith, q.0))
both_or_not (suc k) B h = ⊎_elim (λ b. inl (omega arith, b)) (λ never. inr (λ q. never q.1)) h

-- choices that lead to unmarked states alone
abbrev pub Avoids : Mdp → List Bool → ℕ → ℕ → Type 0
Avoids m marks s c = All (λ y. is_marked marks y.target ≡ false) (row_at m s c)

module _ (m : Mdp) (goals marks : List Bool) where
  pub enters_or_not : (n : ℕ) (t : Tree) (s : ℕ) → Enters m goals marks n t s ⊎ (Enters m goals marks n t s → ⊥)
  enters_or_not zero t s = marked_or_not (is_marked marks s)
  enters_or_not (suc n) leaf s = marked_or_not (is_marked marks s)
  enters_or_not (suc n) (node weights kids) s =
      ⊎_elim (λ e. inl (inl e))
      (λ never. ⊎_elim (λ g. inr (λ q. ⊎_elim never (λ p. true≢false (sym g ∙ p.0)) q))
      (λ g.
      ⊎_elim (λ any. inl (inr (g, any))) (λ none. inr (λ q. ⊎_elim never (λ p. none p.1) q))
      (any_or_none (choices_at m s) (λ c x. (0 < weights c) × AnyAt x.row (λ e y. Enters m goals marks n (kids c e) y.target))
      (λ c x. both_or_not (weights c) (AnyAt x.row (λ e y. Enters m goals marks n (kids c e) y.target))
      (any_or_none x.row (λ e y. Enters m goals marks n (kids c e) y.target) (λ e y. enters_or_not n (kids c e) y.target)))))
      (cases_Bool (is_marked goals s)))
      (marked_or_not (is_marked marks s))

  unmarked : (n : ℕ) (t : Tree) (s : ℕ) → (Enters m goals marks n t s → ⊥) → is_marked marks s ≡ false
  unmarked zero t s never = ⊎_elim (λ e. absurd (never e)) (λ e. e) (cases_Bool (is_marked marks s))
  unmarked (suc n) leaf s never = ⊎_elim (λ e. absurd (never e)) (λ e. e) (cases_Bool (is_marked marks s))
  unmarked (suc n) (node weights kids) s never = ⊎_elim (λ e. absurd (never (inl e))) (λ e. e) (cases_Bool (is_marked marks s))

  -- trees that enter no marked state
  pub avoiding_uses : (u : ℕ) → IsMdp m → Uses m u (is_marked goals) (Avoids m marks) (λ s. (s < states_of m) × (is_marked marks s ≡ false))
      (λ n t s. (s < states_of m) × Fits m u n t s × (Enters m goals marks n t s → ⊥))
  avoiding_uses u known_ = record {
    inside = λ n t s ok. (ok.0, unmarked n t s ok.2);
    no_leaf = λ n s ok. ok.1;
    adds = λ n weights kids s ok. ok.1.0;
    behind = λ n weights kids s g ok.
        EachAt_mono (choices_at m s)
        (λ c x. (((c < length (choices_at m s)) × (row_at m s c ≡ x.row)) × IsRow (states_of m) x.row)
        × (EachAt x.row (λ e y. Fits m u n (kids c e) y.target) × ((0 < weights c) × AnyAt x.row (λ e y. Enters m goals marks n (kids c e) y.target) → ⊥)))
        (λ c x. 0 < weights c → Avoids m marks s c × EachAt x.row (λ e y. (y.target < states_of m) × Fits m u n (kids c e) y.target × (Enters m goals marks n (kids c e) y.target → ⊥)))
        (λ c x q above.
        let none : EachAt x.row (λ e y. Enters m goals marks n (kids c e) y.target → ⊥) = none_each x.row (λ e y. Enters m goals marks n (kids c e) y.target) (λ any. q.1.1 (above, any)) in (
          subst (λ (row : List Entry). All (λ y. is_marked marks y.target ≡ false) row) (sym q.0.0.1)
              (places_from_EachAt x.row (λ e y. is_marked marks y.target ≡ false)
              (EachAt_mono x.row (λ e y. Enters m goals marks n (kids c e) y.target → ⊥) (λ e y. is_marked marks y.target ≡ false) (λ e y never. unmarked n (kids c e) y.target never) none)),
          EachAt_mono x.row (λ e y. (y.target < states_of m) × (Fits m u n (kids c e) y.target × (Enters m goals marks n (kids c e) y.target → ⊥)))
              (λ e y. (y.target < states_of m) × Fits m u n (kids c e) y.target × (Enters m goals marks n (kids c e) y.target → ⊥)) (λ e y p. (p.0, p.1.0, p.1.1))
              (EachAt_both x.row (λ e y. y.target < states_of m) (λ e y. Fits m u n (kids c e) y.target × (Enters m goals marks n (kids c e) y.target → ⊥)) (targets_at (states_of m) x.row q.0.1)
              (EachAt_both x.row (λ e y. Fits m u n (kids c e) y.target) (λ e y. Enters m goals marks n (kids c e) y.target → ⊥) q.1.0 none)),
        ))
        (EachAt_both (choices_at m s) (λ c x. ((c < length (choices_at m s)) × (row_at m s c ≡ x.row)) × IsRow (states_of m) x.row)
        (λ c x. EachAt x.row (λ e y. Fits m u n (kids c e) y.target) × ((0 < weights c) × AnyAt x.row (λ e y. Enters m goals marks n (kids c e) y.target) → ⊥))
        (EachAt_both (choices_at m s) (λ c x. (c < length (choices_at m s)) × (row_at m s c ≡ x.row)) (λ c x. IsRow (states_of m) x.row) (placed m s) (rows_known m s known_))
        (EachAt_both (choices_at m s) (λ c x. EachAt x.row (λ e y. Fits m u n (kids c e) y.target))
        (λ c x. (0 < weights c) × AnyAt x.row (λ e y. Enters m goals marks n (kids c e) y.target) → ⊥) ok.1.1
        (none_each (choices_at m s) (λ c x. (0 < weights c) × AnyAt x.row (λ e y. Enters m goals marks n (kids c e) y.target)) (λ any. ok.2 (inr (g, any))))));
  }
