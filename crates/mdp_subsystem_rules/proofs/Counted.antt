-- What a state counts as by the lines of a certificate: a goal as the one number, the state of a line as that line says, any other state as another.
use Rattle.std.proofs.Common.{◌≡◌, ℕ, ◌<◌, Bool, true, false, cond, List, get_or, length, sym, ap, ◌∙◌, arith, pos}
use Rattle.std.proofs.lemmas.List.FromFn.{get_or-map-range_with_len}
use Rattle.mdp_math.specs.Rational.{ℚ, of_int}
use Rattle.mdp_math.proofs.Order.{0ℚ}
use Rattle.mdp_spec.specs.{Mdp.{Mdp, states_of, value_at}, Tree.{is_marked}}
use Rattle.mdp_subsystem_rules.specs.{FloorChecks.{line_value, line_values, line_rank}, Kept.{is_listed, kept_marks, looked_up, spread, Ascends}}
use Rattle.mdp_subsystem_rules.proofs.Kept.{kept_marks-at, spread-at, listed-at, looked_up-at}

module _ {A : Type 0} (n : ℕ) (goals : List Bool) (kept : List ℕ) (xs : List A) (one none : A) where
  abbrev counted : ℕ → A
  counted s = cond (is_marked goals s) one (cond (is_marked (kept_marks n kept) s) (get_or (spread n kept xs none) s none) none)

  at_goal : (s : ℕ) → is_marked goals s ≡ true → counted s ≡ one
  at_goal s g = ap (λ (b : Bool). cond b one (cond (is_marked (kept_marks n kept) s) (get_or (spread n kept xs none) s none) none)) g

  by_line : (d : A) (i s : ℕ) → Ascends kept → length xs ≡ length kept → i < length kept → get_or kept i 0 ≡ s → s < n → is_marked goals s ≡ false → counted s ≡ get_or xs i d
  by_line d i s ascends each l is h g =
      ap (λ (b : Bool). cond b one (cond (is_marked (kept_marks n kept) s) (get_or (spread n kept xs none) s none) none)) g
      ∙ ap (λ (b : Bool). cond b (get_or (spread n kept xs none) s none) none) (kept_marks-at n kept s h ∙ ap (is_listed kept) (sym is) ∙ listed-at kept i l)
      ∙ spread-at n kept xs none none s h
      ∙ ap (looked_up kept xs none) (sym is)
      ∙ looked_up-at kept xs none d i ascends l each

  by_none : (s : ℕ) → s < n → is_marked goals s ≡ false → is_listed kept s ≡ false → counted s ≡ none
  by_none s h g none_ =
      ap (λ (b : Bool). cond b one (cond (is_marked (kept_marks n kept) s) (get_or (spread n kept xs none) s none) none)) g
      ∙ ap (λ (b : Bool). cond b (get_or (spread n kept xs none) s none) none) (kept_marks-at n kept s h ∙ none_)

module _ (m : Mdp) (goals : List Bool) (kept : List ℕ) where
  -- what is counted by state is what is counted in the list
  pub line_values-at : (values : List ℚ) (s : ℕ) → s < states_of m → value_at (line_values m goals kept values) s ≡ line_value m goals kept values s
  line_values-at values s h = get_or-map-range_with_len (line_value m goals kept values) 0 (states_of m) s s 0ℚ h (omega arith)

  pub value-goal : (values : List ℚ) (s : ℕ) → s < states_of m → is_marked goals s ≡ true → of_int (pos 1) ≡ value_at (line_values m goals kept values) s
  value-goal values s h g = sym (line_values-at values s h ∙ at_goal (states_of m) goals kept values (of_int (pos 1)) 0ℚ s g)

  pub value-line : (values : List ℚ) (d : ℚ) (i s : ℕ) → Ascends kept → length values ≡ length kept → i < length kept → get_or kept i 0 ≡ s → s < states_of m → is_marked goals s ≡ false
      → get_or values i d ≡ value_at (line_values m goals kept values) s
  value-line values d i s ascends each l is h g = sym (line_values-at values s h ∙ by_line (states_of m) goals kept values (of_int (pos 1)) 0ℚ d i s ascends each l is h g)

  pub value-none : (values : List ℚ) (s : ℕ) → s < states_of m → is_marked goals s ≡ false → is_listed kept s ≡ false → 0ℚ ≡ value_at (line_values m goals kept values) s
  value-none values s h g none_ = sym (line_values-at values s h ∙ by_none (states_of m) goals kept values (of_int (pos 1)) 0ℚ s h g none_)

  pub rank-line : (ranks : List ℕ) (d i s : ℕ) → Ascends kept → length ranks ≡ length kept → i < length kept → get_or kept i 0 ≡ s → s < states_of m → is_marked goals s ≡ false
      → get_or ranks i d ≡ line_rank m goals kept ranks s
  rank-line ranks d i s ascends each l is h g = sym (by_line (states_of m) goals kept ranks 0 0 d i s ascends each l is h g)

  pub rank-none : (ranks : List ℕ) (s : ℕ) → s < states_of m → is_marked goals s ≡ false → is_listed kept s ≡ false → 0 ≡ line_rank m goals kept ranks s
  rank-none ranks s h g none_ = sym (by_none (states_of m) goals kept ranks 0 0 s h g none_)
