-- Entries of a row by their targets.
use Rattle.std.proofs.{Common.{◌≡◌, ℕ, true, ◌==◌, List, get_or, refl, sym, subst, pos}, lemmas.Bool.{eqb-true, eq-eqb}, lemmas.List.{get_or_default}}
use Rattle.std.specs.List.{All, Any}
use Rattle.mdp_math.specs.Rational.{of_int}
use Rattle.mdp_spec.specs.Mdp.{Entry}
use Rattle.mdp_rows.specs.Preds.{leads_to}
use Rattle.mdp_ends.proofs.Walking.{any-some, some-any}

abbrev any_entry : Entry
any_entry = record { target = 0; prob = of_int (pos 0) }

module _ (row : List Entry) (P : ℕ → Type 0) where
  pub any-target : Any (λ y. P y.target) row → (t : ℕ) × (leads_to t row ≡ true) × P t
  any-target a =
      let t : ℕ = Entry.target (get_or row a.0 a.1) in
      (t, some-any (λ (x : Entry). x.target == t) row a.1 a.0 a.2 (eq-eqb t t refl), subst (λ (y : Entry). P y.target) (sym a.3) a.4)

  pub target-any : (t : ℕ) → leads_to t row ≡ true → P t → Any (λ y. P y.target) row
  target-any t e h =
      let w = any-some (λ (x : Entry). x.target == t) row any_entry e in
      let x : Entry = get_or row w.0 any_entry in
      (w.0, x, w.1, get_or_default row w.0 x any_entry w.1, subst P (sym (eqb-true (Entry.target (get_or row w.0 any_entry)) t w.2)) h)

  pub all-target : All (λ y. P y.target) row → (t : ℕ) → leads_to t row ≡ true → P t
  all-target a t e =
      let w = any-some (λ (x : Entry). x.target == t) row any_entry e in
      subst P (eqb-true (Entry.target (get_or row w.0 any_entry)) t w.2) (a w.0 any_entry w.1)

  pub target-all : ((t : ℕ) → leads_to t row ≡ true → P t) → All (λ y. P y.target) row
  target-all h k d l =
      let t : ℕ = Entry.target (get_or row k d) in
      h t (some-any (λ (x : Entry). x.target == t) row d k l (eq-eqb t t refl))
