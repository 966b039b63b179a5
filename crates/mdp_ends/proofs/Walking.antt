-- Walks by chosen choices.
use Rattle.std.proofs.Common.{◌≡◌, inl, inr, ℕ, suc, zero, ◌<◌, Bool, true, ◌&&◌, ◌==◌, List, [], ◌∷◌, length, get_or, refl, sym, ap, ◌∙◌, subst, arith, pos}
use Rattle.std.proofs.lemmas.Bool.{false≢true, eqb-true, eq-eqb, or_cases, or_left, or_right, and_parts, and_from}
use Rattle.std.proofs.lemmas.List.FromFn.{length-range_with_len, get_or-range_with_len}
use Rattle.std.specs.List.{list_any, range_with_len, All}
use Rattle.mdp_math.specs.Rational.{of_int}
use Rattle.mdp_spec.specs.{Mdp.{Entry, Mdp, states_of, choices_at, row_at}, Row.{IsMdp}}
use Rattle.mdp_rows.specs.Preds.{leads_to}
use Rattle.mdp_graph.specs.{Sets.{can_enter, stays_in}, Layers.{reached}}
use Rattle.mdp_graph.proofs.RowSets.{list_any-at, list_any-by}
use Rattle.mdp_ends.specs.Walks.{chosen_step, comes_to, Reaches, AreJoined}

-- ---- lists

pub any-some : {X : Type 0} (p : X → Bool) (xs : List X) (d : X) → list_any p xs ≡ true → (i : ℕ) × (i < length xs) × (p (get_or xs i d) ≡ true)
any-some p xs d e = list_any-at p xs d e

pub some-any : {X : Type 0} (p : X → Bool) (xs : List X) (d : X) (i : ℕ) → i < length xs → p (get_or xs i d) ≡ true → list_any p xs ≡ true
some-any p xs d i h e = list_any-by p xs d i h e

pub any-range : (p : ℕ → Bool) (n : ℕ) → list_any p (range_with_len 0 n) ≡ true → (c : ℕ) × (c < n) × (p c ≡ true)
any-range p n e =
    let w = any-some p (range_with_len 0 n) 0 e in
    let l : w.0 < n = omega (arith, w.1, length-range_with_len 0 n) in
    let z : get_or (range_with_len 0 n) w.0 0 ≡ w.0 = get_or-range_with_len 0 n w.0 0 l ∙ omega arith in
    (w.0, l, sym (ap p z) ∙ w.2)

pub range-any : (p : ℕ → Bool) (n c : ℕ) → c < n → p c ≡ true → list_any p (range_with_len 0 n) ≡ true
range-any p n c l e =
    let z : get_or (range_with_len 0 n) c 0 ≡ c = get_or-range_with_len 0 n c 0 l ∙ omega arith in
    some-any p (range_with_len 0 n) 0 c (omega (arith, l, length-range_with_len 0 n)) (ap p z ∙ e)

-- ---- rows

abbrev any_entry : Entry
any_entry = record { target = 0; prob = of_int (pos 0) }

pub enters-at : (set : ℕ → Bool) (row : List Entry) → can_enter set row ≡ true → (t : ℕ) × (leads_to t row ≡ true) × (set t ≡ true)
enters-at set row e =
    let w = any-some (λ (x : Entry). set x.target) row any_entry e in
    let t : ℕ = Entry.target (get_or row w.0 any_entry) in
    (t, some-any (λ (x : Entry). x.target == t) row any_entry w.0 w.1 (eq-eqb t t refl), w.2)

pub enters-by : (set : ℕ → Bool) (row : List Entry) (t : ℕ) → leads_to t row ≡ true → set t ≡ true → can_enter set row ≡ true
enters-by set row t e h =
    let w = any-some (λ (x : Entry). x.target == t) row any_entry e in
    some-any (λ (x : Entry). set x.target) row any_entry w.0 w.1 (ap set (eqb-true (Entry.target (get_or row w.0 any_entry)) t w.2) ∙ h)

pub stays-at : (set : ℕ → Bool) (row : List Entry) (t : ℕ) → stays_in set row ≡ true → leads_to t row ≡ true → set t ≡ true
stays-at set [] t e l = absurd (false≢true l)
stays-at set (x ∷ row) t e l =
    let p = and_parts (set x.target) (stays_in set row) e in
    elim (or_cases (x.target == t) (leads_to t row) l) [
      | inl same ↦ ap set (sym (eqb-true x.target t same)) ∙ p.0
      | inr later ↦ stays-at set row t p.1 later
    ]

pub stays-by : (set : ℕ → Bool) (row : List Entry) → ((t : ℕ) → leads_to t row ≡ true → set t ≡ true) → stays_in set row ≡ true
stays-by set [] h = refl
stays-by set (x ∷ row) h =
    and_from (set x.target) (stays_in set row) (h x.target (or_left (x.target == x.target) (leads_to x.target row) (eq-eqb x.target x.target refl)))
    (stays-by set row (λ t l. h t (or_right (x.target == t) (leads_to t row) l)))

pub leads-below : (n : ℕ) (row : List Entry) (t : ℕ) → All (λ x. x.target < n) row → leads_to t row ≡ true → t < n
leads-below n row t range l =
    let w = any-some (λ (x : Entry). x.target == t) row any_entry l in
    let e = eqb-true (Entry.target (get_or row w.0 any_entry)) t w.2 in
    let h = range w.0 any_entry w.1 in
    omega (arith, e, h)

-- ---- steps

pub step-has : (m : Mdp) (chosen : ℕ → ℕ → Bool) (set : ℕ → Bool) (s : ℕ) → chosen_step m chosen set s ≡ true
    → (c t : ℕ) × (c < length (choices_at m s)) × (chosen s c ≡ true) × (leads_to t (row_at m s c) ≡ true) × (set t ≡ true)
step-has m chosen set s e =
    let w = any-range (λ c. chosen s c && can_enter set (row_at m s c)) (length (choices_at m s)) e in
    let p = and_parts (chosen s w.0) (can_enter set (row_at m s w.0)) w.2 in
    let z = enters-at set (row_at m s w.0) p.1 in
    (w.0, z.0, w.1, p.0, z.1, z.2)

pub step-by : (m : Mdp) (chosen : ℕ → ℕ → Bool) (set : ℕ → Bool) (s c t : ℕ) → c < length (choices_at m s)
    → chosen s c ≡ true → leads_to t (row_at m s c) ≡ true → set t ≡ true → chosen_step m chosen set s ≡ true
step-by m chosen set s c t l e to is =
    range-any (λ c. chosen s c && can_enter set (row_at m s c)) (length (choices_at m s)) c l (and_from (chosen s c) (can_enter set (row_at m s c)) e (enters-by set (row_at m s c) t to is))

-- ---- walks

pub here : (m : Mdp) (chosen : ℕ → ℕ → Bool) (s : ℕ) → Reaches m chosen s s
unfolding reached
here m chosen s = (0, eq-eqb s s refl)

pub one_more : (m : Mdp) (chosen : ℕ → ℕ → Bool) (s c t u : ℕ) → c < length (choices_at m s) → chosen s c ≡ true → leads_to t (row_at m s c) ≡ true → Reaches m chosen t u → Reaches m chosen s u
unfolding reached
one_more m chosen s c t u l e to w = (suc w.0, or_right (comes_to m chosen u w.0 s) (chosen_step m chosen (comes_to m chosen u w.0) s) (step-by m chosen (comes_to m chosen u w.0) s c t l e to w.1))

module _ (m : Mdp) (ok : IsMdp m) where
  pub target-below : (s c t : ℕ) → s < states_of m → c < length (choices_at m s) → leads_to t (row_at m s c) ≡ true → t < states_of m
  target-below s c t h l to = let row = ok.row s c h l in leads-below (states_of m) (row_at m s c) t row.in_range to

  -- what holds at the end of a walk and is kept backwards along its steps holds at its start
  pub walk_to : (chosen : ℕ → ℕ → Bool) (t : ℕ) (P : ℕ → Type 0) → P t
      → ((s c x : ℕ) → s < states_of m → c < length (choices_at m s) → chosen s c ≡ true → leads_to x (row_at m s c) ≡ true
      → x < states_of m → Reaches m chosen x t → P x → P s) → (s : ℕ) → s < states_of m → Reaches m chosen s t → P s
  unfolding reached
  walk_to chosen t P last step s h w = go w.0 s h w.1 where
    go : (k s : ℕ) → s < states_of m → comes_to m chosen t k s ≡ true → P s
    go zero s h e = subst P (sym (eqb-true s t e)) last
    go (suc k) s h e = elim (or_cases (comes_to m chosen t k s) (chosen_step m chosen (comes_to m chosen t k) s) e) [
      | inl before ↦ go k s h before
      | inr stepped ↦
          (let z = step-has m chosen (comes_to m chosen t k) s stepped in
          let b = target-below s z.0 z.1 h z.2 z.4 in step s z.0 z.1 h z.2 z.3 z.4 b (k, z.5) (go k z.1 b z.5))
    ]

  pub and_then : (chosen : ℕ → ℕ → Bool) (s t u : ℕ) → s < states_of m → Reaches m chosen s t → Reaches m chosen t u → Reaches m chosen s u
  and_then chosen s t u h w v = walk_to chosen t (λ x. Reaches m chosen x u) v (λ x c y hx l e to hy way v. one_more m chosen x c y u l e to v) s h w

  -- a walk stays in a set that is closed under the chosen choices, and is one by the choices that are chosen in it
  pub stays_along : (set : ℕ → Bool) (chosen : ℕ → ℕ → Bool)
      → ((s c : ℕ) → s < states_of m → set s ≡ true → c < length (choices_at m s) → chosen s c ≡ true → stays_in set (row_at m s c) ≡ true)
      → (s t : ℕ) → s < states_of m → set s ≡ true → Reaches m chosen s t → set t ≡ true
  stays_along set chosen closed s t h is w =
      walk_to chosen t (λ x. set x ≡ true → set t ≡ true) (λ is. is) (λ x c y hx l e to hy way known is. known (stays-at set (row_at m x c) y (closed x c hx is l e) to)) s h w is

  pub moved : (set : ℕ → Bool) (chosen more : ℕ → ℕ → Bool)
      → ((s c : ℕ) → s < states_of m → set s ≡ true → c < length (choices_at m s) → chosen s c ≡ true → stays_in set (row_at m s c) ≡ true)
      → ((s c : ℕ) → s < states_of m → set s ≡ true → c < length (choices_at m s) → chosen s c ≡ true → more s c ≡ true)
      → (s t : ℕ) → s < states_of m → set s ≡ true → Reaches m chosen s t → Reaches m more s t
  moved set chosen more closed within s t h is w =
      walk_to chosen t (λ x. set x ≡ true → Reaches m more x t) (λ is. here m more t)
      (λ x c y hx l e to hy way known is. one_more m more x c y t l (within x c hx is l e) to (known (stays-at set (row_at m x c) y (closed x c hx is l e) to))) s h w is

  pub joined_trans : (chosen : ℕ → ℕ → Bool) (s t u : ℕ) → s < states_of m → u < states_of m → AreJoined m chosen s t → AreJoined m chosen t u → AreJoined m chosen s u
  joined_trans chosen s t u hs hu a b = (and_then chosen s t u hs a.0 b.0, and_then chosen u t s hu b.1 a.1)
