-- Trees that arrive: where the choices that meet a rule lead from inside states to inside states alone and to a smaller rank, until a goal,
-- each deep tree that keeps the rule meets a goal with nearly all its paths: the share of those that haven't met one fades.
use Rattle.std.proofs.Common.{◌≡◌, ℕ, ◌<◌, ◌≤◌, Bool, true, false, cond, ltb, lt-ltb, ltb-true, List, length, sym, ◌∙◌, ap, subst, pos}
use Rattle.std.specs.List.{All, Any}
use Rattle.mdp_math.specs.{Rational.{ℚ, of_int, ratio, ◌+ℚ◌, ◌*ℚ◌, ◌-ℚ◌, ◌≤ℚ◌}, Power.{pow_ℚ}}
use Rattle.mdp_math.proofs.{Weight.{Shrinks}, Order.{0ℚ, 1ℚ, ≤ℚ_refl, ≤ℚ_of_eq, ≤ℚ_of_lt, ≤ℚ_trans}, Laws.{one-*ℚ}}
use Rattle.mdp_math.proofs.{Whole.{one-pos}, Kernel.{weigh-ge_const}}
use Rattle.mdp_spec.specs.{Mdp.{Entry, Mdp, states_of, choices_at, row_at}, Row.{IsRow, IsMdp}, Tree.{Tree, is_marked}, Hit.{hit}}
use Rattle.mdp_spec.proofs.{Rows.{probs_nonneg, row_weigh}, Keeping.{Keeps}, Close.{RowsShrink, deficit-le, deficit-fades}, Reach.{all_three, third}}
use Rattle.mdp_spec.proofs.Ranks.{shrinks_of_ranks}

-- the share of the paths of a tree that haven't met a goal
abbrev pub stay : Mdp → List Bool → ℕ → ℕ → Tree → ℕ → ℚ
stay m goals u n t s = 1ℚ -ℚ hit m goals u n t s

-- a state of the model that is no goal and inside
abbrev pub under_way : Mdp → List Bool → (ℕ → Bool) → ℕ → Bool
under_way m goals inside s = cond (ltb s (states_of m)) (cond (is_marked goals s) false (inside s)) false

under_way_parts : (m : Mdp) (goals : List Bool) (inside : ℕ → Bool) (s : ℕ) → under_way m goals inside s ≡ true → (s < states_of m) × (is_marked goals s ≡ false) × (inside s ≡ true)
under_way_parts m goals inside s a = let p = all_three (ltb s (states_of m)) (is_marked goals s) (inside s) a in (ltb-true s (states_of m) p.0, p.1, p.2)

not_under_way : (m : Mdp) (goals : List Bool) (inside : ℕ → Bool) (s : ℕ) → s < states_of m → is_marked goals s ≡ false → under_way m goals inside s ≡ false → inside s ≡ false
not_under_way m goals inside s h g a = third (ltb s (states_of m)) (is_marked goals s) (inside s) (lt-ltb s (states_of m) h) g a

-- 1 where the test holds, 0 elsewhere
abbrev share_of : Bool → ℚ
share_of b = cond b 1ℚ 0ℚ

share_of-le_one : (b : Bool) → share_of b ≤ℚ 1ℚ
share_of-le_one true = ≤ℚ_refl 1ℚ
share_of-le_one false = ≤ℚ_of_lt 0ℚ 1ℚ one-pos

share_of-one : (b : Bool) → b ≡ true → 1ℚ ≡ share_of b
share_of-one b e = sym (ap (λ (c : Bool). cond c 1ℚ 0ℚ) e)

share_of-none : (b : Bool) → b ≡ false → share_of b ≡ 0ℚ
share_of-none b e = ap (λ (c : Bool). cond c 1ℚ 0ℚ) e

-- a row that leads to inside states alone
inside_row : (k : ℕ) (row : List Entry) (inside : ℕ → Bool) (x : ℚ) → IsRow k row → x ≤ℚ 1ℚ → All (λ y. inside y.target ≡ true) row → x ≤ℚ row_weigh (λ v. share_of (inside v)) row
inside_row k row inside x known h all =
    ≤ℚ_trans x 1ℚ _ h
    (subst (λ (w : ℚ). w ≤ℚ row_weigh (λ v. share_of (inside v)) row) (one-*ℚ _ ∙ known.distribution.total)
    (weigh-ge_const (λ (y : Entry). y.target) (λ (y : Entry). y.prob) (λ v. share_of (inside v)) 1ℚ row (probs_nonneg k row known) (λ j d l. ≤ℚ_of_eq _ _ (share_of-one (inside _) (all j d l)))))

module _ (m : Mdp) (goals : List Bool) (known_ : IsMdp m) (P : ℕ → ℕ → Type 0) (inside : ℕ → Bool) (rank : ℕ → ℕ)
    (stays : (s c : ℕ) → s < states_of m → is_marked goals s ≡ false → inside s ≡ true → P s c → c < length (choices_at m s) → All (λ y. inside y.target ≡ true) (row_at m s c))
    (falls : (s c : ℕ) → s < states_of m → is_marked goals s ≡ false → inside s ≡ true → P s c → c < length (choices_at m s) → Any (λ y. rank y.target < rank s) (row_at m s c)) where
  pub under_way_shrinks : RowsShrink m (under_way m goals inside) P
  under_way_shrinks =
      shrinks_of_ranks m (under_way m goals inside) P rank known_ (λ s a. (under_way_parts m goals inside s a).0)
      (λ s c a ok i. let p = under_way_parts m goals inside s a in falls s c p.0 p.1 p.2 ok i)

  -- the share of the paths that are under way is at most 2 rate^n times the weight
  pub stay-le : (n u : ℕ) (t : Tree) (s : ℕ) → 1 ≤ u → s < states_of m → inside s ≡ true → Keeps m P u n t s
      → stay m goals u n t s ≤ℚ (pow_ℚ (Shrinks.rate under_way_shrinks) n *ℚ of_int (pos 2)) *ℚ Shrinks.weight under_way_shrinks s
  stay-le n u t s hu h i keeps =
      subst (λ (x : ℚ). x -ℚ hit m goals u n t s ≤ℚ (pow_ℚ (Shrinks.rate under_way_shrinks) n *ℚ of_int (pos 2)) *ℚ Shrinks.weight under_way_shrinks s) (sym (share_of-one (inside s) i))
      (deficit-le m goals u known_ hu P (under_way m goals inside) under_way_shrinks (λ v. share_of (inside v)) (λ v l. share_of-le_one (inside v))
      (λ v l g a. ≤ℚ_of_eq _ _ (share_of-none (inside v) (not_under_way m goals inside v l g a)))
      (λ v c l a ok j.
      let p = under_way_parts m goals inside v a in
      inside_row (states_of m) (row_at m v c) inside (share_of (inside v)) (IsMdp.row known_ v c l j) (share_of-le_one (inside v)) (stays v c p.0 p.1 p.2 ok j))
      n t s h keeps)

  -- so from one depth on nearly all paths have met a goal
  pub arrives_by_ranks : (k : ℕ) → 1 ≤ k
      → (n : ℕ) × ((d u : ℕ) (t : Tree) (s : ℕ) → n ≤ d → 1 ≤ u → s < states_of m → inside s ≡ true → Keeps m P u d t s → 1ℚ ≤ℚ hit m goals u d t s +ℚ ratio (pos 1) k)
  arrives_by_ranks k hk =
      let fades = deficit-fades m (under_way m goals inside) P under_way_shrinks k hk in
      (fades.0, λ d u t s l hu h i keeps. fades.1 d s 1ℚ (hit m goals u d t s) l (stay-le d u t s hu h i keeps))
