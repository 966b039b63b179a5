-- The best hit of each depth, and the least: at each state that is no goal the choice is picked whose row weighs most, or least, with as many
-- steps left. A tree reaches it, and no tree passes it.
use Rattle.std.proofs.Common.{◌≡◌, ℕ, zero, suc, ◌<◌, ◌≤◌, ⊎_elim, Bool, true, false, cond, eqb, List, length, get_or, refl, sym, ◌∙◌, ap, subst, arith}
use Rattle.std.proofs.lemmas.Bool.{cases_Bool}
use Rattle.mdp_math.specs.{Rational.{ℚ, ◌*ℚ◌, ◌≤ℚ◌, ◌<ℚ◌}, Sum.{sum_at, EachAt}}
use Rattle.mdp_math.proofs.{Laws.{one-*ℚ}, Order.{0ℚ, 1ℚ, ≤ℚ_trans, ≤ℚ_of_eq, ≤ℚ_antisymm, mul-le-mul_left_ℚ}}
use Rattle.mdp_math.proofs.SumsAt.{sum_at-le, sum_at-same, sum_at-sum_of, sum_at-weighted_ge, EachAt_all, EachAt_mono, EachAt_both}
use Rattle.mdp_math.proofs.Kernel.{weigh-same, weigh-le_at}
use Rattle.mdp_spec.specs.{Mdp.{Entry, Choice, Mdp, states_of, choices_at, row_at}, Row.{IsRow, IsMdp}, Unit.{count_at}}
use Rattle.mdp_spec.specs.{Tree.{Tree, Fits, unfolded, target_at, is_marked}, Tree.Tree.{leaf, node}, Hit.{hit}}
use Rattle.mdp_spec.proofs.{Rows.{rows_known, placed, targets_at, nonneg_at, probs_nonneg}, Hits.{share, mixed, hit-goal, hit-end, hit-node}}
use Rattle.mdp_spec.proofs.Keeping.{count_at-one, chosen, target_placed, share-nonneg, share-pos, shares-total, mixed-le}
use Rattle.mdp_spec.proofs.Above.{row_weigh, row_sum-le, hit-nonneg, hit-le_one}
use Rattle.mdp_subsystem_rules.proofs.Picks.{greatest_place, least_place, greatest_place-ge, least_place-le}

-- ---- the tree that takes at each state the choice that a rule gives for the steps left

abbrev pub followed : Mdp → (ℕ → ℕ → ℕ) → ℕ → ℕ → Tree
followed m choose zero s = leaf
followed m choose (suc n) s = node (λ c. cond (eqb (choose n s) c) 1 0) (λ c e. followed m choose n (target_at m s c e))

-- weights that add to u give at least what each row of weight above 0 has
mixed-ge : (m : Mdp) (u : ℕ) (weights : ℕ → ℕ) (f : ℕ → ℕ → Entry → ℚ) (s : ℕ) (y : ℚ) → 1 ≤ u → count_at (choices_at m s) (λ c x. weights c) ≡ u
    → EachAt (choices_at m s) (λ c x. 0 < weights c → y ≤ℚ sum_at x.row (λ e t. t.prob *ℚ f c e t)) → y ≤ℚ mixed m u weights f s
mixed-ge m u weights f s y h total each =
    subst (λ (w : ℚ). w ≤ℚ mixed m u weights f s) (ap (λ (w : ℚ). w *ℚ y) (shares-total (choices_at m s) u weights h total) ∙ one-*ℚ y)
    (sum_at-weighted_ge (choices_at m s) (λ c x. share u weights c) (λ c x. sum_at x.row (λ e t. t.prob *ℚ f c e t)) y
    (EachAt_all (choices_at m s) (λ c x. 0ℚ ≤ℚ share u weights c) (λ c x. share-nonneg u weights c h))
    (EachAt_mono (choices_at m s) (λ c x. 0 < weights c → y ≤ℚ sum_at x.row (λ e t. t.prob *ℚ f c e t)) (λ c x. 0ℚ <ℚ share u weights c → y ≤ℚ sum_at x.row (λ e t. t.prob *ℚ f c e t))
    (λ c x k p. k (share-pos u weights c h p)) each))

-- what is known of each choice of a state: its place, its row, and that it is one
known_choices : (m : Mdp) (s : ℕ) → IsMdp m → EachAt (choices_at m s) (λ c x. ((c < length (choices_at m s)) × (row_at m s c ≡ x.row)) × IsRow (states_of m) x.row)
known_choices m s known = EachAt_both (choices_at m s) (λ c x. (c < length (choices_at m s)) × (row_at m s c ≡ x.row)) (λ c x. IsRow (states_of m) x.row) (placed m s) (rows_known m s known)

-- of each entry: where it leads, and that it is a state
known_entries : (m : Mdp) (s c : ℕ) (row : List Entry) → row_at m s c ≡ row → IsRow (states_of m) row → EachAt row (λ e y. (target_at m s c e ≡ y.target) × (y.target < states_of m))
known_entries m s c row same known = EachAt_both row (λ e y. target_at m s c e ≡ y.target) (λ e y. y.target < states_of m) (target_placed m s c row same) (targets_at (states_of m) row known)

pub followed_fits : (m : Mdp) (choose : ℕ → ℕ → ℕ) (n s : ℕ) → IsMdp m
    → ((d v : ℕ) → v < states_of m → choose d v < length (choices_at m v)) → s < states_of m → Fits m 1 n (followed m choose n s) s
followed_fits m choose zero s known choice h = tt
followed_fits m choose (suc n) s known choice h = (
  count_at-one (choices_at m s) (choose n s) (choice n s h),
  EachAt_mono (choices_at m s) (λ c x. ((c < length (choices_at m s)) × (row_at m s c ≡ x.row)) × IsRow (states_of m) x.row)
      (λ c x. EachAt x.row (λ e y. Fits m 1 n (followed m choose n (target_at m s c e)) y.target))
      (λ c x q.
      EachAt_mono x.row (λ e y. (target_at m s c e ≡ y.target) × (y.target < states_of m)) (λ e y. Fits m 1 n (followed m choose n (target_at m s c e)) y.target)
      (λ e y r. subst (λ (t : ℕ). Fits m 1 n (followed m choose n t) y.target) (sym r.0) (followed_fits m choose n y.target known choice r.1))
      (known_entries m s c x.row q.0.1 q.1))
      (known_choices m s known),
)

-- what it hits, by its first step
followed_row : (m : Mdp) (goals : List Bool) (choose : ℕ → ℕ → ℕ) (n s c : ℕ) (row : List Entry) → row_at m s c ≡ row → IsRow (states_of m) row
    → sum_at row (λ e y. y.prob *ℚ hit m goals 1 n (followed m choose n (target_at m s c e)) y.target) ≡ row_weigh (λ v. hit m goals 1 n (followed m choose n v) v) (row_at m s c)
followed_row m goals choose n s c row same known =
    sum_at-same row (λ e y. y.prob *ℚ hit m goals 1 n (followed m choose n (target_at m s c e)) y.target) (λ e y. y.prob *ℚ hit m goals 1 n (followed m choose n y.target) y.target)
    (EachAt_mono row (λ e y. (target_at m s c e ≡ y.target) × (y.target < states_of m))
    (λ e y. y.prob *ℚ hit m goals 1 n (followed m choose n (target_at m s c e)) y.target ≡ y.prob *ℚ hit m goals 1 n (followed m choose n y.target) y.target)
    (λ e y r. ap (λ (v : ℕ). y.prob *ℚ hit m goals 1 n (followed m choose n v) y.target) r.0) (known_entries m s c row same known))
    ∙ sum_at-sum_of row (λ y. y.prob *ℚ hit m goals 1 n (followed m choose n y.target) y.target)
    ∙ ap (λ (r : List Entry). row_weigh (λ v. hit m goals 1 n (followed m choose n v) v) r) (sym same)

pub hit-followed : (m : Mdp) (goals : List Bool) (choose : ℕ → ℕ → ℕ) (n s : ℕ) → IsMdp m → choose n s < length (choices_at m s) → is_marked goals s ≡ false
    → hit m goals 1 (suc n) (followed m choose (suc n) s) s ≡ row_weigh (λ v. hit m goals 1 n (followed m choose n v) v) (row_at m s (choose n s))
hit-followed m goals choose n s known choice g =
    let weights : ℕ → ℕ = λ c. cond (eqb (choose n s) c) 1 0 in
    let f : ℕ → ℕ → Entry → ℚ = λ c e y. hit m goals 1 n (followed m choose n (target_at m s c e)) y.target in
    let w : ℚ = row_weigh (λ v. hit m goals 1 n (followed m choose n v) v) (row_at m s (choose n s)) in
    let total : count_at (choices_at m s) (λ c x. weights c) ≡ 1 = count_at-one (choices_at m s) (choose n s) choice in
    let one : (c : ℕ) (x : Choice) → ((c < length (choices_at m s)) × (row_at m s c ≡ x.row)) × IsRow (states_of m) x.row → 0 < weights c → sum_at x.row (λ e y. y.prob *ℚ f c e y) ≡ w =
    λ c x q above. followed_row m goals choose n s c x.row q.0.1 q.1 ∙ ap (λ (d : ℕ). row_weigh (λ v. hit m goals 1 n (followed m choose n v) v) (row_at m s d)) (chosen (choose n s) c above)
    in
    hit-node m goals 1 n weights (λ c e. followed m choose n (target_at m s c e)) s known (omega arith) g
    ∙ ≤ℚ_antisymm _ _
    (mixed-le m 1 weights f s w (omega arith) total
    (EachAt_mono (choices_at m s) (λ c x. ((c < length (choices_at m s)) × (row_at m s c ≡ x.row)) × IsRow (states_of m) x.row) (λ c x. 0 < weights c → sum_at x.row (λ e y. y.prob *ℚ f c e y) ≤ℚ w)
    (λ c x q above. ≤ℚ_of_eq _ _ (one c x q above)) (known_choices m s known)))
    (mixed-ge m 1 weights f s w (omega arith) total
    (EachAt_mono (choices_at m s) (λ c x. ((c < length (choices_at m s)) × (row_at m s c ≡ x.row)) × IsRow (states_of m) x.row) (λ c x. 0 < weights c → w ≤ℚ sum_at x.row (λ e y. y.prob *ℚ f c e y))
    (λ c x q above. ≤ℚ_of_eq _ _ (sym (one c x q above))) (known_choices m s known)))

-- ---- the hit of each depth where one choice is picked at each state

module _ (m : Mdp) (goals : List Bool) (pick : (ℕ → ℚ) → ℕ → ℕ) where
  abbrev pub extreme : ℕ → ℕ → ℚ
  extreme zero s = cond (is_marked goals s) 1ℚ 0ℚ
  extreme (suc n) s = cond (is_marked goals s) 1ℚ (row_weigh (λ v. extreme n v) (row_at m s (pick (λ c. row_weigh (λ v. extreme n v) (row_at m s c)) (length (choices_at m s)))))

  -- which choice is picked with n steps left behind it
  abbrev pub picked : ℕ → ℕ → ℕ
  picked n s = pick (λ c. row_weigh (λ v. extreme n v) (row_at m s c)) (length (choices_at m s))

  pub extreme-goal : (n s : ℕ) → is_marked goals s ≡ true → extreme n s ≡ 1ℚ
  extreme-goal zero s g = ap (λ (b : Bool). cond b 1ℚ 0ℚ) g
  extreme-goal (suc n) s g = ap (λ (b : Bool). cond b 1ℚ (row_weigh (λ v. extreme n v) (row_at m s (picked n s)))) g

  pub extreme-end : (s : ℕ) → is_marked goals s ≡ false → extreme 0 s ≡ 0ℚ
  extreme-end s g = ap (λ (b : Bool). cond b 1ℚ 0ℚ) g

  pub extreme-suc : (n s : ℕ) → is_marked goals s ≡ false → extreme (suc n) s ≡ row_weigh (λ v. extreme n v) (row_at m s (picked n s))
  extreme-suc n s g = ap (λ (b : Bool). cond b 1ℚ (row_weigh (λ v. extreme n v) (row_at m s (picked n s)))) g

-- a pick that is a choice, where there is one
abbrev pub IsPick : ((ℕ → ℚ) → ℕ → ℕ) → Type 0
IsPick pick = (f : ℕ → ℚ) (n : ℕ) → 0 < n → pick f n < n

-- f and g agree at the states, so they weigh the same in a row
pub row_weigh-same : (n : ℕ) (row : List Entry) (f g : ℕ → ℚ) → IsRow n row → ((v : ℕ) → v < n → f v ≡ g v) → row_weigh f row ≡ row_weigh g row
row_weigh-same n row f g known same = weigh-same (λ (y : Entry). y.target) (λ (y : Entry). y.prob) f g row (λ k d l. same (Entry.target (get_or row k d)) (known.in_range k d l))

pub row_weigh-mono : (n : ℕ) (row : List Entry) (f g : ℕ → ℚ) → IsRow n row → ((v : ℕ) → v < n → f v ≤ℚ g v) → row_weigh f row ≤ℚ row_weigh g row
row_weigh-mono n row f g known less =
    weigh-le_at (λ (y : Entry). y.target) (λ (y : Entry). y.prob) f g row (probs_nonneg n row known) (λ k d l. less (Entry.target (get_or row k d)) (known.in_range k d l))

module _ (m : Mdp) (goals : List Bool) (pick : (ℕ → ℚ) → ℕ → ℕ) (known_ : IsMdp m) (is_pick : IsPick pick) where
  pub picks_choice : (n s : ℕ) → s < states_of m → picked m goals pick n s < length (choices_at m s)
  picks_choice n s h = is_pick (λ c. row_weigh (λ v. extreme m goals pick n v) (row_at m s c)) (length (choices_at m s)) (known_.choice s h)

  -- the tree that takes the picked choices
  abbrev pub extreme_tree : ℕ → ℕ → Tree
  extreme_tree n s = followed m (picked m goals pick) n s

  pub extreme_fits : (n s : ℕ) → s < states_of m → Fits m 1 n (extreme_tree n s) s
  extreme_fits n s h = followed_fits m (picked m goals pick) n s known_ (λ d v l. picks_choice d v l) h

  pub hit-extreme : (n s : ℕ) → s < states_of m → hit m goals 1 n (extreme_tree n s) s ≡ extreme m goals pick n s
  hit-extreme zero s h =
      ⊎_elim (λ g. hit-goal m goals 1 0 leaf s (omega arith) g ∙ sym (extreme-goal m goals pick 0 s g)) (λ g. hit-end m goals 1 leaf s (omega arith) g ∙ sym (extreme-end m goals pick s g))
      (cases_Bool (is_marked goals s))
  hit-extreme (suc n) s h =
      ⊎_elim (λ g. hit-goal m goals 1 (suc n) (extreme_tree (suc n) s) s (omega arith) g ∙ sym (extreme-goal m goals pick (suc n) s g))
      (λ g.
      hit-followed m goals (picked m goals pick) n s known_ (picks_choice n s h) g
      ∙ row_weigh-same (states_of m) (row_at m s (picked m goals pick n s)) (λ v. hit m goals 1 n (extreme_tree n v) v)
      (λ v. extreme m goals pick n v) (known_.row s (picked m goals pick n s) h (picks_choice n s h)) (λ v l. hit-extreme n v l)
      ∙ sym (extreme-suc m goals pick n s g))
      (cases_Bool (is_marked goals s))

  pub extreme-nonneg : (n s : ℕ) → s < states_of m → 0ℚ ≤ℚ extreme m goals pick n s
  extreme-nonneg n s h = subst (λ (x : ℚ). 0ℚ ≤ℚ x) (hit-extreme n s h) (hit-nonneg m goals 1 n (extreme_tree n s) s (omega arith))

  pub extreme-le_one : (n s : ℕ) → s < states_of m → extreme m goals pick n s ≤ℚ 1ℚ
  extreme-le_one n s h = subst (λ (x : ℚ). x ≤ℚ 1ℚ) (hit-extreme n s h) (hit-le_one m goals 1 n (extreme_tree n s) s known_ (omega arith) h (extreme_fits n s h))

-- ---- the best hit and the least

abbrev pub best : Mdp → List Bool → ℕ → ℕ → ℚ
best m goals n s = extreme m goals greatest_place n s

abbrev pub worst : Mdp → List Bool → ℕ → ℕ → ℚ
worst m goals n s = extreme m goals least_place n s

module _ (m : Mdp) (goals : List Bool) (known_ : IsMdp m) where
  -- the best hit is at least what each choice offers, and the least at most
  pub best-ge : (n s c : ℕ) → is_marked goals s ≡ false → c < length (choices_at m s) → row_weigh (λ v. best m goals n v) (row_at m s c) ≤ℚ best m goals (suc n) s
  best-ge n s c g l =
      ≤ℚ_trans _ _ _ (greatest_place-ge (λ d. row_weigh (λ v. best m goals n v) (row_at m s d)) (length (choices_at m s)) c l) (≤ℚ_of_eq _ _ (sym (extreme-suc m goals greatest_place n s g)))

  pub worst-le : (n s c : ℕ) → is_marked goals s ≡ false → c < length (choices_at m s) → worst m goals (suc n) s ≤ℚ row_weigh (λ v. worst m goals n v) (row_at m s c)
  worst-le n s c g l =
      ≤ℚ_trans _ _ _ (≤ℚ_of_eq _ _ (extreme-suc m goals least_place n s g)) (least_place-le (λ d. row_weigh (λ v. worst m goals n v) (row_at m s d)) (length (choices_at m s)) c l)

-- a sum over a row of numbers that are at least z at the entries' targets
row_sum-ge : (k : ℕ) (row : List Entry) (f : ℕ → Entry → ℚ) (z : ℕ → ℚ) → IsRow k row → EachAt row (λ e y. z y.target ≤ℚ f e y) → row_weigh z row ≤ℚ sum_at row (λ e y. y.prob *ℚ f e y)
row_sum-ge k row f z known each =
    subst (λ (w : ℚ). w ≤ℚ sum_at row (λ e y. y.prob *ℚ f e y)) (sum_at-sum_of row (λ y. y.prob *ℚ z y.target))
    (sum_at-le row (λ e y. y.prob *ℚ z y.target) (λ e y. y.prob *ℚ f e y)
    (EachAt_mono row (λ e y. (0ℚ ≤ℚ y.prob) × (z y.target ≤ℚ f e y)) (λ e y. y.prob *ℚ z y.target ≤ℚ y.prob *ℚ f e y) (λ e y q. mul-le-mul_left_ℚ y.prob (z y.target) (f e y) q.0 q.1)
    (EachAt_both row (λ e y. 0ℚ ≤ℚ y.prob) (λ e y. z y.target ≤ℚ f e y) (nonneg_at k row known) each)))

-- what is known of each choice of a node: besides its row, that the trees behind it fit
known_kids : (m : Mdp) (u n s : ℕ) (weights : ℕ → ℕ) (kids : ℕ → ℕ → Tree) → IsMdp m → Fits m u (suc n) (node weights kids) s
    → EachAt (choices_at m s) (λ c x. (((c < length (choices_at m s)) × (row_at m s c ≡ x.row)) × IsRow (states_of m) x.row) × EachAt x.row (λ e y. Fits m u n (kids c e) y.target))
known_kids m u n s weights kids known fits =
    EachAt_both (choices_at m s) (λ c x. ((c < length (choices_at m s)) × (row_at m s c ≡ x.row)) × IsRow (states_of m) x.row)
    (λ c x. EachAt x.row (λ e y. Fits m u n (kids c e) y.target)) (known_choices m s known) fits.1

module _ (m : Mdp) (goals : List Bool) (u : ℕ) (known_ : IsMdp m) (hu : 1 ≤ u) where
  -- no tree passes the best hit of its depth
  pub hit-le_best : (n : ℕ) (t : Tree) (s : ℕ) → s < states_of m → Fits m u n t s → hit m goals u n t s ≤ℚ best m goals n s
  hit-le_best zero t s h fits =
      ⊎_elim (λ g. ≤ℚ_of_eq _ _ (hit-goal m goals u 0 t s hu g ∙ sym (extreme-goal m goals greatest_place 0 s g)))
      (λ g. ≤ℚ_of_eq _ _ (hit-end m goals u t s hu g ∙ sym (extreme-end m goals greatest_place s g)))
      (cases_Bool (is_marked goals s))
  hit-le_best (suc n) leaf s h fits = absurd fits
  hit-le_best (suc n) (node weights kids) s h fits =
      ⊎_elim (λ g. ≤ℚ_of_eq _ _ (hit-goal m goals u (suc n) (node weights kids) s hu g ∙ sym (extreme-goal m goals greatest_place (suc n) s g)))
      (λ g.
      subst (λ (x : ℚ). x ≤ℚ best m goals (suc n) s) (sym (hit-node m goals u n weights kids s known_ hu g))
      (mixed-le m u weights (λ c e y. hit m goals u n (kids c e) y.target) s (best m goals (suc n) s) hu fits.0
      (EachAt_mono (choices_at m s)
      (λ c x. (((c < length (choices_at m s)) × (row_at m s c ≡ x.row)) × IsRow (states_of m) x.row) × EachAt x.row (λ e y. Fits m u n (kids c e) y.target))
      (λ c x. 0 < weights c → sum_at x.row (λ e y. y.prob *ℚ hit m goals u n (kids c e) y.target) ≤ℚ best m goals (suc n) s)
      (λ c x q above.
      ≤ℚ_trans _ _ _
      (row_sum-le (states_of m) x.row (λ e y. hit m goals u n (kids c e) y.target) (λ v. best m goals n v) q.0.1
      (EachAt_mono x.row (λ e y. (y.target < states_of m) × Fits m u n (kids c e) y.target) (λ e y. hit m goals u n (kids c e) y.target ≤ℚ best m goals n y.target)
      (λ e y r. hit-le_best n (kids c e) y.target r.0 r.1)
      (EachAt_both x.row (λ e y. y.target < states_of m) (λ e y. Fits m u n (kids c e) y.target) (targets_at (states_of m) x.row q.0.1) q.1)))
      (subst (λ (row : List Entry). row_weigh (λ v. best m goals n v) row ≤ℚ best m goals (suc n) s) q.0.0.1 (best-ge m goals known_ n s c g q.0.0.0)))
      (known_kids m u n s weights kids known_ fits))))
      (cases_Bool (is_marked goals s))

  -- and none stays below the least
  pub worst-le_hit : (n : ℕ) (t : Tree) (s : ℕ) → s < states_of m → Fits m u n t s → worst m goals n s ≤ℚ hit m goals u n t s
  worst-le_hit zero t s h fits =
      ⊎_elim (λ g. ≤ℚ_of_eq _ _ (extreme-goal m goals least_place 0 s g ∙ sym (hit-goal m goals u 0 t s hu g)))
      (λ g. ≤ℚ_of_eq _ _ (extreme-end m goals least_place s g ∙ sym (hit-end m goals u t s hu g)))
      (cases_Bool (is_marked goals s))
  worst-le_hit (suc n) leaf s h fits = absurd fits
  worst-le_hit (suc n) (node weights kids) s h fits =
      ⊎_elim (λ g. ≤ℚ_of_eq _ _ (extreme-goal m goals least_place (suc n) s g ∙ sym (hit-goal m goals u (suc n) (node weights kids) s hu g)))
      (λ g.
      subst (λ (x : ℚ). worst m goals (suc n) s ≤ℚ x) (sym (hit-node m goals u n weights kids s known_ hu g))
      (mixed-ge m u weights (λ c e y. hit m goals u n (kids c e) y.target) s (worst m goals (suc n) s) hu fits.0
      (EachAt_mono (choices_at m s)
      (λ c x. (((c < length (choices_at m s)) × (row_at m s c ≡ x.row)) × IsRow (states_of m) x.row) × EachAt x.row (λ e y. Fits m u n (kids c e) y.target))
      (λ c x. 0 < weights c → worst m goals (suc n) s ≤ℚ sum_at x.row (λ e y. y.prob *ℚ hit m goals u n (kids c e) y.target))
      (λ c x q above.
      ≤ℚ_trans _ _ _
      (subst (λ (row : List Entry). worst m goals (suc n) s ≤ℚ row_weigh (λ v. worst m goals n v) row) q.0.0.1 (worst-le m goals known_ n s c g q.0.0.0))
      (row_sum-ge (states_of m) x.row (λ e y. hit m goals u n (kids c e) y.target) (λ v. worst m goals n v) q.0.1
      (EachAt_mono x.row (λ e y. (y.target < states_of m) × Fits m u n (kids c e) y.target) (λ e y. worst m goals n y.target ≤ℚ hit m goals u n (kids c e) y.target)
      (λ e y r. worst-le_hit n (kids c e) y.target r.0 r.1)
      (EachAt_both x.row (λ e y. y.target < states_of m) (λ e y. Fits m u n (kids c e) y.target) (targets_at (states_of m) x.row q.0.1) q.1))))
      (known_kids m u n s weights kids known_ fits))))
      (cases_Bool (is_marked goals s))

-- ---- a memoryless policy, by its first step

unfolded_is : (m : Mdp) (policy : List ℕ) (n s : ℕ) → followed m (λ d v. get_or policy v 0) n s ≡ unfolded m policy n s
unfolded_is m policy zero s = refl
unfolded_is m policy (suc n) s = λ i. node (λ c. cond (eqb (get_or policy s 0) c) 1 0) (λ c e. unfolded_is m policy n (target_at m s c e) i)

pub hit-unfolded : (m : Mdp) (goals : List Bool) (policy : List ℕ) (n s : ℕ) → IsMdp m → get_or policy s 0 < length (choices_at m s) → is_marked goals s ≡ false
    → hit m goals 1 (suc n) (unfolded m policy (suc n) s) s ≡ row_weigh (λ v. hit m goals 1 n (unfolded m policy n v) v) (row_at m s (get_or policy s 0))
hit-unfolded m goals policy n s known choice g =
    ap (λ (t : Tree). hit m goals 1 (suc n) t s) (sym (unfolded_is m policy (suc n) s))
    ∙ hit-followed m goals (λ d v. get_or policy v 0) n s known choice g
    ∙ weigh-same (λ (y : Entry). y.target) (λ (y : Entry). y.prob) (λ v. hit m goals 1 n (followed m (λ d w. get_or policy w 0) n v) v)
    (λ v. hit m goals 1 n (unfolded m policy n v) v) (row_at m s (get_or policy s 0))
    (λ k d l. let v : ℕ = Entry.target (get_or (row_at m s (get_or policy s 0)) k d) in ap (λ (t : Tree). hit m goals 1 n t v) (unfolded_is m policy n v))
