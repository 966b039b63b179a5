-- Numbers of a tree that go by its first step: at a node they average, by the weights, what each choice gains and what its row weighs of
-- the numbers behind it. Hit, pay and total do, and so do their combinations. Such a number is at most B, where B meets Bellman's
-- inequality along the choices that the trees use.
use Rattle.std.proofs.Common.{◌≡◌, ℕ, zero, suc, ◌<◌, ◌≤◌, ⊎_elim, Bool, true, false, List, [], ◌∷◌, length, refl, sym, ◌∙◌, ap, subst, pos}
use Rattle.std.proofs.{lemmas.Bool.{cases_Bool}, lemmas.List.{get_or_default}}
use Rattle.mdp_math.specs.{Rational.{ℚ, ◌+ℚ◌, ◌*ℚ◌, ◌≤ℚ◌, ◌<ℚ◌}, Sum.{sum_at, EachAt}}
use Rattle.mdp_math.proofs.{Ring.{◌⊕◌, ◌⊗◌, lit, ring}, Laws.{rat_ring, one-*ℚ}, Linear.{linear, known}, Order.{0ℚ}}
use Rattle.mdp_math.proofs.SumsAt.{sum_at-same, sum_at-add, sum_at-scale, sum_at-weighted_le, EachAt_all, EachAt_mono, EachAt_both, EachAt-from_places}
use Rattle.mdp_spec.specs.{Mdp.{choice_at, Entry, Choice, Mdp, no_choice, states_of, choices_at, row_at}, Row.{IsRow, IsMdp}, Unit.{count_at, reward_of}}
use Rattle.mdp_spec.specs.{Tree.{Tree, is_marked}, Tree.Tree.{leaf, node}, Hit.{hit}, Pay.{pay, total}}
use Rattle.mdp_spec.proofs.{Rows.{rows_known, targets_at, row_weigh, row_sum-le}, Hits.{share, hit-node}, Earnings.{pay-node, total-node}}
use Rattle.mdp_spec.proofs.Keeping.{Keeps, share-nonneg, share-pos, shares-total}

-- the average over the choices of state s of the gain and the sum over the row of f at the choice's place and the entry's place
abbrev pub average : Mdp → ℕ → (ℕ → ℕ) → (Choice → ℚ) → (ℕ → ℕ → Entry → ℚ) → ℕ → ℚ
average m u weights gain f s = sum_at (choices_at m s) (λ c x. share u weights c *ℚ (gain x +ℚ sum_at x.row (λ e y. y.prob *ℚ f c e y)))

-- a number of trees that goes by the first step, at states that don't end
abbrev pub GoesBy : Mdp → ℕ → (ℕ → Bool) → (Choice → ℚ) → (ℕ → Tree → ℕ → ℚ) → Type 0
GoesBy m u ends gain V =
    (n : ℕ) (weights : ℕ → ℕ) (kids : ℕ → ℕ → Tree) (s : ℕ) → ends s ≡ false → V (suc n) (node weights kids) s ≡ average m u weights gain (λ c e y. V n (kids c e) y.target) s

-- ---- hit, pay and total

pub hit_goes : (m : Mdp) (goals : List Bool) (u : ℕ) → IsMdp m → 1 ≤ u → GoesBy m u (is_marked goals) (λ x. 0ℚ) (λ n t s. hit m goals u n t s)
hit_goes m goals u known_ hu n weights kids s g =
    hit-node m goals u n weights kids s known_ hu g
    ∙ sum_at-same (choices_at m s) (λ c x. share u weights c *ℚ sum_at x.row (λ e y. y.prob *ℚ hit m goals u n (kids c e) y.target))
    (λ c x. share u weights c *ℚ (0ℚ +ℚ sum_at x.row (λ e y. y.prob *ℚ hit m goals u n (kids c e) y.target)))
    (EachAt_all (choices_at m s) (λ c x. share u weights c *ℚ sum_at x.row (λ e y. y.prob *ℚ hit m goals u n (kids c e) y.target)
    ≡ share u weights c *ℚ (0ℚ +ℚ sum_at x.row (λ e y. y.prob *ℚ hit m goals u n (kids c e) y.target)))
    (λ c x. ring rat_ring 2 (λ a r. a ⊗ r) (λ a r. a ⊗ (lit (pos 0) ⊕ r)) refl (share u weights c) (sum_at x.row (λ e y. y.prob *ℚ hit m goals u n (kids c e) y.target))))

pub pay_goes : (m : Mdp) (r : ℕ) (goals : List Bool) (u : ℕ) → IsMdp m → 1 ≤ u → GoesBy m u (is_marked goals) (λ x. reward_of x r) (λ n t s. pay m r goals u n t s)
pay_goes m r goals u known_ hu n weights kids s g = pay-node m r goals u n weights kids s known_ hu g

pub total_goes : (m : Mdp) (r u : ℕ) → IsMdp m → 1 ≤ u → GoesBy m u (λ s. false) (λ x. reward_of x r) (λ n t s. total m r u n t s)
total_goes m r u known_ hu n weights kids s g = total-node m r u n weights kids s known_ hu

-- ---- multiples and sums

row_scaled : (a : ℚ) (row : List Entry) (f : ℕ → Entry → ℚ) → sum_at row (λ e y. y.prob *ℚ (a *ℚ f e y)) ≡ a *ℚ sum_at row (λ e y. y.prob *ℚ f e y)
row_scaled a row f =
    sum_at-same row (λ e y. y.prob *ℚ (a *ℚ f e y)) (λ e y. a *ℚ (y.prob *ℚ f e y))
    (EachAt_all row (λ e y. y.prob *ℚ (a *ℚ f e y) ≡ a *ℚ (y.prob *ℚ f e y)) (λ e y. ring rat_ring 3 (λ p a x. p ⊗ (a ⊗ x)) (λ p a x. a ⊗ (p ⊗ x)) refl y.prob a (f e y)))
    ∙ sum_at-scale a row (λ e y. y.prob *ℚ f e y)

row_added : (row : List Entry) (f g : ℕ → Entry → ℚ) → sum_at row (λ e y. y.prob *ℚ (f e y +ℚ g e y)) ≡ sum_at row (λ e y. y.prob *ℚ f e y) +ℚ sum_at row (λ e y. y.prob *ℚ g e y)
row_added row f g =
    sum_at-same row (λ e y. y.prob *ℚ (f e y +ℚ g e y)) (λ e y. y.prob *ℚ f e y +ℚ y.prob *ℚ g e y)
    (EachAt_all row (λ e y. y.prob *ℚ (f e y +ℚ g e y) ≡ y.prob *ℚ f e y +ℚ y.prob *ℚ g e y) (λ e y. ring rat_ring 3 (λ p x z. p ⊗ (x ⊕ z)) (λ p x z. p ⊗ x ⊕ p ⊗ z) refl y.prob (f e y) (g e y)))
    ∙ sum_at-add row (λ e y. y.prob *ℚ f e y) (λ e y. y.prob *ℚ g e y)

average-scale : (m : Mdp) (u : ℕ) (weights : ℕ → ℕ) (a : ℚ) (gain : Choice → ℚ) (f : ℕ → ℕ → Entry → ℚ) (s : ℕ)
    → a *ℚ average m u weights gain f s ≡ average m u weights (λ x. a *ℚ gain x) (λ c e y. a *ℚ f c e y) s
average-scale m u weights a gain f s =
    sym (sum_at-scale a (choices_at m s) (λ c x. share u weights c *ℚ (gain x +ℚ sum_at x.row (λ e y. y.prob *ℚ f c e y))))
    ∙ sum_at-same (choices_at m s) (λ c x. a *ℚ (share u weights c *ℚ (gain x +ℚ sum_at x.row (λ e y. y.prob *ℚ f c e y))))
    (λ c x. share u weights c *ℚ (a *ℚ gain x +ℚ sum_at x.row (λ e y. y.prob *ℚ (a *ℚ f c e y))))
    (EachAt_all (choices_at m s) (λ c x. a *ℚ (share u weights c *ℚ (gain x +ℚ sum_at x.row (λ e y. y.prob *ℚ f c e y)))
    ≡ share u weights c *ℚ (a *ℚ gain x +ℚ sum_at x.row (λ e y. y.prob *ℚ (a *ℚ f c e y))))
    (λ c x.
    ring rat_ring 4 (λ a w r t. a ⊗ (w ⊗ (r ⊕ t))) (λ a w r t. w ⊗ (a ⊗ r ⊕ a ⊗ t)) refl a (share u weights c) (gain x) (sum_at x.row (λ e y. y.prob *ℚ f c e y))
    ∙ ap (λ (w : ℚ). share u weights c *ℚ (a *ℚ gain x +ℚ w)) (sym (row_scaled a x.row (f c)))))

average-add : (m : Mdp) (u : ℕ) (weights : ℕ → ℕ) (gain more : Choice → ℚ) (f g : ℕ → ℕ → Entry → ℚ) (s : ℕ)
    → average m u weights gain f s +ℚ average m u weights more g s ≡ average m u weights (λ x. gain x +ℚ more x) (λ c e y. f c e y +ℚ g c e y) s
average-add m u weights gain more f g s =
    sym (sum_at-add (choices_at m s) (λ c x. share u weights c *ℚ (gain x +ℚ sum_at x.row (λ e y. y.prob *ℚ f c e y)))
    (λ c x. share u weights c *ℚ (more x +ℚ sum_at x.row (λ e y. y.prob *ℚ g c e y))))
    ∙ sum_at-same (choices_at m s) (λ c x. share u weights c *ℚ (gain x +ℚ sum_at x.row (λ e y. y.prob *ℚ f c e y)) +ℚ share u weights c *ℚ (more x +ℚ sum_at x.row (λ e y. y.prob *ℚ g c e y)))
    (λ c x. share u weights c *ℚ ((gain x +ℚ more x) +ℚ sum_at x.row (λ e y. y.prob *ℚ (f c e y +ℚ g c e y))))
    (EachAt_all (choices_at m s) (λ c x. share u weights c *ℚ (gain x +ℚ sum_at x.row (λ e y. y.prob *ℚ f c e y)) +ℚ share u weights c *ℚ
    (more x +ℚ sum_at x.row (λ e y. y.prob *ℚ g c e y)) ≡ share u weights c *ℚ ((gain x +ℚ more x) +ℚ sum_at x.row (λ e y. y.prob *ℚ (f c e y +ℚ g c e y))))
    (λ c x.
    ring rat_ring 5 (λ w r q t z. w ⊗ (r ⊕ t) ⊕ w ⊗ (q ⊕ z)) (λ w r q t z. w ⊗ ((r ⊕ q) ⊕ (t ⊕ z))) refl (share u weights c) (gain x) (more x) (sum_at x.row (λ e y. y.prob *ℚ f c e y))
    (sum_at x.row (λ e y. y.prob *ℚ g c e y))
    ∙ ap (λ (w : ℚ). share u weights c *ℚ ((gain x +ℚ more x) +ℚ w)) (sym (row_added x.row (f c) (g c)))))

pub goes-scale : (m : Mdp) (u : ℕ) (ends : ℕ → Bool) (a : ℚ) (gain : Choice → ℚ) (V : ℕ → Tree → ℕ → ℚ)
    → GoesBy m u ends gain V → GoesBy m u ends (λ x. a *ℚ gain x) (λ n t s. a *ℚ V n t s)
goes-scale m u ends a gain V goes n weights kids s e =
    ap (λ (w : ℚ). a *ℚ w) (goes n weights kids s e) ∙ average-scale m u weights a gain (λ c e y. V n (kids c e) y.target) s

pub goes-add : (m : Mdp) (u : ℕ) (ends : ℕ → Bool) (gain more : Choice → ℚ) (V W : ℕ → Tree → ℕ → ℚ) → GoesBy m u ends gain V → GoesBy m u ends more W
    → GoesBy m u ends (λ x. gain x +ℚ more x) (λ n t s. V n t s +ℚ W n t s)
goes-add m u ends gain more V W one other n weights kids s e =
    ap (λ (w : ℚ). w +ℚ W (suc n) (node weights kids) s) (one n weights kids s e)
    ∙ ap (λ (w : ℚ). average m u weights gain (λ c e y. V n (kids c e) y.target) s +ℚ w) (other n weights kids s e)
    ∙ average-add m u weights gain more (λ c e y. V n (kids c e) y.target) (λ c e y. W n (kids c e) y.target) s

-- ---- trees that use choices by a rule

-- each choice by its place
pub placed_choice : (m : Mdp) (s : ℕ) → EachAt (choices_at m s) (λ c x. (c < length (choices_at m s)) × (choice_at m s c ≡ x))
placed_choice m s = EachAt-from_places (choices_at m s) (λ c x. (c < length (choices_at m s)) × (choice_at m s c ≡ x)) (λ c d l. (l, get_or_default (choices_at m s) c no_choice d l))

-- the trees of T stand at inside states; at a state that doesn't end their choices of weight above 0 meet P, and lead to trees of T again
pub record Uses (m : Mdp) (u : ℕ) (ends : ℕ → Bool) (P : ℕ → ℕ → Type 0) (Inside : ℕ → Type 0) (T : ℕ → Tree → ℕ → Type 0) : Type 0 where
  pub inside : (n : ℕ) (t : Tree) (s : ℕ) → T n t s → Inside s
  pub no_leaf : (n s : ℕ) → T (suc n) leaf s → ⊥
  pub adds : (n : ℕ) (weights : ℕ → ℕ) (kids : ℕ → ℕ → Tree) (s : ℕ) → T (suc n) (node weights kids) s → count_at (choices_at m s) (λ c x. weights c) ≡ u
  pub behind : (n : ℕ) (weights : ℕ → ℕ) (kids : ℕ → ℕ → Tree) (s : ℕ) → ends s ≡ false → T (suc n) (node weights kids) s
      → EachAt (choices_at m s) (λ c x. 0 < weights c → P s c × EachAt x.row (λ e y. T n (kids c e) y.target))

average-le : (m : Mdp) (u : ℕ) (weights : ℕ → ℕ) (gain : Choice → ℚ) (f : ℕ → ℕ → Entry → ℚ) (s : ℕ) (b : ℚ) → 1 ≤ u → count_at (choices_at m s) (λ c x. weights c) ≡ u
    → EachAt (choices_at m s) (λ c x. 0 < weights c → gain x +ℚ sum_at x.row (λ e y. y.prob *ℚ f c e y) ≤ℚ b) → average m u weights gain f s ≤ℚ b
average-le m u weights gain f s b h adds each =
    subst (λ (w : ℚ). average m u weights gain f s ≤ℚ w) (ap (λ (w : ℚ). w *ℚ b) (shares-total (choices_at m s) u weights h adds) ∙ one-*ℚ b)
    (sum_at-weighted_le (choices_at m s) (λ c x. share u weights c) (λ c x. gain x +ℚ sum_at x.row (λ e y. y.prob *ℚ f c e y)) b
    (EachAt_all (choices_at m s) (λ c x. 0ℚ ≤ℚ share u weights c) (λ c x. share-nonneg u weights c h))
    (EachAt_mono (choices_at m s) (λ c x. 0 < weights c → gain x +ℚ sum_at x.row (λ e y. y.prob *ℚ f c e y) ≤ℚ b)
    (λ c x. 0ℚ <ℚ share u weights c → gain x +ℚ sum_at x.row (λ e y. y.prob *ℚ f c e y) ≤ℚ b)
    (λ c x k p. k (share-pos u weights c h p)) each))

module _ (m : Mdp) (u : ℕ) (known_ : IsMdp m) (hu : 1 ≤ u) (ends : ℕ → Bool) (P : ℕ → ℕ → Type 0) (Inside : ℕ → Type 0) (T : ℕ → Tree → ℕ → Type 0) (U : Uses m u ends P Inside T)
    (gain : Choice → ℚ) (V : ℕ → Tree → ℕ → ℚ) (goes : GoesBy m u ends gain V) (B : ℕ → ℕ → ℚ)
    (stop : (n : ℕ) (t : Tree) (s : ℕ) → Inside s → ends s ≡ true → V n t s ≤ℚ B n s)
    (last : (t : Tree) (s : ℕ) → Inside s → ends s ≡ false → V 0 t s ≤ℚ B 0 s)
    (step : (n s c : ℕ) → Inside s → ends s ≡ false → P s c → c < length (choices_at m s) → gain (choice_at m s c) +ℚ row_weigh (B n) (row_at m s c) ≤ℚ B (suc n) s) where
  -- a number that goes by steps is at most B
  pub at_most_by_steps : (n : ℕ) (t : Tree) (s : ℕ) → T n t s → V n t s ≤ℚ B n s
  at_most_by_steps zero t s ok = ⊎_elim (λ e. stop zero t s (Uses.inside U zero t s ok) e) (λ e. last t s (Uses.inside U zero t s ok) e) (cases_Bool (ends s))
  at_most_by_steps (suc n) leaf s ok = absurd (Uses.no_leaf U n s ok)
  at_most_by_steps (suc n) (node weights kids) s ok =
      ⊎_elim (λ e. stop (suc n) (node weights kids) s (Uses.inside U (suc n) (node weights kids) s ok) e)
      (λ e.
      subst (λ (x : ℚ). x ≤ℚ B (suc n) s) (sym (goes n weights kids s e))
      (average-le m u weights gain (λ c e y. V n (kids c e) y.target) s (B (suc n) s) hu (Uses.adds U n weights kids s ok)
      (EachAt_mono (choices_at m s)
      (λ c x. (((c < length (choices_at m s)) × (choice_at m s c ≡ x)) × IsRow (states_of m) x.row) × (0 < weights c → P s c × EachAt x.row (λ e y. T n (kids c e) y.target)))
      (λ c x. 0 < weights c → gain x +ℚ sum_at x.row (λ e y. y.prob *ℚ V n (kids c e) y.target) ≤ℚ B (suc n) s)
      (λ c x q above.
      let used = q.1 above in
      let row_le : sum_at x.row (λ e y. y.prob *ℚ V n (kids c e) y.target) ≤ℚ row_weigh (B n) x.row =
      row_sum-le (states_of m) x.row (λ e y. V n (kids c e) y.target) (B n) q.0.1
      (EachAt_mono x.row (λ e y. T n (kids c e) y.target) (λ e y. V n (kids c e) y.target ≤ℚ B n y.target) (λ e y r. at_most_by_steps n (kids c e) y.target r) used.1)
      in
      linear 4 (λ r a w b. r ⊕ a) (λ r a w b. b) (λ r a w b. known a w ∷ known (r ⊕ w) b ∷ []) refl
      (gain x) (sum_at x.row (λ e y. y.prob *ℚ V n (kids c e) y.target)) (row_weigh (B n) x.row) (B (suc n) s) row_le
      (subst (λ (y : Choice). gain y +ℚ row_weigh (B n) y.row ≤ℚ B (suc n) s) q.0.0.1 (step n s c (Uses.inside U (suc n) (node weights kids) s ok) e used.0 q.0.0.0)))
      (EachAt_both (choices_at m s) (λ c x. ((c < length (choices_at m s)) × (choice_at m s c ≡ x)) × IsRow (states_of m) x.row)
      (λ c x. 0 < weights c → P s c × EachAt x.row (λ e y. T n (kids c e) y.target))
      (EachAt_both (choices_at m s) (λ c x. (c < length (choices_at m s)) × (choice_at m s c ≡ x)) (λ c x. IsRow (states_of m) x.row) (placed_choice m s) (rows_known m s known_))
      (Uses.behind U n weights kids s e ok)))))
      (cases_Bool (ends s))

-- trees that keep a rule of the choices, at states of the model
pub keeping_uses : (m : Mdp) (u : ℕ) (ends : ℕ → Bool) (P : ℕ → ℕ → Type 0) → IsMdp m → Uses m u ends P (λ s. s < states_of m) (λ n t s. (s < states_of m) × Keeps m P u n t s)
keeping_uses m u ends P known_ = record {
  inside = λ n t s ok. ok.0;
  no_leaf = λ n s ok. ok.1;
  adds = λ n weights kids s ok. ok.1.0;
  behind = λ n weights kids s e ok.
      EachAt_mono (choices_at m s)
      (λ c x. IsRow (states_of m) x.row × ((0 < weights c → P s c) × EachAt x.row (λ e y. Keeps m P u n (kids c e) y.target)))
      (λ c x. 0 < weights c → P s c × EachAt x.row (λ e y. (y.target < states_of m) × Keeps m P u n (kids c e) y.target))
      (λ c x q above. (
        q.1.0 above,
        EachAt_both x.row (λ e y. y.target < states_of m) (λ e y. Keeps m P u n (kids c e) y.target) (targets_at (states_of m) x.row q.0) q.1.1,
      ))
      (EachAt_both (choices_at m s) (λ c x. IsRow (states_of m) x.row) (λ c x. (0 < weights c → P s c) × EachAt x.row (λ e y. Keeps m P u n (kids c e) y.target)) (rows_known m s known_) ok.1.1);
}

-- the same at inside states alone, where each choice that meets the rule leads to inside states again
pub staying_uses : (m : Mdp) (u : ℕ) (ends : ℕ → Bool) (P : ℕ → ℕ → Type 0) (Inside : ℕ → Type 0) → IsMdp m
    → ((s c : ℕ) → s < states_of m → Inside s → ends s ≡ false → P s c → c < length (choices_at m s) → EachAt (row_at m s c) (λ e y. Inside y.target))
    → Uses m u ends P (λ s. (s < states_of m) × Inside s) (λ n t s. ((s < states_of m) × Inside s) × Keeps m P u n t s)
staying_uses m u ends P Inside known_ stays = record {
  inside = λ n t s ok. ok.0;
  no_leaf = λ n s ok. ok.1;
  adds = λ n weights kids s ok. ok.1.0;
  behind = λ n weights kids s e ok.
      EachAt_mono (choices_at m s)
      (λ c x. (((c < length (choices_at m s)) × (choice_at m s c ≡ x)) × IsRow (states_of m) x.row) × ((0 < weights c → P s c) × EachAt x.row (λ e y. Keeps m P u n (kids c e) y.target)))
      (λ c x. 0 < weights c → P s c × EachAt x.row (λ e y. ((y.target < states_of m) × Inside y.target) × Keeps m P u n (kids c e) y.target))
      (λ c x q above. (
        q.1.0 above,
        EachAt_both x.row (λ e y. (y.target < states_of m) × Inside y.target) (λ e y. Keeps m P u n (kids c e) y.target)
            (EachAt_both x.row (λ e y. y.target < states_of m) (λ e y. Inside y.target) (targets_at (states_of m) x.row q.0.1)
            (subst (λ (y : Choice). EachAt y.row (λ e y. Inside y.target)) q.0.0.1 (stays s c ok.0.0 ok.0.1 e (q.1.0 above) q.0.0.0)))
            q.1.1,
      ))
      (EachAt_both (choices_at m s) (λ c x. ((c < length (choices_at m s)) × (choice_at m s c ≡ x)) × IsRow (states_of m) x.row)
      (λ c x. (0 < weights c → P s c) × EachAt x.row (λ e y. Keeps m P u n (kids c e) y.target))
      (EachAt_both (choices_at m s) (λ c x. (c < length (choices_at m s)) × (choice_at m s c ≡ x)) (λ c x. IsRow (states_of m) x.row) (placed_choice m s) (rows_known m s known_)) ok.1.1);
}
