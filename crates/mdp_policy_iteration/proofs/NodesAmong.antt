-- Nodes that are visited in turn: which nodes a list holds, and what holds so far of the nodes that were visited and of those that are not to be visited.
use Rattle.std.proofs.Common.{◌≡◌, ◌⊎◌, inl, inr, ℕ, suc, ◌+◌, ◌<◌, ◌≤◌, ◌==◌, true, false, ◌||◌, List, [], ◌∷◌, length, take, get_or, sym, ◌∙◌, ap, subst}
use Rattle.std.proofs.{Common.{arith}, Math.ListN.{set}, lemmas.Bool.{eqb-true, false≢true, cases_Bool, cases_eq, ne_eqb}}
use Rattle.std.proofs.lemmas.List.{take_more, take_all, get_or-take, length-take-le, get_or-set_same, get_or-set_other, length-set}
use Rattle.std.proofs.lemmas.List.Folds.{list_any-append}
use Rattle.mdp_math.proofs.Booleans.{or-false}
use Rattle.mdp_rows.specs.Preds.{is_among}
use Rattle.mdp_elim.proofs.Others.{among-at}
use Rattle.mdp_policy_iteration.specs.Changes.{Ascend}

among-more : (t : ℕ) (xs : List ℕ) (i : ℕ) → i < length xs → is_among t (take (i + 1) xs) ≡ (is_among t (take i xs) || ((get_or xs i 0 == t) || false))
among-more t xs i h = ap (is_among t) (take_more xs i 0 h) ∙ list_any-append (λ x. x == t) (take i xs) (get_or xs i 0 ∷ [])

-- the place of a node that is among them
among-place : (t : ℕ) (xs : List ℕ) → is_among t xs ≡ true → (i : ℕ) × (i < length xs) × (get_or xs i 0 ≡ t)
among-place t [] e = absurd (false≢true e)
among-place t (x ∷ xs) e = elim (cases_Bool (x == t)) [
  | inl same ↦ (0, omega arith, eqb-true x t same)
  | inr other ↦ (let w = among-place t xs (sym (ap (λ b. b || is_among t xs) other) ∙ e) in (suc w.0, omega (arith, w.1), w.2))
]

-- it is not among the nodes, or it is among the first i of them
abbrev pub IsVisited : List ℕ → ℕ → ℕ → Type 0
IsVisited nodes i s = (is_among s nodes ≡ false) ⊎ (is_among s (take i nodes) ≡ true)

module _ (nodes : List ℕ) where
  -- another node than the next one was visited before
  visited-before : (i s : ℕ) → i < length nodes → (s ≡ get_or nodes i 0 → ⊥) → IsVisited nodes (i + 1) s → IsVisited nodes i s
  visited-before i s l other (inl out) = inl out
  visited-before i s l other (inr e) =
      let no : (get_or nodes i 0 == s) ≡ false = ne_eqb (get_or nodes i 0) s (λ q. other (sym q)) in
      inr (sym (or-false (is_among s (take i nodes))) ∙ ap (λ b. is_among s (take i nodes) || (b || false)) (sym no) ∙ sym (among-more s nodes i l) ∙ e)

  visited-all : (s : ℕ) → IsVisited nodes (length nodes) s
  visited-all s = elim (cases_Bool (is_among s nodes)) [
    | inl e ↦ inr (ap (is_among s) (take_all (length nodes) nodes (omega arith)) ∙ e)
    | inr e ↦ inl e
  ]

  -- where the nodes ascend, all below the next one were visited
  pub visited-below : (i s : ℕ) → Ascend nodes → i < length nodes → s < get_or nodes i 0 → IsVisited nodes i s
  visited-below i s ascend l below = elim (cases_Bool (is_among s nodes)) [
    | inr e ↦ inl e
    | inl e ↦
        (let w = among-place s nodes e in
        let k : w.0 < i = elim (ordered w.0) [ inl q ↦ q | inr q ↦ absurd (let m = turned w.0 w.1 q in let same = w.2 in omega arith) ] in
        let len : length (take i nodes) ≡ i = length-take-le i nodes (omega arith) in
        inr (subst (λ t. is_among t (take i nodes) ≡ true) (get_or-take i nodes w.0 0 k ∙ w.2) (among-at (take i nodes) w.0 (omega arith))))
  ]
    where
      ordered : (k : ℕ) → (k < i) ⊎ (i ≤ k)
      ordered k = grind arith

      turned : (k : ℕ) → k < length nodes → i ≤ k → get_or nodes i 0 ≤ get_or nodes k 0
      turned k m q = elim (cases_eq i k) [ inl same ↦ (let e = ap (λ j. get_or nodes j 0) same in omega arith) | inr other ↦ (let h = ascend i k (grind arith) m in omega arith) ]

  -- ---- a fact of each node

  module _ (n : ℕ) (Q : ℕ → Type 0) where
    abbrev pub HoldSoFar : ℕ → Type 0
    HoldSoFar i = (s : ℕ) → s < n → IsVisited nodes i s → Q s

    pub so_far-start : ((s : ℕ) → s < n → is_among s nodes ≡ false → Q s) → HoldSoFar 0
    so_far-start h s l (inl out) = h s l out
    so_far-start h s l (inr e) = absurd (false≢true e)

    pub so_far-next : (i : ℕ) → i < length nodes → HoldSoFar i → Q (get_or nodes i 0) → HoldSoFar (i + 1)
    so_far-next i l h here s m v = elim (cases_eq s (get_or nodes i 0)) [
      | inl same ↦ subst Q (sym same) here
      | inr other ↦ h s m (visited-before i s l other v)
    ]

    pub so_far-all : (i : ℕ) → i ≡ length nodes → HoldSoFar i → (s : ℕ) → s < n → Q s
    so_far-all i e h s l = h s l (subst (λ k. IsVisited nodes k s) (sym e) (visited-all s))

  -- ---- a fact of each node and its element of a list

  module _ {A : Type 0} (d : A) (n : ℕ) (R : ℕ → A → Type 0) where
    -- so far
    pub record AreMade (i : ℕ) (xs : List A) : Type 0 where
      pub len : length xs ≡ n
      pub at : (s : ℕ) → s < n → IsVisited nodes i s → R s (get_or xs s d)

    pub made-start : (xs : List A) → length xs ≡ n → ((s : ℕ) → s < n → is_among s nodes ≡ false → R s (get_or xs s d)) → AreMade 0 xs
    made-start xs len h = record { len = len; at = so_far-start n (λ s. R s (get_or xs s d)) h }

    pub made-next : (i : ℕ) (xs : List A) (x : A) → i < length nodes → get_or nodes i 0 < n → AreMade i xs → R (get_or nodes i 0) x → AreMade (i + 1) (set xs (get_or nodes i 0) x)
    made-next i xs x l m h r = record {
      len = length-set xs (get_or nodes i 0) x ∙ h.len;
      at = λ s k v. elim (cases_eq s (get_or nodes i 0)) [
        | inl same ↦
            subst (λ j. R j (get_or (set xs (get_or nodes i 0) x) j d)) (sym same)
            (subst (λ y. R (get_or nodes i 0) y) (sym (get_or-set_same xs (get_or nodes i 0) x d (let e = h.len in omega arith))) r)
        | inr other ↦ subst (λ y. R s y) (sym (get_or-set_other xs (get_or nodes i 0) s x d other)) (h.at s k (visited-before i s l other v))
      ];
    }

    pub made-all : (i : ℕ) (xs : List A) → i ≡ length nodes → AreMade i xs → (s : ℕ) → s < n → R s (get_or xs s d)
    made-all i xs e h s l = h.at s l (subst (λ k. IsVisited nodes k s) (sym e) (visited-all s))
