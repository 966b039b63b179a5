-- The states, the choices and the equations of a policy in both components: one system under other numbers.
use Rattle.std.proofs.Common.{◌≡◌, ◌≢◌, ℕ, zero, suc, ◌<◌, ◌≤◌, ◌⊎◌, inl, inr, Bool, true, refl, sym, ◌∙◌, ap, ap₂, subst, arith, zero-add, pos}
use Rattle.std.proofs.{Common.{false, not, ◌&&◌, eqb, cond, List, [], ◌∷◌, length, map, filter, get_or}, Math.ListN.{get_or-eq_default}, lemmas.Bool.{ne_eqb}}
use Rattle.std.proofs.lemmas.List.FromFn.{get_or-map-range_with_len, length-map-range_with_len}
use Rattle.std.specs.{List.{All, range_with_len}, Prelude.{slice_index}}
use Rattle.mdp_math.specs.Rational.{of_int}
use Rattle.mdp_math.proofs.{Booleans.{and-left}, Kernel.{All-head, All-tail}, Numbers.{le_or, eqb-same}}
use Rattle.mdp_spec.specs.Mdp.{Entry}
use Rattle.mdp_elim.specs.System.{is_active, row_of, inner, column_at}
use Rattle.mdp_unichain.specs.{Component.{Component, Choice, count, choice_at, chosen, is_state, row_by, reward_by, IsPolicy}, Evaluation.{active}}
use Rattle.mdp_unichain.specs.Written.{row_or_loop, rows_of, active_of, columns_of}
use Rattle.mdp_unichain.proofs.Chains.{same_or_other}
use Rattle.mdp_gain.specs.Renumbering.{renamed, IsSameChoice, IsRenumbering, spread}
use Rattle.mdp_gain.proofs.{Spread.{IsUnlisted, place-unique, spread-at}, RenumberedSystem.{IsRenumberedSystem}}

-- the entry of a number below n
number-at : {A : Type 0} (f : ℕ → A) (n s : ℕ) (d : A) → s < n → get_or (map f (range_with_len 0 n)) s d ≡ f s
number-at f n s d l = get_or-map-range_with_len f 0 n s s d l (zero-add s)

-- and of any other
number-past : {A : Type 0} (f : ℕ → A) (n s : ℕ) (d : A) → n ≤ s → get_or (map f (range_with_len 0 n)) s d ≡ d
number-past f n s d l = let k = length-map-range_with_len f 0 n in get_or-eq_default (map f (range_with_len 0 n)) d (omega (arith, k, l))

-- ---- rows without some of their entries

module _ (states : List ℕ) (test big_test : ℕ → Bool) (same : (j : ℕ) → j < length states → test j ≡ big_test (slice_index states j)) where
  kept_by : (x : Entry) (row kept : List Entry) (a b : Bool) → b ≡ a → kept ≡ map (renamed states) row
      → cond b (renamed states x ∷ kept) kept ≡ map (renamed states) (cond a (x ∷ row) row)
  kept_by x row kept true true e h = ap (λ (es : List Entry). renamed states x ∷ es) h
  kept_by x row kept true false e h = cc
  kept_by x row kept false true e h = cc
  kept_by x row kept false false e h = h

  -- the entries that are kept are the same ones
  filter-renamed : (row : List Entry) → All (λ e. e.target < length states) row
      → filter (λ x. big_test x.target) (map (renamed states) row) ≡ map (renamed states) (filter (λ x. test x.target) row)
  filter-renamed [] h = refl
  filter-renamed (x ∷ row) h =
      kept_by x (filter (λ x. test x.target) row) (filter (λ x. big_test x.target) (map (renamed states) row)) (test x.target)
      (big_test (slice_index states x.target)) (sym (same x.target (All-head (λ e. e.target < length states) x row h)))
      (filter-renamed row (All-tail (λ e. e.target < length states) x row h))

module _ (states : List ℕ) (small big : Component) (R : IsRenumbering states small big) where
  -- ---- states

  below_by : (t : ℕ) → is_state small t ≡ true → (length states ≤ t) ⊎ (t < length states) → t < length states
  below_by t h (inr l) = l
  below_by t h (inl l) = let e = R.outside t l in cc

  -- a state of the small component is a place
  pub place-below : (t : ℕ) → is_state small t ≡ true → t < length states
  place-below t h = below_by t h (le_or (length states) t)

  unlisted_by : (s : ℕ) (b : Bool) → is_state big s ≡ b → IsUnlisted states s → b ≡ false
  unlisted_by s true e h = let w = R.listed s e in absurd (h w.0 w.1 w.2)
  unlisted_by s false e h = refl

  -- a number that isn't listed is no state
  pub unlisted-state : (s : ℕ) → IsUnlisted states s → is_state big s ≡ false
  unlisted-state s h = unlisted_by s (is_state big s) refl h

  same_by : (j t : ℕ) → j < length states → t < length states → (j ≡ t) ⊎ (j ≢ t) → eqb (slice_index states j) (slice_index states t) ≡ eqb j t
  same_by j t l m (inl e) =
      ap (λ (k : ℕ). eqb (slice_index states k) (slice_index states t)) e ∙ eqb-same (slice_index states t) ∙ sym (ap (λ (k : ℕ). eqb k t) e ∙ eqb-same t)
  same_by j t l m (inr o) = ne_eqb (slice_index states j) (slice_index states t) (λ e. o (place-unique states R.ascend j t l m e)) ∙ sym (ne_eqb j t o)

  -- the states but the reference are the same ones
  pub active-there : (j t : ℕ) → j < length states → t < length states
      → active (is_state small) t j ≡ active (is_state big) (slice_index states t) (slice_index states j)
  active-there j t l m = ap₂ (λ (a b : Bool). a && not b) (R.is_small j l ∙ sym (R.is_big j l)) (sym (same_by j t l m (same_or_other j t)))

  -- no number past the places is active, and none that isn't listed
  pub active-outside : (j t : ℕ) → length states ≤ j → active (is_state small) t j ≡ false
  active-outside j t l = ap (λ (b : Bool). b && not (eqb j t)) (R.outside j l)

  pub active-unlisted : (s t : ℕ) → IsUnlisted states s → active (is_state big) t s ≡ false
  active-unlisted s t h = ap (λ (b : Bool). b && not (eqb s t)) (unlisted-state s h)

  module _ (p : List ℕ) (is : IsPolicy small p) where
    -- ---- the choices of a policy

    abbrev there : List ℕ
    there = spread states (count big) p

    -- at a state of the big component the policy takes the choice of its place
    pub choice-there : (j : ℕ) → j < length states → slice_index (spread states (count big) p) (slice_index states j) ≡ slice_index p j
    choice-there j l = spread-at states (count big) p R.ascend j l (let len = is.len in let few = R.few in omega (arith, len, few)) (R.below j l)

    same-choice : (j : ℕ) → j < length states → IsSameChoice states (chosen small p j) (chosen big there (slice_index states j))
    same-choice j l =
        subst (λ (c : ℕ). IsSameChoice states (chosen small p j) (choice_at big (slice_index states j) c)) (sym (choice-there j l))
        (R.choices j (slice_index p j) l)

    -- and this is one of the component
    inner-there : (j : ℕ) → j < length states → Choice.inner (chosen big there (slice_index states j)) ≡ true
    inner-there j l = sym (IsSameChoice.inner (same-choice j l)) ∙ is.inner j (R.is_small j l)

    -- what it leads to, and what it earns
    pub row-there : (j : ℕ) → j < length states → row_by big (spread states (count big) p) (slice_index states j) ≡ map (renamed states) (row_by small p j)
    row-there j l = IsSameChoice.row (same-choice j l) (inner-there j l)

    pub reward-there : (j : ℕ) → j < length states → reward_by big (spread states (count big) p) (slice_index states j) ≡ reward_by small p j
    reward-there j l = IsSameChoice.reward (same-choice j l) (inner-there j l)

    pub targets-below : (j : ℕ) → j < length states → All (λ e. e.target < length states) (row_by small p j)
    targets-below j l = IsSameChoice.targets (same-choice j l) (inner-there j l)

    -- ---- the equations

    -- the row of a place, and that of its number
    small-row : (j : ℕ) → j < length states → row_of (rows_of small p) j ≡ row_by small p j
    small-row j l =
        number-at (λ s. row_or_loop (is_state small s) s (row_by small p s)) (count small) j [] (let few = R.few in omega (arith, few, l))
        ∙ ap (λ (b : Bool). row_or_loop b j (row_by small p j)) (R.is_small j l)

    big-row : (j : ℕ) → j < length states → row_of (rows_of big there) (slice_index states j) ≡ map (renamed states) (row_by small p j)
    big-row j l =
        number-at (λ s. row_or_loop (is_state big s) s (row_by big there s)) (count big) (slice_index states j) [] (R.below j l)
        ∙ ap (λ (b : Bool). row_or_loop b (slice_index states j) (row_by big there (slice_index states j))) (R.is_big j l) ∙ row-there j l

    -- the two columns: what a step earns, and 1
    column-there : (k j : ℕ) → j < length states → column_at (columns_of big there) k (slice_index states j) ≡ column_at (columns_of small p) k j
    column-there zero j l =
        number-at (reward_by big there) (count big) (slice_index states j) (of_int (pos 0)) (R.below j l) ∙ reward-there j l
        ∙ sym (number-at (reward_by small p) (count small) j (of_int (pos 0)) (let few = R.few in omega (arith, few, l)))
    column-there (suc zero) j l =
        number-at (λ s. of_int (pos 1)) (count big) (slice_index states j) (of_int (pos 0)) (R.below j l)
        ∙ sym (number-at (λ s. of_int (pos 1)) (count small) j (of_int (pos 0)) (let few = R.few in omega (arith, few, l)))
    column-there (suc (suc k)) j l = refl

    module _ (t : ℕ) (state : is_state small t ≡ true) where
      abbrev target : ℕ
      target = slice_index states t

      same-active : (j : ℕ) → j < length states → is_active (active_of small t) j ≡ is_active (active_of big target) (slice_index states j)
      same-active j l =
          number-at (active (is_state small) t) (count small) j false (let few = R.few in omega (arith, few, l)) ∙ active-there j t l (place-below t state)
          ∙ sym (number-at (active (is_state big) target) (count big) (slice_index states j) false (R.below j l))

      outside_by : (j : ℕ) → length states ≤ j → (count small ≤ j) ⊎ (j < count small) → is_active (active_of small t) j ≡ false
      outside_by j l (inl past) = number-past (active (is_state small) t) (count small) j false past
      outside_by j l (inr m) = number-at (active (is_state small) t) (count small) j false m ∙ active-outside j t l

      state_by : (s : ℕ) → is_active (active_of big target) s ≡ true → (count big ≤ s) ⊎ (s < count big) → is_state big s ≡ true
      state_by s h (inl past) = let e = number-past (active (is_state big) target) (count big) s false past in cc
      state_by s h (inr l) = and-left (is_state big s) (not (eqb s target)) (sym (number-at (active (is_state big) target) (count big) s false l) ∙ h)

      -- the equations of a policy are one system under other numbers
      pub same-system : IsRenumberedSystem states (rows_of small p) (active_of small t) (columns_of small p) (rows_of big (spread states (count big) p))
          (active_of big (slice_index states t)) (columns_of big (spread states (count big) p))
      same-system = record {
        ascend = R.ascend;
        below = λ j l.
            let k = length-map-range_with_len (λ s. row_or_loop (is_state big s) s (row_by big there s)) 0 (count big) in
            let b = R.below j l in omega (arith, k, b);
        few =
            let k = length-map-range_with_len (λ s. row_or_loop (is_state small s) s (row_by small p s)) 0 (count small) in
            let few = R.few in omega (arith, k, few);
        same_active = same-active;
        outside = λ j l. outside_by j l (le_or (count small) j);
        listed = λ s h. R.listed s (state_by s h (le_or (count big) s));
        row = λ j l _.
            ap (inner (active_of big target)) (big-row j l)
            ∙ filter-renamed states (is_active (active_of small t)) (is_active (active_of big target)) same-active (row_by small p j) (targets-below j l)
            ∙ ap (λ (row : List Entry). map (renamed states) (inner (active_of small t) row)) (sym (small-row j l));
        column = λ k j l _. column-there k j l;
        count = refl;
      }
