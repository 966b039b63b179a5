-- The strong components of a policy's choices: those that the policy doesn't leave are its closed classes.
use Rattle.std.proofs.Common.{◌≡◌, ◌≢◌, ℕ, zero, suc, ◌+◌, ◌<◌, ◌≤◌, ◌⊎◌, inl, inr, Bool, true, false, not, subst, arith, zero-add}
use Rattle.std.proofs.Common.{◌&&◌, ◌==◌, List, [], ◌∷◌, length, map, get_or, Option, Some, None, refl, sym, ◌∙◌, ap}
use Rattle.std.proofs.{lemmas.Bool.{false≢true, and_parts, and_from, eqb-true, eq-eqb, ne_eqb}, lemmas.List.FromFn.{get_or-map-range_with_len}}
use Rattle.std.specs.{List.{All, range_with_len}, Prelude.{slice_index, nat_lt, cond}}
use Rattle.mdp_spec.specs.Mdp.{Entry, Mdp, states_of, choices_at, row_at}
use Rattle.mdp_rows.specs.{declared.dir.Dir.{Dir}, Preds.{leads_to}}
use Rattle.mdp_graph.specs.Sets.{marked, can_enter}
use Rattle.mdp_ends.specs.{Numbers.{is_numbered, count_from}, Walks.{Reaches, AreComponents}}
use Rattle.mdp_ends.proofs.{Walking.{any-range, range-any, enters-at, enters-by, stays-by, stays_along}, Numbering.{numbered-below}}
use Rattle.mdp_unichain.specs.{Chain.{IsChain, AllLeadTo, IsClosedClass}, Component.{Component, count, is_state, row_by, IsPolicy, IsComponent}}
use Rattle.mdp_unichain.specs.{Model.{IsInside}, Part.{IsPart, is_inner, inner_component}, Classes.{takes, leaves, has_flag, shares_part, AreClasses}}
use Rattle.mdp_unichain.proofs.{Chains.{same_or_other}, Entries.{any-target, target-any, all-target, target-all}, Improving.{policy-chain, state-below}}
use Rattle.mdp_unichain.proofs.{Members.{inside_of, row-is}, Nexts.{same_tests}, Parts.{part-component, part-count}}
use Rattle.mdp_unichain.proofs.{Ranks.{LeadsNearer, walk_rank, walk_falls, walk_down}, Reaching.{test_or_not, clash_test}}

-- ---- numbers

count_by : (b : Bool) (n a c : ℕ) → a ≤ n → c ≤ n → cond b a c ≤ n
count_by true n a c h k = h
count_by false n a c h k = k

count_from-le : (next : ℕ) (xs : List (Option ℕ)) → count_from next xs ≤ next + length xs
count_from-le next [] = omega arith
count_from-le next (None ∷ xs) = let l = count_from-le next xs in omega arith
count_from-le next (Some i ∷ xs) =
    let a = count_from-le next xs in
    let b = count_from-le (next + 1) xs in
    count_by (nat_lt i next) (next + suc (length xs)) (count_from next xs) (count_from (next + 1) xs) (omega arith) (omega arith)

some-at : (xs : List ℕ) (s : ℕ) → s < length xs → get_or (map Some xs) s None ≡ Some (slice_index xs s)
some-at [] s l = absurd (omega arith)
some-at (x ∷ xs) zero l = refl
some-at (x ∷ xs) (suc s) l = some-at xs s (omega arith)

some-len : (xs : List ℕ) → length (map Some xs) ≡ length xs
some-len [] = refl
some-len (x ∷ xs) = ap suc (some-len xs)

-- numbers that are given by least states are below the number of states
pub number-below : (xs : List ℕ) → is_numbered 0 (map Some xs) ≡ true → (s : ℕ) → s < length xs → slice_index xs s < length xs
number-below xs h s l =
    let a = numbered-below 0 (map Some xs) s (slice_index xs s) h (some-at xs s l) in
    let b = count_from-le 0 (map Some xs) in
    let c = some-len xs in
    omega arith

-- ---- flags

pub flag-is : (f : ℕ → Bool) (n s : ℕ) → s < n → marked (map f (range_with_len 0 n)) s ≡ f s
flag-is f n s l = get_or-map-range_with_len f 0 n s s false l (zero-add s)

module _ (f : ℕ → Bool) (parts : List ℕ) (n k : ℕ) where
  -- a part has a flag where some state of it is flagged
  pub flag_from : has_flag (map f (range_with_len 0 n)) parts n k ≡ true → (s : ℕ) × (s < n) × (f s ≡ true) × (slice_index parts s ≡ k)
  flag_from h =
      let w = any-range (λ s. marked (map f (range_with_len 0 n)) s && (slice_index parts s == k)) n h in
      let b = and_parts (marked (map f (range_with_len 0 n)) w.0) (slice_index parts w.0 == k) w.2 in
      (w.0, w.1, sym (flag-is f n w.0 w.1) ∙ b.0, eqb-true (slice_index parts w.0) k b.1)

  pub flag_by : (s : ℕ) → s < n → f s ≡ true → slice_index parts s ≡ k → has_flag (map f (range_with_len 0 n)) parts n k ≡ true
  flag_by s l e q =
      range-any (λ s. marked (map f (range_with_len 0 n)) s && (slice_index parts s == k)) n s l
      (and_from (marked (map f (range_with_len 0 n)) s) (slice_index parts s == k) (flag-is f n s l ∙ e) (eq-eqb (slice_index parts s) k q))

not-same : (a b : ℕ) → not (a == b) ≡ true → a ≢ b
not-same a b h e = false≢true (sym (ap not (eq-eqb a b e)) ∙ h)

same-not : (a b : ℕ) → a ≢ b → not (a == b) ≡ true
same-not a b h = ap not (ne_eqb a b h)

-- ---- the parts of a policy's chain

module _ (dir : Dir) (m : Mdp) (parts : List (Option ℕ)) (i r : ℕ) (k : IsPart m parts i) where
  abbrev p : Component
  p = inner_component dir m parts i r

  known : IsComponent p
  known = part-component m parts i k dir r

  module _ (policy : List ℕ) (is : IsPolicy p policy) where
    chain : IsChain (is_state p) (count p) (row_by p policy)
    chain = policy-chain p policy known is

    -- the policy's choice in the model
    inside : (s : ℕ) → is_state p s ≡ true → IsInside m (is_inner m parts i) s (slice_index policy s)
    inside s h = inside_of dir m r (is_inner m parts i) s (slice_index policy s) (IsPolicy.inner is s h)

    row-same : (s : ℕ) → is_state p s ≡ true → row_by p policy s ≡ row_at m s (slice_index policy s)
    row-same s h = row-is dir m r (is_inner m parts i) s (slice_index policy s) (inside s h)

    below : (s : ℕ) → is_state p s ≡ true → s < states_of m
    below s h = (inside s h).0

    module _ (chosen : ℕ → ℕ → Bool) (agrees : (s c : ℕ) → s < states_of m → c < length (choices_at m s) → chosen s c ≡ takes p policy s c) (numbers : List ℕ)
        (found : AreComponents m chosen numbers) where
      -- what is chosen is what the policy takes
      takes_of : (s c : ℕ) → s < states_of m → c < length (choices_at m s) → chosen s c ≡ true → (is_state p s ≡ true) × (c ≡ slice_index policy s)
      takes_of s c l lc e =
          let b = and_parts (is_state p s) (c == slice_index policy s) (sym (agrees s c l lc) ∙ e) in (b.0, eqb-true c (slice_index policy s) b.1)

      of_takes : (s : ℕ) → is_state p s ≡ true → chosen s (slice_index policy s) ≡ true
      of_takes s h =
          let w = inside s h in
          agrees s (slice_index policy s) w.0 w.1 ∙ and_from (is_state p s) (slice_index policy s == slice_index policy s) h (eq-eqb (slice_index policy s) (slice_index policy s) refl)

      -- a closed set of states is closed under what is chosen
      stays_within : (set : ℕ → Bool) → ((s : ℕ) → set s ≡ true → is_state p s ≡ true) → ((s y : ℕ) → set s ≡ true → leads_to y (row_by p policy s) ≡ true → set y ≡ true)
          → (s t : ℕ) → set s ≡ true → Reaches m chosen s t → set t ≡ true
      stays_within set states closed s t h w =
          stays_along m (IsPart.model k) set chosen
          (λ u c l e lc q.
          let z = takes_of u c l lc q in
          stays-by set (row_at m u c)
          (λ y to. closed u y e (subst (λ (es : List Entry). leads_to y es ≡ true) (sym (row-same u z.0)) (subst (λ d. leads_to y (row_at m u d) ≡ true) z.1 to))))
          s t (below s (states s h)) h w

      -- states of a closed class reach one another
      module _ (class : ℕ → Bool) (c : IsClosedClass (is_state p) (row_by p policy) class) where
        class_closed : (s y : ℕ) → class s ≡ true → leads_to y (row_by p policy s) ≡ true → class y ≡ true
        class_closed s y h to = all-target (row_by p policy s) (λ v. class v ≡ true) (IsClosedClass.closed c s h) y to

        class_reaches : (s t : ℕ) → class s ≡ true → class t ≡ true → Reaches m chosen s t
        class_reaches s t h j =
            let a : AllLeadTo class (row_by p policy) t = IsClosedClass.connected c t j in
            walk_down m chosen t class (AllLeadTo.rank a)
            (λ u e o.
            let z = any-target (row_by p policy u) (λ v. AllLeadTo.rank a v < AllLeadTo.rank a u) (AllLeadTo.falls a u e o) in
            let st = IsClosedClass.states c u e in
            let w = inside u st in
            (slice_index policy u, z.0, w.1, of_takes u st, subst (λ (es : List Entry). leads_to z.0 es ≡ true) (row-same u st) z.1, class_closed u z.0 e z.1, z.2))
            s h

        class_number : (s t : ℕ) → class s ≡ true → class t ≡ true → slice_index numbers s ≡ slice_index numbers t
        class_number s t h j =
            (AreComponents.same found s t (below s (IsClosedClass.states c s h)) (below t (IsClosedClass.states c t j))).1 (class_reaches s t h j, class_reaches t s j h)

        -- it is the part of each of its states
        class_shares : (s : ℕ) → class s ≡ true → (t : ℕ) → shares_part p numbers s t ≡ class t
        class_shares s h t =
            same_tests (shares_part p numbers s t) (class t)
            (λ e.
            let b = and_parts (is_state p t) (slice_index numbers t == slice_index numbers s) e in
            let w = (AreComponents.same found t s (below t b.0) (below s (IsClosedClass.states c s h))).0 (eqb-true (slice_index numbers t) (slice_index numbers s) b.1) in
            stays_within class (IsClosedClass.states c) class_closed s t h w.1)
            (λ j. and_from (is_state p t) (slice_index numbers t == slice_index numbers s) (IsClosedClass.states c t j) (eq-eqb (slice_index numbers t) (slice_index numbers s) (class_number t s j h)))

      module _ (left : List Bool) (len : length left ≡ count p)
          (left_is : (s : ℕ) → s < count p → marked left (slice_index numbers s) ≡ has_flag (map (leaves p policy numbers) (range_with_len 0 (count p))) numbers (count p)
          (slice_index numbers s)) where
        -- a closed class isn't left
        class_kept : (class : ℕ → Bool) (c : IsClosedClass (is_state p) (row_by p policy) class) (s : ℕ) → class s ≡ true
            → (marked left (slice_index numbers s) ≡ true) ⊎ (marked left (slice_index numbers s) ≡ false)
            → marked left (slice_index numbers s) ≡ false
        class_kept class c s h (inr o) = o
        class_kept class c s h (inl e) =
            let st = IsClosedClass.states c s h in
            let w = flag_from (leaves p policy numbers) numbers (count p) (slice_index numbers s) (sym (left_is s (state-below p s st)) ∙ e) in
            let b = and_parts (is_state p w.0) (can_enter (λ y. not (slice_index numbers y == slice_index numbers w.0)) (row_by p policy w.0)) w.2 in
            let z = enters-at (λ y. not (slice_index numbers y == slice_index numbers w.0)) (row_by p policy w.0) b.1 in
            let j : class w.0 ≡ true = sym (class_shares class c s h w.0)
            ∙ and_from (is_state p w.0) (slice_index numbers w.0 == slice_index numbers s) b.0 (eq-eqb (slice_index numbers w.0) (slice_index numbers s) w.3) in
            absurd (not-same (slice_index numbers z.0) (slice_index numbers w.0) z.2 (class_number class c z.0 w.0 (class_closed class c w.0 z.0 j z.1) j))

        -- a part that isn't left is a closed class
        module _ (s : ℕ) (h : is_state p s ≡ true) (kept : marked left (slice_index numbers s) ≡ false) where
          abbrev class : ℕ → Bool
          class = shares_part p numbers s

          state_in : (t : ℕ) → class t ≡ true → is_state p t ≡ true
          state_in t e = (and_parts (is_state p t) (slice_index numbers t == slice_index numbers s) e).0

          number_in : (t : ℕ) → class t ≡ true → slice_index numbers t ≡ slice_index numbers s
          number_in t e = eqb-true (slice_index numbers t) (slice_index numbers s) (and_parts (is_state p t) (slice_index numbers t == slice_index numbers s) e).1

          target_in : (u y : ℕ) → class u ≡ true → leads_to y (row_by p policy u) ≡ true → (slice_index numbers y ≡ slice_index numbers u) ⊎ (slice_index numbers y ≢ slice_index numbers u)
              → class y ≡ true
          target_in u y e to (inl q) =
              and_from (is_state p y) (slice_index numbers y == slice_index numbers s) (all-target (row_by p policy u) (λ v. is_state p v ≡ true) (IsChain.stays chain u (state_in u e)) y to)
              (eq-eqb (slice_index numbers y) (slice_index numbers s) (q ∙ number_in u e))
          target_in u y e to (inr o) =
              let flag = and_from (is_state p u) (can_enter (λ v. not (slice_index numbers v == slice_index numbers u)) (row_by p policy u)) (state_in u e)
              (enters-by (λ v. not (slice_index numbers v == slice_index numbers u)) (row_by p policy u) y to (same-not (slice_index numbers y) (slice_index numbers u) o)) in
              let is_left = left_is s (state-below p s h) ∙ flag_by (leaves p policy numbers) numbers (count p) (slice_index numbers s) u (state-below p u (state_in u e)) flag (number_in u e) in
              absurd (clash_test (marked left (slice_index numbers s)) is_left kept)

          closed_in : (u : ℕ) → class u ≡ true → All (λ y. class y.target ≡ true) (row_by p policy u)
          closed_in u e = target-all (row_by p policy u) (λ y. class y ≡ true) (λ y to. target_in u y e to (same_or_other (slice_index numbers y) (slice_index numbers u)))

          walks_in : (t : ℕ) → class t ≡ true → (u : ℕ) → class u ≡ true → Reaches m chosen u t
          walks_in t j u e = ((AreComponents.same found u t (below u (state_in u e)) (below t (state_in t j))).0 (number_in u e ∙ sym (number_in t j))).0

          connected_in : (t : ℕ) → class t ≡ true → AllLeadTo class (row_by p policy) t
          connected_in t j = record {
            state = j;
            rank = walk_rank m chosen t class (walks_in t j);
            falls = λ u e o.
                let n = walk_falls m chosen t class (walks_in t j) u e o in
                let z = takes_of u (LeadsNearer.choice n) (below u (state_in u e)) (LeadsNearer.below n) (LeadsNearer.taken n) in
                target-any (row_by p policy u) (λ y. walk_rank m chosen t class (walks_in t j) y < walk_rank m chosen t class (walks_in t j) u) (LeadsNearer.target n)
                (subst (λ (es : List Entry). leads_to (LeadsNearer.target n) es ≡ true) (sym (row-same u z.0))
                (subst (λ d. leads_to (LeadsNearer.target n) (row_at m u d) ≡ true) z.1 (LeadsNearer.leads n)))
                (LeadsNearer.smaller n);
          }

          pub part_class : IsClosedClass (is_state p) (row_by p policy) (shares_part p numbers s)
          part_class = record {
            some = (s, and_from (is_state p s) (slice_index numbers s == slice_index numbers s) h (eq-eqb (slice_index numbers s) (slice_index numbers s) refl));
            states = state_in;
            closed = closed_in;
            connected = connected_in;
          }

        pub are_classes : AreClasses p policy numbers left
        are_classes =
            let n = part-count dir m parts i r in
            let l = AreComponents.count found in
            record {
              count_parts = l ∙ sym n;
              below = λ s e. let b = number-below numbers (AreComponents.numbered found) s (omega (arith, e, n, l)) in omega (arith, b, n, l);
              count_left = len;
              closed = λ s h o. part_class s h o;
              only = λ class c s h. (class_kept class c s h (test_or_not (marked left (slice_index numbers s))), class_shares class c s h);
            }
