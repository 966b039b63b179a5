-- Components and maximal end components of a given model, tested by computation.
use Rattle.std.proofs.Common.{◌≡◌, ◌⊎◌, inl, inr, ℕ, suc, zero, ◌<◌, Bool, true, false, not, ◌||◌, ◌&&◌, ◌==◌}
use Rattle.std.proofs.Common.{cond, List, length, get_or, map, refl, sym, ap, ◌∙◌, arith, Option, Some, None, is_some}
use Rattle.std.proofs.lemmas.Bool.{false≢true, cases_Bool, cases_eq, or_cases, or_left, or_right, and_parts, and_from, eqb-true, eq-eqb, not_from_true}
use Rattle.std.specs.List.{list_any, range_with_len}
use Rattle.mdp_spec.specs.{Mdp.{Mdp, states_of, choices_at}, Row.{IsMdp}}
use Rattle.mdp_ends.specs.{Walks.{comes_to, AreComponents}, Numbers.{is_numbered}, Ends.{part_of, has_number, AreEnds}}
use Rattle.mdp_ends.specs.{Rounds.{keeps_part, still_allowed, IsSettled, AreLeft}, Quotient.{ShareAPart, AreNodes}}
use Rattle.mdp_ends.proofs.{Walking.{any-range, range-any}, Numbering.{some-same}, RoundLaws.{has-number, number-has, all_kept, round_kept, ends_found}}
use Rattle.mdp_ends.proofs.{Closing.{reaches_by}, Existing.{numbers_for_all}}

unfoldable pub agree : Bool → Bool → Bool
agree a b = cond a b (not b)

pub agreed : (a b : Bool) → agree a b ≡ true → a ≡ b
unfolding agree
agreed true b e = sym e
agreed false true e = absurd (false≢true e)
agreed false false e = refl

unfoldable pub each_below : (ℕ → Bool) → ℕ → Bool
each_below p zero = true
each_below p (suc n) = p n && each_below p n

pub each-at : (p : ℕ → Bool) (n : ℕ) → each_below p n ≡ true → (s : ℕ) → s < n → p s ≡ true
unfolding each_below
each-at p zero e s h = absurd (omega (arith, h))
each-at p (suc n) e s h =
    let w = and_parts (p n) (each_below p n) e in
    elim (cases_eq s n) [ inl same ↦ ap p same ∙ w.0 | inr other ↦ each-at p n w.1 s (omega (arith, h, other)) ]

abbrev pub same_number : Option ℕ → Option ℕ → Bool
same_number None o = false
same_number (Some i) None = false
same_number (Some i) (Some j) = i == j

abbrev pub same_part : Option ℕ → Option ℕ → Bool
same_part None o = false
same_part (Some i) o = has_number i o

module _ (m : Mdp) (allowed : ℕ → ℕ → Bool) (parts : List ℕ) where
  -- two states have one number where each is reached from the other
  unfoldable pub components_test : Bool
  components_test =
      each_below (λ s. each_below (λ t. agree (get_or parts s 0 == get_or parts t 0) (comes_to m allowed t (states_of m) s && comes_to m allowed s (states_of m) t)) (states_of m)) (states_of m)

  -- no allowed choice leaves its component
  unfoldable pub settled_test : Bool
  settled_test = each_below (λ s. each_below (λ c. not (allowed s c) || keeps_part m parts s c) (length (choices_at m s))) (states_of m)

  -- the numbers of those that have an allowed choice
  unfoldable pub has_test : List (Option ℕ) → Bool
  has_test ends = each_below (λ s. agree (is_some (part_of ends s)) (list_any (allowed s) (range_with_len 0 (length (choices_at m s))))) (states_of m)

  unfoldable pub numbers_test : List (Option ℕ) → Bool
  numbers_test ends = each_below (λ s. each_below (λ t. not (is_some (part_of ends s) && is_some (part_of ends t)) || agree
      (same_number (part_of ends s) (part_of ends t)) (get_or parts s 0 == get_or parts t 0)) (states_of m)) (states_of m)

  abbrev pub left_test : List (Option ℕ) → Bool
  left_test ends = has_test ends && numbers_test ends

  pub components_by_test : IsMdp m → length parts ≡ states_of m → is_numbered 0 (map Some parts) ≡ true → components_test ≡ true → AreComponents m allowed parts
  unfolding components_test
  components_by_test ok count numbered e = record {
    count = count;
    same = λ s t hs ht.
        (let n : ℕ = states_of m in
        let a = agreed (get_or parts s 0 == get_or parts t 0) (comes_to m allowed t n s && comes_to m allowed s n t)
        (each-at (λ t. agree (get_or parts s 0 == get_or parts t 0) (comes_to m allowed t n s && comes_to m allowed s n t)) n
        (each-at (λ s. each_below (λ t. agree (get_or parts s 0 == get_or parts t 0) (comes_to m allowed t n s && comes_to m allowed s n t)) n) n e s hs) t ht) in (
          (λ q. (let p = and_parts (comes_to m allowed t n s) (comes_to m allowed s n t) (sym a ∙ eq-eqb (get_or parts s 0) (get_or parts t 0) q) in ((n, p.0), (n, p.1)))),
          (λ j. eqb-true (get_or parts s 0) (get_or parts t 0) (a ∙ and_from (comes_to m allowed t n s) (comes_to m allowed s n t) (reaches_by m ok allowed s t hs j.0) (reaches_by m ok allowed t s ht j.1))),
        ));
    numbered = numbered;
  }

  settled_by_test : settled_test ≡ true → IsSettled m allowed parts
  unfolding settled_test
  settled_by_test e = λ s c h l a.
      (let w = each-at (λ c. not (allowed s c) || keeps_part m parts s c) (length (choices_at m s))
      (each-at (λ s. each_below (λ c. not (allowed s c) || keeps_part m parts s c) (length (choices_at m s))) (states_of m) e s h) c l in
      elim (or_cases (not (allowed s c)) (keeps_part m parts s c) w) [
        | inl out ↦ absurd (false≢true (sym (not_from_true (allowed s c) a) ∙ out))
        | inr kept ↦ kept
      ])

  left_by_test : (ends : List (Option ℕ)) → length ends ≡ states_of m → is_numbered 0 ends ≡ true → left_test ends ≡ true → AreLeft m allowed parts ends
  unfolding has_test numbers_test
  left_by_test ends count numbered e = record {
    count = count;
    none = λ s c h none l. (elim (cases_Bool (allowed s c)) [
      | inr out ↦ out
      | inl it ↦ absurd (false≢true (sym (ap is_some none) ∙ has s h ∙ range-any (allowed s) (length (choices_at m s)) c l it))
    ]);
    some = λ s i h some. any-range (allowed s) (length (choices_at m s)) (sym (has s h) ∙ ap is_some some);
    same = λ s t i j hs ht es et.
        (let same : (i == j) ≡ (get_or parts s 0 == get_or parts t 0) = sym (ap (λ o. same_number o (part_of ends t)) es ∙ ap (same_number (Some i)) et) ∙ numbers s t i j hs ht es et in (
          (λ q. eqb-true (get_or parts s 0) (get_or parts t 0) (sym same ∙ eq-eqb i j q)),
          (λ q. eqb-true i j (same ∙ eq-eqb (get_or parts s 0) (get_or parts t 0) q)),
        ));
    numbered = numbered;
  } where
    first : has_test ends ≡ true
    first = (and_parts (has_test ends) (numbers_test ends) e).0

    has : (s : ℕ) → s < states_of m → is_some (part_of ends s) ≡ list_any (allowed s) (range_with_len 0 (length (choices_at m s)))
    has s h = agreed (is_some (part_of ends s)) (list_any (allowed s) (range_with_len 0 (length (choices_at m s))))
        (each-at (λ s. agree (is_some (part_of ends s)) (list_any (allowed s) (range_with_len 0 (length (choices_at m s))))) (states_of m) first s h)

    second : numbers_test ends ≡ true
    second = (and_parts (has_test ends) (numbers_test ends) e).1

    numbers : (s t i j : ℕ) → s < states_of m → t < states_of m → part_of ends s ≡ Some i
        → part_of ends t ≡ Some j → same_number (part_of ends s) (part_of ends t) ≡ (get_or parts s 0 == get_or parts t 0)
    numbers s t i j hs ht es et = elim (or_cases (not (is_some (part_of ends s) && is_some (part_of ends t))) (agree (same_number (part_of ends s) (part_of ends t)) (get_or parts s 0 == get_or parts t 0))
        (each-at (λ t. not (is_some (part_of ends s) && is_some (part_of ends t)) || agree (same_number (part_of ends s) (part_of ends t)) (get_or parts s 0 == get_or parts t 0)) (states_of m)
        (each-at (λ s. each_below (λ t. not (is_some (part_of ends s) && is_some (part_of ends t)) || agree
        (same_number (part_of ends s) (part_of ends t)) (get_or parts s 0 == get_or parts t 0)) (states_of m)) (states_of m) second s hs) t ht)) [
          | inl out ↦ absurd (false≢true (sym (not_from_true (is_some (part_of ends s) && is_some (part_of ends t))
              (and_from (is_some (part_of ends s)) (is_some (part_of ends t)) (ap is_some es) (ap is_some et))) ∙ out))
          | inr a ↦ agreed (same_number (part_of ends s) (part_of ends t)) (get_or parts s 0 == get_or parts t 0) a
        ]

-- where one round forbids all that has to go, and components stay as they are
pub ends_by_test : (m : Mdp) → IsMdp m → (parts : List ℕ) (ends : List (Option ℕ)) → length parts ≡ states_of m
    → is_numbered 0 (map Some parts) ≡ true → length ends ≡ states_of m → is_numbered 0 ends ≡ true
    → components_test m (λ s c. true) parts ≡ true → components_test m (still_allowed m (λ s c. true) parts) parts ≡ true → settled_test m (still_allowed m (λ s c. true) parts) parts ≡ true
    → left_test m (still_allowed m (λ s c. true) parts) parts ends ≡ true → AreEnds m ends
ends_by_test m ok parts ends count numbered as_many numbers first next settled left =
    ends_found m ok (still_allowed m (λ s c. true) parts) parts (components_by_test m (still_allowed m (λ s c. true) parts) parts ok count numbered next)
    (round_kept m ok (λ s c. true) parts (components_by_test m (λ s c. true) parts ok count numbered first) (all_kept m)) (settled_by_test m (still_allowed m (λ s c. true) parts) parts settled) ends
    (left_by_test m (still_allowed m (λ s c. true) parts) parts ends as_many numbers left)

-- ---- nodes

-- two states of one node: a test
abbrev pub node_test : List (Option ℕ) → ℕ → ℕ → Bool
node_test ends s t = (s == t) || same_part (part_of ends s) (part_of ends t)

pub node_cases : (ends : List (Option ℕ)) (s t : ℕ) → node_test ends s t ≡ true → (s ≡ t) ⊎ ShareAPart ends s t
node_cases ends s t e = elim (or_cases (s == t) (same_part (part_of ends s) (part_of ends t)) e) as (λ _. (s ≡ t) ⊎ ShareAPart ends s t) [
  | inl is ↦ inl (eqb-true s t is)
  | inr share ↦ inr (shared (part_of ends s) (part_of ends t) share)
] where
  shared : (o p : Option ℕ) → same_part o p ≡ true → (i : ℕ) × (o ≡ Some i) × (p ≡ Some i)
  shared None p e = absurd (false≢true e)
  shared (Some i) p e = (i, refl, number-has i p e)

pub node_by : (ends : List (Option ℕ)) (s t : ℕ) → (s ≡ t) ⊎ ShareAPart ends s t → node_test ends s t ≡ true
node_by ends s t (inl is) = or_left (s == t) (same_part (part_of ends s) (part_of ends t)) (eq-eqb s t is)
node_by ends s t (inr w) = or_right (s == t) (same_part (part_of ends s) (part_of ends t)) (ap (λ o. same_part o (part_of ends t)) w.1 ∙ has-number w.0 (part_of ends t) w.2)

module _ (ends : List (Option ℕ)) (nodes : List ℕ) where
  unfoldable pub nodes_test : ℕ → Bool
  nodes_test n = each_below (λ s. each_below (λ t. agree (get_or nodes s 0 == get_or nodes t 0) (node_test ends s t)) n) n

  pub nodes_by_test : length nodes ≡ length ends → is_numbered 0 (map Some nodes) ≡ true → nodes_test (length ends) ≡ true → AreNodes ends nodes
  unfolding nodes_test
  nodes_by_test count numbered e = record {
    count = count;
    same = λ s t hs ht.
        (let a = agreed (get_or nodes s 0 == get_or nodes t 0) (node_test ends s t)
        (each-at (λ t. agree (get_or nodes s 0 == get_or nodes t 0) (node_test ends s t)) (length ends)
        (each-at (λ s. each_below (λ t. agree (get_or nodes s 0 == get_or nodes t 0) (node_test ends s t)) (length ends)) (length ends) e s hs) t ht) in (
          (λ q. node_cases ends s t (sym a ∙ eq-eqb (get_or nodes s 0) (get_or nodes t 0) q)),
          (λ w. eqb-true (get_or nodes s 0) (get_or nodes t 0) (a ∙ node_by ends s t w)),
        ));
    numbered = numbered;
  }

-- nodes can be numbered
shares_back : (ends : List (Option ℕ)) (s t : ℕ) → (s ≡ t) ⊎ ShareAPart ends s t → (t ≡ s) ⊎ ShareAPart ends t s
shares_back ends s t (inl e) = inl (sym e)
shares_back ends s t (inr w) = inr (w.0, w.2, w.1)

shares_on : (ends : List (Option ℕ)) (s t u : ℕ) → (s ≡ t) ⊎ ShareAPart ends s t → (t ≡ u) ⊎ ShareAPart ends t u → (s ≡ u) ⊎ ShareAPart ends s u
shares_on ends s t u (inl e) (inl f) = inl (e ∙ f)
shares_on ends s t u (inl e) (inr w) = inr (w.0, ap (part_of ends) e ∙ w.1, w.2)
shares_on ends s t u (inr v) (inl f) = inr (v.0, v.1, ap (part_of ends) (sym f) ∙ v.2)
shares_on ends s t u (inr v) (inr w) = let same = some-same v.0 w.0 (sym v.2 ∙ w.1) in inr (v.0, v.1, w.2 ∙ ap Some (sym same))

pub nodes_exist : (ends : List (Option ℕ)) → (nodes : List ℕ) × AreNodes ends nodes
nodes_exist ends =
    let w = numbers_for_all (node_test ends) (λ s. node_by ends s s (inl refl)) (λ s t e. node_by ends t s (shares_back ends s t (node_cases ends s t e))) (length ends)
    (λ s t u hs ht hu e f. node_by ends s u (shares_on ends s t u (node_cases ends s t e) (node_cases ends t u f))) in (
      w.0,
      record {
        count = w.1;
        same = λ s t hs ht. (let v = w.2 s t hs ht in ((λ e. node_cases ends s t (v.0 e)), (λ j. v.1 (node_by ends s t j))));
        numbered = w.3;
      },
    )
