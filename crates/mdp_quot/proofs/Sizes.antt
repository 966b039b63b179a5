-- The quotient of a model has no more nodes than the model has states, and a node no more exits than the model has choices.
use Rattle.std.proofs.Common.{◌≡◌, ℕ, ◌<◌, ◌≤◌, ◌+◌, Bool, inl, inr, true, false, List, [], ◌∷◌, length, map, filter, get_or, refl, sym, ◌∙◌, ap}
use Rattle.std.proofs.{Common.{ap₂, not, ◌&&◌, ◌==◌, arith, cond, nat_lt, ◌^◌, Option, Some, None}, lemmas.Bool.{cases_Bool}}
use Rattle.std.proofs.{lemmas.List.{length-append, length-map}, lemmas.List.Sums.{sum_by-cons}, lemmas.List.FromFn.{length-map-range_with_len, fill_by_all}}
use Rattle.std.specs.List.{range_with_len, flat_map, sum_by}
use Rattle.mdp_spec.specs.Mdp.{Mdp, State, no_state, states_of, choices_at}
use Rattle.mdp_rows.specs.{Preds.{pair, choices_of, choices_below}, declared.preds.Pred.{Pred}}
use Rattle.mdp_ends.specs.{Ends.{is_inside}, Numbers.{count_from}, Quotient.{nodes_in}}
use Rattle.mdp_quot.proofs.{Selected.{are_selected}, QuotientFound.{shaped}}
use Rattle.mdp_quot.specs.{Quotient.{Quotient, IsShaped}, OfModel.{IsOfModel}, Sizes.{HasFewExits}}

-- ---- lists

fewer : {X : Type 0} (p : X → Bool) (xs : List X) → length (filter p xs) ≤ length xs
fewer p [] = omega arith
fewer p (x ∷ xs) =
    let h = fewer p xs in
    elim (cases_Bool (p x)) as (λ _. length (filter p (x ∷ xs)) ≤ length (x ∷ xs)) [
      | inl t ↦ rw t (omega (arith, h))
      | inr f ↦ rw f (omega (arith, h))
    ]

length-flat_map : {A X : Type 0} (f : A → List X) (xs : List A) → length (flat_map f xs) ≡ sum_by (λ a. length (f a)) xs
length-flat_map f [] = refl
length-flat_map f (x ∷ xs) =
    length-append (f x) (flat_map f xs) ∙ ap (λ (n : ℕ). length (f x) + n) (length-flat_map f xs) ∙ sym (sum_by-cons (λ a. length (f a)) x xs)

sum-map : {A B : Type 0} (g : B → ℕ) (f : A → B) (h : A → ℕ) (xs : List A) → ((x : A) → h x ≡ g (f x)) → sum_by h xs ≡ sum_by g (map f xs)
sum-map g f h [] same = refl
sum-map g f h (x ∷ xs) same =
    let e = same x in let r = sum-map g f h xs same in sum_by-cons h x xs ∙ ap₂ (λ (a b : ℕ). a + b) e r ∙ sym (sum_by-cons g (f x) (map f xs))

-- ---- the choices of a model

all_choices : (m : Mdp) → length (choices_below m (states_of m)) ≡ sum_by (λ (x : State). length x.choices) m.states
all_choices m =
    length-flat_map (choices_of m) (range_with_len 0 (states_of m))
    ∙ sum-map (λ (x : State). length x.choices) (λ (s : ℕ). get_or m.states s no_state) (λ (s : ℕ). length (choices_of m s)) (range_with_len 0 (states_of m))
    (λ s. length-map-range_with_len (pair s) 0 (length (choices_at m s)))
    ∙ ap (sum_by (λ (x : State). length x.choices)) (sym (fill_by_all (λ s. get_or m.states s no_state) m.states (states_of m) no_state refl (λ s l. refl)))

-- ---- nodes

number_by : (next : ℕ) (xs : List (Option ℕ)) (b : Bool) → count_from next xs ≤ next + length xs → count_from (next + 1) xs ≤ next + 1 + length xs
    → cond b (count_from next xs) (count_from (next + 1) xs) ≤ next + (length xs + 1)
number_by next xs true h k = omega (arith, h)
number_by next xs false h k = omega (arith, k)

numbers : (next : ℕ) (xs : List (Option ℕ)) → count_from next xs ≤ next + length xs
numbers next [] = omega arith
numbers next (None ∷ xs) = omega (arith, numbers next xs)
numbers next (Some i ∷ xs) = omega (arith, number_by next xs (nat_lt i next) (numbers next xs) (numbers (next + 1) xs))

-- ---- the quotient of a model

pub few_nodes : (q : Quotient) (of : IsOfModel q) → nodes_in q.nodes < 2 ^ 32
few_nodes q of =
    let h = numbers 0 (map Some q.nodes) in
    let n = of.quotient.nodes.count in
    let s = of.ends.count in
    let few = of.model.mdp.few in
    omega (arith, h, length-map q.nodes Some, n, s, few)

pub is_shaped : (q : Quotient) → IsOfModel q → IsShaped q
is_shaped q of = shaped of.m of.model.mdp of.parts of.ends q of.quotient (few_nodes q of)

pub few_exits : (q : Quotient) → IsOfModel q → HasFewExits q
few_exits q of k l =
    let a = are_selected of.m of.parts q of.quotient in
    let e = ap length (a.exits k (omega (arith, l, a.count))) in
    let h = fewer (λ (x : Pred). (get_or q.nodes x.state 0 == k) && not (is_inside of.m of.parts x.state x.choice)) (choices_below of.m (states_of of.m)) in
    let n = all_choices of.m in
    let few = of.model.few_choices in
    omega (arith, e, h, n, few)
