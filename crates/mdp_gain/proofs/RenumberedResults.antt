-- Computations of two components that are one but for the numbers: they give the same, or stop at the same place.
use Rattle.std.proofs.Common.{◌≡◌, ℕ, zero, suc, ◌<◌, ◌≤◌, ◌⊎◌, inl, inr, Bool, true, false, ◌==◌, if◌then◌else◌, List, [], ◌∷◌, ◌++◌, length, map, get_or}
use Rattle.std.proofs.{Common.{Option, Some, None, Result, Ok, Err, refl, sym, ◌∙◌, ap, subst, arith}, lemmas.Bool.{eq-eqb, ne_eqb, cond-true, cond-false}}
use Rattle.std.specs.{List.{range_with_len}, Prelude.{slice_index}}
use Rattle.mdp_math.specs.Result.{◌>>=◌}
use Rattle.mdp_math.proofs.Numbers.{le_or}
use Rattle.mdp_policy_iteration.specs.Places.{Place, at_place, up_to}
use Rattle.mdp_policy_iteration.proofs.{Answering.{up_to-refused}, Results.{IsUpTo, up_to-is}}
use Rattle.mdp_gain.specs.{Best.{entry_of}, Renumbering.{Ascend, place_there, result_there}}
use Rattle.mdp_gain.proofs.{OnlyState.{up_to-listed}, Spread.{IsUnlisted, Ascend-tail, ascend-le, listed-or, entry-other}}

-- a number stands in the list
abbrev IsListed : List ℕ → ℕ → Type 0
IsListed states s = (j : ℕ) × (j < length states) × (slice_index states j ≡ s)

-- where a place has the number, its entry; the list may end behind it
entry-before : {A : Type 0} (d : A) (states : List ℕ) (xs : List A) → Ascend states → (j : ℕ) → j < length states → j < length xs
    → entry_of d states xs (slice_index states j) ≡ get_or xs j d
entry-before d [] xs a j l m = absurd (omega arith)
entry-before d (t ∷ states) [] a j l m = absurd (omega arith)
entry-before d (t ∷ states) (x ∷ xs) a zero l m = cond-true (t == t) x (entry_of d states xs t) (eq-eqb t t refl)
entry-before d (t ∷ states) (x ∷ xs) a (suc j) l m =
    cond-false (t == slice_index states j) x (entry_of d states xs (slice_index states j))
    (ne_eqb t (slice_index states j) (λ e. let i = a 0 (suc j) (omega arith) l in omega arith))
    ∙ entry-before d states xs (Ascend-tail t states a) j (omega arith) (omega arith)

-- ---- single steps

-- a term that is past width at a place of the small component is past width there in the big one
pub place-there : {A : Type 0} (states : List ℕ) (r : Place) (o : Option A) → at_place (place_there states r) o ≡ result_there (λ x. x) states (at_place r o)
place-there states r None = refl
place-there states r (Some x) = refl

-- one computation after the other
pub then-there : {A B C D : Type 0} (f : A → B) (g : C → D) (states : List ℕ) (r : Result A Place) (q : Result B Place)
    (k : A → Result C Place) (l : B → Result D Place) → q ≡ result_there f states r → ((x : A) → r ≡ Ok x → l (f x) ≡ result_there g states (k x))
    → (q >>= l) ≡ result_there g states (r >>= k)
then-there f g states (Ok x) q k l e h = ap (λ (o : Result _ Place). o >>= l) e ∙ h x refl
then-there f g states (Err w) q k l e h = ap (λ (o : Result _ Place). o >>= l) e

-- one of two computations, by the same test
pub if-there : {A B : Type 0} (f : A → B) (states : List ℕ) (a b : Bool) → b ≡ a → (r d : Result A Place) (q e : Result B Place)
    → q ≡ result_there f states r → e ≡ result_there f states d → (if b then q else e) ≡ result_there f states (if a then r else d)
if-there f states true true same r d q e h k = h
if-there f states true false same r d q e h k = cc
if-there f states false true same r d q e h k = cc
if-there f states false false same r d q e h k = k

-- where the test fails, the second of two
pub taken-false : {A : Type 0} (b : Bool) → b ≡ false → (x y : A) → (if b then x else y) ≡ y
taken-false true h x y = cc
taken-false false h x y = refl

-- ---- all numbers in turn

-- the first refusal below m, and what was given before it
pub record IsFirstRefusal {A R : Type 0} (g : ℕ → Result A R) (m : ℕ) (w : R) : Type 0 where
  pub number : ℕ
  pub below : number < m
  pub before : List A
  pub given : up_to g number ≡ Ok before
  pub refused : g number ≡ Err w

module _ {A R : Type 0} (g : ℕ → Result A R) where
  last_refused : (m : ℕ) (w : R) (xs : List A) (r : Result A R) → g m ≡ r → up_to g m ≡ Ok xs → (r >>= (λ x. Ok (xs ++ x ∷ []))) ≡ Err w
      → IsFirstRefusal g (suc m) w
  last_refused m w xs (Ok x) e h k = cc
  last_refused m w xs (Err v) e h k = let same : v ≡ w = cc in record { number = m; below = omega arith; before = xs; given = h; refused = e ∙ ap Err same }

  first_by : (m : ℕ) (w : R) (r : Result (List A) R) → up_to g m ≡ r → (r >>= (λ xs. g m >>= (λ x. Ok (xs ++ x ∷ [])))) ≡ Err w
      → (up_to g m ≡ Err w → IsFirstRefusal g m w) → IsFirstRefusal g (suc m) w
  first_by m w (Ok xs) e h k = last_refused m w xs (g m) refl e h
  first_by m w (Err v) e h k =
      let same : v ≡ w = cc in
      let i = k (e ∙ ap Err same) in
      let l = i.below in record { number = i.number; below = omega (arith, l); before = i.before; given = i.given; refused = i.refused }

  -- a refusal is that of a number, and none below it is refused
  pub first_refusal : (m : ℕ) (w : R) → up_to g m ≡ Err w → IsFirstRefusal g m w
  first_refusal zero w h = cc
  first_refusal (suc m) w h = first_by m w (up_to g m) refl h (first_refusal m w)

module _ {A : Type 0} (d : A) (states : List ℕ) (ascend : Ascend states) (f g : ℕ → Result A Place)
    (same : (j : ℕ) → j < length states → f (slice_index states j) ≡ result_there (λ x. x) states (g j))
    (n m : ℕ) (below : (j : ℕ) → j < length states → slice_index states j < n) (few : length states ≤ m)
    (other : (s : ℕ) → s < n → IsUnlisted states s → f s ≡ Ok d) (outside : (j : ℕ) → length states ≤ j → g j ≡ Ok d) where
  -- what f gives below n, where its listed numbers are places below k
  made_by : (k : ℕ) (xs : List A) → IsUpTo g k xs → (s : ℕ) → s < n → ((j : ℕ) → j < length states → slice_index states j ≡ s → j < k)
      → IsListed states s ⊎ IsUnlisted states s → f s ≡ Ok (entry_of d states xs s)
  made_by k xs h s l within (inl (j, i, e)) =
      let at : j < k = within j i e in
      let len = h.len in
      subst (λ (u : ℕ). f u ≡ Ok (entry_of d states xs u)) e
      (same j i ∙ ap (result_there (λ x. x) states) (h.at j d at) ∙ ap Ok (sym (entry-before d states xs ascend j i (omega (arith, at, len)))))
  made_by k xs h s l within (inr far) = other s l far ∙ ap Ok (sym (entry-other d states xs s far))

  -- where g gives a list f gives it, spread
  all_made : (xs : List A) → up_to g m ≡ Ok xs → up_to f n ≡ Ok (map (entry_of d states xs) (range_with_len 0 n))
  all_made xs e = up_to-listed f (entry_of d states xs) n (λ s l. made_by m xs (up_to-is g m xs e) s l (λ j i _. omega (arith, i, few)) (listed-or states s))

  -- places of smaller numbers are smaller
  before_place : (j k : ℕ) → j < length states → k < length states → slice_index states j < slice_index states k → (k ≤ j) ⊎ (j < k) → j < k
  before_place j k i l less (inr lt) = lt
  before_place j k i l less (inl le) = absurd (let u = ascend-le states ascend k j le i in omega (arith, u, less))

  -- where g is refused at a place f is refused at its number
  refused_in : (w : Place) (i : IsFirstRefusal g m w) → (length states ≤ i.number) ⊎ (i.number < length states) → up_to f n ≡ Err (place_there states w)
  refused_in w i (inl past) = absurd (let e : g i.number ≡ Ok d = outside i.number past in let k = i.refused in cc)
  refused_in w i (inr l) =
      let s : ℕ = slice_index states i.number in
      let inside : s < n = below i.number l in
      up_to-refused f s n (map (entry_of d states i.before) (range_with_len 0 s)) (place_there states w)
      (up_to-listed f (entry_of d states i.before) s
      (λ u less. made_by i.number i.before (up_to-is g i.number i.before i.given) u (omega (arith, less, inside))
      (λ j k e. before_place j i.number k l (subst (λ (v : ℕ). v < s) (sym e) less) (le_or i.number j)) (listed-or states u)))
      (same i.number l ∙ ap (result_there (λ x. x) states) i.refused) inside

  by_result : (r : Result (List A) Place) → up_to g m ≡ r → up_to f n ≡ result_there (λ xs. map (entry_of d states xs) (range_with_len 0 n)) states r
  by_result (Ok xs) e = all_made xs e
  by_result (Err w) e = let i = first_refusal g m w e in refused_in w i (le_or (length states) i.number)

  -- f gives at the numbers of a list what g gives at their places, and d at all others: the lists are one, spread, or the first refusals are
  pub up_to-there : up_to f n ≡ result_there (λ xs. map (entry_of d states xs) (range_with_len 0 n)) states (up_to g m)
  up_to-there = by_result (up_to g m) refl
