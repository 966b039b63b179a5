-- The states of a part: they ascend, they are the states that have the part's number, and each is found at its place.
use Rattle.std.proofs.Common.{◌≡◌, ◌⊎◌, inl, inr, ℕ, ◌+◌, ◌<◌, Bool, true, ◌||◌, ◌==◌, List, [], ◌∷◌, length, filter, Option, refl, sym, ap, ◌∙◌, arith}
use Rattle.std.proofs.lemmas.Bool.{false≢true, cases_Bool, cases_order, eqb-true, eq-eqb, or_left, or_right}
use Rattle.std.proofs.{lemmas.List.Elements.{All-filter, All-from_get_or, filter_passes}, lemmas.List.FromFn.{length-range_with_len, get_or-range_with_len}}
use Rattle.std.proofs.lemmas.List.Kept.{AllPairs-from_increasing, IsStrictlyIncreasing-filter}
use Rattle.std.specs.{Prelude.{slice_index}, List.{All, list_any, range_with_len}, List.Sorted.{IsStrictlyIncreasing}}
use Rattle.mdp_spec.specs.Mdp.{Mdp, states_of}
use Rattle.mdp_ends.specs.Ends.{in_part}
use Rattle.mdp_ends.proofs.Walking.{range-any}
use Rattle.mdp_unichain.specs.Part.{members}
use Rattle.mdp_gain.specs.{Renumbering.{Ascend}, Alone.{place_in}}

-- ---- places in a list

pub place-found : (xs : List ℕ) (s : ℕ) → list_any (λ t. t == s) xs ≡ true → (place_in xs s < length xs) × (slice_index xs (place_in xs s) ≡ s)
place-found [] s h = absurd (false≢true h)
place-found (t ∷ xs) s h = elim (cases_Bool (t == s)) as (λ _. (place_in (t ∷ xs) s < length (t ∷ xs)) × (slice_index (t ∷ xs) (place_in (t ∷ xs) s) ≡ s)) [
  | inl e ↦ rw e (omega arith, eqb-true t s e)
  | inr e ↦ (let rest = place-found xs s (sym (ap (λ b. b || list_any (λ t. t == s) xs) e) ∙ h) in rw e (omega (arith, rest.0), rest.1))
]

same_by : (xs : List ℕ) → Ascend xs → (j k : ℕ) → j < length xs → k < length xs → slice_index xs j ≡ slice_index xs k → (j ≡ k) ⊎ ((j < k) ⊎ (k < j)) → j ≡ k
same_by xs up j k hj hk e (inl same) = same
same_by xs up j k hj hk e (inr (inl less)) = let l = up j k less hk in absurd (omega (arith, l, e))
same_by xs up j k hj hk e (inr (inr more)) = let l = up k j more hj in absurd (omega (arith, l, e))

-- in an ascending list each number stands once
pub ascend-same : (xs : List ℕ) → Ascend xs → (j k : ℕ) → j < length xs → k < length xs → slice_index xs j ≡ slice_index xs k → j ≡ k
ascend-same xs up j k hj hk e = same_by xs up j k hj hk e (cases_order j k)

below_by : (xs : List ℕ) → Ascend xs → (j k : ℕ) → j < length xs → k < length xs → slice_index xs j < slice_index xs k → (j ≡ k) ⊎ ((j < k) ⊎ (k < j)) → j < k
below_by xs up j k hj hk l (inl same) = let e = ap (slice_index xs) same in absurd (omega (arith, l, e))
below_by xs up j k hj hk l (inr (inl less)) = less
below_by xs up j k hj hk l (inr (inr more)) = let b = up k j more hj in absurd (omega (arith, l, b))

-- and a smaller number stands before a greater one
pub ascend-before : (xs : List ℕ) → Ascend xs → (j k : ℕ) → j < length xs → k < length xs → slice_index xs j < slice_index xs k → j < k
ascend-before xs up j k hj hk l = below_by xs up j k hj hk l (cases_order j k)

-- ---- the states of a part

-- what passes the test stays
pub filter-has : (p : ℕ → Bool) (xs : List ℕ) (s : ℕ) → p s ≡ true → list_any (λ t. t == s) xs ≡ true → list_any (λ t. t == s) (filter p xs) ≡ true
filter-has p [] s e h = absurd (false≢true h)
filter-has p (x ∷ xs) s e h = elim (cases_Bool (x == s)) as (λ _. list_any (λ t. t == s) (filter p (x ∷ xs)) ≡ true) [
  | inl same ↦ (let own : p x ≡ true = ap p (eqb-true x s same) ∙ e in rw own (or_left (x == s) (list_any (λ t. t == s) (filter p xs)) same))
  | inr other ↦
      (let rest = filter-has p xs s e (sym (ap (λ b. b || list_any (λ t. t == s) xs) other) ∙ h) in
      elim (cases_Bool (p x)) as (λ _. list_any (λ t. t == s) (filter p (x ∷ xs)) ≡ true) [
        | inl own ↦ rw own (or_right (x == s) (list_any (λ t. t == s) (filter p xs)) rest)
        | inr out ↦ rw out rest
      ])
]

range_increasing : (n : ℕ) → IsStrictlyIncreasing (range_with_len 0 n)
range_increasing n k h =
    let len = length-range_with_len 0 n in
    let a = get_or-range_with_len 0 n k 0 (omega (arith, h, len)) in
    let b = get_or-range_with_len 0 n (k + 1) 0 (omega (arith, h, len)) in
    omega (arith, a, b)

pub range_below : (n : ℕ) → All (λ s. s < n) (range_with_len 0 n)
range_below n = All-from_get_or (λ s. s < n) (range_with_len 0 n) 0 (λ k h.
    let len = length-range_with_len 0 n in
    let l : k < n = omega (arith, h, len) in
    let e = get_or-range_with_len 0 n k 0 l in
    omega (arith, e, l))

module _ (m : Mdp) (parts : List (Option ℕ)) (i : ℕ) where
  abbrev states : List ℕ
  states = members m parts i

  pub members-ascend : Ascend (members m parts i)
  members-ascend j k less l =
      let up = IsStrictlyIncreasing-filter (in_part parts i) (range_with_len 0 (states_of m)) (range_increasing (states_of m)) in
      AllPairs-from_increasing states up j k 0 less l

  pub listed-below : (j : ℕ) → j < length (members m parts i) → slice_index (members m parts i) j < states_of m
  listed-below j l = All-filter (in_part parts i) (λ s. s < states_of m) (range_with_len 0 (states_of m)) (range_below (states_of m)) j 0 l

  pub listed-in : (j : ℕ) → j < length (members m parts i) → in_part parts i (slice_index (members m parts i) j) ≡ true
  listed-in j l = filter_passes (in_part parts i) (range_with_len 0 (states_of m)) j 0 l

  -- a state of the part stands at its place
  place-is : (s : ℕ) → s < states_of m → in_part parts i s ≡ true → (place_in states s < length states) × (slice_index states (place_in states s) ≡ s)
  place-is s l e =
      let any = range-any (λ t. t == s) (states_of m) s l (eq-eqb s s refl) in
      place-found states s (filter-has (in_part parts i) (range_with_len 0 (states_of m)) s e any)

  pub place-below : (s : ℕ) → s < states_of m → in_part parts i s ≡ true → place_in (members m parts i) s < length (members m parts i)
  place-below s l e = (place-is s l e).0

  pub at_place : (s : ℕ) → s < states_of m → in_part parts i s ≡ true → slice_index (members m parts i) (place_in (members m parts i) s) ≡ s
  at_place s l e = (place-is s l e).1

  pub place_of_listed : (j : ℕ) → j < length (members m parts i) → place_in (members m parts i) (slice_index (members m parts i) j) ≡ j
  place_of_listed j l =
      let p = place-is (slice_index states j) (listed-below j l) (listed-in j l) in
      ascend-same states members-ascend (place_in states (slice_index states j)) j p.0 l p.1

  -- a smaller state of the part has a smaller place
  pub place-lt : (s t : ℕ) → s < states_of m → in_part parts i s ≡ true → t < states_of m → in_part parts i t ≡ true → s < t
      → place_in (members m parts i) s < place_in (members m parts i) t
  place-lt s t ls es lt et l =
      let p = place-is s ls es in
      let q = place-is t lt et in
      ascend-before states members-ascend (place_in states s) (place_in states t) p.0 q.0 (omega (arith, p.1, q.1, l))
