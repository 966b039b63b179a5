-- Lists of a small component for the numbers of the big one: at a state there is the entry of its place, at any other number 0.
use Rattle.std.proofs.Common.{◌≡◌, ◌≢◌, ℕ, zero, suc, ◌<◌, ◌≤◌, ◌⊎◌, inl, inr, ◌==◌, List, [], ◌∷◌, length, map, get_or}
use Rattle.std.proofs.Common.{refl, sym, ◌∙◌, ap, subst, arith, pos, zero-add}
use Rattle.std.proofs.lemmas.Bool.{cases_lt, cases_order, cases_eq, eq-eqb, ne_eqb, cond-true, cond-false}
use Rattle.std.proofs.{lemmas.List.{get_or_default, get_or_past, same_lists}, lemmas.List.FromFn.{get_or-map-range_with_len, length-map-range_with_len}}
use Rattle.std.specs.{List.{range_with_len}, Prelude.{slice_index}}
use Rattle.mdp_math.specs.Rational.{ℚ, of_int}
use Rattle.mdp_spec.specs.Mdp.{value_at}
use Rattle.mdp_gain.specs.{Best.{entry_of}, Alone.{place_in}, Renumbering.{Ascend, spread, spread_values}}

-- ---- numbers that ascend

-- a number isn't in the list
abbrev pub IsUnlisted : List ℕ → ℕ → Type 0
IsUnlisted states s = (j : ℕ) → j < length states → slice_index states j ≢ s

pub Ascend-tail : (t : ℕ) (states : List ℕ) → Ascend (t ∷ states) → Ascend states
Ascend-tail t states a j k l m = a (suc j) (suc k) (omega arith) (omega arith)

pub place-unique : (states : List ℕ) → Ascend states → (j k : ℕ) → j < length states → k < length states → slice_index states j ≡ slice_index states k → j ≡ k
place-unique states a j k l m e = elim (cases_order j k) as (λ _. j ≡ k) [
  | inl same ↦ same
  | inr (inl before) ↦ absurd (let i = a j k before m in omega arith)
  | inr (inr after) ↦ absurd (let i = a k j after l in omega arith)
]

-- a later place has a greater number, and no earlier one has
pub ascend-le : (states : List ℕ) → Ascend states → (j k : ℕ) → j ≤ k → k < length states → slice_index states j ≤ slice_index states k
ascend-le states a j k l m = elim (cases_order j k) as (λ _. slice_index states j ≤ slice_index states k) [
  | inl same ↦ subst (λ (i : ℕ). slice_index states j ≤ slice_index states i) same (omega arith)
  | inr (inl before) ↦ (let i = a j k before m in omega arith)
  | inr (inr after) ↦ absurd (omega arith)
]

-- a number is in the list, at a place, or isn't
pub listed-or : (states : List ℕ) (s : ℕ) → ((j : ℕ) × (j < length states) × (slice_index states j ≡ s)) ⊎ IsUnlisted states s
listed-or [] s = inr (λ j l. absurd (omega arith))
listed-or (t ∷ states) s = elim (cases_eq t s) as (λ _. ((j : ℕ) × (j < length (t ∷ states)) × (slice_index (t ∷ states) j ≡ s)) ⊎ IsUnlisted (t ∷ states) s) [
  | inl here ↦ inl (0, omega arith, here)
  | inr not_here ↦ elim (listed-or states s) as (λ _. ((j : ℕ) × (j < length (t ∷ states)) × (slice_index (t ∷ states) j ≡ s)) ⊎ IsUnlisted (t ∷ states) s) [
    | inl w ↦ inl (suc w.0, omega (arith, w.1), w.2)
    | inr none ↦ inr (both not_here none)
  ]
]
  where
    both : t ≢ s → IsUnlisted states s → IsUnlisted (t ∷ states) s
    both o none zero l = o
    both o none (suc j) l = none j (omega arith)

-- ---- the place of a number

pub place_in-at : (states : List ℕ) → Ascend states → (j : ℕ) → j < length states → place_in states (slice_index states j) ≡ j
place_in-at [] a j l = absurd (omega arith)
place_in-at (t ∷ states) a zero l = cond-true (t == t) 0 (suc (place_in states t)) (eq-eqb t t refl)
place_in-at (t ∷ states) a (suc j) l =
    cond-false (t == slice_index states j) 0 (suc (place_in states (slice_index states j)))
    (ne_eqb t (slice_index states j) (λ e. let i = a 0 (suc j) (omega arith) l in omega arith))
    ∙ ap suc (place_in-at states (Ascend-tail t states a) j (omega arith))

-- past the end where it isn't in the list
pub place_in-past : (states : List ℕ) (s : ℕ) → IsUnlisted states s → place_in states s ≡ length states
place_in-past [] s h = refl
place_in-past (t ∷ states) s h =
    cond-false (t == s) 0 (suc (place_in states s)) (ne_eqb t s (h 0 (omega arith))) ∙ ap suc (place_in-past states s (λ j l. h (suc j) (omega arith)))

-- ---- the entries of a list of any kind

-- where a place has the number, its entry
pub entry-at : {A : Type 0} (d e : A) (states : List ℕ) (xs : List A) → Ascend states → (j : ℕ) → j < length states → length states ≤ length xs
    → entry_of d states xs (slice_index states j) ≡ get_or xs j e
entry-at d e [] xs a j l k = absurd (omega arith)
entry-at d e (t ∷ states) [] a j l k = absurd (omega arith)
entry-at d e (t ∷ states) (x ∷ xs) a zero l k = cond-true (t == t) x (entry_of d states xs t) (eq-eqb t t refl)
entry-at d e (t ∷ states) (x ∷ xs) a (suc j) l k =
    cond-false (t == slice_index states j) x (entry_of d states xs (slice_index states j))
    (ne_eqb t (slice_index states j) (λ e. let i = a 0 (suc j) (omega arith) l in omega arith))
    ∙ entry-at d e states xs (Ascend-tail t states a) j (omega arith) (omega arith)

-- where none has it, the default
pub entry-other : {A : Type 0} (d : A) (states : List ℕ) (xs : List A) (s : ℕ) → IsUnlisted states s → entry_of d states xs s ≡ d
entry-other d [] xs s h = refl
entry-other d (t ∷ states) [] s h = refl
entry-other d (t ∷ states) (x ∷ xs) s h =
    cond-false (t == s) x (entry_of d states xs s) (ne_eqb t s (h 0 (omega arith))) ∙ entry-other d states xs s (λ j l. h (suc j) (omega arith))

-- one entry for each number below n
abbrev pub entries : {A : Type 0} → A → List ℕ → ℕ → List A → List A
entries d states n xs = map (entry_of d states xs) (range_with_len 0 n)

pub entries-length : {A : Type 0} (d : A) (states : List ℕ) (n : ℕ) (xs : List A) → length (entries d states n xs) ≡ n
entries-length d states n xs = length-map-range_with_len (entry_of d states xs) 0 n

pub entries-at : {A : Type 0} (d e : A) (states : List ℕ) (n : ℕ) (xs : List A) → Ascend states → (j : ℕ) → j < length states → length states ≤ length xs
    → slice_index states j < n → get_or (entries d states n xs) (slice_index states j) e ≡ get_or xs j e
entries-at d e states n xs a j l k b =
    get_or-map-range_with_len (entry_of d states xs) 0 n (slice_index states j) (slice_index states j) e b (zero-add (slice_index states j))
    ∙ entry-at d e states xs a j l k

pub entries-other : {A : Type 0} (d : A) (states : List ℕ) (n : ℕ) (xs : List A) (s : ℕ) → IsUnlisted states s → get_or (entries d states n xs) s d ≡ d
entries-other d states n xs s h = elim (cases_lt s n) as (λ _. get_or (entries d states n xs) s d ≡ d) [
  | inl below ↦ get_or-map-range_with_len (entry_of d states xs) 0 n s s d below (zero-add s) ∙ entry-other d states xs s h
  | inr past ↦ get_or_past (entries d states n xs) s d (let m = entries-length d states n xs in omega arith)
]

-- lists that are d past the places of the states are the same where their entries are
pub entries-same : {A : Type 0} (d : A) (states : List ℕ) (n : ℕ) (xs ys : List A) → Ascend states → ((j : ℕ) → j < length states → slice_index states j < n)
    → length xs ≡ length ys → length states ≤ length xs → ((j : ℕ) → length states ≤ j → j < length xs → (get_or xs j d ≡ d) × (get_or ys j d ≡ d))
    → entries d states n xs ≡ entries d states n ys → xs ≡ ys
entries-same {A} d states n xs ys a below len few rest e = same_lists xs ys len
    (λ j c l. get_or_default xs j c d l ∙ at j (cases_lt j (length states)) l ∙ get_or_default ys j d c (omega (arith, len, l)))
  where
    at : (j : ℕ) → (j < length states) ⊎ (length states ≤ j) → j < length xs → get_or xs j d ≡ get_or ys j d
    at j (inr past) l = (rest j past l).0 ∙ sym (rest j past l).1
    at j (inl k) l =
        sym (entries-at d d states n xs a j k few (below j k)) ∙ ap (λ (zs : List A). get_or zs (slice_index states j) d) e
        ∙ entries-at d d states n ys a j k (omega (arith, len, few)) (below j k)

-- ---- policies

pub spread-length : (states : List ℕ) (n : ℕ) (policy : List ℕ) → length (spread states n policy) ≡ n
spread-length states n policy = entries-length 0 states n policy

pub spread-at : (states : List ℕ) (n : ℕ) (policy : List ℕ) → Ascend states → (j : ℕ) → j < length states → length states ≤ length policy
    → slice_index states j < n → slice_index (spread states n policy) (slice_index states j) ≡ slice_index policy j
spread-at states n policy a j l k b = entries-at 0 0 states n policy a j l k b

pub spread-other : (states : List ℕ) (n : ℕ) (policy : List ℕ) (s : ℕ) → IsUnlisted states s → slice_index (spread states n policy) s ≡ 0
spread-other states n policy s h = entries-other 0 states n policy s h

pub spread-same : (states : List ℕ) (n : ℕ) (p q : List ℕ) → Ascend states → ((j : ℕ) → j < length states → slice_index states j < n) → length p ≡ length q
    → length states ≤ length p → ((j : ℕ) → length states ≤ j → j < length p → (slice_index p j ≡ 0) × (slice_index q j ≡ 0))
    → spread states n p ≡ spread states n q → p ≡ q
spread-same states n p q a below len few rest e = entries-same 0 states n p q a below len few rest e

-- ---- values

pub spread_values-at : (states : List ℕ) (n : ℕ) (values : List ℚ) → Ascend states → (j : ℕ) → j < length states → length states ≤ length values
    → slice_index states j < n → value_at (spread_values states n values) (slice_index states j) ≡ value_at values j
spread_values-at states n values a j l k b = entries-at (of_int (pos 0)) (of_int (pos 0)) states n values a j l k b
