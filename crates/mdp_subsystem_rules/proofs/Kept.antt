-- What marks and spread lists say: a claim on the kept states is one on the places of the list.
use Rattle.std.proofs.Common.{◌≡◌, ℕ, zero, suc, ◌+◌, ◌<◌, ◌≤◌, ◌⊎◌, ⊎_elim, replicate, set, take, inl, inr, Bool, true}
use Rattle.std.proofs.Common.{false, true≢false, ◌||◌, cond, eqb, List, [], ◌∷◌, get_or, length, refl, sym, ◌∙◌, ap, subst, arith}
use Rattle.std.proofs.lemmas.List.FromFn.{get_or-map-range_with_len, length-map-range_with_len}
use Rattle.std.proofs.lemmas.Bool.{cases_Bool, cases_eq, cases_lt, eqb-true, eq-eqb, ne_eqb}
use Rattle.std.proofs.lemmas.List.{ext_get_or, length-set, length-replicate, get_or-replicate, get_or-set_same, get_or-set_other}
use Rattle.std.proofs.{lemmas.List.Folds.{list_any_more}, Math.Nat.{le_refl}}
use Rattle.std.specs.{Prelude.{Result, Ok, Err, MatchResult, MatchOption}, Result.{result_ok}, List.{list_any}}
use Rattle.mdp_math.proofs.Booleans.{or-true}
use Rattle.mdp_spec.specs.Tree.{is_marked}
use Rattle.mdp_subsystem_rules.specs.Kept.{is_listed, kept_marks, looked_up, spread, Ascends}

-- ---- by state

pub kept_marks-at : (n : ℕ) (states : List ℕ) (s : ℕ) → s < n → is_marked (kept_marks n states) s ≡ is_listed states s
kept_marks-at n states s h = get_or-map-range_with_len (is_listed states) 0 n s s false h (omega arith)

pub spread-at : {A : Type 0} (n : ℕ) (states : List ℕ) (xs : List A) (none d : A) (s : ℕ) → s < n → get_or (spread n states xs none) s d ≡ looked_up states xs none s
spread-at n states xs none d s h = get_or-map-range_with_len (looked_up states xs none) 0 n s s d h (omega arith)

-- ---- by place

any_later : (a b : Bool) → b ≡ true → a || b ≡ true
any_later true b e = refl
any_later false b e = e

pub listed-at : (states : List ℕ) (i : ℕ) → i < length states → is_listed states (get_or states i 0) ≡ true
listed-at [] i h = absurd (omega arith)
listed-at (k ∷ states) zero h = ap (λ (b : Bool). b || is_listed states k) (eq-eqb k k refl)
listed-at (k ∷ states) (suc i) h = any_later (eqb k (get_or states i 0)) (is_listed states (get_or states i 0)) (listed-at states i (omega arith))

either_is : (a b : Bool) → a || b ≡ true → (a ≡ true) ⊎ (b ≡ true)
either_is true b e = inl refl
either_is false b e = inr e

-- a listed state has a place
pub place_of_listed : (states : List ℕ) (s : ℕ) → is_listed states s ≡ true → (i : ℕ) × (i < length states) × (get_or states i 0 ≡ s)
place_of_listed [] s e = absurd (true≢false (sym e))
place_of_listed (k ∷ states) s e = elim (either_is (eqb k s) (is_listed states s) e) as (λ _. (i : ℕ) × (i < length (k ∷ states)) × (get_or (k ∷ states) i 0 ≡ s)) [
  | inl h ↦ (0, omega arith, eqb-true k s h)
  | inr h ↦ let p = place_of_listed states s h in let l = p.1 in (suc p.0, omega (arith, l), p.2)
]

-- what ascends ascends without its first
ascends-tail : (k : ℕ) (states : List ℕ) → Ascends (k ∷ states) → Ascends states
ascends-tail k states a i j l h = a (suc i) (suc j) (omega (arith, l)) (omega (arith, h))

pub looked_up-at : {A : Type 0} (states : List ℕ) (xs : List A) (none d : A) (i : ℕ) → Ascends states → i < length states
    → length xs ≡ length states → looked_up states xs none (get_or states i 0) ≡ get_or xs i d
looked_up-at [] xs none d i a h e = absurd (omega arith)
looked_up-at (k ∷ states) [] none d i a h e = absurd (omega (arith, e))
looked_up-at (k ∷ states) (x ∷ xs) none d zero a h e = ap (λ (b : Bool). cond b x (looked_up states xs none k)) (eq-eqb k k refl)
looked_up-at (k ∷ states) (x ∷ xs) none d (suc i) a h e =
    let l : k < get_or states i 0 = a 0 (suc i) (omega arith) h in
    ap (λ (b : Bool). cond b x (looked_up states xs none (get_or states i 0))) (ne_eqb k (get_or states i 0) (λ q. omega (arith, l, q)))
    ∙ looked_up-at states xs none d i (ascends-tail k states a) (omega arith) (omega (arith, e))

-- ---- claims

-- what holds at each place holds of each kept state
pub each_kept : (P : ℕ → Type 0) (n : ℕ) (states : List ℕ) → ((i : ℕ) → i < length states → P (get_or states i 0)) → (s : ℕ) → s < n → is_marked (kept_marks n states) s ≡ true → P s
each_kept P n states each s h e = let p = place_of_listed states s (sym (kept_marks-at n states s h) ∙ e) in subst P p.2 (each p.0 p.1)

-- and the other way round
pub each_place : (P : ℕ → Type 0) (n : ℕ) (states : List ℕ) → ((s : ℕ) → s < n → is_marked (kept_marks n states) s ≡ true → P s)
    → (i : ℕ) → i < length states → get_or states i 0 < n → P (get_or states i 0)
each_place P n states each i h l = each (get_or states i 0) l (kept_marks-at n states (get_or states i 0) l ∙ listed-at states i h)

-- ---- marks that are made one after the other

pub length-kept_marks : (n : ℕ) (states : List ℕ) → length (kept_marks n states) ≡ n
length-kept_marks n states = length-map-range_with_len (is_listed states) 0 n

pub kept_marks-none : (n : ℕ) → replicate n false ≡ kept_marks n []
kept_marks-none n =
    ext_get_or false (replicate n false) (kept_marks n []) (length-replicate n false ∙ sym (length-kept_marks n []))
    (λ i l. let h : i < n = subst (λ (k : ℕ). i < k) (length-replicate n false) l in get_or-replicate n i false false h ∙ sym (kept_marks-at n [] i h))

last_mark : (b e : Bool) → e ≡ false → b ≡ b || e
last_mark true e h = refl
last_mark false e h = sym h

pub kept_marks-more : (n : ℕ) (states : List ℕ) (i : ℕ) → i < length states → get_or states i 0 < n → set (kept_marks n (take i states)) (get_or states i 0) true ≡ kept_marks n (take (i + 1) states)
kept_marks-more n states i h inside =
    let s = get_or states i 0 in
    let before = kept_marks n (take i states) in
    ext_get_or false (set before s true) (kept_marks n (take (i + 1) states)) (length-set before s true ∙ length-kept_marks n (take i states) ∙ sym (length-kept_marks n (take (i + 1) states)))
    (λ j l.
    let at : j < n = subst (λ (k : ℕ). j < k) (length-set before s true ∙ length-kept_marks n (take i states)) l in
    let more = kept_marks-at n (take (i + 1) states) j at ∙ list_any_more (λ k. eqb k j) states i 0 h in
    ⊎_elim
    (λ same. ap (λ (k : ℕ). get_or (set before s true) k false) same
    ∙ get_or-set_same before s true false (subst (λ (k : ℕ). s < k) (sym (length-kept_marks n (take i states))) inside)
    ∙ sym (more ∙ ap (λ (b : Bool). list_any (λ k. eqb k j) (take i states) || b) (eq-eqb s j (sym same)) ∙ or-true (list_any (λ k. eqb k j) (take i states))))
    (λ other. get_or-set_other before s j true false other ∙ kept_marks-at n (take i states) j at
    ∙ last_mark (is_listed (take i states) j) (eqb s j) (ne_eqb s j (λ e. other (sym e))) ∙ sym more)
    (cases_eq j s))

-- ---- the place of a state

-- what ascends strictly ascends
pub ascends-le : (states : List ℕ) → Ascends states → (i j : ℕ) → i ≤ j → j < length states → get_or states i 0 ≤ get_or states j 0
ascends-le states a i j le h = elim (cases_eq i j) as (λ _. get_or states i 0 ≤ get_or states j 0) [
  | inl e ↦ subst (λ (k : ℕ). get_or states i 0 ≤ get_or states k 0) e (le_refl (get_or states i 0))
  | inr n ↦ let less : i < j = omega (arith, le, n) in let l = a i j less h in omega (arith, l)
]

-- the place that a search in an ascending list finds, or that the state isn't in it
pub place_of_search : (states : List ℕ) (s : ℕ) (r : Result ℕ ℕ)
    → MatchResult r (λ i. (i < length states) × (get_or states i 0 ≡ s))
    (λ i. (i ≤ length states) × ((k : ℕ) → k < i → get_or states k 0 < s) × ((k : ℕ) → i ≤ k → k < length states → s < get_or states k 0))
    → MatchOption (result_ok r) (is_listed states s ≡ false) (λ i. (i < length states) × (get_or states i 0 ≡ s))
place_of_search states s (Ok i) found = found
place_of_search states s (Err i) missed =
    ⊎_elim
    (λ e.
    let p = place_of_listed states s e in
    ⊎_elim (λ l. let less = missed.1 p.0 l in absurd (omega (arith, less, p.2))) (λ l. let more = missed.2 p.0 l p.1 in absurd (omega (arith, more, p.2))) (cases_lt p.0 i))
    (λ e. e) (cases_Bool (is_listed states s))
