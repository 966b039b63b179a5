-- The places of labels, in order of first sight, when a state is given one more.
use Rattle.std.proofs.Common.{◌≡◌, ℕ, ◌+◌, ◌≤◌, ◌<◌, Bool, true, false, IsTrue, ltb, lt-ltb, eqb, eqb→eq, eq-eqb, T, List, [], ◌∷◌, ◌++◌, length, refl, sym, ap, subst}
use Rattle.std.proofs.{Common.{◌∙◌, arith, if◌then◌else◌, inl, inr}, lemmas.Bool.{ne_eqb, cases_eq}}
use borrow.Author.Tests.{ltb-true, ltb-false, eqb-false}
use Rattle.mdp_math.proofs.Booleans.{and-both, and-left, and-right}
use Rattle.mdp_spec.specs.Mdp.{State}
use Rattle.mdp_rows.specs.{Draft.{with_place}, Limits.{places_ascend, known_after, all_below, in_order_of_sight}}

eqb-is : (a b : ℕ) → IsTrue (eqb a b) → a ≡ b
eqb-is a b e = eqb→eq a b (subst T (sym e) tt)

-- ---- places that ascend

pub ascend_head : (low l : ℕ) (places : List ℕ) → IsTrue (places_ascend low (l ∷ places)) → low ≤ l
ascend_head low l places a = let h = ltb-true low (l + 1) (and-left (ltb low (l + 1)) (places_ascend (l + 1) places) a) in omega arith

pub ascend_tail : (low l : ℕ) (places : List ℕ) → IsTrue (places_ascend low (l ∷ places)) → IsTrue (places_ascend (l + 1) places)
ascend_tail low l places a = and-right (ltb low (l + 1)) (places_ascend (l + 1) places) a

pub ascend_cons : (low l : ℕ) (places : List ℕ) → low ≤ l → IsTrue (places_ascend (l + 1) places) → IsTrue (places_ascend low (l ∷ places))
ascend_cons low l places h a = and-both (ltb low (l + 1)) (places_ascend (l + 1) places) (lt-ltb low (l + 1) (omega arith)) a

-- ---- one place more

place_by : (P : List ℕ → Type 0) (l k : ℕ) (places : List ℕ) (a b : Bool) → eqb l k ≡ a → ltb l k ≡ b
    → (l ≡ k → P (k ∷ places)) → (l < k → P (l ∷ k ∷ places)) → (k < l → P (k ∷ with_place l places))
    → P (if a then k ∷ places else (if b then l ∷ k ∷ places else k ∷ with_place l places))
place_by P l k places true b e f here before behind = here (eqb-is l k e)
place_by P l k places false true e f here before behind = before (ltb-true l k f)
place_by P l k places false false e f here before behind =
    behind (let n = eqb-false l k e in let m = ltb-false l k f in let d : l ≡ k → ⊥ = n in omega (arith, d))

-- it stands there, or goes before the first place, or behind it
pub place_cases : (P : List ℕ → Type 0) (l k : ℕ) (places : List ℕ) → (l ≡ k → P (k ∷ places))
    → (l < k → P (l ∷ k ∷ places)) → (k < l → P (k ∷ with_place l places)) → P (with_place l (k ∷ places))
place_cases P l k places here before behind = place_by P l k places (eqb l k) (ltb l k) refl refl here before behind

pub ascend-with : (low l : ℕ) (places : List ℕ) → low ≤ l → IsTrue (places_ascend low places) → IsTrue (places_ascend low (with_place l places))
ascend-with low l [] h a = ascend_cons low l [] h refl
ascend-with low l (k ∷ places) h a =
    let f = ascend_head low k places a in
    let t = ascend_tail low k places a in
    place_cases (λ r. IsTrue (places_ascend low r)) l k places (λ e. a)
    (λ lt. ascend_cons low l (k ∷ places) h (ascend_cons (l + 1) k places (omega arith) t))
    (λ gt. ascend_cons low k (with_place l places) f (ascend-with (k + 1) l places (omega arith) t))

pub length-with_place : (l : ℕ) (places : List ℕ) → length (with_place l places) ≤ length places + 1
length-with_place l [] = omega arith
length-with_place l (k ∷ places) =
    place_cases (λ r. length r ≤ length (k ∷ places) + 1) l k places (λ e. omega arith) (λ lt. omega arith) (λ gt. let h = length-with_place l places in omega arith)

-- ---- labels below a number

pub below_head : (n l : ℕ) (places : List ℕ) → IsTrue (all_below n (l ∷ places)) → l < n
below_head n l places a = ltb-true l n (and-left (ltb l n) (all_below n places) a)

pub below_tail : (n l : ℕ) (places : List ℕ) → IsTrue (all_below n (l ∷ places)) → IsTrue (all_below n places)
below_tail n l places a = and-right (ltb l n) (all_below n places) a

below_cons : (n l : ℕ) (places : List ℕ) → l < n → IsTrue (all_below n places) → IsTrue (all_below n (l ∷ places))
below_cons n l places h a = and-both (ltb l n) (all_below n places) (lt-ltb l n h) a

all_below-le : (n m : ℕ) (places : List ℕ) → n ≤ m → IsTrue (all_below n places) → IsTrue (all_below m places)
all_below-le n m [] h a = refl
all_below-le n m (l ∷ places) h a =
    below_cons m l places (let k = below_head n l places a in omega arith) (all_below-le n m places h (below_tail n l places a))

all_below-with : (n l : ℕ) (places : List ℕ) → l < n → IsTrue (all_below n places) → IsTrue (all_below n (with_place l places))
all_below-with n l [] h a = below_cons n l [] h refl
all_below-with n l (k ∷ places) h a =
    let f = below_head n k places a in
    let t = below_tail n k places a in
    place_cases (λ r. IsTrue (all_below n r)) l k places (λ e. a)
    (λ lt. below_cons n l (k ∷ places) h a)
    (λ gt. below_cons n k (with_place l places) f (all_below-with n l places h t))

-- ---- labels that are known

pub known_skip : (n k : ℕ) (places : List ℕ) → (k ≡ n → ⊥) → known_after n (k ∷ places) ≡ known_after n places
known_skip n k places h = ap (λ (b : Bool). known_after (if b then n + 1 else n) places) (ne_eqb k n h)

pub known_take : (n k : ℕ) (places : List ℕ) → k ≡ n → known_after n (k ∷ places) ≡ known_after (n + 1) places
known_take n k places h = ap (λ (b : Bool). known_after (if b then n + 1 else n) places) (eq-eqb k n h)

pub known_above : (n low : ℕ) (places : List ℕ) → n < low → IsTrue (places_ascend low places) → known_after n places ≡ n
known_above n low [] h a = refl
known_above n low (k ∷ places) h a =
    let f = ascend_head low k places a in
    known_skip n k places (λ e. omega arith) ∙ known_above n (k + 1) places (omega arith) (ascend_tail low k places a)

-- a label that is known adds none
known-with_old : (n low l : ℕ) (places : List ℕ) → IsTrue (places_ascend low places) → l < known_after n places → known_after n (with_place l places) ≡ known_after n places
known-with_old n low l [] a h = known_skip n l [] (λ e. omega arith)
known-with_old n low l (k ∷ places) a h =
    place_cases (λ r. known_after n r ≡ known_after n (k ∷ places)) l k places (λ e. refl)
    (λ lt. known_skip n l (k ∷ places) (λ e. (let s : known_after n (k ∷ places) ≡ n =
    known_above n (n + 1) (k ∷ places) (omega arith) (ascend_cons (n + 1) k places (omega arith) (ascend_tail low k places a)) in omega arith)))
    (λ gt. known-with_old (if eqb k n then n + 1 else n) (k + 1) l places (ascend_tail low k places a) h)

-- the next label adds one
known-with_new : (n l : ℕ) (places : List ℕ) → l ≡ known_after n places → IsTrue (all_below l places) → known_after n (with_place l places) ≡ l + 1
known-with_new n l [] e b = known_take n l [] e ∙ omega arith
known-with_new n l (k ∷ places) e b =
    let f = below_head l k places b in
    place_cases (λ r. known_after n r ≡ l + 1) l k places (λ s. absurd (omega arith)) (λ s. absurd (omega arith))
    (λ s. known-with_new (if eqb k n then n + 1 else n) l places e (below_tail l k places b))

-- ---- the order of first sight

-- how many labels are known after some states
abbrev pub known_by : ℕ → List State → ℕ
known_by n [] = n
known_by n (x ∷ states) = known_by (known_after n x.labels) states

pub sight_first : (n total : ℕ) (xs ys : List State) → IsTrue (in_order_of_sight n (xs ++ ys) total) → IsTrue (in_order_of_sight n xs (known_by n xs))
sight_first n total [] ys s = eq-eqb n n refl
sight_first n total (x ∷ xs) ys s =
    and-both (all_below (known_after n x.labels) x.labels) (in_order_of_sight (known_after n x.labels) xs (known_by (known_after n x.labels) xs))
    (and-left (all_below (known_after n x.labels) x.labels) (in_order_of_sight (known_after n x.labels) (xs ++ ys) total) s)
    (sight_first (known_after n x.labels) total xs ys (and-right (all_below (known_after n x.labels) x.labels) (in_order_of_sight (known_after n x.labels) (xs ++ ys) total) s))

pub sight_last : (n total : ℕ) (xs ys : List State) → IsTrue (in_order_of_sight n (xs ++ ys) total) → IsTrue (in_order_of_sight (known_by n xs) ys total)
sight_last n total [] ys s = s
sight_last n total (x ∷ xs) ys s =
    sight_last (known_after n x.labels) total xs ys (and-right (all_below (known_after n x.labels) x.labels) (in_order_of_sight (known_after n x.labels) (xs ++ ys) total) s)

pub sight_both : (n total : ℕ) (xs ys : List State) → IsTrue (in_order_of_sight n xs (known_by n xs)) → IsTrue (in_order_of_sight (known_by n xs) ys total)
    → IsTrue (in_order_of_sight n (xs ++ ys) total)
sight_both n total [] ys s t = t
sight_both n total (x ∷ xs) ys s t =
    and-both (all_below (known_after n x.labels) x.labels) (in_order_of_sight (known_after n x.labels) (xs ++ ys) total)
    (and-left (all_below (known_after n x.labels) x.labels) (in_order_of_sight (known_after n x.labels) xs (known_by (known_after n x.labels) xs)) s)
    (sight_both (known_after n x.labels) total xs ys
    (and-right (all_below (known_after n x.labels) x.labels) (in_order_of_sight (known_after n x.labels) xs (known_by (known_after n x.labels) xs)) s) t)

-- the last states may be exchanged
pub sight_changed : (n total more : ℕ) (xs ys zs : List State) → IsTrue (in_order_of_sight n (xs ++ ys) total)
    → ((k : ℕ) → IsTrue (in_order_of_sight k ys total) → IsTrue (in_order_of_sight k zs more)) → IsTrue (in_order_of_sight n (xs ++ zs) more)
sight_changed n total more xs ys zs s f = sight_both n more xs zs (sight_first n total xs ys s) (f (known_by n xs) (sight_last n total xs ys s))

-- one state alone
pub record IsLast (n total : ℕ) (places : List ℕ) : Type 0 where
  pub below : IsTrue (all_below total places)
  pub known : known_after n places ≡ total

pub is_last : (n total : ℕ) (x : State) → IsTrue (in_order_of_sight n (x ∷ []) total) → IsLast n total x.labels
is_last n total x s =
    let e : known_after n x.labels ≡ total = eqb-is (known_after n x.labels) total (and-right (all_below (known_after n x.labels) x.labels) (eqb (known_after n x.labels) total) s) in
    record {
      below = subst (λ (k : ℕ). IsTrue (all_below k x.labels)) e (and-left (all_below (known_after n x.labels) x.labels) (eqb (known_after n x.labels) total) s);
      known = e;
    }

pub last_is : (n total : ℕ) (x : State) → IsLast n total x.labels → IsTrue (in_order_of_sight n (x ∷ []) total)
last_is n total x s =
    and-both (all_below (known_after n x.labels) x.labels) (eqb (known_after n x.labels) total)
    (subst (λ (k : ℕ). IsTrue (all_below k x.labels)) (sym s.known) s.below) (eq-eqb (known_after n x.labels) total s.known)

pub last_old : (n total l : ℕ) (places : List ℕ) → IsTrue (places_ascend 0 places) → l < total → IsLast n total places → IsLast n total (with_place l places)
last_old n total l places a h s = record {
  below = all_below-with total l places h s.below;
  known = known-with_old n 0 l places a (let k = s.known in omega arith) ∙ s.known;
}

pub last_new : (n total l : ℕ) (places : List ℕ) → l ≡ total → IsLast n total places → IsLast n (total + 1) (with_place l places)
last_new n total l places e s = record {
  below = all_below-with (total + 1) l places (omega arith) (all_below-le total (total + 1) places (omega arith) s.below);
  known = known-with_new n l places (e ∙ sym s.known) (subst (λ (k : ℕ). IsTrue (all_below k places)) (sym e) s.below) ∙ ap (λ (k : ℕ). k + 1) e;
}

-- ---- none is forgotten

known-le : (n : ℕ) (places : List ℕ) → n ≤ known_after n places
known-le n [] = omega arith
known-le n (l ∷ places) = elim (cases_eq l n) as (λ _. n ≤ known_after n (l ∷ places)) [
  | inl e ↦ (let h = known-le (n + 1) places in let k = known_take n l places e in omega arith)
  | inr e ↦ (let h = known-le n places in let k = known_skip n l places e in omega arith)
]

pub known_by-le : (n : ℕ) (states : List State) → n ≤ known_by n states
known_by-le n [] = omega arith
known_by-le n (x ∷ states) = let h = known-le n x.labels in let k = known_by-le (known_after n x.labels) states in omega arith

pub known_by-total : (n total : ℕ) (states : List State) → IsTrue (in_order_of_sight n states total) → known_by n states ≡ total
known_by-total n total [] s = eqb-is n total s
known_by-total n total (x ∷ states) s =
    known_by-total (known_after n x.labels) total states (and-right (all_below (known_after n x.labels) x.labels) (in_order_of_sight (known_after n x.labels) states total) s)
