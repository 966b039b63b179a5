-- Where the pivots of a system are above 0, each elimination can be made, and the values that come out solve the system.
use Rattle.std.proofs.Common.{◌≡◌, ℕ, zero, suc, ◌<◌, ◌⊎◌, inl, inr, Bool, true, List, [], ◌∷◌, ◌++◌, length, Option}
use Rattle.std.proofs.Common.{Some, None, Result, Ok, Err, refl, sym, ◌∙◌, ap, ap₂, subst, arith, eqb, if◌then◌else◌, pos, negsuc}
use Rattle.std.proofs.{Math.Seq.{get_or-append_seam}, lemmas.List.{get_or_append_left, length-append}}
use Rattle.mdp_math.specs.{Rational.{ℚ, ◌+ℚ◌, ◌*ℚ◌, ◌-ℚ◌, inv_ℚ, ◌<ℚ◌}, Pivot.{pivoted, active_below, HasPivots}, Written.{written_add, written_mul, ◌>>=◌}}
use Rattle.mdp_math.proofs.{Numbers.{last_or, eqb-same, eqb-smaller, eqb-greater}, Ring.{◌⊕◌, ◌⊗◌, ⊖, lit, ring}, Linear.{combine, equal}, Laws.{rat_ring}}
use Rattle.mdp_math.proofs.{Order.{0ℚ, 1ℚ, <ℚ_irrefl, sub-pos}, Division.{mul-inv_pos}, Written.{written_add-some, written_mul-some}}
use Rattle.mdp_spec.specs.{Mdp.{Entry, value_at}, Written.{written_sum}}
use Rattle.mdp_elim.specs.{Equation.{Equation, Values}, Entries.{Between, without}, Predecessors.{at, LeadBelow}}
use Rattle.mdp_elim.specs.Elimination.{eliminated, Eliminated, evaluated, solution, at_state, ◌and_then◌, no_values, CanEliminate, DividesByPositive}
use Rattle.mdp_elim.proofs.RowSums.{over, or_zero, over-split, over-same, some_part, between-without, between-below}
use Rattle.mdp_elim.proofs.Step.{factor, IsEliminated, eliminated-is}

-- 1 at v, 0 elsewhere
abbrev pub unit : ℕ → ℕ → ℚ
unit v k = if eqb k v then 1ℚ else 0ℚ

-- the system as a matrix
abbrev pub matrix : List Equation → ℕ → ℕ → ℚ
matrix equations t v = over (unit v) (at equations t).entries

-- all numbers below n, from the greatest
abbrev pub all_below : ℕ → List ℕ
all_below n = active_below (λ _. true) n

-- ---- pivots depend on the entries below n alone

pub pivots_same : (n : ℕ) (q r : ℕ → ℕ → ℚ) → ((t v : ℕ) → t < n → v < n → q t v ≡ r t v) → HasPivots (all_below n) q → HasPivots (all_below n) r
pivots_same zero q r e h = tt
pivots_same (suc n) q r e h = (
  subst (λ (x : ℚ). x <ℚ 1ℚ) (e n n (omega arith) (omega arith)) h.0,
  pivots_same n (pivoted q n) (pivoted r n)
      (λ t v l m.
      ap₂ ◌+ℚ◌ (e t v (omega arith) (omega arith)) (ap₂ ◌*ℚ◌ (e t n (omega arith) (omega arith))
      (ap₂ (λ (a b : ℚ). a *ℚ inv_ℚ (1ℚ -ℚ b)) (e n v (omega arith) (omega arith)) (e n n (omega arith) (omega arith)))))
      h.1,
)

-- ---- entries by number

unit-at : (s : ℕ) → unit s s ≡ 1ℚ
unit-at s = ap (λ (b : Bool). if b then 1ℚ else 0ℚ) (eqb-same s)

unit-above : (s k : ℕ) → k < s → unit s k ≡ 0ℚ
unit-above s k l = ap (λ (b : Bool). if b then 1ℚ else 0ℚ) (eqb-smaller k s l)

unit-below : (v s : ℕ) → v < s → unit v s ≡ 0ℚ
unit-below v s l = ap (λ (b : Bool). if b then 1ℚ else 0ℚ) (eqb-greater s v l)

over-zero : (f : ℕ → ℚ) (low high : ℕ) (row : List Entry) → Between low high row → ((v : ℕ) → v < high → f v ≡ 0ℚ) → over f row ≡ 0ℚ
over-zero f low high [] h e = refl
over-zero f low high (x ∷ row) h e =
    combine 3 (λ p a o. p ⊗ a ⊕ o) (λ p a o. lit (pos 0)) (λ p a o. equal p a (lit (pos 0)) ∷ equal (lit (pos 1)) o (lit (pos 0)) ∷ [])
    refl x.prob (f x.target) (over f row) (e x.target h.1) (over-zero f (suc x.target) high row h.2 e)

-- the entry at s
matrix-at : (s : ℕ) (e : Equation) → Between 0 (suc s) e.entries → over (unit s) e.entries ≡ factor s e
matrix-at s e h =
    combine 4 (λ o p u r. o) (λ o p u r. p) (λ o p u r. equal (lit (pos 1)) o (p ⊗ u ⊕ r) ∷ equal p u (lit (pos 1)) ∷ equal (lit (pos 1)) r (lit (pos 0)) ∷ []) refl
    (over (unit s) e.entries) (factor s e) (unit s s) (over (unit s) (without s e.entries))
    (over-split (unit s) s e.entries) (unit-at s) (over-zero (unit s) 0 s (without s e.entries) (between-without 0 s e.entries h) (λ v l. unit-above s v l))

-- an entry below s
matrix-below : (s v : ℕ) (e : Equation) → v < s → over (unit v) e.entries ≡ over (unit v) (without s e.entries)
matrix-below s v e l =
    combine 4 (λ o p u r. o) (λ o p u r. r) (λ o p u r. equal (lit (pos 1)) o (p ⊗ u ⊕ r) ∷ equal p u (lit (pos 0)) ∷ []) refl
    (over (unit v) e.entries) (factor s e) (unit v s) (over (unit v) (without s e.entries))
    (over-split (unit v) s e.entries) (unit-below v s l)

-- ---- one elimination

module _ (s : ℕ) (equations : List Equation) (e : Eliminated) (down : LeadBelow (suc s) (suc s) equations) (is : IsEliminated s equations e) where
  pub pivot-down : Between 0 s e.pivot.entries
  pivot-down = is.pivot.between s (between-without 0 s (at equations s).entries (down s (omega arith)))

  pub rest-down : LeadBelow s s e.rest
  rest-down t l = (is.rest t l).between s pivot-down (between-without 0 s (at equations t).entries (down t (omega arith)))

  matrix-step : (t v : ℕ) → t < s → v < s → pivoted (matrix equations) s t v ≡ matrix e.rest t v
  matrix-step t v l m =
      combine 9 (λ n q w d r o i p x. q ⊕ w ⊗ (x ⊗ i)) (λ n q w d r o i p x. n)
      (λ n q w d r o i p x. equal (lit (negsuc 0)) n (r ⊕ p ⊗ d) ∷ equal (lit (pos 1)) q r ∷ equal (x ⊗ i) w p ∷ equal (p ⊗ i) x o ∷ equal (⊖ p) d (o ⊗ i) ∷ []) refl
      (matrix e.rest t v) (matrix equations t v) (matrix equations t s) (over (unit v) e.pivot.entries) (over (unit v) (without s (at equations t).entries)) (over (unit v) (without s (at equations s).entries))
      (inv_ℚ (1ℚ -ℚ matrix equations s s)) (factor s (at equations t)) (matrix equations s v)
      ((is.rest t l).entries (unit v)) (matrix-below s v (at equations t) m) (matrix-at s (at equations t) (down t (omega arith))) (matrix-below s v (at equations s) m)
      (is.pivot.entries (unit v) ∙ ap (λ (q : ℚ). over (unit v) (without s (at equations s).entries) *ℚ inv_ℚ (1ℚ -ℚ q)) (sym (matrix-at s (at equations s) (down s (omega arith)))))

  pub pivots-step : HasPivots (all_below (suc s)) (matrix equations) → HasPivots (all_below s) (matrix e.rest)
  pivots-step h = pivots_same s (pivoted (matrix equations) s) (matrix e.rest) matrix-step h.1

pub pivot-below : (s : ℕ) (equations : List Equation) → LeadBelow (suc s) (suc s) equations → HasPivots (all_below (suc s)) (matrix equations) → factor s (at equations s) <ℚ 1ℚ
pivot-below s equations down h = subst (λ (x : ℚ). x <ℚ 1ℚ) (matrix-at s (at equations s) (down s (omega arith))) h.0

-- each elimination can be made
pub can_eliminate : (n : ℕ) (equations : List Equation) → length equations ≡ n → LeadBelow n n equations → HasPivots (all_below n) (matrix equations) → CanEliminate n equations
can_eliminate zero equations len down h = tt
can_eliminate (suc s) equations len down h = (
  λ one. <ℚ_irrefl 1ℚ (subst (λ (x : ℚ). x <ℚ 1ℚ) (ap or_zero one) (pivot-below s equations down h)),
  λ e made.
      let is = eliminated-is s equations e len made in (
        between-below 0 s e.pivot.entries (pivot-down s equations e down is),
        can_eliminate s e.rest is.count (rest-down s equations e down is) (pivots-step s equations e down is h),
      ),
)

-- each division is by a number above 0
pub divides_by_positive : (n : ℕ) (equations : List Equation) → length equations ≡ n → LeadBelow n n equations → HasPivots (all_below n) (matrix equations) → DividesByPositive n equations
divides_by_positive zero equations len down h = tt
divides_by_positive (suc s) equations len down h = (
  λ p own. sub-pos p 1ℚ (subst (λ (x : ℚ). x <ℚ 1ℚ) (ap or_zero own) (pivot-below s equations down h)),
  λ e made.
      let is = eliminated-is s equations e len made in
      divides_by_positive s e.rest is.count (rest-down s equations e down is) (pivots-step s equations e down is h),
)

-- ---- the values

pub written_sum-is : (z : List ℚ) (acc r : ℚ) (row : List Entry) → written_sum z acc row ≡ Some r → r ≡ acc +ℚ over (value_at z) row
written_sum-is z acc r [] h = let e : acc ≡ r = cc in sym e ∙ ring rat_ring 1 (λ a. a) (λ a. a ⊕ lit (pos 0)) refl acc
written_sum-is z acc r (x ∷ row) h =
    let a = some_part (written_mul x.prob (value_at z x.target)) (λ term. written_add acc term >>= (λ sum. written_sum z sum row)) r h in
    let b = some_part (written_add acc a.0) (λ sum. written_sum z sum row) r a.2 in
    combine 7 (λ r a s t p v o. r) (λ r a s t p v o. a ⊕ (p ⊗ v ⊕ o)) (λ r a s t p v o. equal (lit (pos 1)) r (s ⊕ o) ∷ equal (lit (pos 1)) s (a ⊕ t) ∷ equal (lit (pos 1)) t (p ⊗ v) ∷ []) refl
    r acc b.0 a.0 x.prob (value_at z x.target) (over (value_at z) row)
    (written_sum-is z b.0 r row b.2) (written_add-some acc a.0 b.0 (sym b.1)) (written_mul-some x.prob (value_at z x.target) a.0 (sym a.1))

-- the values below n solve the equations
pub record Solved (n : ℕ) (equations : List Equation) (values : Values) : Type 0 where
  pub first_len : length values.first ≡ n
  pub second_len : length values.second ≡ n
  pub first : (t : ℕ) → t < n → value_at values.first t ≡ (at equations t).first +ℚ over (value_at values.first) (at equations t).entries
  pub second : (t : ℕ) → t < n → value_at values.second t ≡ (at equations t).second +ℚ over (value_at values.second) (at equations t).entries

-- one system of the two: with xs the values below s, and x that of s
module _ (s : ℕ) (xs : List ℚ) (x : ℚ) (len : length xs ≡ s) where
  value-old : (t : ℕ) → t < s → value_at (xs ++ x ∷ []) t ≡ value_at xs t
  value-old t l = get_or_append_left xs (x ∷ []) 0ℚ t (omega (arith, len))

  value-new : value_at (xs ++ x ∷ []) s ≡ x
  value-new = subst (λ k. value_at (xs ++ x ∷ []) k ≡ x) len (get_or-append_seam xs x [] 0ℚ)

  row_old : (row : List Entry) → Between 0 s row → over (value_at (xs ++ x ∷ [])) row ≡ over (value_at xs) row
  row_old row b = over-same (value_at (xs ++ x ∷ [])) (value_at xs) 0 s row b value-old

  -- state s: p its factor at itself
  solved_pivot : (p c d : ℚ) (rest pivot : List Entry) → p <ℚ 1ℚ → Between 0 s rest → Between 0 s pivot
      → ((f : ℕ → ℚ) → over f pivot ≡ over f rest *ℚ inv_ℚ (1ℚ -ℚ p)) → d ≡ c *ℚ inv_ℚ (1ℚ -ℚ p)
      → x ≡ d +ℚ over (value_at xs) pivot → value_at (xs ++ x ∷ []) s ≡ c +ℚ (p *ℚ value_at (xs ++ x ∷ []) s +ℚ over (value_at (xs ++ x ∷ [])) rest)
  solved_pivot p c d rest pivot lt br bp o e h =
      combine 9 (λ v x d o r p c i n. v) (λ v x d o r p c i n. c ⊕ (p ⊗ v ⊕ n))
      (λ v x d o r p c i n. equal (lit (pos 1) ⊕ ⊖ p) v x ∷ equal (lit (pos 1) ⊕ ⊖ p) x (d ⊕ o) ∷ equal (lit (pos 1) ⊕ ⊖ p) d (c ⊗ i) ∷ equal
      (lit (pos 1) ⊕ ⊖ p) o (r ⊗ i) ∷ equal (c ⊕ r) ((lit (pos 1) ⊕ ⊖ p) ⊗ i) (lit (pos 1)) ∷ equal (lit (negsuc 0)) n r ∷ []) refl
      (value_at (xs ++ x ∷ []) s) x d (over (value_at xs) pivot) (over (value_at xs) rest) p c (inv_ℚ (1ℚ -ℚ p)) (over (value_at (xs ++ x ∷ [])) rest)
      value-new h e (o (value_at xs)) (mul-inv_pos (1ℚ -ℚ p) (sub-pos p 1ℚ lt)) (row_old rest br)

  -- a smaller state: w its factor at s
  solved_rest : (t : ℕ) (w c d k : ℚ) (rest pivot new : List Entry) → t < s → Between 0 s rest → Between 0 s pivot
      → Between 0 s new → ((f : ℕ → ℚ) → over f new ≡ over f rest +ℚ w *ℚ over f pivot) → d ≡ c +ℚ w *ℚ k
      → x ≡ k +ℚ over (value_at xs) pivot → value_at xs t ≡ d +ℚ over (value_at xs) new
      → value_at (xs ++ x ∷ []) t ≡ c +ℚ (w *ℚ value_at (xs ++ x ∷ []) s +ℚ over (value_at (xs ++ x ∷ [])) rest)
  solved_rest t w c d k rest pivot new l br bp bn o e h i =
      combine 12 (λ a b v x d m r p w c k n. a) (λ a b v x d m r p w c k n. c ⊕ (w ⊗ v ⊕ n))
      (λ a b v x d m r p w c k n. equal (lit (pos 1)) a b ∷ equal (lit (pos 1)) b (d ⊕ m) ∷ equal (lit (pos 1)) d (c ⊕ w ⊗ k) ∷ equal
      (lit (pos 1)) m (r ⊕ w ⊗ p) ∷ equal (⊖ w) x (k ⊕ p) ∷ equal (⊖ w) v x ∷ equal (lit (negsuc 0)) n r ∷ []) refl
      (value_at (xs ++ x ∷ []) t) (value_at xs t) (value_at (xs ++ x ∷ []) s) x d (over (value_at xs) new) (over (value_at xs) rest) (over (value_at xs) pivot) w c k (over (value_at (xs ++ x ∷ [])) rest)
      (value-old t l) i e (o (value_at xs)) h value-new (row_old rest br)

ok_part : {A : Type 0} (s : ℕ) (o : Option A) (g : A → Result Values ℕ) (v : Values) → (at_state s o and_then g) ≡ Ok v → (x : A) × (o ≡ Some x) × (g x ≡ Ok v)
ok_part s None g v h = cc
ok_part s (Some x) g v h = (x, refl, h)

then_part : (r : Result Values ℕ) (g : Values → Result Values ℕ) (v : Values) → (r and_then g) ≡ Ok v → (x : Values) × (r ≡ Ok x) × (g x ≡ Ok v)
then_part (Err s) g v h = cc
then_part (Ok x) g v h = (x, refl, h)

at_ok : {A : Type 0} (s : ℕ) (o : Option A) (x : A) → at_state s o ≡ Ok x → o ≡ Some x
at_ok s None x h = cc
at_ok s (Some y) x h = cc

-- the value of one more state
pub record IsEvaluated (e : Equation) (v w : Values) : Type 0 where
  pub x : ℚ
  pub y : ℚ
  pub first : w.first ≡ v.first ++ x ∷ []
  pub second : w.second ≡ v.second ++ y ∷ []
  pub first_is : x ≡ e.first +ℚ over (value_at v.first) e.entries
  pub second_is : y ≡ e.second +ℚ over (value_at v.second) e.entries

evaluated-is : (e : Equation) (v w : Values) → evaluated e v ≡ Some w → IsEvaluated e v w
unfolding evaluated
evaluated-is e v w h =
    let a = some_part (written_sum v.first e.first e.entries) _ w h in
    let b = some_part (written_sum v.second e.second e.entries) _ w a.2 in
    let same : (let r : Values = record { first = v.first ++ a.0 ∷ []; second = v.second ++ b.0 ∷ [] } in r) ≡ w = some_same _ _ b.2 in
    record {
      x = a.0;
      y = b.0;
      first = ap Values.first (sym same);
      second = ap Values.second (sym same);
      first_is = written_sum-is v.first e.first a.0 e.entries a.1;
      second_is = written_sum-is v.second e.second b.0 e.entries b.1;
    }
  where
    some_same : {A : Type 0} (x y : A) → Some x ≡ Some y → x ≡ y
    some_same x y h = cc

push_len : (xs ys : List ℚ) (x : ℚ) (s : ℕ) → ys ≡ xs ++ x ∷ [] → length xs ≡ s → length ys ≡ suc s
push_len xs ys x s e l = let n = length-append xs (x ∷ []) in let m = ap length e in omega arith

module _ (s : ℕ) (equations : List Equation) (e : Eliminated) (v values : Values) (down : LeadBelow (suc s) (suc s) equations) (is : IsEliminated s equations e) (below : factor s (at equations s) <ℚ 1ℚ)
    (solved : Solved s e.rest v) (ev : IsEvaluated e.pivot v values) where
  others_down : (t : ℕ) → t < suc s → Between 0 s (without s (at equations t).entries)
  others_down t l = between-without 0 s (at equations t).entries (down t l)

  -- one column of both: the values below s, and that of s
  module _ (constant : Equation → ℚ) (xs : List ℚ) (x : ℚ) (len : length xs ≡ s) (pivot_is : constant e.pivot ≡ constant (at equations s) *ℚ inv_ℚ (1ℚ -ℚ factor s (at equations s)))
      (rest_is : (t : ℕ) → t < s → constant (at e.rest t) ≡ constant (at equations t) +ℚ factor s (at equations t) *ℚ constant e.pivot)
      (x_is : x ≡ constant e.pivot +ℚ over (value_at xs) e.pivot.entries)
      (solves : (t : ℕ) → t < s → value_at xs t ≡ constant (at e.rest t) +ℚ over (value_at xs) (at e.rest t).entries) where
    column_at : (t : ℕ) → (t ≡ s) ⊎ (t < s) → value_at (xs ++ x ∷ []) t ≡ constant (at equations t) +ℚ over (value_at (xs ++ x ∷ [])) (at equations t).entries
    column_at t (inl q) =
        subst (λ (k : ℕ). value_at (xs ++ x ∷ []) k ≡ constant (at equations k) +ℚ over (value_at (xs ++ x ∷ [])) (at equations k).entries) (sym q)
        (solved_pivot s xs x len (factor s (at equations s)) (constant (at equations s)) (constant e.pivot) (without s (at equations s).entries) e.pivot.entries
        below (others_down s (omega arith)) (pivot-down s equations e down is) is.pivot.entries pivot_is x_is
        ∙ ap (λ (o : ℚ). constant (at equations s) +ℚ o) (sym (over-split (value_at (xs ++ x ∷ [])) s (at equations s).entries)))
    column_at t (inr l) =
        solved_rest s xs x len t (factor s (at equations t)) (constant (at equations t)) (constant (at e.rest t)) (constant e.pivot)
        (without s (at equations t).entries) e.pivot.entries (at e.rest t).entries
        l (others_down t (omega arith)) (pivot-down s equations e down is) (rest-down s equations e down is t l) (is.rest t l).entries (rest_is t l) x_is (solves t l)
        ∙ ap (λ (o : ℚ). constant (at equations t) +ℚ o) (sym (over-split (value_at (xs ++ x ∷ [])) s (at equations t).entries))

  solved_more : Solved (suc s) equations values
  solved_more = record {
    first_len = push_len v.first values.first ev.x s ev.first solved.first_len;
    second_len = push_len v.second values.second ev.y s ev.second solved.second_len;
    first = λ t l. subst (λ (zs : List ℚ). value_at zs t ≡ (at equations t).first +ℚ over (value_at zs) (at equations t).entries) (sym ev.first)
        (column_at (λ (a : Equation). a.first) v.first ev.x solved.first_len is.pivot.first (λ t l. (is.rest t l).first) ev.first_is solved.first t (last_or s t l));
    second = λ t l. subst (λ (zs : List ℚ). value_at zs t ≡ (at equations t).second +ℚ over (value_at zs) (at equations t).entries) (sym ev.second)
        (column_at (λ (a : Equation). a.second) v.second ev.y solved.second_len is.pivot.second (λ t l. (is.rest t l).second) ev.second_is solved.second t (last_or s t l));
  }

-- the values that come out solve the system
pub solution_solves : (n : ℕ) (equations : List Equation) (values : Values) → length equations ≡ n → LeadBelow n n equations
    → HasPivots (all_below n) (matrix equations) → solution n equations ≡ Ok values → Solved n equations values
solution_solves zero equations values len down h made =
    let same : no_values ≡ values = cc in
    subst (Solved 0 equations) same (record { first_len = refl; second_len = refl; first = λ t l. absurd (omega arith); second = λ t l. absurd (omega arith) })
solution_solves (suc s) equations values len down h made =
    let a = ok_part s (eliminated s equations) (λ e. solution s e.rest and_then (λ v. at_state s (evaluated e.pivot v))) values made in
    let b = then_part (solution s (Eliminated.rest a.0)) (λ v. at_state s (evaluated (Eliminated.pivot a.0) v)) values a.2 in
    let is = eliminated-is s equations a.0 len a.1 in
    solved_more s equations a.0 b.0 values down is (pivot-below s equations down h)
    (solution_solves s (Eliminated.rest a.0) b.0 is.count (rest-down s equations a.0 down is) (pivots-step s equations a.0 down is h) b.1)
    (evaluated-is (Eliminated.pivot a.0) b.0 values (at_ok s (evaluated (Eliminated.pivot a.0) b.0) values b.2))
