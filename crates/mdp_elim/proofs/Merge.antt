-- Two rows that are merged: an addition at a target leaves the entries to smaller states as they are.
use Rattle.std.specs.Option.{unwrap_or, option_to_list, IsSome}
use Rattle.std.proofs.{Math.Seq.{drop-cons, drop-length}, Common.{◌≡◌, ◌≢◌, ℕ, zero, suc, ◌+◌, ◌<◌, ◌≤◌, Bool, true, false, List, [], ◌∷◌, ◌++◌, length, take}}
use Rattle.std.proofs.Common.{drop, get_or, refl, sym, ◌∙◌, ap, ap₂, subst, arith, eqb, nat_le, Option, Some, None, if◌then◌else◌, pos}
use Rattle.std.proofs.{lemmas.List.{append_assoc}, lemmas.Bool.{le-leb}, lemmas.Bool.Decides.{leb_tells}}
use Rattle.mdp_math.specs.{Rational.{ℚ, of_int}, Written.{written_add, written_mul, ◌>>=◌}}
use Rattle.mdp_num.specs.Written.{written_div}
use Rattle.mdp_spec.specs.Mdp.{Entry}
use Rattle.mdp_elim.specs.Entries.{Between, place, entry_to, without, plus_entry, plus_row, divided_entry, after, MergesTo, IsTooWide}

abbrev pub no_entry : Entry
no_entry = record { target = 0; prob = of_int (pos 0) }

abbrev pub entry : ℕ → ℚ → Entry
entry v q = record { target = v; prob = q }

after-nil : (o : Option (List Entry)) → o ≡ after [] o
after-nil None = refl
after-nil (Some r) = refl

after-cons : (y : Entry) (front : List Entry) (o : Option (List Entry)) → (after front o >>= (λ rest. Some (y ∷ rest))) ≡ after (y ∷ front) o
after-cons y front None = refl
after-cons y front (Some r) = refl

after-after : (xs ys : List Entry) (o : Option (List Entry)) → after xs (after ys o) ≡ after (xs ++ ys) o
after-after xs ys None = refl
after-after xs ys (Some r) = ap Some (sym (append_assoc xs ys r))

-- all entries lead to states below v
abbrev pub Below : ℕ → List Entry → Type 0
Below v [] = Unit {0}
Below v (y ∷ row) = (y.target < v) × Below v row

below-more : (v w : ℕ) (row : List Entry) → v ≤ w → Below v row → Below w row
below-more v w [] l h = tt
below-more v w (y ∷ row) l h = (omega (arith, h.0), below-more v w row l h.1)

below-append : (v : ℕ) (xs : List Entry) (y : Entry) → Below v xs → y.target < v → Below v (xs ++ y ∷ [])
below-append v [] y h l = (l, tt)
below-append v (x ∷ xs) y h l = (h.0, below-append v xs y h.1 l)

pub not_le : (v n : ℕ) → n < v → nat_le v n ≡ false
not_le v n l = grind arith

lt_of_not_le : (v n : ℕ) → nat_le v n ≡ false → n < v
lt_of_not_le v n h = grind (arith, leb_tells)

plus_entry-behind : (v : ℕ) (x : ℚ) (front row : List Entry) → Below v front → plus_entry v x (front ++ row) ≡ after front (plus_entry v x row)
plus_entry-behind v x [] row h = after-nil (plus_entry v x row)
plus_entry-behind v x (y ∷ front) row h =
    ap (λ (b : Bool). if b
    then (if eqb y.target v then (written_add y.prob x >>= (λ sum. Some (entry v sum ∷ front ++ row))) else (written_add (of_int (pos 0)) x >>= (λ sum. Some (entry v sum ∷ y ∷ front ++ row))))
    else (plus_entry v x (front ++ row) >>= (λ rest. Some (y ∷ rest)))) (not_le v y.target h.0)
    ∙ ap (λ o. o >>= (λ rest. Some (y ∷ rest))) (plus_entry-behind v x front row h.1) ∙ after-cons y front (plus_entry v x row)

-- one addition behind them, and then the others
then_rest : (front : List Entry) (f : List Entry → Option (List Entry)) (o : Option (List Entry)) → ((r : List Entry) → f (front ++ r) ≡ after front (f r)) → (after front o >>= f) ≡ after front (o >>= f)
then_rest front f None h = refl
then_rest front f (Some r) h = h r

then_term : (front : List Entry) (f g : ℚ → Option (List Entry)) (o : Option ℚ) → ((t : ℚ) → f t ≡ after front (g t)) → (o >>= f) ≡ after front (o >>= g)
then_term front f g None h = refl
then_term front f g (Some t) h = h t

pub plus_row-behind : (w : ℚ) (high low : ℕ) (front source row : List Entry) → Below low front → Between low high source → plus_row w source (front ++ row) ≡ after front (plus_row w source row)
plus_row-behind w high low front [] row h k = refl
plus_row-behind w high low front (x ∷ source) row h k =
    then_term front (λ t. plus_entry x.target t (front ++ row) >>= plus_row w source) (λ t. plus_entry x.target t row >>= plus_row w source) (written_mul w x.prob)
    (λ t.
    ap (λ o. o >>= plus_row w source) (plus_entry-behind x.target t front row (below-more low x.target front k.0 h))
    ∙ then_rest front (plus_row w source) (plus_entry x.target t row) (λ r. plus_row-behind w high (suc x.target) front source r (below-more low (suc x.target) front (omega (arith, k.0)) h) k.2))

-- ---- the place of a target

below_by : (v : ℕ) (y : Entry) (row : List Entry) (b : Bool) → nat_le v y.target ≡ b → Below v (take (place v row) row) → Below v (take (if b then 0 else suc (place v row)) (y ∷ row))
below_by v y row true e h = tt
below_by v y row false e h = (lt_of_not_le v y.target e, h)

below-place : (v : ℕ) (row : List Entry) → Below v (take (place v row) row)
below-place v [] = tt
below-place v (y ∷ row) = below_by v y row (nat_le v y.target) refl (below-place v row)

rest_by : (v : ℕ) (y : Entry) (row : List Entry) (b : Bool) → nat_le v y.target ≡ b → place v (drop (place v row) row) ≡ 0 → place v (drop (if b then 0 else suc (place v row)) (y ∷ row)) ≡ 0
rest_by v y row true e h = ap (λ (c : Bool). if c then 0 else suc (place v row)) e
rest_by v y row false e h = h

pub place_rest : (v : ℕ) (row : List Entry) → place v (drop (place v row) row) ≡ 0
place_rest v [] = refl
place_rest v (y ∷ row) = rest_by v y row (nat_le v y.target) refl (place_rest v row)

pub place_le : (v : ℕ) (row : List Entry) → place v row ≤ length row
place_le v [] = omega arith
place_le v (y ∷ row) = elim (nat_le v y.target) as (λ b. (if b then 0 else suc (place v row)) ≤ suc (length row)) [
  | true ↦ omega arith
  | false ↦ omega (arith, place_le v row)
]

take_drop : (n : ℕ) (row : List Entry) → take n row ++ drop n row ≡ row
take_drop zero row = refl
take_drop (suc n) [] = refl
take_drop (suc n) (y ∷ row) = ap (λ xs. y ∷ xs) (take_drop n row)

plus_entry-split : (v : ℕ) (x : ℚ) (row : List Entry) → plus_entry v x row ≡ after (take (place v row) row) (plus_entry v x (drop (place v row) row))
plus_entry-split v x row = ap (plus_entry v x) (sym (take_drop (place v row) row)) ∙ plus_entry-behind v x (take (place v row) row) (drop (place v row) row) (below-place v row)

-- where all entries before i lead to smaller states, and the one at i doesn't, i is the place
pub place_is : (v : ℕ) (row : List Entry) (i : ℕ) → ((k : ℕ) → k < i → nat_le v (get_or row k no_entry).target ≡ false)
    → (i < length row → nat_le v (get_or row i no_entry).target ≡ true) → i ≤ length row → place v row ≡ i
place_is v [] i before here within = omega arith
place_is v (y ∷ row) zero before here within = ap (λ (b : Bool). if b then 0 else suc (place v row)) (here (omega arith))
place_is v (y ∷ row) (suc i) before here within =
    ap (λ (b : Bool). if b then 0 else suc (place v row)) (before 0 (omega arith))
    ∙ ap suc (place_is v row i (λ k l. before (suc k) (omega arith)) (λ l. here (omega arith)) (omega arith))

-- ---- the first entry

first_by : (v : ℕ) (b : Bool) (n : ℕ) → (if b then 0 else suc n) ≡ 0 → b ≡ true
first_by v true n h = refl
first_by v false n h = absurd (omega (arith, h))

-- it leads to v or to a greater state
first_from : (v : ℕ) (y : Entry) (row : List Entry) → place v (y ∷ row) ≡ 0 → nat_le v y.target ≡ true
first_from v y row h = first_by v (nat_le v y.target) (place v row) h

-- the factor of the first entry, or 0
abbrev or_zero : Option ℚ → ℚ
or_zero o = unwrap_or o (of_int (pos 0))

abbrev at_first : Bool → Bool → ℕ → ℚ → Entry → List Entry → Option (List Entry)
at_first b c v x y row =
    if b
    then (if c then (written_add y.prob x >>= (λ sum. Some (entry v sum ∷ row))) else (written_add (of_int (pos 0)) x >>= (λ sum. Some (entry v sum ∷ y ∷ row))))
    else (plus_entry v x row >>= (λ rest. Some (y ∷ rest)))

abbrev from_first : Bool → Bool → ℕ → ℚ → Entry → List Entry → Option (List Entry)
from_first b c v x y row =
    written_add (or_zero (if b then (if c then Some y.prob else None) else entry_to v row)) x
    >>= (λ sum. Some (entry v sum ∷ (if b then (if c then row else y ∷ row) else y ∷ without v row)))

first_same : (c : Bool) (v : ℕ) (x : ℚ) (y : Entry) (row : List Entry) → at_first true c v x y row ≡ from_first true c v x y row
first_same true v x y row = refl
first_same false v x y row = refl

-- an addition at the first place
pub plus_first : (v : ℕ) (x : ℚ) (row : List Entry) → place v row ≡ 0 → plus_entry v x row ≡ (written_add (or_zero (entry_to v row)) x >>= (λ sum. Some (entry v sum ∷ without v row)))
plus_first v x [] h = refl
plus_first v x (y ∷ row) h =
    let e = first_from v y row h in
    ap (λ (b : Bool). at_first b (eqb y.target v) v x y row) e ∙ first_same (eqb y.target v) v x y row ∙ sym (ap (λ (b : Bool). from_first b (eqb y.target v) v x y row) e)

split_same : (v : ℕ) (b c : Bool) (y : Entry) (row : List Entry) → b ≡ true → c ≡ true
    → (Some y.prob ≡ (if b then (if c then Some y.prob else None) else entry_to v row)) × (row ≡ (if b then (if c then row else y ∷ row) else y ∷ without v row))
split_same v true true y row d e = (refl, refl)
split_same v true false y row d e = cc
split_same v false c y row d e = cc

split_other : (v : ℕ) (b c : Bool) (y : Entry) (row : List Entry) → b ≡ true → c ≡ false
    → (None ≡ (if b then (if c then Some y.prob else None) else entry_to v row)) × (y ∷ row ≡ (if b then (if c then row else y ∷ row) else y ∷ without v row))
split_other v true false y row d e = (refl, refl)
split_other v true true y row d e = cc
split_other v false c y row d e = cc

-- it is taken out
pub split-first : (v : ℕ) (y : Entry) (row all : List Entry) → all ≡ y ∷ row → place v all ≡ 0 → eqb y.target v ≡ true → (Some y.prob ≡ entry_to v all) × (row ≡ without v all)
split-first v y row all is h e = rw is (split_same v (nat_le v y.target) (eqb y.target v) y row (first_from v y row (rw is at h)) e)

pub split-none : (v : ℕ) (y : Entry) (row all : List Entry) → all ≡ y ∷ row → place v all ≡ 0 → eqb y.target v ≡ false → (None ≡ entry_to v all) × (all ≡ without v all)
split-none v y row all is h e = rw is (split_other v (nat_le v y.target) (eqb y.target v) y row (first_from v y row (rw is at h)) e)

pub split-empty : (v : ℕ) (all : List Entry) → length all ≡ 0 → (None ≡ entry_to v all) × (all ≡ without v all)
split-empty v [] h = (refl, refl)
split-empty v (y ∷ row) h = absurd (omega arith)

-- ---- one entry of the other row

module _ (w : ℚ) (x : Entry) (source rest sums : List Entry) (all : Option (List Entry)) (so_far : all ≡ after sums (plus_row w (x ∷ source) rest)) (more : ℚ) (term : Some more ≡ written_mul w x.prob) where
  abbrev here : List Entry
  here = drop (place x.target rest) rest

  abbrev front : List Entry
  front = take (place x.target rest) rest

  with_term : all ≡ after sums (after front (written_add (or_zero (entry_to x.target here)) more >>= (λ sum. Some (entry x.target sum ∷ without x.target here))) >>= plus_row w source)
  with_term =
      so_far ∙ ap (λ (o : Option ℚ). after sums (o >>= (λ term. plus_entry x.target term rest >>= plus_row w source))) (sym term)
      ∙ ap (λ (o : Option (List Entry)). after sums (o >>= plus_row w source)) (plus_entry-split x.target more rest ∙ ap (after front) (plus_first x.target more here (place_rest x.target rest)))

  no_sum : None ≡ written_add (or_zero (entry_to x.target here)) more → all ≡ None
  no_sum h = with_term ∙ ap (λ (o : Option ℚ). after sums (after front (o >>= (λ sum. Some (entry x.target sum ∷ without x.target here))) >>= plus_row w source)) (sym h)

  next : (low high : ℕ) (sum : ℚ) → Some sum ≡ written_add (or_zero (entry_to x.target here)) more → Between low high (x ∷ source)
      → all ≡ after ((sums ++ front) ++ entry x.target sum ∷ []) (plus_row w source (without x.target here))
  next low high sum h k =
      let y = entry x.target sum in
      let behind = without x.target here in
      with_term
      ∙ ap (λ (o : Option ℚ). after sums (after front (o >>= (λ sum. Some (entry x.target sum ∷ behind))) >>= plus_row w source)) (sym h)
      ∙ ap (λ (xs : List Entry). after sums (plus_row w source xs)) (sym (append_assoc front (y ∷ []) behind))
      ∙ ap (after sums) (plus_row-behind w high (suc x.target) (front ++ y ∷ []) source behind
      (below-append (suc x.target) front y (below-more x.target (suc x.target) front (omega arith) (below-place x.target rest)) (omega arith)) k.2)
      ∙ after-after sums (front ++ y ∷ []) (plus_row w source behind)
      ∙ ap (λ (xs : List Entry). after xs (plus_row w source behind)) (sym (append_assoc sums front (y ∷ [])))

pub between-drop : (low high j : ℕ) (row : List Entry) → Between low high row → Between 0 high (drop j row)
between-drop low high zero [] h = tt
between-drop low high zero (x ∷ row) h = (omega arith, h.1, h.2)
between-drop low high (suc j) [] h = tt
between-drop low high (suc j) (x ∷ row) h = between-drop (suc x.target) high j row h.2

-- as the code takes it
module _ (w : ℚ) (x : Entry) (rest : List Entry) (t : ℕ) (p : ℚ) (target : t ≡ x.target) (prob : p ≡ x.prob) where
  pub merge-no_term : None ≡ written_mul w p → IsTooWide w x rest
  merge-no_term h source = ap (λ (o : Option ℚ). o >>= (λ term. plus_entry x.target term rest >>= plus_row w source)) (sym (h ∙ ap (written_mul w) prob))

  module _ (more : ℚ) (term : Some more ≡ written_mul w p) (old z : ℚ)
      (o : Option ℚ) (found : o ≡ entry_to t (drop (place t rest) rest)) (none : z ≡ of_int (pos 0)) (or : old ≡ unwrap_or o z) where
    term_is : Some more ≡ written_mul w x.prob
    term_is = term ∙ ap (written_mul w) prob

    old_is : old ≡ or_zero (entry_to x.target (drop (place x.target rest) rest))
    old_is = or ∙ ap (unwrap_or o) none ∙ ap or_zero (found ∙ ap (λ n. entry_to n (drop (place n rest) rest)) target)

    pub merge-no_sum : None ≡ written_add old more → IsTooWide w x rest
    merge-no_sum h source = no_sum w x source rest [] (plus_row w (x ∷ source) rest) (after-nil (plus_row w (x ∷ source) rest)) more term_is (h ∙ ap (λ (q : ℚ). written_add q more) old_is)

    pub merge-next : (sums : List Entry) (sum : ℚ) (before behind new : List Entry) (y : Entry) (u : ℕ) → Some sum ≡ written_add old more
        → before ≡ take (place t rest) rest → behind ≡ without t (drop (place t rest) rest) → u ≡ x.target → y ≡ entry u sum → new ≡ (sums ++ before) ++ y ∷ []
        → MergesTo w x rest sums behind new
    merge-next sums sum before behind new y u h b r v e n high source k =
        next w x source rest sums (after sums (plus_row w (x ∷ source) rest)) refl more term_is 0 high sum (h ∙ ap (λ (q : ℚ). written_add q more) old_is) k
        ∙ ap₂ after
        (ap₂ (λ (xs : List Entry) (z : Entry). (sums ++ xs) ++ z ∷ []) (ap (λ n. take (place n rest) rest) (sym target) ∙ sym b) (ap (λ n. entry n sum) (sym v) ∙ sym e) ∙ sym n)
        (ap (plus_row w source) (ap (λ n. without n (drop (place n rest) rest)) (sym target) ∙ sym r))

-- entry after entry
module _ (w : ℚ) (source : List Entry) (j : ℕ) (x : Entry) (rest sums : List Entry) (all : Option (List Entry))
    (within : j < length source) (is : x ≡ get_or source j x) (so_far : all ≡ after sums (plus_row w (drop j source) rest)) where
  this : drop j source ≡ x ∷ drop (suc j) source
  this = drop-cons source j x within ∙ ap (λ y. y ∷ drop (suc j) source) (sym is)

  so_far_this : all ≡ after sums (plus_row w (x ∷ drop (suc j) source) rest)
  so_far_this = so_far ∙ ap (λ (xs : List Entry). after sums (plus_row w xs rest)) this

  pub merged-wide : IsTooWide w x rest → all ≡ None
  merged-wide h = so_far_this ∙ ap (after sums) (h (drop (suc j) source))

  pub merged-more : (high : ℕ) (behind new : List Entry) → Between 0 high source → MergesTo w x rest sums behind new → all ≡ after new (plus_row w (drop (j + 1) source) behind)
  merged-more high behind new k h =
      let m : suc j ≡ j + 1 = omega arith in
      so_far_this ∙ h high (drop (suc j) source) (subst (Between 0 high) this (between-drop 0 high j source k)) ∙ ap (λ (i : ℕ). after new (plus_row w (drop i source) behind)) m

-- behind the last entry
pub merged-all : (w : ℚ) (source : List Entry) (j : ℕ) (rest sums new : List Entry) (all : Option (List Entry)) → j ≡ length source
    → all ≡ after sums (plus_row w (drop j source) rest) → new ≡ sums ++ rest → all ≡ Some new
merged-all w source j rest sums new all n h e =
    h ∙ ap (λ (xs : List Entry). after sums (plus_row w xs rest)) (ap (λ i. drop i source) n ∙ drop-length source) ∙ ap Some (sym e)

-- ---- the entry to s can only be the last one

-- the first of several entries leads below s
first_lower : (low s : ℕ) (x : Entry) (front : List Entry) (y : Entry) → Between low (suc s) (x ∷ front ++ y ∷ []) → x.target < y.target
first_lower low s x [] y h = omega (arith, h.2.0)
first_lower low s x (z ∷ front) y h = let l = first_lower (suc x.target) s z front y h.2 in omega (arith, h.2.0, l)

last_high : (low s : ℕ) (front : List Entry) (y : Entry) → Between low (suc s) (front ++ y ∷ []) → y.target < suc s
last_high low s [] y h = h.1
last_high low s (x ∷ front) y h = last_high (suc x.target) s front y h.2

end_by : (s : ℕ) (b c : Bool) (y : Entry) → b ≡ true → c ≡ true → (Some y.prob ≡ (if b then (if c then Some y.prob else None) else None)) × ((if b then (if c then [] else y ∷ []) else y ∷ []) ≡ [])
end_by s true true y d e = (refl, refl)
end_by s true false y d e = cc
end_by s false c y d e = cc

end_is : (low s : ℕ) (front : List Entry) (y : Entry) → Between low (suc s) (front ++ y ∷ []) → y.target ≡ s → (Some y.prob ≡ entry_to s (front ++ y ∷ [])) × (without s (front ++ y ∷ []) ≡ front)
end_is low s [] y h e = end_by s (nat_le s y.target) (eqb y.target s) y (le-leb s y.target (omega arith)) (let k : eqb y.target s ≡ true = grind arith in k)
end_is low s (x ∷ front) y h e =
    let l : x.target < s = let k = first_lower low s x front y h in omega (arith, k, e) in
    let more = end_is (suc x.target) s front y h.2 e in (
      more.0 ∙ sym (ap (λ (b : Bool). if b then (if eqb x.target s then Some x.prob else None) else entry_to s (front ++ y ∷ [])) (not_le s x.target l)),
      ap (λ (b : Bool). if b then (if eqb x.target s then front ++ y ∷ [] else x ∷ front ++ y ∷ []) else x ∷ without s (front ++ y ∷ [])) (not_le s x.target l) ∙ ap (λ xs. x ∷ xs) more.1,
    )

-- none where all lead to smaller states
pub no_last : (low s : ℕ) (row : List Entry) → Between low s row → (entry_to s row ≡ None) × (without s row ≡ row)
no_last low s [] h = (refl, refl)
no_last low s (x ∷ row) h =
    let more = no_last (suc x.target) s row h.2 in (
      ap (λ (b : Bool). if b then (if eqb x.target s then Some x.prob else None) else entry_to s row) (not_le s x.target h.1) ∙ more.0,
      ap (λ (b : Bool). if b then (if eqb x.target s then row else x ∷ row) else x ∷ without s row) (not_le s x.target h.1) ∙ ap (λ xs. x ∷ xs) more.1,
    )

all_lower : (low s : ℕ) (front : List Entry) (y : Entry) → Between low (suc s) (front ++ y ∷ []) → y.target < s → Between low s (front ++ y ∷ [])
all_lower low s [] y h l = (h.0, l, tt)
all_lower low s (x ∷ front) y h l = (h.0, let k = first_lower low s x front y h in omega (arith, k), all_lower (suc x.target) s front y h.2 l)

pub last_found : (s : ℕ) (front : List Entry) (y : Entry) (row : List Entry) → row ≡ front ++ y ∷ [] → Between 0 (suc s) row → y.target ≡ s → Some y.prob ≡ entry_to s row
last_found s front y row is h e = rw is (end_is 0 s front y (rw is at h) e).0

pub last_other : (s : ℕ) (front : List Entry) (y : Entry) (row : List Entry) → row ≡ front ++ y ∷ [] → Between 0 (suc s) row → y.target ≢ s → None ≡ entry_to s row
last_other s front y row is h e =
    let k = rw is at h in
    let l = last_high 0 s front y k in
    let m : y.target < s = grind arith in
    rw is (sym (no_last 0 s (front ++ y ∷ []) (all_lower 0 s front y k m)).0)

pub none_empty : (s : ℕ) (row : List Entry) → length row ≡ 0 → None ≡ entry_to s row
none_empty s [] h = refl
none_empty s (x ∷ row) h = absurd (omega arith)

-- a row without an entry to s
none_by : (s : ℕ) (x : Entry) (row : List Entry) (b c : Bool) → (if b then (if c then Some x.prob else None) else entry_to s row) ≡ None
    → (entry_to s row ≡ None → row ≡ without s row) → x ∷ row ≡ (if b then (if c then row else x ∷ row) else x ∷ without s row)
none_by s x row true true h ih = cc
none_by s x row true false h ih = refl
none_by s x row false c h ih = ap (λ xs. x ∷ xs) (ih h)

pub without_none : (s : ℕ) (row : List Entry) → entry_to s row ≡ None → row ≡ without s row
without_none s [] h = refl
without_none s (x ∷ row) h = none_by s x row (nat_le s x.target) (eqb x.target s) h (without_none s row)

last_or : (s : ℕ) (front : List Entry) (y : Entry) (p : ℚ) → Between 0 (suc s) (front ++ y ∷ [])
    → Some p ≡ entry_to s (front ++ y ∷ []) → (b : Bool) → eqb y.target s ≡ b → front ≡ without s (front ++ y ∷ [])
last_or s front y p h e true t = sym (end_is 0 s front y h (let k : y.target ≡ s = grind arith in k)).1
last_or s front y p h e false t =
    let l = last_high 0 s front y h in
    let m : y.target < s = grind arith in
    absurd (let k : Some p ≡ None = e ∙ (no_last 0 s (front ++ y ∷ []) (all_lower 0 s front y h m)).0 in cc)

-- the others stand before it
pub without_last : (s : ℕ) (front : List Entry) (y : Entry) (row : List Entry) (p : ℚ) → row ≡ front ++ y ∷ [] → Between 0 (suc s) row → Some p ≡ entry_to s row → front ≡ without s row
without_last s front y row p is h e = rw is (last_or s front y p (rw is at h) (rw is at e) (eqb y.target s) refl)

nonempty : (s : ℕ) (p : ℚ) (row : List Entry) → Some p ≡ entry_to s row → 0 < length row
nonempty s p [] h = cc
nonempty s p (x ∷ row) h = omega arith

pub without_popped : (s : ℕ) (row rest : List Entry) (o : Option Entry) (p : ℚ) → Between 0 (s + 1) row
    → row ≡ rest ++ option_to_list o → (0 < length row → IsSome o) → Some p ≡ entry_to s row → rest ≡ without s row
without_popped s row rest (Some y) p h is some e = without_last s rest y row p is (subst (λ n. Between 0 n row) (let e : s + 1 ≡ suc s = omega arith in e) h) e
without_popped s row rest None p h is some e = absurd (let k : false ≡ true = some (nonempty s p row e) in cc)

-- ---- an entry that is divided

module _ (u p : ℚ) (x z : Entry) (same : x ≡ z) (is : p ≡ x.prob) where
  pub divided_entry-some : (q : ℚ) (t : ℕ) (y : Entry) → t ≡ x.target → Some q ≡ written_div p u → y ≡ entry t q → divided_entry u z ≡ Some y
  divided_entry-some q t y k e h =
      ap (divided_entry u) (sym same) ∙ ap (λ o. o >>= (λ r. Some (entry x.target r))) (ap (λ c. written_div c u) (sym is) ∙ sym e) ∙ ap Some (ap (λ c. entry c q) (sym k) ∙ sym h)

  pub divided_entry-none : None ≡ written_div p u → divided_entry u z ≡ None
  divided_entry-none e = ap (divided_entry u) (sym same) ∙ ap (λ o. o >>= (λ r. Some (entry x.target r))) (ap (λ c. written_div c u) (sym is) ∙ sym e)
