-- The equations that are solved one by one are those of elimination, and so are the values by them and the state at which a term is past width.
use Rattle.std.proofs.Common.{◌≡◌, ◌≢◌, pos, ℕ, zero, suc, ◌+◌, ◌-◌, ◌<◌, ◌≤◌, ◌⊎◌, inl, inr, List, [], ◌∷◌}
use Rattle.std.proofs.Common.{length, take, Option, Some, None, Result, Ok, Err, get_or, refl, sym, ◌∙◌, ap, subst, arith, zero-add}
use Rattle.std.proofs.lemmas.List.{length-take-le, get_or-take}
use Rattle.mdp_math.specs.{Rational.{of_int}, Written.{◌>>=◌}}
use Rattle.mdp_math.proofs.Numbers.{le_or}
use Rattle.mdp_elim.specs.{Equation.{Equation, Values, no_equation}, Entries.{entry_to, each}}
use Rattle.mdp_elim.specs.Elimination.{divided, substituted, eliminated, Eliminated, evaluated, at_state, ◌and_then◌, no_values, solution, CanEliminate}
use Rattle.mdp_elim.specs.{Predecessors.{at}, Kept.{put_in, solved_at, values_by}}
use Rattle.mdp_elim.proofs.{RowSums.{some_part}, Step.{each_at, each_len}, Putting.{each-none}}
use Rattle.mdp_elim.proofs.{Equations.{eliminated-none_pivot, eliminated-none_rest, eliminated-some}, PutIn.{solved-next, solved-last}}

-- a step that can be made at each place
each-exists : {A : Type 0} (f : A → Option A) (d : A) (xs : List A) → ((t : ℕ) → t < length xs → (y : A) × (f (get_or xs t d) ≡ Some y)) → (ys : List A) × (each f xs ≡ Some ys)
each-exists f d [] h = ([], refl)
each-exists {A} f d (x ∷ xs) h =
    let a = h 0 (omega arith) in
    let b = each-exists f d xs (λ t l. h (suc t) (omega arith)) in
    (a.0 ∷ b.0, ap (λ (o : Option A). o >>= (λ y. each f xs >>= (λ ys. Some (y ∷ ys)))) a.1 ∙ ap (λ (o : Option (List A)). o >>= (λ ys. Some (a.0 ∷ ys))) b.1)

module _ (solved : List Equation) (g : ℕ) where
  -- the values of k states from g on, after those of the states below g
  abbrev pub values_from : ℕ → Result Values ℕ → Result Values ℕ
  values_from zero r = r
  values_from (suc k) r = values_from k r and_then (λ v. at_state (g + k) (evaluated (at solved (g + k)) v))

  pub values_from-err : (k s : ℕ) → values_from k (Err s) ≡ Err s
  values_from-err zero s = refl
  values_from-err (suc k) s = ap (λ (r : Result Values ℕ). r and_then (λ v. at_state (g + k) (evaluated (at solved (g + k)) v))) (values_from-err k s)

  -- the states from g on are solved, and the equations of the others can be solved so far
  pub record IsUnderway (k n : ℕ) (equations : List Equation) : Type 0 where
    pub above : (s : ℕ) → g ≤ s → s < n → solved_at solved n s (at equations s) ≡ Some (at solved s)
    pub below : (t : ℕ) → t < g → (sum : Equation) × (put_in solved g k (at equations t) ≡ Some sum)

  -- what elimination then leaves
  pub record Leaves (k n : ℕ) (equations : List Equation) : Type 0 where
    pub rest : List Equation
    pub count : length rest ≡ g
    pub is : (t : ℕ) → t < g → put_in solved g k (at equations t) ≡ Some (at rest t)
    pub same : solution n equations ≡ values_from k (solution g rest)
    pub can : CanEliminate n equations → CanEliminate g rest

  module _ (k m : ℕ) (equations : List Equation) (size : m ≡ g + k) (len : length equations ≡ suc m) (underway : IsUnderway (suc k) (suc m) equations) where
    pivot : divided m (at equations m) ≡ Some (at solved m)
    pivot = sym (solved-last solved m (at equations m)) ∙ underway.above m (omega arith) (omega arith)

    made_by : (t : ℕ) → t < m → (g ≤ t) ⊎ (t < g) → (r : Equation) × (substituted m (at solved m) (at equations t) ≡ Some r)
    made_by t l (inl a) =
        let p = some_part (substituted m (at solved m) (at equations t)) (solved_at solved m t) (at solved t) (sym (solved-next solved m t (at equations t) l) ∙ underway.above t a (omega arith)) in
        (p.0, p.1)
    made_by t l (inr a) =
        let b = underway.below t a in
        let z : g + k ≡ m = omega arith in
        let p = some_part (substituted m (at solved m) (at equations t)) (put_in solved g k) b.0 (ap (λ j. substituted j (at solved j) (at equations t) >>= put_in solved g k) (sym z) ∙ b.1) in
        (p.0, p.1)

    taken : length (take m equations) ≡ m
    taken = length-take-le m equations (omega (arith, len))

    rows : (rest : List Equation) × (each (substituted m (at solved m)) (take m equations) ≡ Some rest)
    rows = each-exists (substituted m (at solved m)) no_equation (take m equations)
        (λ t l.
        let j : t < m = omega (arith, l, taken) in
        subst (λ (e : Equation). (r : Equation) × (substituted m (at solved m) e ≡ Some r)) (sym (get_or-take m equations t no_equation j)) (made_by t j (le_or g t)))

    rows_len : length rows.0 ≡ m
    rows_len = each_len (substituted m (at solved m)) (take m equations) rows.0 rows.1 ∙ taken

    row_at : (t : ℕ) → t < m → substituted m (at solved m) (at equations t) ≡ Some (at rows.0 t)
    row_at t l =
        subst (λ (e : Equation). substituted m (at solved m) e ≡ Some (at rows.0 t)) (get_or-take m equations t no_equation l)
        (each_at (substituted m (at solved m)) no_equation (take m equations) rows.0 t rows.1 (omega (arith, l, taken)))

    step : eliminated m equations ≡ Some (record { pivot = at solved m; rest = rows.0 })
    step = eliminated-some m equations (at solved m) pivot rows.0 rows.1

    put_row : (t : ℕ) → t < m → put_in solved g (suc k) (at equations t) ≡ put_in solved g k (at rows.0 t)
    put_row t l =
        let z : g + k ≡ m = omega arith in
        ap (λ j. substituted j (at solved j) (at equations t) >>= put_in solved g k) z ∙ ap (λ (o : Option Equation). o >>= put_in solved g k) (row_at t l)

    next : IsUnderway k m rows.0
    next = record {
      above = λ s l u.
          sym (ap (λ (o : Option Equation). o >>= solved_at solved m s) (row_at s u)) ∙ sym (solved-next solved m s (at equations s) u) ∙ underway.above s l (omega arith);
      below = λ t l. let b = underway.below t l in (b.0, sym (put_row t (omega arith)) ∙ b.1);
    }

    after : Leaves k m rows.0 → Leaves (suc k) (suc m) equations
    after left =
        let z : m ≡ g + k = size in
        let e : Eliminated = record { pivot = at solved m; rest = rows.0 } in
        record {
          rest = left.rest;
          count = left.count;
          is = λ t l. put_row t (omega arith) ∙ left.is t l;
          same =
              ap (λ (o : Option Eliminated). at_state m o and_then (λ e. solution m e.rest and_then (λ values. at_state m (evaluated e.pivot values)))) step
              ∙ ap (λ (r : Result Values ℕ). r and_then (λ values. at_state m (evaluated (at solved m) values))) left.same
              ∙ ap (λ j. values_from k (solution g left.rest) and_then (λ values. at_state j (evaluated (at solved j) values))) z;
          can = λ can. left.can (can.1 e step).1;
        }

  pub leaves : (k n : ℕ) (equations : List Equation) → n ≡ g + k → length equations ≡ n → IsUnderway k n equations → Leaves k n equations
  leaves zero n equations size len underway =
      let z : n ≡ g = omega arith in
      record {
        rest = equations;
        count = len ∙ z;
        is = λ t l. refl;
        same = ap (λ j. solution j equations) z;
        can = λ can. subst (λ j. CanEliminate j equations) z can;
      }
  leaves (suc k) zero equations size len underway = absurd (omega arith)
  leaves (suc k) (suc m) equations size len underway =
      let z : m ≡ g + k = omega arith in
      after k m equations z len underway (leaves k m (rows k m equations z len underway).0 z (rows_len k m equations z len underway) (next k m equations z len underway))

-- ---- all are solved

values_from-all : (solved : List Equation) (n : ℕ) → values_from solved 0 n (Ok no_values) ≡ values_by solved n
values_from-all solved zero = refl
values_from-all solved (suc n) =
    ap (λ j. values_from solved 0 n (Ok no_values) and_then (λ v. at_state j (evaluated (at solved j) v))) (zero-add n)
    ∙ ap (λ (r : Result Values ℕ). r and_then (λ v. at_state n (evaluated (at solved n) v))) (values_from-all solved n)

none_left : (equations : List Equation) → solution 0 equations ≡ Ok no_values
none_left equations = refl

module _ (solved equations : List Equation) (n : ℕ) (len : length equations ≡ n) where
  pub solution-solved : ((s : ℕ) → s < n → solved_at solved n s (at equations s) ≡ Some (at solved s)) → solution n equations ≡ values_by solved n
  solution-solved each =
      let left = leaves solved 0 n n equations (sym (zero-add n)) len (record { above = λ s l u. each s u; below = λ t l. absurd (omega arith) }) in
      left.same ∙ values_from-all solved n

  -- the states above f are solved, and the equations of the others can be solved so far
  module _ (f : ℕ) (within : f < n)
      (above : (s : ℕ) → f < s → s < n → solved_at solved n s (at equations s) ≡ Some (at solved s))
      (below : (t : ℕ) → t ≤ f → (sum : Equation) × (put_in solved (suc f) (n - suc f) (at equations t) ≡ Some sum)) where
    left_over : Leaves solved (suc f) (n - suc f) n equations
    left_over = leaves solved (suc f) (n - suc f) n equations (omega arith) len
        (record { above = λ s l u. above s (omega (arith, l)) u; below = λ t l. below t (omega (arith, l)) })

    -- what is left of the equation of a state
    left_at : (t : ℕ) → t ≤ f → (sum : Equation) → put_in solved (suc f) (n - suc f) (at equations t) ≡ Some sum → at left_over.rest t ≡ sum
    left_at t l sum is = let k : Some (at left_over.rest t) ≡ Some sum = sym (left_over.is t (omega arith)) ∙ is in cc

    stops : eliminated f left_over.rest ≡ None → solution n equations ≡ Err f
    stops h =
        left_over.same
        ∙ ap (values_from solved (suc f) (n - suc f)) (ap (λ (o : Option Eliminated). at_state f o and_then (λ e. solution f e.rest and_then (λ values. at_state f (evaluated e.pivot values)))) h)
        ∙ values_from-err solved (suc f) (n - suc f) f

    pub solution-stops_dividing : (sum : Equation) → put_in solved (suc f) (n - suc f) (at equations f) ≡ Some sum → divided f sum ≡ None → solution n equations ≡ Err f
    solution-stops_dividing sum is h =
        stops (eliminated-none_pivot f left_over.rest (subst (λ (e : Equation). divided f e ≡ None) (sym (left_at f (omega arith) sum is)) h))

    pub solution-stops_putting : solved_at solved n f (at equations f) ≡ Some (at solved f) → (t : ℕ) → t < f → (sum : Equation)
        → put_in solved (suc f) (n - suc f) (at equations t) ≡ Some sum → substituted f (at solved f) sum ≡ None → solution n equations ≡ Err f
    solution-stops_putting own t l sum is h =
        let a = some_part (put_in solved (suc f) (n - suc f) (at equations f)) (divided f) (at solved f) own in
        let p : divided f (at left_over.rest f) ≡ Some (at solved f) = subst (λ (e : Equation). divided f e ≡ Some (at solved f)) (sym (left_at f (omega arith) a.0 a.1)) a.2 in
        let taken : length (take f left_over.rest) ≡ f = length-take-le f left_over.rest (let c = left_over.count in omega (arith, c)) in
        stops (eliminated-none_rest f left_over.rest (at solved f) p
        (each-none (substituted f (at solved f)) no_equation (take f left_over.rest) t (omega (arith, l, taken))
        (subst (λ (e : Equation). substituted f (at solved f) e ≡ None) (sym (get_or-take f left_over.rest t no_equation l ∙ left_at t (omega (arith, l)) sum is)) h)))

    -- no entry of a state to itself is 1
    pub own-not_one : CanEliminate n equations → (sum : Equation) → put_in solved (suc f) (n - suc f) (at equations f) ≡ Some sum → entry_to f sum.entries ≢ Some (of_int (pos 1))
    own-not_one can sum is = subst (λ (e : Equation). entry_to f e.entries ≢ Some (of_int (pos 1))) (left_at f (omega arith) sum is) (left_over.can can).0
