-- The search for the first set: what holds whenever the next waiting state is looked at, and that it ends with the first set.
use Rattle.std.proofs.Common.{◌≡◌, ℕ, zero, suc, ◌+◌, ◌<◌, ◌≤◌, ◌⊎◌, inl, inr, Bool, true, false, eqb}
use Rattle.std.proofs.{Common.{◌||◌, List, [], ◌∷◌, ◌++◌, length, get_or, refl, sym, ◌∙◌, ap, subst, arith, fold}, lemmas.Bool.{or_cases, eq-eqb}}
use Rattle.std.proofs.{lemmas.List.Folds.{list_any-append}, lemmas.List.{length-append, length-replicate}, lemmas.List.Elements.{All-cons}}
use Rattle.std.proofs.lemmas.List.FromFn.{length-range_with_len, get_or-range_with_len}
use Rattle.std.specs.{List.{All}, Prelude.{replicate}}
use Rattle.mdp_math.specs.Rational.{ℚ}
use Rattle.mdp_math.proofs.Kernel.{All-head, All-tail}
use Rattle.mdp_spec.specs.{Mdp.{Entry, Mdp, states_of, choices_at, row_at}, Row.{IsMdp}, Tree.{IsPolicy, is_marked}}
use Rattle.mdp_rows.proofs.Either.{or_left, or_right}
use Rattle.mdp_rows.specs.{declared.dir.Dir.{Dir}, declared.dir.Dir.TheVariants.{Max, Min}}
use Rattle.mdp_subsystem_rules.specs.Kept.{is_listed}
use Rattle.mdp_witness.specs.{First.{is_open, followed, IsClosed, IsFirst}, FrontCode.{Front, with_state, with_row, with_choice, with_next}}
use Rattle.mdp_witness.proofs.Fronts.{Grows, grows-refl, grows-trans, grows_state, found_state, within_state, grows_row, listed-one, marked-below, left_to_do}

module _ (goals : List Bool) (z : List ℚ) where
  abbrev Target : (ℕ → Bool) → Entry → Type 0
  Target set x = is_open goals z x.target ≡ true → set x.target ≡ true

  pub found_row : (row : List Entry) (f : Front) (n : ℕ) → length f.found ≡ n → All (λ x. x.target < n) row → All (Target (is_marked (with_row goals z f row).found)) row
  found_row [] f n e h = λ k d l. absurd (omega arith)
  found_row (x ∷ row) f n e h =
      let l : x.target < length f.found = let i = All-head (λ (y : Entry). y.target < n) x row h in omega arith in
      let t = All-tail (λ (y : Entry). y.target < n) x row h in
      let g = grows_state goals z f x.target l in
      let k = grows_row goals z row (with_state goals z f x.target) n (g.count ∙ e) t in
      All-cons (Target (is_marked (with_row goals z f (x ∷ row)).found)) x row (λ o. k.keeps x.target (found_state goals z f x.target l o))
      (found_row row (with_state goals z f x.target) n (g.count ∙ e) t)

  pub within_row : (row : List Entry) (f : Front) (n : ℕ) (set : ℕ → Bool) → length f.found ≡ n → All (λ x. x.target < n) row → All (Target set) row
      → ((v : ℕ) → is_marked f.found v ≡ true → set v ≡ true) → (v : ℕ) → is_marked (with_row goals z f row).found v ≡ true → set v ≡ true
  within_row [] f n set e h o k = k
  within_row (x ∷ row) f n set e h o k =
      let l : x.target < length f.found = let i = All-head (λ (y : Entry). y.target < n) x row h in omega arith in
      let g = grows_state goals z f x.target l in
      within_row row (with_state goals z f x.target) n set (g.count ∙ e) (All-tail (λ (y : Entry). y.target < n) x row h) (All-tail (Target set) x row o)
      (within_state goals z f x.target set l (All-head (Target set) x row o) k)

  module _ (m : Mdp) (s : ℕ) where
    abbrev InRange : ℕ → Type 0
    InRange c = All (λ x. x.target < states_of m) (row_at m s c)

    abbrev all : Front → List ℕ → Front
    all f cs = fold (with_choice m goals z s) f cs

    pub grows_choices : (cs : List ℕ) (f : Front) → length f.found ≡ states_of m → All InRange cs → Grows f (all f cs)
    grows_choices [] f e h = grows-refl f
    grows_choices (c ∷ cs) f e h =
        let g = grows_row goals z (row_at m s c) f (states_of m) e (All-head InRange c cs h) in
        grows-trans f (with_choice m goals z s f c) (all (with_choice m goals z s f c) cs) g (grows_choices cs (with_choice m goals z s f c) (g.count ∙ e) (All-tail InRange c cs h))

    pub found_choices : (cs : List ℕ) (f : Front) → length f.found ≡ states_of m → All InRange cs → All (λ c. All (Target (is_marked (all f cs).found)) (row_at m s c)) cs
    found_choices [] f e h = λ k d l. absurd (omega arith)
    found_choices (c ∷ cs) f e h =
        let g = grows_row goals z (row_at m s c) f (states_of m) e (All-head InRange c cs h) in
        let r = grows_choices cs (with_choice m goals z s f c) (g.count ∙ e) (All-tail InRange c cs h) in
        let here = found_row (row_at m s c) f (states_of m) e (All-head InRange c cs h) in
        All-cons (λ d. All (Target (is_marked (all f (c ∷ cs)).found)) (row_at m s d)) c cs (λ k d l o. r.keeps (get_or (row_at m s c) k d).target (here k d l o))
        (found_choices cs (with_choice m goals z s f c) (g.count ∙ e) (All-tail InRange c cs h))

    pub within_choices : (cs : List ℕ) (f : Front) (set : ℕ → Bool) → length f.found ≡ states_of m → All InRange cs → All (λ c. All (Target set) (row_at m s c)) cs
        → ((v : ℕ) → is_marked f.found v ≡ true → set v ≡ true) → (v : ℕ) → is_marked (all f cs).found v ≡ true → set v ≡ true
    within_choices [] f set e h o k = k
    within_choices (c ∷ cs) f set e h o k =
        let g = grows_row goals z (row_at m s c) f (states_of m) e (All-head InRange c cs h) in
        within_choices cs (with_choice m goals z s f c) set (g.count ∙ e) (All-tail InRange c cs h) (All-tail (λ d. All (Target set) (row_at m s d)) c cs o)
        (within_row (row_at m s c) f (states_of m) set e (All-head InRange c cs h) (All-head (λ d. All (Target set) (row_at m s d)) c cs o) k)

-- ---- the choices that are followed

followed-in : (dir : Dir) (m : Mdp) (policy : List ℕ) (s : ℕ) → IsPolicy m policy → s < states_of m → All (λ c. c < length (choices_at m s)) (followed dir m policy s)
followed-in Max m policy s p l = All-cons (λ c. c < length (choices_at m s)) (get_or policy s 0) [] (p.in_range s l) (λ k d i. absurd (omega arith))
followed-in Min m policy s p l =
    λ k d i. let j : k < length (choices_at m s) = subst (λ (v : ℕ). k < v) (length-range_with_len 0 (length (choices_at m s))) i in
    subst (λ (v : ℕ). v < length (choices_at m s)) (sym (get_or-range_with_len 0 (length (choices_at m s)) k d j)) (omega (arith, j))

-- ---- what holds whenever the next waiting state is looked at

pub record IsFinding (dir : Dir) (m : Mdp) (goals : List Bool) (z : List ℚ) (policy : List ℕ) (start : ℕ) (f : Front) : Type 0 where
  pub count : length f.found ≡ states_of m
  pub all_open : (s : ℕ) → is_marked f.found s ≡ true → is_open goals z s ≡ true
  pub listed : (s : ℕ) → is_listed f.waiting s ≡ true → is_marked f.found s ≡ true
  pub has_start : is_open goals z start ≡ true → is_marked f.found start ≡ true
  pub next :
      (s : ℕ) → is_marked f.found s ≡ true
      → (is_listed f.waiting s ≡ true) ⊎ All (λ c. All (λ x. is_open goals z x.target ≡ true → is_marked f.found x.target ≡ true) (row_at m s c)) (followed dir m policy s)
  pub least : (set : ℕ → Bool) → IsClosed dir m goals z policy start set → (s : ℕ) → is_marked f.found s ≡ true → set s ≡ true

module _ (dir : Dir) (m : Mdp) (goals : List Bool) (z : List ℚ) (policy : List ℕ) (start : ℕ) (known_ : IsMdp m) (taking : IsPolicy m policy) where
  in_range : (s : ℕ) → s < states_of m → All (λ c. All (λ x. x.target < states_of m) (row_at m s c)) (followed dir m policy s)
  in_range s l = λ k d i. (known_.row s (get_or (followed dir m policy s) k d) l (followed-in dir m policy s taking l k d i)).in_range

  module _ (f : Front) (s : ℕ) (waiting : List ℕ) (finding : IsFinding dir m goals z policy start f) (popped : f.waiting ≡ waiting ++ s ∷ []) where
    abbrev before : Front
    before = record { found = f.found; waiting = waiting }

    abbrev later : Front
    later = with_next dir m goals z policy before s

    waited : (v : ℕ) → is_listed f.waiting v ≡ (is_listed waiting v || is_listed (s ∷ []) v)
    waited v = ap (λ (xs : List ℕ). is_listed xs v) popped ∙ list_any-append (λ k. eqb k v) waiting (s ∷ [])

    self : is_marked f.found s ≡ true
    self = finding.listed s (waited s ∙ or_right (is_listed waiting s) (is_listed (s ∷ []) s) (or_left (eqb s s) false (eq-eqb s s refl)))

    pub inside : s < states_of m
    inside = let l = marked-below f.found s self in let e = finding.count in omega arith

    grown : Grows before later
    grown = grows_choices goals z m s (followed dir m policy s) before finding.count (in_range s inside)

    abbrev HasNext : Front → ℕ → Type 0
    HasNext g v = All (λ c. All (λ x. is_open goals z x.target ≡ true → is_marked g.found x.target ≡ true) (row_at m v c)) (followed dir m policy v)

    next_here : (v : ℕ) → is_listed (s ∷ []) v ≡ true → HasNext later v
    next_here v h = subst (λ (w : ℕ). HasNext later w) (listed-one s v h) (found_choices goals z m s (followed dir m policy s) before finding.count (in_range s inside))

    next_old : (v : ℕ) → HasNext f v → HasNext later v
    next_old v h = λ k d l j e i o. grown.keeps (get_or (row_at m v (get_or (followed dir m policy v) k d)) j e).target (h k d l j e i o)

    next_listed : (v : ℕ) → (is_listed waiting v ≡ true) ⊎ (is_listed (s ∷ []) v ≡ true) → (is_listed later.waiting v ≡ true) ⊎ HasNext later v
    next_listed v (inl h) = inl (grown.lists v h)
    next_listed v (inr h) = inr (next_here v h)

    next_was : (v : ℕ) → (is_listed f.waiting v ≡ true) ⊎ HasNext f v → (is_listed later.waiting v ≡ true) ⊎ HasNext later v
    next_was v (inl h) = next_listed v (or_cases (is_listed waiting v) (is_listed (s ∷ []) v) (sym (waited v) ∙ h))
    next_was v (inr h) = inr (next_old v h)

    next_by : (v : ℕ) → (is_marked f.found v ≡ true) ⊎ (is_listed later.waiting v ≡ true) → (is_listed later.waiting v ≡ true) ⊎ HasNext later v
    next_by v (inl h) = next_was v (finding.next v h)
    next_by v (inr h) = inl h

    open_targets : All (λ c. All (λ x. is_open goals z x.target ≡ true → is_open goals z x.target ≡ true) (row_at m s c)) (followed dir m policy s)
    open_targets = λ k d l j e i o. o

    pub finding_next : IsFinding dir m goals z policy start later
    finding_next = record {
      count = grown.count ∙ finding.count;
      all_open = within_choices goals z m s (followed dir m policy s) before (is_open goals z) finding.count (in_range s inside) open_targets finding.all_open;
      listed = grown.listed (λ v h. finding.listed v (waited v ∙ or_left (is_listed waiting v) (is_listed (s ∷ []) v) h));
      has_start = λ o. grown.keeps start (finding.has_start o);
      next = λ v h. next_by v (grown.waits v h);
      least = λ set closed.
          within_choices goals z m s (followed dir m policy s) before set finding.count (in_range s inside) (closed.has_next s inside (finding.least set closed s self)) (finding.least set closed);
    }

    pub finding_less : suc (left_to_do later) ≤ left_to_do f
    finding_less =
        let i = grown.smaller in
        let e : length f.waiting ≡ length waiting + 1 = ap length popped ∙ length-append waiting (s ∷ []) in
        omega arith

  -- the same of the front as it is after the state was taken out
  module _ (f g : Front) (s : ℕ) (finding : IsFinding dir m goals z policy start f) (same : g.found ≡ f.found) (popped : f.waiting ≡ g.waiting ++ s ∷ []) where
    same_front : before f s g.waiting finding popped ≡ g
    same_front = ap (λ (found : List Bool). let h : Front = record { found = found; waiting = g.waiting } in h) (sym same)

    pub popped_inside : s < states_of m
    popped_inside = inside f s g.waiting finding popped

    pub popped_next : (h : Front) → h ≡ with_next dir m goals z policy g s → IsFinding dir m goals z policy start h
    popped_next h e =
        subst (IsFinding dir m goals z policy start) (ap (λ (k : Front). with_next dir m goals z policy k s) same_front ∙ sym e) (finding_next f s g.waiting finding popped)

    pub popped_less : (h : Front) → h ≡ with_next dir m goals z policy g s → left_to_do h < left_to_do f
    popped_less h e =
        let l = finding_less f s g.waiting finding popped in
        let d : left_to_do (later f s g.waiting finding popped) ≡ left_to_do h = ap left_to_do (ap (λ (k : Front). with_next dir m goals z policy k s) same_front ∙ sym e) in
        omega arith

  no_states : List Bool
  no_states = replicate (states_of m) false

  unmarked : (n v : ℕ) → is_marked (replicate n false) v ≡ true → ⊥
  unmarked zero v h = cc
  unmarked (suc n) zero h = cc
  unmarked (suc n) (suc v) h = unmarked n v h

  waits_first : (A B : Type 0) → (A → ⊥) → A ⊎ B → B
  waits_first A B never (inl a) = absurd (never a)
  waits_first A B never (inr b) = b

  -- at the beginning the start is found, where it is open
  pub finding_first : (found : List Bool) → start < states_of m → found ≡ replicate (states_of m) false
      → IsFinding dir m goals z policy start (with_state goals z (record { found = found; waiting = [] }) start)
  finding_first found l e =
      let none : Front = record { found = found; waiting = [] } in
      let n : length found ≡ states_of m = ap length e ∙ length-replicate (states_of m) false in
      let i : start < length none.found = omega arith in
      let empty : (v : ℕ) → is_marked found v ≡ true → ⊥ = λ v h. unmarked (states_of m) v (subst (λ (xs : List Bool). is_marked xs v ≡ true) e h) in
      let g = grows_state goals z none start i in
      record {
        count = g.count ∙ n;
        all_open = within_state goals z none start (is_open goals z) i (λ o. o) (λ v h. absurd (empty v h));
        listed = g.listed (λ v h. cc);
        has_start = λ o. found_state goals z none start i o;
        next = λ v h. inl (waits_first (is_marked found v ≡ true) (is_listed (with_state goals z none start).waiting v ≡ true) (empty v) (g.waits v h));
        least = λ set closed. within_state goals z none start set i closed.has_start (λ v h. absurd (empty v h));
      }

  -- at first
  pub finding_start : (f g : Front) → start < states_of m → f.found ≡ replicate (states_of m) false → f.waiting ≡ [] → g ≡ with_state goals z f start → IsFinding dir m goals z policy start g
  finding_start f g l e k h =
      subst (IsFinding dir m goals z policy start)
      (ap (λ (xs : List ℕ). with_state goals z (let i : Front = record { found = f.found; waiting = xs } in i) start) (sym k) ∙ sym h)
      (finding_first f.found l e)

  next_all : (f : Front) (s : ℕ) → f.waiting ≡ [] → (is_listed f.waiting s ≡ true) ⊎ All (λ c. All (λ x. is_open goals z x.target ≡ true → is_marked f.found x.target ≡ true)
      (row_at m s c)) (followed dir m policy s)
      → All (λ c. All (λ x. is_open goals z x.target ≡ true → is_marked f.found x.target ≡ true) (row_at m s c)) (followed dir m policy s)
  next_all f s e (inr h) = h
  next_all f s e (inl h) = let k : is_listed [] s ≡ true = subst (λ (xs : List ℕ). is_listed xs s ≡ true) e h in cc

  -- where none waits, the first set is found
  pub first_of : (f : Front) → IsFinding dir m goals z policy start f → f.waiting ≡ [] → IsFirst dir m goals z policy start f.found
  first_of f h e = record {
    one_each = h.count;
    is_open = λ s l. h.all_open s;
    closed = record { has_start = h.has_start; has_next = λ s l k. next_all f s e (h.next s k) };
    least = λ set closed s l. h.least set closed s;
  }
