-- The equation of an eliminated state is put into those that have an entry to it, in any order; the others stay.
use Rattle.std.proofs.Common.{◌≡◌, ◌≢◌, ℕ, zero, suc, ◌+◌, ◌<◌, ◌≤◌, ◌⊎◌, inl, inr, List, [], ◌∷◌, length, take, get_or, refl, sym, ◌∙◌, ap, subst, arith, Option, Some, None}
use Rattle.std.proofs.{Math.ListN.{get_or-eq_default, set}, lemmas.List.{length-take-le, get_or-take, get_or_default, get_or-set_same, get_or-set_other}}
use Rattle.std.specs.List.{All, Contains, remove}
use Rattle.smallvec.specs.SmallVec.{SmallVec}
use Rattle.mdp_math.specs.{Rational.{ℚ}, Written.{◌>>=◌}}
use Rattle.mdp_math.proofs.Numbers.{le_or}
use Rattle.mdp_spec.specs.Mdp.{Entry}
use Rattle.mdp_elim.specs.{Equation.{Equation, no_equation}, Entries.{Between, entry_to, without, each}}
use Rattle.mdp_elim.specs.Elimination.{divided, rest_of, substituted, substituted_where, eliminated}
use Rattle.mdp_elim.specs.Predecessors.{no_states, IsListed, ListsMore, LeadsTo, ListsTargets, at, LeadBelow, IsLinked, IsPutAt}
use Rattle.mdp_elim.proofs.{RowSums.{between-without}, Merge.{no_last, without_none}, Lists.{one_or_two}, Step.{divided-is, substituted-is, eliminated-is}}
use Rattle.mdp_elim.proofs.{Law.{rest-down}, Equations.{remove-last, eliminated-some, eliminated-none_rest}}
use Rattle.mdp_elim.proofs.Targets.{to_targets, from_targets, targets-substituted, leads-entry, before_or}

between-wider : (low high : ℕ) (row : List Entry) → Between low high row → Between low (suc high) row
between-wider low high [] h = tt
between-wider low high (x ∷ row) h = (h.0, omega (arith, h.1), between-wider (suc x.target) high row h.2)

-- ---- a step for each element, from its places

module _ {A : Type 0} (f : A → Option A) (d : A) where
  pub each-from : (xs ys : List A) → length ys ≡ length xs → ((t : ℕ) → t < length xs → f (get_or xs t d) ≡ Some (get_or ys t d)) → each f xs ≡ Some ys
  each-from [] [] l h = refl
  each-from [] (y ∷ ys) l h = absurd (omega arith)
  each-from (x ∷ xs) [] l h = absurd (omega arith)
  each-from (x ∷ xs) (y ∷ ys) l h =
      ap (λ o. o >>= (λ y. each f xs >>= (λ ys. Some (y ∷ ys)))) (h 0 (omega arith)) ∙ ap (λ o. o >>= (λ ys. Some (y ∷ ys))) (each-from xs ys (omega arith) (λ t k. h (suc t) (omega arith)))

  none_after : {B C : Type 0} (o : Option B) (g : B → Option C) → ((x : B) → g x ≡ None) → (o >>= g) ≡ None
  none_after None g h = refl
  none_after (Some x) g h = h x

  pub each-none : (xs : List A) (t : ℕ) → t < length xs → f (get_or xs t d) ≡ None → each f xs ≡ None
  each-none [] t l h = absurd (omega arith)
  each-none (x ∷ xs) zero l h = ap (λ o. o >>= (λ y. each f xs >>= (λ ys. Some (y ∷ ys)))) h
  each-none (x ∷ xs) (suc t) l h = none_after (f x) (λ y. each f xs >>= (λ ys. Some (y ∷ ys))) (λ y. ap (λ o. o >>= (λ ys. Some (y ∷ ys))) (each-none xs t (omega arith) h))

-- ---- an equation without an entry to s

module _ (s : ℕ) (pivot : Equation) where
  pub no_change : (e : Equation) → entry_to s e.entries ≡ None → without s e.entries ≡ e.entries → substituted s pivot e ≡ Some e
  no_change e h k = ap (λ (o : Option ℚ). substituted_where o pivot (rest_of s e)) h ∙ ap (λ (es : List Entry). let x : Equation = record { entries = es; first = e.first; second = e.second } in Some x) k

  -- of which all entries lead to smaller states
  below_stays : (e : Equation) → Between 0 s e.entries → substituted s pivot e ≡ Some e
  below_stays e h = let k = no_last 0 s e.entries h in no_change e k.0 k.1

  module _ (down : Between 0 s pivot.entries) where
    lies_below : (e new : Equation) → Between 0 (suc s) e.entries → substituted s pivot e ≡ Some new → Between 0 s new.entries
    lies_below e new h k = (substituted-is s pivot e new k).between s down (between-without 0 s e.entries h)

    still_below : (e new : Equation) → Between 0 (suc s) e.entries → substituted s pivot e ≡ Some new → Between 0 (suc s) new.entries
    still_below e new h k = between-wider 0 s new.entries (lies_below e new h k)

    -- put in once or twice
    again : (old now new : Equation) → Between 0 (suc s) old.entries → (now ≡ old) ⊎ (substituted s pivot old ≡ Some now) → substituted s pivot now ≡ Some new → substituted s pivot old ≡ Some new
    again old now new h (inl e) k = subst (λ (x : Equation). substituted s pivot x ≡ Some new) e k
    again old now new h (inr e) k = e ∙ sym (below_stays now (lies_below old now h e)) ∙ k

    again_none : (old now : Equation) → Between 0 (suc s) old.entries → (now ≡ old) ⊎ (substituted s pivot old ≡ Some now) → substituted s pivot now ≡ None → substituted s pivot old ≡ None
    again_none old now h (inl e) k = subst (λ (x : Equation). substituted s pivot x ≡ None) e k
    again_none old now h (inr e) k = absurd (let q : Some now ≡ None = sym (below_stays now (lies_below old now h e)) ∙ k in cc)

-- ---- a list that is taken out

module _ (s : ℕ) (lists : List (SmallVec ℕ)) (equations : List Equation) (linked : IsLinked (suc s) (suc s) lists equations) where
  equations-len : length (take s equations) ≡ s
  equations-len = length-take-le s equations (let n = linked.count in omega (arith, n))

  lists-len : length (take s lists) ≡ s
  lists-len = length-take-le s lists (let n = linked.as_many in omega (arith, n))

  list_at : (v : ℕ) → v < s → get_or (take s lists) v no_states ≡ get_or lists v no_states
  list_at v l = get_or-take s lists v no_states l

  pub equation_at : (t : ℕ) → t < s → at (take s equations) t ≡ at equations t
  equation_at t l = get_or-take s equations t no_equation l

  smaller_by : (v t : ℕ) → (length (take s lists) ≤ v) ⊎ (v < length (take s lists)) → IsListed (take s lists) v t → t < v
  smaller_by v t (inl l) h = absurd (let c : Contains [] t = subst (λ (x : SmallVec ℕ). Contains x.items t) (get_or-eq_default (take s lists) no_states l) h in let m = c.1 in omega (arith, m))
  smaller_by v t (inr l) h = linked.smaller v t (subst (λ (x : SmallVec ℕ). Contains x.items t) (list_at v (omega (arith, l, lists-len))) h)

  pub taken_linked : IsLinked s (suc s) (take s lists) (take s equations)
  taken_linked = record {
    count = equations-len;
    as_many = lists-len;
    down = λ t l. subst (λ (e : Equation). Between 0 (suc s) e.entries) (sym (equation_at t l)) (linked.down t (omega arith));
    listed = λ t l. subst (λ (e : Equation). ListsTargets (take s lists) t e.entries) (sym (equation_at t l))
        (λ k d m small within.
        let x = get_or (at equations t).entries k d in
        let u : x.target < s = omega (arith, within, lists-len) in
        let n = linked.as_many in
        subst (λ (y : SmallVec ℕ). Contains y.items t) (sym (list_at x.target u)) (linked.listed t (omega arith) k d m small (omega (arith, u, n))));
    smaller = λ v t h. smaller_by v t (le_or (length (take s lists)) v) h;
  }

  -- its states are smaller, and no state with an entry to s is missing
  pub taken_smaller : All (λ t. t < s) (SmallVec.items (get_or lists s no_states))
  taken_smaller k d l = linked.smaller s (get_or (SmallVec.items (get_or lists s no_states)) k d) (k, l, get_or_default (SmallVec.items (get_or lists s no_states)) k _ d l)

  pub taken_complete : (t : ℕ) → t < s → LeadsTo (at (take s equations) t).entries s → Contains (SmallVec.items (get_or lists s no_states)) t
  taken_complete t l h =
      let h2 = subst (λ (e : Equation). LeadsTo e.entries s) (equation_at t l) h in
      let n = linked.as_many in
      let x = get_or (at equations t).entries h2.0 h2.1 in
      let e : x.target ≡ s = ap Entry.target h2.3 ∙ h2.4 in
      subst (λ (v : ℕ). Contains (SmallVec.items (get_or lists v no_states)) t) e (linked.listed t (omega arith) h2.0 h2.1 h2.2 (omega (arith, e)) (omega (arith, e, n)))

-- ---- one state

-- the equation of s is put into that of t, which is listed at the new targets
module _ (s t : ℕ) (pivot : Equation) (below : Between 0 s pivot.entries) (lists more : List (SmallVec ℕ))
    (old new : List Equation) (within : t < s) (linked : IsLinked s (s + 1) lists old) (kept : ListsMore lists more)
    (fresh : All (λ x. t < x.target → LeadsTo (at old t).entries x.target ⊎ IsListed more x.target t) pivot.entries) (put : IsPutAt s pivot t old new) (len : length new ≡ length old) where
  -- t is listed for v, where there is a list
  abbrev Known : ℕ → Type 0
  Known v = t < v → v < length more → IsListed more v t

  of_old : (v : ℕ) → LeadsTo (at old t).entries v → Known v
  of_old v h l m =
      let x = get_or (at old t).entries h.0 h.1 in
      let e : x.target ≡ v = ap Entry.target h.3 ∙ h.4 in
      let n = kept.count in
      kept.keeps v t (subst (λ (u : ℕ). IsListed lists u t) e (linked.listed t within h.0 h.1 h.2 (omega (arith, e, l)) (omega (arith, e, m, n))))

  of_pivot : (v : ℕ) → LeadsTo (at old t).entries v ⊎ IsListed more v t → Known v
  of_pivot v (inl h) l m = of_old v h l m
  of_pivot v (inr h) l m = h

  known_old : All (λ x. Known x.target) (at old t).entries
  known_old k d l small m = let n = kept.count in kept.keeps _ t (linked.listed t within k d l small (omega (arith, m, n)))

  known_pivot : All (λ x. Known x.target) pivot.entries
  known_pivot k d l small m = of_pivot _ (fresh k d l small) small m

  known_new : All (λ x. Known x.target) (at new t).entries
  known_new = from_targets Known (at new t).entries (targets-substituted Known s pivot (at old t) (at new t) (to_targets Known pivot.entries known_pivot) (to_targets Known (at old t).entries known_old) put.here)

  listed_by : (u : ℕ) → u < s → (u ≡ t) ⊎ (u ≢ t) → ListsTargets more u (at new u).entries
  listed_by u l (inl e) = subst (λ (n : ℕ). ListsTargets more n (at new n).entries) (sym e) known_new
  listed_by u l (inr e) = subst (λ (x : Equation). ListsTargets more u x.entries) (sym (put.others u e)) (λ k d i small m. let n = kept.count in kept.keeps _ u (linked.listed u l k d i small (omega (arith, m, n))))

  suc_is : s + 1 ≡ suc s
  suc_is = omega arith

  down_by : (u : ℕ) → u < s → (u ≡ t) ⊎ (u ≢ t) → Between 0 (s + 1) (at new u).entries
  down_by u l (inl e) =
      subst (λ (n : ℕ). Between 0 (s + 1) (at new n).entries) (sym e)
      (subst (λ n. Between 0 n (at new t).entries) (sym suc_is) (still_below s pivot below (at old t) (at new t) (subst (λ n. Between 0 n (at old t).entries) suc_is (linked.down t within)) put.here))
  down_by u l (inr e) = subst (λ (x : Equation). Between 0 (s + 1) x.entries) (sym (put.others u e)) (linked.down u l)

  pub put_linked : IsLinked s (s + 1) more new
  put_linked = record {
    count = len ∙ linked.count;
    as_many = kept.count ∙ linked.as_many;
    down = λ u l. down_by u l (one_or_two t u);
    listed = λ u l. listed_by u l (one_or_two t u);
    smaller = kept.smaller linked.smaller;
  }

-- ---- several states, one after the other

-- the equation of s is put into those of the first j states, and into no others
pub record IsPutBelow (s : ℕ) (pivot : Equation) (states : List ℕ) (j : ℕ) (old now : List Equation) : Type 0 where
  pub either : (u : ℕ) → u < s → (at now u ≡ at old u) ⊎ (substituted s pivot (at old u) ≡ Some (at now u))
  pub done : (k d : ℕ) → k < j → substituted s pivot (at old (get_or states k d)) ≡ Some (at now (get_or states k d))

module _ (s : ℕ) (pivot : Equation) (below : Between 0 s pivot.entries) (states : List ℕ) (old : List Equation) (down : LeadBelow s (suc s) old) where
  pub put_first : IsPutBelow s pivot states 0 old old
  put_first = record { either = λ u l. inl refl; done = λ k d l. absurd (omega arith) }

  -- the next one is state t
  module _ (j d : ℕ) (now : List Equation) (inside : j < length states) (small : All (λ t. t < s) states) (so_far : IsPutBelow s pivot states j old now) where
    abbrev t : ℕ
    t = get_or states j d

    within : t < s
    within = small j d inside

    pub put_stop : length old ≡ s → substituted s pivot (at now t) ≡ None → each (substituted s pivot) old ≡ None
    put_stop n h = each-none (substituted s pivot) no_equation old t (omega (arith, n, within)) (again_none s pivot below (at old t) (at now t) (down t within) (so_far.either t within) h)

    module _ (new : List Equation) (put : IsPutAt s pivot t now new) where
      here : substituted s pivot (at old t) ≡ Some (at new t)
      here = again s pivot below (at old t) (at now t) (at new t) (down t within) (so_far.either t within) put.here

      either_by : (u : ℕ) → u < s → (u ≡ t) ⊎ (u ≢ t) → (at new u ≡ at old u) ⊎ (substituted s pivot (at old u) ≡ Some (at new u))
      either_by u l (inl e) = inr (subst (λ (n : ℕ). substituted s pivot (at old n) ≡ Some (at new n)) (sym e) here)
      either_by u l (inr e) = subst (λ (x : Equation). (x ≡ at old u) ⊎ (substituted s pivot (at old u) ≡ Some x)) (sym (put.others u e)) (so_far.either u l)

      done_by : (k i : ℕ) → (k < j) ⊎ (k ≡ j) → (get_or states k i ≡ t) ⊎ (get_or states k i ≢ t) → substituted s pivot (at old (get_or states k i)) ≡ Some (at new (get_or states k i))
      done_by k i m (inl e) = subst (λ (n : ℕ). substituted s pivot (at old n) ≡ Some (at new n)) (sym e) here
      done_by k i (inl m) (inr e) = subst (λ (x : Equation). substituted s pivot (at old (get_or states k i)) ≡ Some x) (sym (put.others (get_or states k i) e)) (so_far.done k i m)
      done_by k i (inr m) (inr e) = absurd (e (ap (λ n. get_or states n i) m ∙ get_or_default states j i d inside))

      pub put_next : IsPutBelow s pivot states (j + 1) old new
      put_next = record {
        either = λ u l. either_by u l (one_or_two t u);
        done = λ k i l. done_by k i (before_or j k l) (one_or_two t (get_or states k i));
      }

  module _ (now : List Equation) (so_far : IsPutBelow s pivot states (length states) old now) (complete : (t : ℕ) → t < s → LeadsTo (at old t).entries s → Contains states t) where
    put_by : (t : ℕ) → t < s → (o : Option ℚ) → entry_to s (at old t).entries ≡ o
        → (at now t ≡ at old t) ⊎ (substituted s pivot (at old t) ≡ Some (at now t)) → substituted s pivot (at old t) ≡ Some (at now t)
    put_by t l (Some p) e h =
        let c = complete t l (leads-entry s p (at old t).entries e) in
        subst (λ (n : ℕ). substituted s pivot (at old n) ≡ Some (at now n)) c.2 (so_far.done c.0 t c.1)
    put_by t l None e (inr h) = h
    put_by t l None e (inl h) = no_change s pivot (at old t) e (sym (without_none s (at old t).entries e)) ∙ ap Some (sym h)

    pub put_all : length old ≡ s → length now ≡ length old → each (substituted s pivot) old ≡ Some now
    put_all n m = each-from (substituted s pivot) no_equation old now m (λ t l. put_by t (omega (arith, n)) (entry_to s (at old t).entries) refl (so_far.either t (omega (arith, n))))

-- one equation is replaced
pub put_at : (s t : ℕ) (pivot : Equation) (old : List Equation) (e : Equation) → t < length old → substituted s pivot (at old t) ≡ Some e → IsPutAt s pivot t old (set old t e)
put_at s t pivot old e l h = record {
  here = h ∙ ap Some (sym (get_or-set_same old t e no_equation l));
  others = λ u n. get_or-set_other old t u e no_equation n;
}

-- ---- state s is eliminated

module _ (s : ℕ) (lists : List (SmallVec ℕ)) (equations : List Equation) (linked : IsLinked (s + 1) (s + 1) lists equations) where
  pub more_is : s + 1 ≡ suc s
  more_is = omega arith

  pub linked_suc : IsLinked (suc s) (suc s) lists equations
  linked_suc = subst (λ n. IsLinked n n lists equations) more_is linked

  pub equations_taken : remove equations s ≡ take s equations
  equations_taken = remove-last equations s (let n = linked.count in omega (arith, n))

  pub lists_taken : remove lists s ≡ take s lists
  lists_taken = remove-last lists s (let n = linked.as_many in omega (arith, n))

  pub rest_linked : IsLinked s (s + 1) (remove lists s) (remove equations s)
  rest_linked =
      subst (λ n. IsLinked s n (remove lists s) (remove equations s)) (sym more_is)
      (subst (λ (ls : List (SmallVec ℕ)). IsLinked s (suc s) ls (remove equations s)) (sym lists_taken)
      (subst (λ (es : List Equation). IsLinked s (suc s) (take s lists) es) (sym equations_taken) (taken_linked s lists equations linked_suc)))

  pub rest_complete : (t : ℕ) → t < s → LeadsTo (at (remove equations s) t).entries s → Contains (SmallVec.items (get_or lists s no_states)) t
  rest_complete t l h = taken_complete s lists equations linked_suc t l (subst (λ (es : List Equation). LeadsTo (at es t).entries s) equations_taken h)

  module _ (pivot : Equation) (made : divided s (at equations s) ≡ Some pivot) where
    pub pivot_below : Between 0 s pivot.entries
    pivot_below = (divided-is s (at equations s) pivot made).between s (between-without 0 s (at equations s).entries (linked_suc.down s (omega arith)))

    module _ (rest : List Equation) (put : each (substituted s pivot) (remove equations s) ≡ Some rest) where
      pub whole : eliminated s equations ≡ Some (record { pivot = pivot; rest = rest })
      whole = eliminated-some s equations pivot made rest (subst (λ (es : List Equation). each (substituted s pivot) es ≡ Some rest) equations_taken put)

      pub whole_linked : (more : List (SmallVec ℕ)) → IsLinked s (s + 1) more rest → IsLinked s s more rest
      whole_linked more h =
          let is = eliminated-is s equations (record { pivot = pivot; rest = rest }) (let n = linked.count in omega (arith, n)) whole in
          record {
            count = h.count;
            as_many = h.as_many;
            down = rest-down s equations (record { pivot = pivot; rest = rest }) linked_suc.down is;
            listed = h.listed;
            smaller = h.smaller;
          }

    pub whole_none : each (substituted s pivot) (remove equations s) ≡ None → eliminated s equations ≡ None
    whole_none h = eliminated-none_rest s equations pivot made (subst (λ (es : List Equation). each (substituted s pivot) es ≡ None) equations_taken h)
