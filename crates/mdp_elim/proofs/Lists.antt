-- Lists of states to which states are added.
use Rattle.std.proofs.Common.{◌≡◌, ◌≢◌, ℕ, zero, suc, ◌+◌, ◌<◌, ◌⊎◌, inl, inr, Bool, true, false, List, [], ◌∷◌, ◌++◌, length, get_or, refl, sym, ◌∙◌, ap, subst, arith, eqb}
use Rattle.std.proofs.{Math.ListN.{set}, lemmas.List.{get_or-set_same, get_or-set_other, length-set}}
use Rattle.std.proofs.lemmas.List.Elements.{Contains-append_left, Contains-append_right, Contains-append_cases}
use Rattle.std.specs.List.{Contains}
use Rattle.smallvec.specs.SmallVec.{SmallVec}
use Rattle.mdp_elim.specs.{Predecessors.{no_states, IsListed, HoldSmaller, ListsMore, ListsTargets, at}, Entries.{Between}, Equation.{Equation}}
use Rattle.mdp_elim.specs.Kept.{LeadToSmaller}
use Rattle.mdp_spec.specs.Mdp.{Entry}

same_or : (t u : ℕ) (b : Bool) → eqb u t ≡ b → (u ≡ t) ⊎ (u ≢ t)
same_or t u true e = inl (let k : u ≡ t = grind arith in k)
same_or t u false e = inr (λ h. grind arith)

-- they are one state or two
pub one_or_two : (t u : ℕ) → (u ≡ t) ⊎ (u ≢ t)
one_or_two t u = same_or t u (eqb u t) refl

-- no list holds a state
abbrev pub AreEmpty : List (SmallVec ℕ) → Type 0
AreEmpty lists = (v : ℕ) → SmallVec.items (get_or lists v no_states) ≡ []

pub empty-more : (lists : List (SmallVec ℕ)) (new : SmallVec ℕ) → AreEmpty lists → new.items ≡ [] → AreEmpty (lists ++ new ∷ [])
empty-more [] new h e zero = e
empty-more [] new h e (suc v) = refl
empty-more (l ∷ lists) new h e zero = h 0
empty-more (l ∷ lists) new h e (suc v) = empty-more lists new (λ u. h (suc u)) e v

-- no equation has an entry
abbrev pub HaveNoEntries : List Equation → Type 0
HaveNoEntries equations = (s : ℕ) → Equation.entries (at equations s) ≡ []

pub no_entries-more : (equations : List Equation) (new : Equation) → HaveNoEntries equations → new.entries ≡ [] → HaveNoEntries (equations ++ new ∷ [])
no_entries-more [] new h e zero = e
no_entries-more [] new h e (suc s) = refl
no_entries-more (x ∷ equations) new h e zero = h 0
no_entries-more (x ∷ equations) new h e (suc s) = no_entries-more equations new (λ u. h (suc u)) e s

pub no_entries-down : (equations : List Equation) → HaveNoEntries equations → LeadToSmaller equations
no_entries-down equations h s l = subst (λ (row : List Entry). Between 0 s row) (sym (h s)) tt

pub empty-smaller : (lists : List (SmallVec ℕ)) → AreEmpty lists → HoldSmaller lists
empty-smaller lists h v t k = absurd (let c : Contains [] t = subst (λ (xs : List ℕ). Contains xs t) (h v) k in let l = c.1 in omega (arith, l))

pub more-then : (a b c : List (SmallVec ℕ)) → ListsMore a b → ListsMore b c → ListsMore a c
more-then a b c h k = record { count = k.count ∙ h.count; keeps = λ v t l. k.keeps v t (h.keeps v t l); smaller = λ l. k.smaller (h.smaller l) }

module _ (lists : List (SmallVec ℕ)) (v t : ℕ) (new : SmallVec ℕ) (within : v < length lists) (is : new.items ≡ SmallVec.items (get_or lists v no_states) ++ t ∷ []) where
  at-same : SmallVec.items (get_or (set lists v new) v no_states) ≡ SmallVec.items (get_or lists v no_states) ++ t ∷ []
  at-same = ap SmallVec.items (get_or-set_same lists v new no_states within) ∙ is

  pub list-here : IsListed (set lists v new) v t
  list-here = subst (λ (xs : List ℕ). Contains xs t) (sym at-same) (Contains-append_right (SmallVec.items (get_or lists v no_states)) (t ∷ []) t (0, omega arith, refl))

  keeps_by : (u w : ℕ) → (u ≡ v) ⊎ (u ≢ v) → IsListed lists u w → IsListed (set lists v new) u w
  keeps_by u w (inl e) h =
      subst (λ (n : ℕ). IsListed (set lists v new) n w) (sym e)
      (subst (λ (xs : List ℕ). Contains xs w) (sym at-same) (Contains-append_left (SmallVec.items (get_or lists v no_states)) (t ∷ []) w (subst (λ (n : ℕ). IsListed lists n w) e h)))
  keeps_by u w (inr e) h = subst (λ (l : SmallVec ℕ). Contains l.items w) (sym (get_or-set_other lists v u new no_states e)) h

  only_one : (w : ℕ) → Contains (t ∷ []) w → t ≡ w
  only_one w (zero, l, e) = e
  only_one w (suc k, l, e) = absurd (omega arith)

  here_by : (w : ℕ) → t < v → HoldSmaller lists → Contains (SmallVec.items (get_or lists v no_states)) w ⊎ Contains (t ∷ []) w → w < v
  here_by w l h (inl c) = h v w c
  here_by w l h (inr c) = subst (λ (n : ℕ). n < v) (only_one w c) l

  smaller_by : (u w : ℕ) → t < v → HoldSmaller lists → (u ≡ v) ⊎ (u ≢ v) → IsListed (set lists v new) u w → w < u
  smaller_by u w l h (inl e) k =
      subst (λ (n : ℕ). w < n) (sym e)
      (here_by w l h (Contains-append_cases (SmallVec.items (get_or lists v no_states)) (t ∷ []) w (subst (λ (xs : List ℕ). Contains xs w) at-same (subst (λ (n : ℕ). IsListed (set lists v new) n w) e k))))
  smaller_by u w l h (inr e) k = h u w (subst (λ (l : SmallVec ℕ). Contains l.items w) (get_or-set_other lists v u new no_states e) k)

  pub list-more : t < v → ListsMore lists (set lists v new)
  list-more l = record {
    count = length-set lists v new;
    keeps = λ u w h. keeps_by u w (one_or_two v u) h;
    smaller = λ h u w k. smaller_by u w l h (one_or_two v u) k;
  }

-- ---- the lists of the states below t

next_by : (lists more : List (SmallVec ℕ)) (equations : List Equation) (t u : ℕ) → ListsMore lists more → ((u : ℕ) → u < t → ListsTargets lists u (at equations u).entries)
    → ListsTargets more t (at equations t).entries → (u ≡ t) ⊎ (u ≢ t) → u < t + 1 → ListsTargets more u (at equations u).entries
next_by lists more equations t u kept h new (inl e) l = subst (λ (n : ℕ). ListsTargets more n (at equations n).entries) (sym e) new
next_by lists more equations t u kept h new (inr e) l =
    let m : u < t = grind arith in
    λ k d i small inside. let n = kept.count in kept.keeps _ u (h u m k d i small (omega (arith, inside, n)))

pub targets-next : (lists more : List (SmallVec ℕ)) (equations : List Equation) (t : ℕ) → ListsMore lists more → ((u : ℕ) → u < t → ListsTargets lists u (at equations u).entries)
    → ListsTargets more t (at equations t).entries → (u : ℕ) → u < t + 1 → ListsTargets more u (at equations u).entries
targets-next lists more equations t kept h new u l = next_by lists more equations t u kept h new (one_or_two t u) l
