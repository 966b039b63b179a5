-- A verdict is yes exactly where each check holds; and the claims on lists of checks, part by part.
use Rattle.std.proofs.Common.{◌≡◌, ℕ, zero, suc, ◌+◌, ◌<◌, Bool, true, false, cond, List, [], ◌∷◌, ◌++◌, map, Option, Some, None, ⊎_elim, refl, sym, ap, subst, ◌∙◌, arith}
use Rattle.std.specs.{List.{flat_map, range_with_len, AllByRecursion}, Option.{IsSome}, Prelude.{Result}}
use Rattle.mdp_math.proofs.{Numbers.{last_or}, Lists.{flat_more, map_more}}
use Rattle.mdp_farkas.specs.Verdict.{Check, objection, objection_to, verdict, verdict_of, InWidth, IfYes}
use Rattle.mdp_claims.specs.{declared.verdict.Fault.{Fault}, declared.verdict.Verdict.{Verdict}, declared.verdict.Verdict.TheVariants.{Yes, No, Wide}}
use Rattle.mdp_claims.specs.declared.verdict.Objection.{Objection}
use Rattle.mdp_math.specs.Result.{◌>>=◌}

abbrev pub Each : (Check → Type 0) → List Check → Type 0
Each P cs = AllByRecursion P cs

abbrev pub Holds : Check → Type 0
Holds c = c.holds ≡ Some true

none_against : (c : Check) (h : Option Bool) (rest : Result (Unit {0}) Objection) → Yes ≡ verdict (objection c h >>= (λ ok. rest)) → (h ≡ Some true) × (Yes ≡ verdict rest)
none_against c None rest e = cc
none_against c (Some false) rest e = cc
none_against c (Some true) rest e = (refl, e)

pub each_of_yes : (cs : List Check) → verdict_of cs ≡ Yes → Each Holds cs
each_of_yes [] e = tt
each_of_yes (c ∷ cs) e = let d = none_against c c.holds (objection_to cs) (sym e) in (d.0, each_of_yes cs (sym d.1))

pub yes_of_each : (cs : List Check) → Each Holds cs → verdict_of cs ≡ Yes
yes_of_each [] h = refl
yes_of_each (c ∷ cs) h = ap (λ (x : Option Bool). verdict (objection c x >>= (λ ok. objection_to cs))) h.0 ∙ yes_of_each cs h.1

pub told_of_each : (cs : List Check) → Each Holds cs → Each InWidth cs
told_of_each [] h = tt
told_of_each (c ∷ cs) h = (subst (λ (x : Option Bool). IsSome x) (sym h.0) refl, told_of_each cs h.1)

pub if_yes : (v : Verdict) (P : Type 0) → (v ≡ Yes → P) → IfYes v P
if_yes Yes P h = h refl
if_yes (No fault) P h = tt
if_yes (Wide state choice) P h = tt

-- a check that holds where none of its terms is past width
abbrev pub Sound : Check → Type 0
Sound c = IsSome c.holds → c.holds ≡ Some true

pub sound_of_holds : (cs : List Check) → Each Holds cs → Each Sound cs
sound_of_holds [] h = tt
sound_of_holds (c ∷ cs) h = (λ w. h.0, sound_of_holds cs h.1)

pub holds_of_sound : (cs : List Check) → Each Sound cs → Each InWidth cs → Each Holds cs
holds_of_sound [] s w = tt
holds_of_sound (c ∷ cs) s w = (s.0 w.0, holds_of_sound cs s.1 w.1)

no_by : (c : Check) (h : Option Bool) (cs : List Check) (f : Fault) → (IsSome h → h ≡ Some true) → ((g : Fault) → verdict_of cs ≡ No g → ⊥)
    → verdict (objection c h >>= (λ ok. objection_to cs)) ≡ No f → ⊥
no_by c None cs f s rest e = cc
no_by c (Some false) cs f s rest e = let k = s refl in cc
no_by c (Some true) cs f s rest e = rest f e

-- checks of which none is false are never answered no
pub never_no : (cs : List Check) → Each Sound cs → (f : Fault) → verdict_of cs ≡ No f → ⊥
never_no [] s f e = cc
never_no (c ∷ cs) s f e = no_by c c.holds cs f s.0 (never_no cs s.1) e

module _ (P : Check → Type 0) where
  pub each_append : (xs ys : List Check) → Each P xs → Each P ys → Each P (xs ++ ys)
  each_append [] ys h k = k
  each_append (x ∷ xs) ys h k = (h.0, each_append xs ys h.1 k)

  pub each_left : (xs ys : List Check) → Each P (xs ++ ys) → Each P xs
  each_left [] ys h = tt
  each_left (x ∷ xs) ys h = (h.0, each_left xs ys h.1)

  pub each_right : (xs ys : List Check) → Each P (xs ++ ys) → Each P ys
  each_right [] ys h = h
  each_right (x ∷ xs) ys h = each_right xs ys h.1

  pub each_if_true : (b : Bool) (xs ys : List Check) → b ≡ true → Each P (cond b xs ys) → Each P xs
  each_if_true b xs ys e h = subst (λ (c : Bool). Each P (cond c xs ys)) e h

  pub each_if_false : (b : Bool) (xs ys : List Check) → b ≡ false → Each P (cond b xs ys) → Each P ys
  each_if_false b xs ys e h = subst (λ (c : Bool). Each P (cond c xs ys)) e h

  pub each_if : (b : Bool) (xs ys : List Check) → (b ≡ true → Each P xs) → (b ≡ false → Each P ys) → Each P (cond b xs ys)
  each_if true xs ys h k = h refl
  each_if false xs ys h k = k refl

  -- one part for each number below n
  pub each_flat : (f : ℕ → List Check) (n : ℕ) → ((s : ℕ) → s < n → Each P (f s)) → Each P (flat_map f (range_with_len 0 n))
  each_flat f zero h = tt
  each_flat f (suc n) h =
      let e : n + 1 ≡ suc n = omega arith in
      subst (λ (k : ℕ). Each P (flat_map f (range_with_len 0 k))) e
      (subst (λ (cs : List Check). Each P cs) (sym (flat_more f n)) (each_append (flat_map f (range_with_len 0 n)) (f n) (each_flat f n (λ s l. h s (omega arith))) (h n (omega arith))))

  pub each_flat_at : (f : ℕ → List Check) (n s : ℕ) → Each P (flat_map f (range_with_len 0 n)) → s < n → Each P (f s)
  each_flat_at f zero s h l = absurd (omega arith)
  each_flat_at f (suc n) s h l =
      let e : suc n ≡ n + 1 = omega arith in
      let whole = subst (λ (cs : List Check). Each P cs) (flat_more f n) (subst (λ (k : ℕ). Each P (flat_map f (range_with_len 0 k))) e h) in
      ⊎_elim (λ same. subst (λ (k : ℕ). Each P (f k)) (sym same) (each_right (flat_map f (range_with_len 0 n)) (f n) whole))
      (λ less. each_flat_at f n s (each_left (flat_map f (range_with_len 0 n)) (f n) whole) less) (last_or n s l)

  -- one check for each number below n
  pub each_map : (f : ℕ → Check) (n : ℕ) → ((s : ℕ) → s < n → P (f s)) → Each P (map f (range_with_len 0 n))
  each_map f zero h = tt
  each_map f (suc n) h =
      let e : n + 1 ≡ suc n = omega arith in
      subst (λ (k : ℕ). Each P (map f (range_with_len 0 k))) e
      (subst (λ (cs : List Check). Each P cs) (sym (map_more f n)) (each_append (map f (range_with_len 0 n)) (f n ∷ []) (each_map f n (λ s l. h s (omega arith))) (h n (omega arith), tt)))

  pub each_map_at : (f : ℕ → Check) (n s : ℕ) → Each P (map f (range_with_len 0 n)) → s < n → P (f s)
  each_map_at f zero s h l = absurd (omega arith)
  each_map_at f (suc n) s h l =
      let e : suc n ≡ n + 1 = omega arith in
      let whole = subst (λ (cs : List Check). Each P cs) (map_more f n) (subst (λ (k : ℕ). Each P (map f (range_with_len 0 k))) e h) in
      ⊎_elim (λ same. subst (λ (k : ℕ). P (f k)) (sym same) (each_right (map f (range_with_len 0 n)) (f n ∷ []) whole).0)
      (λ less. each_map_at f n s (each_left (map f (range_with_len 0 n)) (f n ∷ []) whole) less) (last_or n s l)
