-- Claims on values that may be missing, and on values of which none is.
use Rattle.std.proofs.Common.{◌≡◌, ℕ, zero, suc, false, true≢false, List, [], ◌∷◌, map, get_or, Option, Some, None, refl, sym, ◌∙◌, ap, subst}
use Rattle.mdp_math.specs.Rational.{ℚ}
use Rattle.mdp_spec.specs.{Mdp.{Entry, Mdp, row_at, value_at}, Tree.{is_marked}, Bounds.{reward_at, finite_part, infinite}, RewardRules.{StaysFinite}}
use Rattle.mdp_spec.proofs.Values.{part_of_some, finite_of_some, infinite_of_none}
use Rattle.mdp_horizon.specs.Between.{Claimed}

-- what follows from a claim
pub claimed_mono : (o : Option ℚ) (f g : ℚ → Type 0) → ((x : ℚ) → f x → g x) → Claimed o f → Claimed o g
claimed_mono None f g step h = tt
claimed_mono (Some x) f g step h = step x h

-- the claim on a value that isn't missing
pub claimed_some : (o : Option ℚ) (x : ℚ) (f : ℚ → Type 0) → o ≡ Some x → Claimed o f → f x
claimed_some o x f e h = subst (λ (o : Option ℚ). Claimed o f) e h

part_by : (z : List (Option ℚ)) (s : ℕ) (f : ℚ → Type 0) (o : Option ℚ) → reward_at z s ≡ o → is_marked (infinite z) s ≡ false → Claimed o f → f (value_at (finite_part z) s)
part_by z s f None e finite h = absurd (true≢false (sym (infinite_of_none z s e) ∙ finite))
part_by z s f (Some x) e finite h = subst f (sym (part_of_some z s x e)) h

pub claimed_part : (z : List (Option ℚ)) (s : ℕ) (f : ℚ → Type 0) → is_marked (infinite z) s ≡ false → Claimed (reward_at z s) f → f (value_at (finite_part z) s)
claimed_part z s f finite h = part_by z s f (reward_at z s) refl finite h

-- ---- none is missing

pub reward_at-some : (z : List ℚ) (s : ℕ) → reward_at (map Some z) s ≡ Some (value_at z s)
reward_at-some [] s = refl
reward_at-some (x ∷ z) zero = refl
reward_at-some (x ∷ z) (suc s) = reward_at-some z s

pub finite_part-some : (z : List ℚ) → finite_part (map Some z) ≡ z
finite_part-some [] = refl
finite_part-some (x ∷ z) = ap (λ (rest : List ℚ). x ∷ rest) (finite_part-some z)

pub claim_all : (z : List ℚ) (s : ℕ) (f : ℚ → Type 0) → f (value_at z s) → Claimed (reward_at (map Some z) s) f
claim_all z s f h = subst (λ (o : Option ℚ). Claimed o f) (sym (reward_at-some z s)) h

pub claimed_all : (z : List ℚ) (s : ℕ) (f : ℚ → Type 0) → Claimed (reward_at (map Some z) s) f → f (value_at z s)
claimed_all z s f h = claimed_some (reward_at (map Some z) s) (value_at z s) f (reward_at-some z s) h

pub stays_finite-some : (m : Mdp) (z : List ℚ) (s c : ℕ) → StaysFinite m (map Some z) s c
stays_finite-some m z s c = λ k d l. finite_of_some (map Some z) _ _ (reward_at-some z (Entry.target (get_or (row_at m s c) k d)))
