-- Iteration where what a step makes is given as a relation: a step is taken from what the last one made, until it ends or refuses.
use Rattle.std.specs.Prelude.{◌≡◌, ℕ, zero, suc, Result, Ok, Err}
use Rattle.mdp_policy_iteration.specs.Iteration.{Step, next, done, refused}

-- what follows a step, by what follows the next one
abbrev pub Follows : {A E R : Type 0} → (A → Result E R → Type 0) → Step A E R → Result E R → Type 0
Follows rest (next a) r = rest a r
Follows rest (done e) r = r ≡ Ok e
Follows rest (refused x) r = r ≡ Err x

-- it ends so within n steps from a
abbrev pub EndsWithin : {A E R : Type 0} → (A → Step A E R → Type 0) → ℕ → A → Result E R → Type 0
EndsWithin Makes zero a r = ⊥
EndsWithin {A} {E} {R} Makes (suc n) a r = (s : Step A E R) × Makes a s × Follows (EndsWithin Makes n) s r

-- the iteration from a ends so
abbrev pub EndsWith : {A E R : Type 0} → (A → Step A E R → Type 0) → A → Result E R → Type 0
EndsWith Makes a r = (n : ℕ) × EndsWithin Makes n a r
