-- The laws of iteration: where each step makes one thing there is one end at most, and there is one where a number falls with each step.
use Rattle.std.proofs.Common.{◌≡◌, ℕ, zero, suc, ◌<◌, Result, Ok, Err, refl, sym, ◌∙◌, subst, arith}
use Rattle.mdp_policy_iteration.specs.Iteration.{Step, next, done, refused}
use Rattle.mdp_unichain.specs.Iteration.{Follows, EndsWithin, EndsWith}

-- what each step keeps, in so far as P says
module _ {A E R : Type 0} (Makes : A → Step A E R → Type 0) (P : A → Type 0) (kept : (a b : A) → P a → Makes a (next b) → P b) where
  -- there is one end at most
  module _ (one : (a : A) (s q : Step A E R) → P a → Makes a s → Makes a q → s ≡ q) where
    one_follows : (n k : ℕ) (a : A) (s : Step A E R) (r q : Result E R) → P a → Makes a s → ((b : A) → P b → EndsWithin Makes n b r → EndsWithin Makes k b q → r ≡ q)
        → Follows (EndsWithin Makes n) s r → Follows (EndsWithin Makes k) s q → r ≡ q
    one_follows n k a (next b) r q p m ih h j = ih b (kept a b p m) h j
    one_follows n k a (done x) r q p m ih h j = h ∙ sym j
    one_follows n k a (refused x) r q p m ih h j = h ∙ sym j

    one_within : (n k : ℕ) (a : A) (r q : Result E R) → P a → EndsWithin Makes n a r → EndsWithin Makes k a q → r ≡ q
    one_within zero k a r q p h j = absurd h
    one_within (suc n) zero a r q p h j = absurd j
    one_within (suc n) (suc k) a r q p h j =
        one_follows n k a h.0 r q p h.1 (λ b i x y. one_within n k b r q i x y) h.2 (subst (λ (s : Step A E R). Follows (EndsWithin Makes k) s q) (one a j.0 h.0 p j.1 h.1) j.2)

    pub one_end : (a : A) (r q : Result E R) → P a → EndsWith Makes a r → EndsWith Makes a q → r ≡ q
    one_end a r q p h j = one_within h.0 j.0 a r q p h.1 j.1

  -- what each step keeps holds at the end
  module _ (Q : E → Type 0) (last : (a : A) (x : E) → P a → Makes a (done x) → Q x) where
    end_by : (n : ℕ) (a : A) (s : Step A E R) (x : E) → P a → Makes a s → ((b : A) → P b → EndsWithin Makes n b (Ok x) → Q x) → Follows (EndsWithin Makes n) s (Ok x) → Q x
    end_by n a (next b) x p m ih h = ih b (kept a b p m) h
    end_by n a (done y) x p m ih h = let same : x ≡ y = cc in subst Q (sym same) (last a y p m)
    end_by n a (refused y) x p m ih h = cc

    holds_within : (n : ℕ) (a : A) (x : E) → P a → EndsWithin Makes n a (Ok x) → Q x
    holds_within zero a x p h = absurd h
    holds_within (suc n) a x p h = end_by n a h.0 x p h.1 (λ b q i. holds_within n b x q i) h.2

    pub holds_at_end : (a : A) (x : E) → P a → EndsWith Makes a (Ok x) → Q x
    holds_at_end a x p h = holds_within h.0 a x p h.1

  -- where each step makes something, and a number falls with each next, there is an end
  module _ (some : (a : A) → P a → (s : Step A E R) × Makes a s) (measure : A → ℕ) (falls : (a b : A) → P a → Makes a (next b) → measure b < measure a) where
    ends_by : (m : ℕ) (a : A) (s : Step A E R) → P a → measure a < suc m → Makes a s → ((b : A) → P b → measure b < m → (r : Result E R) × EndsWith Makes b r) → (r : Result E R) × EndsWith Makes a r
    ends_by m a (next b) p l k ih = let r = ih b (kept a b p k) (let f = falls a b p k in omega arith) in (r.0, (suc r.1.0, (next b, k, r.1.1)))
    ends_by m a (done x) p l k ih = (Ok x, (1, (done x, k, refl)))
    ends_by m a (refused x) p l k ih = (Err x, (1, (refused x, k, refl)))

    ends_within : (m : ℕ) (a : A) → P a → measure a < m → (r : Result E R) × EndsWith Makes a r
    ends_within zero a p l = absurd (omega arith)
    ends_within (suc m) a p l = let s = some a p in ends_by m a s.0 p l s.1 (ends_within m)

    pub has_end : (a : A) → P a → (r : Result E R) × EndsWith Makes a r
    has_end a p = ends_within (suc (measure a)) a p (omega arith)
