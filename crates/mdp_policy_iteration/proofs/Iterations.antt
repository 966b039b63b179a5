-- The laws of iteration: it has one end at most, and it has one where a number falls with each step.
use Rattle.std.proofs.Common.{◌≡◌, ℕ, zero, suc, ◌+◌, ◌<◌, ◌≤◌, Option, Some, Result, Ok, Err, refl, sym, ◌∙◌, ap, subst, arith}
use Rattle.mdp_policy_iteration.specs.Iteration.{Step, next, done, refused, followed, iterated, EndsWith}

module _ {A E R : Type 0} (step : A → Step A E R) where
  followed_more : (f g : A → Option (Result E R)) (s : Step A E R) (r : Result E R) → ((b : A) → f b ≡ Some r → g b ≡ Some r) → followed f s ≡ Some r → followed g s ≡ Some r
  followed_more f g (next b) r h e = h b e
  followed_more f g (done x) r h e = e
  followed_more f g (refused x) r h e = e

  -- more steps end as well
  pub iterated-more : (n k : ℕ) (a : A) (r : Result E R) → iterated step n a ≡ Some r → n ≤ k → iterated step k a ≡ Some r
  iterated-more zero k a r e l = cc
  iterated-more (suc n) zero a r e l = absurd (omega arith)
  iterated-more (suc n) (suc k) a r e l = followed_more (iterated step n) (iterated step k) (step a) r (λ b h. iterated-more n k b r h (omega arith)) e

  -- there is one end at most
  pub one_end : (a : A) (r q : Result E R) → EndsWith step a r → EndsWith step a q → r ≡ q
  one_end a r q h k = let e = iterated-more h.0 (h.0 + k.0) a r h.1 (omega arith) in let f = iterated-more k.0 (h.0 + k.0) a q k.1 (omega arith) in some_same r q (sym e ∙ f)
    where
      some_same : (x y : Result E R) → Some x ≡ Some y → x ≡ y
      some_same x y e = cc

  -- the ends of one step
  pub ends-next : (a b : A) (r : Result E R) → step a ≡ next b → EndsWith step b r → EndsWith step a r
  ends-next a b r e h = (suc h.0, ap (followed (iterated step h.0)) e ∙ h.1)

  pub ends-done : (a : A) (x : E) → step a ≡ done x → EndsWith step a (Ok x)
  ends-done a x e = (suc zero, ap (followed (iterated step zero)) e)

  pub ends-refused : (a : A) (x : R) → step a ≡ refused x → EndsWith step a (Err x)
  ends-refused a x e = (suc zero, ap (followed (iterated step zero)) e)

  -- what each step keeps holds at the end
  module _ (P : A → Type 0) (Q : E → Type 0) (kept : (a b : A) → P a → step a ≡ next b → P b) (last : (a : A) (x : E) → P a → step a ≡ done x → Q x) where
    end_by : (f : A → Option (Result E R)) (a : A) (s : Step A E R) (x : E) → P a → step a ≡ s → ((b : A) → P b → f b ≡ Some (Ok x) → Q x) → followed f s ≡ Some (Ok x) → Q x
    end_by f a (next b) x p e ih h = ih b (kept a b p e) h
    end_by f a (done y) x p e ih h = let same : y ≡ x = ok_same y x h in subst Q same (last a y p e)
      where
        ok_same : (y x : E) → (let r : Option (Result E R) = Some (Ok y) in r) ≡ Some (Ok x) → y ≡ x
        ok_same y x e = cc
    end_by f a (refused y) x p e ih h = cc

    holds_within : (n : ℕ) (a : A) (x : E) → P a → iterated step n a ≡ Some (Ok x) → Q x
    holds_within zero a x p h = cc
    holds_within (suc n) a x p h = end_by (iterated step n) a (step a) x p refl (λ b q e. holds_within n b x q e) h

    pub holds_at_end : (a : A) (x : E) → P a → EndsWith step a (Ok x) → Q x
    holds_at_end a x p h = holds_within h.0 a x p h.1

  -- where a number falls with each next, there is an end
  module _ (P : A → Type 0) (measure : A → ℕ) (falls : (a b : A) → P a → step a ≡ next b → P b × (measure b < measure a)) where
    ends_by : (m : ℕ) (a : A) (s : Step A E R) → P a → measure a < suc m → step a ≡ s → ((b : A) → P b → measure b < m → (r : Result E R) × EndsWith step b r) → (r : Result E R) × EndsWith step a r
    ends_by m a (next b) p l e ih = let f = falls a b p e in let r = ih b f.0 (omega (arith, f.1)) in (r.0, ends-next a b r.0 e r.1)
    ends_by m a (done x) p l e ih = (Ok x, ends-done a x e)
    ends_by m a (refused x) p l e ih = (Err x, ends-refused a x e)

    ends_within : (m : ℕ) (a : A) → P a → measure a < m → (r : Result E R) × EndsWith step a r
    ends_within zero a p l = absurd (omega arith)
    ends_within (suc m) a p l = ends_by m a (step a) p l refl (ends_within m)

    pub has_end : (a : A) → P a → (r : Result E R) × EndsWith step a r
    has_end a p = ends_within (suc (measure a)) a p (omega arith)
