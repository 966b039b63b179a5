-- Each step of a query's path improves the policy, and no policy comes twice.
use Rattle.std.proofs.Common.{◌≡◌, ℕ, zero, suc, ◌<◌, ◌⊎◌, inl, inr, List, refl, sym, ◌∙◌, ap, subst, arith}
use Rattle.mdp_math.specs.Rational.{ℚ}
use Rattle.mdp_spec.specs.Mdp.{value_at}
use Rattle.mdp_elim.specs.Laws.{GivesSolutions}
use Rattle.mdp_policy_iteration.specs.{Iteration.{Step, next}, Path.{Round, Refusal}, Laws.{first}}
use Rattle.mdp_unichain.specs.{Chain.{IsReference}, Component.{Component, is_state, row_by, reward_by, IsComponent}, Evaluation.{IsEvaluation}}
use Rattle.mdp_unichain.specs.{Improvement.{IsEvaluated, IsImproved, IsNext}, Part.{inner_component}, Path.{Found, Makes, IsStart}, Written.{written_values}}
use Rattle.mdp_unichain.proofs.{Classes.{one_reference}, Ending.{none_twice}, Improving.{has_one_evaluation, gain_rises_next, bias_rises}, Starts.{has_one_first}}
use Rattle.mdp_unichain.proofs.{Nexts.{exact_is_next}, Paths.{Goes_on, evaluation_next, now, imp, after, some_changed, kept, one, first_is_start}}
use Rattle.mdp_gain.specs.{Improvement.{LeadsTo, HasValues, GainIsBetter, BiasIsBetter, ImprovesTo}, Laws.{StepImproves, NoPolicyTwice}}
use Rattle.mdp_gain.proofs.BestInner.{known}

module _ (p : Component) (is : IsComponent p) where
  has_values : (policy : List ℕ) (t : ℕ) (gain : ℚ) (bias : ℕ → ℚ) → IsEvaluated p policy t gain bias → HasValues p policy t gain bias
  has_values policy t gain bias e =
      let o = has_one_evaluation p policy t is e.is (IsReference.leads e.reference) in
      let own = o.3 gain bias e.values in
      record {
        are = e;
        only = λ u g h k.
            let same : u ≡ t = one_reference (is_state p) (row_by p policy) u t k.reference e.reference in
            let other = o.3 g h (subst (λ (v : ℕ). IsEvaluation (is_state p) (row_by p policy) (reward_by p policy) v g h) same k.values) in
            (same, other.0 ∙ sym own.0, λ s. other.1 s ∙ sym (own.1 s));
      }

  module _ (policy improved next_one : List ℕ) (t u : ℕ) (gain g : ℚ) (bias h : ℕ → ℚ) (e : IsEvaluated p policy t gain bias) (i : IsImproved p policy gain bias improved)
      (k : IsEvaluated p next_one u g h) where
    better : IsNext p policy improved next_one → GainIsBetter p policy improved next_one gain g ⊎ BiasIsBetter p policy improved next_one t u gain g bias h
    better (inl same) =
        inr (record {
          keeps = same.1;
          is_next = same.0;
          rose = bias_rises p policy improved t u gain g bias h is e i same.1 (subst (λ (q : List ℕ). IsEvaluated p q u g h) same.0 k);
        })
    better (inr goes) = inl (record { class = goes.0; toward = goes.1; better = gain_rises_next p policy improved next_one t u gain g bias h goes.0 is e i goes.1 k })

  module _ (gives : GivesSolutions) where
    -- ---- a step

    goes_on : (a b : Round) (l : Makes p a (next b)) → Goes_on p is gives a b l.0
    goes_on a b l = evaluation_next p is gives a b l.0 (written_values p a.policy l.0) refl l.2

    improves : (a b : Round) → IsStart p a.policy → Makes p a (next b) → ImprovesTo p a b
    improves a b k l =
        let g = goes_on a b l in
        let e = now p is gives a b k l.0 l.1 g in
        let i = imp p is gives a b k l.0 l.1 g in
        let f = after p is gives a b k l.0 l.1 g in
        record {
          reference = l.0;
          values = g.v;
          evaluated = g.values;
          before = has_values a.policy l.0 g.v.gain (value_at g.v.bias) e;
          improved = g.improved;
          compared = g.made;
          choices = i;
          changed = some_changed p is gives a b k l.0 l.1 g;
          next_reference = f.0;
          next_gain = f.1;
          next_bias = f.2;
          after = has_values b.policy f.0 f.1 f.2 f.3;
          better = better a.policy g.improved b.policy l.0 f.0 g.v.gain f.1 (value_at g.v.bias) f.2 e i f.3 (exact_is_next p a.policy g.improved b.policy g.exact);
        }

    -- ---- the number of better policies that are left falls with each step

    abbrev left : ℕ → List ℕ → ℕ
    left = (none_twice p is).0

    falls : (a b : Round) (t u : ℕ) → IsStart p a.policy → IsReference (is_state p) (row_by p a.policy) t → IsReference (is_state p) (row_by p b.policy) u → Makes p a (next b)
        → left u b.policy < left t a.policy
    falls a b t u k r w l =
        let g = goes_on a b l in
        let f = after p is gives a b k l.0 l.1 g in
        let c = some_changed p is gives a b k l.0 l.1 g in
        let n = exact_is_next p a.policy g.improved b.policy g.exact in
        let less = (none_twice p is).1 a.policy g.improved b.policy l.0 f.0 g.v.gain f.1 (value_at g.v.bias) f.2 (now p is gives a b k l.0 l.1 g) (imp p is gives a b k l.0 l.1 g) c.0 c.1 n f.3 in
        let before : l.0 ≡ t = one_reference (is_state p) (row_by p a.policy) l.0 t l.1 r in
        let behind : f.0 ≡ u = one_reference (is_state p) (row_by p b.policy) f.0 u (IsEvaluated.reference f.3) w in
        subst (λ (v : ℕ). left v b.policy < left t a.policy) behind (subst (λ (v : ℕ). left f.0 b.policy < left v a.policy) before less)

    starts : (n : ℕ) (a b : Round) → IsStart p a.policy → LeadsTo (Makes p) n a b → IsStart p b.policy
    starts zero a b k l = subst (λ (c : Round). IsStart p c.policy) (sym l) k
    starts (suc n) a b k l = starts n l.0 b (kept p is gives a l.0 k l.1) l.2

    falls_far : (n : ℕ) (a b : Round) (t u : ℕ) → IsStart p a.policy → IsReference (is_state p) (row_by p a.policy) t → IsReference (is_state p) (row_by p b.policy) u
        → LeadsTo (Makes p) (suc n) a b → left u b.policy < left t a.policy
    falls_far zero a b t u k r w l = falls a b t u k r w (subst (λ (c : Round). Makes p a (next c)) (sym l.2) l.1)
    falls_far (suc n) a b t u k r w l =
        let j = kept p is gives a l.0 k l.1 in
        let v = IsStart.reference j in
        let far = falls_far n l.0 b v.0 u j v.1 w l.2 in
        let near = falls a l.0 t v.0 k r v.1 l.1 in
        omega (arith, far, near)

    -- ---- so no policy comes twice

    differs : (n : ℕ) (a b : Round) → IsStart p a.policy → LeadsTo (Makes p) (suc n) a b → b.policy ≡ a.policy → ⊥
    differs n a b k l e =
        let t = IsStart.reference k in
        let w = subst (λ (q : List ℕ). IsReference (is_state p) (row_by p q) t.0) (sym e) t.1 in
        let less = falls_far n a b t.0 t.0 k t.1 w l in
        let own = subst (λ (q : List ℕ). left t.0 q < left t.0 a.policy) e less in
        omega (arith, own)

    next_same : (b c : Round) → (let s : Step Round Found Refusal = next b in s) ≡ next c → b ≡ c
    next_same b c e = cc

    one_round : (n k : ℕ) (x a b : Round) → IsStart p x.policy → LeadsTo (Makes p) n x a → LeadsTo (Makes p) k x b → b.policy ≡ a.policy → b ≡ a
    one_round zero zero x a b s l j e = j ∙ sym l
    one_round zero (suc k) x a b s l j e = absurd (differs k x b s j (e ∙ ap Round.policy l))
    one_round (suc n) zero x a b s l j e = absurd (differs n x a s l (sym e ∙ ap Round.policy j))
    one_round (suc n) (suc k) x a b s l j e =
        let same : j.0 ≡ l.0 = next_same j.0 l.0 (one p is gives x (next j.0) (next l.0) s j.1 l.1) in
        one_round n k l.0 a b (kept p is gives x l.0 s l.1) l.2 (subst (λ (c : Round). LeadsTo (Makes p) k c b) same j.2) e

-- ---- the laws

pub step_improves : GivesSolutions → StepImproves
step_improves gives dir m parts i r a b k w l =
    let p = inner_component dir m parts i r in
    let c = known dir m parts i r k in
    improves p c gives a b (starts p c gives w.steps (first w.start) a (first_is_start p w.start c w.is_first) w.leads) l

pub no_policy_twice : GivesSolutions → NoPolicyTwice
no_policy_twice gives dir m parts i r a b k w v e =
    let p = inner_component dir m parts i r in
    let c = known dir m parts i r k in
    let f = has_one_first p w.is_first.least c w.is_first.is_least.0 in
    let same : v.start ≡ w.start = f.2 v.start v.is_first ∙ sym (f.2 w.start w.is_first) in
    one_round p c gives w.steps v.steps (first w.start) a b (first_is_start p w.start c w.is_first) w.leads
    (subst (λ (q : List ℕ). LeadsTo (Makes p) v.steps (first q) b) same v.leads) e
