-- What the value of a policy for reaching a goal says where states that don't stay are cut: on the model it is its value by way of the states that
-- stay. The policy's trees come to the same there, and each tree of the subsystem has one of the model.
use Rattle.std.proofs.Common.{◌≡◌, ℕ, ◌<◌, Bool, true, false, List, length, get_or, Option, Some, None, Result, Ok, Err, IfOk, sym, ◌∙◌, subst}
use Rattle.mdp_math.specs.Rational.{ℚ, ◌+ℚ◌, ◌≤ℚ◌, ◌<ℚ◌}
use Rattle.mdp_math.proofs.Order.{≤ℚ_trans, ≤ℚ_of_eq}
use Rattle.mdp_spec.specs.{Mdp.{Mdp, states_of, value_at}, Row.{IsMdp}, Tree.{IsPolicy, unfolded, is_marked}, Hit.{hit}, Sub.{sub_of, policy_on}}
use Rattle.mdp_spec.specs.{Bounds.{ReachMax, part}, Until.{until, UntilMax}}
use Rattle.mdp_spec.proofs.Subsystem.{sub-states, stays-kept, policy_on-stays, policy_on_sub}
use Rattle.mdp_spec.proofs.Until.{policy_there, reach_is_until, until_max_exact}
use Rattle.mdp_wide.specs.Errors.{SolveError}
use Rattle.mdp_policy.specs.{Answer.{plain}, Bounds.{PolicyBound, AreGreatest, SomeTreePasses, DeepTreesStayBelow, Raises, Lowers}, Written.{Answer}}
use Rattle.mdp_policy.specs.{declared.value.Change.{Change}, declared.value.PolicyValue.{PolicyValue}}
use Rattle.mdp_policy.proofs.Facts.{IsValued}

module _ (m : Mdp) (stay goals : List Bool) (policy : List ℕ) (known_ : IsMdp m) (is : IsPolicy m policy) where
  abbrev way : Mdp
  way = sub_of m goals stay

  abbrev choices : List ℕ
  choices = policy_on goals stay policy

  inside : (s : ℕ) → s < states_of m → s < states_of way
  inside s h = subst (λ (n : ℕ). s < n) (sym (sub-states m goals stay)) h

  agrees : (s : ℕ) → s < states_of m → is_marked goals s ≡ false → is_marked stay s ≡ true → get_or policy s 0 ≡ get_or choices s 0
  agrees s h g a = sym (policy_on-stays goals stay policy s (stays-kept goals stay s a))

  same_there : (n s : ℕ) → s < states_of m → until m stay goals 1 n (unfolded m policy n s) s ≡ hit way goals 1 n (unfolded way choices n s) s
  same_there = policy_there m stay goals known_ policy choices (policy_on_sub m goals stay policy is) agrees

  module _ (z : List ℚ) where
    bound_there : PolicyBound way None goals z choices → PolicyBound m (Some stay) goals z policy
    bound_there b = record {
      takes = is;
      below = λ n s h. ≤ℚ_trans _ _ _ (≤ℚ_of_eq _ _ (same_there n s h)) (b.below n s (inside s h));
      close = λ s k h hk.
          let c = b.close s k (inside s h) hk in
          (c.0, subst (λ (x : ℚ). value_at z s ≤ℚ x +ℚ part k) (sym (same_there c.0 s h)) c.1);
    }

    greatest_there : PolicyBound way None goals z choices → ReachMax way goals z choices → UntilMax m stay goals z policy
    greatest_there b r = record { takes = is; above = (until_max_exact m stay goals known_ z choices r).above; close = (bound_there b).close }

    passes_there : (s : ℕ) → s < states_of m → SomeTreePasses way None goals z s → SomeTreePasses m (Some stay) goals z s
    passes_there s h p =
        let w = reach_is_until m stay goals known_ p.0 p.1 p.2 s (inside s h) p.3 in
        (p.0, p.1, w.0, w.1, subst (λ (x : ℚ). value_at z s <ℚ x) w.2 p.4)

    below_there : (s : ℕ) → s < states_of m → DeepTreesStayBelow way None goals z s → DeepTreesStayBelow m (Some stay) goals z s
    below_there s h p = (
      p.0,
      p.1,
      λ n.
          let t = p.2 n in
          let w = reach_is_until m stay goals known_ n t.0 t.1 s (inside s h) t.2 in
          (t.0, w.0, w.1, subst (λ (x : ℚ). x +ℚ part p.0 ≤ℚ value_at z s) w.2 t.3),
    )

  pub valued_there : (a : Answer) → IsValued way None goals choices a → IsValued m (Some stay) goals policy a
  valued_there a v =
      let size = sub-states m goals stay in
      record {
        each = v.each ∙ size;
        bound = bound_there a.values v.bound;
        none_up = λ e. greatest_there a.values v.bound (v.none_up e);
        up = λ change e. passes_there a.values change.state (subst (λ (n : ℕ). change.state < n) size (v.up_in change e)) (v.up change e);
        down = λ change e. below_there a.values change.state (subst (λ (n : ℕ). change.state < n) size (v.down_in change e)) (v.down change e);
        up_in = λ change e. subst (λ (n : ℕ). change.state < n) size (v.up_in change e);
        down_in = λ change e. subst (λ (n : ℕ). change.state < n) size (v.down_in change e);
      }

-- ---- so does what was answered there

if_ok_so : {A E : Type 0} (r : Result A E) (P Q : A → Type 0) → ((x : A) → P x → Q x) → IfOk r P → IfOk r Q
if_ok_so (Ok x) P Q f h = f x h
if_ok_so (Err e) P Q f h = tt

module _ (m : Mdp) (stay goals : List Bool) (policy : List ℕ) (known_ : IsMdp m) (is : IsPolicy m policy) where
  pub answered_there : (r : Result PolicyValue SolveError)
      → IfOk r (λ v. IsValued (sub_of m goals stay) None goals (policy_on goals stay policy) (plain v)) → IfOk r (λ v. IsValued m (Some stay) goals policy (plain v))
  answered_there r = if_ok_so r _ _ (λ v. valued_there m stay goals policy known_ is (plain v))

module _ (m : Mdp) (stay : Option (List Bool)) (goals : List Bool) (policy : List ℕ) where
  -- the clauses together, and each of them
  pub as_one : (r : Result PolicyValue SolveError) → IfOk r (λ v. length v.values.items ≡ states_of m) → IfOk r (λ v. PolicyBound m stay goals v.values.items policy)
      → IfOk r (λ v. v.up ≡ None → AreGreatest m stay goals v.values.items policy)
      → IfOk r (λ v. Raises m stay goals (plain v)) → IfOk r (λ v. Lowers m stay goals (plain v))
      → IfOk r (λ v. (change : Change) → v.up ≡ Some change → change.state < states_of m)
      → IfOk r (λ v. (change : Change) → v.down ≡ Some change → change.state < states_of m) → IfOk r (λ v. IsValued m stay goals policy (plain v))
  as_one (Ok v) each bound none_up up down up_in down_in = record {
    each = each;
    bound = bound;
    none_up = none_up;
    up = up;
    down = down;
    up_in = up_in;
    down_in = down_in;
  }
  as_one (Err e) each bound none_up up down up_in down_in = tt

  module _ (r : Result PolicyValue SolveError) (valued : IfOk r (λ v. IsValued m stay goals policy (plain v))) where
    pub each_part : IfOk r (λ v. length v.values.items ≡ states_of m)
    each_part = if_ok_so r _ _ (λ v h. IsValued.each h) valued

    pub bound_part : IfOk r (λ v. PolicyBound m stay goals v.values.items policy)
    bound_part = if_ok_so r _ _ (λ v h. IsValued.bound h) valued

    pub none_up_part : IfOk r (λ v. v.up ≡ None → AreGreatest m stay goals v.values.items policy)
    none_up_part = if_ok_so r _ _ (λ v h. IsValued.none_up h) valued

    pub up_part : IfOk r (λ v. Raises m stay goals (plain v))
    up_part = if_ok_so r _ _ (λ v h. IsValued.up h) valued

    pub down_part : IfOk r (λ v. Lowers m stay goals (plain v))
    down_part = if_ok_so r _ _ (λ v h. IsValued.down h) valued
