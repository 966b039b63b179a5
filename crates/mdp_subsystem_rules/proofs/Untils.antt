-- A subsystem of the subsystem of the states that stay is the same as the subsystem of the states that stay of the subsystem with those kept states.
-- So each of its trees is carried to one of the subsystem of the model, which comes to as much by way of states that stay, and back.
use Rattle.std.proofs.Common.{◌≡◌, ℕ, suc, ◌<◌, Bool, true, false, cond, List, [], ◌∷◌, refl, sym, ap, subst, ◌∙◌}
use Rattle.mdp_math.specs.Rational.{ℚ, ◌+ℚ◌, ◌≤ℚ◌}
use Rattle.mdp_spec.specs.{Mdp.{State, Mdp, states_of}, Row.{IsMdp}, Tree.{Tree, IsStrategy}, Hit.{hit}, Sub.{loop_at, cut_from, sub_of}}
use Rattle.mdp_spec.specs.{Bounds.{part}, Until.{until}}
use Rattle.mdp_spec.proofs.{Subsystem.{stays, sub-states, sub_is_mdp}, Until.{until_is_reach, reach_is_until}}
use Rattle.mdp_subsystem_rules.specs.Until.{SubUntilMaxBySub, SubUntilMaxWithinBySub, SubUntilMinBySub}

-- ---- two cuts in either order

abbrev cut_state : List (List ℕ) → ℕ → State → Bool → State
cut_state names s x b = cond b x (record x { choices = loop_at names s ∷ [] })

cut-either : (names : List (List ℕ)) (s : ℕ) (x : State) (a b : Bool) → cut_state names s (cut_state names s x a) b ≡ cut_state names s (cut_state names s x b) a
cut-either names s x true b = refl
cut-either names s x false true = refl
cut-either names s x false false = refl

cuts-either : (names : List (List ℕ)) (f g : ℕ → Bool) (s : ℕ) (states : List State) → cut_from names s (cut_from names s states f) g ≡ cut_from names s (cut_from names s states g) f
cuts-either names f g s [] = refl
cuts-either names f g s (x ∷ states) =
    ap (λ (y : State). y ∷ cut_from names (suc s) (cut_from names (suc s) states f) g) (cut-either names s x (f s) (g s))
    ∙ ap (λ (rest : List State). cut_state names s (cut_state names s x (g s)) (f s) ∷ rest) (cuts-either names f g (suc s) states)

pub subs-either : (m : Mdp) (goals stay kept : List Bool) → sub_of (sub_of m goals stay) goals kept ≡ sub_of (sub_of m goals kept) goals stay
unfolding sub_of
subs-either m goals stay kept = ap (λ (states : List State). record m { states = states }) (cuts-either m.names (stays goals stay) (stays goals kept) 0 m.states)

-- ---- trees

module _ (m : Mdp) (stay goals kept : List Bool) (start : ℕ) (known : IsMdp m) (h : start < states_of m) where
  abbrev small : Mdp
  small = sub_of m goals kept

  abbrev way : Mdp
  way = sub_of (sub_of m goals stay) goals kept

  small_known : IsMdp small
  small_known = sub_is_mdp m goals kept known

  inside : start < states_of small
  inside = subst (λ (n : ℕ). start < n) (sym (sub-states m goals kept)) h

  inside_both : start < states_of (sub_of small goals stay)
  inside_both = subst (λ (n : ℕ). start < n) (sym (sub-states small goals stay)) inside

  -- a tree on the way has one of the subsystem that comes to as much
  back : (n u : ℕ) (t : Tree) → IsStrategy way u n t start → (w : Tree) × IsStrategy small u n w start × (hit way goals u n t start ≡ until small stay goals u n w start)
  back n u t tree =
      let c = reach_is_until small stay goals small_known n u t start inside_both (subst (λ (b : Mdp). IsStrategy b u n t start) (subs-either m goals stay kept) tree) in
      (c.0, c.1, ap (λ (b : Mdp). hit b goals u n t start) (subs-either m goals stay kept) ∙ c.2)

  -- and the other way round
  there : (n u : ℕ) (t : Tree) → IsStrategy small u n t start → (w : Tree) × IsStrategy way u n w start × (until small stay goals u n t start ≡ hit way goals u n w start)
  there n u t tree =
      let c = until_is_reach small stay goals small_known n u t start inside tree in (
        c.0,
        subst (λ (b : Mdp). IsStrategy b u n c.0 start) (sym (subs-either m goals stay kept)) c.1,
        c.2 ∙ sym (ap (λ (b : Mdp). hit b goals u n c.0 start) (subs-either m goals stay kept)),
      )

outside : (m : Mdp) (goals stay : List Bool) (start : ℕ) → start < states_of (sub_of m goals stay) → start < states_of m
outside m goals stay start i = subst (λ (n : ℕ). start < n) (sub-states m goals stay) i

-- ---- the laws

pub sub_until_max : SubUntilMaxBySub
sub_until_max m stay goals kept start threshold known r =
    let h : start < states_of m = outside m goals stay start r.starts in
    record {
      starts = h;
      close = λ k hk.
          let c = r.close k hk in
          let w = back m stay goals kept start known h c.0 c.1 c.2 c.3 in
          (c.0, c.1, w.0, w.1, subst (λ (x : ℚ). threshold ≤ℚ x +ℚ part k) w.2 c.4);
    }

pub sub_until_within : SubUntilMaxWithinBySub
sub_until_within m stay goals kept start threshold flows known r =
    let h : start < states_of m = outside m goals stay start r.starts in
    record {
      starts = h;
      close = λ k hk.
          let c = r.close k hk in
          let w = back m stay goals kept start known h c.0 c.1 c.2 c.3 in
          (c.0, c.1, w.0, w.1, subst (λ (x : ℚ). threshold ≤ℚ x +ℚ part k) w.2 c.4, c.5);
    }

pub sub_until_min : SubUntilMinBySub
sub_until_min m stay goals kept start threshold known r =
    let h : start < states_of m = outside m goals stay start r.starts in
    record {
      starts = h;
      close = λ k hk.
          let c = r.close k hk in (
            c.0,
            λ d u t l tree. let w = there m stay goals kept start known h d u t tree in subst (λ (x : ℚ). threshold ≤ℚ x +ℚ part k) (sym w.2) (c.1 d u w.0 l w.1),
          );
    }
