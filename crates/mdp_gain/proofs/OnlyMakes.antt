-- What a round of an end component of one state makes.
use Rattle.std.proofs.Common.{◌≡◌, ◌≢◌, ℕ, Result, Ok, Err, sym, ap, subst}
use Rattle.mdp_math.specs.Rational.{ℚ}
use Rattle.mdp_unichain.specs.{Component.{Component, IsInner, row_by, IsPolicy, IsComponent}, Improvement.{IsImproved}}
use Rattle.mdp_unichain.specs.Written.{Values, written_values, written_improved}
use Rattle.mdp_unichain.proofs.Compares.{improves_exactly}
use Rattle.mdp_gain.specs.Code as code
use Rattle.mdp_policy_iteration.specs.{Faults.{Says}, Errors.{RoundError}}
use Rattle.mdp_gain.specs.{Only.{IsOnly, policy_of, values_of, Makes}, declared.only_round.Turn.{Turn}}
use Rattle.mdp_wide.specs.declared.unfinished.Unfinished.TheVariants as fault
use Rattle.mdp_gain.specs.declared.only_round.Turn.TheVariants as turn
use Rattle.mdp_gain.proofs.OnlyState.{policy-at, policy-is, only-reference, only-next, only-changed}
use Rattle.mdp_gain.proofs.Rounds.{values_refused, improved_refused, round_done, round_next}

module _ (p : Component) (s : ℕ) where
  pub makes-err : (n c : ℕ) (result : Result Turn RoundError) (e : RoundError) → result ≡ Err e → Makes p s n c (Err e) → Makes p s n c result
  makes-err n c result e q h = subst (Makes p s n c) (sym q) h

  refused-so : (n c : ℕ) (e : RoundError) → code.Makes p n (policy_of p s c) (Err e) → Makes p s n c (Err e)
  refused-so n c (fault.TooWide place) h = h
  refused-so n c fault.Memory h = tt

  module _ (c : ℕ) (o : IsOnly p s) (n : ℕ) where
    pub values-refused : (e : RoundError) → Says e (written_values p (policy_of p s c) s) → Makes p s n c (Err e)
    values-refused e h = refused-so n c e (values_refused p (policy_of p s c) s (only-reference p s o (row_by p (policy_of p s c))) n e h)

    module _ (v : Values) (told : written_values p (policy_of p s c) s ≡ Ok v) where
      pub improved-refused : (e : RoundError) → Says e (written_improved p (policy_of p s c) v) → Makes p s n c (Err e)
      improved-refused e h = refused-so n c e (improved_refused p (policy_of p s c) s (only-reference p s o (row_by p (policy_of p s c))) n v told e h)

    module _ (gain : ℚ) (told : written_values p (policy_of p s c) s ≡ Ok (values_of p gain)) (d : ℕ) (made : written_improved p (policy_of p s c) (values_of p gain) ≡ Ok (policy_of p s d)) where
      pub turn-done : d ≡ c → Makes p s n c (Ok (turn.Done (record { choice = c; gain = gain })))
      turn-done e =
          round_done p (policy_of p s c) s (only-reference p s o (row_by p (policy_of p s c))) n (values_of p gain) told (policy_of p s d) made (ap (policy_of p s) e)

      pub turn-next : IsComponent p → IsInner p s c → d ≢ c → Makes p s n c (Ok (turn.Next d))
      turn-next known i other =
          let is : IsPolicy p (policy_of p s d) = IsImproved.is (improves_exactly p (policy_of p s c) (policy_of p s d) (values_of p gain) (policy-is p s o c i) made) in
          let inner : IsInner p s d = subst (IsInner p s) (policy-at p s o d) (IsPolicy.inner is s (IsOnly.state o)) in
          round_next p (policy_of p s c) s (only-reference p s o (row_by p (policy_of p s c))) n (values_of p gain) told (policy_of p s d) made
          (only-changed p s o known c d inner other) (policy_of p s d) (only-next p s o known c d inner other)
