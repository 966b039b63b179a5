-- The end of the query, from the end of the query of the model.
use Rattle.std.proofs.Common.{◌≡◌, ℕ, Bool, true, false, List, Option, Some, None, Result, Ok, Err, refl, sym, ◌∙◌, ap, subst}
use Rattle.mdp_math.specs.Rational.{ℚ}
use Rattle.mdp_spec.specs.Mdp.{Mdp, value_at}
use Rattle.mdp_rows.specs.declared.dir.Dir.{Dir}
use Rattle.mdp_farkas.specs.Compare.{is_at_least}
use Rattle.mdp_reach.specs.{Query.{Answer}, Round.{EndsWithRound}}
use Rattle.mdp_witness.specs.Query.{PlainSubsystem, Refusal, below, too_wide, comparing, AfterComparison, FromFirst, EndsSo}

module _ (dir : Dir) (m : Mdp) (goals : List Bool) (start : ℕ) (threshold : ℚ) (n : ℕ) (a : Answer) (solved : EndsWithRound dir m goals n (Ok a)) where
  ends_by : (o : Option Bool) (r : Result PlainSubsystem Refusal) → is_at_least (value_at a.values start) threshold ≡ o → AfterComparison m goals start threshold dir n a o r
      → EndsSo dir m goals start threshold r
  ends_by o r e h = record {
    round = n;
    whole = Ok a;
    solved = solved;
    after = subst (λ (o : Option Bool). AfterComparison m goals start threshold dir n a o r) (sym e) h;
  }

  pub ends-wide : is_at_least (value_at a.values start) threshold ≡ None → EndsSo dir m goals start threshold (Err (too_wide (comparing n a.choices start)))
  ends-wide e = ends_by None (Err (too_wide (comparing n a.choices start))) e refl

  pub ends-below : (v : ℚ) → v ≡ value_at a.values start → is_at_least (value_at a.values start) threshold ≡ Some false → EndsSo dir m goals start threshold (Err (below v))
  ends-below v q e = ends_by (Some false) (Err (below v)) e (ap (λ (v : ℚ). let r : Result PlainSubsystem Refusal = Err (below v) in r) q)

  pub ends-found : is_at_least (value_at a.values start) threshold ≡ Some true → (r : Result PlainSubsystem Refusal) → FromFirst m goals start threshold dir a r → EndsSo dir m goals start threshold r
  ends-found e r h = ends_by (Some true) r e h

-- a comparison of the value, of another number that is the value
pub told : (x v threshold : ℚ) → v ≡ x → (o : Option Bool) → is_at_least v threshold ≡ o → is_at_least x threshold ≡ o
told x v threshold e o h = ap (λ (x : ℚ). is_at_least x threshold) (sym e) ∙ h
