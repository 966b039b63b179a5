-- How near found bounds come, said of the query that was asked.
use Rattle.std.proofs.Common.{◌≡◌, ℕ, ◌⊎◌, inl, inr, Bool, List, Some, sym, ap₂, subst, ◌∙◌, arith}
use Rattle.mdp_math.specs.Rational.{ℚ}
use Rattle.mdp_spec.specs.{Labels.{place_of, marks_of}, Mdp.{Mdp, states_of}, Sub.{sub_of}}
use Rattle.mdp_rows.specs.declared.dir.Dir.{Dir}
use Rattle.mdp_cert.specs.BoundsCert.{probabilities}
use Rattle.mdp_check.specs.Check.{labelled_marks}
use Rattle.mdp_job.specs.Job.{reach, until}
use Rattle.mdp_search_bounds.specs.{Near.{AreNear}, Wide.{IsReachWide}}
use Rattle.mdp_command_bounds_search.specs.Near.{IsNearOrWide}
use Rattle.mdp_command_bounds_search.proofs.Printing.{marked_at, way_states}

module _ (digits : ℕ) (dir : Dir) (label : List ℕ) (m : Mdp) (goals : List Bool) (marked : labelled_marks m label ≡ Some goals) (lower upper : List ℚ) (policy ranks : List ℕ) where
  -- of reaching the states with this label
  pub reach_near : AreNear digits m lower upper ⊎ IsReachWide dir m goals → IsNearOrWide digits dir (reach label) m (probabilities lower upper policy ranks)
  reach_near near =
      let l = marked_at m (place_of label m.labels) goals marked in
      (l.0, l.1, subst (λ (g : List Bool). AreNear digits m lower upper ⊎ IsReachWide dir m g) (sym l.2) near)

  -- what is so near on a model with as many states is so near here; what is too wide there is too wide on the same model, with the same goals
  as_near : (way cut : Mdp) (ends : List Bool) → way ≡ cut → goals ≡ ends → states_of way ≡ states_of m → AreNear digits way lower upper ⊎ IsReachWide dir way goals
      → AreNear digits m lower upper ⊎ IsReachWide dir cut ends
  as_near way cut ends is same size (inl near) = inl (λ s lt. near s (omega (arith, lt, size)))
  as_near way cut ends is same size (inr wide) = inr (subst (IsReachWide dir cut) same (subst (λ (k : Mdp). IsReachWide dir k goals) is wide))

  -- of reaching them by way of states with that label alone
  pub until_near : (stay : List ℕ) (stays : List Bool) → labelled_marks m stay ≡ Some stays → (way : Mdp) → way ≡ sub_of m goals stays
      → AreNear digits way lower upper ⊎ IsReachWide dir way goals → IsNearOrWide digits dir (until stay label) m (probabilities lower upper policy ranks)
  until_near stay stays stayed way is near =
      let a = marked_at m (place_of stay m.labels) stays stayed in
      let l = marked_at m (place_of label m.labels) goals marked in
      let cut : way ≡ sub_of m (marks_of m l.0) (marks_of m a.0) = is ∙ ap₂ (sub_of m) (sym l.2) (sym a.2) in
      (a.0, l.0, a.1, l.1, as_near way (sub_of m (marks_of m l.0) (marks_of m a.0)) (marks_of m l.0) cut (sym l.2) (way_states m stays goals way is) near)
