-- How near the lower and the upper values of a query come, or that the exact query is too wide.
use Rattle.std.specs.Prelude.{◌≡◌, ◌⊎◌, ℕ, List, Option, Some}
use Rattle.mdp_math.specs.Rational.{ℚ}
use Rattle.mdp_spec.specs.{Labels.{place_of, marks_of}, Mdp.{Mdp}, Sub.{sub_of}}
use Rattle.mdp_rows.specs.declared.dir.Dir.{Dir}
use Rattle.mdp_cert.specs.BoundsCert.{PlainBounds, probabilities, rewards, gains}
use Rattle.mdp_job.specs.Job.{PlainQuery, reach, until, reward, mean}
use Rattle.mdp_search_bounds.specs.{Near.{AreNear, AreRewardsNear, AreValuesNear}, Wide.{IsReachWide, IsRewardWide, IsMeanWide, IsDiscountWide}}

-- the query's names are those of the model, and at each state the upper value is as near to the lower one as the digits say, or the exact query ends with
-- a term past width: that of `until` is asked of the model that is cut to the states with the label on the way
abbrev pub IsNearOrWide : ℕ → Dir → PlainQuery → Mdp → PlainBounds → Type 0
IsNearOrWide digits dir (reach label) m (probabilities lower upper policy ranks) =
    (l : ℕ) × (place_of label m.labels ≡ Some l) × (AreNear digits m lower upper ⊎ IsReachWide dir m (marks_of m l))
IsNearOrWide digits dir (until stay label) m (probabilities lower upper policy ranks) =
    (a : ℕ) × (l : ℕ) × (place_of stay m.labels ≡ Some a) × (place_of label m.labels ≡ Some l)
    × (AreNear digits m lower upper ⊎ IsReachWide dir (sub_of m (marks_of m l) (marks_of m a)) (marks_of m l))
IsNearOrWide digits dir (reward name label) m (rewards lower upper policy ranks) =
    (r : ℕ) × (l : ℕ) × (place_of name m.names ≡ Some r) × (place_of label m.labels ≡ Some l)
    × (AreRewardsNear digits m lower upper ⊎ IsRewardWide dir m r (marks_of m l))
IsNearOrWide digits dir (mean name) m (gains lower upper bound bias policy spread) =
    (r : ℕ) × (place_of name m.names ≡ Some r) × (AreNear digits m lower upper ⊎ IsMeanWide dir m r)
IsNearOrWide digits dir query m body = ⊥

-- the same of the discounted rewards of a name, or a check of the exact answer as bounds comes to a term past width
abbrev pub IsDiscountNearOrWide : ℕ → Dir → List ℕ → ℚ → Mdp → List (Option ℚ) → List (Option ℚ) → Type 0
IsDiscountNearOrWide digits dir name f m lower upper =
    (r : ℕ) × (place_of name m.names ≡ Some r) × (AreValuesNear digits m lower upper ⊎ IsDiscountWide dir m r f)
