-- What is due to a query and to the model.
use Rattle.std.specs.Prelude.{◌≡◌, ℕ, Bool, true, false, List, Option, Some, None, Result, Ok, Err}
use Rattle.mdp_math.specs.Rational.{ℚ}
use Rattle.mdp_spec.specs.{Bounds.{reward_at}, Labels.{place_of, marks_of, initial_of}, Mdp.{Mdp, states_of, value_at}}
use Rattle.mdp_rows.specs.{Negative.{has_negative}, declared.dir.Dir.{Dir}}
use Rattle.mdp_policy_iteration.specs.Ends.{capped}
use Rattle.mdp_wide.specs.Term.{WideTerm}
use Rattle.mdp_reach.specs.Query.{Answer, EndsSo}
use Rattle.mdp_reward.specs.Query as rewarded
use Rattle.mdp_mean.specs.Query as averaged
use Rattle.mdp_cert.specs.Cert as certificate
use Rattle.mdp_cert.specs.{Cert.{PlainClaim, PlainBody, Certificate}, Spelling.{text_of}}
use Rattle.mdp_check.specs.Check.{way_by}
use Rattle.mdp_text.specs.Heads.{init_by}
use Rattle.mdp_job.specs.{Job.{PlainQuery, reach, until, reward, mean}, Refusal.{query_reward, query_label, query_negative, too_wide}}
use Rattle.mdp_command.specs.Said.{Said}
use Rattle.mdp_command_solve.specs.Ways.{place_on_way}

-- ---- the certificate of an answer

abbrev pub certificate_by : PlainClaim → PlainBody → (ℕ → Option ℚ) → Mdp → Certificate
certificate_by claim body value m = record { claim = claim; states = states_of m; init = init_by (initial_of m) value; body = body }

-- the claim that the values are the greatest, or the least, probabilities of reaching the label, by way of states with the label `stay` alone where
-- there is one
abbrev pub claim_of : Dir → Option (List ℕ) → List ℕ → PlainClaim
claim_of dir None label = certificate.reach dir label
claim_of dir (Some stay) label = certificate.until dir stay label

abbrev pub certificate_of : Dir → Option (List ℕ) → List ℕ → Mdp → Answer → Certificate
certificate_of dir stay label m a = certificate_by (claim_of dir stay label) (certificate.policy a.values a.choices a.ranks) (λ s. Some (value_at a.values s)) m

-- the claim that they are the greatest, or the least, rewards of this name until the label
abbrev pub reward_certificate_of : Dir → List ℕ → List ℕ → Mdp → rewarded.Answer → Certificate
reward_certificate_of dir name label m a = certificate_by (certificate.reward dir name label) (certificate.rewards a.values a.choices a.ranks) (reward_at a.values) m

-- the claim that the gains are the greatest, or the least, mean payoffs of this name
abbrev pub mean_certificate_of : Dir → List ℕ → Mdp → averaged.Answer → Certificate
mean_certificate_of dir name m a = certificate_by (certificate.mean dir name) (certificate.gains a.gains a.bound a.bias a.choices a.spread) (λ s. Some (value_at a.gains s)) m

-- its text of version 2; or the first term past width, where a round above 2^64 - 1 is given as 2^64 - 1
abbrev pub said_by : {A : Type 0} → (A → Certificate) → Result A WideTerm → Said
said_by certificate (Ok a) = Ok (text_of (certificate a))
said_by certificate (Err w) = Err (too_wide (record { part = w.part; number = capped w.number; policy = w.policy; kind = w.kind; state = w.state; choice = w.choice }))

abbrev pub said_of_end : Dir → Option (List ℕ) → List ℕ → Mdp → Result Answer WideTerm → Said
said_of_end dir stay label m = said_by (certificate_of dir stay label m)

abbrev pub said_of_reward_end : Dir → List ℕ → List ℕ → Mdp → Result rewarded.Answer WideTerm → Said
said_of_reward_end dir name label m = said_by (reward_certificate_of dir name label m)

abbrev pub said_of_mean_end : Dir → List ℕ → Mdp → Result averaged.Answer WideTerm → Said
said_of_mean_end dir name m = said_by (mean_certificate_of dir name m)

-- ---- a query

-- the query of reaching these goals ends, on the model or on what is left of it for the way, and this is said of its end
abbrev pub IsReachEnd : Dir → Option (List ℕ) → List ℕ → Mdp → List Bool → Said → Type 0
IsReachEnd dir stay label m goals said = (end : Result Answer WideTerm) × EndsSo dir (way_by m goals stay) goals end × (said ≡ said_of_end dir stay label m end)

-- the goals are the states of the label, whose place is looked up first
abbrev pub IsReachDue : Dir → Option (List ℕ) → List ℕ → Mdp → Option ℕ → Said → Type 0
IsReachDue dir stay label m None said = said ≡ Err query_label
IsReachDue dir stay label m (Some l) said = IsReachEnd dir stay label m (marks_of m l) said

-- where no reward of the name of place r is below 0, the query with the states of label l as goals ends, and this is said of its end
abbrev pub IsRewardEnd : Dir → List ℕ → List ℕ → Mdp → ℕ → ℕ → Bool → Said → Type 0
IsRewardEnd dir name label m r l true said = said ≡ Err query_negative
IsRewardEnd dir name label m r l false said =
    (end : Result rewarded.Answer WideTerm) × rewarded.EndsSo dir m r (marks_of m l) end × (said ≡ said_of_reward_end dir name label m end)

-- the name is looked up first, then the label
abbrev pub IsRewardDue : Dir → List ℕ → List ℕ → Mdp → Option ℕ → Option ℕ → Said → Type 0
IsRewardDue dir name label m None label_place said = said ≡ Err query_reward
IsRewardDue dir name label m (Some r) None said = said ≡ Err query_label
IsRewardDue dir name label m (Some r) (Some l) said = IsRewardEnd dir name label m r l (has_negative m r) said

-- the query of the name's mean payoff ends, and this is said of its end
abbrev pub IsMeanDue : Dir → List ℕ → Mdp → Option ℕ → Said → Type 0
IsMeanDue dir name m None said = said ≡ Err query_reward
IsMeanDue dir name m (Some r) said = (end : Result averaged.Answer WideTerm) × averaged.EndsSo dir m r end × (said ≡ said_of_mean_end dir name m end)

abbrev pub IsQueryDue : Dir → PlainQuery → Mdp → Said → Type 0
IsQueryDue dir (reach label) m said = IsReachDue dir None label m (place_on_way m None label) said
IsQueryDue dir (until stay label) m said = IsReachDue dir (Some stay) label m (place_on_way m (Some stay) label) said
IsQueryDue dir (reward name label) m said = IsRewardDue dir name label m (place_of name m.names) (place_of label m.labels) said
IsQueryDue dir (mean name) m said = IsMeanDue dir name m (place_of name m.names) said
