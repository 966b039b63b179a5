-- An end component of one state: each of its policies takes one choice there, with bias 0.
use Rattle.std.specs.{Prelude.{◌≡◌, ℕ, ◌+◌, ◌==◌, Bool, not, ◌||◌, true, List, [], ◌∷◌, map, Result, Ok, Err, if◌then◌else◌, pos}, List.{list_all, range_with_len}}
use Rattle.mdp_math.specs.Rational.{ℚ, of_int}
use Rattle.mdp_spec.specs.Mdp.{Entry}
use Rattle.mdp_policy_iteration.specs.{Iteration.{next, done, refused}, Laws.{first}, Ends.{capped}, Errors.{PathError, RoundError}}
use Rattle.mdp_wide.specs.declared.unfinished.Unfinished.TheVariants as error
use Rattle.mdp_unichain.specs.{Component.{Component, count, choice_at, is_state}, Written.{Values}, Iteration.{EndsWith}}
use Rattle.mdp_unichain.specs.Path as path
use Rattle.mdp_gain.specs.{Query.{Answer}, OnlyTerms.{zeros}, declared.only_round.Settled.{Settled}, declared.only_round.Turn.{Turn}}
use Rattle.mdp_gain.specs.declared.only_round.Turn.TheVariants as turn

-- s is a state of the component, and there is no other
pub record IsOnly (p : Component) (s : ℕ) : Type 0 where
  pub state : is_state p s ≡ true
  pub only : (t : ℕ) → is_state p t ≡ true → t ≡ s

-- a row leads to s alone
abbrev pub leads_to_only : ℕ → List Entry → Bool
leads_to_only s row = list_all (λ y. y.target == s) row

-- choice c of state s is none of the component, or stays at s
abbrev pub stays : Component → ℕ → ℕ → Bool
stays p s c = not (choice_at p s c).inner || leads_to_only s (choice_at p s c).row

-- the policy that takes choice c of the only state
abbrev pub policy_of : Component → ℕ → ℕ → List ℕ
policy_of p s c = map (λ t. if t == s then c else 0) (range_with_len 0 (count p))

-- its values with this gain
abbrev pub values_of : Component → ℚ → Values
values_of p gain = record { gain = gain; bias = zeros (count p) }

-- what was found, at the only state
abbrev pub answer_alone : ℕ → Settled → Answer
answer_alone s found = record { states = s ∷ []; gain = found.gain; bias = of_int (pos 0) ∷ []; choices = found.choice ∷ [] }

-- round n of the policy that takes choice c: its end, the next choice, the place of the first term past width, or want of memory
abbrev pub Makes : Component → ℕ → ℕ → ℕ → Result Turn RoundError → Type 0
Makes p s n c (Ok (turn.Done found)) =
    path.Makes p (record { number = n; policy = policy_of p s c })
    (done (record { policy = policy_of p s found.choice; reference = s; values = values_of p found.gain }))
Makes p s n c (Ok (turn.Next d)) = path.Makes p (record { number = n; policy = policy_of p s c }) (next (record { number = n + 1; policy = policy_of p s d }))
Makes p s n c (Err (error.TooWide place)) =
    path.Makes p (record { number = n; policy = policy_of p s c })
    (refused (record { number = n; policy = policy_of p s c; place = place }))
Makes p s n c (Err error.Memory) = Unit {0}

-- the path's end, from a choice
abbrev pub Ends : Component → ℕ → ℕ → Result Settled PathError → Type 0
Ends p s start (Ok found) =
    EndsWith (path.Makes p) (first (policy_of p s start)) (Ok (record { policy = policy_of p s found.choice; reference = s; values = values_of p found.gain }))
Ends p s start (Err (error.TooWide w)) =
    (n : ℕ) × (c : ℕ) × (w.round ≡ capped n) × (w.policy.items ≡ c ∷ [])
    × EndsWith (path.Makes p) (first (policy_of p s start))
    (Err (record { number = n; policy = policy_of p s c; place = record { kind = w.kind; node = w.node; choice = w.choice } }))
Ends p s start (Err error.Memory) = Unit {0}

-- the error of a round, with the round and its choice, or want of memory
abbrev pub IsErrorOf : RoundError → ℕ → ℕ → PathError → Type 0
IsErrorOf (error.TooWide place) round c (error.TooWide w) = (w.round ≡ round) × (w.policy.items ≡ c ∷ []) × (w.kind ≡ place.kind) × (w.node ≡ place.node) × (w.choice ≡ place.choice)
IsErrorOf error.Memory round c (error.TooWide w) = ⊥
IsErrorOf e round c error.Memory = Unit {0}
