-- What the code's contracts say beside the definitions.
use Rattle.std.specs.{Prelude.{◌≡◌, ℕ, ◌+◌, ◌<◌, Bool, List, length, map, slice_index, Option, Result, Ok, Err, Vec, if◌then◌else◌}, Global.{Global}}
use Rattle.std.specs.List.{All, range_with_len}
use Rattle.mdp_math.specs.{Rational.{ℚ}, Result.{◌>>=◌}}
use Rattle.mdp_graph.specs.Sets.{marked}
use Rattle.mdp_parts.specs.FoundEnds.{AreEndsOf}
use Rattle.mdp_policy_iteration.specs.{Iteration.{next, done, refused}, Places.{Place}, Path.{or_kept}, Laws.{first}, Ends.{capped}}
use Rattle.mdp_policy_iteration.specs.{Candidates.{Best}, Errors.{PathError, RoundError}}
use Rattle.mdp_wide.specs.Term.{WideTerm}
use Rattle.mdp_wide.specs.declared.unfinished.Unfinished.TheVariants as error
use Rattle.mdp_unichain.specs.{Component.{Component, count, choices_at, choice_at}, Classes.{has_flag}, Iteration.{EndsWith}, Sums.{compared}}
use Rattle.mdp_unichain.specs.Written as written
use Rattle.mdp_unichain.specs.Path as path
use Rattle.mdp_gain.specs.{Query.{Answer, answer_of, inner_component, EndsSo}, declared.component.EndComponent.{EndComponent}, declared.values.Values.{Values}}
use Rattle.mdp_gain.specs.{declared.best_policy.Found.{Found}, declared.round.RoundEnd.{RoundEnd}}
use Rattle.mdp_gain.specs.declared.round.RoundEnd.TheVariants as end

-- the component that the code holds
abbrev pub component_in : EndComponent → Component
component_in p = inner_component p.dir p.model.now p.ends.now.parts p.number p.name

-- the end components that it holds are those of its model; the query of its best gain ends so
abbrev pub HasEnds : EndComponent → Type 0
HasEnds p = AreEndsOf p.model.now p.ends.now

abbrev pub QueryEndsSo : EndComponent → Result Answer WideTerm → Type 0
QueryEndsSo p = EndsSo p.dir p.model.now p.ends.now.parts p.number p.name

-- after choice c of state s, under these biases
abbrev pub compared_in : EndComponent → List ℚ → ℕ → ℕ → Best → Option Best
compared_in p bias s c best = compared p.dir bias c (choice_at (component_in p) s c) best

-- the numbers of a list's entries
abbrev pub numbers_of : {A : Type 0} → List A → List ℕ
numbers_of xs = range_with_len 0 (length xs)

-- part k has a state of this kind
abbrev pub part_has : Component → (ℕ → Bool) → List ℕ → ℕ → Bool
part_has p kind parts k = has_flag (map kind (numbers_of p.states)) parts (count p) k

-- the gain and the biases, as the code holds them
abbrev pub values_in : Values → written.Values
values_in v = record { gain = v.gain; bias = v.bias.items }

-- the choice of state s that is best where it is better than the present value under these biases, or the one that is kept
abbrev pub choice_over : Component → List ℚ → ℕ → ℕ → ℚ → Result ℕ Place
choice_over p bias s kept present = written.best_of p bias s present (length (choices_at p s)) >>= (λ best. Ok (or_kept best.choice kept))

-- one list at the marked states, another at the others
abbrev pub joined : List Bool → List ℕ → List ℕ → List ℕ
joined marks inside outside = map (λ s. if marked marks s then slice_index inside s else slice_index outside s) (range_with_len 0 (length outside))

-- round n of a policy: its end, the next policy, the place of the first term past width, or want of memory
abbrev pub Makes : Component → ℕ → List ℕ → Result RoundEnd RoundError → Type 0
Makes p n policy (Ok (end.Done values t)) =
    path.Makes p (record { number = n; policy = policy }) (done (record { policy = policy; reference = t; values = values_in values }))
Makes p n policy (Ok (end.Next after)) = path.Makes p (record { number = n; policy = policy }) (next (record { number = n + 1; policy = after.items }))
Makes p n policy (Err (error.TooWide place)) =
    path.Makes p (record { number = n; policy = policy }) (refused (record { number = n; policy = policy; place = place }))
Makes p n policy (Err error.Memory) = Unit {0}

-- the biases of a round's end have an entry for each number
abbrev pub HasBiases : Component → Result RoundEnd RoundError → Type 0
HasBiases p (Ok (end.Done values t)) = length values.bias.items ≡ count p
HasBiases p (Ok (end.Next after)) = Unit {0}
HasBiases p (Err e) = Unit {0}

-- the last policy and its biases have an entry for each number, and so has the policy of a refused round
abbrev pub HasEntries : Component → Result Found PathError → Type 0
HasEntries p (Ok found) = (length found.policy.items ≡ count p) × (length found.values.bias.items ≡ count p)
HasEntries p (Err (error.TooWide w)) = length w.policy.items ≡ count p
HasEntries p (Err error.Memory) = Unit {0}

-- the path's end
abbrev pub Ends : Component → List ℕ → Result Found PathError → Type 0
Ends p start (Ok found) =
    (t : ℕ) × EndsWith (path.Makes p) (first start) (Ok (record { policy = found.policy.items; reference = t; values = values_in found.values }))
Ends p start (Err (error.TooWide w)) =
    (n : ℕ) × (w.round ≡ capped n)
    × EndsWith (path.Makes p) (first start) (Err (record { number = n; policy = w.policy.items; place = record { kind = w.kind; node = w.node; choice = w.choice } }))
Ends p start (Err error.Memory) = Unit {0}

-- the error of a round, with the round and its policy
abbrev pub path_error : RoundError → ℕ → Vec ℕ Global → PathError
path_error (error.TooWide place) round policy = error.TooWide (record { round = round; policy = policy; kind = place.kind; node = place.node; choice = place.choice })
path_error error.Memory round policy = error.Memory

-- an error's policy has a choice for each of these states
abbrev pub FitsStates : List ℕ → PathError → Type 0
FitsStates states (error.TooWide w) = All (λ s. s < length w.policy.items) states
FitsStates states error.Memory = Unit {0}

-- the same error with the policy of these states alone, or want of memory
abbrev pub AtStates : List ℕ → PathError → PathError → Type 0
AtStates states (error.TooWide w) (error.TooWide v) =
    (v.round ≡ w.round) × (v.policy.items ≡ map (slice_index w.policy.items) states) × (v.kind ≡ w.kind) × (v.node ≡ w.node) × (v.choice ≡ w.choice)
AtStates states error.Memory (error.TooWide v) = ⊥
AtStates states e error.Memory = Unit {0}

-- what was found, at these states
abbrev pub answer_at : List ℕ → List ℕ → written.Values → Answer
answer_at states policy v = answer_of states (record { policy = policy; reference = 0; values = v })
