-- Worked witnesses, and what is said of them.
use Rattle.std.proofs.Common.{◌≡◌, ℕ, ◌+◌, ◌^◌, List, [], ◌∷◌, ◌++◌, true, false, Some, None, Err, refl, pos}
use Rattle.std.specs.{Fmt.{digits}, Prelude.{codes}}
use Rattle.mdp_math.specs.{Gcd.{gcd, gcd_with_fuel}, Rational.{of_int, ratio}}
use Rattle.mdp_num.specs.Value.{spelling}
use Rattle.mdp_spec.specs.Mdp.{Choice, State, Mdp}
use Rattle.mdp_spec.proofs.Small.{half}
use Rattle.mdp_rows.specs.declared.dir.Dir.TheVariants.{Max, Min}
use Rattle.mdp_wide.specs.declared.too_wide.Kind.TheVariants.{Evaluate}
use Rattle.mdp_wide.specs.declared.too_wide.Part.TheVariants as part
use Rattle.mdp_claims.specs.declared.subsystem.Flow.{Flow}
use Rattle.mdp_text.specs.Spelling.{line}
use Rattle.mdp_cert.specs.Spelling.{text_in, text_of, listed_lines}
use Rattle.mdp_job.specs.Refusal as job
use Rattle.mdp_job.specs.Refusal.{query_label, query_init}
use Rattle.mdp_witness.specs.Query.{PlainSubsystem, flow, floor, below, too_wide}
use Rattle.mdp_command_solve.specs.{WitnessCertificate.{dir_of, certificate_of}, WitnessDue.{said_of_end, IsWitnessDue}}

abbrev to : ℕ → Choice
to t = record { row = record { target = t; prob = of_int (pos 1) } ∷ []; rewards = [] }

-- a state with these labels, and one choice, to t
abbrev state : List ℕ → ℕ → State
state labels t = record { labels = labels; choices = to t ∷ [] }

abbrev model_of : List State → Mdp
model_of states = record { names = []; labels = codes "init" ∷ codes "goal" ∷ []; states = states }

-- state 0, the initial one, goes to the goal 1
abbrev two : Mdp
two = model_of (state (0 ∷ []) 1 ∷ state (1 ∷ []) 1 ∷ [])

-- both states are initial; and none is
abbrev two_starts : Mdp
two_starts = model_of (state (0 ∷ []) 1 ∷ state (0 ∷ 1 ∷ []) 1 ∷ [])

abbrev no_start : Mdp
no_start = model_of (state [] 1 ∷ state (1 ∷ []) 1 ∷ [])

-- ---- the certificate

abbrev by_flow : PlainSubsystem
by_flow = flow (0 ∷ []) (false ∷ []) ((let f : Flow = record { state = 0; choice = 0; amount = of_int (pos 1) } in f) ∷ [])

abbrev by_floor : PlainSubsystem
by_floor = floor (0 ∷ []) (true ∷ []) (of_int (pos 1) ∷ []) (1 ∷ [])

flow-text : text_of (certificate_of Max None (codes "goal") half 0 two by_flow) ≡
    line (codes "mdp-certificate 2") ++ line (codes "claim max witness \"goal\" 1/2") ++ line (codes "states 2") ++ line (codes "init 0") ++ line (codes "keep 0 kept") ++ line (codes "flow 0 0 1")
    ++ line (codes "end")
unfolding text_in listed_lines spelling digits ratio of_int gcd gcd_with_fuel
flow-text = refl

floor-text : text_of (certificate_of Min None (codes "goal") half 0 two by_floor) ≡
    line (codes "mdp-certificate 2") ++ line (codes "claim min witness \"goal\" 1/2") ++ line (codes "states 2") ++ line (codes "init 0") ++ line (codes "keep 0 1 1 wide") ++ line (codes "end")
unfolding text_in listed_lines spelling digits ratio of_int gcd gcd_with_fuel
floor-text = refl

-- by way of states with the label `init` alone
until-text : text_of (certificate_of Max (Some (codes "init")) (codes "goal") half 0 two by_flow) ≡
    line (codes "mdp-certificate 2") ++ line (codes "claim max witness until \"init\" \"goal\" 1/2") ++ line (codes "states 2") ++ line (codes "init 0") ++ line (codes "keep 0 kept")
    ++ line (codes "flow 0 0 1") ++ line (codes "end")
unfolding text_in listed_lines spelling digits ratio of_int gcd gcd_with_fuel
until-text = refl

-- no state is kept where the threshold is 0
empty-text : text_of (certificate_of Max None (codes "goal") (of_int (pos 0)) 0 two (flow [] [] [])) ≡
    line (codes "mdp-certificate 2") ++ line (codes "claim max witness \"goal\" 0") ++ line (codes "states 2") ++ line (codes "init 0") ++ line (codes "end")
unfolding text_in listed_lines spelling digits of_int
empty-text = refl

flow-dir : dir_of by_flow ≡ Max
flow-dir = refl

floor-dir : dir_of by_floor ≡ Min
floor-dir = refl

-- ---- what is due

below-said : said_of_end Max None (codes "goal") half 0 two (Err (below (ratio (pos 1) 3))) ≡ Err (job.below (ratio (pos 1) 3))
below-said = refl

-- a round above 2^64 - 1 is given as 2^64 - 1
capped-said : said_of_end Max None (codes "goal") half 0 two (Err (too_wide (record { part = part.Whole; number = 2 ^ 64 + 7; policy = 0 ∷ 0 ∷ []; kind = Evaluate; state = Some 0; choice = Some 0 })))
    ≡ Err (job.too_wide (record { part = part.Whole; number = 18446744073709551615; policy = 0 ∷ 0 ∷ []; kind = Evaluate; state = Some 0; choice = Some 0 }))
capped-said = refl

-- a label that isn't there is refused before an initial state is looked for
unknown-label : IsWitnessDue Max None (codes "none") half no_start (Err query_label)
unknown-label = refl

unknown-label-alone : IsWitnessDue Max None (codes "none") half no_start (Err query_init) → ⊥
unknown-label-alone e = cc

-- and so is the label of the states on the way
unknown-way : IsWitnessDue Max (Some (codes "none")) (codes "goal") half no_start (Err query_label)
unknown-way = refl

no-start-on-way : IsWitnessDue Max (Some (codes "goal")) (codes "goal") half no_start (Err query_init)
no-start-on-way = refl

-- not exactly one initial state
two-starts : IsWitnessDue Min None (codes "goal") half two_starts (Err query_init)
two-starts = refl

no-start : IsWitnessDue Max None (codes "goal") half no_start (Err query_init)
no-start = refl
