-- What is due to `witness` and to the model.
use Rattle.std.specs.Prelude.{◌≡◌, ℕ, Bool, List, Option, Some, None, Result, Ok, Err}
use Rattle.mdp_math.specs.Rational.{ℚ}
use Rattle.mdp_spec.specs.{Labels.{marks_of, initial_of}, Mdp.{Mdp}}
use Rattle.mdp_rows.specs.declared.dir.Dir.{Dir}
use Rattle.mdp_policy_iteration.specs.Ends.{capped}
use Rattle.mdp_cert.specs.Spelling.{text_of}
use Rattle.mdp_check.specs.Check.{way_by}
use Rattle.mdp_job.specs.Refusal as job
use Rattle.mdp_job.specs.Refusal.{query_label, query_init}
use Rattle.mdp_command.specs.Said.{Said}
use Rattle.mdp_witness.specs.Query.{PlainSubsystem, Refusal, below, too_wide, EndsSo}
use Rattle.mdp_command_solve.specs.{Ways.{place_on_way}, WitnessCertificate.{certificate_of}}

-- the text of the subsystem's certificate; the best probability, where it is below the threshold; or the first term past width, where a round above
-- 2^64 - 1 is given as 2^64 - 1
abbrev pub said_of_end : Dir → Option (List ℕ) → List ℕ → ℚ → ℕ → Mdp → Result PlainSubsystem Refusal → Said
said_of_end dir stay label threshold start m (Ok found) = Ok (text_of (certificate_of dir stay label threshold start m found))
said_of_end dir stay label threshold start m (Err (below v)) = Err (job.below v)
said_of_end dir stay label threshold start m (Err (too_wide w)) =
    Err (job.too_wide (record { part = w.part; number = capped w.number; policy = w.policy; kind = w.kind; state = w.state; choice = w.choice }))

-- the query from the start to these goals ends, on the model or on what is left of it for the way, and this is said of its end
abbrev pub IsEndDue : Dir → Option (List ℕ) → List ℕ → ℚ → Mdp → List Bool → ℕ → Said → Type 0
IsEndDue dir stay label threshold m goals start said =
    (end : Result PlainSubsystem Refusal) × EndsSo dir (way_by m goals stay) goals start threshold end × (said ≡ said_of_end dir stay label threshold start m end)

-- the label is looked up first, and that of the states on the way, then the one initial state
abbrev pub IsDueAt : Dir → Option (List ℕ) → List ℕ → ℚ → Mdp → Option ℕ → Option ℕ → Said → Type 0
IsDueAt dir stay label threshold m None start said = said ≡ Err query_label
IsDueAt dir stay label threshold m (Some l) None said = said ≡ Err query_init
IsDueAt dir stay label threshold m (Some l) (Some start) said = IsEndDue dir stay label threshold m (marks_of m l) start said

abbrev pub IsWitnessDue : Dir → Option (List ℕ) → List ℕ → ℚ → Mdp → Said → Type 0
IsWitnessDue dir stay label threshold m said = IsDueAt dir stay label threshold m (place_on_way m stay label) (initial_of m) said
