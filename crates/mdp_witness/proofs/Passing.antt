-- What ends a part of the query ends the query.
use Rattle.std.proofs.Common.{◌≡◌, ℕ, List, Result, Ok, Err, IfOk, IfErr, ap, ◌∙◌}
use Rattle.mdp_math.specs.Rational.{ℚ}
use Rattle.mdp_reach.specs.Query.{Answer}
use Rattle.mdp_witness.specs.{Query.{PlainSubsystem, Refusal, below}, Code.{Answers, IfBelow}, declared.subsystem.WitnessError.{WitnessError}}
use Rattle.mdp_witness.specs.declared.subsystem.WitnessError.TheVariants as refused

-- what the code answers to a part serves the query
pub goes-through : {A : Type 0} (view : A → PlainSubsystem) (Part Ends : Result PlainSubsystem Refusal → Type 0) (x : Result A WitnessError) → ((r : Result PlainSubsystem Refusal) → Part r → Ends r)
    → Answers view Part x → Answers view Ends x
goes-through view Part Ends (Ok found) h a = h _ a
goes-through view Part Ends (Err (refused.Below v)) h a = h _ a
goes-through view Part Ends (Err (refused.TooWide w)) h a = (a.0, a.1, h _ a.2)
goes-through view Part Ends (Err refused.Memory) h a = tt

-- an error of a part, whatever the part gives
pub passed-on : {A B : Type 0} (f : A → PlainSubsystem) (g : B → PlainSubsystem) (Ends : Result PlainSubsystem Refusal → Type 0) (e : WitnessError) → Answers f Ends (Err e) → Answers g Ends (Err e)
passed-on f g Ends (refused.Below v) h = h
passed-on f g Ends (refused.TooWide w) h = h
passed-on f g Ends refused.Memory h = tt

-- the answer of three lists
pub same_answer : (a : Answer) (z : List ℚ) (policy ranks : List ℕ) → z ≡ a.values → policy ≡ a.choices → ranks ≡ a.ranks
    → (let b : Answer = record { values = z; choices = policy; ranks = ranks } in b) ≡ a
same_answer a z policy ranks ez ep er =
    ap (λ (z : List ℚ). let b : Answer = record { values = z; choices = policy; ranks = ranks } in b) ez
    ∙ ap (λ (p : List ℕ). let b : Answer = record { values = a.values; choices = p; ranks = ranks } in b) ep
    ∙ ap (λ (r : List ℕ). let b : Answer = record { values = a.values; choices = a.choices; ranks = r } in b) er

-- what holds of each subsystem that the query ends with, holds of the one that the code gives
pub if_found : {A : Type 0} (view : A → PlainSubsystem) (P : PlainSubsystem → Type 0) (Ends : Result PlainSubsystem Refusal → Type 0) (x : Result A WitnessError)
    → ((found : PlainSubsystem) → Ends (Ok found) → P found)
    → Answers view Ends x → IfOk x (λ found. P (view found))
if_found view P Ends (Ok found) h a = h (view found) a
if_found view P Ends (Err e) h a = tt

-- and so of a value below the threshold
pub if_below : {A : Type 0} (view : A → PlainSubsystem) (P : ℚ → Type 0) (Ends : Result PlainSubsystem Refusal → Type 0) (x : Result A WitnessError) → ((v : ℚ) → Ends (Err (below v)) → P v)
    → Answers view Ends x → IfErr x (λ e. IfBelow e P)
if_below view P Ends (Ok found) h a = tt
if_below view P Ends (Err (refused.Below v)) h a = h v a
if_below view P Ends (Err (refused.TooWide w)) h a = tt
if_below view P Ends (Err refused.Memory) h a = tt
