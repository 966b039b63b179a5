-- What a run writes.
use Rattle.std.specs.Prelude.{◌≡◌, ◌⊎◌, ℕ, List, Err}
use Rattle.mdp_edge.specs.{Bytes.{TookAll, TookPrefix}, Faults.{FaultCounted}}
use Rattle.mdp_job.specs.{Refusal.{no_memory}, declared.status.Status.{Status}, declared.status.Status.TheVariants.{WriteFault}}
use Rattle.mdp_command.specs.{Said.{Said, said_text, said_status}, Streams.{Output}}

-- the sink took this text and no more, all that it has taken is settled, and it didn't fail
pub record WroteAll (out : Output) (text : List ℕ) : Type 0 where
  pub took : TookAll out.taken_before out.taken_after out.settled_after text
  pub still : out.faults_after ≡ out.faults_before

-- the sink failed: it took a prefix of the text, and what is settled is as before
pub record WroteSome (out : Output) (text : List ℕ) : Type 0 where
  pub took : TookPrefix out.taken_before out.taken_after text
  pub unsettled : out.settled_after ≡ out.settled_before
  pub fault : FaultCounted out.faults_before out.faults_after

-- a run that writes a text ends with this status, or with that of a fault
abbrev pub WroteText : Status → Output → Status → List ℕ → Type 0
WroteText ended out status text = ((ended ≡ status) × WroteAll out text) ⊎ ((ended ≡ WriteFault) × WroteSome out text)

-- how a run that says this ends
abbrev pub Wrote : Status → Output → Said → Type 0
Wrote ended out said = WroteText ended out (said_status said) (said_text said)

-- it is written, or want of memory in its place
abbrev pub EndsWith : Status → Output → Said → Type 0
EndsWith ended out said = Wrote ended out said ⊎ Wrote ended out (Err no_memory)
