-- How a run ends that says a text, or a refusal.
use Rattle.std.proofs.Common.{◌≡◌, ℕ, inl, inr, List, Ok, Err, refl, sym, ◌∙◌}
use Rattle.mdp_edge.specs.Faults.{FaultCounted}
use Rattle.mdp_job.specs.Refusal.{PlainRefusal, no_job, model_text, query_size, query_reward, query_label, query_init, query_negative, query_steps, query_choice, too_wide, check_wide, horizon_wide}
use Rattle.mdp_job.specs.Refusal.{denied, read_model, read_certificate, long_model, long_certificate, cert_text, policy_text, below, undecided, no_memory}
use Rattle.mdp_job.specs.{Status.{status_of}, declared.status.Status.{Status}}
use Rattle.mdp_job.specs.declared.status.Status.TheVariants as status
use Rattle.mdp_command.specs.{Said.{Said, said_status}, Streams.{Output}, Written.{WroteAll, Wrote, EndsWith}}

-- no refusal ends a run with the work done
pub refusal_status : (r : PlainRefusal) → status.Done ≡ status_of r → ⊥
refusal_status (no_job e) h = cc
refusal_status (model_text n kind) h = cc
refusal_status query_size h = cc
refusal_status query_reward h = cc
refusal_status query_label h = cc
refusal_status query_init h = cc
refusal_status query_negative h = cc
refusal_status query_steps h = cc
refusal_status query_choice h = cc
refusal_status (too_wide w) h = cc
refusal_status (check_wide state choice) h = cc
refusal_status (horizon_wide depth state choice) h = cc
refusal_status (denied f) h = cc
refusal_status read_model h = cc
refusal_status read_certificate h = cc
refusal_status long_model h = cc
refusal_status long_certificate h = cc
refusal_status (cert_text n kind) h = cc
refusal_status (policy_text n kind) h = cc
refusal_status (below v) h = cc
refusal_status (undecided low high) h = cc
refusal_status no_memory h = cc

-- where the work is done, a text was said, and it was written
pub done_text : (ended : Status) (out : Output) (said : Said) → EndsWith ended out said → ended ≡ status.Done → (text : List ℕ) × (said ≡ Ok text) × WroteAll out text
done_text ended out (Ok text) (inl (inl w)) is = (text, refl, w.1)
done_text ended out (Ok text) (inl (inr w)) is = cc (is, w.0)
done_text ended out (Err r) (inl (inl w)) is = absurd (refusal_status r (sym is ∙ w.0))
done_text ended out (Err r) (inl (inr w)) is = cc (is, w.0)
done_text ended out said (inr (inl w)) is = cc (is, w.0)
done_text ended out said (inr (inr w)) is = cc (is, w.0)

-- a run that says this ends with its status, or with that of a fault of the sink
pub ends_as : (ended : Status) (out : Output) (said : Said) (s : Status) (A : Type 0) → said_status said ≡ s → Wrote ended out said → (ended ≡ s → A)
    → ((ended ≡ status.WriteFault) × FaultCounted out.faults_before out.faults_after → A) → A
ends_as ended out said s A is (inl w) by fault = by (w.0 ∙ is)
ends_as ended out said s A is (inr w) by fault = fault (w.0, w.1.fault)
