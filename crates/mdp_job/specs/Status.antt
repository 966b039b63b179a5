-- The status with which a run ends, and its number.
use Rattle.std.specs.Prelude.{ℕ}
use Rattle.mdp_job.specs.Refusal.{PlainRefusal, no_job, model_text, query_size, query_reward, query_label, query_init, query_negative, query_steps, query_choice, too_wide, check_wide, horizon_wide}
use Rattle.mdp_job.specs.Refusal.{denied, read_model, read_certificate, long_model, long_certificate, cert_text, policy_text, below, undecided, no_memory}
use Rattle.mdp_job.specs.declared.status.Status.{Status}
use Rattle.mdp_job.specs.declared.status.Status.TheVariants.{Done, Denied, Words, Model, Query, TooWide, ReadFault, WriteFault, Memory, CertText, Long, Below, Undecided}

-- of a run that gives a refusal
abbrev pub status_of : PlainRefusal → Status
status_of (no_job e) = Words
status_of (model_text n kind) = Model
status_of query_size = Query
status_of query_reward = Query
status_of query_label = Query
status_of query_init = Query
status_of query_negative = Query
status_of query_steps = Query
status_of query_choice = Query
status_of (too_wide w) = TooWide
status_of (check_wide state choice) = TooWide
status_of (horizon_wide depth state choice) = TooWide
status_of (denied f) = Denied
status_of read_model = ReadFault
status_of read_certificate = ReadFault
status_of long_model = Long
status_of long_certificate = Long
status_of (cert_text n kind) = CertText
status_of (policy_text n kind) = CertText
status_of (below v) = Below
status_of (undecided low high) = Undecided
status_of no_memory = Memory

-- the exit status of the program
abbrev pub code_of : Status → ℕ
code_of Done = 0
code_of Denied = 1
code_of Words = 2
code_of Model = 3
code_of Query = 4
code_of TooWide = 5
code_of ReadFault = 6
code_of WriteFault = 7
code_of Memory = 8
code_of CertText = 9
code_of Long = 10
code_of Below = 11
code_of Undecided = 12
