-- The names that the clauses of most commands cite, passed on from one place. Declares nothing.
pub use Rattle.mdp_job.specs.{Job.{plain_query}, Refusal.{no_memory, read_certificate, plain_refusal}}
pub use Rattle.mdp_command.specs.{Read.{IsModelReadToEnd, IsSecondReadToEnd}, Said.{said}, Streams.{input, output}}
