-- Calls that are to fail, by their numbers.
use Rattle.std.specs.Prelude.{ℕ, ◌<◌, ◌≤◌, List, Contains}
use Rattle.mdp_edge.specs.Faults.{last_count, one_more}

pub record Plan : Type 0 where
  -- the numbers of the calls that are to fail. The first call has number 0
  pub fails : List ℕ
  -- how many calls there were. The count stops at the last one that it can hold
  pub calls : ℕ
  -- how many of them failed
  pub faults : ℕ

-- its counts are those of 64 bits
abbrev pub IsCounted : Plan → Type 0
IsCounted plan = (plan.calls ≤ last_count) × (plan.faults ≤ last_count)

-- before the first call
abbrev pub plan_of : List ℕ → Plan
plan_of numbers = record { fails = numbers; calls = 0; faults = 0 }

-- the next call is one of those that are to fail. Behind the first 2^64 - 1 calls none has a number
abbrev pub FailsNext : Plan → Type 0
FailsNext plan = (plan.calls < last_count) × Contains plan.fails plan.calls

-- after a call that didn't fail
abbrev pub after_call : Plan → Plan
after_call plan = record plan { calls = one_more plan.calls }

-- after a call that failed
abbrev pub after_fault : Plan → Plan
after_fault plan = record plan { calls = one_more plan.calls; faults = one_more plan.faults }
