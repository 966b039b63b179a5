-- The sources and sinks of this crate, as contracts see them.
use Rattle.std.specs.Prelude.{ℕ, ◌-◌, Option, List, ◌++◌, length, take, drop}
use Rattle.mdp_edge.specs.Plan.{Plan, after_call, after_fault}

-- a source over a list
pub record Listed : Type 0 where
  -- the bytes still to come
  pub left : List ℕ
  -- the most that one read gives
  pub chunk : ℕ
  pub plan : Plan

-- after a read that gave so many bytes
abbrev pub after_read : Listed → ℕ → Listed
after_read source count = record source { left = drop count source.left; plan = after_call source.plan }

-- after a read that failed
abbrev pub after_failed_read : Listed → Listed
after_failed_read source = record source { plan = after_fault source.plan }

-- a sink over a store of fixed size
pub record Stored : Type 0 where
  -- the bytes taken so far
  pub taken : List ℕ
  -- how many more find room
  pub room : ℕ
  -- how many had been taken at the last flush that succeeded
  pub settled : ℕ
  -- the most that one write takes
  pub chunk : ℕ
  pub plan : Plan

-- after a write that took this piece
abbrev pub after_write : Stored → List ℕ → ℕ → Stored
after_write sink piece count = record sink { taken = sink.taken ++ take count piece; room = sink.room - count; plan = after_call sink.plan }

-- after a flush that succeeded
abbrev pub after_flush : Stored → Stored
after_flush sink = record sink { settled = length sink.taken; plan = after_call sink.plan }

-- after a write or a flush that failed
abbrev pub after_failed_call : Stored → Stored
after_failed_call sink = record sink { plan = after_fault sink.plan }

-- a source outside
pub record Opened (R : Type 0) : Type 0 where
  -- what it reads from, or nothing where that could not be opened
  pub inner : Option R
  pub faults : ℕ

-- a sink outside
pub record Outside (W : Type 0) : Type 0 where
  -- what it writes to
  pub inner : W
  pub faults : ℕ
