-- The definitions, computed on small values.
use Rattle.std.proofs.Common.{◌≡◌, ◌+◌, zero, suc, inl, inr, [], ◌∷◌, Some, None, refl, arith, lit≤, lit<}
use Rattle.mdp_edge.specs.{Faults.{FaultCounted, last_count}, Bytes.{Gave, GaveAtMost, TookPrefix, TookAll}, Plan.{plan_of, FailsNext, after_call}}
use Rattle.mdp_edge.specs.Kinds.{Listed, Stored, after_read, after_failed_read, after_write, after_flush, after_failed_call}

-- a rise counts, and so does a count at its type's end
counted_one : FaultCounted 0 1
counted_one = inl (lit< tt)

at_the_end : FaultCounted last_count last_count
at_the_end = inr refl

-- a count that stands anywhere else doesn't, below its type's end or above
stayed : FaultCounted 1 1 → ⊥
stayed (inl rose) = omega arith
stayed (inr at_end) = omega arith

stayed_above : FaultCounted (last_count + 1) (last_count + 1) → ⊥
stayed_above (inl rose) = omega arith
stayed_above (inr at_end) = omega arith

-- of the bytes 1, 2, 3 a source gave 1 and 2
gave_two : Gave (Some (1 ∷ 2 ∷ 3 ∷ [])) (Some (3 ∷ [])) (1 ∷ 2 ∷ [])
gave_two = refl

-- it gave at most two, and not at most one
gave_at_most_two : GaveAtMost (Some (1 ∷ 2 ∷ 3 ∷ [])) (Some (3 ∷ [])) 2
gave_at_most_two = (1 ∷ 2 ∷ [], lit≤ tt, refl)

gave_more_than_one : GaveAtMost (Some (1 ∷ 2 ∷ [])) (Some []) 1 → ⊥
gave_more_than_one ([], within, gave) = cc
gave_more_than_one (x ∷ [], within, gave) = cc
gave_more_than_one (x ∷ y ∷ more, within, gave) = omega arith

gave_untold : Gave None None (1 ∷ [])
gave_untold = refl

-- a sink that had taken 1 took 2, and not 3
took_one : TookPrefix (Some (1 ∷ [])) (Some (1 ∷ 2 ∷ [])) (2 ∷ 3 ∷ [])
took_one = (1, lit≤ tt, refl)

took_all : TookAll (Some (1 ∷ [])) (Some (1 ∷ 2 ∷ 3 ∷ [])) (Some 3) (2 ∷ 3 ∷ [])
took_all = record { took = refl; is_settled = refl }

took_untold : TookAll None None None (2 ∷ 3 ∷ [])
took_untold = record { took = refl; is_settled = refl }

-- where the call with number 1 is to fail, the first call doesn't fail and the second does
first_succeeds : FailsNext (plan_of (1 ∷ [])) → ⊥
first_succeeds (_, (zero, _, same)) = cc
first_succeeds (_, (suc k, within, _)) = omega arith

second_fails : FailsNext (after_call (plan_of (1 ∷ [])))
second_fails = (lit< tt, (0, lit< tt, refl))

-- a source of three bytes gives two, and fails at the next call
abbrev three : Listed
three = record { left = 7 ∷ 8 ∷ 9 ∷ []; chunk = 2; plan = plan_of (1 ∷ []) }

read_twice : after_failed_read (after_read three 2) ≡ record { left = 9 ∷ []; chunk = 2; plan = record { fails = 1 ∷ []; calls = 2; faults = 1 } }
read_twice = refl

-- a sink with room for three bytes takes two, settles them, and fails at the next call
abbrev room : Stored
room = record { taken = []; room = 3; settled = 0; chunk = 2; plan = plan_of (2 ∷ []) }

written : after_failed_call (after_flush (after_write room (7 ∷ 8 ∷ 9 ∷ []) 2)) ≡ record { taken = 7 ∷ 8 ∷ []; room = 1; settled = 2; chunk = 2; plan = record { fails = 2 ∷ []; calls = 3; faults = 1 } }
written = refl
