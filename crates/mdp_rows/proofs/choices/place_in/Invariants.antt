use Rattle.std.proofs.Common.{◌≡◌, ℕ, ◌<◌, false, get_or}
use Rattle.std.specs.{Global.{Vec}, Str.{bytes_eq}}
use Rattle.mdp_rows.proofs.choices.place_in.Given as goal

abbrev pub invariant-loop-m : goal.invariant-loop-m
invariant-loop-m l = (k : ℕ) (d : Vec ℕ) → k < l.m → bytes_eq l.name (get_or l.names k d).items ≡ false
