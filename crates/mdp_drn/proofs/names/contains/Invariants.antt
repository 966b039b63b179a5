use Rattle.std.proofs.Common.{◌≡◌, map, length}
use Rattle.std.specs.{List.{list_any}, Str.{bytes_eq}}
use Rattle.mdp_drn.proofs.names.contains.Given as goal

abbrev pub invariant-loop-rest : goal.invariant-loop-rest
invariant-loop-rest l = list_any (bytes_eq l.name) (map (λ other. other.now) l.names) ≡ list_any (bytes_eq l.name) (map (λ other. other.now) l.rest)

abbrev pub decreases-loop-rest : goal.decreases-loop-rest
decreases-loop-rest l = length l.rest
