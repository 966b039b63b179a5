use Rattle.std.proofs.Common.{◌≡◌, map, length}
use Rattle.std.specs.List.{list_any}
use Rattle.mdp_rows.specs.Name.{are_different}
use Rattle.mdp_drn.specs.Header.{is_bad_name}
use Rattle.mdp_drn.proofs.names.are_proper.Given as goal

abbrev pub invariant-loop-rest : goal.invariant-loop-rest
invariant-loop-rest l = record {
  good : list_any is_bad_name (map (λ name. name.now) l.names) ≡ list_any is_bad_name (map (λ name. name.now) l.rest);
  different : are_different (map (λ name. name.now) l.names) ≡ are_different (map (λ name. name.now) l.rest);
}

abbrev pub decreases-loop-rest : goal.decreases-loop-rest
decreases-loop-rest l = length l.rest
