-- How many lists of predecessors there are.
use Rattle.std.proofs.{Common.{◌≡◌, length, map}, lemmas.List.FromFn.{length-map-range_with_len}}
use Rattle.std.specs.List.{range_with_len}
use Rattle.mdp_spec.specs.Mdp.{Mdp, states_of}
use Rattle.mdp_rows.specs.Preds.{preds_to}

pub one_each : (m : Mdp) → length (map (preds_to m) (range_with_len 0 (states_of m))) ≡ states_of m
one_each m = length-map-range_with_len (preds_to m) 0 (states_of m)
