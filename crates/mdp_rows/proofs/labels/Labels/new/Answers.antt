use Rattle.std.proofs.Common.{map, ap, List, ℕ}
use Rattle.std.specs.Global.{Vec}
use Rattle.mdp_rows.proofs.Flat.LabelsGrown.{no_labels}
use Rattle.mdp_rows.proofs.labels.Labels.new.Goals as goal

pub returns : goal.returns
returns c = no_labels _ (ap (λ (ks : List (Vec ℕ)). map (λ v. v.items) ks) c.new.ensures.empty) (c.in_ok-starts.ensures {u = tt}).items c.new-2.ensures.items
