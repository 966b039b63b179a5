-- What stays of a draft through all calls.
use Rattle.std.specs.Prelude.{◌≡◌}
use Rattle.mdp_rows.specs.Draft.{Draft}

pub record IsSameHead (old new : Draft) : Type 0 where
  pub announced : new.announced ≡ old.announced
  pub rule : new.rule ≡ old.rule
  pub names : new.names ≡ old.names
