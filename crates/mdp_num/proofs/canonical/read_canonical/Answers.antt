use Rattle.std.proofs.{Common.{◌≡◌, arith}, lemmas.Grind.{common_steps}}
use Rattle.mdp_num.specs.Canonical.{canonical_of}
use Rattle.mdp_num.proofs.Spellings.{found, none}
use Rattle.mdp_num.proofs.canonical.read_canonical.Goals as goal

pub returns-in-45 : goal.returns-in-45
unfolding canonical_of
returns-in-45 c =
    let e : c.unsigned.result ≡ canonical_of c.args.bytes.now = grind (arith, common_steps) in
    record { value = e; found = found _ _ e; none = none _ _ e }

pub returns-in_default : goal.returns-in_default
unfolding canonical_of
returns-in_default c =
    let e : c.unsigned-in_default.result ≡ canonical_of c.args.bytes.now = grind (arith, common_steps) in
    record { value = e; found = found _ _ e; none = none _ _ e }
