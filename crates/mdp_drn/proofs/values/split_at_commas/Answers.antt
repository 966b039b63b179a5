use Rattle.std.proofs.{Common.{◌==◌, rules, tests}, lemmas.Iterator.Consumers.{map_from_collect}, lemmas.Iterator.Splits.{YieldsList-from_slice_split}}
use Rattle.mdp_drn.proofs.values.split_at_commas.Goals as goal

pub returns : goal.returns
returns c = map_from_collect _ c.collect.ensures.ran
    (YieldsList-from_slice_split _ (λ b. b == 44) c.args.inside.now c.split.ensures.rest c.split.ensures.done c.split.ensures.closure (λ x b q h. search (tests, rules)))
