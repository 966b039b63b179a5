use Rattle.std.proofs.{Common.{List, ℕ, length, nat_lt, rules, tests, arith}, lemmas.Bool.Decides.{nat_tests}}
use Rattle.std.proofs.lemmas.Iterator.Consumers.{map_from_collect, YieldsList-from_filter, YieldsList-at}
use Rattle.std.proofs.lemmas.Iterator.Splits.{YieldsList-from_slice_split}
use Rattle.mdp_drn.specs.Lines.{is_blank}
use Rattle.mdp_drn.proofs.names.split_words.Goals as goal

pub returns : goal.returns
returns c =
    map_from_collect _ c.collect.ensures.ran (YieldsList-from_filter _ (λ (word : List ℕ). nat_lt 0 (length word))
    (YieldsList-at c.filter.ensures.source
    (YieldsList-from_slice_split _ is_blank c.args.text.now c.split.ensures.rest c.split.ensures.done c.split.ensures.closure (λ x b q h. search (tests, rules))))
    c.filter.ensures.closure (λ x b q h. grind (arith, nat_tests)))
