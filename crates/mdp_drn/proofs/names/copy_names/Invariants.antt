use Rattle.std.proofs.Common.{◌≡◌, map, take}
use Rattle.mdp_drn.proofs.names.copy_names.Given as goal

abbrev pub invariant-loop-word : goal.invariant-loop-word
invariant-loop-word l = map (λ name. name.items) l.names.items ≡ map (λ word. word.now) (take l.word-index l.words)
