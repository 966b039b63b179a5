use Rattle.std.proofs.{Common.{◌≡◌, ◌++◌, codes}, lemmas.Result.{on_ok_weaker}}
use Rattle.mdp_gen.specs.Pieces.{counts_text}
use Rattle.mdp_gen.proofs.Written.{appended-two}
use Rattle.mdp_gen.proofs.push.push_header.Goals as goal

pub returns-clause-text : goal.returns-clause-text
returns-clause-text c =
    on_ok_weaker c.push_counts.result
    (λ (e : c.push_counts.new.out.items ≡ c.extend_from_slice.new.self.items ++ counts_text c.args.states c.args.choices).
    appended-two c.args.out.now.items _ _ (codes "@type: MDP\n@parameters\n\n@reward_models\n\n") _ c.in_ok-extend_from_slice.ensures.items e)
    c.push_counts.ensures.text
