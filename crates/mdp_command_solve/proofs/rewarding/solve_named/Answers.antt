use Rattle.std.proofs.Common.{◌≡◌, ℕ, Bool, List, sym, ap, ap₂, subst, ◌∙◌, rules}
use Rattle.mdp_rows.specs.Name.{IsName, IsRewardName}
use Rattle.mdp_farkas.specs.Reward.{IsReward}
use Rattle.mdp_reward.specs.Query as rewarded
use Rattle.mdp_cert.specs.{Cert.{Fits}, Plain.{plain}, Spelling.{text_of}}
use Rattle.mdp_command_solve.specs.{Due.{reward_certificate_of}, Solved.{IsRewardPrinted}}
use Rattle.mdp_rows.proofs.FoundNames.{found_among, name_of_reward}
use Rattle.mdp_command_solve.proofs.Printing.{reward_ranks, reward_printed, text_printed}
use Rattle.mdp_command_solve.proofs.rewarding.solve_named.Goals as goal

pub reward_certificate_of-cert-requires-clause-name : goal.reward_certificate_of-cert-requires-clause-name
reward_certificate_of-cert-requires-clause-name c =
    let same : c.in-Ok-to_vec.name.items ≡ c.args.name.now = search rules in
    subst IsName (sym same) (name_of_reward c.args.name.now (found_among IsRewardName c.args.name.now c.args.model.now.names c.in-Some.reward (sym c.in-Some.ensures) c.known.ensures.model.names.each))

pub reward_certificate_of-cert-requires-clause-label : goal.reward_certificate_of-cert-requires-clause-label
reward_certificate_of-cert-requires-clause-label c =
    let same : c.in-Ok-to_vec-2.label.items ≡ c.args.label.now = search rules in
    subst IsName (sym same) (found_among IsName c.args.label.now c.args.model.now.labels c.in-Some-label.place (sym c.in-Some-label.ensures) c.known.ensures.model.labels)

pub reward_certificate_of-cert-requires-clause-ranks : goal.reward_certificate_of-cert-requires-clause-ranks
reward_certificate_of-cert-requires-clause-ranks c =
    reward_ranks c.args.dir c.args.model.now c.in-Some.reward c.in-Ok.goals (rewarded.plain c.in-Ok-solve_reward.answer) c.in-Ok-solve_reward.ensures.path

pub returns-clause-printed : goal.returns-clause-printed
returns-clause-printed c =
    let dir = c.args.dir in
    let m = c.args.model.now in
    let r = c.in-Some.reward in
    let a = rewarded.plain c.in-Ok-solve_reward.answer in
    let name_same : c.in-Ok-to_vec.name.items ≡ c.args.name.now = search rules in
    let label_same : c.in-Ok-to_vec-2.label.items ≡ c.args.label.now = search rules in
    let cert : plain c.reward_certificate_of-cert.result ≡ reward_certificate_of dir c.args.name.now c.args.label.now m a =
    c.reward_certificate_of-cert.ensures.certificate ∙ ap₂ (λ (n t : List ℕ). reward_certificate_of dir n t m a) name_same label_same in
    text_printed (IsRewardPrinted dir c.args.name.now c.args.label.now m) (plain c.reward_certificate_of-cert.result) _
    (λ text spelled. reward_printed dir c.args.name.now c.args.label.now m r c.in-Some-label.place a (sym c.in-Some.ensures) (sym c.in-Some-label.ensures)
    (subst (λ (g : List Bool). IsReward dir m r g a.values a.choices a.ranks) c.in-Ok.ensures c.in-Ok-solve_reward.ensures.rules)
    (reward_ranks dir m r c.in-Ok.goals a c.in-Ok-solve_reward.ensures.path) c.known.ensures.mdp c.text_law.ensures.back
    text (subst Fits cert c.reward_certificate_of-cert.ensures.fits) (spelled ∙ ap text_of cert)) c.certificate_text.ensures
