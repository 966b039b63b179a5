-- Which of the three kinds a line of the model is.
use Rattle.std.proofs.Common.{◌≡◌, ℕ, Bool, true, false, cond, List, drop, Result, ap, ◌∙◌}
use Rattle.mdp_drn.specs.{Lines.{without_blanks_before}, Outcome.{Refusal}}
use Rattle.mdp_drn.specs.Body.{Body, state_line, action_line, entry_line, model_line, is_state_line, is_action_line}

module _ (body : Body) (line : ℕ) (text : List ℕ) where
  abbrev from_action : Result Body Refusal
  from_action = cond (is_action_line text) (action_line body line (drop 6 text)) (entry_line body line text)

  by_state : (b : Bool) → is_state_line text ≡ b → model_line body line text ≡ cond b (state_line body line (without_blanks_before (drop 5 text))) from_action
  unfolding model_line
  by_state b is = ap (λ (x : Bool). cond x (state_line body line (without_blanks_before (drop 5 text))) from_action) is

  by_action : (b : Bool) → is_action_line text ≡ b → from_action ≡ cond b (action_line body line (drop 6 text)) (entry_line body line text)
  by_action b is = ap (λ (x : Bool). cond x (action_line body line (drop 6 text)) (entry_line body line text)) is

  pub line-of_state : is_state_line text ≡ true → model_line body line text ≡ state_line body line (without_blanks_before (drop 5 text))
  line-of_state is = by_state true is

  pub line-of_action : is_state_line text ≡ false → is_action_line text ≡ true → model_line body line text ≡ action_line body line (drop 6 text)
  line-of_action not_state is = by_state false not_state ∙ by_action true is

  pub line-of_entry : is_state_line text ≡ false → is_action_line text ≡ false → model_line body line text ≡ entry_line body line text
  line-of_entry not_state not_action = by_state false not_state ∙ by_action false not_action
