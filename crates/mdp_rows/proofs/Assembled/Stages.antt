-- What of a draft is open, from the stage of its builder.
use Rattle.std.proofs.Common.{◌≡◌, ◌≢◌, ℕ, ◌+◌, ◌<◌, ◌≤◌, false, ltb, le-ltb, get_or, length, [], None, refl, sym, ap, ap₂, ◌∙◌}
use Rattle.mdp_rows.specs.{Draft.{Draft, OpenState, OpenChoice, has_state, has_choice, has_target, has_open_target, states_opened}, Given.{row_of}}
use Rattle.mdp_rows.specs.{GivenRow.{in_order}, FlatDraft.{draft_in, open_in, state_in, choice_in, IsDraft}, declared.assembly.Assembly.TheInside.{Inside}}
use Rattle.mdp_rows.specs.{declared.assembly.Stage.{Stage}, declared.assembly.Stage.TheVariants.{Between, InState, InRow}}
use Rattle.mdp_rows.specs.declared.rule.RowRule.TheVariants.{Exact}
use Rattle.mdp_rows.proofs.{Assembled.Drafts.{closed_len}, Assembled.GivenRows.{is_there, none_there}}

abbrev pub draft_at : Inside → Stage → Draft
draft_at b stage = record {
  announced = 0;
  rule = Exact;
  names = [];
  labels = [];
  closed = [];
  state = open_in stage (state_in b) (choice_in b);
  entries = 0;
  refused = None;
}

pub state_is : (b : Inside) (v : Draft) (stage : Stage) → draft_in b ≡ v → b.stage ≡ stage → has_state (draft_at b stage) ≡ has_state v
unfolding draft_in
state_is b v stage is e = ap (λ (x : Stage). has_state (draft_at b x)) (sym e) ∙ ap has_state is

pub row_is : (b : Inside) (v : Draft) (stage : Stage) → draft_in b ≡ v → b.stage ≡ stage → has_choice (draft_at b stage) ≡ has_choice v
unfolding draft_in
row_is b v stage is e = ap (λ (x : Stage). has_choice (draft_at b x)) (sym e) ∙ ap has_choice is

-- how many states were opened, from how many are closed
abbrev pub opened_at : Stage → ℕ → ℕ
opened_at Between n = n
opened_at InState n = n + 1
opened_at InRow n = n + 1

opened_in : (st : Stage) (d : Draft) (o : OpenState) (c : OpenChoice) → d.state ≡ open_in st o c → states_opened d ≡ opened_at st (length d.closed)
opened_in Between d o c e = rw e refl
opened_in InState d o c e = rw e refl
opened_in InRow d o c e = rw e refl

pub opened_is : (b : Inside) (v : Draft) (stage : Stage) → IsDraft b → draft_in b ≡ v → b.stage ≡ stage → opened_at stage (length b.labels.of_state) ≡ states_opened v
unfolding draft_in
opened_is b v stage ok is e =
    ap₂ opened_at (sym e) (sym (closed_len b ok)) ∙ sym (opened_in b.stage (draft_in b) (state_in b) (choice_in b) refl) ∙ ap states_opened is

-- whether the open row has a target
target_in : (st : Stage) (d : Draft) (t : ℕ) (o : OpenState) (c : OpenChoice) → o.choice ≡ None → st ≢ InRow → d.state ≡ open_in st o c → has_open_target d t ≡ false
target_in Between d t o c n h e = rw e refl
target_in InState d t o c n h e = rw (e, n) refl
target_in InRow d t o c n h e = absurd (h refl)

pub no_target : (b : Inside) (v : Draft) (t : ℕ) → draft_in b ≡ v → b.stage ≢ InRow → false ≡ has_open_target v t
unfolding draft_in
no_target b v t is h = sym (target_in b.stage (draft_in b) t (state_in b) (choice_in b) refl h refl) ∙ ap (λ (d : Draft). has_open_target d t) is

row_target : (st : Stage) (d : Draft) (t : ℕ) (o : OpenState) (c : OpenChoice) → st ≡ InRow → d.state ≡ open_in st o c → has_open_target d t ≡ has_target c.row t
row_target Between d t o c h e = absurd cc
row_target InState d t o c h e = absurd cc
row_target InRow d t o c h e = rw e refl

pub target_is : (b : Inside) (v : Draft) (t : ℕ) → draft_in b ≡ v → b.stage ≡ InRow → has_target (in_order (row_of b.row.items)) t ≡ has_open_target v t
unfolding draft_in
target_is b v t is h = sym (row_target b.stage (draft_in b) t (state_in b) (choice_in b) h refl) ∙ ap (λ (d : Draft). has_open_target d t) is

pub marked_is : (b : Inside) (v : Draft) (t : ℕ) → draft_in b ≡ v → IsDraft b → b.stage ≡ InRow → t < b.announced → get_or b.targets t false ≡ has_open_target v t
marked_is b v t is ok e h = is_there b.announced (row_of b.row.items) b.targets ok.row.given t h ∙ target_is b v t is e

-- no target is past the states
pub none_past : (b : Inside) (v : Draft) (t : ℕ) → draft_in b ≡ v → IsDraft b → b.stage ≡ InRow → b.announced ≤ t → ltb t b.announced ≡ has_open_target v t
none_past b v t is ok e h = le-ltb t b.announced h ∙ sym (none_there b.announced (row_of b.row.items) b.targets ok.row.given t h) ∙ target_is b v t is e
