use Rattle.std.proofs.{Common.{length, inr, arith, sym, ◌∙◌, ap}, lemmas.Result.{err_from_is_err_and}}
use Rattle.mdp_rows.proofs.Assembled.Drafts.{names_in}
use Rattle.mdp_rows.proofs.Assembled.Entries.{no_state_for_choice, past_choices, choice_is_opened, is_with_choice, is_with_sums, sums_refused}
use Rattle.mdp_rows.proofs.{Assembled.Finished.{or_memory}, Assembled.Sums.{sums_len}}
use Rattle.mdp_rows.proofs.assembly.Assembly.open_choice.Goals as goal

pub returns-in_default : goal.returns-in_default
returns-in_default c = record { follows = no_state_for_choice c.self.inside _ c.args.rewards.now c.self.view_is c.in_default.not-InState c.requires.closed }

pub returns-then-len-ge-MAX_CHOICES : goal.returns-then-len-ge-MAX_CHOICES
returns-then-len-ge-MAX_CHOICES c = record { follows = inr (past_choices c.self.inside _ c.args.rewards.now c.self.view_is c.self.invariant c.in-InState.is (omega (arith, c.len.ensures))) }

pub add_rewards-requires : goal.add_rewards-requires
add_rewards-requires c =
    ap length c.deref.ensures.value ∙ c.self.invariant.head.own (λ e. absurd (let x = sym c.in-InState.is ∙ e in cc)) ∙ ap length (names_in c.self.inside _ c.self.view_is) ∙ sym c.requires.one_each

pub returns-in_err-add_rewards : goal.returns-in_err-add_rewards
returns-in_err-add_rewards c =
    let p = err_from_is_err_and c.from_residual.result c.from_residual.ensures.1 in
    record {
      follows = rw (p.1, p.2) (or_memory c.in_err-add_rewards.field-0.0
          (sums_refused c.self.inside _ c.args.rewards.now c.self.view_is c.self.invariant c.in-InState.is (omega (arith, c.len.ensures)) c.in_err-add_rewards.field-0.0)
          (rw c.deref.ensures.value at (c.in_err-add_rewards.ensures {u = tt}).refused));
    }

pub invariant_of-self-2 : goal.invariant_of-self-2
invariant_of-self-2 c =
    let own = c.self.invariant.head.own (λ e. absurd (let x = sym c.in-InState.is ∙ e in cc)) in
    let n = ap length (names_in c.self.inside _ c.self.view_is) in
    let a = rw c.deref.ensures.value at (c.in_ok-add_rewards.ensures {u = tt}).added in
    let as_many = sums_len c.self.inside.rewards.items c.args.rewards.now c.add_rewards.new.sums.items (own ∙ n ∙ sym c.requires.one_each) a in
    is_with_choice c.self.inside _ c.args.rewards.now c.self.view_is c.self.invariant c.in-InState.is (omega (arith, c.len.ensures)) c.add_rewards.new.sums a
    (as_many ∙ c.requires.one_each ∙ sym n)

pub returns : goal.returns
returns c =
    let a = rw c.deref.ensures.value at (c.in_ok-add_rewards.ensures {u = tt}).added in
    record { follows = choice_is_opened c.self.inside _ c.args.rewards.now c.self.view_is c.self.invariant c.in-InState.is (omega (arith, c.len.ensures)) _ a }

pub invariant_of-self : goal.invariant_of-self
invariant_of-self c = is_with_sums c.self.inside _ c.args.rewards.now c.self.view_is c.self.invariant c.in-InState.is (omega (arith, c.len.ensures)) _
