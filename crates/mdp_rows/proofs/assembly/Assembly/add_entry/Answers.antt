use Rattle.std.proofs.Common.{◌<◌, ◌^◌, inr, sym, ◌∙◌, ap, arith}
use Rattle.std.specs.Prelude.{Ok}
use Rattle.mdp_rows.proofs.Assembled.Entries.{no_row_for_entry, past_states, there_already, past_entries, entry_taken, entry_is_in, is_with_entry, is_marked}
use Rattle.mdp_rows.proofs.assembly.Assembly.add_entry.Goals as goal

pub returns-in_default : goal.returns-in_default
returns-in_default c = record { follows = no_row_for_entry c.self.inside _ c.args.target c.args.value c.self.view_is c.in_default.not-InRow }

pub returns-then-target-self : goal.returns-then-target-self
returns-then-target-self c = record { follows = inr (past_states c.self.inside _ c.args.target c.args.value c.self.view_is c.in-InRow.is c.if-target-self.true) }

pub returns-then-at : goal.returns-then-at
returns-then-at c =
    let n = is_marked c.self.inside c.args.target _ c.self.invariant c.if-target-self.false c.if-at.ensures in
    record { follows = inr (there_already c.self.inside _ c.args.target c.args.value c.self.view_is c.in-InRow.is c.if-target-self.false n) }

pub returns-then-self-ge-MAX_ENTRIES : goal.returns-then-self-ge-MAX_ENTRIES
returns-then-self-ge-MAX_ENTRIES c =
    let n = is_marked c.self.inside c.args.target _ c.self.invariant c.if-target-self.false c.if-at.ensures in
    record { follows = inr (past_entries c.self.inside _ c.args.target c.args.value c.self.view_is c.in-InRow.is c.if-target-self.false n (omega (arith, c.if-self-ge-MAX_ENTRIES.true))) }

pub invariant_of-self-2 : goal.invariant_of-self-2
invariant_of-self-2 c =
    let n = is_marked c.self.inside c.args.target _ c.self.invariant c.if-target-self.false c.if-at.ensures in
    let e = rw c.if-is_err.ensures.negation at c.push.ensures.items in
    is_with_entry c.self.inside _ _ _ c.self.invariant c.in-InRow.is n c.if-target-self.false (omega (arith, c.if-self-ge-MAX_ENTRIES.false)) e c.set.ensures

pub returns : goal.returns
returns c =
    let n = is_marked c.self.inside c.args.target _ c.self.invariant c.if-target-self.false c.if-at.ensures in
    let e = rw c.if-is_err.ensures.negation at c.push.ensures.items in
    let k : c.self.inside.entries < 2 ^ 24 = omega (arith, c.if-self-ge-MAX_ENTRIES.false) in
    record {
      follows = entry_taken c.self.inside _ c.args.target c.args.value c.self.view_is c.in-InRow.is c.if-target-self.false n k
          ∙ ap Ok (sym (entry_is_in c.self.inside _ _ _ c.self.invariant c.in-InRow.is n c.if-target-self.false k e c.set.ensures));
    }
