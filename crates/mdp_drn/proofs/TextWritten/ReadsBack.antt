-- The text of a model reads as that model, where handing the model to a builder gives it back.
use Rattle.std.proofs.Common.{◌≡◌, ℕ, ◌≤◌, true, eqb, eq-eqb, List, ◌++◌, length, sum_by, refl, sym, ap, ap₂, ◌∙◌, arith, Some, Ok}
use Rattle.mdp_num.specs.Numeral.{limit}
use Rattle.mdp_spec.specs.Mdp.{State, Mdp, states_of}
use Rattle.mdp_rows.specs.{Draft.{Draft, new_draft, all_closed, finished, after_finish}, Limits.{IsModel}, Replay.{with_states, replayed, IsReplayed}}
use Rattle.mdp_rows.specs.declared.rule.RowRule.TheVariants.{Exact}
use Rattle.mdp_drn.specs.{Lines.{lines_of}, Outcome.{◌>>=◌}, Reading.{InModel, nothing_read, after_lines, at_end, Reads, all_choices}}
use Rattle.mdp_drn.specs.Writing.{text_of, ReadsBack}
use Rattle.mdp_drn.proofs.{TextWritten.Lines.{flat, flat-append, are-append, lines-flat}, LinesRead.DraftCalls.{bound}, LinesRead.CountsAtEnd.{finished_states}}
use Rattle.mdp_drn.proofs.{PiecesFed.StandGrows.{after_lines-append}, TextWritten.LineByLine.{doc, body}}
use Rattle.mdp_drn.proofs.TextWritten.Header.{choices_of, header_lines, IsHeaderFit, header-reaches, header-are_lines, header_text-flat, small-limit}
use Rattle.mdp_drn.proofs.{TextWritten.Models.{states-fit}, TextWritten.ModelLines.{states_lines, states-flat, states-written}}

text-flat : (m : Mdp) → text_of m ≡ flat (header_lines m ++ states_lines m 0 m.states)
text-flat m = ap₂ (λ (t u : List ℕ). t ++ u) (header_text-flat m) (states-flat m 0 m.states) ∙ sym (flat-append (header_lines m) (states_lines m 0 m.states))

header-fit : (m : Mdp) → IsModel m → IsHeaderFit m
header-fit m h = record { names = h.names; some = h.mdp.some; few_states = h.mdp.few; few_choices = h.few_choices }

end-read : (m : Mdp) (d e : Draft) (n s a : ℕ) → all_closed d ≡ Ok e → finished e ≡ Ok m → at_end (doc n (InModel (Some (choices_of m)) (body d s a))) ≡ Ok m
unfolding at_end
end-read m d e n s a h k =
    let counted : eqb (all_choices e) (choices_of m) ≡ true = eq-eqb (all_choices e) (choices_of m) (ap (λ (xs : List State). sum_by (λ x. length x.choices) xs) (sym (finished_states e m k))) in
    rw (h, counted, k) refl

pub reads-where_replayed : (m : Mdp) → IsModel m → replayed m ≡ Ok m → Reads (text_of m) Exact m
reads-where_replayed m h replay =
    let start : Draft = new_draft (states_of m) Exact m.names in
    let b = bound (with_states m.names m.labels m.states start) after_finish m replay in
    let f = bound (all_closed b.0) finished m b.2 in
    let fit = header-fit m h in
    let top = header-reaches m fit in
    let few : states_of m ≤ limit = small-limit (states_of m) (omega (arith, h.mdp.few)) in
    let w = states-written (Some (choices_of m)) m 0 m.states start b.0 (states-fit m h) refl (omega arith) few
    (small-limit (choices_of m) h.few_choices) refl (omega (arith, h.names.some)) h.names.few b.1 in
    let lines : lines_of (text_of m) ≡ header_lines m ++ states_lines m 0 m.states =
    ap lines_of (text-flat m) ∙ lines-flat (header_lines m ++ states_lines m 0 m.states) (are-append (header_lines m) (states_lines m 0 m.states) (header-are_lines m fit) w.are) in
    let head = top.from 0 in
    let tail = w.makes.from head.0 0 0 in
    ap (λ (ls : List (List ℕ)). after_lines Exact nothing_read ls >>= at_end) lines
    ∙ ap (λ r. r >>= at_end)
    (after_lines-append Exact nothing_read (header_lines m) (states_lines m 0 m.states) ∙ ap (λ r. r >>= λ e. after_lines Exact e (states_lines m 0 m.states)) head.1 ∙ tail.3)
    ∙ end-read m b.0 f.0 tail.0 tail.1 tail.2 f.1 f.2

pub reads_back : IsReplayed → ReadsBack
reads_back replays m h = reads-where_replayed m h (replays m h)
