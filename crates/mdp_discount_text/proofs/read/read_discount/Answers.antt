use Rattle.std.proofs.{Common.{ℕ, ◌<◌, ◌≤◌, ◌^◌, true, ◌≡◌, List, length, sym, ap, subst, ◌∙◌}, lemmas.List.{length-map}}
use Rattle.mdp_math.specs.Rational.{ℚ}
use Rattle.mdp_num.specs.Value.{IsNarrow}
use Rattle.mdp_text.specs.Lines.{place}
use Rattle.mdp_cert.specs.{declared.version.Version.TheVariants.{One}, declared.pair.Pair.{Pair}, Pairs.{IsShort, IsPairInWidth}}
use Rattle.mdp_cert.proofs.Bodies.{closed-found}
use Rattle.mdp_discount_rules.specs.Cert.{is_init}
use Rattle.mdp_discount_text.specs.{Code.{plain_head}, Entries.{priced_columns}}
use Rattle.mdp_discount_text.proofs.{Columns.{priced-is_columns}, Outcomes.{head-found}}
use Rattle.mdp_discount_text.proofs.read.read_discount.Goals as goal

pub invariant_of-result : goal.invariant_of-result
invariant_of-result c =
    let head = c.in_ok-head.head in
    let h = head-found (place 2 c.in_ok-text.rest.now) (plain_head c.in_ok-head.head) (place 6 c.in_ok-head.rest.now) c.in_ok-head.ensures in
    let b = closed-found priced_columns (IsPairInWidth IsNarrow IsShort) priced-is_columns head.states h.is.front.limit One (place 6 c.in_ok-head.rest.now) c.in_ok-entries.entries.items
    (place c.in_ok-entries.line c.in_ok-entries.rest.now) c.in_ok-entries.ensures in
    let values : length c.in_ok-values.values.items ≡ head.states =
    ap (λ (l : List ℚ). length l) (c.in_ok-values.ensures {u = tt}) ∙ length-map _ (λ (x : Pair ℚ ℕ). x.first) ∙ ap (λ (ys : List (Pair ℚ ℕ)). length ys) c.deref.ensures.value ∙ b.count in
    let choices : length c.in_ok-choices.choices.items ≡ head.states =
    ap (λ (l : List ℕ). length l) (c.in_ok-choices.ensures {u = tt}) ∙ length-map _ (λ (x : Pair ℚ ℕ). x.others) ∙ ap (λ (ys : List (Pair ℚ ℕ)). length ys) c.deref-2.ensures.value ∙ b.count in
    record {
      some = subst (λ (n : ℕ). 0 < n) (sym values) h.is.front.some;
      limit = subst (λ (n : ℕ). n ≤ 2 ^ 20) (sym values) h.is.front.limit;
      one_each = choices ∙ sym values;
      named = h.is.front.claim.named;
      discount = h.is.front.claim.factor;
      inside = subst (λ (n : ℕ). is_init n head.init ≡ true) (sym values) h.is.front.init.inside;
    }
