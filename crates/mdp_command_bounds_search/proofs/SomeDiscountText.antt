-- Some text is due to each reward name that the model has and each discount factor, and all that is shown of a text is shown of it.
use Rattle.std.proofs.Common.{◌≡◌, ℕ, ◌<◌, ◌≤◌, ◌^◌, List, length, Option, Some, None, Ok, inl, inr, refl, sym, subst, ◌∙◌, arith, lt-ltb}
use Rattle.std.proofs.lemmas.List.Elements.{All-get_or}
use Rattle.std.specs.{List.{All}, Option.{IfSome}, Prelude.{IsTrue}}
use Rattle.mdp_math.specs.Rational.{ℚ}
use Rattle.mdp_num.specs.Value.{IsNarrow}
use Rattle.mdp_spec.specs.{Bounds.{reward_at}, Labels.{place_of, initial_of}, Mdp.{Mdp}}
use Rattle.mdp_rows.specs.{Limits.{IsModel}, Name.{IsRewardName}, declared.dir.Dir.{Dir}}
use Rattle.mdp_rows.proofs.FoundNames.{found_among, name_of_reward}
use Rattle.mdp_text.proofs.InitialState.{initial_below}
use Rattle.mdp_check.proofs.Accepting.{below_names}
use Rattle.mdp_claims.specs.declared.verdict.Verdict.TheVariants.{Yes}
use Rattle.mdp_discount_rules.specs.Rules.{IsFactor}
use Rattle.mdp_discount.specs.Laws.{CanAsk, HasAnEnd, AnswersMeetRules}
use Rattle.mdp_discount_rules.specs.{BoundsCert.{Certificate, IsValueNarrow, is_init, Fits}, BoundsCheck.{init_check, IsAccepted}, BoundsLaws.{AcceptedIsBound}}
use Rattle.mdp_discount_rules.specs.declared.bounds_init.InitialBounds.{InitialBounds}
use Rattle.mdp_discount_text.specs.{BoundsLaws.{IsReadBack}, BoundsSpelling.{text_of}}
use Rattle.mdp_command.specs.Said.{Said}
use Rattle.mdp_command_bounds_search.specs.{DiscountDue.{ClaimsSo}, DiscountLaws.{HasADiscountText}}
use Rattle.mdp_command_bounds_search.proofs.{DiscountPrinting.{init_right, text_due, printed}, SomeDiscount.{SomeDiscount, some_discount}}

-- ---- the line `init`

init_at : Option ℕ → List (Option ℚ) → List (Option ℚ) → Option InitialBounds
init_at None lower upper = None
init_at (Some s) lower upper = Some (record { state = s; lower = reward_at lower s; upper = reward_at upper s })

record IsRight (n : ℕ) (o : Option ℕ) (lower upper : List (Option ℚ)) : Type 0 where
  checked : init_check (init_at o lower upper) o lower upper ≡ Yes
  inside : IsTrue (is_init n (init_at o lower upper))
  width : IfSome (init_at o lower upper) (λ i. IsValueNarrow i.lower × IsValueNarrow i.upper)

value_narrow : (v : List (Option ℚ)) (s : ℕ) → s < length v → All IsValueNarrow v → IsValueNarrow (reward_at v s)
value_narrow v s l narrow = All-get_or IsValueNarrow v s _ l narrow

right : (n : ℕ) (o : Option ℕ) (lower upper : List (Option ℚ)) → length lower ≡ n → length upper ≡ n → ((s : ℕ) → o ≡ Some s → s < n) → All IsValueNarrow lower
    → All IsValueNarrow upper → IsRight n o lower upper
unfolding init_at
right n None lower upper low high below h k = record { checked = refl; inside = refl; width = tt }
right n (Some s) lower upper low high below h k =
    let lt = below s refl in
    let l : s < length lower = omega (arith, lt, low) in
    let u : s < length upper = omega (arith, lt, high) in
    record {
      checked = init_right s lower upper (reward_at lower s) (reward_at upper s) refl refl l u;
      inside = lt-ltb s n lt;
      width = (value_narrow lower s l h, value_narrow upper s u k);
    }

-- ---- the certificate

module _ (dir : Dir) (name : List ℕ) (f : ℚ) (digits : ℕ) (m : Mdp) (r : ℕ) (model : IsModel m) (factor : IsFactor f) (narrow : IsNarrow f) (found : place_of name m.names ≡ Some r)
    (x : SomeDiscount digits dir m r f) where
  abbrev own : Certificate
  own = record {
    dir = dir;
    name = name;
    factor = f;
    init = init_at (initial_of m) x.lower x.upper;
    remainder = x.remainder;
    lower = x.lower;
    upper = x.upper;
    choices = x.choices;
  }

  line : IsRight (length x.lower) (initial_of m) x.lower x.upper
  line =
      let one = x.rules.rules.one_each in
      let above = x.rules.rules.one_above in
      right (length x.lower) (initial_of m) x.lower x.upper refl (above ∙ sym one) (λ s e. subst (λ (n : ℕ). s < n) (sym one) (initial_below m s e)) x.lower_narrow x.upper_narrow

  accepted : IsAccepted m own
  accepted = record { states = x.rules.rules.one_each; reward = r; named = found; init = line.checked; rules = x.rules }

  fits : Fits own
  fits =
      let rules = x.rules.rules in
      let one = rules.one_each in
      let some = model.mdp.some in
      record {
        some = omega (arith, one, some);
        limit = subst (λ (j : ℕ). j ≤ 2 ^ 20) (sym one) model.mdp.few;
        one_above = rules.one_above ∙ sym one;
        one_each = rules.choices.one_each ∙ sym one;
        named = name_of_reward name (found_among IsRewardName name m.names r found model.names.each);
        discount = factor;
        inside = line.inside;
        factor_width = narrow;
        init_width = line.width;
        remainder_width = x.remainder_narrow;
        lower_width = x.lower_narrow;
        upper_width = x.upper_narrow;
        choices_width = x.choices_short;
      }

  claim : ClaimsSo dir name f own
  claim = record { direction = refl; named = refl; discounted = refl }

pub has_a_text : IsReadBack → AcceptedIsBound → HasAnEnd → AnswersMeetRules → HasADiscountText
has_a_text back true_of ends rules dir name f digits m r model factor narrow found =
    let ask : CanAsk m r f = record { model = model.mdp; named = below_names name m.names r found; discount = factor } in
    let x = some_discount digits dir m model r f ask ends rules in
    let c = own dir name f digits m r model factor narrow found x in
    let a = accepted dir name f digits m r model factor narrow found x in
    let k = claim dir name f digits m r model factor narrow found x in
    let w = fits dir name f digits m r model factor narrow found x in
    let said : Said = Ok (text_of c) in (
      text_of c,
      elim (text_due dir name f m c k a w r found said (inr refl)) [ inl memory ↦ absurd cc | inr due ↦ due ],
      printed dir name f m c k a w digits (r, found, x.near) model.mdp back true_of said (inr refl),
    )
