-- What the rules say of all places is together what they ask in exact numbers.
use Rattle.std.proofs.Common.{◌≡◌, ℕ, ◌<◌, List, length, slice_index, Option, Some, None, refl, sym, subst}
use Rattle.mdp_math.specs.Rational.{ℚ}
use Rattle.mdp_spec.specs.Mdp.{Mdp, states_of, choices_at, value_at}
use Rattle.mdp_rows.specs.declared.dir.Dir.{Dir}
use Rattle.mdp_claims.specs.declared.rule.Rule.{Rule}
use Rattle.mdp_claims.specs.declared.rule.Rule.TheVariants.{ChoiceExists, DiscountedOnEachChoice, DiscountedOnPolicy, RemainderIsGreatest}
use Rattle.mdp_discount_rules.specs.{Rules.{discounted, MeetsDiscount}, Says.{DiscountSays}, Laws.{DiscountSaysAll}}

-- what holds of the policy's choice holds of c, where the policy takes c
taken : (P : ℕ → Type 0) (policy : List ℕ) (s c : ℕ) → c ≡ slice_index policy s → P (slice_index policy s) → P c
taken P policy s c e h = subst P (sym e) h

module _ (dir : Dir) (m : Mdp) (r : ℕ) (f : ℚ) (v : List ℚ) (remainder : ℚ) (policy : List ℕ) where
  discount_says : MeetsDiscount dir m r f v remainder policy → (rule : Rule) (state choice : Option ℕ) → DiscountSays dir m r f v remainder policy rule state choice
  discount_says k ChoiceExists (Some s) (Some c) = λ l e. taken (λ c. c < length (choices_at m s)) policy s c e (k.choices.in_range s l)
  discount_says k DiscountedOnEachChoice (Some s) (Some c) = λ l i. k.covers s c l i
  discount_says k DiscountedOnPolicy (Some s) (Some c) = λ l e. taken (λ c. value_at v s ≡ discounted m r f s c v) policy s c e (k.reached s l)
  discount_says k RemainderIsGreatest None None = k.greatest_magnitude
  discount_says k rule state choice = tt

  discount_meets : r < length m.names → length v ≡ states_of m → length policy ≡ states_of m
      → ((rule : Rule) (state choice : Option ℕ) → DiscountSays dir m r f v remainder policy rule state choice) → MeetsDiscount dir m r f v remainder policy
  discount_meets named one each says = record {
    named = named;
    one_each = one;
    choices = record { one_each = each; in_range = λ s l. says ChoiceExists (Some s) (Some (slice_index policy s)) l refl };
    covers = λ s c l i. says DiscountedOnEachChoice (Some s) (Some c) l i;
    reached = λ s l. says DiscountedOnPolicy (Some s) (Some (slice_index policy s)) l refl;
    greatest_magnitude = says RemainderIsGreatest None None;
  }

pub discount_says_all : DiscountSaysAll
discount_says_all dir m r f v remainder policy named one each = (discount_says dir m r f v remainder policy, discount_meets dir m r f v remainder policy named one each)
