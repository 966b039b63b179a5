use Rattle.std.proofs.Common.{◌≡◌, ◌∙◌, ◌+◌, ◌++◌, ◌∷◌, [], ℕ, List, length, Bool, true, false, cond, Option, Some, None, refl, sym, ap, subst}
use Rattle.std.proofs.lemmas.List.{length-append}
use Rattle.std.specs.{Prelude.{◌&&◌}, Option.{option_map, is_some, IfSome}}
use Rattle.mdp_math.specs.Rational.{ℚ}
use Rattle.mdp_num.specs.Written.{written_sub}
use Rattle.mdp_spec.specs.{Mdp.{Entry}, Row.{entries, IsDistribution, IsRow}}
use Rattle.mdp_discount.specs.{Problem.{1ℚ, scaled_entries, discounted_row, products_fit}, ScaledView.{entries_in}, declared.scaled.Entries.{Entries}}
use Rattle.mdp_discount.proofs.{ScaledRows.{discounted-row}, MadeRows.{scaled-some}, Products.{products-is, entries-below, settled-row, settled-fits}}
use Rattle.mdp_discount.proofs.scaled.scaled_row.Goals.{In_ok-probs}
use Rattle.mdp_discount.proofs.scaled.scaled_row.Goals as goal

-- the parts of what is built, and the row that they make up
module _ (c : In_ok-probs) where
  abbrev row : List Entry
  row = entries c.args.row.targets.now c.args.row.probs.now

  same : length c.in-Some.made.targets.items ≡ length c.in-Some.made.probs.items
  same = subst (λ (o : Option Entries). IfSome o (λ made. length made.targets.items ≡ length made.probs.items)) c.in-Some.is (c.in_ok-made.ensures {u = tt}).same_length

  products_are : (entries c.in-Some.made.targets.items c.in-Some.made.probs.items ≡ scaled_entries c.args.factor.now row) × (products_fit c.args.factor.now row ≡ true)
  products_are =
      products-is c.args.factor.now (entries c.in-Some.made.targets.items c.in-Some.made.probs.items) row
      (sym (ap (option_map entries_in) c.in-Some.is) ∙ (c.in_ok-made.ensures {u = tt}).entries)

  targets_are : c.in_ok-targets.targets.now ≡ c.in-Some.made.targets.items ++ c.args.end ∷ []
  targets_are = c.in_ok-targets.ensures {u = tt} ∙ c.deref.ensures.value ∙ (c.in_ok-push.ensures {u = tt}).items

  probs_are : c.in_ok-probs.probs.now ≡ c.in-Some.made.probs.items ++ c.in-Ok.left ∷ []
  probs_are = c.in_ok-probs.ensures {u = tt} ∙ c.deref-2.ensures.value ∙ (c.in_ok-push-2.ensures {u = tt}).items

  row_is : entries c.in_ok-targets.targets.now c.in_ok-probs.probs.now ≡ discounted_row c.args.end c.args.factor.now row
  row_is =
      settled-row c.args.end c.args.factor.now c.in-Some.made.targets.items c.in_ok-targets.targets.now c.in-Some.made.probs.items c.in_ok-probs.probs.now [] row c.in-Ok.left c.whole.result
      targets_are probs_are same products_are.0 (c.in-Ok.ensures {u = tt}) c.whole.ensures

pub invariant_of-result : goal.invariant_of-result
invariant_of-result c = record {
  same_length =
      ap length (targets_are c) ∙ length-append c.in-Some.made.targets.items (c.args.end ∷ []) ∙ ap (λ (n : ℕ). n + 1) (same c)
      ∙ sym (length-append c.in-Some.made.probs.items (c.in-Ok.left ∷ [])) ∙ sym (ap length (probs_are c));
  distribution = subst (λ (es : List Entry). IsDistribution es) (sym (row_is c))
      (IsRow.distribution (discounted-row c.args.end c.args.factor.now c.requires.factor (row c)
      (record { distribution = c.args.row.distribution; in_range = entries-below c.args.end c.args.row.targets.now c.args.row.probs.now c.requires.targets })));
}

pub returns : goal.returns
returns c =
    let b = (goal.at.returns c).In_ok-probs in
    ap Some (row_is b)
    ∙ sym (scaled-some c.args.end c.args.factor.now (row b)
    (settled-fits c.args.end c.args.factor.now c.in-Some.made.targets.items c.in_ok-targets.targets.now c.in-Some.made.probs.items c.in_ok-probs.probs.now [] (row b) c.in-Ok.left c.whole.result
    (products_are b).1 (c.in-Ok.ensures {u = tt}) c.whole.ensures))

-- there is no row where a product is past width, nor where what is left is
no_products : (b o : Bool) (es r : List Entry) → None ≡ cond b (Some es) None → None ≡ cond (b && o) (Some r) None
no_products true o es r e = cc
no_products false o es r e = refl

nothing_left : (b : Bool) (o : Option ℚ) (r : List Entry) → None ≡ o → None ≡ cond (b && is_some o) (Some r) None
nothing_left true None r e = refl
nothing_left false None r e = refl
nothing_left b (Some x) r e = cc

pub returns-in_default : goal.returns-in_default
returns-in_default c =
    let f = c.args.factor.now in
    let es = entries c.args.row.targets.now c.args.row.probs.now in
    no_products (products_fit f es) (is_some (written_sub 1ℚ f)) (scaled_entries f es) (discounted_row c.args.end f es)
    (ap (option_map entries_in) (sym c.in_default.is) ∙ (c.in_ok-made.ensures {u = tt}).entries)

pub returns-in_default-sub : goal.returns-in_default-sub
returns-in_default-sub c =
    let f = c.args.factor.now in
    let es = entries c.args.row.targets.now c.args.row.probs.now in
    nothing_left (products_fit f es) (written_sub 1ℚ f) (discounted_row c.args.end f es) (c.in_default-sub.ensures {u = tt} ∙ ap (λ (x : ℚ). written_sub x f) c.whole.ensures)
