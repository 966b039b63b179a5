-- The targets of allowed choices while they are gathered.
use Rattle.std.proofs.Common.{◌≡◌, inl, inr, ℕ, ◌+◌, ◌<◌, Bool, true, false, ◌||◌, ◌&&◌, ◌==◌, List, [], ◌∷◌, ◌++◌}
use Rattle.std.proofs.{Common.{length, get_or, refl, sym, ap, ap₂, ◌∙◌, arith, append_assoc, length-append}, lemmas.Bool.{cases_eq}, lemmas.List.{append-nil}}
use Rattle.std.proofs.lemmas.List.Folds.{list_any-append}
use Rattle.std.specs.List.{list_any, range_with_len}
use Rattle.mdp_math.specs.Rational.{ℚ}
use Rattle.mdp_math.proofs.{Booleans.{or-false}, Lists.{range_more}}
use Rattle.mdp_spec.specs.{Mdp.{Mdp, states_of, choices_at, row_at}, Row.{entries}}
use Rattle.mdp_rows.specs.{Preds.{is_among}, Pieces.{pieces, ArePlaces}}
use Rattle.mdp_rows.proofs.Flat.Growth.{one_place, places-more, pieces-more}
use Rattle.mdp_graph.specs.Sets.{can_enter}
use Rattle.mdp_graph.proofs.Among.{among-append}
use Rattle.mdp_ends.specs.Walks.{chosen_step}
use Rattle.mdp_ends.proofs.NumberingFound.{length-more, at_before, at_last}
use Rattle.mdp_parts.specs.{Allowed.{allowed_at}, Targets.{AreTargets, HasTargets}}
use Rattle.mdp_parts.proofs.TargetFacts.{leads-as-among}

-- choice c of state s is allowed and leads to t
abbrev pub target_test : Mdp → List (List Bool) → ℕ → ℕ → ℕ → Bool
target_test m allowed s t c = allowed_at allowed s c && can_enter (λ x. x == t) (row_at m s c)

-- the targets of the first c choices
pub record AreGathered (m : Mdp) (allowed : List (List Bool)) (s c : ℕ) (list : List ℕ) : Type 0 where
  pub at : (t : ℕ) → is_among t list ≡ list_any (target_test m allowed s t) (range_with_len 0 c)

pub any_more : (p : ℕ → Bool) (c : ℕ) → list_any p (range_with_len 0 (c + 1)) ≡ (list_any p (range_with_len 0 c) || p c)
any_more p c = ap (list_any p) (range_more c) ∙ list_any-append p (range_with_len 0 c) (c ∷ []) ∙ ap (λ b. list_any p (range_with_len 0 c) || b) (or-false (p c))

pub none_gathered : (m : Mdp) (allowed : List (List Bool)) (s : ℕ) (list : List ℕ) → list ≡ [] → AreGathered m allowed s 0 list
none_gathered m allowed s list e = record { at = λ t. ap (is_among t) e }

pub gathered_more : (m : Mdp) (allowed : List (List Bool)) (s c : ℕ) (list new ts : List ℕ) (ps : List ℚ) → AreGathered m allowed s c list → allowed_at allowed s c ≡ true
    → length ts ≡ length ps → entries ts ps ≡ row_at m s c
    → new ≡ list ++ ts → AreGathered m allowed s (c + 1) new
gathered_more m allowed s c list new ts ps a is same row e = record {
  at = λ t.
      ap (is_among t) e ∙ among-append t list ts ∙ ap (λ b. b || is_among t ts) (a.at t)
      ∙ ap (λ b. list_any (target_test m allowed s t) (range_with_len 0 c) || b) (sym (ap (λ b. b && can_enter (λ x. x == t) (row_at m s c)) is ∙ ap (can_enter (λ x. x == t)) (sym row)
      ∙ leads-as-among ts ps t same))
      ∙ sym (any_more (target_test m allowed s t) c);
}

pub gathered_skip : (m : Mdp) (allowed : List (List Bool)) (s c : ℕ) (list : List ℕ) → AreGathered m allowed s c list → allowed_at allowed s c ≡ false → AreGathered m allowed s (c + 1) list
gathered_skip m allowed s c list a out = record {
  at = λ t.
      a.at t ∙ sym (or-false (list_any (target_test m allowed s t) (range_with_len 0 c)))
      ∙ ap (λ b. list_any (target_test m allowed s t) (range_with_len 0 c) || b) (sym (ap (λ b. b && can_enter (λ x. x == t) (row_at m s c)) out))
      ∙ sym (any_more (target_test m allowed s t) c);
}

pub all_gathered : (m : Mdp) (allowed : List (List Bool)) (s c : ℕ) (list : List ℕ) → AreGathered m allowed s c list → c ≡ length (choices_at m s) → (t : ℕ)
    → is_among t list ≡ chosen_step m (allowed_at allowed) (λ x. x == t) s
all_gathered m allowed s c list a e t = a.at t ∙ ap (λ n. list_any (target_test m allowed s t) (range_with_len 0 n)) e

-- the lists of the first n states
pub record AreTargetsBelow (m : Mdp) (chosen : ℕ → ℕ → Bool) (n : ℕ) (edges : List (List ℕ)) : Type 0 where
  pub count : length edges ≡ n
  pub leads : (s t : ℕ) → s < n → is_among t (get_or edges s []) ≡ chosen_step m chosen (λ x. x == t) s

pub no_targets : (m : Mdp) (chosen : ℕ → ℕ → Bool) → AreTargetsBelow m chosen 0 []
no_targets m chosen = record { count = refl; leads = λ s t h. absurd (omega (arith, h)) }

pub targets_more : (m : Mdp) (chosen : ℕ → ℕ → Bool) (n : ℕ) (edges new : List (List ℕ)) (list : List ℕ) → AreTargetsBelow m chosen n edges → new ≡ edges ++ list ∷ [] → ((t : ℕ)
    → is_among t list ≡ chosen_step m chosen (λ x. x == t) n)
    → AreTargetsBelow m chosen (n + 1) new
targets_more m chosen n edges new list a e is = record {
  count = (let c = ap (λ (xs : List (List ℕ)). length xs) e in omega (arith, c, length-more edges list, a.count));
  leads = λ s t h. ap (λ (xs : List (List ℕ)). is_among t (get_or xs s [])) e ∙ (elim (cases_eq s n) [
    | inl same ↦
        (let place : s ≡ length edges = omega (arith, same, a.count) in
        ap (λ j. is_among t (get_or (edges ++ list ∷ []) j [])) place ∙ ap (is_among t) (at_last edges list []) ∙ is t ∙ ap (λ j. chosen_step m chosen (λ x. x == t) j) (sym same))
    | inr other ↦ (let l : s < n = omega (arith, h, other) in ap (is_among t) (at_before edges list [] s (omega (arith, l, a.count))) ∙ a.leads s t l)
  ]);
}

pub all_targets : (m : Mdp) (chosen : ℕ → ℕ → Bool) (n : ℕ) (edges : List (List ℕ)) → AreTargetsBelow m chosen n edges → n ≡ states_of m → AreTargets m chosen edges
all_targets m chosen n edges a e = record { count = a.count ∙ e; leads = λ s t h. a.leads s t (omega (arith, h, e)) }

-- ---- the same lists in one vector

-- the targets of the first c choices were appended
pub record AreAppended (m : Mdp) (allowed : List (List Bool)) (s c : ℕ) (old new : List ℕ) : Type 0 where
  pub list : List ℕ
  pub longer : new ≡ old ++ list
  pub gathered : AreGathered m allowed s c list

pub none_appended : (m : Mdp) (allowed : List (List Bool)) (s : ℕ) (old : List ℕ) → AreAppended m allowed s 0 old old
none_appended m allowed s old = record { list = []; longer = sym (append-nil old); gathered = none_gathered m allowed s [] refl }

pub appended_more : (m : Mdp) (allowed : List (List Bool)) (s c : ℕ) (old now new ts : List ℕ) (ps : List ℚ) → AreAppended m allowed s c old now
    → allowed_at allowed s c ≡ true → length ts ≡ length ps → entries ts ps ≡ row_at m s c → new ≡ now ++ ts → AreAppended m allowed s (c + 1) old new
appended_more m allowed s c old now new ts ps was is same row e = record {
  list = was.list ++ ts;
  longer = e ∙ ap (λ (x : List ℕ). x ++ ts) was.longer ∙ append_assoc old was.list ts;
  gathered = gathered_more m allowed s c was.list (was.list ++ ts) ts ps was.gathered is same row refl;
}

pub appended_skip : (m : Mdp) (allowed : List (List Bool)) (s c : ℕ) (old new : List ℕ) → AreAppended m allowed s c old new → allowed_at allowed s c ≡ false
    → AreAppended m allowed s (c + 1) old new
appended_skip m allowed s c old new was out = record { list = was.list; longer = was.longer; gathered = gathered_skip m allowed s c was.list was.gathered out }

pub all_appended : (m : Mdp) (allowed : List (List Bool)) (s c : ℕ) (old new : List ℕ) → AreAppended m allowed s c old new → c ≡ length (choices_at m s)
    → HasTargets m (allowed_at allowed) s old new
all_appended m allowed s c old new was e = record { list = was.list; longer = was.longer; leads = all_gathered m allowed s c was.list was.gathered e }

-- the targets of the first n states stand one state after the other
pub record AreInOne (m : Mdp) (chosen : ℕ → ℕ → Bool) (n : ℕ) (targets starts : List ℕ) : Type 0 where
  pub places : ArePlaces starts (length targets)
  pub below : AreTargetsBelow m chosen n (pieces targets starts)

pub none_in_one : (m : Mdp) (chosen : ℕ → ℕ → Bool) (targets starts : List ℕ) → targets ≡ [] → starts ≡ 0 ∷ [] → AreInOne m chosen 0 targets starts
none_in_one m chosen targets starts e f = rw (e, f) (record { places = one_place; below = no_targets m chosen })

pub one_state_more : (m : Mdp) (chosen : ℕ → ℕ → Bool) (n : ℕ) (targets new starts longer : List ℕ) (end : ℕ) → AreInOne m chosen n targets starts
    → HasTargets m chosen n targets new → longer ≡ starts ++ end ∷ [] → end ≡ length new → AreInOne m chosen (n + 1) new longer
one_state_more m chosen n targets new starts longer end was more e f =
    let long : length new ≡ length targets + length more.list = ap length more.longer ∙ length-append targets more.list in
    record {
      places = rw (e, sym f) (places-more starts (length targets) end was.places (omega (arith, long, f)));
      below =
          targets_more m chosen n (pieces targets starts) (pieces new longer) more.list was.below
          (ap₂ pieces more.longer e ∙ pieces-more targets more.list starts end was.places (f ∙ ap length more.longer)) more.leads;
    }
