-- One more choice in the lists of the nodes on whose values it depends.
use Rattle.std.proofs.Common.{◌≡◌, inl, inr, ℕ, ◌+◌, ◌<◌, Bool, true, false, ◌||◌, ◌&&◌, ◌==◌, List, [], ◌∷◌, ◌++◌, length, get_or, take}
use Rattle.std.proofs.{Common.{refl, sym, ap, ◌∙◌, subst, arith, eq-eqb}, lemmas.Bool.{cases_eq, ne_eqb}}
use Rattle.std.proofs.{lemmas.List.{length-set, get_or-set_same, get_or-set_other}, lemmas.List.Folds.{list_any-append, list_any_more}}
use Rattle.std.specs.{Prelude.{slice_set}, List.{list_any}}
use Rattle.mdp_math.proofs.Booleans.{or-false, and-false, and-true}
use Rattle.mdp_rows.specs.{Preds.{is_among}, declared.preds.Pred.{Pred}}
use Rattle.mdp_policy_iteration.specs.Dependents.{is_choice, depends}

-- this choice now also depends on the values of these nodes
pub record IsPushed (old new : List (List Pred)) (dependent : Pred) (nodes : List ℕ) : Type 0 where
  pub count : length new ≡ length old
  pub at : (s c t : ℕ) → t < length old → depends new s c t ≡ (depends old s c t || (is_choice s c dependent && is_among t nodes))

spread : (a b m e : Bool) → ((a || (b && m)) || (b && e)) ≡ (a || (b && (m || e)))
spread true b m e = refl
spread false true m e = refl
spread false false m e = refl

pushed-at : (now new : List (List Pred)) (dependent : Pred) (x : ℕ) → x < length now → new ≡ slice_set now x (get_or now x [] ++ dependent ∷ [])
    → (s c t : ℕ) → depends new s c t ≡ (depends now s c t || (is_choice s c dependent && (x == t)))
pushed-at now new dependent x h is s c t = ap (λ (ls : List (List Pred)). depends ls s c t) is ∙ (elim (cases_eq x t) [
  | inl same ↦ subst (λ k. depends (slice_set now x (get_or now x [] ++ dependent ∷ [])) s c k ≡ (depends now s c k || (is_choice s c dependent && (x == k)))) same here
  | inr other ↦
      ap (λ (ps : List Pred). list_any (is_choice s c) ps) (get_or-set_other now x t (get_or now x [] ++ dependent ∷ []) [] (λ e. other (sym e)))
      ∙ sym (ap (λ b. depends now s c t || (is_choice s c dependent && b)) (ne_eqb x t other) ∙ ap (λ b. depends now s c t || b) (and-false (is_choice s c dependent)) ∙ or-false (depends now s c t))
]) where
  here : depends (slice_set now x (get_or now x [] ++ dependent ∷ [])) s c x ≡ (depends now s c x || (is_choice s c dependent && (x == x)))
  here =
      ap (λ (ps : List Pred). list_any (is_choice s c) ps) (get_or-set_same now x (get_or now x [] ++ dependent ∷ []) [] h)
      ∙ list_any-append (is_choice s c) (get_or now x []) (dependent ∷ [])
      ∙ ap (λ b. depends now s c x || b) (or-false (is_choice s c dependent) ∙ sym (ap (λ b. is_choice s c dependent && b) (eq-eqb x x refl) ∙ and-true (is_choice s c dependent)))

pub one_pushed : (old now new : List (List Pred)) (dependent : Pred) (nodes : List ℕ) (i : ℕ) → IsPushed old now dependent (take i nodes) → i < length nodes → get_or nodes i 0 < length old
    → new ≡ slice_set now (get_or nodes i 0) (get_or now (get_or nodes i 0) [] ++ dependent ∷ []) → IsPushed old new dependent (take (i + 1) nodes)
one_pushed old now new dependent nodes i p h l is = record {
  count = ap length is ∙ length-set now (get_or nodes i 0) (get_or now (get_or nodes i 0) [] ++ dependent ∷ []) ∙ p.count;
  at = λ s c t k.
      pushed-at now new dependent (get_or nodes i 0) (omega (arith, l, p.count)) is s c t
      ∙ ap (λ b. b || (is_choice s c dependent && (get_or nodes i 0 == t))) (p.at s c t k)
      ∙ spread (depends old s c t) (is_choice s c dependent) (is_among t (take i nodes)) (get_or nodes i 0 == t)
      ∙ ap (λ b. depends old s c t || (is_choice s c dependent && b)) (sym (list_any_more (λ x. x == t) nodes i 0 h));
}
