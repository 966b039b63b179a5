-- The choices of a problem, listed one after another at the nodes on which they depend.
use Rattle.std.proofs.Common.{◌≡◌, inl, inr, ◌⊎◌, ℕ, ◌+◌, ◌<◌, ◌==◌, ◌&&◌, ◌||◌, true, List, [], length, refl, sym, ◌∙◌, ap, subst, arith, eq-eqb, true≢false}
use Rattle.std.proofs.{lemmas.Bool.{cases_eq, eqb-true, or_cases}, lemmas.List.{get_or_past}}
use Rattle.std.specs.List.{list_any}
use Rattle.mdp_math.proofs.{Numbers.{le_or}, Booleans.{and-left, and-right, and-both, or-true}}
use Rattle.mdp_rows.specs.{Preds.{is_among}, declared.preds.Pred.{Pred}}
use Rattle.mdp_policy_iteration.specs.{Problem.{Problem, count, choices_at}, Reads.{Reads}, Dependents.{depends, is_choice}, DependentsOf.{AreDependentsTo, IsBefore}}
use Rattle.mdp_policy_iteration.proofs.{Collected.{change}, Pushing.{IsPushed}, Among.{all-among}}

-- no choice depends on a node past the end
in_range : (dependents : List (List Pred)) (s c v : ℕ) → depends dependents s c v ≡ true → v < length dependents
in_range dependents s c v h = elim (le_or (length dependents) v) [
  | inl past ↦ absurd (true≢false (sym h ∙ ap (list_any (is_choice s c)) (get_or_past dependents v [] past)))
  | inr l ↦ l
]

is_choice-same : (s c : ℕ) → is_choice s c (change s c) ≡ true
is_choice-same s c = and-both (s == s) (c == c) (eq-eqb s s refl) (eq-eqb c c refl)

module _ (p : Problem) (s c : ℕ) (old new : List (List Pred)) (nodes : List ℕ) (so_far : AreDependentsTo p s c old) (node : s < count p) (choice : c < length (choices_at p s))
    (read : Reads p s c nodes) (pushed : IsPushed old new (change s c) nodes) where
  stays : (t d v : ℕ) → depends old t d v ≡ true → depends new t d v ≡ true
  stays t d v h = pushed.at t d v (in_range old t d v h) ∙ ap (λ b. b || (is_choice t d (change s c) && is_among v nodes)) h

  here : (v : ℕ) → is_among v nodes ≡ true → depends new s c v ≡ true
  here v e =
      let l : v < length old = (let a = all-among (λ t. t < count p) v nodes read.in_range e in let b = so_far.each_node in omega arith) in
      pushed.at s c v l ∙ ap (λ b. depends old s c v || b) (and-both (is_choice s c (change s c)) (is_among v nodes) (is_choice-same s c) e) ∙ or-true (depends old s c v)

  valid : (t d v : ℕ) → depends new t d v ≡ true → (t < count p) × (d < length (choices_at p t))
  valid t d v h =
      let l : v < length old = (let a = in_range new t d v h in let b = pushed.count in omega arith) in
      elim (or_cases (depends old t d v) (is_choice t d (change s c) && is_among v nodes) (sym (pushed.at t d v l) ∙ h)) [
        | inl was ↦ so_far.choices t d v was
        | inr now ↦
            (let is = and-left (is_choice t d (change s c)) (is_among v nodes) now in
            let es = eqb-true s t (and-left (s == t) (c == d) is) in
            let ec = eqb-true c d (and-right (s == t) (c == d) is) in
            (subst (λ t. t < count p) es node, subst (λ t. d < length (choices_at p t)) es (subst (λ d. d < length (choices_at p s)) ec choice)))
      ]

  abbrev IsListed : ℕ → ℕ → Type 0
  IsListed t d = (nodes : List ℕ) × Reads p t d nodes × ((v : ℕ) → is_among v nodes ≡ true → depends new t d v ≡ true)

  pub listed-more : AreDependentsTo p s (c + 1) new
  listed-more = record {
    each_node = pushed.count ∙ so_far.each_node;
    choices = valid;
    complete = λ t d before l. elim (last_before t d before) [
      | inl b ↦ (let r = so_far.complete t d b l in (r.0, r.1, λ v e. stays t d v (r.2 v e)))
      | inr q ↦ subst (λ t. IsListed t d) (sym q.0) (subst (IsListed s) (sym q.1) (nodes, read, here))
    ];
  }
    where
      last_before : (t d : ℕ) → IsBefore s (c + 1) t d → IsBefore s c t d ⊎ ((t ≡ s) × (d ≡ c))
      last_before t d (inl a) = inl (inl a)
      last_before t d (inr b) = elim (cases_eq d c) [
        | inl same ↦ inr (b.0, same)
        | inr other ↦ inl (inr (b.0, (let l = b.1 in omega arith)))
      ]

-- all choices of a node are those of the nodes before the next
pub listed-node : (p : Problem) (s : ℕ) (dependents : List (List Pred)) → AreDependentsTo p s (length (choices_at p s)) dependents → AreDependentsTo p (s + 1) 0 dependents
listed-node p s dependents h = record {
  each_node = h.each_node;
  choices = h.choices;
  complete = λ t d before l. h.complete t d (all_before t d before l) l;
}
  where
    all_before : (t d : ℕ) → IsBefore (s + 1) 0 t d → d < length (choices_at p t) → IsBefore s (length (choices_at p s)) t d
    all_before t d (inl a) l = elim (cases_eq t s) [
      | inl same ↦ inr (same, subst (λ t. d < length (choices_at p t)) same l)
      | inr other ↦ inl (omega arith)
    ]
    all_before t d (inr b) l = (let k = b.1 in absurd (omega arith))
